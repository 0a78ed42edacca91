-- The versions that are kept, one for each kind and name. Source:
-- the xDS transport protocol, incremental variant: a client may state the versions that it holds when a stream begins,
-- and a resource may have a time to live, which a heartbeat of the version that is held renews.
-- Whether a resource's life is bounded is a mark of its version: both are removed at once.
use Rattle.std.specs.Prelude.{ℕ, Bool, true, not, ◌&&◌, if◌then◌else◌, List, [], ◌∷◌, filter, map}
use Rattle.std.specs.List.{list_any}
use Rattle.std.specs.Ordering.{nat_cmp, is_lt}
use Rattle.std.specs.Str.{bytes_eq}
use Rattle.std.specs.Cmp.Lexicographic.{slice_cmp}
use Rattle.ev_types.specs.declared.contents.Kind.{Kind}
use Rattle.ev_types.specs.declared.rows.KeptVersion.{KeptVersion}
use Rattle.ev_types.specs.Kinds.{kind_same}

-- the version is that of this kind and name
abbrev pub is_version_of : Kind → List ℕ → KeptVersion → Bool
is_version_of kind name kept = kind_same kept.kind kind && bytes_eq kept.name name

-- the first text comes before the second in the order of their bytes
abbrev pub is_before : List ℕ → List ℕ → Bool
is_before a b = is_lt (slice_cmp nat_cmp a b)

-- the versions with this one: in place of the one that was kept for its kind and name, or among them by name
abbrev pub with_version : KeptVersion → List KeptVersion → List KeptVersion
with_version new [] = new ∷ []
with_version new (kept ∷ others) =
    if is_version_of new.kind new.name kept then new ∷ others
    else (if is_before new.name kept.name then new ∷ kept ∷ others else kept ∷ with_version new others)

-- this version is kept for the kind and name
abbrev pub is_kept : List KeptVersion → Kind → List ℕ → List ℕ → Bool
is_kept versions kind name version = list_any (λ (kept : KeptVersion). is_version_of kind name kept && bytes_eq kept.version version) versions

-- the life of the resource of this kind and name is bounded
abbrev pub is_bounded : List KeptVersion → Kind → List ℕ → Bool
is_bounded versions kind name = list_any (λ (kept : KeptVersion). is_version_of kind name kept && kept.bounded) versions

-- a version of this kind and name as bounded, any other as it is
abbrev pub bounded_as : Kind → List ℕ → KeptVersion → KeptVersion
bounded_as kind name kept = if is_version_of kind name kept then record kept { bounded = true } else kept

-- the versions with the life of this resource bounded anew
abbrev pub renewed : Kind → List ℕ → List KeptVersion → List KeptVersion
renewed kind name versions = map (bounded_as kind name) versions

-- the versions without that of this kind and name
abbrev pub without_version : Kind → List ℕ → List KeptVersion → List KeptVersion
without_version kind name versions = filter (λ (kept : KeptVersion). not (is_version_of kind name kept)) versions

-- each name of this kind with its version, sorted by name
abbrev pub versions_of : Kind → List KeptVersion → List (List ℕ × List ℕ)
versions_of kind versions = map (λ (kept : KeptVersion). (kept.name, kept.version)) (filter (λ (kept : KeptVersion). kind_same kept.kind kind) versions)
