-- The versions as a subscription holds them: by kind and name.
use Rattle.std.specs.Prelude.{ℕ, true, if◌then◌else◌, List, ◌∷◌, map}
use Rattle.std.specs.BTreeMap.{is_at}
use Rattle.std.specs.Ordering.{nat_cmp}
use Rattle.std.specs.Cmp.Lexicographic.{slice_cmp}
use Rattle.std.specs.declared.cmp.Ordering.{Ordering}
use Rattle.ev_types.specs.declared.contents.Kind.{Kind}
use Rattle.ev_types.specs.declared.contents.Kind.TheVariants.{Cds, Eds, Lds, Rds, Sds, Ecds}
use Rattle.ev_types.specs.declared.rows.KeptVersion.{KeptVersion}
use Rattle.ev_lookups.specs.declared.kind_keys.Key.{Key}
use Rattle.ev_subscription.specs.declared.versions.Held.{Held}

-- the place of a kind among the kinds
abbrev pub kind_place : Kind → ℕ
kind_place Cds = 0
kind_place Eds = 1
kind_place Lds = 2
kind_place Rds = 3
kind_place Sds = 4
kind_place Ecds = 5

-- a name of a kind as numbers: the place of the kind, then the bytes of the name
abbrev pub key_code : Key → List ℕ
key_code key = kind_place key.kind ∷ key.name

-- keys compare by their kinds, then by the bytes of their names
abbrev pub key_order : Key → Key → Ordering
key_order a b = slice_cmp nat_cmp (key_code a) (key_code b)

-- names of kinds, each with the version that is held
abbrev pub Entries : Type 0
Entries = List (Key × Held)

-- the version of an entry
abbrev pub version_at : Key × Held → KeptVersion
version_at entry = record { kind = entry.0.kind; name = entry.0.name; version = entry.1.version; bounded = entry.1.bounded }

-- the versions of the entries
abbrev pub versions_in : Entries → List KeptVersion
versions_in entries = map version_at entries

-- an entry of this key as bounded, any other as it is
abbrev pub bounded_at : Key → Key × Held → Key × Held
bounded_at key entry = if is_at (key_order key) entry.0 then (entry.0, record entry.1 { bounded = true }) else entry

-- the life of what is held under the key is bounded
abbrev pub bounded_in : Key → Entries → Entries
bounded_in key entries = map (bounded_at key) entries
