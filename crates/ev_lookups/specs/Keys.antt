-- Names of kinds, as keys: two kinds may have one name.
use Rattle.std.specs.Prelude.{◌≡◌, ℕ, Bool, ◌&&◌, List}
use Rattle.std.specs.Bool.{Decides}
use Rattle.std.specs.Hash as fed
use Rattle.std.specs.Str.{bytes_eq}
use Rattle.std.proofs.Common.{ap}
use Rattle.ev_types.specs.declared.contents.Kind.{Kind}
use Rattle.ev_types.specs.Kinds.{kind_same, kind_decides}
use Rattle.ev_types.specs.Same.{both_decide, decides_as, bytes_decide}
use Rattle.ev_lookups.specs.declared.kind_keys.Key.{Key}

-- the name of this kind
abbrev pub named : Kind → List ℕ → Key
named kind name = record { kind = kind; name = name }

-- the same kind and name
abbrev pub key_same : Key → Key → Bool
key_same a b = kind_same a.kind b.kind && bytes_eq a.name b.name

-- what a hasher is fed of a key: its name, since few names are of two kinds
abbrev pub key_hash_input : Key → fed.HashWrites
key_hash_input key = fed.str key.name

-- the test holds of equal keys alone
pub key_decides : (a b : Key) → Decides (key_same a b) (a ≡ b)
key_decides a b = decides_as (both_decide (kind_decides a.kind b.kind) (bytes_decide a.name b.name))
    (λ (p, q). λ i. record { kind = p i; name = q i })
    (λ e. (ap (λ (k : Key). k.kind) e, ap (λ (k : Key). k.name) e))
