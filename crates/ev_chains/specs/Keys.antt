-- What tells two serving chains apart: the port of a match and one of its server names.
use Rattle.std.specs.Prelude.{ℕ, ◌≡◌, ◌==◌, ◌&&◌, ◌++◌, Bool, true, false, refl, List, [], Option, Some, None, flat_map}
use Rattle.std.specs.Bool.{Decides}
use Rattle.std.specs.Hash as fed
use Rattle.std.specs.Str.{bytes_eq}
use Rattle.std.proofs.Common.{ap}
use Rattle.ev_types.specs.Same.{both_decide, decides_as, bytes_decide, numbers_decide}
use Rattle.ev_chains.specs.declared.keys.ChainKey.{ChainKey}

-- the same port, or none on both sides
abbrev pub port_same : Option ℕ → Option ℕ → Bool
port_same None None = true
port_same (Some a) (Some b) = a == b
port_same a b = false

-- the same name, or none on both sides
abbrev pub name_same : Option (List ℕ) → Option (List ℕ) → Bool
name_same None None = true
name_same (Some a) (Some b) = bytes_eq a b
name_same a b = false

abbrev pub key_same : ChainKey → ChainKey → Bool
key_same a b = port_same a.port b.port && name_same a.name b.name

pub port_decides : (a b : Option ℕ) → Decides (port_same a b) (a ≡ b)
port_decides None None = (λ h. refl, λ e. refl)
port_decides (Some a) (Some b) = decides_as (numbers_decide a b) (λ e. ap Some e) (λ e. cc)
port_decides a b = (λ h. cc, λ e. cc)

pub name_decides : (a b : Option (List ℕ)) → Decides (name_same a b) (a ≡ b)
name_decides None None = (λ h. refl, λ e. refl)
name_decides (Some a) (Some b) = decides_as (bytes_decide a b) (λ e. ap Some e) (λ e. cc)
name_decides a b = (λ h. cc, λ e. cc)

pub key_decides : (a b : ChainKey) → Decides (key_same a b) (a ≡ b)
key_decides a b = decides_as (both_decide (port_decides a.port b.port) (name_decides a.name b.name))
    (λ p. λ i. record { port = p.0 i; name = p.1 i })
    (λ e. (ap (λ (k : ChainKey). k.port) e, ap (λ (k : ChainKey). k.name) e))

-- ---- what a hasher is fed of a key

abbrev pub port_hash_input : Option ℕ → fed.HashWrites
port_hash_input None = []
port_hash_input (Some port) = fed.u16 port

abbrev pub name_hash_input : Option (List ℕ) → fed.HashWrites
name_hash_input None = []
name_hash_input (Some name) = flat_map fed.u8 name

abbrev pub key_hash_input : ChainKey → fed.HashWrites
key_hash_input key = port_hash_input key.port ++ name_hash_input key.name
