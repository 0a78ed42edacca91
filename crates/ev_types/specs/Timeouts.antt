-- Initial fetch timeouts.
use Rattle.std.specs.Prelude.{ℕ, ◌≡◌, List, Option, is_some}
use Rattle.ev_types.specs.declared.contents.Kind.{Kind}
use Rattle.ev_types.specs.Kinds.{is_by_name}

-- which initial fetch timeout has passed
pub record TimeoutParts : Type 0 where
  pub kind : Kind
  pub name : Option (List ℕ)

-- it has a name exactly where the kind is asked for by name
abbrev pub IsTimeout : Kind → Option (List ℕ) → Type 0
IsTimeout kind name = is_some name ≡ is_by_name kind
