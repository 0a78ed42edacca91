-- Values that are kept by names of kinds.
use Rattle.std.specs.Prelude.{◌≡◌, ◌≢◌, if◌then◌else◌, List, Some, unwrap_or}
use Rattle.std.specs.Map.{lookup}
use Rattle.ev_lookups.specs.Keys.{key_same}
use Rattle.ev_lookups.specs.declared.kind_keys.Key.{Key}

-- the value of a name, or the default where none is kept
abbrev pub kept_at : {V : Type 0} → V → List (Key × V) → Key → V
kept_at default kept key = unwrap_or (lookup (key_same key) kept) default

-- the name has this value, and every other name its old one
abbrev pub Sets : {V : Type 0} → V → List (Key × V) → List (Key × V) → Key → V → Type 0
Sets default old new key value = (other : Key) → kept_at default new other ≡ (if key_same key other then value else kept_at default old other)

-- no name is kept with the default: where nothing is known of a name, it has no entry
abbrev pub HasNoDefault : {V : Type 0} → V → List (Key × V) → Type 0
HasNoDefault default kept = (key : Key) → lookup (key_same key) kept ≢ Some default
