-- The header: the first line of a script.
use Rattle.std.specs.Prelude.{List, ℕ, ◌≤◌, [], ◌∷◌, false, if◌then◌else◌, codes, Option, None, Some, option_map, option_and_then}
use Rattle.std.specs.Str.{bytes_eq}
use Rattle.serde_json.specs.Data.{Data}
use Rattle.serde_json.specs.Find.{as_bool, as_str}
use Rattle.ev_types.specs.declared.events.Profile.{Profile}
use Rattle.ev_types.specs.declared.events.Profile.TheVariants.{Own, Envoy}
use Rattle.ev_types.specs.declared.limits.TheConstants.{MAX_WORKERS}
use Rattle.ev_types.specs.Texts.{IsName}
use Rattle.ev_script.specs.declared.forms.Settings.{Settings}
use Rattle.ev_script.specs.declared.header.Header.{Header}
use Rattle.ev_script.specs.Members.{has_only, whole_within, name_of, member_of, member_or}

-- a profile, by its word
abbrev pub profile_with : List ℕ → Option Profile
profile_with word = if bytes_eq word (codes "envoy") then Some Envoy else None

-- the profile that a value names
abbrev pub profile_of : Data → Option Profile
profile_of tree = option_and_then profile_with (as_str tree)

-- `workers` is 1 to 16; `auto` is a boolean, false where it isn't given;
-- `profile` is the text `envoy`, and where it isn't given the profile is the project's own;
-- `node` is a text of 1 to 512 bytes, `warmgate` where it isn't given. There is no other member.
abbrev pub header_of : Data → Option Header
header_of tree =
    if has_only (codes "workers" ∷ codes "auto" ∷ codes "node" ∷ codes "profile" ∷ []) tree
    then option_and_then
    (λ workers. option_and_then
    (λ auto. option_and_then
    (λ profile. option_map
    (λ node. record { workers = workers; auto = auto; profile = profile; node = node })
    (member_or (codes "warmgate") name_of (codes "node") tree))
    (member_or Own profile_of (codes "profile") tree))
    (member_or false as_bool (codes "auto") tree))
    (member_of (whole_within 1 MAX_WORKERS) (codes "workers") tree)
    else None

-- what a header sets for the lines after it
abbrev pub settings_of : Header → Settings
settings_of header = record { workers = header.workers; profile = header.profile }

-- what every header keeps
pub record IsHeader (header : Header) : Type 0 where
  pub some_worker : 1 ≤ header.workers
  pub few_workers : header.workers ≤ MAX_WORKERS
  pub named : IsName header.node
