-- A filter chain's match, and the rules that it breaks.
use Rattle.std.specs.Prelude.{ℕ, ◌||◌, ◌&&◌, List, map, Bool, false, not, nat_le, if◌then◌else◌, Option, Some, None, codes}
use Rattle.std.specs.Str.{bytes_eq}
use Rattle.serde_json.specs.Data.{Data, Members, no_members, member}
use Rattle.serde_json.specs.Find.{as_object}
use Rattle.ev_tree.specs.declared.broken.BrokenRules.{BrokenRules}
use Rattle.ev_tree.specs.declared.limits.TheConstants.{MAX_PORT}
use Rattle.ev_tree.specs.declared.outcome.Found.{Found}
use Rattle.ev_tree.specs.declared.outcome.Found.TheVariants.{Absent, Wrong, Given}
use Rattle.ev_tree.specs.Forms.{is_wrong, listed, text_in, number_of, texts_of}
use Rattle.ev_tree.specs.Broken.{none_broken}
use Rattle.ev_listener_json.specs.Members.{is_present}
use Rattle.ev_listener_json.specs.ServerNames.{has_no_name}
use Rattle.ev_chains.specs.declared.matches.ChainMatch.{ChainMatch}

-- ---- members that are not read

-- the two members of a match that are read, in either spelling
abbrev pub is_known : List ℕ → Bool
is_known name =
    bytes_eq name (codes "destination_port") || bytes_eq name (codes "destinationPort")
    || bytes_eq name (codes "server_names") || bytes_eq name (codes "serverNames")

-- one of these isn't null, and isn't one of those two
abbrev pub any_other : Members → Bool
any_other no_members = false
any_other (member name d members) = (is_present d && not (is_known name)) || any_other members

abbrev pub some_other : Option Members → Bool
some_other None = false
some_other (Some members) = any_other members

-- an object with a member that isn't read
abbrev pub has_other : Data → Bool
has_other d = some_other (as_object d)

-- ---- the parts of a match

-- a port is at most 65535
abbrev pub port_in : Found ℕ → Option ℕ
port_in Absent = None
port_in Wrong = None
port_in (Given n) = if nat_le n MAX_PORT then Some n else None

abbrev pub is_above : Found ℕ → Bool
is_above Absent = false
is_above Wrong = false
is_above (Given n) = not (nat_le n MAX_PORT)

abbrev pub names_in : Data → List (List ℕ)
names_in tree = map text_in (listed (texts_of (codes "server_names") tree))

-- the match: a port or none, and server names
unfoldable pub match_read : Data → ChainMatch
match_read tree = record { port = port_in (number_of (codes "destination_port") tree); names = names_in tree }

-- What a match breaks. V6: a wrong form, or a port that is too great. V16:
-- a member that isn't read. V27: a server name that isn't one.
unfoldable pub match_broken : Data → BrokenRules
match_broken tree = record none_broken {
  v6 =
      is_wrong (number_of (codes "destination_port") tree)
      || is_above (number_of (codes "destination_port") tree)
      || is_wrong (texts_of (codes "server_names") tree);
  v16 = has_other tree;
  v27 = has_no_name (names_in tree);
}
