-- Objects that have a member.
use Rattle.std.proofs.Common.{◌≡◌, refl}
use Rattle.std.specs.Prelude.{◌||◌, not, is_some}
use Rattle.serde_json.specs.Data.{Data, Members, no_members, member}
use Rattle.ev_listener_json.specs.Members.{any_present, has_member}
use Rattle.ev_tree.specs.Floats.{whole}
use Rattle.ev_whole_laws.proofs.Parts.{as_null-whole}
use Rattle.serde_json.specs.Data.{null, boolean, number, string, array, object}
use Rattle.ev_tree.specs.Floats.{whole_members}

some_there : (members : Members) → any_present (whole_members members) ≡ any_present members
some_there no_members = refl
some_there (member name d members) = λ i. not (is_some (as_null-whole d i)) || some_there members i

pub has_member-whole : (tree : Data) → has_member (whole tree) ≡ has_member tree
has_member-whole null = refl
has_member-whole (boolean b) = refl
has_member-whole (number n) = refl
has_member-whole (string s) = refl
has_member-whole (array ds) = refl
has_member-whole (object ms) = some_there ms
