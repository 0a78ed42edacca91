use Rattle.std.proofs.Common.{◌≡◌, drop}
use Rattle.serde_json.specs.Data.{no_members}
use Rattle.serde_json.specs.View.{members_view}
use Rattle.ev_wire.specs.Requests.{version_members}
use Rattle.ev_wire.proofs.requests.version_values.Given as goal

abbrev pub invariant-loop-name : goal.invariant-loop-name
invariant-loop-name l = version_members (drop l.name-index l.versions) (members_view l.held.entries) ≡ version_members l.versions no_members
