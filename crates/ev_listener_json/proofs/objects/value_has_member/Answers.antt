use Rattle.std.proofs.Common.{◌∙◌, ap}
use Rattle.ev_listener_json.specs.Members.{some_present}
use Rattle.ev_listener_json.proofs.Present.{any_present-view}
use Rattle.ev_listener_json.proofs.objects.value_has_member.Goals as goal

pub returns-in-Some : goal.returns-in-Some
returns-in-Some c = c.any_present.ensures ∙ any_present-view c.in-Some.members.now.entries ∙ ap some_present c.in-Some.ensures
