use Rattle.std.proofs.Common.{◌∙◌, ap}
use Rattle.std.specs.List.{list_all}
use Rattle.ev_cluster_json.specs.Assignments.{groups_of}
use Rattle.ev_dns.specs.Templates.{group_has_sockets}
use Rattle.ev_dns.proofs.sockets.has_sockets.Goals as goal

pub returns : goal.returns
returns c = c.in_ok-have.ensures ∙ ap (list_all group_has_sockets) (c.in_ok-groups.ensures ∙ ap groups_of c.in_ok-assignment.ensures)
