use Rattle.std.proofs.Common.{◌≡◌, take}
use Rattle.ev_model.specs.Choice.{domains_of}
use Rattle.ev_routes.proofs.domain_lists.domains_of.Given as goal

abbrev pub invariant-loop-place : goal.invariant-loop-place
invariant-loop-place l = l.domains ≡ domains_of (record { hosts = take l.place l.table.hosts })
