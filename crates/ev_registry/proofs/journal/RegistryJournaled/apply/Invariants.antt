use Rattle.ev_actors.specs.Journals.{world_now}
use Rattle.ev_registry.specs.Pasts.{parts_of}
use Rattle.ev_registry.proofs.journal.RegistryJournaled.apply.Given as goal

abbrev pub ghost-step_after : goal.ghost-step_after
ghost-step_after a = world_now (parts_of a.past)
