use Rattle.ev_actors.specs.Journals.{world_behind, world_now}
use Rattle.ev_registry.specs.Pasts.{parts_of}
use Rattle.ev_registry.proofs.journal.RegistryJournaled.apply_batch.Given as goal

abbrev pub ghost-settle_after : goal.ghost-settle_after
ghost-settle_after a = (world_now (parts_of a.past), world_behind a.worker.now (parts_of a.past))
