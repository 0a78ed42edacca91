use Rattle.std.specs.List.{AllWithin}
use Rattle.ev_types.specs.Texts.{IsName}
use Rattle.ev_journal.proofs.answers.look_at_names.Given as goal

abbrev pub invariant-loop-name : goal.invariant-loop-name
invariant-loop-name l = AllWithin IsName l.names 0 l.name-index
