-- What is ensured of the command that was found is so of each that is asked for: they are one.
use Rattle.std.proofs.Common.{List, ℕ, subst}
use Rattle.ev_app.specs.declared.commands.Command.{Command}
use Rattle.ev_app.specs.declared.status.Status.{Status}
use Rattle.ev_app.specs.Commands.{Asks}
use Rattle.ev_app.specs.Texts.{IsAnswered}
use Rattle.ev_program.specs.Status.{Outside, IsHonest, Ends}
use Rattle.ev_app.proofs.CommandLemmas.{asks_one}

pub ends_asked : (words : List (List ℕ)) (found command : Command) (status : Status) (outside : Outside) → Asks words found → Ends status found outside → Asks words command → Ends status command outside
ends_asked words found command status outside asks ends other = subst (λ (c : Command). Ends status c outside) (asks_one words found command asks other) ends

pub completes_asked : (words : List (List ℕ)) (found command : Command) (status : Status) (outside : Outside) → Asks words found → (IsHonest found outside → IsAnswered found status) → Asks words command → IsHonest command outside → IsAnswered command status
completes_asked words found command status outside asks completes other =
    subst (λ (c : Command). IsHonest c outside → IsAnswered c status) (asks_one words found command asks other) completes
