use Rattle.std.proofs.Common.{◌∙◌, ap, List, ℕ}
use Rattle.std.specs.Map.{lookup}
use Rattle.std.specs.Option.{is_some}
use Rattle.std.specs.Str.{bytes_eq}
use Rattle.ev_verdicts.specs.Judged.{MadeKept, is_made}
use Rattle.ev_verdicts.proofs.MadeLemmas.{found_made}
use Rattle.ev_verdicts.proofs.made.Made.has.Goals as goal

pub returns : goal.returns
returns c =
    c.contains_key.ensures
    ∙ ap (λ (q : List ℕ). is_some (lookup (bytes_eq q) c.self.inside.names.entries)) c.new.ensures
    ∙ found_made c.args.name.now c.self.inside.names.entries
    ∙ ap (λ (m : MadeKept). is_made m c.args.name.now) c.self.view_is
