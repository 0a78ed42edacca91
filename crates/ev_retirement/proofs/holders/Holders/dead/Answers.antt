use Rattle.std.proofs.Common.{sym, ap, ◌∙◌}
use Rattle.std.proofs.lemmas.Result.{IfOk-weaker}
use Rattle.ev_types.specs.declared.journals.Format.TheVariants.{Two}
use Rattle.ev_model.specs.Publishing.{dead_numbers}
use Rattle.ev_drain.proofs.WorldLemmas.{dead_stands}
use Rattle.ev_retirement.specs.Pictures.{is_shown_by}
use Rattle.ev_retirement.proofs.WorldLemmas.{shows_stands}
use Rattle.ev_retirement.proofs.holders.Holders.dead.Goals as goal

pub returns-in-Two-clause-world : goal.returns-in-Two-clause-world
returns-in-Two-clause-world c =
    IfOk-weaker c.dead_asked.result _ _
    (λ dead is world stands. is
    ∙ dead_stands Two (λ n. is_shown_by n c.args.self.now.pictures) c.args.self.now.drain c.args.self.now.ledger world stands.retired stands.opened
    (λ n. shows_stands n c.args.self.now.pictures world stands.pictures)
    ∙ ap (λ f. dead_numbers f world) (sym c.in-Two.is)) c.dead_asked.ensures.dead
