use Rattle.std.proofs.Common.{◌∙◌, Bool, cond, sym, subst}
use Rattle.ev_indexes.specs.Worlds.{HasRows}
use Rattle.ev_warming.specs.Worlds.{with_names_absent}
use Rattle.ev_warming.proofs.IndexLemmas.{on_ok}
use Rattle.ev_warming.proofs.manager.Manager.tell_removals.Goals as goal

pub returns-then-is-clause-stands : goal.returns-then-is-clause-stands
returns-then-is-clause-stands g c = λ world stands.
    subst (λ (b : Bool). HasRows c.args.self.now.state (cond b world (with_names_absent c.args.kind c.args.mentions.now world))) (sym (sym c.is.ensures ∙ c.if-is.true)) stands

pub returns-clause-stands : goal.returns-clause-stands
returns-clause-stands g c =
    on_ok c.tell_absences.result c.tell_absences.ensures.stands (λ step world stands.
    subst (λ (b : Bool). HasRows c.tell_absences.new.self.state (cond b world (with_names_absent c.args.kind c.args.mentions.now world))) (sym (sym c.is.ensures ∙ c.if-is.false)) (step world stands))
