use Rattle.std.proofs.Common.{◌∙◌, ◌≡◌, ◌++◌, Some, [], ◌∷◌, cond, ap, sym}
use Rattle.std.specs.Prelude.{option_map}
use Rattle.ev_model.specs.Verdicts.{shares_address}
use Rattle.ev_verdicts.specs.Judged.{MadeKept, names_at}
use Rattle.ev_verdicts.proofs.MadeLemmas.{at_more}
use Rattle.ev_verdicts.proofs.made.Made.with.Goals as goal

pub invariant_of-made : goal.invariant_of-made
invariant_of-made c = λ address.
    c.in_ok-put_at.ensures address
    ∙ (λ i. c.made.invariant address i ++ (cond (shares_address (option_map (λ a. a.now) c.args.address) (Some address)) (c.args.name.now ∷ []) []))
    ∙ sym (at_more c.made.inside.names.entries c.args.name.now (option_map (λ a. a.now) c.args.address) address)
    ∙ sym (ap (names_at address) c.in_ok-put_name.ensures)

pub returns : goal.returns
returns c =
    c.in_ok-put_name.ensures
    ∙ ap (λ (made : MadeKept). made ++ (c.args.name.now, option_map (λ a. a.now) c.args.address) ∷ []) c.made.view_is
    ∙ sym (ap (λ b. cond b c.args.self (c.args.self ++ (c.args.name.now, option_map (λ a. a.now) c.args.address) ∷ [])) (sym c.has.ensures ∙ c.if-has.false))
