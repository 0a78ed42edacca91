use Rattle.std.proofs.Common.{◌<◌, ◌≤◌, ℕ, ◌++◌, ◌∷◌, [], List, length, take, sym, ap, ◌∙◌, subst, arith}
use Rattle.std.proofs.lemmas.List.{take_all, take_more}
use Rattle.ev_retirement.specs.Holders.{HoldsFor, without_generations}
use Rattle.ev_retirement.proofs.ReapLemmas.{none_taken, one_taken}
use Rattle.ev_retirement.proofs.holders.Holders.take_out.Goals as goal

pub loop-number-init : goal.loop-number-init
loop-number-init c world stands = subst (HoldsFor c.args.self.now) (none_taken world) stands

pub loop-number-preserved : goal.loop-number-preserved
loop-number-preserved c world stands =
    let numbers : List ℕ = c.args.numbers.now in
    let at : ℕ = c.loop-number.number-index in
    let number : ℕ = c.number-item.result in
    let below : at < length numbers = omega arith in
    subst (HoldsFor c.remove.new.self)
    (one_taken number (take at numbers) world
    ∙ ap (λ (n : ℕ). without_generations (take at numbers ++ n ∷ []) world) c.number-item.is
    ∙ ap (λ (ns : List ℕ). without_generations ns world) (sym (take_more numbers at number below)))
    (c.remove.ensures.world (without_generations (take at numbers) world) (c.loop-number.invariant world stands))

pub returns : goal.returns
returns c world stands =
    let numbers : List ℕ = c.args.numbers.now in
    let past : length numbers ≤ c.loop-number.number-index = omega arith in
    subst (λ (ns : List ℕ). HoldsFor c.loop-number.self (without_generations ns world)) (take_all c.loop-number.number-index numbers past)
    (c.loop-number.invariant world stands)
