use Rattle.std.proofs.Common.{◌≤◌, ℕ, List, filter, length, sym, ap, ◌∙◌, arith}
use Rattle.std.proofs.lemmas.List.{take_all}
use Rattle.ev_types.specs.declared.journals.Format.TheVariants.{Two}
use Rattle.ev_retirement.specs.Pictures.{is_shown_by}
use Rattle.ev_drain.specs.Retired.{dead_of, is_dead_row}
use Rattle.ev_retirement.specs.Asking.{is_dead_now}
use Rattle.ev_retirement.specs.Holders.{HoldersParts}
use Rattle.ev_retirement.proofs.AskLemmas.{dead_asked}
use Rattle.ev_retirement.proofs.DeadLemmas.{all_dead}
use Rattle.ev_retirement.proofs.holders.Holders.dead_asked.Goals as goal

pub returns-clause-dead : goal.returns-clause-dead
returns-clause-dead c =
    let holders : HoldersParts = record { pictures = c.self.inside.pictures; ledger = c.self.inside.ledger; drain = c.self.inside.drain } in
    let numbers : List ℕ = c.as_slice-number-items.result.now in
    let past : length numbers ≤ c.loop-number.number-index = omega arith in
    c.loop-number.invariant.dead
    ∙ ap (filter (is_dead_now c.args.self.now)) (take_all c.loop-number.number-index numbers past ∙ c.as_slice-number-items.ensures.value ∙ c.in_ok-numbers.ensures.numbers)
    ∙ ap (λ (v : HoldersParts). filter (is_dead_now v) c.self.inside.asking.asked.keys) (sym c.self.view_is)
    ∙ all_dead (is_dead_row Two (λ n. is_shown_by n holders.pictures) holders.ledger) c.self.inside.asking.asked holders.drain c.numbers.ensures.ordered c.self.invariant.asked.ordered
    (dead_asked c.self.inside.asking holders c.self.invariant.asked.asked)
    ∙ ap (λ (v : HoldersParts). dead_of Two (λ n. is_shown_by n v.pictures) v.ledger v.drain) c.self.view_is
