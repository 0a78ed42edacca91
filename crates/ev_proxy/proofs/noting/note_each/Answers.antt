use Rattle.std.proofs.Common.{◌≡◌, ◌<◌, ℕ, ◌++◌, ◌∷◌, [], List, length, take, sym, ap, ◌∙◌, arith}
use Rattle.std.proofs.lemmas.List.{take_more}
use Rattle.ev_drain.specs.Retired.{Retired}
use Rattle.ev_retirement.specs.Holders.{HoldersParts}
use Rattle.ev_proxy.specs.Proxies.{noted_each, noted_over}
use Rattle.ev_proxy.proofs.NotingLemmas.{each_more}
use Rattle.ev_proxy.proofs.noting.note_each.Goals as goal

pub loop-number-preserved : goal.loop-number-preserved
loop-number-preserved c world stands =
    let numbers : List ℕ = c.args.numbers.now in
    let at : ℕ = c.loop-number.number-index in
    let number : ℕ = c.number-item.result in
    let below : at < length numbers = omega arith in
    let old : HoldersParts = c.args.holders.now in
    let here : c.loop-number.holders ≡ record old { drain = noted_each world.rows (take at numbers) old.drain } = c.loop-number.invariant world stands in
    c.in_ok-note_row.ensures
    ∙ (λ i. record (here i) { drain = noted_over (here i).drain (c.row.ensures world stands i) })
    ∙ ap (λ (drain : List Retired). record old { drain = drain })
    (each_more world.rows (take at numbers) number old.drain
    ∙ ap (λ (n : ℕ). noted_each world.rows (take at numbers ++ n ∷ []) old.drain) c.number-item.is
    ∙ ap (λ (ns : List ℕ). noted_each world.rows ns old.drain) (sym (take_more numbers at number below)))
