use Rattle.std.proofs.Common.{◌≡◌, ◌∙◌, ℕ, List, length, sym, ap, subst, arith}
use Rattle.std.proofs.lemmas.Result.{IfOk-weaker}
use Rattle.ev_expand.specs.Guarding.{Guarded}
use Rattle.ev_expand.specs.Numbers.{guarded_so_far}
use Rattle.ev_tls.specs.declared.awaited.Awaited.{Awaited}
use Rattle.ev_tls.specs.declared.waiting.Waiting.{Waiting}
use Rattle.ev_tls.specs.Known.{AddsAll}
use Rattle.ev_tls.specs.Places.{has_place}
use Rattle.ev_tls.specs.Waiting.{HasBetween, HavePassed, Wakes}
use Rattle.ev_tls.proofs.ProgressLemmas.{goes_on, passed_still}
use Rattle.ev_tls.proofs.waiting.Waiting.go_on.Goals as goal

pub returns-clause-goes : goal.returns-clause-goes
returns-clause-goes c = λ gs was grows.
    let old = c.args.told.now in
    let new = c.add_all.new.self in
    let all : List Guarded = guarded_so_far c.args.numbers.now in
    let heard : List Awaited = c.args.heard.items in
    let before : Waiting = c.args.self.now in
    let mid : Waiting = record { passed = c.take_up.new.passed; under = c.wake.new.under } in
    let woken : List ℕ = c.as_slice-2.result.now in
    let count : c.len.result ≡ length all = c.len.ensures in
    let counted : length mid.passed.items ≡ length all = c.in_ok-woken.ensures.counted (omega (arith, count, was.counted, grows.longer)) ∙ count in
    let adds : AddsAll old new heard = c.in_ok-add_all.ensures in
    let had : HavePassed new all mid.passed.items =
    passed_still old new heard gs all before.passed.items mid.passed.items adds grows was.counted c.in_ok-woken.ensures.passed was.passed in
    let wakes : Wakes heard before.under mid.under woken =
    subst (λ (xs : List ℕ). Wakes heard before.under mid.under xs) (sym c.as_slice-2.ensures.value)
    (subst (λ (xs : List Awaited). Wakes xs before.under mid.under c.wake.new.woken.items) c.as_slice.ensures.value c.in_ok-wake.ensures.wakes) in
    let fresh : HasBetween (length gs) (length all) woken = λ n past within.
    ap (λ (xs : List ℕ). has_place xs n) c.as_slice-2.ensures.value
    ∙ c.in_ok-wake.ensures.kept n (c.in_ok-woken.ensures.taken n (omega (arith, was.counted, past)) (omega (arith, count, within))) in
    IfOk-weaker c.advance_all.result _ _
    (λ finished advances.
    goes_on old new heard gs all before mid c.advance_all.new.self woken finished
    (record { adds = adds; was = was; grows = grows; counted = counted; fresh = fresh; wakes = wakes; advances = advances }))
    (c.advance_all.ensures had)
