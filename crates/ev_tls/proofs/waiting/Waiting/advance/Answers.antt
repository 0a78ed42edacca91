use Rattle.std.proofs.Common.{◌≡◌, List, take, get_or, length, Some, refl, sym, ap, ◌∙◌, subst}
use Rattle.std.proofs.Math.ListN.{length-set}
use Rattle.std.specs.Prelude.{slice_get}
use Rattle.std.proofs.lemmas.Result.{on_ok_weaker}
use Rattle.ev_trees.specs.Kept.{kept_shown}
use Rattle.ev_expand.specs.Guarding.{Guarded}
use Rattle.ev_expand.specs.Numbers.{guarded_so_far}
use Rattle.ev_tls.specs.Known.{are_told, first_told}
use Rattle.ev_tls.specs.Waiting.{HavePassed}
use Rattle.ev_tls.proofs.WaitingLemmas.{passed_set, advances_waiting, advances_finished}
use Rattle.ev_tls.proofs.waiting.Waiting.advance.Goals as goal

pub returns-in-Some-2 : goal.returns-in-Some-2
returns-in-Some-2 c = λ had.
    let gs : List Guarded = guarded_so_far c.args.numbers.now in
    let g : Guarded = record { key = c.in-Some.key.now; own = kept_shown c.in-Some.field-0-1.now } in
    let at : slice_get gs c.args.place ≡ Some g = sym c.in-Some.ensures in
    let names = c.as_slice.ensures.elements in
    let is : c.count_on-passed.result ≡ first_told c.args.told.now c.in-Some.key.now.names =
    c.count_on-passed.ensures.counted ((λ i. are_told c.args.told.now (take (get_or c.args.self.now.passed.items c.args.place 0) (names i))) ∙ had c.args.place g at)
    ∙ ap (first_told c.args.told.now) names in
    let counted = ap length c.count_on-passed.ensures.set ∙ length-set c.args.self.now.passed.items c.args.place c.count_on-passed.result in
    let passed = subst (HavePassed c.args.told.now gs) (sym c.count_on-passed.ensures.set)
    (passed_set c.args.told.now gs c.args.place c.count_on-passed.result g c.args.self.now.passed.items at is had) in
    on_ok_weaker c.put.result
    (λ enters. advances_waiting c.args.told.now gs c.args.place g c.in-Some-2.awaited c.args.self.now _ c.args.finished.now at (sym (c.in_ok-awaited.ensures is) ∙ c.in-Some-2.is) enters counted passed)
    c.put.ensures

pub returns-in-None : goal.returns-in-None
returns-in-None c = λ had.
    let gs : List Guarded = guarded_so_far c.args.numbers.now in
    let g : Guarded = record { key = c.in-Some.key.now; own = kept_shown c.in-Some.field-0-1.now } in
    let at : slice_get gs c.args.place ≡ Some g = sym c.in-Some.ensures in
    let names = c.as_slice.ensures.elements in
    let is : c.count_on-passed.result ≡ first_told c.args.told.now c.in-Some.key.now.names =
    c.count_on-passed.ensures.counted ((λ i. are_told c.args.told.now (take (get_or c.args.self.now.passed.items c.args.place 0) (names i))) ∙ had c.args.place g at)
    ∙ ap (first_told c.args.told.now) names in
    let counted = ap length c.count_on-passed.ensures.set ∙ length-set c.args.self.now.passed.items c.args.place c.count_on-passed.result in
    let passed = subst (HavePassed c.args.told.now gs) (sym c.count_on-passed.ensures.set)
    (passed_set c.args.told.now gs c.args.place c.count_on-passed.result g c.args.self.now.passed.items at is had) in
    on_ok_weaker c.insert_place.result
    (λ put. advances_finished c.args.told.now gs c.args.place g c.args.self.now _ c.args.finished.now _ at (sym (c.in_ok-awaited.ensures is) ∙ c.in-None.is) refl counted passed put)
    c.insert_place.ensures
