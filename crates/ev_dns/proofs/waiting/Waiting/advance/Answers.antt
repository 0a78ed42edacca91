use Rattle.std.proofs.Common.{◌≡◌, ◌≤◌, ℕ, List, length, true, false, Option, Some, IfSome, get_or, take, sym, ap, ◌∙◌, subst}
use Rattle.std.specs.Prelude.{slice_get}
use Rattle.std.specs.List.{list_all}
use Rattle.std.proofs.lemmas.Result.{on_ok_weaker}
use Rattle.ev_trees.specs.Kept.{kept_shown}
use Rattle.ev_types.specs.Hosts.{HostRowParts}
use Rattle.ev_expand.specs.Guarding.{Guarded}
use Rattle.ev_expand.specs.Numbers.{guarded_so_far}
use Rattle.ev_dns.specs.Known.{Enters, has_row}
use Rattle.ev_dns.specs.Templates.{template_rows}
use Rattle.ev_dns.specs.Waiting.{HavePassed}
use Rattle.ev_dns.proofs.WaitingLemmas.{at_get, passed_set, advances_waiting, advances_finished}
use Rattle.ev_dns.proofs.waiting.Waiting.advance.Goals as goal

pub returns-in-Some-get-clause-passed : goal.returns-in-Some-get-clause-passed
returns-in-Some-get-clause-passed c = λ had.
    let g : Guarded = record { key = c.in-Some.key.now; own = kept_shown c.in-Some.field-0-1.now } in
    let at : slice_get (guarded_so_far c.args.numbers.now) c.args.place ≡ Some g = sym c.in-Some.ensures in
    let rows : c.rows_of-rows.result.now ≡ template_rows g.key = c.rows_of-rows.ensures in
    let from : c.passed_at.result ≡ get_or c.args.self.now.passed.items c.args.place 0 = c.passed_at.ensures ∙ ap (λ (xs : List ℕ). get_or xs c.args.place 0) c.as_slice.ensures.value in
    let passes : list_all (has_row c.args.answers.now) (take c.first_unanswered-count.result (template_rows g.key)) ≡ true =
    ap (λ (rs : List HostRowParts). list_all (has_row c.args.answers.now) (take c.first_unanswered-count.result rs)) (sym rows)
    ∙ c.first_unanswered-count.ensures.passed ((λ i. list_all (has_row c.args.answers.now) (take (from i) (rows i))) ∙ had c.args.place g at) in
    on_ok_weaker c.put.result
    (λ _. subst (HavePassed c.args.answers.now (guarded_so_far c.args.numbers.now)) (sym c.set_passed.ensures)
    (passed_set c.args.answers.now (guarded_so_far c.args.numbers.now) c.args.place c.first_unanswered-count.result g c.args.self.now.passed.items at passes had))
    c.put.ensures

pub returns-in-Some-get-clause-advances : goal.returns-in-Some-get-clause-advances
returns-in-Some-get-clause-advances c = λ had.
    let g : Guarded = record { key = c.in-Some.key.now; own = kept_shown c.in-Some.field-0-1.now } in
    let at : slice_get (guarded_so_far c.args.numbers.now) c.args.place ≡ Some g = sym c.in-Some.ensures in
    let rows : c.rows_of-rows.result.now ≡ template_rows g.key = c.rows_of-rows.ensures in
    let there : slice_get c.rows_of-rows.result.now c.first_unanswered-count.result ≡ Some c.in-Some-get.row.now =
    at_get c.rows_of-rows.result.now c.first_unanswered-count.result c.in-Some-get.row.now c.in-Some-get.ensures.lookup.3.0 c.in-Some-get.ensures.lookup.1 in
    let lacks : has_row c.args.answers.now c.in-Some-get.row.now ≡ false =
    subst (λ (o : Option HostRowParts). IfSome o (λ (r : HostRowParts). has_row c.args.answers.now r ≡ false)) there c.first_unanswered-count.ensures.next in
    on_ok_weaker c.put.result
    (λ enters. advances_waiting c.args.answers.now (guarded_so_far c.args.numbers.now) c.args.place c.first_unanswered-count.result g c.in-Some-get.row.now c.args.self.now.under c.put.new.self c.args.finished.now.items at
    (ap (λ (rs : List HostRowParts). slice_get rs c.first_unanswered-count.result) (sym rows) ∙ there) lacks
    (subst (λ (r : HostRowParts). Enters c.args.self.now.under c.put.new.self r.host.address c.args.place) c.row.view_is enters))
    c.put.ensures

pub returns-in-None-clause-advances : goal.returns-in-None-clause-advances
returns-in-None-clause-advances c = λ had.
    let g : Guarded = record { key = c.in-Some.key.now; own = kept_shown c.in-Some.field-0-1.now } in
    let at : slice_get (guarded_so_far c.args.numbers.now) c.args.place ≡ Some g = sym c.in-Some.ensures in
    let rows : c.rows_of-rows.result.now ≡ template_rows g.key = c.rows_of-rows.ensures in
    let from : c.passed_at.result ≡ get_or c.args.self.now.passed.items c.args.place 0 = c.passed_at.ensures ∙ ap (λ (xs : List ℕ). get_or xs c.args.place 0) c.as_slice.ensures.value in
    let passes : list_all (has_row c.args.answers.now) (take c.first_unanswered-count.result (template_rows g.key)) ≡ true =
    ap (λ (rs : List HostRowParts). list_all (has_row c.args.answers.now) (take c.first_unanswered-count.result rs)) (sym rows)
    ∙ c.first_unanswered-count.ensures.passed ((λ i. list_all (has_row c.args.answers.now) (take (from i) (rows i))) ∙ had c.args.place g at) in
    let past : length (template_rows g.key) ≤ c.first_unanswered-count.result =
    subst (λ (rs : List HostRowParts). length rs ≤ c.first_unanswered-count.result) rows c.in-None.ensures.lookup.3 in
    on_ok_weaker c.push_place.result
    (advances_finished c.args.answers.now (guarded_so_far c.args.numbers.now) c.args.place c.first_unanswered-count.result g c.args.self.now.under c.args.finished.now.items c.push_place.new.places.items at past passes)
    c.push_place.ensures
