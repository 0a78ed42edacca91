use Rattle.std.proofs.Common.{◌≡◌, ◌∙◌, ◌||◌, true, option_to_list, [], ◌∷◌, IfNone, sym, ap, subst, length, length-append, arith}
use Rattle.std.proofs.Math.Bool.{or-false}
use Rattle.ev_types.specs.declared.rows.RowStatus.TheVariants.{Active}
use Rattle.ev_model.specs.Rows.{with_statuses}
use Rattle.ev_indexes.specs.Tables.{row_in, with_status}
use Rattle.ev_indexes.specs.Due.{is_one_of}
use Rattle.ev_indexes.specs.Standings.{standing_in}
use Rattle.ev_indexes.specs.Ready.{is_ready_in, is_due_found}
use Rattle.ev_indexes.specs.Indexes.{key_in, key_of_row}
use Rattle.ev_warming.specs.Promotion.{rows_promoted, status_drained}
use Rattle.ev_warming.specs.Changes.{began_to_drain}
use Rattle.ev_warming.proofs.DrainLemmas.{due-found, drained-one, drained-more, drained-done}
use Rattle.ev_warming.proofs.ServingLemmas.{due-began}
use Rattle.ev_warming.proofs.WayLemmas.{ready-same, marks-then, promoted-done, served-more}
use Rattle.ev_warming.proofs.PromotedLemmas.{promoted-stands}
use Rattle.ev_warming.proofs.changes.promote.Goals as goal

pub loop-number-preserved : goal.loop-number-preserved
loop-number-preserved g c =
    let i = c.loop-number.invariant in
    let s0 = c.args.state.now in
    let s = c.loop-number.state in
    let t = c.promote_one-before.new.state in
    let e = c.promote_one-before.ensures in
    let same : is_ready_in s.watches s.results ≡ is_ready_in s0.watches s0.results =
    (λ j. is_ready_in s.watches (i.results j)) ∙ ready-same s0.watches s.watches s0.results i.marks in
    record {
      indexed = e.indexed;
      rows = (λ j. rows_promoted (sym same j) t.table.rows) ∙ e.rows ∙ (λ j. rows_promoted (same j) s.table.rows) ∙ i.rows;
      made = e.made ∙ i.made;
      marks = marks-then s0.watches s.watches t.watches i.marks e.marks;
      results = (λ j. (e.others j).results) ∙ i.results;
      served = λ n.
          (λ j. is_one_of (c.in_ok-push.ensures.ok j) n || is_one_of t.due n)
          ∙ served-more c.loop-number.served s.due t.due c.in-Some.number n c.in-Some.ensures.some (e.due n) ∙ i.served n;
      drained = λ n.
          let due : is_due_found s.watches s.results (row_in c.in-Some.number s.table.rows) ≡ true = sym (i.indexed.due c.in-Some.number) ∙ c.in-Some.ensures.some in
          let own = due-found s.watches s.results (row_in c.in-Some.number s.table.rows) due in
          let all = rows_promoted (is_ready_in s0.watches s0.results) s0.table.rows in
          (λ j. is_one_of (c.in_ok-put_one.ensures j) n || began_to_drain n t.table.rows all)
          ∙ drained-more c.loop-number.drained c.promote_one-before.result n (began_to_drain n t.table.rows all) (began_to_drain n s.table.rows all) (began_to_drain n s0.table.rows all)
          (drained-one (is_ready_in s0.watches s0.results) s.table.rows t.table.rows all c.in-Some.number own.0 c.promote_one-before.result
          i.indexed.table.apart own.1 own.2 ((λ j. sym same j own.0) ∙ own.3)
          ((λ j. option_to_list (e.before j)) ∙ (λ j. option_to_list (standing_in s.names (key_in (own.1 j))).active) ∙ i.indexed.active (key_of_row own.0))
          (e.changed ∙ (λ j. with_status c.in-Some.number Active (with_statuses (status_drained (key_in (own.1 j))) s.table.rows)))
          i.rows ((λ j. rows_promoted (sym same j) t.table.rows) ∙ e.rows ∙ (λ j. rows_promoted (same j) s.table.rows) ∙ i.rows) n)
          (i.drained n);
      steps = omega (arith, i.steps, e.steps, ap length c.in_ok-push.ensures.ok, length-append c.loop-number.served (c.in-Some.number ∷ []));
    }

pub returns-clause-rows : goal.returns-clause-rows
returns-clause-rows g c =
    let i = c.loop-number.invariant in
    let s0 = c.args.state.now in
    let s = c.loop-number.state in
    let same : is_ready_in s.watches s.results ≡ is_ready_in s0.watches s0.results =
    (λ j. is_ready_in s.watches (i.results j)) ∙ ready-same s0.watches s.watches s0.results i.marks in
    let none : s.due ≡ [] = subst (λ o. IfNone o (s.due ≡ [])) c.in_default.is c.first.ensures.none in
    sym (promoted-done s i.indexed none) ∙ (λ j. rows_promoted (same j) s.table.rows) ∙ i.rows

pub returns-clause-began : goal.returns-clause-began
returns-clause-began g c =
    let i = c.loop-number.invariant in
    let s0 = c.args.state.now in
    let s = c.loop-number.state in
    let none : s.due ≡ [] = subst (λ o. IfNone o (s.due ≡ [])) c.in_default.is c.first.ensures.none in
    λ n.
    sym ((λ j. is_one_of c.loop-number.served n || is_one_of (none j) n) ∙ or-false (is_one_of c.loop-number.served n)) ∙ i.served n ∙ c.requires.indexed.due n
    ∙ due-began s0.watches s0.results s0.table.rows s.table.rows (returns-clause-rows g c) n

pub returns-clause-drained : goal.returns-clause-drained
returns-clause-drained g c =
    let i = c.loop-number.invariant in
    let s0 = c.args.state.now in
    let s = c.loop-number.state in
    let same : is_ready_in s.watches s.results ≡ is_ready_in s0.watches s0.results =
    (λ j. is_ready_in s.watches (i.results j)) ∙ ready-same s0.watches s.watches s0.results i.marks in
    let none : s.due ≡ [] = subst (λ o. IfNone o (s.due ≡ [])) c.in_default.is c.first.ensures.none in
    let all = rows_promoted (is_ready_in s0.watches s0.results) s0.table.rows in
    let done : s.table.rows ≡ all = sym (promoted-done s i.indexed none) ∙ (λ j. rows_promoted (same j) s.table.rows) ∙ i.rows in
    λ n.
    sym ((λ j. is_one_of c.loop-number.drained n || ((λ k. began_to_drain n s.table.rows (sym done k)) ∙ drained-done n s.table.rows) j) ∙ or-false (is_one_of c.loop-number.drained n)) ∙ i.drained n
    ∙ (λ j. began_to_drain n s0.table.rows (sym done j))

pub returns-clause-stands : goal.returns-clause-stands
returns-clause-stands g c =
    let i = c.loop-number.invariant in
    let s0 = c.args.state.now in
    let s = c.loop-number.state in
    let same : is_ready_in s.watches s.results ≡ is_ready_in s0.watches s0.results =
    (λ j. is_ready_in s.watches (i.results j)) ∙ ready-same s0.watches s.watches s0.results i.marks in
    let none : s.due ≡ [] = subst (λ o. IfNone o (s.due ≡ [])) c.in_default.is c.first.ensures.none in
    λ world stands.
    promoted-stands s0 s world c.requires.indexed stands i.made i.results i.marks
    (sym (promoted-done s i.indexed none) ∙ (λ j. rows_promoted (same j) s.table.rows) ∙ i.rows)
