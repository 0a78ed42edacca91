use Rattle.std.proofs.Common.{◌≡◌, ◌∙◌, ◌&&◌, nat_eq, None, is_some, [], cond, sym, subst, arith}
use Rattle.std.proofs.lemmas.List.{take_all}
use Rattle.ev_model.specs.Tidy.{without_unwatched, without_old_results}
use Rattle.ev_indexes.specs.KeptEndpoints.{marked_in, result_in}
use Rattle.ev_indexes.specs.Tables.{row_in}
use Rattle.ev_indexes.specs.declared.state.State.{State}
use Rattle.ev_indexes.specs.Due.{is_one_of}
use Rattle.ev_indexes.specs.Watched.{unwatched, watch_in}
use Rattle.ev_indexes.specs.Worlds.{HasRows}
use Rattle.ev_indexes.specs.Needs.{is_needed}
use Rattle.ev_warming.specs.Forgetting.{needs_in, is_need_of, is_idle, loses_result, IsTidyBut}
use Rattle.ev_warming.proofs.ForgettingLemmas.{watch-more, result-more, mark-more, tidy-forgot}
use Rattle.ev_warming.proofs.ForgottenLemmas.{forgot-stands}
use Rattle.ev_warming.proofs.forgetting.forget.Goals as goal

pub loop-number-preserved : goal.loop-number-preserved
loop-number-preserved g c =
    let i = c.loop-number.invariant in
    let s0 = c.args.state.now in
    let s = c.loop-number.state in
    let t = c.forget_row.new.state in
    let e = c.in_ok-forget_row.ensures in
    let n0 = c.number-item.result in
    record {
      indexed = e.indexed;
      others = e.others ∙ (λ j. record (i.others j) { watches = t.watches; results = t.results });
      watches = watch-more s0.table.rows s0.watches s.watches t.watches c.args.stale.now c.loop-number.number-index n0 c.loop-number-test.true c.number-item.is i.watches
          (λ q. e.watches q ∙ (λ j. cond (is_needed q (needs_in (row_in n0 (i.others j).table.rows)) && is_idle (i.others j).table.rows q) unwatched (watch_in s.watches q)));
      results = result-more s0.table.rows s0.watches s.watches s0.results s.results t.results c.args.stale.now c.loop-number.number-index n0 c.loop-number-test.true c.number-item.is i.watches i.results
          (λ n h. e.results n h ∙ (λ j. cond (nat_eq n0 n && loses_result s.watches h (row_in n (i.others j).table.rows)) None (result_in s.results n h)));
      marks = mark-more s0.table.rows s0.results s.results t.results c.args.stale.now c.loop-number.number-index n0 c.loop-number-test.true c.number-item.is i.marks
          (λ n. e.marked n ∙ (λ j. cond (nat_eq n0 n && is_some (row_in n (i.others j).table.rows)) None (marked_in s.results n)));
      steps = omega (arith, i.steps, e.steps);
    }

pub returns-clause-tidy : goal.returns-clause-tidy
returns-clause-tidy g c =
    let i = c.loop-number.invariant in
    let s0 = c.args.state.now in
    let s = c.loop-number.state in
    let all : _ ≡ c.args.stale.now = take_all c.loop-number.number-index c.args.stale.now c.loop-number-test.false in
    subst (λ (u : State). IsTidyBut u []) (sym i.others)
    (tidy-forgot s0 c.args.stale.now c.requires.tidy s.watches
    (λ q. i.watches q ∙ (λ j. cond (is_need_of s0.table.rows (all j) q && is_idle s0.table.rows q) unwatched (watch_in s0.watches q)))
    s.results
    (λ n h. i.results n h ∙ (λ j. cond (is_one_of (all j) n && loses_result s0.watches h (row_in n s0.table.rows)) None (result_in s0.results n h)))
    (λ n. i.marks n ∙ (λ j. cond (is_one_of (all j) n && is_some (row_in n s0.table.rows)) None (marked_in s0.results n))))

pub returns-clause-stands : goal.returns-clause-stands
returns-clause-stands g c =
    let i = c.loop-number.invariant in
    let s0 = c.args.state.now in
    let s = c.loop-number.state in
    let all : _ ≡ c.args.stale.now = take_all c.loop-number.number-index c.args.stale.now c.loop-number-test.false in
    λ world stands.
    subst (λ (u : State). HasRows u (without_old_results (without_unwatched world))) (sym i.others)
    (forgot-stands s0 c.args.stale.now c.requires.tidy s.watches
    (λ q. i.watches q ∙ (λ j. cond (is_need_of s0.table.rows (all j) q && is_idle s0.table.rows q) unwatched (watch_in s0.watches q)))
    s.results
    (λ n h. i.results n h ∙ (λ j. cond (is_one_of (all j) n && loses_result s0.watches h (row_in n s0.table.rows)) None (result_in s0.results n h)))
    (λ n. i.marks n ∙ (λ j. cond (is_one_of (all j) n && is_some (row_in n s0.table.rows)) None (marked_in s0.results n)))
    world stands)
