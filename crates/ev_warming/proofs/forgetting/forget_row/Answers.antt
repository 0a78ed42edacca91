use Rattle.std.proofs.Common.{◌≡◌, ◌∙◌, ℕ, Bool, true, false, ◌&&◌, not, nat_eq, None, Some, is_some, cond, refl, sym}
use Rattle.std.proofs.lemmas.Bool.{eqb-true}
use Rattle.ev_types.specs.declared.rows.GenRow.{GenRow}
use Rattle.ev_indexes.specs.Tables.{row_in}
use Rattle.ev_indexes.specs.declared.state.State.{State}
use Rattle.ev_indexes.specs.KeptEndpoints.{marked_in, result_in}
use Rattle.ev_indexes.proofs.TableLemmas.{number-row_in}
use Rattle.ev_indexes.specs.Watched.{unwatched, watch_in}
use Rattle.ev_indexes.specs.Needs.{is_needed}
use Rattle.ev_warming.specs.Forgetting.{needs_in, is_idle, keeps_result}
use Rattle.ev_warming.proofs.ForgettingLemmas.{idle-index, indexed-forgot, loses-at}
use Rattle.ev_model.specs.Watching.{dependencies_of}
use Rattle.ev_warming.proofs.forgetting.forget_row.Goals as goal

pub returns-clause-indexed : goal.returns-clause-indexed
returns-clause-indexed g c =
    let s = c.args.state.now in
    let row = c.in-Some.row.now in
    indexed-forgot s c.args.number row c.requires.indexed (sym c.in-Some.ensures.row) c.forget_needs.new.watches
    (λ q. c.forget_needs.ensures q ∙ (λ i. cond (is_needed q (dependencies_of row.content) && idle-index s c.requires.indexed q i) unwatched (watch_in s.watches q)))
    c.trim.new.results
    (λ n h. c.in_ok-trim.ensures.results n h
    ∙ (λ i. cond (nat_eq (number-row_in c.args.number row s.table.rows (sym c.in-Some.ensures.row) i) n && not (keeps_result s.watches h row)) None (result_in s.results n h)))
    (λ n. c.in_ok-trim.ensures.marked n ∙ (λ i. cond (nat_eq (number-row_in c.args.number row s.table.rows (sym c.in-Some.ensures.row) i) n) None (marked_in s.results n)))

pub returns-clause-watches : goal.returns-clause-watches
returns-clause-watches g c =
    let s = c.args.state.now in
    let row = c.in-Some.row.now in
    λ q. c.forget_needs.ensures q
    ∙ (λ i. cond (is_needed q (dependencies_of row.content) && idle-index s c.requires.indexed q i) unwatched (watch_in s.watches q))
    ∙ (λ i. cond (is_needed q (needs_in (c.in-Some.ensures.row i)) && is_idle s.table.rows q) unwatched (watch_in s.watches q))

pub returns-clause-results : goal.returns-clause-results
returns-clause-results g c =
    let s = c.args.state.now in
    let row = c.in-Some.row.now in
    λ n h. c.in_ok-trim.ensures.results n h
    ∙ (λ i. cond (nat_eq (number-row_in c.args.number row s.table.rows (sym c.in-Some.ensures.row) i) n && not (keeps_result s.watches h row)) None (result_in s.results n h))
    ∙ (λ i. cond (loses-at s.table.rows s.watches c.args.number row (sym c.in-Some.ensures.row) n h i) None (result_in s.results n h))

pub returns-clause-marked : goal.returns-clause-marked
returns-clause-marked g c =
    let s = c.args.state.now in
    let row = c.in-Some.row.now in
    let at : row_in c.args.number s.table.rows ≡ Some row = sym c.in-Some.ensures.row in
    λ n. c.in_ok-trim.ensures.marked n
    ∙ (λ i. cond (nat_eq (number-row_in c.args.number row s.table.rows at i) n) None (marked_in s.results n))
    ∙ found s c.args.number row at n (nat_eq c.args.number n) refl
  where
    found : (s : State) (number : ℕ) (row : GenRow) → row_in number s.table.rows ≡ Some row → (n : ℕ) (b : Bool) → nat_eq number n ≡ b
        → cond b None (marked_in s.results n) ≡ cond (b && is_some (row_in n s.table.rows)) None (marked_in s.results n)
    found s number row at n true e =
        let own : row_in n s.table.rows ≡ Some row = (λ j. row_in (sym (eqb-true number n e) j) s.table.rows) ∙ at in
        λ i. cond (is_some (sym own i)) None (marked_in s.results n)
    found s number row at n false e = refl
