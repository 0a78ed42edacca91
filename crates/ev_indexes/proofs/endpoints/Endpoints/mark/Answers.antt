use Rattle.std.proofs.Common.{◌≡◌, ◌∙◌, ◌⊎◌, inl, inr, ℕ, Bool, true, false, nat_eq, List, Option, Some, cond, map, refl, sym, ap}
use Rattle.std.specs.Map.{lookup}
use Rattle.ev_types.specs.Hosts.{HostRowParts}
use Rattle.ev_indexes.specs.KeptEndpoints.{is_eligible, marked_in}
use Rattle.ev_indexes.specs.Marked.{has_repeats, rows_marked}
use Rattle.ev_indexes.specs.declared.marked.MarkedRows.{MarkedRows}
use Rattle.ev_indexes.proofs.MarkLemmas.{marked-changed, rows-changed}
use Rattle.ev_indexes.proofs.endpoints.Endpoints.mark.Goals as goal

updates : (es fs : List (ℕ × MarkedRows)) (number at : ℕ) (w : MarkedRows) → number ≡ at
    → ((n : ℕ) → lookup (nat_eq n) fs ≡ cond (nat_eq number n) (Some w) (lookup (nat_eq n) es))
    → (n : ℕ) → lookup (nat_eq n) fs ≡ cond (nat_eq at n) (Some w) (lookup (nat_eq n) es)
updates es fs number at w same update n = update n ∙ (λ i. cond (nat_eq (same i) n) (Some w) (lookup (nat_eq n) es))

pub invariant_of-self-2 : goal.invariant_of-self-2
invariant_of-self-2 c =
    let w : MarkedRows = record { rows = c.in_ok-rows.rows; marks = c.in_ok-marks.marks } in
    let rows : c.in_ok-rows.rows ≡ c.get-2.result.now = c.in_ok-rows.ensures.value ∙ sym c.get-2.ensures.value in
    let view = c.self.view_is in
    let many : has_repeats c.get.result.now ≡ false = c.are_many.ensures c.if-not-are_many.false in
    marked-changed c.self.inside.results c.self.inside.results c.self.inside.marked.entries c.insert.new.self.entries c.args.number (Some w)
    (updates c.self.inside.marked.entries c.insert.new.self.entries c.number-2.result c.args.number w c.number-2.ensures.number (λ q. c.in-Ok.ensures.updates.0 q))
    (λ n h e. refl)
    (record {
      marks = c.in_ok-marks.ensures ∙ (λ i. map (is_eligible (sym view i) c.args.number true) (sym rows i));
      apart = ap has_repeats (rows ∙ c.get-2.ensures.value ∙ sym c.get.ensures.value) ∙ many;
    })
    c.self.invariant

either : (number n : ℕ) (rows : List HostRowParts) (o p : Option (List HostRowParts)) (b : Bool) → nat_eq number n ≡ b → p ≡ cond b (Some rows) o
    → (p ≡ o) ⊎ ((nat_eq number n ≡ true) × (p ≡ Some rows))
either number n rows o p true e h = inr (e, h)
either number n rows o p false e h = inl h

pub returns-clause-ok : goal.returns-clause-ok
returns-clause-ok c = λ n.
    let w : MarkedRows = record { rows = c.in_ok-rows.rows; marks = c.in_ok-marks.marks } in
    let es = c.self.inside.marked.entries in
    let fs = c.insert.new.self.entries in
    either c.args.number n c.args.rows.now (marked_in c.args.self.now n) (lookup (nat_eq n) (rows_marked fs)) (nat_eq c.args.number n) refl
    (rows-changed es fs c.args.number (Some w) (updates es fs c.number-2.result c.args.number w c.number-2.ensures.number (λ q. c.in-Ok.ensures.updates.0 q)) n
    ∙ (λ i. cond (nat_eq c.args.number n) (Some (c.in_ok-rows.ensures.value i)) (marked_in (c.self.view_is i) n)))
