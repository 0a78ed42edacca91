-- A turn, step by step: what the seat and its slot are.
use Rattle.std.proofs.Common.{max, ◌≤◌, ◌⊎◌, ◌≡◌, ◌≢◌, ℕ, ◌+◌, ◌%◌, ◌^◌, true, false, true≢false, List, [], ◌∷◌, ◌++◌, length, drop, eqb, refl, sym, ap, ◌∙◌, subst, ⊎_elim, arith, Option, Some, None}
use Rattle.std.specs.Prelude.{MatchBool}
use Rattle.std.proofs.Math.Seq.{drop-append_seam}
use Rattle.std.proofs.lemmas.Bool.{eqb-true}
use Rattle.std.proofs.lemmas.Bool.Decides.{eqb_tells}
use Rattle.std.proofs.lemmas.List.{append-nil}
use Rattle.atomic_table.specs.Table.{Me, Allows, rest}
use Rattle.atomic_table.specs.declared.shared.Seat.{Seat}
use Rattle.ev_gate.specs.declared.view.View.{View}
use Rattle.ev_gate.specs.declared.view.Terms.{Terms}
use Rattle.ev_gate.specs.History.{commits_by, Continues, GrowsWithout}
use Rattle.ev_gate.specs.Held.{holds_empty}
use Rattle.ev_gate.specs.Inner.{IsWaiting, IsServed, HasTurn}
use Rattle.ev_gate.specs.Rule.{KnowsFirst, IsKept, Draws, Takes, Looks, Ends, Raises, Asks}
use Rattle.ev_gate.proofs.Lists.{Some-injective, beginning_of_one, commits_by-append, commits_by-other}
use Rattle.ev_gate.proofs.Steps.{no_start, draws, looks, ends, asks, raises}

pub nil_of : {A : Type 0} → (l : List A) → length l ≡ 0 → l ≡ []
nil_of [] e = refl
nil_of (x ∷ xs) e = absurd (omega arith)

pub holds_empty_is : {V : Type 0} → (l : List (ℕ × Option V)) → holds_empty l ≡ true → l ≡ (0, None) ∷ []
holds_empty_is [] e = absurd (true≢false (sym e))
holds_empty_is (x ∷ y ∷ ys) e = absurd (true≢false (sym e))
holds_empty_is ((k, Some v) ∷ []) e = absurd (true≢false (sym e))
holds_empty_is ((k, None) ∷ []) e = ap (λ n. (n, None) ∷ []) (eqb-true k 0 e)

head_value : {A : Type 0} → A → List (ℕ × A) → A
head_value d [] = d
head_value d (p ∷ ps) = p.1

pub head_is : {A : Type 0} → (x y : A) (xs ys : List (ℕ × A)) → (0, x) ∷ xs ≡ (0, y) ∷ ys → x ≡ y
unfolding head_value
head_is x y xs ys e = ap (head_value x) e

module _ {V O C : Type 0} (opening : V → O) (commits : V → List (ℕ × C)) (version_of : O → List (ℕ × C) → ℕ) where
  module _ (terms : Terms V) (slots i : ℕ) (m : Me (Option V) (View O C)) where
    pub draws_as : (first : Option V) → first ≡ Some terms.value.value → m.1 ≡ [] → m.0.spent ≡ false → m.0.queued ≡ false → m.0.serving ≡ false
        → Allows (IsKept opening commits version_of terms) slots i m 0 (λ n. (n + 1) % 2 ^ 64) (λ found n. Draws opening commits m found n × KnowsFirst opening commits first m.0)
    draws_as first is none live idle out = subst (λ (l : List (ℕ × Option V)). Allows (IsKept opening commits version_of terms) slots i (m.0, l) 0 (λ n. (n + 1) % 2 ^ 64) (λ found n. Draws opening commits (m.0, l) found n × KnowsFirst opening commits first m.0)) (sym none) (draws opening commits version_of terms slots i m.0 live idle out first is)

    pub asks_as : (known : ℕ) → known ≡ m.0.version → (first : Option V) → first ≡ Some terms.value.value → m.1 ≡ [] → m.0.spent ≡ false → m.0.queued ≡ false → m.0.serving ≡ false
        → Allows (IsKept opening commits version_of terms) slots i m 2 (λ n. max n known) (λ found n. Asks opening commits version_of known m found n × KnowsFirst opening commits first m.0)
    asks_as known known_is first is none live idle out = subst (λ (l : List (ℕ × Option V)). Allows (IsKept opening commits version_of terms) slots i (m.0, l) 2 (λ n. max n known) (λ found n. Asks opening commits version_of known (m.0, l) found n × KnowsFirst opening commits first m.0)) (sym none) (asks opening commits version_of terms slots i m.0 known live idle out known_is first is)

    pub raises_as : (known : ℕ) → known ≡ m.0.version → m.1 ≡ [] → m.0.spent ≡ false → m.0.queued ≡ false → m.0.serving ≡ false
        → Allows (IsKept opening commits version_of terms) slots i m 2 (λ n. max n known) (λ _ n. Raises opening commits m n)
    raises_as known known_is none live idle out = subst (λ (l : List (ℕ × Option V)). Allows (IsKept opening commits version_of terms) slots i (m.0, l) 2 (λ n. max n known) (λ _ n. Raises opening commits (m.0, l) n)) (sym none) (raises opening commits version_of terms slots i m.0 known live idle out known_is)

    pub looks_as : m.1 ≡ [] → m.0.spent ≡ false → m.0.queued ≡ true → m.0.serving ≡ false
        → Allows (IsKept opening commits version_of terms) slots i m 1 (λ n. n) (λ found. Looks opening commits version_of m found)
    looks_as none live waits out = subst (λ (l : List (ℕ × Option V)). Allows (IsKept opening commits version_of terms) slots i (m.0, l) 1 (λ n. n) (λ found. Looks opening commits version_of (m.0, l) found)) (sym none) (looks opening commits version_of terms slots i m.0 live waits out)

    -- the turn ends with at most one commit, and the version has not fallen
    pub ends_as : (x : V) → m.1 ≡ (0, Some x) ∷ [] → m.0.spent ≡ false → m.0.queued ≡ true → m.0.serving ≡ true
        → Some (opening x) ≡ m.0.opening
        → (commits x ≡ m.0.start ++ m.0.since) ⊎ ((c : C) × (commits x ≡ (m.0.start ++ m.0.since) ++ (m.0.number, c) ∷ []))
        → version_of (opening x) (m.0.start ++ m.0.since) ≤ version_of (opening x) (commits x)
        → Allows (IsKept opening commits version_of terms) slots i m 1 (λ n. (n + 1) % 2 ^ 64) (λ _. Ends opening commits version_of m)
    ends_as x held live waits out opening_is own up = subst (λ (l : List (ℕ × Option V)). Allows (IsKept opening commits version_of terms) slots i (m.0, l) 1 (λ n. (n + 1) % 2 ^ 64) (λ _. Ends opening commits version_of (m.0, l))) (sym held) (⊎_elim no_commit one own)
      where
        same : (b c : List (ℕ × C)) → b ≡ c → version_of (opening x) ((m.0.start ++ m.0.since) ++ b) ≤ version_of (opening x) ((m.0.start ++ m.0.since) ++ c)
        same b c e = let v : version_of (opening x) ((m.0.start ++ m.0.since) ++ b) ≡ version_of (opening x) ((m.0.start ++ m.0.since) ++ c) = ap (λ l. version_of (opening x) ((m.0.start ++ m.0.since) ++ l)) e in omega arith

        no_commit : commits x ≡ m.0.start ++ m.0.since → Allows (IsKept opening commits version_of terms) slots i (m.0, (0, Some x) ∷ []) 1 (λ n. (n + 1) % 2 ^ 64) (λ _. Ends opening commits version_of (m.0, (0, Some x) ∷ []))
        no_commit e = ends opening commits version_of terms slots i m.0 x [] [] live waits out opening_is (e ∙ sym (append-nil (m.0.start ++ m.0.since))) (λ n apart. refl) (λ b c. same b [] (no_start b c.0 (sym c.1)))

        one : (c : C) × (commits x ≡ (m.0.start ++ m.0.since) ++ (m.0.number, c) ∷ []) → Allows (IsKept opening commits version_of terms) slots i (m.0, (0, Some x) ∷ []) 1 (λ n. (n + 1) % 2 ^ 64) (λ _. Ends opening commits version_of (m.0, (0, Some x) ∷ []))
        one e = ends opening commits version_of terms slots i m.0 x [] ((m.0.number, e.0) ∷ []) live waits out opening_is e.1 (λ n apart. commits_by-other n m.0.number e.0 apart)
            (λ b c. ⊎_elim
            (λ (z : b ≡ []).
            let low : version_of (opening x) ((m.0.start ++ m.0.since) ++ b) ≡ version_of (opening x) (m.0.start ++ m.0.since) = ap (λ l. version_of (opening x) ((m.0.start ++ m.0.since) ++ l)) z ∙ ap (version_of (opening x)) (append-nil (m.0.start ++ m.0.since)) in
            let high : version_of (opening x) (commits x) ≡ version_of (opening x) ((m.0.start ++ m.0.since) ++ (m.0.number, e.0) ∷ []) = ap (version_of (opening x)) e.1 in
            omega arith)
            (λ (z : b ≡ (m.0.number, e.0) ∷ []). same b ((m.0.number, e.0) ∷ []) z)
            (beginning_of_one b (m.0.number, e.0) c))

  module _ (before : Seat (Option V) (View O C)) (ticket : ℕ) (it after : Seat (Option V) (View O C)) where
    pub drawn : it.table_id ≡ before.table_id → before.me.1 ≡ [] → Draws opening commits before.me ticket it.me → IsWaiting ticket before it
    drawn here none d = record { gate_is = here; view_is = d.view_is; ticket_is = d.ticket_is; holds_nothing = d.held ∙ none }

    pub still : (found : ℕ) → IsWaiting ticket before it → after.table_id ≡ it.table_id → Looks opening commits version_of it.me found after.me → found ≢ ticket → IsWaiting ticket before after
    still found h here l ne = ⊎_elim
        (λ (t : (eqb found (it.me.0.ticket % 2 ^ 64) ≡ true) × (found ≡ it.me.0.ticket % 2 ^ 64)). absurd (ne (t.1 ∙ h.ticket_is)))
        (λ (t : (eqb found (it.me.0.ticket % 2 ^ 64) ≡ false) × (found ≢ it.me.0.ticket % 2 ^ 64)).
        let same : ◌≡◌ {A = Me (Option V) (View O C)} after.me it.me = subst (λ b. MatchBool b (Takes opening commits version_of it.me after.me) (◌≡◌ {A = Me (Option V) (View O C)} after.me it.me)) t.0 l in record {
          gate_is = here ∙ h.gate_is;
          view_is = ap (λ (m : Me (Option V) (View O C)). m.0) same ∙ h.view_is ∙ ap (λ (m : Me (Option V) (View O C)). record before.me.0 { queued = true; ticket = m.0.ticket }) (sym same);
          ticket_is = ap (λ (m : Me (Option V) (View O C)). m.0.ticket % 2 ^ 64) same ∙ h.ticket_is;
          holds_nothing = ap (λ (m : Me (Option V) (View O C)). m.1) same ∙ h.holds_nothing;
        })
        (eqb_tells found (it.me.0.ticket % 2 ^ 64))

    pub served : (found : ℕ) → IsWaiting ticket before it → after.table_id ≡ it.table_id → Looks opening commits version_of it.me found after.me → found ≡ ticket → IsServed opening commits version_of before after
    served found h here l e = ⊎_elim
        (λ (t : (eqb found (it.me.0.ticket % 2 ^ 64) ≡ true) × (found ≡ it.me.0.ticket % 2 ^ 64)).
        taken (subst (λ b. MatchBool b (Takes opening commits version_of it.me after.me) (◌≡◌ {A = Me (Option V) (View O C)} after.me it.me)) t.0 l))
        (λ (t : (eqb found (it.me.0.ticket % 2 ^ 64) ≡ false) × (found ≢ it.me.0.ticket % 2 ^ 64)). absurd (t.1 (e ∙ sym h.ticket_is)))
        (eqb_tells found (it.me.0.ticket % 2 ^ 64))
      where
        taken : Takes opening commits version_of it.me after.me → IsServed opening commits version_of before after
        taken t = record {
          value = t.value;
          gate_is = here ∙ h.gate_is;
          view_is = t.view_is ∙ ap (λ (v : View O C). record v { serving = true; since = after.me.0.since }) h.view_is ∙ ap (λ n. record before.me.0 { queued = true; ticket = n; serving = true; since = after.me.0.since }) (sym (ap (λ (v : View O C). v.ticket) t.view_is));
          held = t.held ∙ ap (λ l'. (0, Some t.value) ∷ l') h.holds_nothing;
          seen = subst (λ (v : View O C). GrowsWithout v.number v.since after.me.0.since) h.view_is t.seen;
          opening_is = t.opening_is ∙ ap (λ (v : View O C). v.opening) h.view_is;
          heard = subst (λ (v : View O C). Continues v.heard after.me.0.since) h.view_is t.heard;
          not_below = subst (λ (v : View O C). version_of (opening t.value) (v.start ++ v.heard) ≤ version_of (opening t.value) (commits t.value)) h.view_is t.not_below;
          commits_are = t.commits_are ∙ ap (λ (v : View O C). v.start ++ after.me.0.since) h.view_is;
        }

  module _ (before it : Seat (Option V) (View O C)) (s : IsServed opening commits version_of before it) where
    -- what is in the slot
    pub in_slot : (result : Option V) → it.me.1 ≡ (0, result) ∷ rest it.me.1 → result ≡ Some s.value
    in_slot result e = head_is result (Some s.value) (rest it.me.1) [] (sym e ∙ s.held)

    pub taken_out : (after : Seat (Option V) (View O C)) (value : V) → after.table_id ≡ it.table_id → after.me ≡ (it.me.0, (0, None) ∷ rest it.me.1) → Some s.value ≡ Some value → HasTurn opening commits version_of before after value
    taken_out after value here me is =
        let same : after.me.0 ≡ it.me.0 = ap (λ m. m.0) me in
        let now : s.value ≡ value = Some-injective s.value value is in record {
          gate_is = here ∙ s.gate_is;
          view_is = same ∙ s.view_is ∙ ap (λ (v : View O C). record before.me.0 { queued = true; ticket = v.ticket; serving = true; since = v.since }) (sym same);
          held = ap (λ m. m.1) me ∙ ap (λ l. (0, None) ∷ rest l) s.held;
          seen = subst (λ (v : View O C). GrowsWithout before.me.0.number before.me.0.since v.since) (sym same) s.seen;
          opening_is = ap (λ x. Some (opening x)) (sym now) ∙ s.opening_is;
          heard = subst (λ (v : View O C). Continues before.me.0.heard v.since) (sym same) s.heard;
          not_below = subst (λ (x : V). version_of (opening x) (before.me.0.start ++ before.me.0.heard) ≤ version_of (opening x) (commits x)) now s.not_below;
          commits_are = ap commits (sym now) ∙ s.commits_are ∙ ap (λ (v : View O C). before.me.0.start ++ v.since) (sym same);
        }

-- nothing of its own is new to the seat
pub same_mine : {C : Type 0} → (n : ℕ) (earlier later : List (ℕ × C)) → GrowsWithout n earlier later → commits_by n later ≡ commits_by n earlier
same_mine n earlier later g = ap (commits_by n) g.1 ∙ commits_by-append n earlier g.0 ∙ ap (λ l. commits_by n earlier ++ l) g.2 ∙ append-nil (commits_by n earlier)

-- a list of which the beginning is given: that, and the rest
pub whole_again : {C : Type 0} → (start rest all : List (ℕ × C)) → all ≡ start ++ rest → start ++ drop (length start) all ≡ all
whole_again start rest all e = ap (λ l. start ++ drop (length start) l) e ∙ ap (λ l. start ++ l) (drop-append_seam start rest) ∙ sym e
