-- Each step at a gate's table keeps the rule, and shows what its play says.
use Rattle.std.proofs.Common.{not, max, ◌≡◌, ◌≢◌, ◌⊎◌, ℕ, zero, suc, ◌+◌, ◌%◌, ◌^◌, ◌<◌, ◌≤◌, Bool, true, false, true≢false, List, [], ◌∷◌, ◌++◌, length, set, drop, eqb, cond, refl, sym, ap, ◌∙◌, subst, inl, inr, ⊎_elim, arith, length-append, append_assoc, Option, Some, None}
use Rattle.std.specs.Prelude.{slice_index, slice_get}
use Rattle.std.proofs.Math.Nat.{mod-add-mod}
use Rattle.std.proofs.Math.Seq.{drop-append_seam}
use Rattle.std.proofs.lemmas.Bool.{cases_Bool, cases_lt}
use Rattle.std.proofs.lemmas.Bool.Decides.{eqb_tells}
use Rattle.std.proofs.lemmas.List.{length-set, append-nil}
use mathlib.Core.Option.{some, none, some-injective, some-ne-none}
use mathlib.Core.Option as maybe
use lib.ListN.{get_elem?}
use Rattle.atomic_table.specs.Table.{State, Me, keeps, takes, gives, opening as opened, Allows, Splits, Joins, Final, Seen}
use Rattle.atomic_table.proofs.Lists.{at_set, set_here, set_else, set_again, at_longer, one_turn}
use Rattle.ev_gate.specs.declared.view.View.{View}
use Rattle.ev_gate.specs.declared.view.Joined.{Joined}
use Rattle.ev_gate.specs.declared.view.Terms.{Terms}
use Rattle.ev_gate.specs.History.{commits_by, Continues, GrowsWithout}
use Rattle.ev_gate.specs.Rule.{queued_count, spent_view, NoneAbove, Fits, FitsSpent, IsOut, WasTold, Gathers, AtHome, KnowsFirst, IsKept, first_view, Draws, Takes, Looks, Ends, Raises, Asks, left_view, right_view, joined, joined_view}
use Rattle.ev_gate.specs.Inner.{IsLast}
use Rattle.ev_gate.proofs.Lists.{Some-injective, at_below, at_end, get_at_end, same_there, all_below, continues_more, none_above_more, grows_more, none_more, grows_from_none, one_if, count_set, count_end, count_few, two_pass}

abbrev queued : {O C : Type 0} → View O C → Bool
queued v = v.queued

abbrev alive : {O C : Type 0} → View O C → Bool
alive v = not v.spent

pub no_start : {A : Type 0} (xs ys : List A) → xs ++ ys ≡ [] → xs ≡ []
no_start [] ys e = refl
no_start (x ∷ xs) ys e = absurd (cc)

off : {b : Bool} → b ≡ false → b ≡ true → ⊥
off p q = true≢false (sym q ∙ p)

-- the view w is that of the seat of v, with another stage or more seen
pub record SameSeat {O C : Type 0} (v w : View O C) : Type 0 where
  pub spent_is : w.spent ≡ false
  pub made_is : w.made ≡ v.made
  pub told_is : w.told ≡ v.told

-- what is asked of the other seats' tickets where the words become drawn and served
abbrev OthersWait : {O C : Type 0} → List (View O C) → List (ℕ × C) → ℕ → ℕ → ℕ → View O C → Type 0
OthersWait {O} {C} views since drawn served i w =
    (j : ℕ) (u : View O C) → j ≢ i → get_elem? views j ≡ some u
    → (u.queued ≡ true → (served ≤ u.ticket) × (u.ticket < drawn)) × (u.serving ≡ true → (u.ticket ≡ served) × (u.since ≡ since)) × (u.queued ≡ true → w.queued ≡ true → w.ticket ≢ u.ticket)

module _ {V O C : Type 0} (opening : V → O) (commits : V → List (ℕ × C)) (version_of : O → List (ℕ × C) → ℕ) (terms : Terms V) where
  abbrev Kept : State (Option V) (View O C) → Type 0
  Kept = IsKept opening commits version_of terms

  -- the version after these commits since the start
  abbrev version : List (ℕ × C) → ℕ
  version since = version_of (opening terms.value.value) (commits terms.value.value ++ since)

  abbrev FitsHere : List (ℕ × C) → List (ℕ × C) → ℕ → ℕ → ℕ → View O C → Type 0
  FitsHere since newest drawn served i v = Fits (opening terms.value.value) (commits terms.value.value) version since newest drawn served i v

  -- where one seat's view changes, and it adds commits of its own
  module _ (s : State (Option V) (View O C)) (h : Kept s) (i : ℕ) (v w : View O C) (at : get_elem? s.views i ≡ some v) (live : v.spent ≡ false) (same : SameSeat v w) (new : List (ℕ × C)) (own : (n : ℕ) → n ≢ i → commits_by n new ≡ []) where
    elsewhere : (n : ℕ) → get_elem? s.views n ≡ some spent_view → n ≢ i
    elsewhere n there e = let is : v ≡ spent_view = same_there s.views i v spent_view at (subst (λ m. get_elem? s.views m ≡ some spent_view) e there) in off live (ap (λ (x : View O C). x.spent) is)

    gathers_set : (u u' : View O C) → u'.told ≡ u.told → Gathers s.views (commits terms.value.value) h.since u → Gathers (set s.views i w) (commits terms.value.value) (h.since ++ new) u'
    gathers_set u u' told g = record {
      counted = (
          let count = count_set alive s.views i v w at in
          let one : one_if alive v ≡ 1 = ap (λ b. cond (not b) 1 0) live in
          let one' : one_if alive w ≡ 1 = ap (λ b. cond (not b) 1 0) same.spent_is in
          let long = length-set s.views i w in
          let more : length u'.told ≡ length u.told = ap length told in
          let c = g.counted in
          omega arith
          );
      told_spent = λ k e there. let spent = g.told_spent k e (here k e there) in set_else s.views i e.number w (elsewhere e.number spent) ∙ spent;
      told_is = λ k e there. let t = g.told_is k e (here k e there) in
          told_more t (own e.number (elsewhere e.number (g.told_spent k e (here k e there))));
    }
      where
        here : (k : ℕ) (e : Joined C) → slice_get u'.told k ≡ Some e → slice_get u.told k ≡ Some e
        here k e there = ap (λ (ts : List (Joined C)). slice_get ts k) (sym told) ∙ there

        told_more : {e : Joined C} → WasTold (commits terms.value.value) h.since e → commits_by e.number new ≡ [] → WasTold (commits terms.value.value) (h.since ++ new) e
        told_more {e} t not_own = record { start_is = t.start_is; seen = grows_more e.number e.since h.since new t.seen not_own; heard = continues_more e.heard h.since new t.heard }

    pub changed : (drawn served : ℕ) (newest : List (ℕ × C)) (words : List ℕ) (homes : List (maybe.Option (Option V)))
        → words ≡ drawn % 2 ^ 64 ∷ served % 2 ^ 64 ∷ version newest ∷ []
        → drawn ≡ served + queued_count (set s.views i w)
        → Continues newest (h.since ++ new)
        → version h.newest ≤ version newest
        → NoneAbove version (h.since ++ new)
        → FitsHere (h.since ++ new) newest drawn served i w
        → OthersWait s.views (h.since ++ new) drawn served i w
        → AtHome opening commits terms.value.value (h.since ++ new) homes ⊎ IsOut homes (set s.views i w)
        → Kept record { words = words; homes = homes; views = set s.views i w }
    changed drawn served newest words homes words_are counted reached up none_above mine others slot = record {
      drawn = drawn;
      served = served;
      since = h.since ++ new;
      newest = newest;
      words_are = words_are;
      counted = counted;
      reached = reached;
      none_above = none_above;
      few = rw (length-set s.views i w) h.few;
      at_most_twenty = h.at_most_twenty;
      fits = λ j u e spent. ⊎_elim
          (λ (t : (j ≡ i) × (w ≡ u)). subst (λ (y : ℕ × View O C). FitsHere (h.since ++ new) newest drawn served y.0 y.1) (λ k. (sym t.0 k, t.1 k)) mine)
          (λ (t : (j ≢ i) × (get_elem? s.views j ≡ some u)). other j u t.0 t.1 spent)
          (at_set s.views i j w u e);
      fits_spent = λ j u e spent. ⊎_elim
          (λ (t : (j ≡ i) × (w ≡ u)). absurd (off same.spent_is (ap (λ (x : View O C). x.spent) t.1 ∙ spent)))
          (λ (t : (j ≢ i) × (get_elem? s.views j ≡ some u)). h.fits_spent j u t.1 spent)
          (at_set s.views i j w u e);
      apart = λ j k u x e f p q r. ⊎_elim
          (λ (t : (j ≡ i) × (w ≡ u)). ⊎_elim
          (λ (t' : (k ≡ i) × (w ≡ x)). t.0 ∙ sym t'.0)
          (λ (t' : (k ≢ i) × (get_elem? s.views k ≡ some x)). absurd ((others k x t'.0 t'.1).2 q (ap (λ (y : View O C). y.queued) t.1 ∙ p) (ap (λ (y : View O C). y.ticket) t.1 ∙ r)))
          (at_set s.views i k w x f))
          (λ (t : (j ≢ i) × (get_elem? s.views j ≡ some u)). ⊎_elim
          (λ (t' : (k ≡ i) × (w ≡ x)). absurd ((others j u t.0 t.1).2 p (ap (λ (y : View O C). y.queued) t'.1 ∙ q) (ap (λ (y : View O C). y.ticket) t'.1 ∙ sym r)))
          (λ (t' : (k ≢ i) × (get_elem? s.views k ≡ some x)). h.apart j k u x t.1 t'.1 p q r)
          (at_set s.views i k w x f))
          (at_set s.views i j w u e);
      unborn = λ n le. none_more n h.since new (h.unborn n (subst (λ m. m ≤ n) (length-set s.views i w) le)) (own n (past n (subst (λ m. m ≤ n) (length-set s.views i w) le)));
      gathers = λ j u e spent. ⊎_elim
          (λ (t : (j ≡ i) × (w ≡ u)). gathers_set v u (ap (λ (y : View O C). y.told) (sym t.1) ∙ same.told_is) (h.gathers i v at live))
          (λ (t : (j ≢ i) × (get_elem? s.views j ≡ some u)). gathers_set u u refl (h.gathers j u t.1 spent))
          (at_set s.views i j w u e);
      leads = λ u e spent. ⊎_elim
          (λ (t : (0 ≡ i) × (w ≡ u)). ap (λ (y : View O C). y.made) (sym t.1) ∙ same.made_is ∙ h.leads v (subst (λ n. get_elem? s.views n ≡ some v) (sym t.0) at) live ∙ sym (length-set s.views i w))
          (λ (t : (0 ≢ i) × (get_elem? s.views 0 ≡ some u)). h.leads u t.1 spent ∙ sym (length-set s.views i w))
          (at_set s.views i 0 w u e);
      slot = slot;
    }
      where
        past : (n : ℕ) → length s.views ≤ n → n ≢ i
        past n le e = let b : i < length s.views = at_below s.views i v at in absurd (omega arith)

        other : (j : ℕ) (u : View O C) → j ≢ i → get_elem? s.views j ≡ some u → u.spent ≡ false → FitsHere (h.since ++ new) newest drawn served j u
        other j u apart there spent = let f = h.fits j u there spent in let o = others j u apart there in record {
          number_is = f.number_is;
          opening_is = f.opening_is;
          start_is = f.start_is;
          seen = grows_more j u.since h.since new f.seen (own j apart);
          heard = continues_more u.heard h.since new f.heard;
          version_is = f.version_is;
          raised = (let r = f.raised in omega arith);
          ticket_from = λ q. (o.0 q).0;
          ticket_below = λ q. (o.0 q).1;
          served_is = λ q. (o.1 q).0;
          serving_queued = f.serving_queued;
          seen_all = λ q. (o.1 q).1;
        }

  -- ---- the start
  pub starts : (v : V) → terms.value.value ≡ v → 0 < terms.seats → terms.seats ≤ 20 → Kept (opened (0 ∷ 0 ∷ version_of (opening terms.value.value) (commits terms.value.value) ∷ []) (Some v ∷ []) (first_view opening commits version_of terms))
  starts v is some_seat few = record {
    drawn = 0;
    served = 0;
    since = [];
    newest = [];
    words_are = ap (λ n. 0 ∷ 0 ∷ n ∷ []) first_version;
    counted = refl;
    few = some_seat;
    at_most_twenty = few;
    reached = ([], refl);
    none_above = none_above_nothing;
    fits = fits_first;
    fits_spent = λ j u e spent. absurd (off refl (ap (λ (y : View O C). y.spent) (first_is j u e) ∙ spent));
    apart = λ j k u x e f p q r. absurd (off refl (ap (λ (y : View O C). y.queued) (first_is j u e) ∙ p));
    unborn = λ n le. refl;
    gathers = λ j u e spent. subst (Gathers (first_view opening commits version_of terms ∷ []) (commits terms.value.value) []) (first_is j u e) record { counted = omega arith; told_spent = λ k e' there. absurd (cc); told_is = λ k e' there. absurd (cc) };
    leads = λ u e spent. ap (λ (y : View O C). y.made) (sym (first_is 0 u e));
    slot = inl record { value = v; there = refl; opening_is = ap opening (sym is); commits_are = ap commits (sym is) ∙ sym (append-nil (commits terms.value.value)) };
  }
    where
      first_is : (j : ℕ) (u : View O C) → get_elem? (first_view opening commits version_of terms ∷ []) j ≡ some u → first_view opening commits version_of terms ≡ u
      first_is zero u e = some-injective _ _ e
      first_is (suc j) u e = absurd (some-ne-none u (sym e))

      first_version : version_of (opening terms.value.value) (commits terms.value.value) ≡ version []
      first_version = ap (version_of (opening terms.value.value)) (sym (append-nil (commits terms.value.value)))

      none_above_nothing : NoneAbove version []
      none_above_nothing earlier c = let none : earlier ≡ [] = no_start earlier c.0 (sym c.1) in let same : version earlier ≡ version [] = ap version none in omega arith

      fits_first : (j : ℕ) (u : View O C) → get_elem? (first_view opening commits version_of terms ∷ []) j ≡ some u → u.spent ≡ false → FitsHere [] [] 0 0 j u
      fits_first zero u e spent = subst (FitsHere [] [] 0 0 0) (some-injective _ _ e) record {
        number_is = refl;
        opening_is = refl;
        start_is = refl;
        seen = ([], refl, refl);
        heard = ([], refl);
        version_is = first_version;
        raised = (let e = first_version in omega arith);
        ticket_from = λ q. absurd (off refl q);
        ticket_below = λ q. absurd (off refl q);
        served_is = λ q. absurd (off refl q);
        serving_queued = λ q. q;
        seen_all = λ q. absurd (off refl q);
      }
      fits_first (suc j) u e spent = absurd (some-ne-none u (sym e))

  -- ---- words
  word_0 : (words : List ℕ) (a b c n : ℕ) → words ≡ a ∷ b ∷ c ∷ [] → set words 0 n ≡ n ∷ b ∷ c ∷ []
  word_0 words a b c n e = ap (λ ws. set ws 0 n) e

  word_1 : (words : List ℕ) (a b c n : ℕ) → words ≡ a ∷ b ∷ c ∷ [] → set words 1 n ≡ a ∷ n ∷ c ∷ []
  word_1 words a b c n e = ap (λ ws. set ws 1 n) e

  -- the opening and the start that a seat knows are those of the value that the gate was made with
  pub knows_first : (s : State (Option V) (View O C)) (h : Kept s) (i : ℕ) (v : View O C) → get_elem? s.views i ≡ some v → v.spent ≡ false → (first : Option V) → first ≡ Some terms.value.value → KnowsFirst opening commits first v
  knows_first s h i v at live first is x told =
      let mine : FitsHere h.since h.newest h.drawn h.served i v = h.fits i v at live in
      let same : terms.value.value ≡ x = Some-injective terms.value.value x (sym is ∙ told) in
      (mine.opening_is ∙ ap (λ (y : V). Some (opening y)) same, mine.start_is ∙ ap commits same)

  -- ---- a ticket is drawn
  pub draws : (slots i : ℕ) (v : View O C) → v.spent ≡ false → v.queued ≡ false → v.serving ≡ false
      → (first : Option V) → first ≡ Some terms.value.value
      → Allows Kept slots i (v, []) 0 (λ n. (n + 1) % 2 ^ 64) (λ found n. Draws opening commits (v, []) found n × KnowsFirst opening commits first v)
  draws slots i v live idle out first is s h wide at bound =
      let w : View O C = record v { queued = true; ticket = h.drawn } in
      let mine : FitsHere h.since h.newest h.drawn h.served i v = h.fits i v at live in
      let count = count_set queued s.views i v w at in
      let none : one_if queued v ≡ 0 = ap (λ b. cond b 1 0) idle in
      let all : h.since ++ [] ≡ h.since = append-nil h.since in
      let next : (slice_index s.words 0 + 1) % 2 ^ 64 ≡ (h.drawn + 1) % 2 ^ 64 = ap (λ ws. (slice_index ws 0 + 1) % 2 ^ 64) h.words_are ∙ mod-add-mod h.drawn (2 ^ 64) 1 in (
        w,
        keeps,
        tt,
        changed s h i v w at live (record { spent_is = live; made_is = refl; told_is = refl }) [] (λ n apart. refl)
            (h.drawn + 1) h.served h.newest (set s.words 0 ((slice_index s.words 0 + 1) % 2 ^ 64)) s.homes
            (word_0 s.words (h.drawn % 2 ^ 64) (h.served % 2 ^ 64) (version h.newest) _ h.words_are ∙ ap (λ n. n ∷ h.served % 2 ^ 64 ∷ version h.newest ∷ []) next)
            (let c = h.counted in omega arith)
            (continues_more h.newest h.since [] h.reached)
            (omega arith)
            (subst (NoneAbove version) (sym all) h.none_above)
            record {
              number_is = mine.number_is;
              opening_is = mine.opening_is;
              start_is = mine.start_is;
              seen = grows_more i v.since h.since [] mine.seen refl;
              heard = continues_more v.heard h.since [] mine.heard;
              version_is = mine.version_is;
              raised = mine.raised;
              ticket_from = λ q. (let c = h.counted in omega arith);
              ticket_below = λ q. omega arith;
              served_is = λ q. absurd (off out q);
              serving_queued = λ q. refl;
              seen_all = λ q. absurd (off out q);
            }
            (λ j u apart there. ⊎_elim
            (λ (spent : u.spent ≡ true). let g = h.fits_spent j u there spent in ((λ q. absurd (off g.not_queued q)), (λ q. absurd (off g.not_serving q)), (λ q _. absurd (off g.not_queued q))))
            (λ (spent : u.spent ≡ false). let f = h.fits j u there spent in (
              (λ q. (f.ticket_from q, let b = f.ticket_below q in omega arith)),
              (λ q. (f.served_is q, f.seen_all q ∙ sym all)),
              (λ q _ e. let b = f.ticket_below q in absurd (omega arith)),
            ))
            (cases_Bool u.spent))
            (⊎_elim
            (λ (a : AtHome opening commits terms.value.value h.since s.homes). inl record { value = a.value; there = a.there; opening_is = a.opening_is; commits_are = a.commits_are ∙ ap (λ l. commits terms.value.value ++ l) (sym all) })
            (λ (o : IsOut s.homes s.views). inr record { gone = o.gone; seat = o.seat; view = o.view; there = set_else s.views i o.seat w (not_here o) ∙ o.there; serving = o.serving })
            h.slot),
        (record { view_is = refl; ticket_is = sym (ap (λ ws. slice_index ws 0) h.words_are); held = refl }, knows_first s h i v at live first is),
      )
    where
      not_here : (o : IsOut s.homes s.views) → o.seat ≢ i
      not_here o e = off out (ap (λ (y : View O C). y.serving) (same_there s.views i v o.view at (subst (λ n. get_elem? s.views n ≡ some o.view) e o.there)) ∙ o.serving)

  -- ---- a look at the ticket that is served
  -- with at most twenty seats, the words of two tickets are equal only where the tickets are
  one_ticket : (s : State (Option V) (View O C)) (h : Kept s) (i : ℕ) (v : View O C) → get_elem? s.views i ≡ some v → v.spent ≡ false → v.queued ≡ true → h.served % 2 ^ 64 ≡ v.ticket % 2 ^ 64 → v.ticket ≡ h.served
  one_ticket s h i v at live waits e =
      let mine = h.fits i v at live in
      let from : h.served ≤ v.ticket = mine.ticket_from waits in
      let below : v.ticket < h.drawn = mine.ticket_below waits in
      let few = count_few queued s.views in
      let near : v.ticket < h.served + 2 ^ 64 = (let a = h.counted in let b = h.few in let c = h.at_most_twenty in omega arith) in
      sym (one_turn h.served v.ticket (2 ^ 64) from near e)

  -- nobody else is served
  alone : (s : State (Option V) (View O C)) (h : Kept s) (i : ℕ) (v : View O C) → get_elem? s.views i ≡ some v → v.queued ≡ true → v.ticket ≡ h.served → (j : ℕ) (u : View O C) → get_elem? s.views j ≡ some u → u.serving ≡ true → j ≡ i
  alone s h i v at waits is j u there served = ⊎_elim
      (λ (spent : u.spent ≡ true). absurd (off ((h.fits_spent j u there spent).not_serving) served))
      (λ (spent : u.spent ≡ false). let f = h.fits j u there spent in h.apart j i u v there at (f.serving_queued served) waits (f.served_is served ∙ sym is))
      (cases_Bool u.spent)

  same_words : (words : List ℕ) (a b c : ℕ) → words ≡ a ∷ b ∷ c ∷ [] → set words 1 (slice_index words 1) ≡ words
  same_words words a b c e = subst (λ ws. set ws 1 (slice_index ws 1) ≡ ws) (sym e) refl

  -- the ticket is served: the slot is at home, and the seat takes it
  is_served : (s : State (Option V) (View O C)) (h : Kept s) (i : ℕ) (v : View O C) → get_elem? s.views i ≡ some v → v.spent ≡ false → v.queued ≡ true → v.serving ≡ false → v.ticket ≡ h.served → (found : ℕ)
      → AtHome opening commits terms.value.value h.since s.homes
      → found ≡ slice_index s.words 1
      → (w : View O C) × (y : Option V) × (get_elem? s.homes 0 ≡ some (some y)) × Kept record { words = set s.words 1 found; homes = set s.homes 0 none; views = set s.views i w } × Takes opening commits version_of (v, []) (w, (0, y) ∷ [])
  is_served s h i v at live waits out is found a same =
      let w : View O C = record v { serving = true; since = h.since } in
      let mine : FitsHere h.since h.newest h.drawn h.served i v = h.fits i v at live in
      let count = count_set queued s.views i v w at in
      let all : h.since ++ [] ≡ h.since = append-nil h.since in
      let words : set s.words 1 found ≡ s.words = ap (set s.words 1) same ∙ same_words s.words (h.drawn % 2 ^ 64) (h.served % 2 ^ 64) (version h.newest) h.words_are in (
        w,
        Some a.value,
        ap (λ hs. get_elem? hs 0) a.there,
        changed s h i v w at live (record { spent_is = live; made_is = refl; told_is = refl }) [] (λ n apart. refl)
            h.drawn h.served h.newest (set s.words 1 found) (set s.homes 0 none)
            (words ∙ h.words_are)
            (let c = h.counted in omega arith)
            (continues_more h.newest h.since [] h.reached)
            (omega arith)
            (subst (NoneAbove version) (sym all) h.none_above)
            record {
              number_is = mine.number_is;
              opening_is = mine.opening_is;
              start_is = mine.start_is;
              seen = ([], refl, refl);
              heard = continues_more v.heard h.since [] mine.heard;
              version_is = mine.version_is;
              raised = mine.raised;
              ticket_from = mine.ticket_from;
              ticket_below = mine.ticket_below;
              served_is = λ q. is;
              serving_queued = λ q. waits;
              seen_all = λ q. sym all;
            }
            (λ j u apart there. ⊎_elim
            (λ (spent : u.spent ≡ true). let g = h.fits_spent j u there spent in ((λ q. absurd (off g.not_queued q)), (λ q. absurd (off g.not_serving q)), (λ q _. absurd (off g.not_queued q))))
            (λ (spent : u.spent ≡ false). let f = h.fits j u there spent in (
              (λ q. (f.ticket_from q, f.ticket_below q)),
              (λ q. absurd (apart (alone s h i v at waits is j u there q))),
              (λ q _ e. absurd (apart (h.apart j i u v there at q waits (sym e)))),
            ))
            (cases_Bool u.spent))
            (inr record { gone = ap (λ hs. set hs 0 none) a.there; seat = i; view = w; there = set_here s.views i w (at_below s.views i v at); serving = refl }),
        record {
          value = a.value;
          view_is = refl;
          held = refl;
          seen = subst (λ n. GrowsWithout n v.since h.since) (sym mine.number_is) mine.seen;
          opening_is = ap Some a.opening_is ∙ sym mine.opening_is;
          heard = mine.heard;
          commits_are = a.commits_are ∙ ap (λ l. l ++ h.since) (sym mine.start_is);
          not_below = (
              let low : version v.heard ≤ version h.since = h.none_above v.heard mine.heard in
              let left : version_of (opening a.value) (v.start ++ v.heard) ≡ version v.heard = λ k. version_of (a.opening_is k) (mine.start_is k ++ v.heard) in
              let right : version_of (opening a.value) (commits a.value) ≡ version h.since = λ k. version_of (a.opening_is k) (a.commits_are k) in
              omega arith
              );
        },
      )

  home_then : (s : State (Option V) (View O C)) (h : Kept s) (i : ℕ) (v : View O C) → get_elem? s.views i ≡ some v → v.queued ≡ true → v.serving ≡ false → v.ticket ≡ h.served → AtHome opening commits terms.value.value h.since s.homes ⊎ IsOut s.homes s.views → AtHome opening commits terms.value.value h.since s.homes
  home_then s h i v at waits out is (inl a) = a
  home_then s h i v at waits out is (inr o) =
      let here : o.seat ≡ i = alone s h i v at waits is o.seat o.view o.there o.serving in
      absurd (off out (ap (λ (y : View O C). y.serving) (same_there s.views i v o.view at (subst (λ n. get_elem? s.views n ≡ some o.view) here o.there)) ∙ o.serving))

  not_yet : (s : State (Option V) (View O C)) (h : Kept s) (i : ℕ) (v : View O C) → get_elem? s.views i ≡ some v → Kept record { words = set s.words 1 (slice_index s.words 1); homes = s.homes; views = set s.views i v }
  not_yet s h i v at =
      let words = same_words s.words (h.drawn % 2 ^ 64) (h.served % 2 ^ 64) (version h.newest) h.words_are in
      let views = set_again s.views i v at in
      let whole : ◌≡◌ {A = State (Option V) (View O C)} s record { words = set s.words 1 (slice_index s.words 1); homes = s.homes; views = set s.views i v } = λ k. record { words = sym words k; homes = s.homes; views = sym views k } in
      subst Kept whole h

  pub looks : (slots i : ℕ) (v : View O C) → v.spent ≡ false → v.queued ≡ true → v.serving ≡ false
      → Allows Kept slots i (v, []) 1 (λ n. n) (λ found. Looks opening commits version_of (v, []) found)
  looks slots i v live waits out s h wide at bound =
      let found : slice_index s.words 1 ≡ h.served % 2 ^ 64 = ap (λ ws. slice_index ws 1) h.words_are in
      ⊎_elim
      (λ (t : (eqb (slice_index s.words 1) (v.ticket % 2 ^ 64) ≡ true) × (slice_index s.words 1 ≡ v.ticket % 2 ^ 64)).
      let is : v.ticket ≡ h.served = one_ticket s h i v at live waits (sym found ∙ t.1) in
      let r = is_served s h i v at live waits out is (slice_index s.words 1) (home_then s h i v at waits out is h.slot) refl in
      (r.0, takes 0 r.1, r.2, r.3, subst (λ b. Rattle.std.specs.Prelude.MatchBool b (Takes opening commits version_of (v, []) (r.0, (0, r.1) ∷ [])) (◌≡◌ {A = Me (Option V) (View O C)} (r.0, (0, r.1) ∷ []) (v, []))) (sym t.0) r.4))
      (λ (t : (eqb (slice_index s.words 1) (v.ticket % 2 ^ 64) ≡ false) × (slice_index s.words 1 ≢ v.ticket % 2 ^ 64)).
      (v, keeps, tt, not_yet s h i v at, subst (λ b. Rattle.std.specs.Prelude.MatchBool b (Takes opening commits version_of (v, []) (v, [])) (◌≡◌ {A = Me (Option V) (View O C)} (v, []) (v, []))) (sym t.0) refl))
      (eqb_tells (slice_index s.words 1) (v.ticket % 2 ^ 64))

  -- ---- a turn ends, with the seat's own commits or with none
  pub ends : (slots i : ℕ) (v : View O C) (x : V) (others : List (ℕ × Option V)) (new : List (ℕ × C))
      → v.spent ≡ false → v.queued ≡ true → v.serving ≡ true
      → Some (opening x) ≡ v.opening → commits x ≡ (v.start ++ v.since) ++ new → ((n : ℕ) → n ≢ v.number → commits_by n new ≡ [])
      → ((b : List (ℕ × C)) → Continues b new → version_of (opening x) ((v.start ++ v.since) ++ b) ≤ version_of (opening x) ((v.start ++ v.since) ++ new))
      → Allows Kept slots i (v, (0, Some x) ∷ others) 1 (λ n. (n + 1) % 2 ^ 64) (λ _. Ends opening commits version_of (v, (0, Some x) ∷ others))
  ends slots i v x others new live waits out opening_is commits_are own rises s h wide at bound =
      let mine : FitsHere h.since h.newest h.drawn h.served i v = h.fits i v at live in
      let all : v.since ≡ h.since = mine.seen_all out in
      let is : v.ticket ≡ h.served = mine.served_is out in
      let now : drop (length v.start) (commits x) ≡ h.since ++ new = ap (drop (length v.start)) (commits_are ∙ append_assoc v.start v.since new) ∙ drop-append_seam v.start (v.since ++ new) ∙ ap (λ l. l ++ new) all in
      let w : View O C = record v { queued = false; serving = false; since = drop (length v.start) (commits x); heard = drop (length v.start) (commits x); version = version_of (opening x) (commits x) } in
      let same_opening : opening x ≡ opening terms.value.value = ap (elim_some (opening x)) (opening_is ∙ mine.opening_is) in
      let stands : commits x ≡ commits terms.value.value ++ (h.since ++ new) = commits_are ∙ append_assoc v.start v.since new ∙ (λ k. mine.start_is k ++ (all k ++ new)) in
      let up : (b : List (ℕ × C)) → Continues b new → version (h.since ++ b) ≤ version (h.since ++ new) = λ b c.
      let r = rises b c in
      let left : version_of (opening x) ((v.start ++ v.since) ++ b) ≡ version (h.since ++ b) = ap (version_of (opening x)) (append_assoc v.start v.since b) ∙ (λ k. version_of (same_opening k) (mine.start_is k ++ (all k ++ b))) in
      let right : version_of (opening x) ((v.start ++ v.since) ++ new) ≡ version (h.since ++ new) = ap (version_of (opening x)) (append_assoc v.start v.since new) ∙ (λ k. version_of (same_opening k) (mine.start_is k ++ (all k ++ new))) in
      omega arith
      in
      let count = count_set queued s.views i v w at in
      let one : one_if queued v ≡ 1 = ap (λ b. cond b 1 0) waits in
      let next : (slice_index s.words 1 + 1) % 2 ^ 64 ≡ (h.served + 1) % 2 ^ 64 = ap (λ ws. (slice_index ws 1 + 1) % 2 ^ 64) h.words_are ∙ mod-add-mod h.served (2 ^ 64) 1 in
      let by_me : (n : ℕ) → n ≢ i → commits_by n new ≡ [] = λ n apart. own n (λ e. apart (e ∙ mine.number_is)) in (
        w,
        gives,
        tt,
        changed s h i v w at live (record { spent_is = live; made_is = refl; told_is = refl }) new by_me
            h.drawn (h.served + 1) h.newest (set s.words 1 ((slice_index s.words 1 + 1) % 2 ^ 64)) (set s.homes 0 (some (Some x)))
            (word_1 s.words (h.drawn % 2 ^ 64) (h.served % 2 ^ 64) (version h.newest) _ h.words_are ∙ ap (λ n. h.drawn % 2 ^ 64 ∷ n ∷ version h.newest ∷ []) next)
            (let c = h.counted in omega arith)
            (continues_more h.newest h.since new h.reached)
            (omega arith)
            (none_above_more version h.since new h.none_above up)
            record {
              number_is = mine.number_is;
              opening_is = mine.opening_is;
              start_is = mine.start_is;
              seen = ([], sym now ∙ sym (append-nil w.since), refl);
              heard = ([], sym now ∙ sym (append-nil w.heard));
              version_is = (λ k. version_of (same_opening k) (stands k)) ∙ ap version (sym now);
              raised = mine.raised;
              ticket_from = λ q. absurd (off refl q);
              ticket_below = λ q. absurd (off refl q);
              served_is = λ q. absurd (off refl q);
              serving_queued = λ q. q;
              seen_all = λ q. absurd (off refl q);
            }
            (λ j u apart there. ⊎_elim
            (λ (spent : u.spent ≡ true). let g = h.fits_spent j u there spent in ((λ q. absurd (off g.not_queued q)), (λ q. absurd (off g.not_serving q)), (λ q r _. absurd (off refl r))))
            (λ (spent : u.spent ≡ false). let f = h.fits j u there spent in (
              (λ q. (let from = f.ticket_from q in let ne : u.ticket ≢ h.served = λ e. apart (h.apart j i u v there at q waits (e ∙ sym is)) in omega arith, f.ticket_below q)),
              (λ q. absurd (apart (alone s h i v at waits is j u there q))),
              (λ q r _. absurd (off refl r)),
            ))
            (cases_Bool u.spent))
            (inl record { value = x; there = home_again s.homes h.slot; opening_is = same_opening; commits_are = stands }),
        record { value = x; was = refl; view_is = refl; held = refl },
      )
    where
      elim_some : O → Option O → O
      elim_some d (Some y) = y
      elim_some d None = d

      home_again : (homes : List (maybe.Option (Option V))) → AtHome opening commits terms.value.value h.since homes ⊎ IsOut homes s.views → set homes 0 (some (Some x)) ≡ some (Some x) ∷ []
      home_again homes (inl a) = ap (λ hs. set hs 0 (some (Some x))) a.there
      home_again homes (inr o) = ap (λ hs. set hs 0 (some (Some x))) o.gone

  -- ---- the newest word is raised
  word_2 : (words : List ℕ) (a b c n : ℕ) → words ≡ a ∷ b ∷ c ∷ [] → set words 2 n ≡ a ∷ b ∷ n ∷ []
  word_2 words a b c n e = ap (λ ws. set ws 2 n) e

  -- the word becomes the version of a beginning, and is not below what it was;
  -- an idle seat may have heard of a beginning
  topped : (s : State (Option V) (View O C)) (h : Kept s) (i : ℕ) (v : View O C) → get_elem? s.views i ≡ some v → v.spent ≡ false → v.queued ≡ false → v.serving ≡ false
      → (heard newest : List (ℕ × C)) (known raised n : ℕ) → Continues heard h.since → known ≡ version heard → Continues newest h.since → n ≡ version newest → version h.newest ≤ n → raised ≤ n
      → Kept record { words = set s.words 2 n; homes = s.homes; views = set s.views i (record v { heard = heard; version = known; raised = raised }) }
  topped s h i v at live idle out heard newest known raised n begins known_is reached n_is up low =
      let w : View O C = record v { heard = heard; version = known; raised = raised } in
      let mine : FitsHere h.since h.newest h.drawn h.served i v = h.fits i v at live in
      let count = count_set queued s.views i v w at in
      let all : h.since ++ [] ≡ h.since = append-nil h.since in
      changed s h i v w at live (record { spent_is = live; made_is = refl; told_is = refl }) [] (λ m apart. refl)
      h.drawn h.served newest (set s.words 2 n) s.homes
      (word_2 s.words (h.drawn % 2 ^ 64) (h.served % 2 ^ 64) (version h.newest) n h.words_are ∙ ap (λ m. h.drawn % 2 ^ 64 ∷ h.served % 2 ^ 64 ∷ m ∷ []) n_is)
      (let c = h.counted in omega arith)
      (continues_more newest h.since [] reached)
      (omega arith)
      (subst (NoneAbove version) (sym all) h.none_above)
      record {
        number_is = mine.number_is;
        opening_is = mine.opening_is;
        start_is = mine.start_is;
        seen = grows_more i v.since h.since [] mine.seen refl;
        heard = continues_more heard h.since [] begins;
        version_is = known_is;
        raised = omega arith;
        ticket_from = λ q. absurd (off idle q);
        ticket_below = λ q. absurd (off idle q);
        served_is = λ q. absurd (off out q);
        serving_queued = λ q. absurd (off out q);
        seen_all = λ q. absurd (off out q);
      }
      (λ j u apart there. ⊎_elim
      (λ (spent : u.spent ≡ true). let g = h.fits_spent j u there spent in ((λ q. absurd (off g.not_queued q)), (λ q. absurd (off g.not_serving q)), (λ q r _. absurd (off idle r))))
      (λ (spent : u.spent ≡ false). let f = h.fits j u there spent in (
        (λ q. (f.ticket_from q, f.ticket_below q)),
        (λ q. (f.served_is q, f.seen_all q ∙ sym all)),
        (λ q r _. absurd (off idle r)),
      ))
      (cases_Bool u.spent))
      (⊎_elim
      (λ (a : AtHome opening commits terms.value.value h.since s.homes). inl record { value = a.value; there = a.there; opening_is = a.opening_is; commits_are = a.commits_are ∙ ap (λ l. commits terms.value.value ++ l) (sym all) })
      (λ (o : IsOut s.homes s.views). inr record { gone = o.gone; seat = o.seat; view = o.view; there = set_else s.views i o.seat w (not_here s i v at out o) ∙ o.there; serving = o.serving })
      h.slot)
    where
      not_here : (s : State (Option V) (View O C)) (i : ℕ) (v : View O C) → get_elem? s.views i ≡ some v → v.serving ≡ false → (o : IsOut s.homes s.views) → o.seat ≢ i
      not_here s i v at out o e = off out (ap (λ (y : View O C). y.serving) (same_there s.views i v o.view at (subst (λ n. get_elem? s.views n ≡ some o.view) e o.there)) ∙ o.serving)

  -- the version after a list of commits, as the seat can say it
  version_known : (since newest : List (ℕ × C)) (drawn served i : ℕ) (v : View O C) → FitsHere since newest drawn served i v → (o : O) → v.opening ≡ Some o → (cs : List (ℕ × C)) → version cs ≡ version_of o (v.start ++ cs)
  version_known since newest drawn served i v mine o is cs =
      let same : opening terms.value.value ≡ o = Some-injective (opening terms.value.value) o (sym mine.opening_is ∙ is) in
      λ k. version_of (same k) (sym mine.start_is k ++ cs)

  -- a seat that asks hears of the history that had the newest version, or has heard of one with a greater version
  pub asks : (slots i : ℕ) (v : View O C) (known : ℕ) → v.spent ≡ false → v.queued ≡ false → v.serving ≡ false → known ≡ v.version → (first : Option V) → first ≡ Some terms.value.value
      → Allows Kept slots i (v, []) 2 (λ n. max n known) (λ found n. Asks opening commits version_of known (v, []) found n × KnowsFirst opening commits first v)
  asks slots i v known live idle out known_is first is s h wide at bound =
      let mine : FitsHere h.since h.newest h.drawn h.served i v = h.fits i v at live in
      let word : slice_index s.words 2 ≡ version h.newest = ap (λ ws. slice_index ws 2) h.words_are in
      let n : ℕ = max (slice_index s.words 2) known in
      let own : known ≡ version v.heard = known_is ∙ mine.version_is in
      ⊎_elim
      (λ (lt : slice_index s.words 2 < known).
      let most : n ≡ version v.heard = (let top : max (slice_index s.words 2) known ≡ known = omega arith in top ∙ own) in (
        record v { heard = v.heard; version = n; raised = n },
        keeps,
        tt,
        topped s h i v at live idle out v.heard v.heard n n n mine.heard most mine.heard most (omega arith) (omega arith),
        (told s h i v at live v.heard most mine, knows_first s h i v at live first is),
      ))
      (λ (le : known ≤ slice_index s.words 2).
      let most : n ≡ version h.newest = (let top : max (slice_index s.words 2) known ≡ slice_index s.words 2 = omega arith in top ∙ word) in (
        record v { heard = h.newest; version = n; raised = n },
        keeps,
        tt,
        topped s h i v at live idle out h.newest h.newest n n n h.reached most h.reached most (omega arith) (omega arith),
        (told s h i v at live h.newest most mine, knows_first s h i v at live first is),
      ))
      (cases_lt (slice_index s.words 2) known)
    where
      told : (s : State (Option V) (View O C)) (h : Kept s) (i : ℕ) (v : View O C) → get_elem? s.views i ≡ some v → v.spent ≡ false → (heard : List (ℕ × C)) → max (slice_index s.words 2) known ≡ version heard → FitsHere h.since h.newest h.drawn h.served i v
          → Asks opening commits version_of known (v, []) (slice_index s.words 2) (record v { heard = heard; version = max (slice_index s.words 2) known; raised = max (slice_index s.words 2) known }, [])
      told s h i v at live heard most mine = record {
        view_is = refl;
        held = refl;
        before = λ o e. mine.version_is ∙ version_known h.since h.newest h.drawn h.served i v mine o e v.heard;
        after = λ o e. most ∙ version_known h.since h.newest h.drawn h.served i v mine o e heard;
      }

  -- a seat raises the word to the version that it has heard of
  pub raises : (slots i : ℕ) (v : View O C) (known : ℕ) → v.spent ≡ false → v.queued ≡ false → v.serving ≡ false → known ≡ v.version
      → Allows Kept slots i (v, []) 2 (λ n. max n known) (λ _ n. Raises opening commits (v, []) n)
  raises slots i v known live idle out known_is s h wide at bound =
      let mine : FitsHere h.since h.newest h.drawn h.served i v = h.fits i v at live in
      let word : slice_index s.words 2 ≡ version h.newest = ap (λ ws. slice_index ws 2) h.words_are in
      let n : ℕ = max (slice_index s.words 2) known in
      let own : known ≡ version v.heard = known_is ∙ mine.version_is in
      ⊎_elim
      (λ (lt : slice_index s.words 2 < known).
      let most : n ≡ version v.heard = (let top : max (slice_index s.words 2) known ≡ known = omega arith in top ∙ own) in
      (record v { raised = v.version }, keeps, tt, topped s h i v at live idle out v.heard v.heard v.version v.version n mine.heard mine.version_is mine.heard most (omega arith) (omega arith), record { view_is = refl; held = refl }))
      (λ (le : known ≤ slice_index s.words 2).
      let most : n ≡ version h.newest = (let top : max (slice_index s.words 2) known ≡ slice_index s.words 2 = omega arith in top ∙ word) in
      (record v { raised = v.version }, keeps, tt, topped s h i v at live idle out v.heard h.newest v.version v.version n mine.heard mine.version_is h.reached most (omega arith) (omega arith), record { view_is = refl; held = refl }))
      (cases_lt (slice_index s.words 2) known)

  -- what a seat fits where only what it alone knows of others changes
  fits_again : (since newest : List (ℕ × C)) (drawn served i : ℕ) (v w : View O C) → w ≡ record v { made = w.made; told = w.told } → FitsHere since newest drawn served i v → FitsHere since newest drawn served i w
  fits_again since newest drawn served i v w is mine = subst (FitsHere since newest drawn served i) (sym is) record {
    number_is = mine.number_is;
    opening_is = mine.opening_is;
    start_is = mine.start_is;
    seen = mine.seen;
    heard = mine.heard;
    version_is = mine.version_is;
    raised = mine.raised;
    ticket_from = mine.ticket_from;
    ticket_below = mine.ticket_below;
    served_is = mine.served_is;
    serving_queued = mine.serving_queued;
    seen_all = mine.seen_all;
  }

  -- ---- the first seat makes a seat
  pub splits : (i : ℕ) (v : View O C) → v.number ≡ 0 → v.spent ≡ false → v.queued ≡ false → v.serving ≡ false → v.made < terms.seats → Splits Kept i v (left_view v) (right_view v)
  splits i v first live idle out room s h at =
      let mine : FitsHere h.since h.newest h.drawn h.served i v = h.fits i v at live in
      let zeroth : i ≡ 0 = sym mine.number_is ∙ first in
      let made : v.made ≡ length s.views = h.leads v (subst (λ n. get_elem? s.views n ≡ some v) zeroth at) live in
      let w : View O C = left_view v in
      let u' : View O C = right_view v in
      let views : List (View O C) = set s.views i w in
      let long : length views ≡ length s.views = length-set s.views i w in
      let count = count_set queued s.views i v w at in
      let count' = count_end queued views u' in
      let none : one_if queued u' ≡ 0 = ap (λ b. cond b 1 0) idle in
      let size = length-append views (u' ∷ []) in record {
        drawn = h.drawn;
        served = h.served;
        since = h.since;
        newest = h.newest;
        words_are = h.words_are;
        counted = (let c = h.counted in omega arith);
        few = omega arith;
        at_most_twenty = h.at_most_twenty;
        reached = h.reached;
        none_above = h.none_above;
        fits = λ j u e spent. ⊎_elim
            (λ (t : get_elem? views j ≡ some u). fits_old s h at j u spent mine t)
            (λ (t : (j ≡ length views) × (u' ≡ u)). subst (λ (y : ℕ × View O C). FitsHere h.since h.newest h.drawn h.served y.0 y.1) (λ k. ((made ∙ sym long ∙ sym t.0) k, t.1 k)) (fits_new s h mine made))
            (at_end views u' u j e);
        fits_spent = λ j u e spent. ⊎_elim
            (λ (t : get_elem? views j ≡ some u). ⊎_elim
            (λ (t' : (j ≡ i) × (w ≡ u)). absurd (off live (ap (λ (x : View O C). x.spent) t'.1 ∙ spent)))
            (λ (t' : (j ≢ i) × (get_elem? s.views j ≡ some u)). h.fits_spent j u t'.1 spent)
            (at_set s.views i j w u t))
            (λ (t : (j ≡ length views) × (u' ≡ u)). absurd (off live (ap (λ (x : View O C). x.spent) t.1 ∙ spent)))
            (at_end views u' u j e);
        apart = λ j k u x e f p q r. h.apart j k u x (waiting_old s j u e p) (waiting_old s k x f q) p q r;
        unborn = λ n le. h.unborn n (omega arith);
        gathers = λ j u e spent. ⊎_elim
            (λ (t : get_elem? views j ≡ some u). ⊎_elim
            (λ (t' : (j ≡ i) × (w ≡ u)). gathers_old s h at v u (ap (λ (y : View O C). y.told) (sym t'.1)) (h.gathers i v at live))
            (λ (t' : (j ≢ i) × (get_elem? s.views j ≡ some u)). gathers_old s h at u u refl (h.gathers j u t'.1 spent))
            (at_set s.views i j w u t))
            (λ (t : (j ≡ length views) × (u' ≡ u)). subst (Gathers (views ++ u' ∷ []) (commits terms.value.value) h.since) t.1 record {
              counted = (let few = count_few alive (views ++ u' ∷ []) in omega arith);
              told_spent = λ k e' there. absurd (cc);
              told_is = λ k e' there. absurd (cc);
            })
            (at_end views u' u j e);
        leads = λ u e spent. ⊎_elim
            (λ (t : get_elem? views 0 ≡ some u). ⊎_elim
            (λ (t' : (0 ≡ i) × (w ≡ u)). let more : u.made ≡ v.made + 1 = ap (λ (y : View O C). y.made) (sym t'.1) in omega arith)
            (λ (t' : (0 ≢ i) × (get_elem? s.views 0 ≡ some u)). absurd (t'.0 (sym zeroth)))
            (at_set s.views i 0 w u t))
            (λ (t : (0 ≡ length views) × (u' ≡ u)). let b = at_below s.views i v at in absurd (omega arith))
            (at_end views u' u 0 e);
        slot = ⊎_elim inl
            (λ (o : IsOut s.homes s.views). inr record { gone = o.gone; seat = o.seat; view = o.view; there = at_longer views (u' ∷ []) o.seat o.view (set_else s.views i o.seat w (not_here s at o) ∙ o.there); serving = o.serving })
            h.slot;
      }
    where
      not_here : (s : State (Option V) (View O C)) → get_elem? s.views i ≡ some v → (o : IsOut s.homes s.views) → o.seat ≢ i
      not_here s at o e = off out (ap (λ (y : View O C). y.serving) (same_there s.views i v o.view at (subst (λ n. get_elem? s.views n ≡ some o.view) e o.there)) ∙ o.serving)

      fits_old : (s : State (Option V) (View O C)) (h : Kept s) → get_elem? s.views i ≡ some v → (j : ℕ) (u : View O C) → u.spent ≡ false → FitsHere h.since h.newest h.drawn h.served i v
          → get_elem? (set s.views i (left_view v)) j ≡ some u → FitsHere h.since h.newest h.drawn h.served j u
      fits_old s h at j u spent mine t = ⊎_elim
          (λ (t' : (j ≡ i) × (left_view v ≡ u)). subst (λ (y : ℕ × View O C). FitsHere h.since h.newest h.drawn h.served y.0 y.1) (λ k. (sym t'.0 k, t'.1 k)) (fits_again h.since h.newest h.drawn h.served i v (left_view v) refl mine))
          (λ (t' : (j ≢ i) × (get_elem? s.views j ≡ some u)). h.fits j u t'.1 spent)
          (at_set s.views i j (left_view v) u t)

      fits_new : (s : State (Option V) (View O C)) (h : Kept s) → FitsHere h.since h.newest h.drawn h.served i v → v.made ≡ length s.views
          → FitsHere h.since h.newest h.drawn h.served v.made (right_view v)
      fits_new s h mine made = record {
        number_is = refl;
        opening_is = mine.opening_is;
        start_is = mine.start_is;
        seen = grows_from_none i v.made v.since h.since mine.seen (h.unborn v.made (omega arith));
        heard = mine.heard;
        version_is = mine.version_is;
        raised = mine.raised;
        ticket_from = λ q. absurd (off idle q);
        ticket_below = λ q. absurd (off idle q);
        served_is = λ q. absurd (off out q);
        serving_queued = λ q. absurd (off out q);
        seen_all = λ q. absurd (off out q);
      }

      -- what the older seats were told still holds
      gathers_old : (s : State (Option V) (View O C)) (h : Kept s) → get_elem? s.views i ≡ some v → (u u' : View O C) → u'.told ≡ u.told → Gathers s.views (commits terms.value.value) h.since u
          → Gathers (set s.views i (left_view v) ++ right_view v ∷ []) (commits terms.value.value) h.since u'
      gathers_old s h at u u' told g = record {
        counted = (
            let views : List (View O C) = set s.views i (left_view v) in
            let count = count_set alive s.views i v (left_view v) at in
            let count' = count_end alive views (right_view v) in
            let one : one_if alive v ≡ 1 = ap (λ b. cond (not b) 1 0) live in
            let one' : one_if alive (left_view v) ≡ 1 = ap (λ b. cond (not b) 1 0) live in
            let one'' : one_if alive (right_view v) ≡ 1 = ap (λ b. cond (not b) 1 0) live in
            let long = length-set s.views i (left_view v) in
            let size = length-append views (right_view v ∷ []) in
            let more : length u'.told ≡ length u.told = ap length told in
            let c = g.counted in
            omega arith
            );
        told_spent = λ k e there.
            let spent = g.told_spent k e (here k e there) in
            at_longer (set s.views i (left_view v)) (right_view v ∷ []) e.number spent_view (set_else s.views i e.number (left_view v) (not_spent s at e.number spent) ∙ spent);
        told_is = λ k e there. g.told_is k e (here k e there);
      }
        where
          here : (k : ℕ) (e : Joined C) → slice_get u'.told k ≡ Some e → slice_get u.told k ≡ Some e
          here k e there = ap (λ (ts : List (Joined C)). slice_get ts k) (sym told) ∙ there

          not_spent : (s : State (Option V) (View O C)) → get_elem? s.views i ≡ some v → (n : ℕ) → get_elem? s.views n ≡ some spent_view → n ≢ i
          not_spent s at n there e = off live (ap (λ (x : View O C). x.spent) (same_there s.views i v spent_view at (subst (λ m. get_elem? s.views m ≡ some spent_view) e there)))

      -- who has a ticket is an older seat, and not the first
      waiting_old : (s : State (Option V) (View O C)) (j : ℕ) (u : View O C) → get_elem? (set s.views i (left_view v) ++ right_view v ∷ []) j ≡ some u → u.queued ≡ true → get_elem? s.views j ≡ some u
      waiting_old s j u e p = ⊎_elim
          (λ (t : get_elem? (set s.views i (left_view v)) j ≡ some u). ⊎_elim
          (λ (t' : (j ≡ i) × (left_view v ≡ u)). absurd (off idle (ap (λ (x : View O C). x.queued) t'.1 ∙ p)))
          (λ (t' : (j ≢ i) × (get_elem? s.views j ≡ some u)). t'.1)
          (at_set s.views i j (left_view v) u t))
          (λ (t : (j ≡ length (set s.views i (left_view v))) × (right_view v ≡ u)). absurd (off idle (ap (λ (x : View O C). x.queued) t.1 ∙ p)))
          (at_end (set s.views i (left_view v)) (right_view v) u j e)

  -- ---- a seat takes in another
  pub joins : (i : ℕ) (v : View O C) (other : ℕ) (w : View O C) → v.spent ≡ false → v.queued ≡ false → v.serving ≡ false → w.spent ≡ false → w.queued ≡ false → w.serving ≡ false
      → Joins Kept i v other w (joined_view v w) spent_view
  joins i v other w live idle out live' idle' out' s h at apart there =
      let mine : FitsHere h.since h.newest h.drawn h.served i v = h.fits i v at live in
      let both : View O C = joined_view v w in
      let there' : get_elem? s.views other ≡ some w = sym (set_else s.views i other both apart) ∙ there in
      let theirs : FitsHere h.since h.newest h.drawn h.served other w = h.fits other w there' live' in
      let mid : List (View O C) = set s.views i both in
      let views : List (View O C) = set mid other spent_view in
      let long : length views ≡ length s.views = length-set mid other spent_view ∙ length-set s.views i both in
      let count = count_set queued s.views i v both at in
      let count' = count_set queued mid other w spent_view there in
      let none : one_if queued w ≡ 0 = ap (λ b. cond b 1 0) idle' in
      let lives = count_set alive s.views i v both at in
      let lives' = count_set alive mid other w spent_view there in
      let one : one_if alive v ≡ 1 = ap (λ b. cond (not b) 1 0) live in
      let one' : one_if alive both ≡ 1 = ap (λ b. cond (not b) 1 0) live in
      let one'' : one_if alive w ≡ 1 = ap (λ b. cond (not b) 1 0) live' in
      record {
        drawn = h.drawn;
        served = h.served;
        since = h.since;
        newest = h.newest;
        words_are = h.words_are;
        counted = (let c = h.counted in omega arith);
        few = (let f = h.few in omega arith);
        at_most_twenty = h.at_most_twenty;
        reached = h.reached;
        none_above = h.none_above;
        fits = λ j u e spent. ⊎_elim
            (λ (t : (j ≡ other) × (spent_view ≡ u)). absurd (off (ap (λ (x : View O C). x.spent) t.1 ∙ spent) refl))
            (λ (t : (j ≢ other) × (get_elem? mid j ≡ some u)). ⊎_elim
            (λ (t' : (j ≡ i) × (both ≡ u)). subst (λ (y : ℕ × View O C). FitsHere h.since h.newest h.drawn h.served y.0 y.1) (λ k. (sym t'.0 k, t'.1 k)) (fits_again h.since h.newest h.drawn h.served i v both refl mine))
            (λ (t' : (j ≢ i) × (get_elem? s.views j ≡ some u)). h.fits j u t'.1 spent)
            (at_set s.views i j both u t.1))
            (at_set mid other j spent_view u e);
        fits_spent = λ j u e spent. ⊎_elim
            (λ (t : (j ≡ other) × (spent_view ≡ u)). subst FitsSpent t.1 record { not_queued = refl; not_serving = refl })
            (λ (t : (j ≢ other) × (get_elem? mid j ≡ some u)). ⊎_elim
            (λ (t' : (j ≡ i) × (both ≡ u)). absurd (off live (ap (λ (x : View O C). x.spent) t'.1 ∙ spent)))
            (λ (t' : (j ≢ i) × (get_elem? s.views j ≡ some u)). h.fits_spent j u t'.1 spent)
            (at_set s.views i j both u t.1))
            (at_set mid other j spent_view u e);
        apart = λ j k u x e f p q r. h.apart j k u x (waiting_old s other j u e p) (waiting_old s other k x f q) p q r;
        unborn = λ n le. h.unborn n (omega arith);
        gathers = λ j u e spent. ⊎_elim
            (λ (t : (j ≡ other) × (spent_view ≡ u)). absurd (off (ap (λ (x : View O C). x.spent) t.1 ∙ spent) refl))
            (λ (t : (j ≢ other) × (get_elem? mid j ≡ some u)). ⊎_elim
            (λ (t' : (j ≡ i) × (both ≡ u)). let g = h.gathers i v at live in subst (Gathers views (commits terms.value.value) h.since) t'.1 record {
              counted = (let c = g.counted in let l = length-append v.told (joined w ∷ []) in omega arith);
              told_spent = λ k e' here. ⊎_elim
                  (λ (d : slice_get v.told k ≡ Some e'). still_spent s other at there e'.number (g.told_spent k e' d))
                  (λ (d : (k ≡ length v.told) × (joined w ≡ e')). subst (λ n. get_elem? views n ≡ some spent_view) (sym theirs.number_is ∙ ap (λ (x : Joined C). x.number) d.1) (set_here mid other spent_view (at_below mid other w there)))
                  (get_at_end v.told (joined w) e' k here);
              told_is = λ k e' here. ⊎_elim
                  (λ (d : slice_get v.told k ≡ Some e'). g.told_is k e' d)
                  (λ (d : (k ≡ length v.told) × (joined w ≡ e')). subst (WasTold (commits terms.value.value) h.since) d.1 record { start_is = theirs.start_is; seen = subst (λ n. GrowsWithout n w.since h.since) (sym theirs.number_is) theirs.seen; heard = theirs.heard })
                  (get_at_end v.told (joined w) e' k here);
            })
            (λ (t' : (j ≢ i) × (get_elem? s.views j ≡ some u)). let g = h.gathers j u t'.1 spent in record {
              counted = (let c = g.counted in omega arith);
              told_spent = λ k e' here. still_spent s other at there e'.number (g.told_spent k e' here);
              told_is = g.told_is;
            })
            (at_set s.views i j both u t.1))
            (at_set mid other j spent_view u e);
        leads = λ u e spent. ⊎_elim
            (λ (t : (0 ≡ other) × (spent_view ≡ u)). absurd (off (ap (λ (x : View O C). x.spent) t.1 ∙ spent) refl))
            (λ (t : (0 ≢ other) × (get_elem? mid 0 ≡ some u)). ⊎_elim
            (λ (t' : (0 ≡ i) × (both ≡ u)). ap (λ (y : View O C). y.made) (sym t'.1) ∙ h.leads v (subst (λ n. get_elem? s.views n ≡ some v) (sym t'.0) at) live ∙ sym long)
            (λ (t' : (0 ≢ i) × (get_elem? s.views 0 ≡ some u)). h.leads u t'.1 spent ∙ sym long)
            (at_set s.views i 0 both u t.1))
            (at_set mid other 0 spent_view u e);
        slot = ⊎_elim inl
            (λ (o : IsOut s.homes s.views). inr record {
              gone = o.gone;
              seat = o.seat;
              view = o.view;
              there = set_else mid other o.seat spent_view (served_else s o other w there' out') ∙ set_else s.views i o.seat both (served_else s o i v at out) ∙ o.there;
              serving = o.serving;
            })
            h.slot;
      }
    where
      served_else : (s : State (Option V) (View O C)) (o : IsOut s.homes s.views) (j : ℕ) (u : View O C) → get_elem? s.views j ≡ some u → u.serving ≡ false → o.seat ≢ j
      served_else s o j u there' idly e = off idly (ap (λ (y : View O C). y.serving) (same_there s.views j u o.view there' (subst (λ n. get_elem? s.views n ≡ some o.view) e o.there)) ∙ o.serving)

      -- who is spent stays so
      still_spent : (s : State (Option V) (View O C)) (other : ℕ) → get_elem? s.views i ≡ some v → get_elem? (set s.views i (joined_view v w)) other ≡ some w → (n : ℕ) → get_elem? s.views n ≡ some spent_view → get_elem? (set (set s.views i (joined_view v w)) other spent_view) n ≡ some spent_view
      still_spent s other at there n spent =
          let mid : List (View O C) = set s.views i (joined_view v w) in
          let not_me : n ≢ i = λ e. off live (ap (λ (x : View O C). x.spent) (same_there s.views i v spent_view at (subst (λ m. get_elem? s.views m ≡ some spent_view) e spent))) in
          let here : get_elem? mid n ≡ some spent_view = set_else s.views i n (joined_view v w) not_me ∙ spent in
          let not_other : n ≢ other = λ e. off live' (ap (λ (x : View O C). x.spent) (same_there mid other w spent_view there (subst (λ m. get_elem? mid m ≡ some spent_view) e here))) in
          set_else mid other n spent_view not_other ∙ here

      -- who has a ticket is neither of the two
      waiting_old : (s : State (Option V) (View O C)) (other j : ℕ) (u : View O C) → get_elem? (set (set s.views i (joined_view v w)) other spent_view) j ≡ some u → u.queued ≡ true → get_elem? s.views j ≡ some u
      waiting_old s other j u e p = ⊎_elim
          (λ (t : (j ≡ other) × (spent_view ≡ u)). absurd (off (ap (λ (x : View O C). x.queued) (sym t.1)) p))
          (λ (t : (j ≢ other) × (get_elem? (set s.views i (joined_view v w)) j ≡ some u)). ⊎_elim
          (λ (t' : (j ≡ i) × (joined_view v w ≡ u)). absurd (off idle (ap (λ (x : View O C). x.queued) t'.1 ∙ p)))
          (λ (t' : (j ≢ i) × (get_elem? s.views j ≡ some u)). t'.1)
          (at_set s.views i j (joined_view v w) u t.1))
          (at_set (set s.views i (joined_view v w)) other j spent_view u e)

  -- ---- the end: where a seat has taken in all others, the slot has a value that represents the whole history
  pub closes : (i : ℕ) (v : View O C) (ws : List ℕ) (xs : List (Option V)) → v.spent ≡ false → v.serving ≡ false → length v.told + 1 ≡ terms.seats → Final (Seen Kept i v) ws xs → (value : V) × (get_elem? xs 0 ≡ some (Some value)) × IsLast opening commits terms v value
  closes i v ws xs live out all f = at_home f.1.0.slot
    where
      h : Kept f.0
      h = f.1.0

      mine : FitsHere h.since h.newest h.drawn h.served i v
      mine = h.fits i v f.1.1 live

      gathered : Gathers f.0.views (commits terms.value.value) h.since v
      gathered = h.gathers i v f.1.1 live

      -- nobody else is left
      nobody : (j : ℕ) (u : View O C) → get_elem? f.0.views j ≡ some u → u.serving ≡ true → ⊥
      nobody j u e q = ⊎_elim
          (λ (spent : u.spent ≡ true). off ((h.fits_spent j u e spent).not_serving) q)
          (λ (left : u.spent ≡ false).
          let apart : i ≢ j = λ same. off out (ap (λ (y : View O C). y.serving) (same_there f.0.views i v u f.1.1 (subst (λ n. get_elem? f.0.views n ≡ some u) (sym same) e)) ∙ q) in
          let two = two_pass alive f.0.views i j v u f.1.1 e apart (ap not live) (ap not left) in
          let c = gathered.counted in
          let few = h.few in
          omega arith)
          (cases_Bool u.spent)

      at_home : AtHome opening commits terms.value.value h.since f.0.homes ⊎ IsOut f.0.homes f.0.views → (value : V) × (get_elem? xs 0 ≡ some (Some value)) × IsLast opening commits terms v value
      at_home (inl a) = (
        a.value,
        f.4 0 (Some a.value) (ap (λ hs. get_elem? hs 0) a.there),
        record {
          since = h.since;
          opening_is = a.opening_is;
          commits_are = a.commits_are;
          leader = record { start_is = mine.start_is; seen = subst (λ n. GrowsWithout n v.since h.since) (sym mine.number_is) mine.seen; heard = mine.heard };
          others = gathered.told_is;
          numbered = all_below terms.seats h.since (λ n le. h.unborn n (let few = h.few in omega arith));
        },
      )
      at_home (inr o) = absurd (nobody o.seat o.view o.there o.serving)
