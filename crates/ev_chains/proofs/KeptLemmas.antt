-- What is kept of the chains stays so by each event.
use Rattle.std.proofs.Common.{◌≡◌, ℕ, suc, ◌==◌, Bool, true, false, not, ◌&&◌, ◌||◌, cond, nat_eq, List, [], ◌∷◌, ◌++◌, filter, find, length, map, Option, Some, None, is_some, option_map, refl, sym, ap, ◌∙◌, subst, arith, inl, inr}
use Rattle.std.specs.Prelude.{◌⊎◌}
use Rattle.std.specs.List.{list_any, IsDistinct}
use Rattle.std.specs.Option.{unwrap_or}
use Rattle.std.proofs.lemmas.Bool.{true≢false, false≢true, or_parts}
use Rattle.std.proofs.lemmas.Bool.Decides.{nat_tests}
use Rattle.std.proofs.lemmas.List.Elements.{filter-append}
use Rattle.std.proofs.lemmas.List.Folds.{list_any-append}
use Rattle.ev_model.specs.World.{OpenMember}
use Rattle.ev_model.specs.Dead.{is_open_on, is_forwarded_to}
use Rattle.ev_model.specs.Picture.{has_number}
use Rattle.ev_model.specs.Publishing.{ascending}
use Rattle.ev_model.specs.Connections.{is_member}
use Rattle.ev_ledger.specs.Members.{AreApart, member_before, member_on, on_in, on_of, with_member}
use Rattle.ev_ledger.specs.declared.open_on.On.{On}
use Rattle.ev_chains.specs.Closing.{closed_by, is_closing, left_open, on_chain}
use Rattle.ev_ledger.proofs.IndexLemmas.{found_any}
use Rattle.ev_ledger.proofs.OrderLemmas.{any_put}
use Rattle.ev_chains.specs.State.{busy_among, has_open, idle_among}
use Rattle.ev_chains.specs.Kept.{Apart, ArePlaced, draining_in, drains, is_foreign, is_in, is_used}
use Rattle.ev_chains.proofs.ConnLemmas.{any_left, own, same}
use Rattle.ev_chains.proofs.RowLemmas.{and_parts, or_true, right_true}
use Rattle.ev_chains.proofs.NumberLemmas.{apart_append, apart_filter, ascending_same, distinct_apart, filter_all, filter_twice, filter_where, has_filter, in_has, not_true}

or_false : (b : Bool) → (b || false) ≡ b
or_false true = refl
or_false false = refl

-- ---- on which chains connections are open

pub none_left : {X : Type 0} (p q : X → Bool) (xs : List X) → list_any p xs ≡ false → list_any p (filter q xs) ≡ false
none_left p q [] none = refl
none_left p q (x ∷ xs) none = let parts = or_parts (p x) (list_any p xs) none in by (q x) parts.0 (none_left p q xs parts.1)
  where
    by : (t : Bool) → p x ≡ false → list_any p (filter q xs) ≡ false → list_any p (cond t (x ∷ filter q xs) (filter q xs)) ≡ false
    by true here rest = λ i. here i || rest i
    by false here rest = rest

-- a connection of the first worker's, on no cluster, is open on its listener alone
own_worker : (m : OpenMember) → is_foreign m ≡ false → (m.worker == 0) ≡ true
own_worker m none = by (m.worker == 0) (or_parts (not (m.worker == 0)) (is_some m.cluster) none).0
  where
    by : (b : Bool) → not b ≡ false → b ≡ true
    by true h = refl
    by false h = absurd (true≢false h)

own_listener : (n : ℕ) (m : OpenMember) → is_foreign m ≡ false → is_open_on n m ≡ (m.listener == n)
own_listener n m none = by m.cluster (or_parts (not (m.worker == 0)) (is_some m.cluster) none).1
  where
    by : (cluster : Option ℕ) → is_some cluster ≡ false → ((m.listener == n) || is_forwarded_to n cluster) ≡ (m.listener == n)
    by None h = or_false (m.listener == n)
    by (Some c) h = absurd (true≢false h)

some_open : (many : ℕ) → not (suc many == 0) ≡ true
some_open many = grind (arith, nat_tests)

pub open_used : (n : ℕ) (opened : List OpenMember) → list_any is_foreign opened ≡ false → has_open opened n ≡ is_used n opened
open_used n [] none = refl
open_used n (m ∷ opened) none =
    let parts = or_parts (is_foreign m) (list_any is_foreign opened) none in
    by (is_open_on n m) (open_used n opened parts.1) ∙ ap (λ b. b || is_used n opened) (own_listener n m parts.0)
  where
    by : (t : Bool) → has_open opened n ≡ is_used n opened
        → not (length (cond t (m ∷ filter (is_open_on n) opened) (filter (is_open_on n) opened)) == 0) ≡ (t || is_used n opened)
    by true rest = some_open (length (filter (is_open_on n) opened))
    by false rest = rest

-- one that closes
abbrev pub is_at : ℕ → Option On → Bool
is_at n None = false
is_at n (Some on) = on.listener == n

pub used_closed : (n conn : ℕ) (opened : List OpenMember) → AreApart opened
    → is_used n opened ≡ (is_at n (on_in 0 conn opened) || is_used n (filter (λ m. not (is_member 0 conn m)) opened))
used_closed n conn opened apart =
    split opened
    ∙ (λ i. (sym (found_any (λ m. m.listener == n) 0 conn opened apart) ∙ found (find (is_member 0 conn) opened)) i || sym (any_left (λ m. m.listener == n) (λ m. not (is_member 0 conn m)) opened) i)
  where
    found : (m : Option OpenMember) → unwrap_or (option_map (λ (m : OpenMember). m.listener == n) m) false ≡ is_at n (option_map on_of m)
    found None = refl
    found (Some m) = refl

    either : (t l a b : Bool) → (l || (a || b)) ≡ (((t && l) || a) || ((not t && l) || b))
    either true true a b = refl
    either true false a b = refl
    either false true true b = refl
    either false true false b = refl
    either false false a b = refl

    split : (ms : List OpenMember)
        → is_used n ms ≡ (list_any (λ m. is_member 0 conn m && (m.listener == n)) ms || list_any (λ m. not (is_member 0 conn m) && (m.listener == n)) ms)
    split [] = refl
    split (m ∷ ms) =
        ap (λ b. (m.listener == n) || b) (split ms)
        ∙ either (is_member 0 conn m) (m.listener == n) (list_any (λ m. is_member 0 conn m && (m.listener == n)) ms) (list_any (λ m. not (is_member 0 conn m) && (m.listener == n)) ms)

-- a drain timeout closes all on the chains that drain
pub used_drained : (n : ℕ) (numbers : List ℕ) (opened : List OpenMember) → list_any is_foreign opened ≡ false → has_number n numbers ≡ true → is_used n (left_open numbers 0 opened) ≡ false
used_drained n numbers [] none drains = refl
used_drained n numbers (m ∷ opened) none drains =
    let parts = or_parts (is_foreign m) (list_any is_foreign opened) none in
    by (is_closing numbers 0 m) refl (used_drained n numbers opened parts.1 drains) (own_worker m parts.0)
  where
    by : (t : Bool) → is_closing numbers 0 m ≡ t → is_used n (left_open numbers 0 opened) ≡ false → (m.worker == 0) ≡ true
        → is_used n (cond (not t) (m ∷ left_open numbers 0 opened) (left_open numbers 0 opened)) ≡ false
    by true is rest first = rest
    by false is rest first = λ i. not_true (m.listener == n) (λ at.
        true≢false (sym drains ∙ ap (λ k. has_number k numbers) (sym (same m.listener n at)) ∙ ap (λ b. b && has_number m.listener numbers) (sym first) ∙ is)) i || rest i

-- and the same on those of them on which one is open
pub closing_same : (f : Bool → Bool) (xs ys : List ℕ) (opened : List OpenMember) → ((n : ℕ) → is_used n opened ≡ true → has_number n xs ≡ has_number n ys)
    → filter (λ m. f (is_closing xs 0 m)) opened ≡ filter (λ m. f (is_closing ys 0 m)) opened
closing_same f xs ys [] all = refl
closing_same f xs ys (m ∷ opened) all =
    let here = all m.listener (ap (λ b. b || is_used m.listener opened) (own m.listener)) in
    let rest = closing_same f xs ys opened (λ n used. all n (right_true (m.listener == n) (is_used n opened) used)) in
    λ i. cond (f ((m.worker == 0) && here i)) (m ∷ rest i) (rest i)

-- ---- each event

module _ (began idle busy : List ℕ) (opened : List OpenMember) (placed : ArePlaced began idle busy opened) where
  -- of those that began to drain, the idle and the busy ones
  idle_open : (n : ℕ) → (not (has_open opened n) && drains idle busy n) ≡ has_number n idle
  idle_open n = ap (λ b. not b && drains idle busy n) (open_used n opened placed.own) ∙ by (has_number n idle) (is_in busy n) refl refl
    where
      and_false : (b : Bool) → (b && false) ≡ false
      and_false true = refl
      and_false false = refl

      by : (i b : Bool) → has_number n idle ≡ i → is_in busy n ≡ b → (not (is_used n opened) && (i || b)) ≡ i
      by true b is has = ap (λ u. not u && true) (placed.idle_unused n is)
      by false true is has = ap (λ u. not u && true) (placed.busy_used n has)
      by false false is has = and_false (not (is_used n opened))

  busy_open : (n : ℕ) → (drains idle busy n && has_open opened n) ≡ is_in busy n
  busy_open n = ap (λ b. drains idle busy n && b) (open_used n opened placed.own) ∙ by (has_number n idle) (is_in busy n) refl refl
    where
      by : (i b : Bool) → has_number n idle ≡ i → is_in busy n ≡ b → ((i || b) && is_used n opened) ≡ b
      by true true is has = placed.busy_used n has
      by true false is has = placed.idle_unused n is
      by false true is has = placed.busy_used n has
      by false false is has = refl

  drains_began : (n : ℕ) → drains idle busy n ≡ true → has_number n began ≡ true
  drains_began n h = elim (or_true (has_number n idle) (is_in busy n) h) [
    | inl is ↦ placed.idle_began n is
    | inr is ↦ placed.busy_began n is
  ]

  -- the same list of all that began to, with each number in the one or the other
  same_draining : (idle_then busy_then : List ℕ) → ((n : ℕ) → drains idle_then busy_then n ≡ drains idle busy n) → draining_in began idle_then busy_then ≡ draining_in began idle busy
  same_draining idle_then busy_then all = filter_where (drains idle_then busy_then) (drains idle busy) began (λ n has. all n)

  -- more are idle
  module _ (began_then more : List ℕ) (opened_then : List OpenMember) (apart : Apart more)
      (grows : (n : ℕ) → has_number n began ≡ true → has_number n began_then ≡ true)
      (unused : (n : ℕ) → has_number n idle ≡ true → is_used n opened_then ≡ false)
      (new : (n : ℕ) → has_number n more ≡ true → (has_number n began_then ≡ true) × ((is_used n opened_then ≡ false) × (has_number n idle ≡ false))) where
    each : (n : ℕ) → (has_number n idle ≡ true) ⊎ (has_number n more ≡ true) → (has_number n began_then ≡ true) × (is_used n opened_then ≡ false)
    each n (inl was) = (grows n (placed.idle_began n was), unused n was)
    each n (inr is) = ((new n is).0, (new n is).1.0)

    parts : (n : ℕ) → has_number n (idle ++ more) ≡ true → (has_number n idle ≡ true) ⊎ (has_number n more ≡ true)
    parts n has = or_true (has_number n idle) (has_number n more) (sym (list_any-append (λ k. k == n) idle more) ∙ has)

    more_idle : (busy_then : List ℕ) → list_any is_foreign opened_then ≡ false → ((n : ℕ) → is_in busy_then n ≡ true → (has_number n began_then ≡ true) × (is_used n opened_then ≡ true))
        → ArePlaced began_then (idle ++ more) busy_then opened_then
    more_idle busy_then none busies = record {
      own = none;
      idle_apart = apart_append idle more placed.idle_apart apart (λ n was. not_true (has_number n more) (λ is. true≢false (sym was ∙ (new n is).1.1)));
      idle_began = λ n has. (each n (parts n has)).0;
      idle_unused = λ n has. (each n (parts n has)).1;
      busy_began = λ n has. (busies n has).0;
      busy_used = λ n has. (busies n has).1;
    }

  busy_other : (n : ℕ) → is_in busy n ≡ true → has_number n idle ≡ false
  busy_other n is = not_true (has_number n idle) (λ has. true≢false (sym (placed.busy_used n is) ∙ placed.idle_unused n has))

  -- ---- a connection comes

  pub placed_accept : (conn number : ℕ) → has_number number began ≡ false → ArePlaced began idle busy (with_member (member_on 0 conn (on_chain number)) opened)
  placed_accept conn number other = record {
    own = any_put member_before is_foreign (member_on 0 conn (on_chain number)) opened ∙ placed.own;
    idle_apart = placed.idle_apart;
    idle_began = placed.idle_began;
    idle_unused = λ n is. put n ∙ (λ i. not_true (number == n) (λ h. true≢false (sym (placed.idle_began n is) ∙ ap (λ k. has_number k began) (sym (same number n h)) ∙ other)) i || placed.idle_unused n is i);
    busy_began = placed.busy_began;
    busy_used = λ n is. put n ∙ right_true (number == n) (is_used n opened) (placed.busy_used n is);
  }
    where
      put : (n : ℕ) → is_used n (with_member (member_on 0 conn (on_chain number)) opened) ≡ ((number == n) || is_used n opened)
      put n = any_put member_before (λ m. m.listener == n) (member_on 0 conn (on_chain number)) opened

  -- ---- a connection closes

  module _ (conn : ℕ) (apart : AreApart opened) where
    abbrev pub left : List OpenMember
    left = filter (λ m. not (is_member 0 conn m)) opened

    still : (n : ℕ) → is_at n (on_in 0 conn opened) ≡ false → is_in busy n ≡ true → is_used n left ≡ true
    still n other is = ap (λ b. b || is_used n left) (sym other) ∙ sym (used_closed n conn opened apart) ∙ placed.busy_used n is

    unused : (n : ℕ) → has_number n idle ≡ true → is_used n left ≡ false
    unused n is = none_left (λ m. m.listener == n) (λ m. not (is_member 0 conn m)) opened (placed.idle_unused n is)

    own_left : list_any is_foreign left ≡ false
    own_left = none_left is_foreign (λ m. not (is_member 0 conn m)) opened placed.own

    -- the chain that it was on doesn't drain, or has another
    pub placed_close : (busy_then : List ℕ) → ((n : ℕ) → is_in busy_then n ≡ true → is_in busy n ≡ true)
        → ((n : ℕ) → is_at n (on_in 0 conn opened) ≡ true → is_in busy_then n ≡ true → has_open left n ≡ true) → ArePlaced began idle busy_then left
    placed_close busy_then within held = record {
      own = own_left;
      idle_apart = placed.idle_apart;
      idle_began = placed.idle_began;
      idle_unused = unused;
      busy_began = λ n is. placed.busy_began n (within n is);
      busy_used = λ n is. by n (is_at n (on_in 0 conn opened)) refl is;
    }
      where
        by : (n : ℕ) (t : Bool) → is_at n (on_in 0 conn opened) ≡ t → is_in busy_then n ≡ true → is_used n left ≡ true
        by n true at is = sym (open_used n left own_left) ∙ held n at is
        by n false at is = still n at (within n is)

    -- it was the last on its chain
    module _ (place : On) (on : on_in 0 conn opened ≡ Some place) (none : has_open left place.listener ≡ false)
        (busy_then : List ℕ) (busies : (n : ℕ) → is_in busy_then n ≡ (not (nat_eq place.listener n) && is_in busy n)) where
      within : (n : ℕ) → is_in busy_then n ≡ true → ((place.listener == n) ≡ false) × (is_in busy n ≡ true)
      within n is =
          let parts = and_parts (not (nat_eq place.listener n)) (is_in busy n) (sym (busies n) ∙ is) in
          (not_true (place.listener == n) (λ h. false≢true (ap not (sym h) ∙ parts.0)), parts.1)

      ended : (t : Bool) → is_in busy place.listener ≡ t → ArePlaced began (cond t (idle ++ place.listener ∷ []) idle) busy_then left
      ended true is =
          more_idle began (place.listener ∷ []) left (refl, tt) (λ n has. has) unused
          (λ n has. by n (sym (or_false (place.listener == n)) ∙ has)) busy_then own_left
          (λ n has. (placed.busy_began n (within n has).1, still n (ap (is_at n) on ∙ (within n has).0) (within n has).1))
        where
          by : (n : ℕ) → (place.listener == n) ≡ true → (has_number n began ≡ true) × ((is_used n left ≡ false) × (has_number n idle ≡ false))
          by n at =
              subst (λ k. (has_number k began ≡ true) × ((is_used k left ≡ false) × (has_number k idle ≡ false))) (same place.listener n at)
              (placed.busy_began place.listener is, (sym (open_used place.listener left own_left) ∙ none, busy_other place.listener is))
      ended false is = placed_close busy_then (λ n has. (within n has).1) (λ n at has. absurd (true≢false (sym at ∙ ap (is_at n) on ∙ (within n has).0)))

      pub placed_end : ArePlaced began (cond (is_in busy place.listener) (idle ++ place.listener ∷ []) idle) busy_then left
      placed_end = ended (is_in busy place.listener) refl

      pub end_same : draining_in began (cond (is_in busy place.listener) (idle ++ place.listener ∷ []) idle) busy_then ≡ draining_in began idle busy
      end_same = same_draining (cond (is_in busy place.listener) (idle ++ place.listener ∷ []) idle) busy_then (λ n. ap (λ b. has_number n (cond (is_in busy place.listener) (idle ++ place.listener ∷ []) idle) || b) (busies n) ∙ by (is_in busy place.listener) refl n (place.listener == n) refl)
        where
          by : (b : Bool) → is_in busy place.listener ≡ b → (n : ℕ) (t : Bool) → (place.listener == n) ≡ t
              → (has_number n (cond b (idle ++ place.listener ∷ []) idle) || (not t && is_in busy n)) ≡ drains idle busy n
          by true is n t at =
              ap (λ b. b || (not t && is_in busy n)) (list_any-append (λ k. k == n) idle (place.listener ∷ []) ∙ ap (λ b. has_number n idle || (b || false)) at)
              ∙ if_at t at
            where
              if_at : (t : Bool) → (place.listener == n) ≡ t → ((has_number n idle || (t || false)) || (not t && is_in busy n)) ≡ drains idle busy n
              if_at true at = or_false (has_number n idle || true) ∙ ap (λ b. has_number n idle || b) (sym is ∙ ap (is_in busy) (same place.listener n at))
              if_at false at = ap (λ b. b || is_in busy n) (or_false (has_number n idle))
          by false is n true at = ap (λ b. has_number n idle || b) (sym is ∙ ap (is_in busy) (same place.listener n at))
          by false is n false at = refl

  -- ---- a drain timeout

  abbrev pub draining : List ℕ
  draining = draining_in began idle busy

  has_draining : (n : ℕ) → has_number n draining ≡ drains idle busy n
  has_draining n = has_filter (drains idle busy) n began ∙ by (drains idle busy n) refl
    where
      by : (t : Bool) → drains idle busy n ≡ t → (t && has_number n began) ≡ t
      by true is = drains_began n is
      by false is = refl

  -- it closes what is open on the busy ones
  busy_all : (n : ℕ) → is_used n opened ≡ true → has_number n busy ≡ has_number n draining
  busy_all n used =
      sym (in_has n busy)
      ∙ ap (λ b. b || is_in busy n) (sym (not_true (has_number n idle) (λ is. true≢false (sym used ∙ placed.idle_unused n is))))
      ∙ sym (has_draining n)

  pub closed_same : closed_by busy 0 opened ≡ closed_by draining 0 opened
  closed_same = ap (λ (ms : List OpenMember). ascending (map (λ (m : OpenMember). m.connection) ms)) (closing_same (λ b. b) busy draining opened busy_all)

  pub left_same : left_open busy 0 opened ≡ left_open draining 0 opened
  left_same = closing_same not busy draining opened busy_all

  pub placed_drain : IsDistinct nat_eq busy → ArePlaced began (idle ++ busy) [] (left_open busy 0 opened)
  placed_drain distinct =
      more_idle began busy (left_open busy 0 opened) (distinct_apart busy distinct) (λ n has. has)
      (λ n is. drained n (ap (λ b. b || is_in busy n) is))
      (λ n has. let is = in_has n busy ∙ has in (placed.busy_began n is, (drained n (right_true (has_number n idle) (is_in busy n) is), busy_other n is)))
      [] (none_left is_foreign (λ m. not (is_closing busy 0 m)) opened placed.own) (λ n has. absurd (false≢true has))
    where
      drained : (n : ℕ) → drains idle busy n ≡ true → is_used n (left_open busy 0 opened) ≡ false
      drained n is = ap (is_used n) left_same ∙ used_drained n draining opened placed.own (has_draining n ∙ is)

  pub drain_same : draining_in began (idle ++ busy) [] ≡ draining
  drain_same = same_draining (idle ++ busy) [] (λ n. or_false (has_number n (idle ++ busy)) ∙ list_any-append (λ k. k == n) idle busy ∙ ap (λ b. has_number n idle || b) (sym (in_has n busy)))

  -- ---- a reaping

  pub reaped_same : Apart began → ascending idle ≡ ascending (idle_among opened draining)
  reaped_same apart =
      ascending_same idle (idle_among opened draining) placed.idle_apart
      (apart_filter (λ n. not (has_open opened n)) draining (apart_filter (drains idle busy) began apart))
      (λ n. sym (idle_open n) ∙ sym (has_filter (λ k. not (has_open opened k)) n draining ∙ ap (λ b. not (has_open opened n) && b) (has_draining n)))

  pub reap_same : draining_in began [] busy ≡ busy_among opened draining
  reap_same =
      sym (filter_twice (drains idle busy) (has_open opened) began
      ∙ filter_where (λ n. drains idle busy n && has_open opened n) (is_in busy) began (λ n has. busy_open n))

  pub placed_reap : ArePlaced began [] busy opened
  placed_reap = record {
    own = placed.own;
    idle_apart = tt;
    idle_began = λ n is. absurd (false≢true is);
    idle_unused = λ n is. absurd (false≢true is);
    busy_began = placed.busy_began;
    busy_used = placed.busy_used;
  }

  -- ---- a listener

  module _ (gone busy_then : List ℕ) (apart : Apart gone) (new : (n : ℕ) → has_number n began ≡ true → has_number n gone ≡ false)
      (busies : (n : ℕ) → is_in busy_then n ≡ (is_in busy n || has_number n (busy_among opened gone))) where
    later : (n : ℕ) → has_number n began ≡ true → has_number n (began ++ gone) ≡ true
    later n was = list_any-append (λ k. k == n) began gone ∙ ap (λ b. b || has_number n gone) was

    goes : (n : ℕ) → has_number n gone ≡ true → has_number n (began ++ gone) ≡ true
    goes n is = list_any-append (λ k. k == n) began gone ∙ right_true (has_number n began) (has_number n gone) is

    then_idle : (n : ℕ) → has_number n (idle_among opened gone) ≡ true → (has_number n (began ++ gone) ≡ true) × ((is_used n opened ≡ false) × (has_number n idle ≡ false))
    then_idle n has =
        let parts = and_parts (not (has_open opened n)) (has_number n gone) (sym (has_filter (λ k. not (has_open opened k)) n gone) ∙ has) in (
          goes n parts.1,
          (
            sym (open_used n opened placed.own) ∙ not_true (has_open opened n) (λ h. false≢true (ap not (sym h) ∙ parts.0)),
            not_true (has_number n idle) (λ was. true≢false (sym parts.1 ∙ new n (placed.idle_began n was))),
          ),
        )

    then_busy : (n : ℕ) → (is_in busy n ≡ true) ⊎ (has_number n (busy_among opened gone) ≡ true) → (has_number n (began ++ gone) ≡ true) × (is_used n opened ≡ true)
    then_busy n (inl was) = (later n (placed.busy_began n was), placed.busy_used n was)
    then_busy n (inr has) =
        let parts = and_parts (has_open opened n) (has_number n gone) (sym (has_filter (has_open opened) n gone) ∙ has) in
        (goes n parts.1, sym (open_used n opened placed.own) ∙ parts.0)

    pub placed_start : ArePlaced (began ++ gone) (idle ++ idle_among opened gone) busy_then opened
    placed_start =
        more_idle (began ++ gone) (idle_among opened gone) opened (apart_filter (λ n. not (has_open opened n)) gone apart) later placed.idle_unused then_idle
        busy_then placed.own (λ n is. then_busy n (or_true (is_in busy n) (has_number n (busy_among opened gone)) (sym (busies n) ∙ is)))

    drains_more : (n : ℕ) → drains (idle ++ idle_among opened gone) busy_then n ≡ (drains idle busy n || has_number n gone)
    drains_more n =
        (λ i. (list_any-append (λ k. k == n) idle (idle_among opened gone) ∙ ap (λ b. has_number n idle || b) (has_filter (λ k. not (has_open opened k)) n gone)) i
        || (busies n ∙ ap (λ b. is_in busy n || b) (has_filter (has_open opened) n gone)) i)
        ∙ either (has_number n idle) (is_in busy n) (has_open opened n) (has_number n gone)
      where
        either : (i b o g : Bool) → ((i || (not o && g)) || (b || (o && g))) ≡ ((i || b) || g)
        either true b o g = refl
        either false true true g = refl
        either false true false true = refl
        either false true false false = refl
        either false false true g = refl
        either false false false true = refl
        either false false false false = refl

    pub start_same : draining_in (began ++ gone) (idle ++ idle_among opened gone) busy_then ≡ draining ++ gone
    start_same =
        filter-append (drains (idle ++ idle_among opened gone) busy_then) began gone
        ∙ (λ i. filter_where (drains (idle ++ idle_among opened gone) busy_then) (drains idle busy) began (λ n has. drains_more n ∙ ap (λ b. drains idle busy n || b) (new n has) ∙ or_false (drains idle busy n)) i
        ++ (filter_where (drains (idle ++ idle_among opened gone) busy_then) (λ n. true) gone (λ n has. drains_more n ∙ right_true (drains idle busy n) (has_number n gone) has) ∙ filter_all gone) i)
