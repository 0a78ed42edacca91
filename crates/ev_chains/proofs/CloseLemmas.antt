-- A drain timeout closes what is open on chains that drain.
use Rattle.std.proofs.Common.{◌≡◌, ℕ, Bool, true, false, not, ◌&&◌, ◌||◌, ◌==◌, cond, nat_le, List, [], ◌∷◌, ◌++◌, filter, map, refl, sym, ap, ◌∙◌, arith}
use Rattle.std.specs.List.{list_any, AllByRecursion}
use Rattle.std.proofs.lemmas.Bool.{true≢false, false≢true, or_parts}
use Rattle.std.proofs.lemmas.Bool.Decides.{nat_tests}
use Rattle.std.proofs.lemmas.List.Folds.{list_any-append}
use Rattle.ev_model.specs.World.{OpenMember}
use Rattle.ev_model.specs.Picture.{has_number}
use Rattle.ev_model.specs.Publishing.{ascending}
use Rattle.ev_model.specs.Connections.{closed, is_member, is_open}
use Rattle.ev_ledger.specs.Members.{AreApart, is_open_at}
use Rattle.ev_ledger.proofs.OrderLemmas.{any_sorted}
use Rattle.ev_ledger.proofs.PlaceLemmas.{closed_leaves}
use Rattle.ev_chains.specs.Closing.{closed_all, is_closing, is_numbered, left_open}
use Rattle.ev_chains.specs.Kept.{Apart}
use Rattle.ev_chains.proofs.ConnLemmas.{any_left, any_first, turned}
use Rattle.ev_chains.proofs.KeyLemmas.{any_same, any_swap}

module _ (draining : List ℕ) where
  and_first : (a b : Bool) → (a && b) ≡ true → a ≡ true
  and_first true b h = refl
  and_first false b h = h

  -- where no two are of one worker and number, a connection closes exactly where its number is among those that close
  number_own : (a : ℕ) → (a == a) ≡ true
  number_own a = grind (arith, nat_tests)

  has_closing : List OpenMember → ℕ → Bool
  has_closing ms number = list_any (λ (y : OpenMember). y.connection == number) (filter (is_closing draining 0) ms)

  test_apart : (mw mc zw zc : ℕ) (a : Bool) → (mw == 0) ≡ true → ((zw == mw) && (zc == mc)) ≡ false
      → ((zw == 0) && ((mc == zc) || a)) ≡ ((zw == 0) && a)
  test_apart mw mc zw zc true own apart = grind (arith, nat_tests)
  test_apart mw mc zw zc false own apart = grind (arith, nat_tests)

  abbrev Closes : List OpenMember → OpenMember → Type 0
  Closes ms m = ((m.worker == 0) && list_any (λ (y : OpenMember). y.connection == m.connection) (filter (is_closing draining 0) ms)) ≡ is_closing draining 0 m

  closes_later : (m : OpenMember) (ms zs : List OpenMember) → is_open zs m.worker m.connection ≡ false → AllByRecursion (Closes ms) zs → AllByRecursion (Closes (m ∷ ms)) zs
  closes_later m ms [] none all = tt
  closes_later m ms (z ∷ zs) none all =
      let parts = or_parts (is_member m.worker m.connection z) (is_open zs m.worker m.connection) none in
      (by (is_closing draining 0 m) refl parts.0 all.0, closes_later m ms zs parts.1 all.1)
    where
      by : (t : Bool) → is_closing draining 0 m ≡ t → is_member m.worker m.connection z ≡ false → Closes ms z
          → ((z.worker == 0) && list_any (λ (y : OpenMember). y.connection == z.connection) (cond t (m ∷ filter (is_closing draining 0) ms) (filter (is_closing draining 0) ms)))
          ≡ is_closing draining 0 z
      by true is apart rest =
          test_apart m.worker m.connection z.worker z.connection (list_any (λ (y : OpenMember). y.connection == z.connection) (filter (is_closing draining 0) ms))
          (and_first (m.worker == 0) (has_number m.listener draining) is) apart ∙ rest
      by false is apart rest = rest

  other_place : (mw mc yw yc : ℕ) → (mw == 0) ≡ true → (yw == 0) ≡ true → ((yw == mw) && (yc == mc)) ≡ false → (yc == mc) ≡ false
  other_place mw mc yw yc first second apart = grind (arith, nat_tests)

  none_closing : (m : OpenMember) (ms : List OpenMember) → (m.worker == 0) ≡ true → is_open ms m.worker m.connection ≡ false
      → list_any (λ (y : OpenMember). y.connection == m.connection) (filter (is_closing draining 0) ms) ≡ false
  none_closing m [] own none = refl
  none_closing m (y ∷ ms) own none =
      let parts = or_parts (is_member m.worker m.connection y) (is_open ms m.worker m.connection) none in
      by (is_closing draining 0 y) refl parts.0 (none_closing m ms own parts.1)
    where
      by : (t : Bool) → is_closing draining 0 y ≡ t → is_member m.worker m.connection y ≡ false
          → list_any (λ (x : OpenMember). x.connection == m.connection) (filter (is_closing draining 0) ms) ≡ false
          → list_any (λ (x : OpenMember). x.connection == m.connection) (cond t (y ∷ filter (is_closing draining 0) ms) (filter (is_closing draining 0) ms)) ≡ false
      by true is apart rest =
          ap (λ b. b || list_any (λ (x : OpenMember). x.connection == m.connection) (filter (is_closing draining 0) ms))
          (other_place m.worker m.connection y.worker y.connection own (and_first (y.worker == 0) (has_number y.listener draining) is) apart) ∙ rest
      by false is apart rest = rest

  closes_own : (ms : List OpenMember) → AreApart ms → AllByRecursion (Closes ms) ms
  closes_own [] apart = tt
  closes_own (m ∷ ms) apart = (by (m.worker == 0) (has_number m.listener draining) refl, closes_later m ms ms apart.0 (closes_own ms apart.1))
    where
      by : (a b : Bool) → (m.worker == 0) ≡ a
          → (a && list_any (λ (y : OpenMember). y.connection == m.connection) (cond (a && b) (m ∷ filter (is_closing draining 0) ms) (filter (is_closing draining 0) ms))) ≡ (a && b)
      by true true own = ap (λ t. t || list_any (λ (y : OpenMember). y.connection == m.connection) (filter (is_closing draining 0) ms)) (number_own m.connection)
      by true false own = none_closing m ms own apart.0
      by false b own = refl

  any_mapped : (ms : List OpenMember) (number : ℕ) → has_number number (map (λ (m : OpenMember). m.connection) ms) ≡ list_any (λ (y : OpenMember). y.connection == number) ms
  any_mapped [] number = refl
  any_mapped (m ∷ ms) number = ap (λ b. (m.connection == number) || b) (any_mapped ms number)

  filter_same : (p q : OpenMember → Bool) (ms : List OpenMember) → AllByRecursion (λ m. p m ≡ q m) ms → filter (λ m. not (p m)) ms ≡ filter (λ m. not (q m)) ms
  filter_same p q [] all = refl
  filter_same p q (m ∷ ms) all = by (p m) (q m) all.0 (filter_same p q ms all.1)
    where
      by : (s t : Bool) → s ≡ t → filter (λ x. not (p x)) ms ≡ filter (λ x. not (q x)) ms
          → cond (not s) (m ∷ filter (λ x. not (p x)) ms) (filter (λ x. not (p x)) ms) ≡ cond (not t) (m ∷ filter (λ x. not (q x)) ms) (filter (λ x. not (q x)) ms)
      by true true h rest = rest
      by true false h rest = absurd (true≢false h)
      by false true h rest = absurd (false≢true h)
      by false false h rest = ap (λ l. m ∷ l) rest

  all_same : (ms zs : List OpenMember) → AllByRecursion (Closes ms) zs
      → AllByRecursion (λ m. is_numbered (map (λ (x : OpenMember). x.connection) (filter (is_closing draining 0) ms)) m ≡ is_closing draining 0 m) zs
  all_same ms [] all = tt
  all_same ms (z ∷ zs) all =
      (ap (λ b. (z.worker == 0) && b) (any_mapped (filter (is_closing draining 0) ms) z.connection) ∙ all.0, all_same ms zs all.1)

  -- the numbers of the connections that close are apart, and are those of the connections on the chains
  pub conns_apart : (opened : List OpenMember) → AreApart opened → Apart (map (λ (m : OpenMember). m.connection) (filter (is_closing draining 0) opened))
  conns_apart [] apart = tt
  conns_apart (m ∷ opened) apart = by (is_closing draining 0 m) refl (conns_apart opened apart.1)
    where
      by : (t : Bool) → is_closing draining 0 m ≡ t → Apart (map (λ (x : OpenMember). x.connection) (filter (is_closing draining 0) opened))
          → Apart (map (λ (x : OpenMember). x.connection) (cond t (m ∷ filter (is_closing draining 0) opened) (filter (is_closing draining 0) opened)))
      by true is rest =
          (any_mapped (filter (is_closing draining 0) opened) m.connection ∙ none_closing m opened (and_first (m.worker == 0) (has_number m.listener draining) is) apart.0, rest)
      by false is rest = rest

  closes_or_not : (w c h : Bool) → ((w && c) && h) ≡ ((w && h) && c)
  closes_or_not true true true = refl
  closes_or_not true true false = refl
  closes_or_not true false true = refl
  closes_or_not true false false = refl
  closes_or_not false c h = refl

  pub conns_on_chains : (conn : ℕ) (opened : List OpenMember)
      → list_any (λ number. is_open_at number 0 conn opened) draining ≡ has_number conn (map (λ (m : OpenMember). m.connection) (filter (is_closing draining 0) opened))
  conns_on_chains conn opened =
      any_swap (λ number (m : OpenMember). is_member 0 conn m && (m.listener == number)) draining opened
      ∙ any_same (λ (m : OpenMember). list_any (λ number. is_member 0 conn m && (m.listener == number)) draining) (λ (m : OpenMember). is_closing draining 0 m && (m.connection == conn))
      (λ m. any_first (is_member 0 conn m) (λ number. m.listener == number) draining
      ∙ ap (λ b. is_member 0 conn m && b) (any_same (λ number. m.listener == number) (λ number. number == m.listener) (λ number. turned m.listener number) draining)
      ∙ closes_or_not (m.worker == 0) (m.connection == conn) (has_number m.listener draining)) opened
      ∙ sym (any_left (λ (m : OpenMember). m.connection == conn) (is_closing draining 0) opened)
      ∙ sym (any_mapped (filter (is_closing draining 0) opened) conn)

  pub closed_left : (opened : List OpenMember) → AreApart opened
      → closed_all (ascending (map (λ (m : OpenMember). m.connection) (filter (is_closing draining 0) opened))) opened ≡ left_open draining 0 opened
  closed_left opened apart =
      let numbers : List ℕ = map (λ (m : OpenMember). m.connection) (filter (is_closing draining 0) opened) in
      (λ i. filter (λ (m : OpenMember). not ((m.worker == 0) && any_sorted nat_le (λ k. k == m.connection) numbers i)) opened)
      ∙ filter_same (is_numbered numbers) (is_closing draining 0) opened (all_same opened opened (closes_own opened apart))

-- closing one number after another
pub none_gone : (opened : List OpenMember) → opened ≡ closed_all [] opened
none_gone [] = refl
none_gone (m ∷ opened) = by (m.worker == 0) (none_gone opened)
  where
    by : (a : Bool) → opened ≡ closed_all [] opened → m ∷ opened ≡ cond (not (a && false)) (m ∷ closed_all [] opened) (closed_all [] opened)
    by true rest = ap (λ l. m ∷ l) rest
    by false rest = ap (λ l. m ∷ l) rest

one_turned : (a b : ℕ) → (a == b) ≡ (b == a)
one_turned a b = grind (arith, nat_tests)

either : (own had is : Bool) → (not (own && had) && not (own && is)) ≡ not (own && (had || (is || false)))
either true true is = refl
either true false true = refl
either true false false = refl
either false had is = refl

pub one_more_gone : (number : ℕ) (numbers : List ℕ) (opened : List OpenMember)
    → (closed number 0 (closed_all numbers opened)).opened ≡ closed_all (numbers ++ number ∷ []) opened
one_more_gone number numbers opened = closed_leaves 0 number (closed_all numbers opened) ∙ both opened
  where
    test : (m : OpenMember) → (not (is_numbered numbers m) && not (is_member 0 number m)) ≡ not (is_numbered (numbers ++ number ∷ []) m)
    test m =
        ap (λ b. not (is_numbered numbers m) && not ((m.worker == 0) && b)) (one_turned m.connection number)
        ∙ either (m.worker == 0) (has_number m.connection numbers) (number == m.connection)
        ∙ ap (λ b. not ((m.worker == 0) && b)) (sym (list_any-append (λ n. n == m.connection) numbers (number ∷ [])))

    both : (ms : List OpenMember) → filter (λ m. not (is_member 0 number m)) (closed_all numbers ms) ≡ closed_all (numbers ++ number ∷ []) ms
    both [] = refl
    both (m ∷ ms) = by (not (is_numbered numbers m)) (not (is_member 0 number m)) (not (is_numbered (numbers ++ number ∷ []) m)) (test m) refl (both ms)
      where
        by : (s t u : Bool) → (s && t) ≡ u → not (is_member 0 number m) ≡ t
            → filter (λ x. not (is_member 0 number x)) (closed_all numbers ms) ≡ closed_all (numbers ++ number ∷ []) ms
            → filter (λ x. not (is_member 0 number x)) (cond s (m ∷ closed_all numbers ms) (closed_all numbers ms))
            ≡ cond u (m ∷ closed_all (numbers ++ number ∷ []) ms) (closed_all (numbers ++ number ∷ []) ms)
        by true true true h is rest =
            ap (λ b. cond b (m ∷ filter (λ x. not (is_member 0 number x)) (closed_all numbers ms)) (filter (λ x. not (is_member 0 number x)) (closed_all numbers ms))) is
            ∙ ap (λ l. m ∷ l) rest
        by true true false h is rest = absurd (true≢false h)
        by true false true h is rest = absurd (false≢true h)
        by true false false h is rest =
            ap (λ b. cond b (m ∷ filter (λ x. not (is_member 0 number x)) (closed_all numbers ms)) (filter (λ x. not (is_member 0 number x)) (closed_all numbers ms))) is
            ∙ rest
        by false t true h is rest = absurd (false≢true h)
        by false t false h is rest = rest
