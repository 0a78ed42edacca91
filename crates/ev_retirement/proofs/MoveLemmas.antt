-- A settle moves and closes in the ledger what the machine moves and closes.
use Rattle.std.proofs.Common.{◌≡◌, ℕ, Bool, true, false, not, ◌&&◌, ◌||◌, ◌==◌, cond, List, [], ◌∷◌, ◌++◌, filter, find, map, Option, None, Some, refl, sym, ap, ◌∙◌, arith}
use Rattle.std.specs.List.{AllByRecursion}
use Rattle.std.specs.Option.{is_some, option_map, unwrap_or}
use Rattle.std.proofs.lemmas.Bool.{true≢false, false≢true}
use Rattle.std.proofs.lemmas.Bool.Decides.{nat_tests}
use Rattle.std.proofs.lemmas.List.Folds.{list_any-append}
use Rattle.ev_model.specs.World.{World, OpenMember}
use Rattle.ev_model.specs.Picture.{has_number, is_shown}
use Rattle.ev_model.specs.Connections.{connections_where, is_chain_shown, is_closing, is_member, is_moving, is_open, left_open, listener_after, moved_on, next_listener, settle, shows_chain}
use Rattle.ev_model.specs.declared.pictures.Picture.{Picture}
use Rattle.ev_model.specs.declared.pictures.ServedCluster.{ServedCluster}
use Rattle.ev_model.specs.declared.pictures.ServedListener.{ServedListener}
use Rattle.ev_model.specs.declared.pictures.Shown.{Shown}
use Rattle.ev_retirement.specs.Pictures.{HasPictures, PicturesParts, settled_on}
use Rattle.ev_ledger.specs.Members.{AreApart, HasOpened, in_order, is_of_worker, member_before, member_on, moved_to, on_in, on_of, on_listener}
use Rattle.ev_ledger.specs.declared.open_on.On.{On}
use Rattle.ev_ledger.proofs.OrderLemmas.{sorted_map}
use Rattle.ev_ledger.proofs.PlaceLemmas.{filter_in_order}
use Rattle.ev_drain.specs.Retired.{Retired, is_expired}
use Rattle.ev_worker.specs.Workers.{IsToldBy}
use Rattle.ev_retirement.specs.Closing.{closed_all, closes, is_member_among, moved, moved_each, moved_one, moves, numbers_where}
use Rattle.ev_retirement.specs.Holders.{HoldersParts, HoldsFor}
use Rattle.ev_retirement.proofs.CloseLemmas.{among_passing, filter_same, in_ledger, marks}
use Rattle.ev_retirement.proofs.MoreLemmas.{or_first, or_second, same_number}

-- ---- one connection
-- a connection that has nowhere to move stays
pub stays : (shown : Shown) (m : OpenMember) → moves shown m ≡ false → moved shown m ≡ m
stays shown m none = by (next_listener shown m) refl none
  where
    by : (next : Option ServedListener) → next_listener shown m ≡ next → is_some next ≡ false → moved shown m ≡ m
    by None is none = simp is refl
    by (Some listener) is none = absurd (true≢false none)

-- what a search finds is shown
found_has : (p : ServedListener → Bool) (ls : List ServedListener) (l : ServedListener) → find p ls ≡ Some l
    → has_number l.number (map (λ (x : ServedListener). x.number) ls) ≡ true
found_has p [] l is = absurd (cc is)
found_has p (x ∷ ls) l is = by (p x) is (found_has p ls l)
  where
    own : (n : ℕ) → (n == n) ≡ true
    own n = grind (arith, nat_tests)

    by : (t : Bool) → cond t (Some x) (find p ls) ≡ Some l → (find p ls ≡ Some l → has_number l.number (map (λ (y : ServedListener). y.number) ls) ≡ true)
        → ((x.number == l.number) || has_number l.number (map (λ (y : ServedListener). y.number) ls)) ≡ true
    by true is rest =
        let one : x ≡ l = cc is in
        or_first (x.number == l.number) (has_number l.number (map (λ (y : ServedListener). y.number) ls)) (ap (λ (y : ServedListener). y.number == l.number) one ∙ own l.number)
    by false is rest = or_second (x.number == l.number) (has_number l.number (map (λ (y : ServedListener). y.number) ls)) (rest is)

next_shown : (shown : Shown) (m : OpenMember) (l : ServedListener) → next_listener shown m ≡ Some l → is_shown l.number shown ≡ true
next_shown shown m l is = by (is_shown m.listener shown) is
  where
    by : (t : Bool) → cond t None (find (shows_chain m.origin) shown.listeners) ≡ Some l → is_shown l.number shown ≡ true
    by true is = absurd (cc is)
    by false is =
        list_any-append (λ n. n == l.number) (map (λ (c : ServedCluster). c.number) shown.clusters) (map (λ (x : ServedListener). x.number) shown.listeners)
        ∙ or_second (has_number l.number (map (λ (c : ServedCluster). c.number) shown.clusters)) (has_number l.number (map (λ (x : ServedListener). x.number) shown.listeners))
        (found_has (shows_chain m.origin) shown.listeners l is)

-- it moves once
once : (shown : Shown) (m : OpenMember) → moved shown (moved shown m) ≡ moved shown m
once shown m = by (next_listener shown m) refl
  where
    by : (next : Option ServedListener) → next_listener shown m ≡ next → moved shown (moved shown m) ≡ moved shown m
    by None is = ap (moved shown) (stays shown m (ap is_some is))
    by (Some l) is =
        let at : listener_after shown m ≡ l.number = ap (λ o. unwrap_or (option_map (λ (x : ServedListener). x.number) o) m.listener) is in
        let there : is_shown (listener_after shown m) shown ≡ true = ap (λ n. is_shown n shown) at ∙ next_shown shown m l is in
        stays shown (moved shown m) (ap (λ t. is_some (cond t None (find (shows_chain m.origin) shown.listeners))) there)

-- ---- many
map_none : {X : Type 0} (f : X → X) → ((x : X) → f x ≡ x) → (xs : List X) → xs ≡ map f xs
map_none f none [] = refl
map_none f none (x ∷ xs) = (λ i. sym (none x) i ∷ xs) ∙ ap (λ ys. f x ∷ ys) (map_none f none xs)

map_two : {X : Type 0} (f g h : X → X) → ((x : X) → g (f x) ≡ h x) → (xs : List X) → map g (map f xs) ≡ map h xs
map_two f g h is [] = refl
map_two f g h is (x ∷ xs) = (λ i. is x i ∷ map g (map f xs)) ∙ ap (λ ys. h x ∷ ys) (map_two f g h is xs)

map_same : {X : Type 0} (g h : X → X) (xs : List X) → AllByRecursion (λ x. g x ≡ h x) xs → map g xs ≡ map h xs
map_same g h [] all = refl
map_same g h (x ∷ xs) all = (λ i. all.0 i ∷ map g xs) ∙ ap (λ ys. h x ∷ ys) (map_same g h xs all.1)

all_kept : {X : Type 0} (P : X → Type 0) (q : X → Bool) (xs : List X) → AllByRecursion P xs → AllByRecursion P (filter q xs)
all_kept P q [] all = tt
all_kept P q (x ∷ xs) all = by (q x) (all_kept P q xs all.1)
  where
    by : (t : Bool) → AllByRecursion P (filter q xs) → AllByRecursion P (cond t (x ∷ filter q xs) (filter q xs))
    by true rest = (all.0, rest)
    by false rest = rest

all_mapped : {X : Type 0} (P Q : X → Type 0) → ((x : X) → P x → Q x) → (xs : List X) → AllByRecursion P xs → AllByRecursion Q xs
all_mapped P Q so [] all = tt
all_mapped P Q so (x ∷ xs) all = (so x all.0, all_mapped P Q so xs all.1)

turned : (a b : ℕ) → (a == b) ≡ (b == a)
turned a b = grind (arith, nat_tests)

and_parts : (a b : Bool) → (a && b) ≡ true → (a ≡ true) × (b ≡ true)
and_parts true b h = (refl, h)
and_parts false b h = absurd (false≢true h)

none_more : (a b d : Bool) → (a && b) ≡ false → (a && d) ≡ (a && (b || d))
none_more true true d none = absurd (true≢false none)
none_more true false d none = refl
none_more false b d none = refl

cond_same : {X : Type 0} (t : Bool) (x y : X) → y ≡ x → cond t y x ≡ x
cond_same true x y is = is
cond_same false x y is = refl

-- those of these numbers once they have moved
abbrev pub moved_among : ℕ → List ℕ → Shown → OpenMember → OpenMember
moved_among worker numbers shown m = cond (is_member_among worker numbers m) (moved shown m) m

among_more : (worker number : ℕ) (numbers : List ℕ) (shown : Shown) (m : OpenMember)
    → moved_among worker numbers shown (cond (is_member worker number m) (moved shown m) m) ≡ moved_among worker (number ∷ numbers) shown m
among_more worker number numbers shown m = by (is_member worker number m) refl
  where
    by : (t : Bool) → is_member worker number m ≡ t → moved_among worker numbers shown (cond t (moved shown m) m) ≡ moved_among worker (number ∷ numbers) shown m
    by true at =
        let parts = and_parts (m.worker == worker) (m.connection == number) at in
        let among : is_member_among worker (number ∷ numbers) m ≡ true =
        ap (λ b. b && ((number == m.connection) || has_number m.connection numbers)) parts.0
        ∙ or_first (number == m.connection) (has_number m.connection numbers) (turned number m.connection ∙ parts.1) in
        cond_same (is_member_among worker numbers m) (moved shown m) (moved shown (moved shown m)) (once shown m)
        ∙ sym (ap (λ t. cond t (moved shown m) m) among)
    by false at =
        ap (λ t. cond t (moved shown m) m)
        (none_more (m.worker == worker) (m.connection == number) (has_number m.connection numbers) at
        ∙ ap (λ b. (m.worker == worker) && (b || has_number m.connection numbers)) (turned m.connection number))

each_among : (worker : ℕ) (numbers : List ℕ) (shown : Shown) (ms : List OpenMember) → moved_each worker numbers shown ms ≡ map (moved_among worker numbers shown) ms
each_among worker [] shown ms = map_none (moved_among worker [] shown) (λ m. by m (m.worker == worker)) ms
  where
    by : (m : OpenMember) (t : Bool) → cond (t && false) (moved shown m) m ≡ m
    by m true = refl
    by m false = refl
each_among worker (number ∷ numbers) shown ms =
    each_among worker numbers shown (moved_one worker number shown ms)
    ∙ map_two (λ (m : OpenMember). cond (is_member worker number m) (moved shown m) m) (moved_among worker numbers shown) (moved_among worker (number ∷ numbers) shown)
    (among_more worker number numbers shown) ms

-- one number after another
pub none_moved : (worker : ℕ) (shown : Shown) (ms : List OpenMember) → ms ≡ moved_each worker [] shown ms
none_moved worker shown ms = refl

pub one_more_moved : (worker number : ℕ) (numbers : List ℕ) (shown : Shown) (ms : List OpenMember)
    → moved_one worker number shown (moved_each worker numbers shown ms) ≡ moved_each worker (numbers ++ number ∷ []) shown ms
one_more_moved worker number [] shown ms = refl
one_more_moved worker number (n ∷ numbers) shown ms = one_more_moved worker number numbers shown (moved_one worker n shown ms)

-- ---- where the ledger says what one is open on
none_open : (w c : ℕ) (P : OpenMember → Type 0) (ms : List OpenMember) → is_open ms w c ≡ false → AllByRecursion (λ (m : OpenMember). is_member w c m ≡ true → P m) ms
none_open w c P [] none = tt
none_open w c P (m ∷ ms) none = by (is_member w c m) refl none (none_open w c P ms)
  where
    by : (t : Bool) → is_member w c m ≡ t → (t || is_open ms w c) ≡ false → (is_open ms w c ≡ false → AllByRecursion (λ (x : OpenMember). is_member w c x ≡ true → P x) ms)
        → AllByRecursion (λ (x : OpenMember). is_member w c x ≡ true → P x) (m ∷ ms)
    by true at none rest = absurd (true≢false none)
    by false at none rest = (λ own. absurd (false≢true (sym at ∙ own)), rest none)

none_in : (w c : ℕ) (ms : List OpenMember) → on_in w c ms ≡ None → is_open ms w c ≡ false
none_in w c [] none = refl
none_in w c (m ∷ ms) none = by (is_member w c m) none (none_in w c ms)
  where
    by : (t : Bool) → option_map on_of (cond t (Some m) (find (is_member w c) ms)) ≡ None → (on_in w c ms ≡ None → is_open ms w c ≡ false) → (t || is_open ms w c) ≡ false
    by true none rest = absurd (cc none)
    by false none rest = rest none

found_own : (w c : ℕ) (on : On) (ms : List OpenMember) → AreApart ms → on_in w c ms ≡ Some on
    → AllByRecursion (λ (m : OpenMember). is_member w c m ≡ true → on_of m ≡ on) ms
found_own w c on [] apart is = tt
found_own w c on (m ∷ ms) apart is = by (is_member w c m) refl is (found_own w c on ms apart.1)
  where
    by : (t : Bool) → is_member w c m ≡ t → option_map on_of (cond t (Some m) (find (is_member w c) ms)) ≡ Some on
        → (on_in w c ms ≡ Some on → AllByRecursion (λ (x : OpenMember). is_member w c x ≡ true → on_of x ≡ on) ms)
        → AllByRecursion (λ (x : OpenMember). is_member w c x ≡ true → on_of x ≡ on) (m ∷ ms)
    by true at is rest =
        let same : on_of m ≡ on = cc is in
        let parts = and_parts (m.worker == w) (m.connection == c) at in (
          λ own. same,
          none_open w c (λ (x : OpenMember). on_of x ≡ on) ms
              (ap (is_open ms w) (sym (same_number m.connection c parts.1)) ∙ ap (λ v. is_open ms v m.connection) (sym (same_number m.worker w parts.0)) ∙ apart.0),
        )
    by false at is rest = (λ own. absurd (false≢true (sym at ∙ own)), rest is)

module _ (w c : ℕ) (shown : Shown) where
  -- where it isn't open, none moves
  pub absent_moved : (ms : List OpenMember) → on_in w c ms ≡ None → ms ≡ moved_one w c shown ms
  absent_moved ms none = sym (map_all ms (none_open w c (λ (m : OpenMember). moved shown m ≡ m) ms (none_in w c ms none)))
    where
      map_all : (xs : List OpenMember) → AllByRecursion (λ (m : OpenMember). is_member w c m ≡ true → moved shown m ≡ m) xs → moved_one w c shown xs ≡ xs
      map_all [] all = refl
      map_all (m ∷ xs) all = (λ i. one (is_member w c m) refl i ∷ moved_one w c shown xs) ∙ ap (λ ys. m ∷ ys) (map_all xs all.1)
        where
          one : (t : Bool) → is_member w c m ≡ t → cond t (moved shown m) m ≡ m
          one true at = all.0 at
          one false at = refl

  -- where it is, it moves to the listener that the snapshot says
  pub moved_as : (l : ℕ) (on : On) (ms : List OpenMember) → AreApart ms → on_in w c ms ≡ Some on → listener_after shown (member_on w c on) ≡ l
      → moved_to w c l ms ≡ moved_one w c shown ms
  moved_as l on ms apart is goes = map_all ms (found_own w c on ms apart is)
    where
      map_all : (xs : List OpenMember) → AllByRecursion (λ (m : OpenMember). is_member w c m ≡ true → on_of m ≡ on) xs → moved_to w c l xs ≡ moved_one w c shown xs
      map_all [] all = refl
      map_all (m ∷ xs) all =
          (λ i. one (is_member w c m) refl i ∷ moved_to w c l xs) ∙ ap (λ ys. cond (is_member w c m) (moved shown m) m ∷ ys) (map_all xs all.1)
        where
          one : (t : Bool) → is_member w c m ≡ t → cond t (on_listener l m) m ≡ cond t (moved shown m) m
          one true at = ap (λ n. on_listener n m) (sym (ap (λ (o : On). listener_after shown (member_on w c o)) (all.0 at) ∙ goes))
          one false at = refl

  -- or stays
  pub kept_as : (on : On) (ms : List OpenMember) → AreApart ms → on_in w c ms ≡ Some on → listener_after shown (member_on w c on) ≡ on.listener
      → ms ≡ moved_one w c shown ms
  kept_as on ms apart is goes = sym (map_all ms (found_own w c on ms apart is))
    where
      map_all : (xs : List OpenMember) → AllByRecursion (λ (m : OpenMember). is_member w c m ≡ true → on_of m ≡ on) xs → moved_one w c shown xs ≡ xs
      map_all [] all = refl
      map_all (m ∷ xs) all = (λ i. one (is_member w c m) refl i ∷ moved_one w c shown xs) ∙ ap (λ ys. m ∷ ys) (map_all xs all.1)
        where
          one : (t : Bool) → is_member w c m ≡ t → cond t (moved shown m) m ≡ m
          one true at =
              ap (λ n. on_listener n m) (ap (λ (o : On). listener_after shown (member_on w c o)) (all.0 at) ∙ goes ∙ ap (λ (o : On). o.listener) (sym (all.0 at)))
          one false at = refl

-- ---- a settle
module _ (worker : ℕ) (drain : List Retired) (expired : List ℕ) (shown : Shown) (same : (n : ℕ) → is_expired drain n ≡ has_number n expired) where
  grouped : (a b c : Bool) → (a && (b && c)) ≡ ((a && b) && c)
  grouped true b c = refl
  grouped false b c = refl

  closing_is : (m : OpenMember) → (is_of_worker worker m && closes drain shown m) ≡ is_closing shown expired worker m
  closing_is m =
      ap (λ b. is_of_worker worker m && (b && not (is_chain_shown m.origin shown))) (same m.listener)
      ∙ grouped (m.worker == worker) (has_number m.listener expired) (not (is_chain_shown m.origin shown))

  and_first : (a b : Bool) → (a && b) ≡ true → a ≡ true
  and_first true b h = refl
  and_first false b h = h

  closing_of : (m : OpenMember) → is_closing shown expired worker m ≡ true → (m.worker == worker) ≡ true
  closing_of m h = and_first (m.worker == worker) (closes drain shown m) (closing_is m ∙ h)

  moving_of : (m : OpenMember) → is_moving shown worker m ≡ true → (m.worker == worker) ≡ true
  moving_of m h = and_first (m.worker == worker) (moves shown m) h

  pub numbers_closed : (ledger opened : List OpenMember) → HasOpened ledger opened
      → numbers_where (closes drain shown) worker ledger ≡ connections_where (is_closing shown expired worker) opened
  numbers_closed ledger opened has =
      (λ i. map (λ (m : OpenMember). m.connection) (filter (λ m. closing_is m i) ledger)) ∙ in_ledger worker (is_closing shown expired worker) closing_of ledger opened has

  pub numbers_moved : (ledger opened : List OpenMember) → HasOpened ledger opened
      → numbers_where (moves shown) worker ledger ≡ connections_where (is_moving shown worker) opened
  numbers_moved ledger opened has = in_ledger worker (is_moving shown worker) moving_of ledger opened has

  abbrev moves_own : OpenMember → OpenMember
  moves_own m = cond (m.worker == worker) (moved shown m) m

  places_same : (x y : OpenMember) → member_before (moves_own x) (moves_own y) ≡ member_before x y
  places_same x y = by (x.worker == worker) (y.worker == worker)
    where
      by : (a b : Bool) → member_before (cond a (moved shown x) x) (cond b (moved shown y) y) ≡ member_before x y
      by true true = refl
      by true false = refl
      by false true = refl
      by false false = refl

  own_moves : (m : OpenMember) (among : Bool) → among ≡ is_moving shown worker m → cond among (moved shown m) m ≡ moves_own m
  own_moves m among is = ap (λ t. cond t (moved shown m) m) is ∙ by (m.worker == worker) (moves shown m) refl
    where
      by : (a b : Bool) → moves shown m ≡ b → cond (a && b) (moved shown m) m ≡ cond a (moved shown m) m
      by true true at = refl
      by true false at = sym (stays shown m at)
      by false b at = refl

  pub settled_in_ledger : (ledger opened : List OpenMember) → HasOpened ledger opened → AreApart ledger
      → HasOpened (moved_each worker (numbers_where (moves shown) worker ledger) shown (closed_all worker (numbers_where (closes drain shown) worker ledger) ledger))
      (moved_on shown worker (left_open shown expired worker opened))
  settled_in_ledger ledger opened has apart =
      ap (moved_each worker (numbers_where (moves shown) worker ledger) shown) gone
      ∙ each_among worker (numbers_where (moves shown) worker ledger) shown left
      ∙ map_same (moved_among worker (numbers_where (moves shown) worker ledger) shown) moves_own left
      (all_mapped (λ m. is_member_among worker (numbers_where (moves shown) worker ledger) m ≡ is_moving shown worker m)
      (λ m. moved_among worker (numbers_where (moves shown) worker ledger) shown m ≡ moves_own m)
      (λ m is. own_moves m (is_member_among worker (numbers_where (moves shown) worker ledger) m) is) left
      (all_kept (λ m. is_member_among worker (numbers_where (moves shown) worker ledger) m ≡ is_moving shown worker m) (λ m. not (is_closing shown expired worker m)) ledger
      (among_passing worker (is_moving shown worker) moving_of ledger apart)))
      ∙ ap (λ ms. map moves_own (filter (λ m. not (is_closing shown expired worker m)) ms)) has
      ∙ ap (map moves_own) (filter_in_order (λ m. not (is_closing shown expired worker m)) opened)
      ∙ sym (sorted_map member_before moves_own places_same (left_open shown expired worker opened))
    where
      left : List OpenMember
      left = filter (λ m. not (is_closing shown expired worker m)) ledger

      gone : closed_all worker (numbers_where (closes drain shown) worker ledger) ledger ≡ left
      gone =
          (λ i. closed_all worker (map (λ (m : OpenMember). m.connection) (filter (λ m. closing_is m i) ledger)) ledger)
          ∙ filter_same (is_member_among worker (map (λ (m : OpenMember). m.connection) (filter (is_closing shown expired worker) ledger))) (is_closing shown expired worker) ledger
          (among_passing worker (is_closing shown expired worker) closing_of ledger apart)

pub settle_told : (worker : ℕ) (holders : HoldersParts) (picture : Picture) (closed moved : List ℕ) (world : World) → HoldsFor holders world
    → closed ≡ numbers_where (closes holders.drain holders.pictures.last.shown) worker holders.ledger
    → moved ≡ numbers_where (moves holders.pictures.last.shown) worker holders.ledger → picture ≡ holders.pictures.last → IsToldBy worker closed moved picture world
settle_told worker holders picture closed moved world stands closing moving shows =
    let same = marks world.expired holders.drain world.rows stands.retired stands.marked in
    record {
      closes = closing ∙ numbers_closed worker holders.drain world.expired holders.pictures.last.shown same holders.ledger world.opened stands.opened
          ∙ ap (λ (p : Picture). connections_where (is_closing p.shown world.expired worker) world.opened) stands.pictures.last;
      moves = moving ∙ numbers_moved worker holders.drain world.expired holders.pictures.last.shown same holders.ledger world.opened stands.opened
          ∙ ap (λ (p : Picture). connections_where (is_moving p.shown worker) world.opened) stands.pictures.last;
      shows = shows ∙ stands.pictures.last;
    }

pub settle_stands : (worker : ℕ) (holders : HoldersParts) (pictures : PicturesParts) (ledger : List OpenMember) (closed moved : List ℕ) (world : World) → HoldsFor holders world
    → AreApart holders.ledger → closed ≡ numbers_where (closes holders.drain holders.pictures.last.shown) worker holders.ledger
    → moved ≡ numbers_where (moves holders.pictures.last.shown) worker holders.ledger
    → ledger ≡ moved_each worker moved holders.pictures.last.shown (closed_all worker closed holders.ledger) → HasPictures pictures (settled_on worker world)
    → HoldsFor (record holders { pictures = pictures; ledger = ledger }) (settle worker world).0
settle_stands worker holders pictures ledger closed moved world stands apart closing moving left has =
    let same = marks world.expired holders.drain world.rows stands.retired stands.marked in
    record {
      pictures = record { published = has.published; last = has.last; held = has.held; known = has.known };
      opened =
          left ∙ (λ i. moved_each worker (moving i) holders.pictures.last.shown (closed_all worker (closing i) holders.ledger))
          ∙ settled_in_ledger worker holders.drain world.expired holders.pictures.last.shown same holders.ledger world.opened stands.opened apart
          ∙ ap (λ (p : Picture). in_order (moved_on p.shown worker (left_open p.shown world.expired worker world.opened))) stands.pictures.last;
      retired = stands.retired;
      marked = stands.marked;
    }
