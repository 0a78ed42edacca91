-- A settle by the numbers that were closed and those that moved.
use Rattle.std.proofs.Common.{◌≡◌, ℕ, ◌<◌, Bool, true, false, not, ◌&&◌, ◌||◌, ◌==◌, nat_eq, nat_le, cond, List, [], ◌∷◌, filter, map, length, Option, None, Some, is_some, refl, sym, ap, ◌∙◌}
use Rattle.std.specs.List.{IsDistinct, list_any}
use Rattle.std.specs.Option.{option_map, option_to_list}
use Rattle.std.specs.Map.{keys_of, lookup}
use Rattle.std.proofs.lemmas.Bool.{cond_both}
use Rattle.std.proofs.lemmas.Bool.Decides.{nat_tests}
use Rattle.std.proofs.lemmas.List.{get_or-set_same}
use Rattle.std.proofs.Common.{arith}
use Rattle.ev_model.specs.World.{OpenMember, World, last_version}
use Rattle.ev_model.specs.Sorted.{put_by, sorted_by}
use Rattle.ev_model.specs.Picture.{has_number}
use Rattle.ev_model.specs.Dead.{last_picture, picture_at, picture_held}
use Rattle.ev_model.specs.Connections.{connections_where, is_chain_shown, is_closing, is_member, is_moving, left_open, listener_after, moved_on, next_listener, settle}
use Rattle.ev_model.specs.declared.pictures.Picture.{Picture}
use Rattle.ev_model.specs.declared.pictures.ServedListener.{ServedListener}
use Rattle.ev_model.specs.declared.pictures.Shown.{Shown}
use Rattle.ev_ledger.specs.Members.{member_on}
use Rattle.ev_ledger.specs.declared.open_on.On.{On}
use Rattle.ev_worker.specs.Members.{next_of, stored_members}
use Rattle.ev_worker.specs.Workers.{HasWorker, IsToldBy, SameOpen, left_after, moved_numbers, without_numbers}
use Rattle.ev_worker.proofs.OpenLemmas.{filter_swap, numbered}

or_swap : (x y z : Bool) → (y || (x || z)) ≡ (x || (y || z))
or_swap true true z = refl
or_swap true false z = refl
or_swap false y z = refl

-- a test of a list in order
any_put : {X : Type 0} (le : X → X → Bool) (p : X → Bool) (x : X) (ys : List X) → list_any p (put_by le x ys) ≡ (p x || list_any p ys)
any_put le p x [] = refl
any_put le p x (y ∷ ys) =
    cond_both (le x y) (x ∷ y ∷ ys) (y ∷ put_by le x ys) (λ zs. list_any p zs ≡ (p x || (p y || list_any p ys)))
    (λ before. refl)
    (λ behind. ap (λ b. p y || b) (any_put le p x ys) ∙ or_swap (p x) (p y) (list_any p ys))

any_sorted : {X : Type 0} (le : X → X → Bool) (p : X → Bool) (xs : List X) → list_any p (sorted_by le xs) ≡ list_any p xs
any_sorted le p [] = refl
any_sorted le p (x ∷ xs) = any_put le p x (sorted_by le xs) ∙ ap (λ b. p x || b) (any_sorted le p xs)

-- a change of connections that a test doesn't see may be made before a filter by it or after
filter_changed : (p : OpenMember → Bool) (f : OpenMember → OpenMember) → ((m : OpenMember) → p (f m) ≡ p m) → (xs : List OpenMember)
    → filter p (map f xs) ≡ map f (filter p xs)
filter_changed p f same [] = refl
filter_changed p f same (x ∷ xs) =
    ap (λ b. cond b (f x ∷ filter p (map f xs)) (filter p (map f xs))) (same x)
    ∙ ap (λ ys. cond (p x) (f x ∷ ys) ys) (filter_changed p f same xs)
    ∙ by (p x)
  where
    by : (t : Bool) → cond t (f x ∷ map f (filter p xs)) (map f (filter p xs)) ≡ map f (cond t (x ∷ filter p xs) (filter p xs))
    by true = refl
    by false = refl

-- the connections of a number, once some moved
moved_of : (worker n : ℕ) (numbers : List ℕ) (shown : Shown) (xs : List OpenMember)
    → filter (is_member worker n) (moved_numbers numbers shown xs) ≡ moved_numbers numbers shown (filter (is_member worker n) xs)
moved_of worker n numbers shown xs =
    filter_changed (is_member worker n) (λ (m : OpenMember). cond (has_number m.connection numbers) (record m { listener = listener_after shown m }) m)
    (λ m. by m (has_number m.connection numbers)) xs
  where
    by : (m : OpenMember) (t : Bool) → is_member worker n (cond t (record m { listener = listener_after shown m }) m) ≡ is_member worker n m
    by m true = refl
    by m false = refl

moved_on_of : (worker n : ℕ) (shown : Shown) (xs : List OpenMember)
    → filter (is_member worker n) (moved_on shown worker xs) ≡ moved_on shown worker (filter (is_member worker n) xs)
moved_on_of worker n shown xs =
    filter_changed (is_member worker n) (λ (m : OpenMember). cond (m.worker == worker) (record m { listener = listener_after shown m }) m)
    (λ m. by m (m.worker == worker)) xs
  where
    by : (m : OpenMember) (t : Bool) → is_member worker n (cond t (record m { listener = listener_after shown m }) m) ≡ is_member worker n m
    by m true = refl
    by m false = refl

-- a map in which some moved has the connections of which these numbers moved
pub numbers_move : (worker : ℕ) (numbers : List ℕ) (shown : Shown) (es moved : List (ℕ × On))
    → IsDistinct nat_eq (keys_of es) → IsDistinct nat_eq (keys_of moved)
    → ((n : ℕ) → lookup (nat_eq n) moved ≡ cond (has_number n numbers) (option_map (next_of shown) (lookup (nat_eq n) es)) (lookup (nat_eq n) es))
    → SameOpen worker (stored_members worker moved) (moved_numbers numbers shown (stored_members worker es))
numbers_move worker numbers shown es moved apart still moves = λ n.
    numbered worker n moved still
    ∙ ap (λ found. option_to_list (option_map (λ (on : On). member_on worker n on) found)) (moves n)
    ∙ by n (has_number n numbers) (lookup (nat_eq n) es) refl
    ∙ sym (moved_of worker n numbers shown (stored_members worker es) ∙ ap (moved_numbers numbers shown) (numbered worker n es apart))
  where
    by : (n : ℕ) (t : Bool) (found : Option On) → has_number n numbers ≡ t
        → option_to_list (option_map (λ (on : On). member_on worker n on) (cond t (option_map (next_of shown) found) found))
        ≡ moved_numbers numbers shown (option_to_list (option_map (λ (on : On). member_on worker n on) found))
    by n true None is = refl
    by n false None is = refl
    by n true (Some on) is =
        sym (ap (λ b. cond b (record (member_on worker n on) { listener = listener_after shown (member_on worker n on) }) (member_on worker n on) ∷ []) is)
    by n false (Some on) is =
        sym (ap (λ b. cond b (record (member_on worker n on) { listener = listener_after shown (member_on worker n on) }) (member_on worker n on) ∷ []) is)

-- so do lists with the same connections
pub moved_same : (worker : ℕ) (numbers : List ℕ) (shown : Shown) (one other : List OpenMember) → SameOpen worker one other
    → SameOpen worker (moved_numbers numbers shown one) (moved_numbers numbers shown other)
moved_same worker numbers shown one other same = λ n.
    moved_of worker n numbers shown one ∙ ap (moved_numbers numbers shown) (same n) ∙ sym (moved_of worker n numbers shown other)

-- a number is among those of the connections that pass exactly where some
-- of the worker's connections of that number passes
among : (q : OpenMember → Bool) (worker number : ℕ) (xs : List OpenMember)
    → list_any (λ n. n == number) (map (λ (m : OpenMember). m.connection) (filter (λ (m : OpenMember). (m.worker == worker) && q m) xs))
    ≡ list_any (λ (m : OpenMember). (m.worker == worker) && q m) (filter (is_member worker number) xs)
among q worker number [] = refl
among q worker number (x ∷ xs) = by (x.worker == worker) (q x) (x.connection == number) refl refl refl (among q worker number xs)
  where
    by : (a b c : Bool) → (x.worker == worker) ≡ a → q x ≡ b → (x.connection == number) ≡ c
        → list_any (λ n. n == number) (map (λ (m : OpenMember). m.connection) (filter (λ (m : OpenMember). (m.worker == worker) && q m) xs))
        ≡ list_any (λ (m : OpenMember). (m.worker == worker) && q m) (filter (is_member worker number) xs)
        → list_any (λ n. n == number)
        (map (λ (m : OpenMember). m.connection)
        (cond (a && b) (x ∷ filter (λ (m : OpenMember). (m.worker == worker) && q m) xs) (filter (λ (m : OpenMember). (m.worker == worker) && q m) xs)))
        ≡ list_any (λ (m : OpenMember). (m.worker == worker) && q m)
        (cond (a && c) (x ∷ filter (is_member worker number) xs) (filter (is_member worker number) xs))
    by true true true is has at rest = simp (is, has, at) refl
    by true true false is has at rest = simp at rest
    by true false true is has at rest = simp (is, has) rest
    by true false false is has at rest = rest
    by false b c is has at rest = rest

told_has : (q : OpenMember → Bool) (worker number : ℕ) (xs : List OpenMember)
    → has_number number (connections_where (λ (m : OpenMember). (m.worker == worker) && q m) xs)
    ≡ list_any (λ (m : OpenMember). (m.worker == worker) && q m) (filter (is_member worker number) xs)
told_has q worker number xs =
    any_sorted nat_le (λ n. n == number) (map (λ (m : OpenMember). m.connection) (filter (λ (m : OpenMember). (m.worker == worker) && q m) xs))
    ∙ among q worker number xs

closing_has : (shown : Shown) (expired : List ℕ) (worker number : ℕ) (xs : List OpenMember)
    → has_number number (connections_where (is_closing shown expired worker) xs) ≡ list_any (is_closing shown expired worker) (filter (is_member worker number) xs)
closing_has shown expired worker number xs =
    (λ i. has_number number (connections_where (λ m. grouped m i) xs))
    ∙ told_has (λ (m : OpenMember). has_number m.listener expired && not (is_chain_shown m.origin shown)) worker number xs
    ∙ (λ i. list_any (λ m. sym (grouped m) i) (filter (is_member worker number) xs))
  where
    by : (a b c : Bool) → ((a && b) && c) ≡ (a && (b && c))
    by true b c = refl
    by false b c = refl

    grouped : (m : OpenMember) → is_closing shown expired worker m ≡ ((m.worker == worker) && (has_number m.listener expired && not (is_chain_shown m.origin shown)))
    grouped m = by (m.worker == worker) (has_number m.listener expired) (not (is_chain_shown m.origin shown))

-- a connection that has nowhere to move is on the listener that it was on
stays : (shown : Shown) (m : OpenMember) → is_some (next_listener shown m) ≡ false → record m { listener = listener_after shown m } ≡ m
stays shown m none = by (next_listener shown m) refl none
  where
    by : (next : Option ServedListener) → next_listener shown m ≡ next → is_some next ≡ false → record m { listener = listener_after shown m } ≡ m
    by None is none = simp is refl
    by (Some listener) is none = absurd (cc none)

-- of a worker whose numbers are apart, a settle takes and moves the same connections by number as by what is shown
pub settle_takes : (worker : ℕ) (es : List (ℕ × On)) (shown : Shown) (expired : List ℕ) (opened : List OpenMember) → IsDistinct nat_eq (keys_of es)
    → SameOpen worker (stored_members worker es) opened
    → SameOpen worker
    (left_after (connections_where (is_closing shown expired worker) opened) (connections_where (is_moving shown worker) opened) shown (stored_members worker es))
    (moved_on shown worker (left_open shown expired worker opened))
settle_takes worker es shown expired opened apart same = λ n.
    moved_of worker n (connections_where (is_moving shown worker) opened) shown (without_numbers (connections_where (is_closing shown expired worker) opened) (stored_members worker es))
    ∙ ap (moved_numbers (connections_where (is_moving shown worker) opened) shown)
    (filter_swap (is_member worker n) (λ (m : OpenMember). not (has_number m.connection (connections_where (is_closing shown expired worker) opened))) (stored_members worker es)
    ∙ ap (filter (λ (m : OpenMember). not (has_number m.connection (connections_where (is_closing shown expired worker) opened)))) (numbered worker n es apart))
    ∙ by n (lookup (nat_eq n) es)
    (closing_has shown expired worker n opened
    ∙ ap (list_any (is_closing shown expired worker)) (sym (same n) ∙ numbered worker n es apart))
    (told_has (λ (m : OpenMember). is_some (next_listener shown m)) worker n opened ∙ ap (list_any (is_moving shown worker)) (sym (same n) ∙ numbered worker n es apart))
    ∙ sym
    (moved_on_of worker n shown (left_open shown expired worker opened)
    ∙ ap (moved_on shown worker)
    (filter_swap (is_member worker n) (λ m. not (is_closing shown expired worker m)) opened
    ∙ ap (filter (λ m. not (is_closing shown expired worker m))) (sym (same n) ∙ numbered worker n es apart)))
  where
    own : (worker == worker) ≡ true
    own = grind (arith, nat_tests)

    by : (n : ℕ) (found : Option On)
        → has_number n (connections_where (is_closing shown expired worker) opened) ≡ list_any (is_closing shown expired worker) (option_to_list (option_map (λ (on : On). member_on worker n on) found))
        → has_number n (connections_where (is_moving shown worker) opened) ≡ list_any (is_moving shown worker) (option_to_list (option_map (λ (on : On). member_on worker n on) found))
        → moved_numbers (connections_where (is_moving shown worker) opened) shown (filter (λ (m : OpenMember). not (has_number m.connection (connections_where (is_closing shown expired worker) opened))) (option_to_list (option_map (λ (on : On). member_on worker n on) found)))
        ≡ moved_on shown worker (filter (λ m. not (is_closing shown expired worker m)) (option_to_list (option_map (λ (on : On). member_on worker n on) found)))
    by n None closes moves = refl
    by n (Some on) closes moves =
        ap (λ b. moved_numbers (connections_where (is_moving shown worker) opened) shown (cond (not b) (member_on worker n on ∷ []) [])) closes
        ∙ left (is_closing shown expired worker (member_on worker n on))
      where
        left : (t : Bool) → moved_numbers (connections_where (is_moving shown worker) opened) shown (cond (not (t || false)) (member_on worker n on ∷ []) []) ≡ moved_on shown worker (cond (not t) (member_on worker n on ∷ []) [])
        left true = refl
        left false =
            ap (λ b. cond b (record (member_on worker n on) { listener = listener_after shown (member_on worker n on) }) (member_on worker n on) ∷ []) moves
            ∙ ap (λ b. cond ((b && is_some (next_listener shown (member_on worker n on))) || false)
            (record (member_on worker n on) { listener = listener_after shown (member_on worker n on) }) (member_on worker n on) ∷ []) own
            ∙ also (is_some (next_listener shown (member_on worker n on))) refl
            ∙ sym (ap (λ b. cond b (record (member_on worker n on) { listener = listener_after shown (member_on worker n on) }) (member_on worker n on) ∷ []) own)
          where
            also : (t : Bool) → is_some (next_listener shown (member_on worker n on)) ≡ t
                → cond (t || false) (record (member_on worker n on) { listener = listener_after shown (member_on worker n on) }) (member_on worker n on) ∷ []
                ≡ record (member_on worker n on) { listener = listener_after shown (member_on worker n on) } ∷ []
            also true is = refl
            also false is = ap (λ m. m ∷ []) (sym (stays shown (member_on worker n on) is))

-- the picture that a worker holds once it settled
settled_holds : (worker : ℕ) (world : World) → worker < length world.held → picture_held (settle worker world).0 worker ≡ last_picture world
settled_holds worker world below = ap (picture_at world) (get_or-set_same world.held worker (last_version world) 0 below)

-- what a worker that adopts represents
pub adopted : (number : ℕ) (picture old : Picture) (es : List (ℕ × On)) (closed moved : List ℕ) (opened : List OpenMember) (world : World)
    → IsDistinct nat_eq (keys_of es) → HasWorker number old (stored_members number es) world → number < length world.held → IsToldBy number closed moved picture world
    → SameOpen number opened (left_after closed moved picture.shown (stored_members number es))
    → HasWorker number picture opened (settle number world).0
adopted number picture old es closed moved opened world apart has below told left = record {
  holds = settled_holds number world below ∙ sym told.shows;
  has = λ n.
      left n
      ∙ (λ i. filter (is_member number n) (left_after (told.closes i) (told.moves i) (told.shows i).shown (stored_members number es)))
      ∙ settle_takes number es (last_picture world).shown world.expired world.opened apart has.has n;
}
