-- One element goes out of a list in order, or comes in: what is found afterwards.
use Rattle.std.proofs.Common.{◌≡◌, ◌∙◌, ℕ, ◌==◌, ◌||◌, not, Bool, true, false, cond, List, [], ◌∷◌, filter, find, Option, Some, None, refl, sym, ap, subst, true≢false, arith}
use Rattle.std.specs.Bool.{Decides}
use Rattle.std.specs.List.{AllByRecursion, list_any}
use Rattle.std.specs.Str.{bytes_eq}
use Rattle.std.proofs.lemmas.Bool.{cond_both}
use Rattle.ev_types.specs.Same.{bytes_decide, numbers_decide}
use Rattle.ev_model.specs.Sorted.{put_by}
use Rattle.ev_model.specs.Versions.{is_before}
use Rattle.ev_layers.specs.Rows.{IsInOrder, IsPairwise, put_in, AreFound, listing, named, numbered, put_before, put_named, without_name, without_number}
use Rattle.ev_layers.proofs.Order.{every_kept, none_found, ahead, before_then, behind, every_put, every_so, all_fail, kept_whole, one_list, own_name, pairs_kept, found_passes, same_kept, same_name, turned}

none_either : {X : Type 0} (b : Bool) (o : Option X) → o ≡ None → o ≡ cond b None o
none_either true o e = e
none_either false o e = refl

-- ---- a search by a key, where equality of keys is decided
module _ {X Y : Type 0} (eq : Y → Y → Bool) (decide : (a b : Y) → Decides (eq a b) (a ≡ b)) (key : X → Y) where
  pub other_way : (a b : Y) → eq a b ≡ false → eq b a ≡ false
  other_way a b h = by (eq b a) refl
    where
      by : (t : Bool) → eq b a ≡ t → t ≡ false
      by false e = refl
      by true e = absurd (true≢false (sym ((decide a b).1 (sym ((decide b a).0 e))) ∙ h))

  apart_from : (a b m : Y) → eq a b ≡ false → eq b m ≡ true → eq a m ≡ false
  apart_from a b m h k = subst (λ y. eq a y ≡ false) ((decide b m).0 k) h

  -- without the elements of one key
  pub find_without : (k : Y) (xs : List X) (m : Y)
      → find (λ x. eq (key x) m) (filter (λ x. not (eq (key x) k)) xs) ≡ cond (eq k m) None (find (λ x. eq (key x) m) xs)
  find_without k [] m = none_either (eq k m) None refl
  find_without k (x ∷ xs) m = by (eq (key x) k) (eq (key x) m) (eq k m) refl refl refl (find_without k xs m)
    where
      by : (a b c : Bool) → eq (key x) k ≡ a → eq (key x) m ≡ b → eq k m ≡ c
          → find (λ y. eq (key y) m) (filter (λ y. not (eq (key y) k)) xs) ≡ cond c None (find (λ y. eq (key y) m) xs)
          → find (λ y. eq (key y) m) (cond (not a) (x ∷ filter (λ y. not (eq (key y) k)) xs) (filter (λ y. not (eq (key y) k)) xs))
          ≡ cond c None (cond b (Some x) (find (λ y. eq (key y) m) xs))
      by true b true p q r rest = rest
      by true true false p q r rest = absurd (true≢false (sym ((decide k m).1 (sym ((decide (key x) k).0 p) ∙ (decide (key x) m).0 q)) ∙ r))
      by true false false p q r rest = rest
      by false true true p q r rest = absurd (true≢false (sym ((decide (key x) k).1 ((decide (key x) m).0 q ∙ sym ((decide k m).0 r))) ∙ p))
      by false true false p q r rest = λ i. cond (q i) (Some x) (find (λ y. eq (key y) m) (filter (λ y. not (eq (key y) k)) xs))
      by false false c p q r rest = (λ i. cond (q i) (Some x) (find (λ y. eq (key y) m) (filter (λ y. not (eq (key y) k)) xs))) ∙ rest

  -- with one more, of a key that no other has
  pub find_put : (b : X → X → Bool) (x : X) (ys : List X) (m : Y) → find (λ y. eq (key y) (key x)) ys ≡ None
      → find (λ y. eq (key y) m) (put_by b x ys) ≡ cond (eq (key x) m) (Some x) (find (λ y. eq (key y) m) ys)
  find_put b x [] m none = refl
  find_put b x (y ∷ ys) m none =
      let far : eq (key y) (key x) ≡ false = (all_fail (λ z. eq (key z) (key x)) (y ∷ ys) none).0 in
      let rest : find (λ z. eq (key z) (key x)) ys ≡ None = (λ i. cond (sym far i) (Some y) (find (λ z. eq (key z) (key x)) ys)) ∙ none in
      by (b x y) (eq (key x) m) (eq (key y) m) refl refl far (find_put b x ys m rest)
    where
      by : (t c d : Bool) → eq (key x) m ≡ c → eq (key y) m ≡ d → eq (key y) (key x) ≡ false
          → find (λ z. eq (key z) m) (put_by b x ys) ≡ cond c (Some x) (find (λ z. eq (key z) m) ys)
          → find (λ z. eq (key z) m) (cond t (x ∷ y ∷ ys) (y ∷ put_by b x ys)) ≡ cond c (Some x) (cond d (Some y) (find (λ z. eq (key z) m) ys))
      by true c d p q far rest = λ i. cond (p i) (Some x) (cond (q i) (Some y) (find (λ z. eq (key z) m) ys))
      by false true true p q far rest = absurd (true≢false (sym q ∙ apart_from (key y) (key x) m far p))
      by false true false p q far rest = (λ i. cond (q i) (Some y) (find (λ z. eq (key z) m) (put_by b x ys))) ∙ rest
      by false false d p q far rest = (λ i. cond (q i) (Some y) (find (λ z. eq (key z) m) (put_by b x ys))) ∙ ap (cond d (Some y)) rest

module _ {X : Type 0} (number : X → ℕ) (name : X → List ℕ) where
  abbrev pub precedes : X → X → Bool
  precedes x y = is_before (name x) (name y)

  -- ---- an element that is found by whatever test is the only one of its number, and the only one of its name
  both_fail : (a b : Bool) → a ≡ false → b ≡ false → a ≡ b
  both_fail a b p q = p ∙ sym q

  pub alone : (p : X → Bool) (xs : List X) (c : X) → IsPairwise precedes xs → IsPairwise (λ x y. not (number x == number y)) xs
      → find p xs ≡ Some c → AllByRecursion (λ x. not (number x == number c) ≡ not (bytes_eq (name x) (name c))) xs
  alone p [] c s t e = tt
  alone p (x ∷ xs) c s t e = by (p x) e (alone p xs c s.1 t.1)
    where
      far : (w : X) → not (number x == number w) ≡ true → (number x == number w) ≡ false
      far w h = grind arith

      tail : (ys : List X) → AllByRecursion (λ y. precedes x y ≡ true) ys → AllByRecursion (λ y. not (number x == number y) ≡ true) ys
          → AllByRecursion (λ y. not (number y == number x) ≡ not (bytes_eq (name y) (name x))) ys
      tail [] s t = tt
      tail (y ∷ ys) s t = (
        ap not (both_fail (number y == number x) (bytes_eq (name y) (name x)) (other_way (λ a b. a == b) numbers_decide number (number x) (number y) (far y t.0)) (behind (name x) (name y) (name x) s.0 (own_name (name x)))),
        tail ys s.1 t.1,
      )

      first : (ys : List X) → find p ys ≡ Some c → AllByRecursion (λ y. precedes x y ≡ true) ys → AllByRecursion (λ y. not (number x == number y) ≡ true) ys
          → not (number x == number c) ≡ not (bytes_eq (name x) (name c))
      first [] e s t = absurd cc
      first (y ∷ ys) e s t = at (p y) e (λ h. first ys h s.1 t.1)
        where
          at : (b : Bool) → cond b (Some y) (find p ys) ≡ Some c → (find p ys ≡ Some c → not (number x == number c) ≡ not (bytes_eq (name x) (name c)))
              → not (number x == number c) ≡ not (bytes_eq (name x) (name c))
          at true h rest =
              let one : y ≡ c = cc in
              subst (λ z. not (number x == number z) ≡ not (bytes_eq (name x) (name z))) one
              (ap not (both_fail (number x == number y) (bytes_eq (name x) (name y)) (far y t.0) (ahead (name x) (name y) (name y) s.0 (own_name (name y)))))
          at false h rest = rest h

      by : (b : Bool) → cond b (Some x) (find p xs) ≡ Some c
          → (find p xs ≡ Some c → AllByRecursion (λ y. not (number y == number c) ≡ not (bytes_eq (name y) (name c))) xs)
          → AllByRecursion (λ y. not (number y == number c) ≡ not (bytes_eq (name y) (name c))) (x ∷ xs)
      by true h rest =
          let one : x ≡ c = cc in
          subst (λ z. AllByRecursion (λ y. not (number y == number z) ≡ not (bytes_eq (name y) (name z))) (x ∷ xs)) one
          (ap not ((numbers_decide (number x) (number x)).1 refl ∙ sym (own_name (name x))), tail xs s.0 t.0)
      by false h rest = (first xs h s.0 t.0, rest h)

  -- so it goes by its number as by its name
  pub same_without : (p : X → Bool) (xs : List X) (c : X) → IsInOrder number name xs → find p xs ≡ Some c
      → filter (λ x. not (number x == number c)) xs ≡ filter (λ x. not (bytes_eq (name x) (name c))) xs
  same_without p xs c o e = same_kept (λ x. not (number x == number c)) (λ x. not (bytes_eq (name x) (name c))) xs (alone p xs c o.names o.numbers e)

  pub kept_order : (p : X → Bool) (xs : List X) → IsInOrder number name xs → IsInOrder number name (filter p xs)
  kept_order p xs o = record { names = pairs_kept precedes p xs o.names; numbers = pairs_kept (λ x y. not (number x == number y)) p xs o.numbers }

  -- ---- the order of names with one more
  put_names : (x : X) (ys : List X) → AllByRecursion (λ y. bytes_eq (name y) (name x) ≡ false) ys → IsPairwise precedes ys → IsPairwise precedes (put_by precedes x ys)
  put_names x [] apart s = (tt, tt)
  put_names x (y ∷ ys) apart s =
      cond_both (precedes x y) (x ∷ y ∷ ys) (y ∷ put_by precedes x ys) (IsPairwise precedes)
      (λ e. ((e, every_so (λ w. precedes y w ≡ true) (λ w. precedes x w ≡ true) ys (λ w h. before_then (name x) (name y) (name w) e h) s.0), s))
      (λ e. (every_put (λ w. precedes y w ≡ true) precedes x ys (turned (name x) (name y) e apart.0) s.0, put_names x ys apart.1 s.1))

  put_numbers : (x : X) (ys : List X) → AllByRecursion (λ y. (number y == number x) ≡ false) ys
      → IsPairwise (λ a b. not (number a == number b)) ys → IsPairwise (λ a b. not (number a == number b)) (put_by precedes x ys)
  put_numbers x [] apart s = (tt, tt)
  put_numbers x (y ∷ ys) apart s =
      cond_both (precedes x y) (x ∷ y ∷ ys) (y ∷ put_by precedes x ys) (IsPairwise (λ a b. not (number a == number b)))
      (λ e. (
        every_so (λ w. (number w == number x) ≡ false) (λ w. not (number x == number w) ≡ true) (y ∷ ys)
            (λ w h. ap not (other_way (λ a b. a == b) numbers_decide number (number w) (number x) h)) apart,
        s,
      ))
      (λ e. (every_put (λ w. not (number y == number w) ≡ true) precedes x ys (ap not apart.0) s.0, put_numbers x ys apart.1 s.1))

  pub put_order : (x : X) (ys : List X) → named name ys (name x) ≡ None → numbered number ys (number x) ≡ None → IsInOrder number name ys → IsInOrder number name (put_by precedes x ys)
  put_order x ys no_name no_number o = record {
    names = put_names x ys (all_fail (λ y. bytes_eq (name y) (name x)) ys no_name) o.names;
    numbers = put_numbers x ys (all_fail (λ y. number y == number x) ys no_number) o.numbers;
  }

  -- ---- a list that is made of a table
  named_put : (x : X) (ys : List X) (n : List ℕ) → named name (put_named name (Some x) ys) n ≡ cond (bytes_eq (name x) n) (Some x) (named name ys n)
  named_put x ys n =
      let others = filter (λ y. not (bytes_eq (name y) (name x))) ys in
      find_put bytes_eq bytes_decide name precedes x others n (find_without bytes_eq bytes_decide name (name x) ys (name x) ∙ (λ i. cond (own_name (name x) i) None (named name ys (name x))))
      ∙ ap (cond (bytes_eq (name x) n) (Some x)) (find_without bytes_eq bytes_decide name (name x) ys n)
      ∙ by (bytes_eq (name x) n)
    where
      by : (b : Bool) → cond b (Some x) (cond b None (named name ys n)) ≡ cond b (Some x) (named name ys n)
      by true = refl
      by false = refl

  listing_names : (f : List ℕ → Option X) → ((n : List ℕ) (x : X) → f n ≡ Some x → bytes_eq (name x) n ≡ true) → (ns : List (List ℕ)) → IsPairwise precedes (listing name f ns)
  listing_names f right [] = tt
  listing_names f right (n ∷ ns) = by (f n) (listing_names f right ns)
    where
      by : (o : Option X) → IsPairwise precedes (listing name f ns) → IsPairwise precedes (put_named name o (listing name f ns))
      by None s = s
      by (Some x) s =
          let others = filter (λ y. not (bytes_eq (name y) (name x))) (listing name f ns) in
          put_names x others
          (all_fail (λ y. bytes_eq (name y) (name x)) others (find_without bytes_eq bytes_decide name (name x) (listing name f ns) (name x) ∙ (λ i. cond (own_name (name x) i) None (named name (listing name f ns) (name x)))))
          (pairs_kept precedes (λ y. not (bytes_eq (name y) (name x))) (listing name f ns) s)

  listing_found : (f : List ℕ → Option X) → ((n : List ℕ) (x : X) → f n ≡ Some x → bytes_eq (name x) n ≡ true) → (ns : List (List ℕ)) (n : List ℕ)
      → named name (listing name f ns) n ≡ cond (list_any (bytes_eq n) ns) (f n) None
  listing_found f right [] n = refl
  listing_found f right (m ∷ ns) n = by (f m) refl (listing_found f right ns n)
    where
      over : (t among : Bool) (o p : Option X) → bytes_eq n m ≡ t → f m ≡ p → f n ≡ o → (t ≡ true → p ≡ o) → cond t p (cond among o None) ≡ cond (t || among) o None
      over true among o p e g h same = same refl
      over false among o p e g h same = refl

      there : (x : X) → bytes_eq (name x) m ≡ true → (t : Bool) → bytes_eq n m ≡ t → bytes_eq (name x) n ≡ t
      there x h true e = ap (λ k. bytes_eq (name x) k) (same_name n m e) ∙ h
      there x h false e = ap (λ k. bytes_eq k n) (same_name (name x) m h) ∙ other_way bytes_eq bytes_decide name n m e

      by : (p : Option X) → f m ≡ p → named name (listing name f ns) n ≡ cond (list_any (bytes_eq n) ns) (f n) None
          → named name (put_named name p (listing name f ns)) n ≡ cond (bytes_eq n m || list_any (bytes_eq n) ns) (f n) None
      by None g rest = rest ∙ none (bytes_eq n m) refl
        where
          none : (t : Bool) → bytes_eq n m ≡ t → cond (list_any (bytes_eq n) ns) (f n) None ≡ cond (t || list_any (bytes_eq n) ns) (f n) None
          none false e = refl
          none true e = empty (list_any (bytes_eq n) ns) (ap f (same_name n m e) ∙ g)
            where
              empty : (b : Bool) → f n ≡ None → cond b (f n) None ≡ f n
              empty true h = refl
              empty false h = sym h
      by (Some x) g rest =
          named_put x (listing name f ns) n
          ∙ (λ i. cond (there x (right m x g) (bytes_eq n m) refl i) (Some x) (rest i))
          ∙ over (bytes_eq n m) (list_any (bytes_eq n) ns) (f n) (Some x) refl g refl (λ e. sym g ∙ ap f (sym (same_name n m e)))

  -- a table that finds what a list in order has makes this list
  pub listing_one : (f : List ℕ → Option X) (ns : List (List ℕ)) (xs : List X) → IsPairwise precedes xs → ((n : List ℕ) → f n ≡ named name xs n)
      → ((n : List ℕ) → list_any (bytes_eq n) ns ≡ false → f n ≡ None) → listing name f ns ≡ xs
  listing_one f ns xs s same covered =
      let right : (n : List ℕ) (x : X) → f n ≡ Some x → bytes_eq (name x) n ≡ true = λ n x e. found (λ y. bytes_eq (name y) n) xs x (sym (same n) ∙ e) in
      one_list name (listing name f ns) xs (listing_names f right ns) s (λ n. listing_found f right ns n ∙ by n (list_any (bytes_eq n) ns) refl ∙ same n)
    where
      found : (p : X → Bool) (xs : List X) (x : X) → find p xs ≡ Some x → p x ≡ true
      found p xs x e = found_passes p xs x e

      by : (n : List ℕ) (t : Bool) → list_any (bytes_eq n) ns ≡ t → cond t (f n) None ≡ f n
      by n true e = refl
      by n false e = sym (covered n e)

  -- and the tables find it
  pub table_shows : (f : List ℕ → Option X) (h : ℕ → Option X) (ns : List (List ℕ)) (xs : List X) → AreFound number name xs f h
      → ((n : List ℕ) → list_any (bytes_eq n) ns ≡ false → f n ≡ None) → (listing name f ns ≡ xs) × AreFound number name (listing name f ns) f h
  table_shows f h ns xs found covered =
      let one = listing_one f ns xs found.order.names found.at_name covered in
      (one, subst (λ ys. AreFound number name ys f h) (sym one) found)

  -- ---- what goes out and comes in
  pub row_out : (f g : List ℕ → Option X) (h k : ℕ → Option X) (ns : List (List ℕ)) (xs : List X) (n : ℕ) (c : X) → AreFound number name xs f h → h n ≡ Some c
      → ((m : List ℕ) → g m ≡ cond (bytes_eq (name c) m) None (f m)) → ((m : ℕ) → k m ≡ cond (n == m) None (h m))
      → ((m : List ℕ) → list_any (bytes_eq m) ns ≡ false → g m ≡ None)
      → (listing name g ns ≡ without_number number n xs) × AreFound number name (listing name g ns) g k
  row_out f g h k ns xs n c found at names numbers covered =
      let search : numbered number xs n ≡ Some c = sym (found.at_number n) ∙ at in
      let is : number c ≡ n = (numbers_decide (number c) n).0 (found_passes (λ x. number x == n) xs c search) in
      let same : without_number number n xs ≡ without_name name (name c) xs =
      (λ i. without_number number (sym is i) xs) ∙ same_without (λ x. number x == n) xs c found.order search in
      table_shows g k ns (without_number number n xs) (record {
        order = kept_order (λ x. not (number x == n)) xs found.order;
        at_name = λ m. names m ∙ ap (cond (bytes_eq (name c) m) None) (found.at_name m) ∙ sym (find_without bytes_eq bytes_decide name (name c) xs m) ∙ ap (λ ys. named name ys m) (sym same);
        at_number = λ m. numbers m ∙ ap (cond (n == m) None) (found.at_number m) ∙ sym (find_without (λ a b. a == b) numbers_decide number n xs m);
      }) covered

  pub row_in : (f g : List ℕ → Option X) (h k : ℕ → Option X) (ns : List (List ℕ)) (xs : List X) (x : X) → AreFound number name xs f h
      → named name xs (name x) ≡ None → numbered number xs (number x) ≡ None
      → ((m : List ℕ) → g m ≡ cond (bytes_eq (name x) m) (Some x) (f m)) → ((m : ℕ) → k m ≡ cond (number x == m) (Some x) (h m))
      → ((m : List ℕ) → list_any (bytes_eq m) ns ≡ false → g m ≡ None)
      → (listing name g ns ≡ put_before name x xs) × AreFound number name (listing name g ns) g k
  row_in f g h k ns xs x found no_name no_number names numbers covered =
      table_shows g k ns (put_before name x xs) (record {
        order = put_order x xs no_name no_number found.order;
        at_name = λ m. names m ∙ ap (cond (bytes_eq (name x) m) (Some x)) (found.at_name m) ∙ sym (find_put bytes_eq bytes_decide name precedes x xs m no_name);
        at_number = λ m. numbers m ∙ ap (cond (number x == m) (Some x)) (found.at_number m) ∙ sym (find_put (λ a b. a == b) numbers_decide number precedes x xs m no_number);
      }) covered

  -- a list without a name is the list without the number that has the name
  pub name_out : (xs : List X) (n : List ℕ) (c : X) → IsInOrder number name xs → named name xs n ≡ Some c → without_number number (number c) xs ≡ without_name name n xs
  name_out xs n c o e =
      same_without (λ x. bytes_eq (name x) n) xs c o e ∙ (λ i. without_name name (same_name (name c) n (found_passes (λ x. bytes_eq (name x) n) xs c e) i) xs)

  pub name_absent : (xs : List X) (n : List ℕ) → named name xs n ≡ None → xs ≡ without_name name n xs
  name_absent xs n none =
      sym (kept_whole (λ x. not (bytes_eq (name x) n)) xs (every_so (λ x. bytes_eq (name x) n ≡ false) (λ x. not (bytes_eq (name x) n) ≡ true) xs (λ x h. ap not h) (all_fail (λ x. bytes_eq (name x) n) xs none)))

  pub number_absent : (xs : List X) (n : ℕ) → numbered number xs n ≡ None → xs ≡ without_number number n xs
  number_absent xs n none =
      sym (kept_whole (λ x. not (number x == n)) xs (every_so (λ x. (number x == n) ≡ false) (λ x. not (number x == n) ≡ true) xs (λ x h. ap not h) (all_fail (λ x. number x == n) xs none)))

  -- after both went, neither its name nor its number is found
  pub no_name_left : (xs : List X) (n : List ℕ) → named name (without_name name n xs) n ≡ None
  no_name_left xs n = find_without bytes_eq bytes_decide name n xs n ∙ (λ i. cond (own_name n i) None (named name xs n))

  pub no_number_left : (xs : List X) (m : List ℕ) (n : ℕ) → numbered number (without_name name m (without_number number n xs)) n ≡ None
  no_number_left xs m n =
      none_found (λ x. number x == n) (without_name name m (without_number number n xs))
      (every_kept (λ x. (number x == n) ≡ false) (λ x. not (bytes_eq (name x) m)) (without_number number n xs)
      (all_fail (λ x. number x == n) (without_number number n xs)
      (find_without (λ a b. a == b) numbers_decide number n xs n ∙ (λ i. cond ((numbers_decide n n).1 refl i) None (numbered number xs n)))))

  pub put_both : (x : X) (xs : List X) → put_before name x (without_name name (name x) (without_number number (number x) xs)) ≡ put_in number name x xs
  put_both x xs = ap (put_before name x) (both xs)
    where
      both : (ys : List X) → without_name name (name x) (without_number number (number x) ys) ≡ filter (λ y. not ((number y == number x) || bytes_eq (name y) (name x))) ys
      both [] = refl
      both (y ∷ ys) = by (number y == number x) (bytes_eq (name y) (name x)) refl (both ys)
        where
          by : (a b : Bool) → bytes_eq (name y) (name x) ≡ b
              → without_name name (name x) (without_number number (number x) ys) ≡ filter (λ z. not ((number z == number x) || bytes_eq (name z) (name x))) ys
              → without_name name (name x) (cond (not a) (y ∷ without_number number (number x) ys) (without_number number (number x) ys))
              ≡ cond (not (a || b)) (y ∷ filter (λ z. not ((number z == number x) || bytes_eq (name z) (name x))) ys) (filter (λ z. not ((number z == number x) || bytes_eq (name z) (name x))) ys)
          by true b e rest = rest
          by false b e rest = λ i. cond (not (e i)) (y ∷ rest i) (rest i)

  -- tables that find the same show the same
  pub row_same : (f g : List ℕ → Option X) (h k : ℕ → Option X) (ns : List (List ℕ)) (xs : List X) → AreFound number name xs f h
      → ((m : List ℕ) → g m ≡ f m) → ((m : ℕ) → k m ≡ h m) → ((m : List ℕ) → list_any (bytes_eq m) ns ≡ false → g m ≡ None)
      → (listing name g ns ≡ xs) × AreFound number name (listing name g ns) g k
  row_same f g h k ns xs found names numbers covered =
      table_shows g k ns xs (record { order = found.order; at_name = λ m. names m ∙ found.at_name m; at_number = λ m. numbers m ∙ found.at_number m }) covered

  pub row_none : (g : List ℕ → Option X) (k : ℕ → Option X) (ns : List (List ℕ)) → ((m : List ℕ) → g m ≡ None) → ((m : ℕ) → k m ≡ None)
      → (listing name g ns ≡ []) × AreFound number name (listing name g ns) g k
  row_none g k ns names numbers =
      table_shows g k ns [] (record { order = record { names = tt; numbers = tt }; at_name = names; at_number = numbers }) (λ m h. names m)
