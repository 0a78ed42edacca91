-- Tables of places by key.
use Rattle.std.proofs.Common.{◌≡◌, ◌≢◌, ℕ, ◌+◌, ◌-◌, ◌<◌, ◌≤◌, suc, Bool, true, false, ◌||◌, cond, List, [], ◌∷◌, ◌++◌, map, length, drop, get_or, Option, None, Some, refl, sym, ap, ◌∙◌, add-one, arith}
use Rattle.std.specs.List.{list_any, position_from, find}
use Rattle.std.specs.Option.{is_some}
use Rattle.std.specs.Str.{str_to_ascii_lowercase}
use Rattle.std.proofs.Math.Bool.{or_comm}
use Rattle.std.proofs.Math.Seq.{drop-cons}
use Rattle.std.proofs.lemmas.List.Folds.{list_any-append}
use Rattle.ev_chains.specs.declared.keys.ChainKey.{ChainKey}
use Rattle.ev_chains.specs.declared.matches.ChainMatch.{ChainMatch}
use Rattle.ev_chains.specs.declared.rows.Row.{Row}
use Rattle.ev_chains.specs.Keys.{key_same}
use Rattle.ev_chains.specs.Rows.{keyed_names, keys_of, clashes, has_clash, match_of, row_has, has_port}
use Rattle.ev_chains.specs.Listed.{key_with, named_keys}

-- ---- tests of lists

pub any_same : {X : Type 0} (p q : X → Bool) → ((x : X) → p x ≡ q x) → (xs : List X) → list_any p xs ≡ list_any q xs
any_same p q same [] = refl
any_same p q same (x ∷ xs) = λ i. same x i || any_same p q same xs i

any_false : {X : Type 0} (xs : List X) → list_any (λ x. false) xs ≡ false
any_false [] = refl
any_false (x ∷ xs) = any_false xs

four : (a b c d : Bool) → ((a || b) || (c || d)) ≡ ((a || c) || (b || d))
four true b c d = refl
four false true true d = refl
four false true false d = refl
four false false c d = refl

any_or : {X : Type 0} (p q : X → Bool) (xs : List X) → list_any (λ x. p x || q x) xs ≡ (list_any p xs || list_any q xs)
any_or p q [] = refl
any_or p q (x ∷ xs) = ap (λ b. (p x || q x) || b) (any_or p q xs) ∙ four (p x) (q x) (list_any p xs) (list_any q xs)

pub any_swap : {X Y : Type 0} (r : X → Y → Bool) (xs : List X) (ys : List Y) → list_any (λ x. list_any (r x) ys) xs ≡ list_any (λ y. list_any (λ x. r x y) xs) ys
any_swap r [] ys = sym (any_false ys)
any_swap r (x ∷ xs) ys = ap (λ b. list_any (r x) ys || b) (any_swap r xs ys) ∙ sym (any_or (r x) (λ y. list_any (λ x. r x y) xs) ys)

pub any_map : {X Y : Type 0} (f : X → Y) (p : Y → Bool) (xs : List X) → list_any (λ x. p (f x)) xs ≡ list_any p (map f xs)
any_map f p [] = refl
any_map f p (x ∷ xs) = ap (λ b. p (f x) || b) (any_map f p xs)

some_position : {X : Type 0} (p : X → Bool) (base : ℕ) (xs : List X) → is_some (position_from p base xs) ≡ list_any p xs
some_position p base [] = refl
some_position p base (x ∷ xs) = by (p x) (some_position p (base + 1) xs)
  where
    by : (t : Bool) → is_some (position_from p (base + 1) xs) ≡ list_any p xs → is_some (cond t (Some base) (position_from p (base + 1) xs)) ≡ (t || list_any p xs)
    by true rest = refl
    by false rest = rest

-- ---- the keys of a match with names

named_same : (port : Option ℕ) (names : List (List ℕ))
    → map (λ name. record { port = port; name = name }) (map (λ n. Some (str_to_ascii_lowercase n)) names) ≡ named_keys port names
named_same port [] = refl
named_same port (name ∷ names) = ap (λ (ks : List ChainKey). key_with port (Some name) ∷ ks) (named_same port names)

given : (port : Option ℕ) (names : List (List ℕ)) → length names ≢ 0
    → map (λ name. record { port = port; name = name }) (keyed_names names) ≡ named_keys port names
given port [] some = absurd (some refl)
given port (name ∷ names) some = named_same port (name ∷ names)

none : (port : Option ℕ) (names : List (List ℕ)) → length names ≡ 0
    → map (λ name. record { port = port; name = name }) (keyed_names names) ≡ key_with port None ∷ []
none port [] h = refl
none port (name ∷ names) h = absurd (cc h)

pub keys_given : (m : ChainMatch) → length m.names ≢ 0 → keys_of m ≡ named_keys m.port m.names
keys_given m some = given m.port m.names some

pub keys_none : (m : ChainMatch) → length m.names ≡ 0 → keys_of m ≡ key_with m.port None ∷ []
keys_none m h = none m.port m.names h

-- ---- one more key is put

put_cond : (here there : Bool) (own kept : Option ℕ) → cond (here || false) own (cond there own kept) ≡ cond (there || (here || false)) own kept
put_cond true true own kept = refl
put_cond true false own kept = refl
put_cond false true own kept = refl
put_cond false false own kept = refl

pub puts_more : (keys : List ChainKey) (key : ChainKey) (place : ℕ) (before between after : ChainKey → Option ℕ)
    → ((k : ChainKey) → between k ≡ cond (list_any (λ own. key_same own k) keys) (Some place) (before k))
    → ((k : ChainKey) → after k ≡ cond (key_same key k || false) (Some place) (between k))
    → (k : ChainKey) → after k ≡ cond (list_any (λ own. key_same own k) (keys ++ key ∷ [])) (Some place) (before k)
puts_more keys key place before between after first second k =
    second k
    ∙ ap (cond (key_same key k || false) (Some place)) (first k)
    ∙ put_cond (key_same key k) (list_any (λ own. key_same own k) keys) (Some place) (before k)
    ∙ ap (λ b. cond b (Some place) (before k)) (sym (list_any-append (λ own. key_same own k) keys (key ∷ [])))

-- ---- one more row at the front

module _ (rows : List Row) (place i : ℕ) (row : Row) (next : suc i ≡ place) (within : i < length rows) (at : row ≡ get_or rows i row) where
  front : drop i rows ≡ row ∷ drop place rows
  front = drop-cons rows i row within ∙ (λ j. sym at j ∷ drop (next j) rows)

  pub finds_more : (before after : ChainKey → Option ℕ)
      → ((k : ChainKey) → after k ≡ cond (list_any (λ own. key_same own k) (keys_of (match_of row))) (Some i) (before k))
      → ((k : ChainKey) → before k ≡ position_from (row_has k) place (drop place rows))
      → (k : ChainKey) → after k ≡ position_from (row_has k) i (drop i rows)
  finds_more before after puts finds k =
      puts k ∙ ap (cond (row_has k row) (Some i)) (finds k ∙ ap (λ n. position_from (row_has k) n (drop place rows)) (sym next ∙ sym (add-one i)))
      ∙ sym (ap (position_from (row_has k) i) front)

  pub ports_more : (before after : ℕ → Bool)
      → ((p : ℕ) → after p ≡ (before p || has_port p row)) → ((p : ℕ) → before p ≡ list_any (has_port p) (drop place rows))
      → (p : ℕ) → after p ≡ list_any (has_port p) (drop i rows)
  ports_more before after gains has p =
      gains p ∙ or_comm (before p) (has_port p row) ∙ ap (λ b. has_port p row || b) (has p) ∙ sym (ap (list_any (has_port p)) front)

  pub clash_more : (before : ChainKey → Option ℕ) (here there : Bool)
      → here ≡ list_any (λ key. is_some (before key)) (keys_of (match_of row))
      → ((k : ChainKey) → before k ≡ position_from (row_has k) place (drop place rows))
      → there ≡ has_clash (map match_of (drop place rows))
      → (here || there) ≡ has_clash (map match_of (drop i rows))
  clash_more before here there is finds was =
      (λ j. (is ∙ any_same (λ key. is_some (before key)) (λ key. list_any (row_has key) (drop place rows))
      (λ key. ap is_some (finds key) ∙ some_position (row_has key) place (drop place rows)) (keys_of (match_of row))
      ∙ any_swap (λ key other. row_has key other) (keys_of (match_of row)) (drop place rows)
      ∙ any_map match_of (clashes (match_of row)) (drop place rows)) j || was j)
      ∙ sym (ap (λ rs. has_clash (map match_of rs)) front)

-- ---- a row by its place

-- the place that a table has for a row, from its first place on
pub record IsPlaceOf {X : Type 0} (p : X → Bool) (base : ℕ) (xs : List X) (i : ℕ) : Type 0 where
  pub within : i < base + length xs
  pub above : base ≤ i
  pub found : (d : X) → find p xs ≡ Some (get_or xs (i - base) d)

pub at_place : {X : Type 0} (p : X → Bool) (base : ℕ) (xs : List X) (i : ℕ) → position_from p base xs ≡ Some i → IsPlaceOf p base xs i
at_place p base [] i at = absurd (cc at)
at_place {X} p base (x ∷ xs) i at = by (p x) refl at (at_place p (base + 1) xs i)
  where
    by : (t : Bool) → p x ≡ t → cond t (Some base) (position_from p (base + 1) xs) ≡ Some i
        → (position_from p (base + 1) xs ≡ Some i → IsPlaceOf p (base + 1) xs i) → IsPlaceOf p base (x ∷ xs) i
    by true h at rest =
        let same : base ≡ i = cc in
        let none : i - base ≡ 0 = omega (arith, same) in
        record { within = omega (arith, same); above = omega (arith, same); found = λ d. ap (λ t. cond t (Some x) (find p xs)) h ∙ ap (λ k. Some (get_or (x ∷ xs) k d)) (sym none) }
    by false h at rest =
        let r = rest at in
        let more : i - base ≡ suc (i - (base + 1)) = omega (arith, r.within, r.above) in
        record { within = omega (arith, r.within); above = omega (arith, r.above); found = λ d. ap (λ t. cond t (Some x) (find p xs)) h ∙ r.found d ∙ ap (λ k. Some (get_or (x ∷ xs) k d)) (sym more) }

pub found_at : {X : Type 0} (p : X → Bool) (xs : List X) (i : ℕ) (d : X) → position_from p 0 xs ≡ Some i → find p xs ≡ Some (get_or xs i d)
found_at p xs i d at = let same : i - 0 ≡ i = omega arith in (at_place p 0 xs i at).found d ∙ ap (λ k. Some (get_or xs k d)) same

pub no_place : {X : Type 0} (p : X → Bool) (base : ℕ) (xs : List X) → position_from p base xs ≡ None → find p xs ≡ None
no_place p base [] at = refl
no_place p base (x ∷ xs) at = by (p x) at (no_place p (base + 1) xs)
  where
    by : (t : Bool) → cond t (Some base) (position_from p (base + 1) xs) ≡ None → (position_from p (base + 1) xs ≡ None → find p xs ≡ None) → cond t (Some x) (find p xs) ≡ None
    by true at rest = absurd (cc at)
    by false at rest = rest at
