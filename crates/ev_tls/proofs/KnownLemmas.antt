-- What is known, and one more.
use Rattle.std.proofs.Common.{◌≡◌, ℕ, zero, suc, ◌+◌, ◌<◌, ◌≤◌, Bool, true, false, not, cond, ◌||◌, ◌&&◌, List, [], ◌∷◌, ◌++◌, length, get_or, take, map, filter, Option, Some, refl, sym, ap, ◌∙◌, arith}
use Rattle.std.specs.List.{list_all, prefix_len, last_or}
use Rattle.std.specs.Str.{bytes_eq}
use Rattle.std.specs.Cmp.Lexicographic.{bytes_decides}
use Rattle.std.proofs.lemmas.Bool.Decides.{same_from_decides}
use Rattle.std.proofs.lemmas.List.{map-append}
use Rattle.std.proofs.lemmas.List.Elements.{filter-append}
use Rattle.std.proofs.lemmas.List.Folds.{list_any-append}
use Rattle.indexmap.specs.IndexSet.{contains}
use Rattle.serde_json.specs.Data.{Data}
use Rattle.ev_tls.specs.declared.awaited.Awaited.{Awaited}
use Rattle.ev_tls.specs.declared.awaited.Awaited.TheVariants.{Secret, Endpoints}
use Rattle.ev_tls.specs.declared.known.Told.{Told}
use Rattle.ev_tls.specs.Known.{first_untold, Adds, later_value, gives_to}

pub bytes_sym : (a b : List ℕ) → bytes_eq a b ≡ bytes_eq b a
bytes_sym a b = same_from_decides (bytes_eq a b) (bytes_eq b a) (bytes_decides a b) (λ h. sym ((bytes_decides b a).0 h), λ e. (bytes_decides b a).1 (sym e))

pub adds_secret : (old new : Told) (name : List ℕ) → ((o : List ℕ) → contains bytes_eq new.secrets o ≡ (bytes_eq name o || contains bytes_eq old.secrets o))
    → ((o : List ℕ) → contains bytes_eq new.endpoints o ≡ contains bytes_eq old.endpoints o) → Adds old new (Secret name)
adds_secret old new name h same (Secret o) = h o ∙ ap (λ (t : Bool). t || contains bytes_eq old.secrets o) (bytes_sym name o)
adds_secret old new name h same (Endpoints o) = same o

pub adds_endpoints : (old new : Told) (name : List ℕ) → ((o : List ℕ) → contains bytes_eq new.endpoints o ≡ (bytes_eq name o || contains bytes_eq old.endpoints o))
    → ((o : List ℕ) → contains bytes_eq new.secrets o ≡ contains bytes_eq old.secrets o) → Adds old new (Endpoints name)
adds_endpoints old new name h same (Secret o) = same o
adds_endpoints old new name h same (Endpoints o) = h o ∙ ap (λ (t : Bool). t || contains bytes_eq old.endpoints o) (bytes_sym name o)

one_more : (n : ℕ) → suc n ≡ 1 + n
one_more n = omega arith

-- how many of some, from the first on, pass
pub front_ends : {A : Type 0} (p : A → Bool) (xs : List A) (i : ℕ) (x : A) → i < length xs → x ≡ get_or xs i x → list_all p (take i xs) ≡ true → p x ≡ false → i ≡ prefix_len p xs
front_ends p [] i x h is all stops = absurd (omega arith)
front_ends p (y ∷ ys) zero x h is all stops = let e : p y ≡ false = ap p (sym is) ∙ stops in rw e refl
front_ends p (y ∷ ys) (suc i) x h is all stops = by (p y) all (λ rest. front_ends p ys i x (omega arith) is rest stops)
  where
    by : (b : Bool) → (b && list_all p (take i ys)) ≡ true → (list_all p (take i ys) ≡ true → i ≡ prefix_len p ys) → suc i ≡ cond b (1 + prefix_len p ys) 0
    by true rest so = ap suc (so rest) ∙ one_more (prefix_len p ys)
    by false rest so = absurd (cc)

pub front_whole : {A : Type 0} (p : A → Bool) (xs : List A) (i : ℕ) → length xs ≤ i → list_all p (take i xs) ≡ true → length xs ≡ prefix_len p xs
front_whole p [] i h all = refl
front_whole p (y ∷ ys) zero h all = absurd (omega arith)
front_whole p (y ∷ ys) (suc i) h all = by (p y) all (λ rest. front_whole p ys i (omega arith) rest)
  where
    by : (b : Bool) → (b && list_all p (take i ys)) ≡ true → (list_all p (take i ys) ≡ true → length ys ≡ prefix_len p ys) → suc (length ys) ≡ cond b (1 + prefix_len p ys) 0
    by true rest so = ap suc (so rest) ∙ one_more (prefix_len p ys)
    by false rest so = absurd (cc)

pub front_passes : {A : Type 0} (p : A → Bool) (xs : List A) → list_all p (take (prefix_len p xs) xs) ≡ true
front_passes p [] = refl
front_passes p (x ∷ xs) = by (p x) refl (front_passes p xs)
  where
    by : (b : Bool) → p x ≡ b → list_all p (take (prefix_len p xs) xs) ≡ true → list_all p (take (cond b (1 + prefix_len p xs) 0) (x ∷ xs)) ≡ true
    by true at rest = ap (λ (n : ℕ). list_all p (take n (x ∷ xs))) (sym (one_more (prefix_len p xs))) ∙ ap (λ (t : Bool). t && list_all p (take (prefix_len p xs) xs)) at ∙ rest
    by false at rest = refl

secret_at : (b : Bool) (x name : List ℕ) (xs : List (List ℕ)) (n : ℕ) (rest : Option Awaited) → cond b (1 + n) 0 < length (x ∷ xs) → name ≡ get_or (x ∷ xs) (cond b (1 + n) 0) name
    → (n < length xs → name ≡ get_or xs n name → rest ≡ Some (Secret name)) → cond (not b) (Some (Secret x)) rest ≡ Some (Secret name)
secret_at true x name xs n rest h is so = so (omega arith) (is ∙ ap (λ (m : ℕ). get_or (x ∷ xs) m name) (sym (one_more n)))
secret_at false x name xs n rest h is so = ap (λ (s : List ℕ). Some (Secret s)) (sym is)

-- the first secret that wasn't reported
pub next_secret : (told : Told) (names : List (List ℕ)) (others : List Awaited) (name : List ℕ) → prefix_len (contains bytes_eq told.secrets) names < length names
    → name ≡ get_or names (prefix_len (contains bytes_eq told.secrets) names) name → first_untold told (map Secret names ++ others) ≡ Some (Secret name)
next_secret told [] others name h is = absurd (omega arith)
next_secret told (x ∷ xs) others name h is = secret_at (contains bytes_eq told.secrets x) x name xs _ _ h is (λ below at. next_secret told xs others name below at)

other_at : (b : Bool) (x : List ℕ) (xs : List (List ℕ)) (n : ℕ) (rest last : Option Awaited) → length (x ∷ xs) ≤ cond b (1 + n) 0 → (length xs ≤ n → rest ≡ last)
    → cond (not b) (Some (Secret x)) rest ≡ last
other_at true x xs n rest last h so = so (omega arith)
other_at false x xs n rest last h so = absurd (omega arith)

-- there is none
pub next_other : (told : Told) (names : List (List ℕ)) (others : List Awaited) → length names ≤ prefix_len (contains bytes_eq told.secrets) names
    → first_untold told (map Secret names ++ others) ≡ first_untold told others
next_other told [] others h = refl
next_other told (x ∷ xs) others h = other_at (contains bytes_eq told.secrets x) x xs _ _ _ h (λ past. next_other told xs others past)

pub last-append : {A : Type 0} (o : Option A) (xs ys : List A) → last_or o (xs ++ ys) ≡ last_or (last_or o xs) ys
last-append o [] ys = refl
last-append o (x ∷ xs) ys = last-append (Some x) xs ys

later_at : (b : Bool) (v : List ℕ × Data) (before : Option Data) → last_or before (map (λ (v : List ℕ × Data). v.1) (cond b (v ∷ []) [])) ≡ cond b (Some v.1) before
later_at true v before = refl
later_at false v before = refl

pub later-append : (name : List ℕ) (before : Option Data) (xs ys : List (List ℕ × Data)) → later_value name before (xs ++ ys) ≡ later_value name (later_value name before xs) ys
later-append name before xs ys =
    ap (λ (vs : List (List ℕ × Data)). last_or before (map (λ (v : List ℕ × Data). v.1) vs)) (filter-append (λ (v : List ℕ × Data). bytes_eq v.0 name) xs ys)
    ∙ ap (last_or before) (map-append (λ (v : List ℕ × Data). v.1) (filter (λ (v : List ℕ × Data). bytes_eq v.0 name) xs) (filter (λ (v : List ℕ × Data). bytes_eq v.0 name) ys))
    ∙ last-append before (map (λ (v : List ℕ × Data). v.1) (filter (λ (v : List ℕ × Data). bytes_eq v.0 name) xs)) (map (λ (v : List ℕ × Data). v.1) (filter (λ (v : List ℕ × Data). bytes_eq v.0 name) ys))

-- one value more
pub later_more : (name : List ℕ) (before : Option Data) (xs : List (List ℕ × Data)) (v : List ℕ × Data) → later_value name before (xs ++ v ∷ []) ≡ cond (bytes_eq v.0 name) (Some v.1) (later_value name before xs)
later_more name before xs v = later-append name before xs (v ∷ []) ∙ later_at (bytes_eq v.0 name) v (later_value name before xs)

swapped : (a b : Bool) → (a || (b || false)) ≡ (b || a)
swapped true true = refl
swapped true false = refl
swapped false true = refl
swapped false false = refl

pub gives_more : (name : List ℕ) (xs : List (List ℕ × Data)) (v : List ℕ × Data) → gives_to name (xs ++ v ∷ []) ≡ (bytes_eq v.0 name || gives_to name xs)
gives_more name xs v = list_any-append (λ (v : List ℕ × Data). bytes_eq v.0 name) xs (v ∷ []) ∙ swapped (gives_to name xs) (bytes_eq v.0 name)
