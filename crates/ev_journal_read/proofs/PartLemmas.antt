-- Numbers, names and lists read back as what was written.
use Rattle.std.proofs.Common.{◌≡◌, ℕ, ◌^◌, ◌<◌, ◌≤◌, ◌&&◌, List, [], ◌∷◌, length, map, Bool, true, cond, nat_le, Option, Some, None, option_map, option_and_then, refl, ap, ◌∙◌, arith, le-leb}
use Rattle.std.specs.Prelude.{All}
use Rattle.serde_json.specs.Data.{Data, string, array}
use Rattle.serde_json.specs.View.{items_of}
use Rattle.ev_types.specs.Texts.{IsName}
use Rattle.ev_types.specs.declared.limits.TheConstants.{MAX_NAME_LENGTH}
use Rattle.ev_tree.specs.Scalars.{list_in}
use Rattle.ev_tree.proofs.Elements.{elements_of-items_of}
use Rattle.ev_script.specs.Members.{whole_within, name_of}
use Rattle.ev_journal.specs.Rendering.{number_tree}
use Rattle.ev_journal.specs.Rows.{IsGeneration}
use Rattle.ev_journal_read.specs.Trees.{number16, number32, number64, generation_of, all_read, list_of}
use Rattle.ev_journal_read.proofs.EachLemmas.{All-first, All-rest}

within : {A : Type 0} (a b : Bool) (x : A) → a ≡ true → b ≡ true → cond (a && b) (Some x) None ≡ Some x
within a b x p q = rw (p, q) refl

pub whole_within-number : (low high n : ℕ) → low ≤ n → n ≤ high → whole_within low high (number_tree n) ≡ Some n
whole_within-number low high n p q = within (nat_le low n) (nat_le n high) n (le-leb low n p) (le-leb n high q)

pub number16-tree : (n : ℕ) → n < 2 ^ 16 → number16 (number_tree n) ≡ Some n
number16-tree n h = whole_within-number 0 65535 n (omega arith) (omega arith)

pub number32-tree : (n : ℕ) → n < 2 ^ 32 → number32 (number_tree n) ≡ Some n
number32-tree n h = whole_within-number 0 4294967295 n (omega arith) (omega arith)

pub number64-tree : (n : ℕ) → n < 2 ^ 64 → number64 (number_tree n) ≡ Some n
number64-tree n h = whole_within-number 0 18446744073709551615 n (omega arith) (omega arith)

pub generation_of-tree : (n : ℕ) → IsGeneration n → generation_of (number_tree n) ≡ Some n
generation_of-tree n h = whole_within-number 1 4294967295 n h.first (omega (arith, h.small))

pub name_of-string : (s : List ℕ) → IsName s → name_of (string s) ≡ Some s
name_of-string s h = within (nat_le 1 (length s)) (nat_le (length s) MAX_NAME_LENGTH) s (le-leb 1 (length s) h.given) (le-leb (length s) MAX_NAME_LENGTH h.short)

all_read-map : {A B : Type 0} (P : A → Type 0) (form : Data → Option B) (tree : A → Data) (f : A → B) → ((a : A) → P a → form (tree a) ≡ Some (f a))
    → (xs : List A) → All P xs → all_read form (map tree xs) ≡ Some (map f xs)
all_read-map P form tree f each [] h = refl
all_read-map P form tree f each (x ∷ xs) h =
    ap (option_and_then (λ one. option_map (λ others. one ∷ others) (all_read form (map tree xs)))) (each x (All-first P x xs h))
    ∙ ap (option_map (λ others. f x ∷ others)) (all_read-map P form tree f each xs (All-rest P x xs h))

-- a list of trees that read as f says
pub list_of-map : {A B : Type 0} (P : A → Type 0) (form : Data → Option B) (tree : A → Data) (f : A → B) → ((a : A) → P a → form (tree a) ≡ Some (f a))
    → (xs : List A) → All P xs → list_of form (array (items_of (map tree xs))) ≡ Some (map f xs)
unfolding list_in
list_of-map P form tree f each xs h = ap (all_read form) (elements_of-items_of (map tree xs)) ∙ all_read-map P form tree f each xs h

map_same : {A : Type 0} (xs : List A) → map (λ x. x) xs ≡ xs
map_same [] = refl
map_same (x ∷ xs) = ap (λ ys. x ∷ ys) (map_same xs)

-- a list of trees that read as what they were made of
pub list_of-same : {A : Type 0} (P : A → Type 0) (form : Data → Option A) (tree : A → Data) → ((a : A) → P a → form (tree a) ≡ Some a)
    → (xs : List A) → All P xs → list_of form (array (items_of (map tree xs))) ≡ Some xs
list_of-same P form tree each xs h = list_of-map P form tree (λ x. x) each xs h ∙ ap Some (map_same xs)
