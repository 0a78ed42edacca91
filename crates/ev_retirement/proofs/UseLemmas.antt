-- The pictures in use, none of which is later than the last.
use Rattle.std.proofs.Common.{◌≡◌, ℕ, ◌+◌, zero, suc, Bool, true, false, cond, List, [], ◌∷◌, ◌++◌, map, slice_set, find, Option, Some, None, refl, sym, ap, arith}
use Rattle.std.specs.List.{AllByRecursion}
use Rattle.std.specs.Option.{option_map}
use Rattle.ev_model.specs.declared.pictures.Picture.{Picture}
use Rattle.ev_model.specs.Picture.{shown_same}
use Rattle.ev_snapshot.specs.declared.changes.Changes.{Changes}
use Rattle.ev_snapshot.specs.Changes.{next_picture, picture_after, shown_with}
use Rattle.ev_retirement.specs.Pictures.{IsUpTo, is_shown_in, version_showing}

-- no picture is later than itself
pub is_itself : (picture : Picture) → IsUpTo picture picture
is_itself picture = record { version = omega arith; same = λ h. refl }

pub all_set : {X : Type 0} (P : X → Type 0) (x : X) (xs : List X) (place : ℕ) → P x → AllByRecursion P xs → AllByRecursion P (slice_set xs place x)
all_set P x [] place here all = all
all_set P x (y ∷ xs) zero here all = (here, all.1)
all_set P x (y ∷ xs) (suc place) here all = (all.0, all_set P x xs place here all.1)

-- a publication's picture is the next one, and shows something else than the last
pub record IsNext (changes : Changes) (last next : Picture) : Type 0 where
  pub other : shown_same (shown_with changes last.shown) last.shown ≡ false
  pub is : next ≡ next_picture changes last

pub is_next : (changes : Changes) (last next : Picture) → picture_after changes last ≡ Some next → IsNext changes last next
is_next changes last next is = by (shown_same (shown_with changes last.shown) last.shown) refl is
  where
    some : Some (next_picture changes last) ≡ Some next → next_picture changes last ≡ next
    some same = cc same

    by : (t : Bool) → shown_same (shown_with changes last.shown) last.shown ≡ t → cond t None (Some (next_picture changes last)) ≡ Some next → IsNext changes last next
    by true other same = absurd (cc same)
    by false other same = record { other = other; is = sym (some same) }

-- no picture that was held is later
pub none_later : (last next : Picture) → next.version ≡ last.version + 1 → (held : List Picture) → AllByRecursion (IsUpTo last) held → AllByRecursion (IsUpTo next) held
none_later last next is [] all = tt
none_later last next is (picture ∷ held) all =
    let here = all.0.version in
    (record { version = omega arith; same = λ h. absurd (omega arith) }, none_later last next is held all.1)

-- the first picture that shows a number: one that is held, or the last
module _ {X : Type 0} (f : X → Picture) (number : ℕ) (last : Picture) where
  abbrev version_of : List X → Option ℕ
  version_of held = version_showing number (record { last = last; held = map f held })

  pub version_held : (held : List X) (found : X) → find (λ s. is_shown_in number (f s)) held ≡ Some found → Some (f found).version ≡ version_of held
  version_held [] found is = absurd (cc is)
  version_held (x ∷ held) found is = by (is_shown_in number (f x)) is (version_held held found)
    where
      by : (t : Bool) → cond t (Some x) (find (λ s. is_shown_in number (f s)) held) ≡ Some found
          → (find (λ s. is_shown_in number (f s)) held ≡ Some found → Some (f found).version ≡ version_of held)
          → Some (f found).version ≡ option_map (λ (p : Picture). p.version) (cond t (Some (f x)) (find (is_shown_in number) (map f held ++ last ∷ [])))
      by true is rest = ap (option_map (λ s. (f s).version)) (sym is)
      by false is rest = rest is

  pub version_last : (held : List X) → find (λ s. is_shown_in number (f s)) held ≡ None → cond (is_shown_in number last) (Some last.version) None ≡ version_of held
  version_last [] is = by (is_shown_in number last)
    where
      by : (t : Bool) → cond t (Some last.version) None ≡ option_map (λ (p : Picture). p.version) (cond t (Some last) None)
      by true = refl
      by false = refl
  version_last (x ∷ held) is = by (is_shown_in number (f x)) is (version_last held)
    where
      by : (t : Bool) → cond t (Some x) (find (λ s. is_shown_in number (f s)) held) ≡ None
          → (find (λ s. is_shown_in number (f s)) held ≡ None → cond (is_shown_in number last) (Some last.version) None ≡ version_of held)
          → cond (is_shown_in number last) (Some last.version) None ≡ option_map (λ (p : Picture). p.version) (cond t (Some (f x)) (find (is_shown_in number) (map f held ++ last ∷ [])))
      by true is rest = absurd (cc is)
      by false is rest = rest is
