-- The generations that an event retired are noted, and what holds generations then represents the world after it.
use Rattle.std.proofs.Common.{◌≡◌, ℕ, Bool, true, false, not, ◌&&◌, ◌||◌, ◌==◌, cond, nat_eq, List, [], ◌∷◌, ◌++◌, Option, None, Some, refl, sym, ap, subst, ◌∙◌, arith}
use Rattle.std.specs.Cmp.{first_so}
use Rattle.std.specs.List.{list_any, IsDistinct, AllByRecursion}
use Rattle.std.proofs.lemmas.Bool.{false≢true}
use Rattle.std.proofs.lemmas.Bool.Decides.{nat_tests}
use Rattle.std.proofs.lemmas.Map.Keys.{IsDistinct-head, IsDistinct-tail}
use Rattle.ev_types.specs.Statuses.{is_live}
use Rattle.ev_types.specs.declared.rows.GenRow.{GenRow}
use Rattle.ev_model.specs.World.{World}
use Rattle.ev_model.specs.Picture.{has_number}
use Rattle.ev_indexes.specs.Tables.{numbers_of, row_in}
use Rattle.ev_indexes.specs.Due.{is_one_of}
use Rattle.ev_warming.specs.Changes.{is_over}
use Rattle.ev_drain.specs.Retired.{Retired}
use Rattle.ev_state.specs.States.{ManagesAt}
use Rattle.ev_state.specs.Retirements.{HaveCeased}
use Rattle.ev_retirement.specs.Holders.{AreNumbered, HoldersParts, HoldsFor}
use Rattle.ev_retirement.specs.Retiring.{CeasedBetween, has_ceased, HoldTheSame, noted, noted_all, noted_where}
use Rattle.ev_retirement.proofs.RetireLemmas.{retirements_stand}
use Rattle.ev_proxy.specs.Proxies.{noted_each, noted_over}

turned : (a b : ℕ) → (a == b) ≡ nat_eq b a
turned a b = grind (arith, nat_tests)

own : (a : ℕ) → nat_eq a a ≡ true
own a = grind (arith, nat_tests)

-- no two rows have one number
none_of : (number : ℕ) (rows : List GenRow) → AllByRecursion (λ y. nat_eq number y ≡ false) (numbers_of rows) → list_any (λ (other : GenRow). other.number == number) rows ≡ false
none_of number [] all = refl
none_of number (row ∷ rows) all =
    ap (λ b. b || list_any (λ (other : GenRow). other.number == number) rows) (turned row.number number ∙ all.0) ∙ none_of number rows all.1

pub numbered : (rows : List GenRow) → IsDistinct nat_eq (numbers_of rows) → AreNumbered rows
numbered [] apart = tt
numbered (row ∷ rows) apart =
    (none_of row.number rows (IsDistinct-head nat_eq row.number (numbers_of rows) apart), numbered rows (IsDistinct-tail nat_eq row.number (numbers_of rows) apart))

-- this holds at every world between two events
pub at-numbered : (s : _) (world : World) → ManagesAt s world → AreNumbered world.rows
at-numbered s world at = numbered world.rows at.follows.sound.table.apart

-- a number among others
among : (numbers : List ℕ) (number : ℕ) → has_number number numbers ≡ is_one_of numbers number
among [] number = refl
among (n ∷ numbers) number = λ i. turned n number i || among numbers number i

over_same : (found : Option GenRow) → is_over found ≡ has_ceased found
over_same None = refl
over_same (Some row) = refl

-- what is reported, as what holds generations takes it
pub ceased_all : (retired : List ℕ) (before after : World) → HaveCeased retired before after → CeasedBetween retired before.rows after.rows
ceased_all retired before after ceased = record {
  told = λ number.
      among retired number
      ∙ ceased.told number
      ∙ (λ i. over_same (row_in number after.rows) i && not (over_same (row_in number before.rows) i));
  stays = ceased.stays;
}

-- where each of these numbers is of a row that is over, all are noted
abbrev AreOver : List GenRow → List ℕ → Type 0
AreOver rows numbers = AllByRecursion (λ number. has_ceased (row_in number rows) ≡ true) numbers

noted_found : (drain : List Retired) (found : Option GenRow) → has_ceased found ≡ true → noted_over drain found ≡ noted_where drain found
noted_found drain None over = refl
noted_found drain (Some row) over = by (is_live row.status) over
  where
    by : (live : Bool) → not live ≡ true → cond live drain (noted drain row) ≡ noted drain row
    by true over = absurd (false≢true over)
    by false over = refl

each_noted : (rows : List GenRow) (numbers : List ℕ) (drain : List Retired) → AreOver rows numbers → noted_each rows numbers drain ≡ noted_all rows numbers drain
each_noted rows [] drain over = refl
each_noted rows (number ∷ numbers) drain over =
    ap (noted_each rows numbers) (noted_found drain (row_in number rows) over.0) ∙ each_noted rows numbers (noted_where drain (row_in number rows)) over.1

-- one after another
pub each_more : (rows : List GenRow) (numbers : List ℕ) (number : ℕ) (drain : List Retired)
    → noted_over (noted_each rows numbers drain) (row_in number rows) ≡ noted_each rows (numbers ++ number ∷ []) drain
each_more rows [] number drain = refl
each_more rows (n ∷ numbers) number drain = each_more rows numbers number (noted_over drain (row_in n rows))

-- what is so of each number among these
all_among : (P : ℕ → Type 0) (numbers : List ℕ) → ((n : ℕ) → has_number n numbers ≡ true → P n) → AllByRecursion P numbers
all_among P [] so = tt
all_among P (n ∷ numbers) so = (
  so n (ap (λ b. b || has_number n numbers) (turned n n ∙ own n)),
  all_among P numbers (λ m is. so m (or_later (n == m) is)),
)
  where
    or_later : (a : Bool) {b : Bool} → b ≡ true → (a || b) ≡ true
    or_later true is = refl
    or_later false is = is

-- what holds generations, once those that retired are noted, represents the world after the event
pub noted_stand : (first second : HoldersParts) (retired : List ℕ) (before after : World)
    → second ≡ record first { drain = noted_each after.rows retired first.drain }
    → HoldsFor first before → AreNumbered before.rows → AreNumbered after.rows → HoldTheSame before after → HaveCeased retired before after
    → HoldsFor second after
noted_stand first second retired before after then stands apart also same ceased =
    let all = ceased_all retired before after ceased in
    let over : AreOver after.rows retired =
    all_among (λ n. has_ceased (row_in n after.rows) ≡ true) retired
    (λ n there. first_so (has_ceased (row_in n after.rows)) (not (has_ceased (row_in n before.rows))) (sym (all.told n) ∙ there)) in
    subst (λ (h : HoldersParts). HoldsFor h after)
    (sym (then ∙ (λ i. record first { drain = each_noted after.rows retired first.drain over i })))
    (retirements_stand first retired before after stands apart also same all)
