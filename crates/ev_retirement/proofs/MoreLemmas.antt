-- Asking about more.
use Rattle.std.proofs.Common.{◌≡◌, ℕ, Bool, true, false, not, ◌&&◌, ◌||◌, ◌==◌, cond, refl, sym, ap, ◌∙◌, arith}
use Rattle.std.specs.Ordering.{is_eq, nat_cmp}
use Rattle.std.proofs.lemmas.Bool.Decides.{nat_tests}
use Rattle.ev_retirement.specs.declared.asking.Asking.{Asking}
use Rattle.ev_retirement.specs.Asking.{AsksMore, is_aside, is_asked}

-- one of two passes
pub or_first : (a b : Bool) → a ≡ true → (a || b) ≡ true
or_first a b h = ap (λ t. t || b) h

pub or_second : (a b : Bool) → b ≡ true → (a || b) ≡ true
or_second true b h = refl
or_second false b h = h

pub or_left : (a b : Bool) → a ≡ false → (a || b) ≡ true → b ≡ true
or_left a b none h = sym (ap (λ t. t || b) none) ∙ h

pub or_more : (a b c : Bool) → (a ≡ true → c ≡ true) → (a || b) ≡ true → (c || b) ≡ true
or_more true b c so h = or_first c b (so refl)
or_more false b c so h = or_second c b h

-- nothing changes
pub same_more : (asking : Asking) → AsksMore asking asking
same_more asking = record {
  asked = λ number h. h;
  aside = λ version number h. or_second (is_asked asking number) (is_aside asking version number) h;
}

pub more_after : (first second third : Asking) → AsksMore first second → AsksMore second third → AsksMore first third
more_after first second third more again = record {
  asked = λ number h. again.asked number (more.asked number h);
  aside = λ version number h. by version number (is_asked second number) refl (more.aside version number h);
}
  where
    by : (version number : ℕ) (t : Bool) → is_asked second number ≡ t → (t || is_aside second version number) ≡ true → (is_asked third number || is_aside third version number) ≡ true
    by version number true is h = or_first (is_asked third number) (is_aside third version number) (again.asked number is)
    by version number false is h = again.aside version number h

-- a number is put among others, or taken out
pub still_in : (put before after : Bool) → after ≡ cond put true before → before ≡ true → after ≡ true
still_in true before after is h = is
still_in false before after is h = is ∙ h

same_test : (number other : ℕ) → is_eq (nat_cmp number other) ≡ (other == number)
same_test number other = grind (arith, nat_tests)

pub taken_out : (number other : ℕ) (before after : Bool) → after ≡ cond (is_eq (nat_cmp number other)) false before → after ≡ (not (other == number) && before)
taken_out number other before after is = is ∙ ap (λ t. cond t false before) (same_test number other) ∙ by (other == number)
  where
    by : (t : Bool) → cond t false before ≡ (not t && before)
    by true = refl
    by false = refl

-- equal by the test
pub same_number : (m n : ℕ) → (m == n) ≡ true → m ≡ n
same_number m n h = grind (arith, nat_tests)
