-- Where the duration of a field lies.
use Rattle.std.specs.Prelude.{Bool, true, false}
use Rattle.ev_tree.specs.declared.outcome.Found.{Found}
use Rattle.ev_tree.specs.declared.outcome.Found.TheVariants.{Absent, Wrong, Given}
use Rattle.ev_tree.specs.declared.span.Span.{Span}
use Rattle.ev_tree.specs.declared.span.Span.TheVariants.{Negative, Zero, Positive}

-- given, and below zero
abbrev pub is_negative : Found Span → Bool
is_negative Absent = false
is_negative Wrong = false
is_negative (Given Negative) = true
is_negative (Given Zero) = false
is_negative (Given Positive) = false

-- given, and zero
abbrev pub is_zero : Found Span → Bool
is_zero Absent = false
is_zero Wrong = false
is_zero (Given Negative) = false
is_zero (Given Zero) = true
is_zero (Given Positive) = false

-- given, and not above zero
abbrev pub is_not_positive : Found Span → Bool
is_not_positive Absent = false
is_not_positive Wrong = false
is_not_positive (Given Negative) = true
is_not_positive (Given Zero) = true
is_not_positive (Given Positive) = false
