-- How many of some tests hold.
use Rattle.std.specs.Prelude.{◌==◌, List, Bool, nat_lt, count_by}

-- exactly one of these holds
abbrev pub exactly_one : List Bool → Bool
exactly_one tests = count_by (λ test. test) tests == 1

-- more than one of these holds
abbrev pub more_than_one : List Bool → Bool
more_than_one tests = nat_lt 1 (count_by (λ test. test) tests)
