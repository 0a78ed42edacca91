-- Texts one after another.
use Rattle.std.specs.Prelude.{ℕ, suc, zero, List, ◌++◌, codes}

-- a text after this many others: a semicolon and a space come before it, unless it is the first
abbrev pub separated : ℕ → List ℕ → List ℕ
separated zero text = text
separated (suc others) text = codes "; " ++ text
