-- The lines of bytes.
use Rattle.std.specs.Prelude.{◌≡◌, ◌≢◌, ℕ, suc, ◌+◌, ◌<◌, ◌==◌, List, [], ◌∷◌, length, slice_index, if◌then◌else◌}

-- the byte before the first line, or a line of its own where there is none
abbrev pub onto_first : ℕ → List (List ℕ) → List (List ℕ)
onto_first byte [] = (byte ∷ []) ∷ []
onto_first byte (line ∷ lines) = (byte ∷ line) ∷ lines

-- the lines, each closed by a line feed, which the last may lack. A line feed closes a line, which
-- is empty where no byte comes before it; no byte is no line.
abbrev pub lines_of : List ℕ → List (List ℕ)
lines_of [] = []
lines_of (byte ∷ bytes) = if byte == 10 then [] ∷ lines_of bytes else onto_first byte (lines_of bytes)

-- how many line feeds are among the bytes
abbrev pub feeds_in : List ℕ → ℕ
feeds_in [] = 0
feeds_in (byte ∷ bytes) = if byte == 10 then suc (feeds_in bytes) else feeds_in bytes

-- none of the first n bytes is a line feed
abbrev pub HasNoFeed : List ℕ → ℕ → Type 0
HasNoFeed bytes n = (k : ℕ) → k < n → slice_index bytes k ≢ 10

-- the last line is closed: the last byte, where there is one, is a line feed
abbrev pub IsClosed : List ℕ → Type 0
IsClosed bytes = (k : ℕ) → length bytes ≡ k + 1 → slice_index bytes k ≡ 10
