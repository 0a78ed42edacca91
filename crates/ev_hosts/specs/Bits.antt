-- Marks as words of 64 bits, the lowest bit first.
use Rattle.std.specs.Prelude.{ℕ, ◌≡◌, ◌<◌, ◌≤◌, ◌*◌, ◌/◌, ◌%◌, ◌==◌, Bool, if◌then◌else◌, List, length, map, filter, slice_index_or}
use Rattle.std.specs.List.{range_with_len}
use Rattle.std.specs.Int.{bit_at}

-- the bit at a place of a word is set
abbrev pub has_bit : ℕ → ℕ → Bool
has_bit word place = bit_at word place == 1

-- the bit at a place of words
abbrev pub mark_at : List ℕ → ℕ → Bool
mark_at words place = has_bit (slice_index_or words (place / 64) 0) (place % 64)

-- the first bits of words, as many as len
unfoldable pub marks_of : List ℕ → ℕ → List Bool
marks_of words len = map (mark_at words) (range_with_len 0 len)

-- how many are set
abbrev pub count_set : List Bool → ℕ
count_set marks = length (filter (λ marked. marked) marks)

-- the words have room for so many bits, and so many of these are set
pub record AreCounted (words : List ℕ) (len count : ℕ) : Type 0 where
  pub room : len ≤ 64 * length words
  pub counted : count ≡ count_set (marks_of words len)

-- the bit at a place of a word is this one from now on, and each other bit is what it was
abbrev pub PutsBit : ℕ → Bool → ℕ → ℕ → Type 0
PutsBit place mark old new = (k : ℕ) → k < 64 → has_bit new k ≡ (if k == place then mark else has_bit old k)

-- the bit at a place of words is this one from now on, and each other bit is what it was
abbrev pub PutsMark : ℕ → Bool → List ℕ → List ℕ → Type 0
PutsMark place mark old new = (k : ℕ) → mark_at new k ≡ (if k == place then mark else mark_at old k)

-- each bit of words is what it was
abbrev pub KeepsMarks : List ℕ → List ℕ → Type 0
KeepsMarks old new = (k : ℕ) → mark_at new k ≡ mark_at old k
