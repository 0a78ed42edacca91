-- Marks as bits of words.
use Rattle.std.proofs.Common.{zero, suc, ◌-◌, ◌≡◌, ◌∙◌, refl, sym, ap, ℕ, ◌+◌, ◌*◌, ◌/◌, ◌%◌, ◌^◌, ◌<◌, ◌≤◌, ◌==◌, Bool, true, false, cond, List, [], ◌∷◌, ◌++◌, length, get_or, set, ◌≢◌, ◌⊎◌, inl, inr, arith, ext_get_or, length-set, get_or-set_same, get_or-set_other, eq-eqb, ne_eqb, w64, bit_and, bit_or}
use Rattle.std.proofs.lemmas.Bool.{cases_eq, cases_lt}
use Rattle.std.proofs.lemmas.List.{get_or-append_right, get_or_append_left, get_or_past}
use Rattle.std.proofs.lemmas.List.FromFn.{length-map-range_with_len, get_or-map-range_with_len, map-range_with_len_more}
use Rattle.std.proofs.lemmas.List.Sums.{sum_by-set, sum_by_push, length-filter, count_by-le-length}
use Rattle.std.proofs.lemmas.Nat.Bits.{bit_at_set_same, bit_at_set_other, bit_at_clear_same, bit_at_clear_other, shr_and_one}
use mir.Val.{bool_byte}
use Rattle.ev_hosts.specs.Bits.{has_bit, mark_at, marks_of, count_set, AreCounted, PutsBit, PutsMark, KeepsMarks}

-- ---- one word

pub has_bit-shifted : (word place : ℕ) → (bit_and (word / 2 ^ place) 1 == 1) ≡ has_bit word place
has_bit-shifted word place = ap (λ b. b == 1) (shr_and_one word place)

pub puts_set : (word place : ℕ) → place < 64 → PutsBit place true word (bit_or word (1 * 2 ^ place % 2 ^ 64))
puts_set word place within k low =
    elim (cases_eq k place) [
      | inl same ↦
          let here : has_bit (bit_or word (1 * 2 ^ place % 2 ^ 64)) k ≡ true =
          ap (has_bit (bit_or word (1 * 2 ^ place % 2 ^ 64))) same ∙ eq-eqb _ 1 (bit_at_set_same w64 word place within) in
          here ∙ sym (ap (λ b. cond b true (has_bit word k)) (eq-eqb k place same))
      | inr other ↦
          ap (λ b. b == 1) (bit_at_set_other w64 word place within k other)
          ∙ sym (ap (λ b. cond b true (has_bit word k)) (ne_eqb k place other))
    ]

pub puts_clear : (word place : ℕ) → place < 64 → PutsBit place false word (bit_and word (2 ^ 64 - 1 - 1 * 2 ^ place % 2 ^ 64))
puts_clear word place within k low =
    elim (cases_eq k place) [
      | inl same ↦
          let here : has_bit (bit_and word (2 ^ 64 - 1 - 1 * 2 ^ place % 2 ^ 64)) k ≡ false =
          ap (has_bit (bit_and word (2 ^ 64 - 1 - 1 * 2 ^ place % 2 ^ 64))) same ∙ ap (λ b. b == 1) (bit_at_clear_same w64 word place within) in
          here ∙ sym (ap (λ b. cond b false (has_bit word k)) (eq-eqb k place same))
      | inr other ↦
          ap (λ b. b == 1) (bit_at_clear_other w64 word place within k low other)
          ∙ sym (ap (λ b. cond b false (has_bit word k)) (ne_eqb k place other))
    ]

-- ---- words

-- a word is replaced by one with a bit put
pub puts_mark : (words : List ℕ) (place : ℕ) (mark : Bool) (word : ℕ) → place / 64 < length words
    → PutsBit (place % 64) mark (get_or words (place / 64) 0) word → PutsMark place mark words (set words (place / 64) word)
puts_mark words place mark word within puts k =
    elim (cases_eq (k / 64) (place / 64)) [
      | inl row ↦
          let there : get_or (set words (place / 64) word) (k / 64) 0 ≡ word = ap (λ j. get_or (set words (place / 64) word) j 0) row ∙ get_or-set_same words (place / 64) word 0 within in
          ap (λ w. has_bit w (k % 64)) there
          ∙ puts (k % 64) (omega arith)
          ∙ (λ i. cond (same_bit row i) mark (has_bit (get_or words (sym row i) 0) (k % 64)))
      | inr apart ↦
          let far : (k == place) ≡ false = ne_eqb k place (λ e. apart (ap (λ n. n / 64) e)) in
          ap (λ w. has_bit w (k % 64)) (get_or-set_other words (place / 64) (k / 64) word 0 apart)
          ∙ sym (ap (λ b. cond b mark (mark_at words k)) far)
    ]
  where
    same_bit : k / 64 ≡ place / 64 → (k % 64 == place % 64) ≡ (k == place)
    same_bit row =
        elim (cases_eq k place) [
          | inl same ↦ eq-eqb _ _ (ap (λ n. n % 64) same) ∙ sym (eq-eqb k place same)
          | inr other ↦ ne_eqb _ _ (λ e. other (omega arith)) ∙ sym (ne_eqb k place other)
        ]

-- one more word without bits is as none
pub keeps_grown : (words : List ℕ) → KeepsMarks words (words ++ 0 ∷ [])
keeps_grown words k = ap (λ w. has_bit w (k % 64)) (by (cases_lt (k / 64) (length words)))
  where
    zeros : (j : ℕ) → ◌≡◌ {A = ℕ} (get_or (0 ∷ []) j 0) 0
    zeros zero = refl
    zeros (suc j) = refl

    by : (k / 64 < length words) ⊎ (length words ≤ k / 64) → ◌≡◌ {A = ℕ} (get_or (words ++ 0 ∷ []) (k / 64) 0) (get_or words (k / 64) 0)
    by (inl below) = get_or_append_left words (0 ∷ []) 0 (k / 64) below
    by (inr past) =
        get_or-append_right words (0 ∷ []) (length words) (k / 64) 0 refl past
        ∙ zeros (k / 64 - length words)
        ∙ sym (get_or_past words (k / 64) 0 past)

-- ---- lists of marks

pub length-marks_of : (words : List ℕ) (len : ℕ) → length (marks_of words len) ≡ len
unfolding marks_of
length-marks_of words len = length-map-range_with_len (mark_at words) 0 len

pub get_or-marks_of : (words : List ℕ) (len k : ℕ) → k < len → get_or (marks_of words len) k false ≡ mark_at words k
unfolding marks_of
get_or-marks_of words len k h = get_or-map-range_with_len (mark_at words) 0 len k k false h (omega arith)

pub marks_of-none : (words : List ℕ) → marks_of words 0 ≡ []
unfolding marks_of
marks_of-none words = refl

pub marks_of-put : (old new : List ℕ) (len place : ℕ) (mark : Bool) → place < len → PutsMark place mark old new
    → marks_of new len ≡ set (marks_of old len) place mark
marks_of-put old new len place mark within puts =
    ext_get_or false _ _ (length-marks_of new len ∙ sym (length-marks_of old len) ∙ sym (length-set (marks_of old len) place mark))
    (λ k h.
    let low : k < len = omega (arith, h, length-marks_of new len) in
    get_or-marks_of new len k low ∙ puts k ∙ at k low (cases_eq k place))
  where
    at : (k : ℕ) → k < len → (k ≡ place) ⊎ (k ≢ place) → cond (k == place) mark (mark_at old k) ≡ get_or (set (marks_of old len) place mark) k false
    at k low (inl same) =
        ap (λ b. cond b mark (mark_at old k)) (eq-eqb k place same)
        ∙ sym (ap (λ j. get_or (set (marks_of old len) place mark) j false) same ∙ get_or-set_same (marks_of old len) place mark false (omega (arith, length-marks_of old len)))
    at k low (inr other) =
        ap (λ b. cond b mark (mark_at old k)) (ne_eqb k place other)
        ∙ sym (get_or-set_other (marks_of old len) place k mark false other ∙ get_or-marks_of old len k low)

pub marks_of-same : (old new : List ℕ) (len : ℕ) → KeepsMarks old new → marks_of new len ≡ marks_of old len
marks_of-same old new len same =
    ext_get_or false _ _ (length-marks_of new len ∙ sym (length-marks_of old len))
    (λ k h.
    let low : k < len = omega (arith, h, length-marks_of new len) in
    get_or-marks_of new len k low ∙ same k ∙ sym (get_or-marks_of old len k low))

more_marks : (words : List ℕ) (len : ℕ) → marks_of words (len + 1) ≡ marks_of words len ++ mark_at words len ∷ []
unfolding marks_of
more_marks words len = map-range_with_len_more (mark_at words) 0 len len (omega arith)

pub marks_of-push : (old new : List ℕ) (len : ℕ) (mark : Bool) → PutsMark len mark old new → marks_of new (len + 1) ≡ marks_of old len ++ mark ∷ []
marks_of-push old new len mark puts = more_marks new len ∙ (λ i. first i ++ last i ∷ [])
  where
    last : mark_at new len ≡ mark
    last = puts len ∙ ap (λ b. cond b mark (mark_at old len)) (eq-eqb len len refl)

    first : marks_of new len ≡ marks_of old len
    first =
        ext_get_or false _ _ (length-marks_of new len ∙ sym (length-marks_of old len))
        (λ k h.
        let low : k < len = omega (arith, h, length-marks_of new len) in
        get_or-marks_of new len k low
        ∙ puts k
        ∙ ap (λ b. cond b mark (mark_at old k)) (ne_eqb k len (λ e. absurd (omega arith)))
        ∙ sym (get_or-marks_of old len k low))

-- ---- how many are set

byte : (b : Bool) → bool_byte b ≡ cond b 1 0
byte true = refl
byte false = refl

pub count_set-le : (marks : List Bool) → count_set marks ≤ length marks
count_set-le marks = omega (arith, length-filter (λ b. b) marks, count_by-le-length (λ b. b) marks)

pub count_set-set : (marks : List Bool) (k : ℕ) (mark : Bool) → k < length marks
    → count_set (set marks k mark) + bool_byte (get_or marks k false) ≡ count_set marks + bool_byte mark
count_set-set marks k mark within =
    (λ i. length-filter (λ b. b) (set marks k mark) i + byte (get_or marks k false) i)
    ∙ sum_by-set (λ (b : Bool). cond b 1 0) marks k mark false within
    ∙ (λ i. sym (length-filter (λ b. b) marks) i + sym (byte mark) i)

pub count_set-push : (marks : List Bool) (mark : Bool) → count_set (marks ++ mark ∷ []) ≡ count_set marks + bool_byte mark
count_set-push marks mark =
    length-filter (λ b. b) (marks ++ mark ∷ [])
    ∙ sum_by_push (λ (b : Bool). cond b 1 0) marks mark
    ∙ (λ i. sym (length-filter (λ b. b) marks) i + sym (byte mark) i)

-- ---- the list and what is kept beside it

-- the words have room for the place of a mark
pub has_room : (words : List ℕ) (len place : ℕ) → len ≤ 64 * length words → place < length (marks_of words len) → place / 64 < length words
has_room words len place room within = omega (arith, length-marks_of words len)

-- a mark is read
pub reads : (words : List ℕ) (len place : ℕ) → place < length (marks_of words len) → mark_at words place ≡ get_or (marks_of words len) place false
reads words len place within = sym (get_or-marks_of words len place (omega (arith, length-marks_of words len)))

-- a mark is put in place of another
pub record IsPut (words new : List ℕ) (len count place : ℕ) (mark : Bool) : Type 0 where
  pub taken : bool_byte (get_or (marks_of words len) place false) ≤ count
  pub fits : count - bool_byte (get_or (marks_of words len) place false) + bool_byte mark ≤ len
  pub kept : AreCounted new len (count - bool_byte (get_or (marks_of words len) place false) + bool_byte mark)
  pub is : marks_of new len ≡ set (marks_of words len) place mark

pub is_put : (words new : List ℕ) (len count place : ℕ) (mark : Bool) → AreCounted words len count → place < length (marks_of words len)
    → PutsMark place mark words new → length new ≡ length words → IsPut words new len count place mark
is_put words new len count place mark counted within puts long =
    let marks = marks_of words len in
    let low : place < len = omega (arith, length-marks_of words len) in
    let put : marks_of new len ≡ set marks place mark = marks_of-put words new len place mark low puts in
    let old : count ≡ count_set marks = counted.counted in
    let moved : count_set (set marks place mark) + bool_byte (get_or marks place false) ≡ count_set marks + bool_byte mark = count_set-set marks place mark within in
    let few : count_set (set marks place mark) ≤ len = omega (arith, count_set-le (set marks place mark), length-set marks place mark, length-marks_of words len) in
    let taken : bool_byte (get_or marks place false) ≤ count = omega (arith, count_set-set marks place false within, old) in
    record {
      taken = taken;
      fits = omega arith;
      kept = record { room = omega (arith, counted.room); counted = omega (arith, ap count_set put, moved, taken, old) };
      is = put;
    }

-- there is room for more
pub is_kept : (words new : List ℕ) (len count : ℕ) → AreCounted words len count → KeepsMarks words new → length words ≤ length new → AreCounted new len count
is_kept words new len count counted keeps room =
    record { room = omega (arith, counted.room); counted = counted.counted ∙ ap count_set (sym (marks_of-same words new len keeps)) }

-- a mark is put at the end
pub record IsPushed (words new : List ℕ) (len count : ℕ) (mark : Bool) : Type 0 where
  pub fits : count + bool_byte mark ≤ len + 1
  pub kept : AreCounted new (len + 1) (count + bool_byte mark)
  pub is : marks_of new (len + 1) ≡ marks_of words len ++ mark ∷ []

pub is_pushed : (words roomy new : List ℕ) (len count : ℕ) (mark : Bool) → AreCounted words len count → KeepsMarks words roomy
    → len < 64 * length roomy → length new ≡ length roomy → PutsMark len mark roomy new → IsPushed words new len count mark
is_pushed words roomy new len count mark counted keeps room long puts =
    let pushed : marks_of new (len + 1) ≡ marks_of words len ++ mark ∷ [] =
    marks_of-push roomy new len mark puts ∙ ap (λ marks. marks ++ mark ∷ []) (marks_of-same words roomy len keeps) in
    let more : count + bool_byte mark ≡ count_set (marks_of new (len + 1)) =
    ap (λ n. n + bool_byte mark) counted.counted ∙ sym (ap count_set pushed ∙ count_set-push (marks_of words len) mark) in
    record {
      fits = omega (arith, more, count_set-le (marks_of new (len + 1)), length-marks_of new (len + 1));
      kept = record { room = omega (arith, room, long); counted = more };
      is = pushed;
    }
