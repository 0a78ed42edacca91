-- No line feed is in the text of a canonical tree, so a line feed closes its line.
use Rattle.std.proofs.Common.{◌≡◌, ◌≢◌, ℕ, zero, suc, ◌+◌, ◌/◌, ◌%◌, ◌⊎◌, inl, inr, Bool, true, false, cond, ◌||◌, ◌==◌, nat_lt, List, [], ◌∷◌, ◌++◌, decimal, codes, refl, ap, ◌∙◌, arith, ne_eqb, eqb-true}
use Rattle.std.specs.Prelude.{⊤}
use Rattle.std.specs.Char.{digit_char}
use Rattle.std.specs.Fmt.{digits, digits_onto, digit_glyph}
use Rattle.std.proofs.lemmas.Bool.{ltb-false, or_cases}
use Rattle.json.specs.Print.{escape_letter, escape_byte, escape, quoted}
use Rattle.serde_json.specs.Data.{Num, unsigned, negative, float, Data, null, boolean, number, string, array, object, Items, no_items, item, Members, no_members, member}
use Rattle.serde_json.specs.Written.{number_text, compact_text, items_text, members_text, comma_if}
use Rattle.ev_io.specs.Lines.{lines_of, onto_first}
use Rattle.ev_journal.specs.Rendering.{end_tree}
use Rattle.ev_journal_read.proofs.Canonical.{IsWhole, IsCanonical, AreCanonical, HaveCanonical}

-- no byte is a line feed
abbrev pub NoFeed : List ℕ → Type 0
NoFeed [] = ⊤
NoFeed (x ∷ xs) = (x ≢ 10) × NoFeed xs

NoFeed-append : (xs ys : List ℕ) → NoFeed xs → NoFeed ys → NoFeed (xs ++ ys)
NoFeed-append [] ys h k = k
NoFeed-append (x ∷ xs) ys h k = (h.0, NoFeed-append xs ys h.1 k)

-- ---- bytes of a string

NoFeed-cond : (b : Bool) (xs ys : List ℕ) → (b ≡ true → NoFeed xs) → (b ≡ false → NoFeed ys) → NoFeed (cond b xs ys)
NoFeed-cond true xs ys h k = h refl
NoFeed-cond false xs ys h k = k refl

not-cond : (b : Bool) (x y : ℕ) → (b ≡ true → x ≢ 10) → y ≢ 10 → cond b x y ≢ 10
not-cond true x y h k = h refl
not-cond false x y h k = k

letter-by : (x : ℕ) → ((x == 34) ≡ true) ⊎ ((x == 92) ≡ true) → x ≢ 10
letter-by x (inl h) e = omega (arith, eqb-true x 34 h)
letter-by x (inr h) e = omega (arith, eqb-true x 92 h)

letter-not : (x : ℕ) → escape_letter x ≢ 10
letter-not x =
    not-cond ((x == 34) || (x == 92)) x _ (λ h. letter-by x (or_cases (x == 34) (x == 92) h))
    (not-cond (x == 8) 98 _ (λ _ e. omega arith) (not-cond (x == 12) 102 _ (λ _ e. omega arith) (not-cond (x == 10) 110 _ (λ _ e. omega arith)
    (not-cond (x == 13) 114 _ (λ _ e. omega arith) (not-cond (x == 9) 116 0 (λ _ e. omega arith) (λ e. omega arith))))))

digit-not : (d : ℕ) → digit_char d ≢ 10
digit-not d = not-cond (nat_lt d 10) (48 + d) (87 + d) (λ _ e. omega arith) (λ e. omega arith)

NoFeed-escape_byte : (x : ℕ) → NoFeed (escape_byte x)
unfolding escape_byte
NoFeed-escape_byte x =
    NoFeed-cond (nat_lt 0 (escape_letter x)) (92 ∷ escape_letter x ∷ []) _ (λ _. (λ e. omega arith, (letter-not x, tt)))
    (λ _. NoFeed-cond (nat_lt x 32) (92 ∷ 117 ∷ 48 ∷ 48 ∷ digit_char (x / 16) ∷ digit_char (x % 16) ∷ []) (x ∷ [])
    (λ _. (λ e. omega arith, (λ e. omega arith, (λ e. omega arith, (λ e. omega arith, (digit-not (x / 16), (digit-not (x % 16), tt)))))))
    (λ large. (λ e. omega (arith, ltb-false x 32 large), tt)))

NoFeed-escape : (s : List ℕ) → NoFeed (escape s)
NoFeed-escape [] = tt
NoFeed-escape (x ∷ xs) = NoFeed-append (escape_byte x) (escape xs) (NoFeed-escape_byte x) (NoFeed-escape xs)

NoFeed-quoted : (s : List ℕ) → NoFeed (quoted s)
NoFeed-quoted s = (λ e. omega arith, NoFeed-append (escape s) (34 ∷ []) (NoFeed-escape s) (λ e. omega arith, tt))

-- ---- numbers

glyph-not : (d : ℕ) → digit_glyph false d ≢ 10
glyph-not d = not-cond (nat_lt d 10) (48 + d) (87 + d) (λ _ e. omega arith) (λ e. omega arith)

NoFeed-digits_onto : (k n : ℕ) (acc : List ℕ) → NoFeed acc → NoFeed (digits_onto k 10 false n acc)
NoFeed-digits_onto zero n acc h = h
NoFeed-digits_onto (suc k) n acc h =
    NoFeed-cond (n / 10 == 0) (digit_glyph false (n % 10) ∷ acc) (digits_onto k 10 false (n / 10) (digit_glyph false (n % 10) ∷ acc)) (λ _. (glyph-not (n % 10), h))
    (λ _. NoFeed-digits_onto k (n / 10) (digit_glyph false (n % 10) ∷ acc) (glyph-not (n % 10), h))

NoFeed-decimal : (n : ℕ) → NoFeed (decimal n)
unfolding digits
NoFeed-decimal n = NoFeed-digits_onto 64 n [] tt

NoFeed-number : (n : Num) → IsWhole n → NoFeed (number_text n)
NoFeed-number (unsigned n) h = NoFeed-decimal n
NoFeed-number (negative z) h = absurd h
NoFeed-number (float x) h = absurd h

-- ---- trees

NoFeed-comma : (later : Bool) → NoFeed (comma_if later)
NoFeed-comma true = (λ e. omega arith, tt)
NoFeed-comma false = tt

NoFeed-boolean : (b : Bool) → NoFeed (compact_text (boolean b))
NoFeed-boolean true = (λ e. omega arith, (λ e. omega arith, (λ e. omega arith, (λ e. omega arith, tt))))
NoFeed-boolean false = (λ e. omega arith, (λ e. omega arith, (λ e. omega arith, (λ e. omega arith, (λ e. omega arith, tt)))))

mutual
  pub NoFeed-compact_text : (d : Data) → IsCanonical d → NoFeed (compact_text d)
  NoFeed-compact_text null h = (λ e. omega arith, (λ e. omega arith, (λ e. omega arith, (λ e. omega arith, tt))))
  NoFeed-compact_text (boolean b) h = NoFeed-boolean b
  NoFeed-compact_text (number n) h = NoFeed-number n h
  NoFeed-compact_text (string s) h = NoFeed-quoted s
  NoFeed-compact_text (array ds) h = (λ e. omega arith, NoFeed-items_text false ds h)
  NoFeed-compact_text (object ms) h = (λ e. omega arith, NoFeed-members_text false ms h.1)

  NoFeed-items_text : (later : Bool) (ds : Items) → AreCanonical ds → NoFeed (items_text later ds)
  NoFeed-items_text later no_items h = (λ e. omega arith, tt)
  NoFeed-items_text later (item d ds) h =
      NoFeed-append (comma_if later) (compact_text d ++ items_text true ds) (NoFeed-comma later)
      (NoFeed-append (compact_text d) (items_text true ds) (NoFeed-compact_text d h.0) (NoFeed-items_text true ds h.1))

  NoFeed-members_text : (later : Bool) (ms : Members) → HaveCanonical ms → NoFeed (members_text later ms)
  NoFeed-members_text later no_members h = (λ e. omega arith, tt)
  NoFeed-members_text later (member k d ms) h =
      NoFeed-append (comma_if later) (quoted k ++ 58 ∷ (compact_text d ++ members_text true ms)) (NoFeed-comma later)
      (NoFeed-append (quoted k) (58 ∷ (compact_text d ++ members_text true ms)) (NoFeed-quoted k)
      (λ e. omega arith, NoFeed-append (compact_text d) (members_text true ms) (NoFeed-compact_text d h.0) (NoFeed-members_text true ms h.1)))

-- the text of an end line
pub NoFeed-end : (n : ℕ) → NoFeed (compact_text (end_tree n))
NoFeed-end n = (
  λ e. omega arith,
  NoFeed-append (quoted (codes "end")) (58 ∷ (decimal n ++ 125 ∷ [])) (NoFeed-quoted (codes "end"))
      (λ e. omega arith, NoFeed-append (decimal n) (125 ∷ []) (NoFeed-decimal n) (λ e. omega arith, tt)),
)

-- ---- a line

-- a text without a line feed, closed by one, is the first line
pub line_first : (line rest : List ℕ) → NoFeed line → lines_of (line ++ 10 ∷ rest) ≡ line ∷ lines_of rest
line_first [] rest h = refl
line_first (x ∷ xs) rest h =
    ap (λ (t : Bool). cond t ([] ∷ lines_of (xs ++ 10 ∷ rest)) (onto_first x (lines_of (xs ++ 10 ∷ rest)))) (ne_eqb x 10 h.0)
    ∙ ap (onto_first x) (line_first xs rest h.1)
