-- Trees whose text reads back as themselves: whole numbers of 64 bits, and objects whose members are sorted by name.
use Rattle.std.proofs.Common.{◌≡◌, ℕ, ◌^◌, ◌<◌, List, Ordering, Less, Equal, Greater, refl, ap, ◌∙◌}
use Rattle.std.specs.Prelude.{⊤}
use Rattle.std.specs.Ordering.{nat_cmp, match_ordering, ordering_reverse}
use Rattle.std.specs.Cmp.Lexicographic.{slice_cmp}
use Rattle.std.proofs.lemmas.Cmp.{nat_list_cmp_total}
use Rattle.serde_json.specs.Data.{Num, unsigned, negative, float, Data, null, boolean, number, string, array, object, Items, no_items, item, Members, no_members, member, put}

-- every name is above this one
abbrev pub AreAbove : List ℕ → Members → Type 0
AreAbove k no_members = ⊤
AreAbove k (member l d ms) = (slice_cmp nat_cmp k l ≡ Less) × AreAbove k ms

abbrev pub AreSorted : Members → Type 0
AreSorted no_members = ⊤
AreSorted (member k d ms) = AreAbove k ms × AreSorted ms

abbrev pub IsWhole : Num → Type 0
IsWhole (unsigned n) = n < 2 ^ 64
IsWhole (negative z) = ⊥
IsWhole (float x) = ⊥

abbrev mutual
  pub IsCanonical : Data → Type 0
  IsCanonical null = ⊤
  IsCanonical (boolean b) = ⊤
  IsCanonical (number n) = IsWhole n
  IsCanonical (string s) = ⊤
  IsCanonical (array ds) = AreCanonical ds
  IsCanonical (object ms) = AreSorted ms × HaveCanonical ms

  pub AreCanonical : Items → Type 0
  AreCanonical no_items = ⊤
  AreCanonical (item d ds) = IsCanonical d × AreCanonical ds

  pub HaveCanonical : Members → Type 0
  HaveCanonical no_members = ⊤
  HaveCanonical (member k d ms) = IsCanonical d × HaveCanonical ms

-- ---- what is put keeps the order

AreAbove-later : (j k : List ℕ) (ms : Members) → slice_cmp nat_cmp j k ≡ Less → AreAbove k ms → AreAbove j ms
AreAbove-later j k no_members e h = tt
AreAbove-later j k (member l d ms) e h = (nat_list_cmp_total.trans j k l e h.0, AreAbove-later j k ms e h.1)

AreAbove-put_at : (o : Ordering) (j k l : List ℕ) (d e : Data) (ms : Members) → slice_cmp nat_cmp j k ≡ Less → AreAbove j (member l e ms) → AreAbove j (put k d ms)
    → AreAbove j (match_ordering o (member k d (member l e ms)) (member l d ms) (member l e (put k d ms)))
AreAbove-put_at Less j k l d e ms below h later = (below, h)
AreAbove-put_at Equal j k l d e ms below h later = h
AreAbove-put_at Greater j k l d e ms below h later = (h.0, later)

AreAbove-put : (j k : List ℕ) (d : Data) (ms : Members) → slice_cmp nat_cmp j k ≡ Less → AreAbove j ms → AreAbove j (put k d ms)
AreAbove-put j k d no_members below h = (below, tt)
AreAbove-put j k d (member l e ms) below h = AreAbove-put_at _ j k l d e ms below h (AreAbove-put j k d ms below h.1)

AreSorted-put_at : (o : Ordering) (k l : List ℕ) (d e : Data) (ms : Members) → slice_cmp nat_cmp k l ≡ o → AreSorted (member l e ms) → AreSorted (put k d ms)
    → AreSorted (match_ordering o (member k d (member l e ms)) (member l d ms) (member l e (put k d ms)))
AreSorted-put_at Less k l d e ms is h later = ((is, AreAbove-later k l ms is h.0), h)
AreSorted-put_at Equal k l d e ms is h later = h
AreSorted-put_at Greater k l d e ms is h later =
    (AreAbove-put l k d ms (nat_list_cmp_total.antisymm l k ∙ ap ordering_reverse is) h.0, later)

pub AreSorted-put : (k : List ℕ) (d : Data) (ms : Members) → AreSorted ms → AreSorted (put k d ms)
AreSorted-put k d no_members h = (tt, tt)
AreSorted-put k d (member l e ms) h = AreSorted-put_at _ k l d e ms refl h (AreSorted-put k d ms h.1)

HaveCanonical-put_at : (o : Ordering) (k l : List ℕ) (d e : Data) (ms : Members) → IsCanonical d → HaveCanonical (member l e ms) → HaveCanonical (put k d ms)
    → HaveCanonical (match_ordering o (member k d (member l e ms)) (member l d ms) (member l e (put k d ms)))
HaveCanonical-put_at Less k l d e ms good h later = (good, h)
HaveCanonical-put_at Equal k l d e ms good h later = (good, h.1)
HaveCanonical-put_at Greater k l d e ms good h later = (h.0, later)

pub HaveCanonical-put : (k : List ℕ) (d : Data) (ms : Members) → IsCanonical d → HaveCanonical ms → HaveCanonical (put k d ms)
HaveCanonical-put k d no_members good h = (good, tt)
HaveCanonical-put k d (member l e ms) good h = HaveCanonical-put_at _ k l d e ms good h (HaveCanonical-put k d ms good h.1)
