-- The text of a canonical tree reads back as that tree.
use Rattle.std.proofs.Common.{◌≡◌, ℕ, suc, ◌≤◌, List, [], Greater, Some, option_map, option_and_then, refl, sym, ap, ap₂, ◌∙◌, append-nil, arith, max}
use Rattle.std.specs.Prelude.{⊤}
use Rattle.std.specs.Ordering.{nat_cmp, ordering_reverse}
use Rattle.std.specs.Cmp.Lexicographic.{slice_cmp}
use Rattle.std.proofs.lemmas.Cmp.{nat_list_cmp_total}
use Rattle.json.specs.Json as json
use Rattle.json.specs.Tree as tree
use Rattle.json.specs.Lex.{tokens}
use Rattle.json.specs.Print.{IsNumber}
use Rattle.json.proofs.Printed.Tokens.{tokens-print}
use Rattle.json.proofs.Printed.Trees.{value-json_tokens, ArePrintable-json_tokens}
use Rattle.json.proofs.Printed.Decimals.{IsNumber-decimal}
use Rattle.serde_json.proofs.Texts.{print-outline}
use Rattle.serde_json.proofs.Numbers.{number_of-decimal}
use Rattle.serde_json.specs.Data.{Num, unsigned, negative, float, Data, null, boolean, number, string, array, object, Items, no_items, item, Members, no_members, member, put, depth, items_depth, members_depth}
use Rattle.serde_json.specs.Read.{of_json, of_items, of_members, max_depth, read, number_of}
use Rattle.serde_json.specs.Written.{number_text, outline, items_outline, members_outline, compact_text}
use Rattle.ev_journal_read.proofs.Canonical.{IsWhole, IsCanonical, AreCanonical, HaveCanonical, AreAbove, AreSorted}

-- ---- members one after another

abbrev pub joined : Members → Members → Members
joined no_members ms = ms
joined (member k d found) ms = member k d (joined found ms)

-- each name of the first is below all names of the second
abbrev pub AreBelow : Members → Members → Type 0
AreBelow no_members ms = ⊤
AreBelow (member k d found) ms = AreAbove k ms × AreBelow found ms

pub joined-nil : (found : Members) → joined found no_members ≡ found
joined-nil no_members = refl
joined-nil (member k d found) = ap (member k d) (joined-nil found)

pub joined-one : (found : Members) (k : List ℕ) (d : Data) (ms : Members) → joined (joined found (member k d no_members)) ms ≡ joined found (member k d ms)
joined-one no_members k d ms = refl
joined-one (member l e found) k d ms = ap (member l e) (joined-one found k d ms)

pub put_last : (found : Members) (k : List ℕ) (d e : Data) (ms : Members) → AreBelow found (member k e ms) → put k d found ≡ joined found (member k d no_members)
put_last no_members k d e ms h = refl
put_last (member l f found) k d e ms h =
    let above : slice_cmp nat_cmp k l ≡ Greater = nat_list_cmp_total.antisymm k l ∙ ap ordering_reverse h.0.0 in
    rw above (ap (member l f) (put_last found k d e ms h.1))

pub AreBelow-next : (found : Members) (k : List ℕ) (d : Data) (ms : Members) → AreBelow found (member k d ms) → AreAbove k ms → AreBelow (joined found (member k d no_members)) ms
AreBelow-next no_members k d ms h above = (above, tt)
AreBelow-next (member l e found) k d ms h above = (h.0.1, AreBelow-next found k d ms h.1 above)

-- ---- the tree of a tree's outline

number_read : (n : Num) → IsWhole n → number_of (number_text n) ≡ Some n
number_read (unsigned n) h = number_of-decimal n h
number_read (negative z) h = absurd h
number_read (float x) h = absurd h

mutual
  of_json-outline : (d : Data) → IsCanonical d → of_json (outline d) ≡ Some d
  of_json-outline null h = refl
  of_json-outline (boolean b) h = refl
  of_json-outline (number n) h = ap (option_map number) (number_read n h)
  of_json-outline (string s) h = refl
  of_json-outline (array ds) h = ap (option_map array) (of_items-outline ds h)
  of_json-outline (object ms) h = ap (option_map object) (of_members-outline ms no_members h.1 h.0 tt)

  of_items-outline : (ds : Items) → AreCanonical ds → of_items (items_outline ds) ≡ Some ds
  of_items-outline no_items h = refl
  of_items-outline (item d ds) h =
      ap (option_and_then (λ e. option_map (item e) (of_items (items_outline ds)))) (of_json-outline d h.0) ∙ ap (option_map (item d)) (of_items-outline ds h.1)

  of_members-outline : (ms found : Members) → HaveCanonical ms → AreSorted ms → AreBelow found ms → of_members (members_outline ms) found ≡ Some (joined found ms)
  of_members-outline no_members found h sorted below = ap Some (sym (joined-nil found))
  of_members-outline (member k d ms) found h sorted below =
      ap (option_and_then (λ e. of_members (members_outline ms) (put k e found))) (of_json-outline d h.0)
      ∙ ap (of_members (members_outline ms)) (put_last found k d d ms below)
      ∙ of_members-outline ms (joined found (member k d no_members)) h.1 sorted.1 (AreBelow-next found k d ms below sorted.0)
      ∙ ap Some (joined-one found k d ms)

mutual
  depth-outline : (d : Data) → tree.depth (outline d) ≡ depth d
  depth-outline null = refl
  depth-outline (boolean b) = refl
  depth-outline (number n) = refl
  depth-outline (string s) = refl
  depth-outline (array ds) = ap (λ n. suc n) (items_depth-outline ds)
  depth-outline (object ms) = ap (λ n. suc n) (members_depth-outline ms)

  items_depth-outline : (ds : Items) → tree.items_depth (items_outline ds) ≡ items_depth ds
  items_depth-outline no_items = refl
  items_depth-outline (item d ds) = ap₂ max (depth-outline d) (items_depth-outline ds)

  members_depth-outline : (ms : Members) → tree.members_depth (members_outline ms) ≡ members_depth ms
  members_depth-outline no_members = refl
  members_depth-outline (member k d ms) = ap₂ max (depth-outline d) (members_depth-outline ms)

IsNumber-text : (n : Num) → IsWhole n → IsNumber (number_text n)
IsNumber-text (unsigned n) h = IsNumber-decimal n h
IsNumber-text (negative z) h = absurd h
IsNumber-text (float x) h = absurd h

mutual
  HasNumbers-outline : (d : Data) → IsCanonical d → tree.HasNumbers (outline d)
  HasNumbers-outline null h = tt
  HasNumbers-outline (boolean b) h = tt
  HasNumbers-outline (number n) h = IsNumber-text n h
  HasNumbers-outline (string s) h = tt
  HasNumbers-outline (array ds) h = ItemsHaveNumbers-outline ds h
  HasNumbers-outline (object ms) h = MembersHaveNumbers-outline ms h.1

  ItemsHaveNumbers-outline : (ds : Items) → AreCanonical ds → tree.ItemsHaveNumbers (items_outline ds)
  ItemsHaveNumbers-outline no_items h = tt
  ItemsHaveNumbers-outline (item d ds) h = (HasNumbers-outline d h.0, ItemsHaveNumbers-outline ds h.1)

  MembersHaveNumbers-outline : (ms : Members) → HaveCanonical ms → tree.MembersHaveNumbers (members_outline ms)
  MembersHaveNumbers-outline no_members h = tt
  MembersHaveNumbers-outline (member k d ms) h = (HasNumbers-outline d h.0, MembersHaveNumbers-outline ms h.1)

-- ---- the whole text

pub tokens-compact_text : (d : Data) → IsCanonical d → tokens (compact_text d) ≡ tree.json_tokens (outline d)
tokens-compact_text d h = ap tokens (sym (print-outline d)) ∙ tokens-print _ (ArePrintable-json_tokens (outline d) (HasNumbers-outline d h))

pub read-compact_text : (d : Data) → IsCanonical d → depth d ≤ max_depth → read (compact_text d) ≡ Some d
read-compact_text d h shallow =
    ap (λ ts. option_and_then of_json (option_and_then (λ p. json.if_last p.0 p.1) (json.value max_depth ts))) (tokens-compact_text d h ∙ sym (append-nil _))
    ∙ ap (λ o. option_and_then of_json (option_and_then (λ p. json.if_last p.0 p.1) o)) (value-json_tokens (outline d) max_depth [] (omega (arith, depth-outline d)))
    ∙ of_json-outline d h
