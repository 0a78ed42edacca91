-- What the drain timeout of a name marks, number by number.
use Rattle.std.proofs.Common.{◌≡◌, ◌∙◌, ℕ, ◌+◌, ◌<◌, Bool, true, false, cond, not, ◌&&◌, ◌||◌, ◌==◌, List, [], ◌∷◌, ◌++◌, take, length, get_or, map, None, Some, unwrap_or, refl, sym, ap, arith}
use Rattle.std.specs.List.{list_any}
use Rattle.std.specs.List.Sorted.{IsStrictlySortedBy}
use Rattle.std.specs.Map.{keys_of, lookup, set_value}
use Rattle.std.specs.BTreeMap.{is_at}
use Rattle.std.specs.Ordering.{nat_cmp}
use Rattle.std.specs.Cmp.{eq_by_cmp_equiv}
use Rattle.std.specs.Str.{bytes_eq}
use Rattle.std.proofs.lemmas.Bool.Decides.{nat_tests}
use Rattle.std.proofs.lemmas.Cmp.{nat_cmp_total}
use Rattle.std.proofs.lemmas.Grind.{common_steps}
use Rattle.std.proofs.lemmas.List.Folds.{list_any-append}
use Rattle.std.proofs.lemmas.Map.{NonePasses, none_passes_from_lookup}
use Rattle.std.proofs.lemmas.Map.Entries.{none_past_head}
use Rattle.std.proofs.lemmas.Map.Keys.{IsDistinct-from_sorted}
use Rattle.ev_types.specs.Kinds.{kind_same}
use Rattle.ev_types.specs.declared.contents.Kind.TheVariants.{Lds}
use Rattle.ev_model.specs.Picture.{has_number}
use Rattle.ev_model.specs.Signals.{is_draining}
use Rattle.ev_drain.specs.declared.notes.Note.{Note}
use Rattle.ev_drain.specs.Notes.{is_waiting_note, marked_note, is_waiting_among, marked_among}
use Rattle.ev_drain.proofs.RowLemmas.{same_number}

turned : (a b : ℕ) → (a == b) ≡ (b == a)
turned a b = grind (arith, nat_tests)

or_none : (t : Bool) → (t || false) ≡ t
or_none true = refl
or_none false = refl

-- one number is had exactly by the entry that is found at it
one_number : (n k : ℕ) → has_number k (n ∷ []) ≡ is_at (nat_cmp n) k
one_number n k = or_none (n == k) ∙ turned n k ∙ sym (same_number n k)

-- of entries of other numbers none is marked, and none waits
none_marked : (name : List ℕ) (n : ℕ) (es : List (ℕ × Note)) → NonePasses (is_at (nat_cmp n)) es → map (marked_among name (n ∷ [])) es ≡ es
none_marked name n [] none = refl
none_marked name n (e ∷ es) none =
    ap (λ t. (e.0, cond t (marked_note name e.1) e.1) ∷ map (marked_among name (n ∷ [])) es) (one_number n e.0 ∙ none.0)
    ∙ ap (λ ns. e ∷ ns) (none_marked name n es none.1)

none_waits : (name : List ℕ) (n : ℕ) (es : List (ℕ × Note)) → NonePasses (is_at (nat_cmp n)) es → list_any (is_waiting_among name (n ∷ [])) es ≡ false
none_waits name n [] none = refl
none_waits name n (e ∷ es) none =
    ap (λ t. (t && is_waiting_note name e.1) || list_any (is_waiting_among name (n ∷ [])) es) (one_number n e.0 ∙ none.0)
    ∙ none_waits name n es none.1

-- what is written through a look-up of a number
pub marked_written : (name : List ℕ) (n : ℕ) (es : List (ℕ × Note)) (note : Note) → IsStrictlySortedBy nat_cmp (keys_of es) → lookup (is_at (nat_cmp n)) es ≡ Some note
    → set_value (is_at (nat_cmp n)) es (marked_note name note) ≡ map (marked_among name (n ∷ [])) es
unfolding IsStrictlySortedBy
marked_written name n [] note sorted found = cc
marked_written name n (e ∷ es) note sorted found = by (is_at (nat_cmp n) e.0) refl (one_number n e.0) found (marked_written name n es note sorted.1)
  where
    by : (t : Bool) → is_at (nat_cmp n) e.0 ≡ t → has_number e.0 (n ∷ []) ≡ is_at (nat_cmp n) e.0 → cond t (Some e.1) (lookup (is_at (nat_cmp n)) es) ≡ Some note
        → (lookup (is_at (nat_cmp n)) es ≡ Some note → set_value (is_at (nat_cmp n)) es (marked_note name note) ≡ map (marked_among name (n ∷ [])) es)
        → cond t ((e.0, marked_note name note) ∷ es) (e ∷ set_value (is_at (nat_cmp n)) es (marked_note name note))
        ≡ (e.0, cond (has_number e.0 (n ∷ [])) (marked_note name e.1) e.1) ∷ map (marked_among name (n ∷ [])) es
    by true at has is rest =
        (λ i. (e.0, marked_note name (unwrap_or (sym is i) note)) ∷ es)
        ∙ ap (λ vs. (e.0, marked_note name e.1) ∷ vs)
        (sym (none_marked name n es (none_past_head (eq_by_cmp_equiv nat_cmp_total) n e es (IsDistinct-from_sorted nat_cmp (keys_of (e ∷ es)) sorted) at)))
        ∙ ap (λ t. (e.0, cond t (marked_note name e.1) e.1) ∷ map (marked_among name (n ∷ [])) es) (sym (has ∙ at))
    by false at has is rest =
        ap (λ vs. e ∷ vs) (rest is) ∙ ap (λ t. (e.0, cond t (marked_note name e.1) e.1) ∷ map (marked_among name (n ∷ [])) es) (sym (has ∙ at))

pub waiting_found : (name : List ℕ) (n : ℕ) (es : List (ℕ × Note)) (note : Note) → IsStrictlySortedBy nat_cmp (keys_of es) → lookup (is_at (nat_cmp n)) es ≡ Some note
    → is_waiting_note name note ≡ list_any (is_waiting_among name (n ∷ [])) es
unfolding IsStrictlySortedBy
waiting_found name n [] note sorted found = cc
waiting_found name n (e ∷ es) note sorted found = by (is_at (nat_cmp n) e.0) refl (one_number n e.0) found (waiting_found name n es note sorted.1)
  where
    by : (t : Bool) → is_at (nat_cmp n) e.0 ≡ t → has_number e.0 (n ∷ []) ≡ is_at (nat_cmp n) e.0 → cond t (Some e.1) (lookup (is_at (nat_cmp n)) es) ≡ Some note
        → (lookup (is_at (nat_cmp n)) es ≡ Some note → is_waiting_note name note ≡ list_any (is_waiting_among name (n ∷ [])) es)
        → is_waiting_note name note ≡ ((has_number e.0 (n ∷ []) && is_waiting_note name e.1) || list_any (is_waiting_among name (n ∷ [])) es)
    by true at has is rest =
        (λ i. is_waiting_note name (unwrap_or (sym is i) note))
        ∙ sym (or_none (is_waiting_note name e.1))
        ∙ ap (λ t. is_waiting_note name e.1 || t) (sym (none_waits name n es (none_past_head (eq_by_cmp_equiv nat_cmp_total) n e es (IsDistinct-from_sorted nat_cmp (keys_of (e ∷ es)) sorted) at)))
        ∙ ap (λ t. (t && is_waiting_note name e.1) || list_any (is_waiting_among name (n ∷ [])) es) (sym (has ∙ at))
    by false at has is rest =
        rest is ∙ ap (λ t. (t && is_waiting_note name e.1) || list_any (is_waiting_among name (n ∷ [])) es) (sym (has ∙ at))

-- where no note has the number nothing is marked, and none waits
none_found : (n : ℕ) (es : List (ℕ × Note)) → lookup (is_at (nat_cmp n)) es ≡ None → NonePasses (is_at (nat_cmp n)) es
none_found n es none = none_passes_from_lookup (is_at (nat_cmp n)) es none

pub marked_missed : (name : List ℕ) (n : ℕ) (es : List (ℕ × Note)) → lookup (is_at (nat_cmp n)) es ≡ None → es ≡ map (marked_among name (n ∷ [])) es
marked_missed name n es none = sym (none_marked name n es (none_found n es none))

pub waiting_missed : (name : List ℕ) (n : ℕ) (es : List (ℕ × Note)) → lookup (is_at (nat_cmp n)) es ≡ None → false ≡ list_any (is_waiting_among name (n ∷ [])) es
waiting_missed name n es none = sym (none_waits name n es (none_found n es none))

-- a note that was marked waits no longer, and a second mark changes nothing
marked_waits : (named expired : Bool) → (named && not (expired || named)) ≡ false
marked_waits true true = refl
marked_waits true false = refl
marked_waits false expired = refl

marked_twice : (named expired : Bool) → ((expired || named) || named) ≡ (expired || named)
marked_twice true true = refl
marked_twice true false = refl
marked_twice false true = refl
marked_twice false false = refl

abbrev is_meant : List ℕ → Note → Bool
is_meant name note = (kind_same note.kind Lds && bytes_eq note.name name) && is_draining note.status

-- one more number
has_more : (k n : ℕ) (ns : List ℕ) → has_number k (ns ++ n ∷ []) ≡ (has_number k ns || has_number k (n ∷ []))
has_more k n ns = list_any-append (λ m. m == k) ns (n ∷ [])

mark_entry : (name : List ℕ) (ns : List ℕ) (n : ℕ) (e : ℕ × Note) → marked_among name (n ∷ []) (marked_among name ns e) ≡ marked_among name (ns ++ n ∷ []) e
mark_entry name ns n e =
    let entry : Note → ℕ × Note = λ note. (e.0, note) in
    ap entry (by (has_number e.0 ns) (has_number e.0 (n ∷ [])) ∙ ap (λ t. cond t (marked_note name e.1) e.1) (sym (has_more e.0 n ns)))
  where
    by : (t u : Bool) → cond u (marked_note name (cond t (marked_note name e.1) e.1)) (cond t (marked_note name e.1) e.1) ≡ cond (t || u) (marked_note name e.1) e.1
    by true true = ap (λ x. record e.1 { expired = x }) (marked_twice (is_meant name e.1) e.1.expired)
    by true false = refl
    by false true = refl
    by false false = refl

wait_entry : (name : List ℕ) (ns : List ℕ) (n : ℕ) (e : ℕ × Note)
    → (is_waiting_among name ns e || is_waiting_among name (n ∷ []) (marked_among name ns e)) ≡ is_waiting_among name (ns ++ n ∷ []) e
wait_entry name ns n e =
    by (has_number e.0 ns) (has_number e.0 (n ∷ [])) (marked_waits (is_meant name e.1) e.1.expired)
    ∙ ap (λ t. t && is_waiting_note name e.1) (sym (has_more e.0 n ns))
  where
    by : (t u : Bool) → is_waiting_note name (marked_note name e.1) ≡ false
        → ((t && is_waiting_note name e.1) || (u && is_waiting_note name (cond t (marked_note name e.1) e.1))) ≡ ((t || u) && is_waiting_note name e.1)
    by true true gone = ap (λ b. is_waiting_note name e.1 || b) gone ∙ or_none (is_waiting_note name e.1)
    by true false gone = or_none (is_waiting_note name e.1)
    by false u gone = refl

mark_all : (name : List ℕ) (ns : List ℕ) (n : ℕ) (es : List (ℕ × Note)) → map (marked_among name (n ∷ [])) (map (marked_among name ns) es) ≡ map (marked_among name (ns ++ n ∷ [])) es
mark_all name ns n [] = refl
mark_all name ns n (e ∷ es) = λ i. mark_entry name ns n e i ∷ mark_all name ns n es i

mixed : (a b c d : Bool) → ((a || b) || (c || d)) ≡ ((a || c) || (b || d))
mixed true b c d = refl
mixed false b true d = grind arith
mixed false b false d = refl

wait_all : (name : List ℕ) (ns : List ℕ) (n : ℕ) (es : List (ℕ × Note))
    → (list_any (is_waiting_among name ns) es || list_any (is_waiting_among name (n ∷ [])) (map (marked_among name ns) es)) ≡ list_any (is_waiting_among name (ns ++ n ∷ [])) es
wait_all name ns n [] = refl
wait_all name ns n (e ∷ es) =
    mixed (is_waiting_among name ns e) (list_any (is_waiting_among name ns) es) (is_waiting_among name (n ∷ []) (marked_among name ns e)) (list_any (is_waiting_among name (n ∷ [])) (map (marked_among name ns) es))
    ∙ (λ i. wait_entry name ns n e i || wait_all name ns n es i)

next_number : (numbers : List ℕ) (i number : ℕ) → i < length numbers → number ≡ get_or numbers i number → take (i + 1) numbers ≡ take i numbers ++ number ∷ []
next_number numbers i number within is = grind (arith, common_steps)

-- the same as the loop goes on
pub mark_more : (name numbers : List ℕ) (i number : ℕ) (now old : List (ℕ × Note)) → i < length numbers → number ≡ get_or numbers i number
    → now ≡ map (marked_among name (take i numbers)) old
    → map (marked_among name (number ∷ [])) now ≡ map (marked_among name (take (i + 1) numbers)) old
mark_more name numbers i number now old within is are =
    ap (map (marked_among name (number ∷ []))) are ∙ mark_all name (take i numbers) number old
    ∙ ap (λ ns. map (marked_among name ns) old) (sym (next_number numbers i number within is))

pub wait_more : (name numbers : List ℕ) (i number : ℕ) (now old : List (ℕ × Note)) (meant : Bool) → i < length numbers → number ≡ get_or numbers i number
    → now ≡ map (marked_among name (take i numbers)) old → meant ≡ list_any (is_waiting_among name (take i numbers)) old
    → (meant || list_any (is_waiting_among name (number ∷ [])) now) ≡ list_any (is_waiting_among name (take (i + 1) numbers)) old
wait_more name numbers i number now old meant within is are waits =
    (λ j. waits j || list_any (is_waiting_among name (number ∷ [])) (are j)) ∙ wait_all name (take i numbers) number old
    ∙ ap (λ ns. list_any (is_waiting_among name ns) old) (sym (next_number numbers i number within is))

-- nothing is marked at first
pub mark_none : (name : List ℕ) (es : List (ℕ × Note)) → es ≡ map (marked_among name []) es
mark_none name [] = refl
mark_none name (e ∷ es) = ap (λ vs. e ∷ vs) (mark_none name es)

pub wait_none : (name : List ℕ) (es : List (ℕ × Note)) → false ≡ list_any (is_waiting_among name []) es
wait_none name [] = refl
wait_none name (e ∷ es) = wait_none name es
