-- The first place where anything is found.
use Rattle.std.proofs.Common.{◌≡◌, ◌<◌, ◌≤◌, ◌+◌, ◌==◌, ℕ, zero, suc, Bool, true, false, List, [], length, Option, Some, None, refl, ap, ◌∙◌, arith}
use Rattle.std.specs.Prelude.{filter_map, slice_get, unwrap_or}
use Rattle.std.specs.List.{cons_option, range_with_len}
use Rattle.std.proofs.lemmas.Bool.Decides.{nat_tests}
use Rattle.ev_types.specs.Scripts.{ScriptParts}
use Rattle.ev_types.specs.Same.{numbers_decide}
use Rattle.ev_types.specs.declared.journals.Format.{Format}
use Rattle.ev_types.specs.declared.journals.Row.{Row}
use Rattle.ev_types.specs.declared.journals.Finding.{Finding}
use Rattle.ev_model.specs.Finding.{finding_at, end_finding, finding_of}
use Rattle.ev_model_laws.specs.Walks.{NothingFound}

above : (start place : ℕ) → start ≤ place → (start == place) ≡ false → start + 1 ≤ place
above start place from apart = grind (arith, nat_tests)

nowhere : (start place : ℕ) → start ≤ place → place < start + 0 → ⊥
nowhere start place from below = omega arith

-- the first that is given, of places in a row
given_by : (f : ℕ → Option Finding) (start place : ℕ) (others : List Finding) (found last : Finding) (b : Bool) → (start == place) ≡ b
    → (b ≡ false → f start ≡ None) → (b ≡ false → unwrap_or (slice_get others 0) last ≡ found) → f place ≡ Some found
    → unwrap_or (slice_get (cons_option (f start) others) 0) last ≡ found
given_by f start place others found last true here none more is =
    ap (λ (x : Option Finding). unwrap_or (slice_get (cons_option x others) 0) last) (ap f ((numbers_decide start place).0 here) ∙ is)
given_by f start place others found last false apart none more is =
    ap (λ (x : Option Finding). unwrap_or (slice_get (cons_option x others) 0) last) (none refl) ∙ more refl

first_given : (f : ℕ → Option Finding) (start n place : ℕ) (found last : Finding) → start ≤ place → place < start + n
    → ((earlier : ℕ) → earlier < place → f earlier ≡ None) → f place ≡ Some found
    → unwrap_or (slice_get (filter_map f (range_with_len start n)) 0) last ≡ found
first_given f start zero place found last from below none is = absurd (nowhere start place from below)
first_given f start (suc n) place found last from below none is =
    let ahead : (start == place) ≡ false → start + 1 ≤ place = λ apart. above start place from apart in
    given_by f start place (filter_map f (range_with_len (start + 1) n)) found last (start == place) refl
    (λ apart. let less : start + 1 ≤ place = ahead apart in none start (omega arith))
    (λ apart. first_given f (start + 1) n place found last (ahead apart) (omega arith) none is)
    is

none_given : (f : ℕ → Option Finding) (start n : ℕ) → ((place : ℕ) → place < start + n → f place ≡ None)
    → filter_map f (range_with_len start n) ≡ []
none_given f start zero none = refl
none_given f start (suc n) none =
    ap (λ (x : Option Finding). cons_option x (filter_map f (range_with_len (start + 1) n))) (none start (omega arith))
    ∙ none_given f (start + 1) n (λ place below. none place (omega arith))

-- what is found at the first place where there is anything is found of the journal
pub first_found : (format : Format) (script : ScriptParts) (rows : List Row) (place : ℕ) (found : Finding) → place < length rows
    → NothingFound format script rows place → finding_at format script rows place ≡ Some found → finding_of format script rows ≡ found
first_found format script rows place found below none is =
    first_given (finding_at format script rows) 0 (length rows) place found (end_finding format script rows) (omega arith) (omega arith) none is

-- where nothing is found of the rows, it is what is found after the last
pub none_found : (format : Format) (script : ScriptParts) (rows : List Row) → NothingFound format script rows (length rows)
    → finding_of format script rows ≡ end_finding format script rows
none_found format script rows none =
    ap (λ (found : List Finding). unwrap_or (slice_get found 0) (end_finding format script rows))
    (none_given (finding_at format script rows) 0 (length rows) (λ place below. none place (omega arith)))
