-- What is known of a template stays where a line answers none of its names, and what is complete stays complete.
use Rattle.std.proofs.Common.{◌≡◌, ◌∙◌, ℕ, ◌≤◌, Bool, true, false, cond, ◌&&◌, ◌||◌, List, [], ◌∷◌, ◌++◌, map, take, filter_map, Option, Some, None, refl, sym, ap, ap₂}
use Rattle.std.specs.Prelude.{unwrap_or}
use Rattle.std.specs.List.{list_any, list_all, last_or, cons_option}
use Rattle.std.specs.Str.{bytes_eq}
use Rattle.std.specs.Cmp.{first_so, second_so}
use Rattle.std.specs.Cmp.Lexicographic.{bytes_decides}
use Rattle.std.proofs.lemmas.Bool.{and_from, or_parts}
use Rattle.std.proofs.lemmas.Bool.Decides.{same_from_decides}
use Rattle.std.proofs.lemmas.List.{append-nil}
use Rattle.std.proofs.lemmas.List.Elements.{filter_map-append}
use Rattle.serde_json.specs.Data.{Data}
use Rattle.ev_types.specs.Hosts.{HostRowParts}
use Rattle.ev_model_laws.proofs.AnyLemmas.{any_first}
use Rattle.ev_expand.specs.declared.keys.Key.{Key}
use Rattle.ev_dns.specs.declared.lines.Resolution.{Resolution}
use Rattle.ev_dns.specs.Lines.{resolution_in}
use Rattle.ev_dns.specs.Answers.{addresses_of, is_answered, is_complete, is_of, last_success, names_once, resolutions_in, success_of}
use Rattle.ev_dns.specs.Hosts.{resolved_rows, with_address}
use Rattle.ev_dns.specs.Resolving.{answers_name, answers_one, resolved_hosts}
use Rattle.ev_dns.proofs.ListLemmas.{taken_parts}
use Rattle.ev_dns.specs.Templates.{template_rows}

-- ---- one line more

same_bytes : (a b : List ℕ) → bytes_eq a b ≡ bytes_eq b a
same_bytes a b =
    same_from_decides (bytes_eq a b) (bytes_eq b a) (bytes_decides a b) (λ h. sym ((bytes_decides b a).0 h), λ e. (bytes_decides b a).1 (sym e))

-- the line answers none of these
abbrev AnswersNone : Option Resolution → List HostRowParts → Type 0
AnswersNone None rows = Unit {0}
AnswersNone (Some resolution) rows = list_any (λ (row : HostRowParts). bytes_eq row.host.address resolution.name) rows ≡ false

answers_none : (found : Option Resolution) (key : Key) → answers_one found key ≡ false → AnswersNone found (template_rows key)
answers_none None key h = tt
answers_none (Some resolution) key h = h

answered_same : (name : List ℕ) (rs : List Resolution) (r : Resolution) → is_of name r ≡ false → list_any (is_of name) (rs ++ r ∷ []) ≡ list_any (is_of name) rs
answered_same name [] r none = ap (λ b. b || false) none
answered_same name (first ∷ rs) r none = ap (λ b. is_of name first || b) (answered_same name rs r none)

success_same : (name : List ℕ) (rs : List Resolution) (r : Resolution) → is_of name r ≡ false → last_success name (rs ++ r ∷ []) ≡ last_success name rs
success_same name rs r none =
    let nothing : success_of name r ≡ None = ap (λ b. cond b r.addresses None) none in
    ap (last_or None) (filter_map-append (success_of name) rs (r ∷ [])
    ∙ ap (λ found. filter_map (success_of name) rs ++ cons_option found []) nothing ∙ append-nil (filter_map (success_of name) rs))

more_resolutions : (before : List Data) (line : Data) (found : Option Resolution) → resolution_in line ≡ found
    → resolutions_in (before ++ line ∷ []) ≡ resolutions_in before ++ cons_option found []
more_resolutions before line found is =
    filter_map-append resolution_in before (line ∷ []) ∙ ap (λ f. resolutions_in before ++ cons_option f []) is

-- a line that answers none of these names says nothing of them
record SaysNothing (before after : List Data) (name : List ℕ) : Type 0 where
  answered : is_answered after name ≡ is_answered before name
  addresses : addresses_of after name ≡ addresses_of before name

nothing_more : (before : List Data) (line : Data) (name : List ℕ) → resolution_in line ≡ None → SaysNothing before (before ++ line ∷ []) name
nothing_more before line name is =
    let same : resolutions_in (before ++ line ∷ []) ≡ resolutions_in before = more_resolutions before line None is ∙ append-nil (resolutions_in before) in
    record { answered = ap (list_any (is_of name)) same; addresses = ap (λ rs. names_once (unwrap_or (last_success name rs) [])) same }

other_more : (before : List Data) (line : Data) (name : List ℕ) (r : Resolution) → resolution_in line ≡ Some r → is_of name r ≡ false
    → SaysNothing before (before ++ line ∷ []) name
other_more before line name r is none =
    let more : resolutions_in (before ++ line ∷ []) ≡ resolutions_in before ++ r ∷ [] = more_resolutions before line (Some r) is in
    record {
      answered = ap (list_any (is_of name)) more ∙ answered_same name (resolutions_in before) r none;
      addresses = ap (λ rs. names_once (unwrap_or (last_success name rs) [])) more
          ∙ ap (λ found. names_once (unwrap_or found [])) (success_same name (resolutions_in before) r none);
    }

-- of none of these rows
abbrev SaysNoneOf : List Data → List Data → List HostRowParts → Type 0
SaysNoneOf before after [] = Unit {0}
SaysNoneOf before after (row ∷ rows) = SaysNothing before after row.host.address × SaysNoneOf before after rows

none_of : (before : List Data) (line : Data) (found : Option Resolution) (rows : List HostRowParts) → resolution_in line ≡ found → AnswersNone found rows
    → SaysNoneOf before (before ++ line ∷ []) rows
none_of before line found [] is none = tt
none_of before line None (row ∷ rows) is none = (nothing_more before line row.host.address is, none_of before line None rows is tt)
none_of before line (Some r) (row ∷ rows) is none =
    let parts = or_parts (bytes_eq row.host.address r.name) (list_any (λ (other : HostRowParts). bytes_eq other.host.address r.name) rows) none in
    (other_more before line row.host.address r is (same_bytes r.name row.host.address ∙ parts.0), none_of before line (Some r) rows is parts.1)

all_answered : (before after : List Data) (rows : List HostRowParts) → SaysNoneOf before after rows
    → list_all (λ (row : HostRowParts). is_answered after row.host.address) rows ≡ list_all (λ (row : HostRowParts). is_answered before row.host.address) rows
all_answered before after [] none = refl
all_answered before after (row ∷ rows) none = ap₂ (λ (a b : Bool). a && b) none.0.answered (all_answered before after rows none.1)

all_resolved : (before after : List Data) (rows : List HostRowParts) → SaysNoneOf before after rows
    → resolved_rows (addresses_of after) rows ≡ resolved_rows (addresses_of before) rows
all_resolved before after [] none = refl
all_resolved before after (row ∷ rows) none =
    ap₂ (λ (addresses : List (List ℕ)) (rest : List HostRowParts). map (with_address row) addresses ++ rest) none.0.addresses (all_resolved before after rows none.1)

-- what is known of a template is the same after the line
pub record StaysKnown (before after : List Data) (key : Key) : Type 0 where
  pub complete : is_complete after key ≡ is_complete before key
  pub hosts : resolved_hosts after key ≡ resolved_hosts before key

-- where the line answers none of its names
pub stays_known : (before : List Data) (line : Data) (key : Key) → answers_name line key ≡ false → StaysKnown before (before ++ line ∷ []) key
stays_known before line key h =
    let none : SaysNoneOf before (before ++ line ∷ []) (template_rows key) =
    none_of before line (resolution_in line) (template_rows key) refl (answers_none (resolution_in line) key h) in
    record {
      complete = all_answered before (before ++ line ∷ []) (template_rows key) none;
      hosts = all_resolved before (before ++ line ∷ []) (template_rows key) none;
    }

-- ---- lines more

rows_answered : (lines more : List Data) (rows : List HostRowParts) → list_all (λ (row : HostRowParts). is_answered lines row.host.address) rows ≡ true
    → list_all (λ (row : HostRowParts). is_answered (lines ++ more) row.host.address) rows ≡ true
rows_answered lines more [] h = refl
rows_answered lines more (row ∷ rows) h =
    let name : List ℕ = row.host.address in
    and_from (is_answered (lines ++ more) name) (list_all (λ (r : HostRowParts). is_answered (lines ++ more) r.host.address) rows)
    (ap (list_any (is_of name)) (filter_map-append resolution_in lines more)
    ∙ any_first (is_of name) (resolutions_in lines) (resolutions_in more)
    (first_so (is_answered lines name) (list_all (λ (r : HostRowParts). is_answered lines r.host.address) rows) h))
    (rows_answered lines more rows (second_so (is_answered lines name) (list_all (λ (r : HostRowParts). is_answered lines r.host.address) rows) h))

pub complete_more : (lines more : List Data) (key : Key) → is_complete lines key ≡ true → is_complete (lines ++ more) key ≡ true
complete_more lines more key h = rows_answered lines more (template_rows key) h

-- what is complete by the first lines is so by more of them
pub complete_later : (lines : List Data) (n m : ℕ) (key : Key) → n ≤ m → is_complete (take n lines) key ≡ true → is_complete (take m lines) key ≡ true
complete_later lines n m key less h =
    let parts = taken_parts n m lines less in
    ap (λ ls. is_complete ls key) parts.1 ∙ complete_more (take n lines) parts.0 key h
