-- What is known of host names after one line more.
use Rattle.std.proofs.Common.{◌≡◌, ℕ, Bool, true, false, cond, ◌||◌, List, [], ◌∷◌, ◌++◌, filter_map, Option, option_map, Some, None, unwrap_or, refl, sym, ap, ◌∙◌}
use Rattle.std.specs.List.{list_any, last_or, cons_option}
use Rattle.std.specs.Str.{bytes_eq}
use Rattle.std.proofs.lemmas.List.{append-nil}
use Rattle.std.proofs.lemmas.List.Elements.{filter_map-append}
use Rattle.std.proofs.lemmas.List.Folds.{list_any-append}
use Rattle.serde_json.specs.Data.{Data}
use Rattle.ev_types.specs.Hosts.{HostRowParts}
use Rattle.ev_expand.specs.declared.keys.Key.{Key}
use Rattle.ev_dns.specs.declared.answers.Answers.{Answers}
use Rattle.ev_dns.specs.declared.lines.Resolution.{Resolution}
use Rattle.ev_dns.specs.Lines.{resolution_in}
use Rattle.ev_dns.specs.Answers.{resolutions_in, is_of, is_answered, success_of, names_once, last_success, is_complete}
use Rattle.ev_dns.specs.Known.{has_answer, known_addresses, later_addresses, TakesGiven, has_row, has_all}
use Rattle.ev_dns.specs.Waiting.{is_named}
use Rattle.ev_dns.specs.State.{AreAnswers}
use Rattle.ev_dns.specs.Templates.{template_rows}
use Rattle.ev_dns.proofs.PairLemmas.{all_same}

pub last-append : {A : Type 0} (o : Option A) (xs ys : List A) → last_or o (xs ++ ys) ≡ last_or (last_or o xs) ys
last-append o [] ys = refl
last-append o (x ∷ xs) ys = last-append (Some x) xs ys

swapped : (a b : Bool) → (a || (b || false)) ≡ (b || a)
swapped true true = refl
swapped true false = refl
swapped false true = refl
swapped false false = refl

-- there is a resolution, and it is of this name
abbrev pub answers_to : Option Resolution → List ℕ → Bool
answers_to None name = false
answers_to (Some resolution) name = is_of name resolution

any_more : (name : List ℕ) (rs : List Resolution) (o : Option Resolution) → list_any (is_of name) (rs ++ cons_option o []) ≡ (answers_to o name || list_any (is_of name) rs)
any_more name rs None = ap (list_any (is_of name)) (append-nil rs)
any_more name rs (Some r) = list_any-append (is_of name) rs (r ∷ []) ∙ swapped (list_any (is_of name) rs) (is_of name r)

resolutions_now : (before : List Data) (line : Data) → resolutions_in (before ++ line ∷ []) ≡ resolutions_in before ++ cons_option (resolution_in line) []
resolutions_now before line = filter_map-append resolution_in before (line ∷ [])

later_more : (l given : Option (List (List ℕ))) → later_addresses (names_once (unwrap_or l [])) given ≡ names_once (unwrap_or (last_or l (cons_option given [])) [])
later_more l None = refl
later_more l (Some names) = refl

last_more : (name : List ℕ) (rs : List Resolution) (r : Resolution) → last_success name (rs ++ r ∷ []) ≡ last_or (last_success name rs) (cons_option (success_of name r) [])
last_more name rs r =
    ap (last_or None) (filter_map-append (success_of name) rs (r ∷ [])) ∙ last-append None (filter_map (success_of name) rs) (cons_option (success_of name r) [])

answered_after : (old new : Answers) (rs : List Resolution) (o : Option Resolution) → TakesGiven old new o → (name : List ℕ) → has_answer old name ≡ list_any (is_of name) rs
    → has_answer new name ≡ list_any (is_of name) (rs ++ cons_option o [])
answered_after old new rs None takes name was = ap (λ (a : Answers). has_answer a name) takes ∙ was ∙ sym (any_more name rs None)
answered_after old new rs (Some r) takes name was = takes.answered name ∙ ap (λ (b : Bool). bytes_eq r.name name || b) was ∙ sym (any_more name rs (Some r))

addresses_after : (old new : Answers) (rs : List Resolution) (o : Option Resolution) → TakesGiven old new o → (name : List ℕ) → known_addresses old name ≡ names_once (unwrap_or (last_success name rs) [])
    → known_addresses new name ≡ names_once (unwrap_or (last_success name (rs ++ cons_option o [])) [])
addresses_after old new rs None takes name was =
    ap (λ (a : Answers). known_addresses a name) takes ∙ was ∙ ap (λ (xs : List Resolution). names_once (unwrap_or (last_success name xs) [])) (sym (append-nil rs))
addresses_after old new rs (Some r) takes name was =
    takes.addresses name ∙ ap (λ (known : List (List ℕ)). later_addresses known (success_of name r)) was ∙ later_more (last_success name rs) (success_of name r)
    ∙ ap (λ (o : Option (List (List ℕ))). names_once (unwrap_or o [])) (sym (last_more name rs r))

-- with the resolution of a line the answers are those in one line more
pub answers_after : (old new : Answers) (before : List Data) (line : Data) → AreAnswers old before → TakesGiven old new (resolution_in line) → AreAnswers new (before ++ line ∷ [])
answers_after old new before line are takes =
    record {
      answered = λ name.
          answered_after old new (resolutions_in before) (resolution_in line) takes name (are.answered name) ∙ ap (list_any (is_of name)) (sym (resolutions_now before line));
      addresses = λ name.
          addresses_after old new (resolutions_in before) (resolution_in line) takes name (are.addresses name)
          ∙ ap (λ (rs : List Resolution). names_once (unwrap_or (last_success name rs) [])) (sym (resolutions_now before line));
    }

-- ---- what is complete

pub complete_as : (answers : Answers) (lines : List Data) (key : Key) → AreAnswers answers lines → has_all answers key ≡ is_complete lines key
complete_as answers lines key are = all_same (has_row answers) (λ (row : HostRowParts). is_answered lines row.host.address) (template_rows key) (λ row. are.answered row.host.address)

-- with a resolution a name is answered by it, or was before
pub answered_more : (old new : Answers) (o : Option Resolution) → TakesGiven old new o → (name : List ℕ) → has_answer new name ≡ (is_named (option_map (λ (r : Resolution). r.name) o) name || has_answer old name)
answered_more old new None takes name = ap (λ (a : Answers). has_answer a name) takes
answered_more old new (Some r) takes name = takes.answered name

-- ---- the addresses after a resolution

pub later_given : (b : Bool) (known names : List (List ℕ)) → cond b (names_once names) known ≡ later_addresses known (cond b (Some names) None)
later_given true known names = refl
later_given false known names = refl

pub later_failed : (b : Bool) (known : List (List ℕ)) → known ≡ later_addresses known (cond b None None)
later_failed true known = refl
later_failed false known = refl
