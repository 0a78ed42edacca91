-- One more that is due after others.
use Rattle.std.proofs.Common.{◌≡◌, ℕ, List, [], ◌∷◌, ◌++◌, map, filter_map, Option, Some, None, option_map, sym, ap, ◌∙◌}
use Rattle.std.specs.List.{cons_option}
use Rattle.std.proofs.lemmas.List.{map-append, append-nil}
use Rattle.std.proofs.lemmas.List.Elements.{filter_map-append}
use Rattle.serde_json.specs.Data.{Data, string}
use Rattle.serde_json.specs.View.{view}
use Rattle.serde_json.specs.declared.value.Value.{Value}
use Rattle.ev_expand.specs.declared.following.Due.{Due}
use Rattle.ev_expand.specs.Guarding.{private_name}
use Rattle.ev_expand.specs.Following.{DueParts, endpoints_entry, entry_due, name_due, name_without, due_shown}

one_more : {B : Type 0} (f : DueParts → Option B) (ds : List Due) (due : Due) → filter_map f (map due_shown (ds ++ due ∷ [])) ≡ filter_map f (map due_shown ds) ++ cons_option (f (due_shown due)) []
one_more f ds due = ap (filter_map f) (map-append due_shown ds (due ∷ [])) ∙ filter_map-append f (map due_shown ds) (due_shown due ∷ [])

-- one with endpoints is a resource more
pub entry_more : (prefix version : List ℕ) (ds : List Due) (due : Due) (place : ℕ) (endpoints : Value) (name : List ℕ) (entry : Data) → place ≡ due.place → due.endpoints ≡ Some endpoints
    → name ≡ private_name prefix place → entry ≡ endpoints_entry version name (view endpoints)
    → filter_map (entry_due prefix version) (map due_shown (ds ++ due ∷ [])) ≡ filter_map (entry_due prefix version) (map due_shown ds) ++ entry ∷ []
entry_more prefix version ds due place endpoints name entry at given named is =
    one_more (entry_due prefix version) ds due
    ∙ (λ i. filter_map (entry_due prefix version) (map due_shown ds) ++ cons_option (option_map (endpoints_entry version (private_name prefix due.place)) (option_map view (given i))) [])
    ∙ ap (λ (n : ℕ). filter_map (entry_due prefix version) (map due_shown ds) ++ endpoints_entry version (private_name prefix n) (view endpoints) ∷ []) (sym at)
    ∙ ap (λ (n : List ℕ). filter_map (entry_due prefix version) (map due_shown ds) ++ endpoints_entry version n (view endpoints) ∷ []) (sym named)
    ∙ ap (λ (e : Data). filter_map (entry_due prefix version) (map due_shown ds) ++ e ∷ []) (sym is)

-- and no name
pub name_same : (prefix : List ℕ) (ds : List Due) (due : Due) (endpoints : Value) → due.endpoints ≡ Some endpoints
    → filter_map (name_due prefix) (map due_shown (ds ++ due ∷ [])) ≡ filter_map (name_due prefix) (map due_shown ds)
name_same prefix ds due endpoints given =
    one_more (name_due prefix) ds due
    ∙ (λ i. filter_map (name_due prefix) (map due_shown ds) ++ cons_option (name_without (private_name prefix due.place) (option_map view (given i))) [])
    ∙ append-nil (filter_map (name_due prefix) (map due_shown ds))

-- one without is a name more
pub name_more : (prefix : List ℕ) (ds : List Due) (due : Due) (place : ℕ) (name : List ℕ) (entry : Data) → place ≡ due.place → due.endpoints ≡ None → name ≡ private_name prefix place → entry ≡ string name
    → filter_map (name_due prefix) (map due_shown (ds ++ due ∷ [])) ≡ filter_map (name_due prefix) (map due_shown ds) ++ entry ∷ []
name_more prefix ds due place name entry at given named is =
    one_more (name_due prefix) ds due
    ∙ (λ i. filter_map (name_due prefix) (map due_shown ds) ++ cons_option (name_without (private_name prefix due.place) (option_map view (given i))) [])
    ∙ ap (λ (n : ℕ). filter_map (name_due prefix) (map due_shown ds) ++ string (private_name prefix n) ∷ []) (sym at)
    ∙ ap (λ (n : List ℕ). filter_map (name_due prefix) (map due_shown ds) ++ string n ∷ []) (sym named)
    ∙ ap (λ (e : Data). filter_map (name_due prefix) (map due_shown ds) ++ e ∷ []) (sym is)

-- and no resource
pub entry_same : (prefix version : List ℕ) (ds : List Due) (due : Due) → due.endpoints ≡ None
    → filter_map (entry_due prefix version) (map due_shown (ds ++ due ∷ [])) ≡ filter_map (entry_due prefix version) (map due_shown ds)
entry_same prefix version ds due given =
    one_more (entry_due prefix version) ds due
    ∙ (λ i. filter_map (entry_due prefix version) (map due_shown ds) ++ cons_option (option_map (endpoints_entry version (private_name prefix due.place)) (option_map view (given i))) [])
    ∙ append-nil (filter_map (entry_due prefix version) (map due_shown ds))
