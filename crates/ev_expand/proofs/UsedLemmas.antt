-- A line of an input that uses no private name names no endpoints by one.
use Rattle.std.proofs.Common.{◌≡◌, ◌∙◌, ℕ, ◌+◌, ◌<◌, Bool, true, false, ◌&&◌, cond, nat_lt, List, [], ◌∷◌, ◌++◌, length, Option, Some, None, option_map, unwrap_or, refl, sym, ap, arith}
use Rattle.std.specs.Prelude.{slice_get}
use Rattle.std.specs.List.{list_any, position, position_or_len}
use Rattle.std.specs.Str.{bytes_eq}
use Rattle.std.proofs.lemmas.Bool.{both_ways, or_left, or_right}
use Rattle.std.proofs.lemmas.Bool.Decides.{nat_tests}
use Rattle.std.proofs.lemmas.List.Sums.{fails_before_first}
use Rattle.std.proofs.lemmas.Option.{get_or_from_slice_get, slice_get_within}
use Rattle.serde_json.specs.Data.{Data}
use Rattle.ev_types.specs.Items.{ItemParts}
use Rattle.ev_types.specs.Same.{bytes_decide, numbers_decide}
use Rattle.ev_types.specs.declared.contents.Kind.TheVariants.{Eds}
use Rattle.ev_types.specs.declared.events.Event.{Event}
use Rattle.ev_types.specs.declared.events.Event.TheVariants.{Response, FetchTimeout}
use Rattle.ev_types.specs.declared.events.Profile.{Profile}
use Rattle.ev_model.specs.Verdicts.{is_among}
use Rattle.ev_model_laws.proofs.AnyLemmas.{any_so, or_so}
use Rattle.ev_expand.specs.Fronts.{event_of}
use Rattle.ev_expand.specs.Private.{event_uses, first_use, is_private, item_uses, line_uses, named_uses, response_uses}
use Rattle.ev_expand.proofs.NamedLemmas.{NamesEndpoints}

-- a private name begins with the prefix
pub private_begins : (prefix rest : List ℕ) → is_private prefix (prefix ++ rest) ≡ true
private_begins [] rest = refl
private_begins (n ∷ prefix) rest = ap (λ b. b && is_private prefix (prefix ++ rest)) ((numbers_decide n n).1 refl) ∙ private_begins prefix rest

same_private : (prefix rest name : List ℕ) → bytes_eq name (prefix ++ rest) ≡ true → is_private prefix name ≡ true
same_private prefix rest name same = ap (is_private prefix) ((bytes_decide name (prefix ++ rest)).0 same) ∙ private_begins prefix rest

-- an event that names endpoints by a private name uses one
pub named_used : (prefix rest : List ℕ) (event : Event) → NamesEndpoints (prefix ++ rest) event → event_uses prefix event ≡ true
named_used prefix rest (Response response) names =
    ap (λ kind. response_uses prefix kind response) names.0
    ∙ or_so (list_any (λ (item : ItemParts). bytes_eq item.name (prefix ++ rest)) response.items) (is_among (prefix ++ rest) response.removed)
    (λ item. or_left (list_any (item_uses prefix Eds) response.items) (list_any (named_uses prefix Eds) response.removed)
    (any_so (λ (i : ItemParts). bytes_eq i.name (prefix ++ rest)) (item_uses prefix Eds) response.items (λ i same. same_private prefix rest i.name same) item))
    (λ removed. or_right (list_any (item_uses prefix Eds) response.items) (list_any (named_uses prefix Eds) response.removed)
    (any_so (λ n. bytes_eq n (prefix ++ rest)) (named_uses prefix Eds) response.removed (λ n same. same_private prefix rest n same) removed))
    names.1
named_used prefix rest (FetchTimeout timeout) names =
    ap (λ name. unwrap_or (option_map (named_uses prefix timeout.kind) name) false) names.1
    ∙ ap (λ kind. named_uses prefix kind (prefix ++ rest)) names.0 ∙ private_begins prefix rest
named_used prefix rest event names = absurd names

-- none of the lines passes a test that none is found to pass
none_passes : {X : Type 0} (p : X → Bool) (xs : List X) (i : ℕ) (x : X) → position p xs ≡ None → slice_get xs i ≡ Some x → p x ≡ false
none_passes p xs i x none there =
    let past : nat_lt (position_or_len p xs) (length xs) ≡ false = failed (nat_lt (position_or_len p xs) (length xs)) (position_or_len p xs) none in
    let within : i < length xs = slice_get_within xs i x there in
    let before : i < position_or_len p xs = behind (position_or_len p xs) (length xs) i past within in
    ap p (sym (get_or_from_slice_get xs i x x there)) ∙ fails_before_first p xs i x before
  where
    failed : (b : Bool) (n : ℕ) → cond b (Some n) None ≡ None → b ≡ false
    failed true n h = absurd (cc)
    failed false n h = refl

    behind : (n m i : ℕ) → nat_lt n m ≡ false → i < m → i < n
    behind n m i h less = grind (arith, nat_tests)

none_used : (profile : Profile) (prefix : List ℕ) (lines : List Data) (i : ℕ) (line : Data) → first_use profile prefix lines ≡ None → slice_get lines i ≡ Some line
    → line_uses profile prefix line ≡ false
none_used profile prefix lines i line unused there =
    none_passes (line_uses profile prefix) lines i line (empty (position (line_uses profile prefix) lines) unused) there
  where
    empty : (found : Option ℕ) → option_map (λ index. index + 2) found ≡ None → found ≡ None
    empty None h = refl
    empty (Some n) h = absurd (cc)

-- an event of one of its lines uses none
pub event_unused : (profile : Profile) (prefix : List ℕ) (lines : List Data) (i : ℕ) (line : Data) (event : Event) → first_use profile prefix lines ≡ None → slice_get lines i ≡ Some line
    → event_of profile line ≡ Some event → event_uses prefix event ≡ true → ⊥
event_unused profile prefix lines i line event unused there is uses =
    both_ways (line_uses profile prefix line) (none_used profile prefix lines i line unused there)
    (ap (λ e. unwrap_or (option_map (event_uses prefix) e) false) is ∙ uses)

-- so no line of the input names endpoints by a private name
pub none_names : (profile : Profile) (prefix rest : List ℕ) (lines : List Data) (i : ℕ) (line : Data) (event : Event) → first_use profile prefix lines ≡ None → slice_get lines i ≡ Some line
    → event_of profile line ≡ Some event → NamesEndpoints (prefix ++ rest) event → ⊥
none_names profile prefix rest lines i line event unused there is names =
    event_unused profile prefix lines i line event unused there is (named_used prefix rest event names)
