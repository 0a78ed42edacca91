-- The places that are due at a line, by any rules: the names in the line that follows are theirs, and what they guard
-- is due.
use Rattle.std.proofs.Common.{◌≡◌, ◌∙◌, inl, inr, ℕ, suc, ◌+◌, ◌<◌, true, List, [], ◌∷◌, ◌++◌, length, take, filter, filter_map, flat_map, Option, Some, None, option_map, sym, ap, subst, arith}
use Rattle.std.specs.Prelude.{slice_get, drop}
use Rattle.std.specs.List.{enumerate_from, list_any}
use Rattle.std.specs.Str.{bytes_eq}
use Rattle.std.proofs.lemmas.Grind.{flat_map-append}
use Rattle.std.proofs.lemmas.List.{take-append-drop}
use Rattle.std.proofs.lemmas.Option.{slice_get_within}
use Rattle.serde_json.specs.Data.{Data}
use Rattle.ev_types.specs.Items.{ItemParts, ResponseParts}
use Rattle.ev_types.specs.Same.{bytes_decide}
use Rattle.ev_types.specs.declared.events.Profile.{Profile}
use Rattle.ev_types.specs.declared.limits.TheConstants.{ITEM_LIMIT}
use Rattle.ev_model.specs.Verdicts.{is_among}
use Rattle.ev_model_laws.proofs.AnyLemmas.{or_so}
use Rattle.ev_model_laws.proofs.OperationLists.{IsIn, in_filter}
use Rattle.ev_expand.specs.Expanding.{Rules, due_at, guarded_at}
use Rattle.ev_expand.specs.Following.{DueParts}
use Rattle.ev_expand.specs.Fronts.{Front, fronts, up_to}
use Rattle.ev_expand.specs.Guarding.{Guard, Guarded, each_once, guarded_by, guarded_in, private_name}
use Rattle.ev_expand.proofs.DistinctLemmas.{IsExtended, once_extends}
use Rattle.ev_expand.specs.Waiting.{bare_name, following_response, name_left, name_with}
use Rattle.ev_expand.proofs.CountLemmas.{places_same}
use Rattle.ev_expand.proofs.ReadLemmas.{following_names}
use Rattle.ev_expand.proofs.FrontLawLemmas.{up_to_at}
use Rattle.ev_expand.proofs.ListLemmas.{front_get, in_any, in_found, in_map, map_in, some_same}
use Rattle.ev_expand.proofs.NamedLemmas.{is_named}

-- ---- names that are due

-- one of the places that are due has the name
pub record IsDueName (prefix : List ℕ) (due : List DueParts) (name : List ℕ) : Type 0 where
  pub parts : DueParts
  pub among : IsIn parts due
  pub named : name ≡ private_name prefix parts.place

with_is : (name other : List ℕ) (endpoints : Option Data) → option_map (λ (d : Data). name) endpoints ≡ Some other → other ≡ name
with_is name other None h = absurd (cc)
with_is name other (Some endpoints) h = cc

left_is : (name other : List ℕ) (endpoints : Option Data) → bare_name name endpoints ≡ Some other → other ≡ name
left_is name other None h = cc
left_is name other (Some endpoints) h = absurd (cc)

module _ (profile : Profile) (prefix nonce version name : List ℕ) (due : List DueParts) where
  abbrev made : ResponseParts
  made = following_response profile prefix nonce version due

  item_named : list_any (λ (item : ItemParts). bytes_eq item.name name) made.items ≡ true → IsDueName prefix due name
  item_named h =
      let one = in_any (λ (item : ItemParts). bytes_eq item.name name) made.items h in
      let among : IsIn one.0.name (filter_map (name_with prefix) due) =
      subst (IsIn one.0.name) (following_names profile prefix nonce version due) (map_in (λ (item : ItemParts). item.name) made.items one.0 one.1) in
      let found = in_found (name_with prefix) due one.0.name among in
      record {
        parts = found.0;
        among = found.1;
        named = sym ((bytes_decide one.0.name name).0 one.2) ∙ with_is (private_name prefix found.0.place) one.0.name found.0.endpoints found.2;
      }

  removed_named : is_among name (filter_map (name_left prefix) due) ≡ true → IsDueName prefix due name
  removed_named h =
      let one = in_any (λ n. bytes_eq n name) (filter_map (name_left prefix) due) h in
      let found = in_found (name_left prefix) due one.0 one.1 in
      record {
        parts = found.0;
        among = found.1;
        named = sym ((bytes_decide one.0 name).0 one.2) ∙ left_is (private_name prefix found.0.place) one.0 found.0.endpoints found.2;
      }

  -- each name in the line that follows is that of a place that is due
  pub due_named : is_named name made ≡ true → IsDueName prefix due name
  due_named h =
      or_so (list_any (λ (item : ItemParts). bytes_eq item.name name) made.items) (is_among name (filter_map (name_left prefix) due))
      (λ item. item_named item) (λ removed. removed_named removed) h

-- ---- places that are due

enum_in : {X : Type 0} (m : ℕ) (xs : List X) (p : ℕ × X) → IsIn p (enumerate_from m xs) → (i : ℕ) × (p.0 ≡ m + i) × (slice_get xs i ≡ Some p.1)
enum_in m [] p is = absurd is
enum_in m (x ∷ xs) p (inl e) = (0, sym (ap (λ q. q.0) e) ∙ omega arith, ap (λ q. Some q.1) e)
enum_in m (x ∷ xs) p (inr is) = let rest = enum_in (m + 1) xs p is in (suc rest.0, omega (arith, rest.1), rest.2)

-- what is due is among what is guarded, and is due
pub record IsDueAt (rules : Rules) (front : Front) (place : ℕ) : Type 0 where
  pub guarded : Guarded
  pub there : slice_get (guarded_at rules front) place ≡ Some guarded
  pub due : rules.is_due front guarded ≡ true

due_among : (rules : Rules) (front : Front) (due : DueParts) → IsIn due (due_at rules front) → IsDueAt rules front due.place
due_among rules front due is =
    let gs : List Guarded = guarded_at rules front in
    let parts : ℕ × Guarded → DueParts = λ p. record { place = p.0; endpoints = rules.endpoints_of (up_to front) p.1 } in
    let found = in_map parts (filter (λ (p : ℕ × Guarded). rules.is_due front p.1) (enumerate_from 0 gs)) due is in
    let kept = in_filter (λ (p : ℕ × Guarded). rules.is_due front p.1) found.0 (enumerate_from 0 gs) found.1 in
    let at = enum_in 0 gs found.0 kept.0 in
    let place : at.0 ≡ due.place = omega (arith, at.1, ap (λ (d : DueParts). d.place) found.2) in
    record {
      guarded = found.0.1;
      there = subst (λ n. slice_get gs n ≡ Some found.0.1) place at.2;
      due = kept.1;
    }

-- what is guarded at a place in the first lines is guarded there in all of them
pub guarded_stays : (guard : Guard) (lines : List Data) (n place : ℕ) (g : Guarded) → slice_get (guarded_by guard (take n lines)) place ≡ Some g
    → slice_get (guarded_by guard lines) place ≡ Some g
guarded_stays guard lines n place g there =
    let first : List Guarded = flat_map (guarded_in guard) (take n lines) in
    let rest : List Guarded = flat_map (guarded_in guard) (drop n lines) in
    let extended : IsExtended (each_once first) (each_once (first ++ rest)) rest = once_extends first rest in
    let joined : first ++ rest ≡ flat_map (guarded_in guard) lines =
    sym (flat_map-append (guarded_in guard) (take n lines) (drop n lines)) ∙ ap (flat_map (guarded_in guard)) (take-append-drop n lines) in
    subst (λ gs. slice_get (each_once gs) place ≡ Some g) joined
    (subst (λ gs. slice_get gs place ≡ Some g) (sym extended.grown) (front_get (each_once first) extended.more place g there))

-- where the name of a place is due what is guarded there is
pub named_due : (rules : Rules) (lines : List Data) (index place : ℕ) (front : Front) (g : Guarded) → length (guarded_by rules.guard lines) < ITEM_LIMIT
    → slice_get (fronts lines) index ≡ Some front → slice_get (guarded_by rules.guard lines) place ≡ Some g
    → IsDueName rules.prefix (due_at rules front) (private_name rules.prefix place) → rules.is_due front g ≡ true
named_due rules lines index place front g few at there named =
    let gs : List Guarded = guarded_by rules.guard lines in
    let due : IsDueAt rules front named.parts.place = due_among rules front named.parts named.among in
    let here : slice_get gs named.parts.place ≡ Some due.guarded =
    guarded_stays rules.guard lines (index + 1) named.parts.place due.guarded
    (subst (λ ls. slice_get (guarded_by rules.guard ls) named.parts.place ≡ Some due.guarded) (up_to_at lines index front at) due.there) in
    let same : place ≡ named.parts.place =
    places_same rules.prefix place named.parts.place
    (omega (arith, slice_get_within gs place g there, few)) (omega (arith, slice_get_within gs named.parts.place due.guarded here, few)) named.named in
    let one : due.guarded ≡ g = some_same (sym here ∙ ap (slice_get gs) (sym same) ∙ there) in
    subst (λ (x : Guarded). rules.is_due front x ≡ true) one due.due
