use Rattle.std.proofs.Common.{◌≡◌, ◌++◌, ◌∷◌, [], List, map, filter_map, Some, None, refl, sym, ap, ◌∙◌, append_assoc}
use Rattle.std.proofs.lemmas.List.{map-append}
use Rattle.serde_json.specs.Data.{Data}
use Rattle.serde_json.specs.View.{view}
use Rattle.serde_json.specs.declared.value.Value.{Value}
use Rattle.ev_expand.specs.Following.{entry_due, name_due, due_shown}
use Rattle.ev_expand.proofs.FollowLemmas.{entry_more, name_same, name_more, entry_same}
use Rattle.ev_expand.proofs.following.sort_out.Goals as goal

grown : (old done more : List Data) (new : List Value) (items : List Value) (entry : Value) → new ≡ items ++ entry ∷ [] → map view items ≡ old ++ done → more ≡ done ++ view entry ∷ [] → map view new ≡ old ++ more
grown old done more new items entry pushed so_far is =
    ap (map view) pushed ∙ map-append view items (entry ∷ []) ∙ ap (λ (xs : List Data). xs ++ view entry ∷ []) so_far
    ∙ append_assoc old done (view entry ∷ []) ∙ ap (λ (xs : List Data). old ++ xs) (sym is)

pub loop-place-preserved-in_ok-push-in-Some-endpoints : goal.loop-place-preserved-in_ok-push-in-Some-endpoints
loop-place-preserved-in_ok-push-in-Some-endpoints c =
    let given : c.in-Some.field-0.endpoints ≡ Some c.in-Some-endpoints.endpoints = c.in-Some-endpoints.is in (
      grown _ (filter_map (entry_due c.args.prefix.now c.args.version.now) (map due_shown c.loop-place.yielded)) _ _ _ _ c.in_ok-push-in-Some-endpoints.ensures.items c.loop-place.invariant.0
          (entry_more c.args.prefix.now c.args.version.now c.loop-place.yielded c.in-Some.field-0 c.in-Some.field-0.place c.in-Some-endpoints.endpoints _ _ refl given c.in_ok-name.ensures c.in_ok-endpoints_entry-in-Some-endpoints.ensures),
      c.loop-place.invariant.1 ∙ ap (λ (xs : List Data). map view c.args.removed.now.items ++ xs) (sym (name_same c.args.prefix.now c.loop-place.yielded c.in-Some.field-0 c.in-Some-endpoints.endpoints given)),
    )

pub loop-place-preserved : goal.loop-place-preserved
loop-place-preserved c =
    let given : c.in-Some.field-0.endpoints ≡ None = c.in-None-endpoints.is in (
      c.loop-place.invariant.0 ∙ ap (λ (xs : List Data). map view c.args.resources.now.items ++ xs) (sym (entry_same c.args.prefix.now c.args.version.now c.loop-place.yielded c.in-Some.field-0 given)),
      grown _ (filter_map (name_due c.args.prefix.now) (map due_shown c.loop-place.yielded)) _ _ _ _ c.in_ok-push-in-None-endpoints.ensures.items c.loop-place.invariant.1
          (name_more c.args.prefix.now c.loop-place.yielded c.in-Some.field-0 c.in-Some.field-0.place _ _ refl given c.in_ok-name.ensures c.name_value.ensures),
    )
