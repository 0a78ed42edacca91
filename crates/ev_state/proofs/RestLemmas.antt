-- What a response leaves of a world: all that isn't of generations, names or versions.
use Rattle.std.proofs.Common.{◌≡◌, ℕ, Bool, true, false, cond, List, [], ◌∷◌, refl, sym, ◌∙◌}
use Rattle.std.specs.List.{fold, zip}
use Rattle.ev_types.specs.Items.{ItemParts, ResponseParts}
use Rattle.ev_types.specs.declared.contents.Kind.{Kind}
use Rattle.ev_types.specs.declared.contents.Kind.TheVariants.{Cds, Eds, Lds, Rds, Sds, Ecds}
use Rattle.ev_types.specs.declared.contents.Body.{Body}
use Rattle.ev_types.specs.declared.contents.Body.TheVariants.{Good, Bad, Beat}
use Rattle.ev_types.specs.declared.contents.Content.{Content}
use Rattle.ev_types.specs.declared.events.Verdict.{Verdict}
use Rattle.ev_types.specs.declared.events.Verdict.TheVariants.{New, InPlace, Back, Same, Kept, Unasked, Renewed, Refused}
use Rattle.ev_model.specs.World.{World}
use Rattle.ev_model.specs.Live.{lives_of}
use Rattle.ev_model.specs.Watching.{is_watched}
use Rattle.ev_model.specs.Rows.{with_removals, add_in_place, add_row, go_back, keep_version, keep_value, with_content, refuse, add_item, add_items, with_first}
use Rattle.ev_indexes.proofs.SeenLemmas.{SameSeen}
use Rattle.ev_state.specs.InitTargets.{InitTargetsParts, HaveBooted}

-- the rest of the worlds is the same
pub record SameRest (before after : World) : Type 0 where
  pub first_clusters : after.first_clusters ≡ before.first_clusters
  pub first_listeners : after.first_listeners ≡ before.first_listeners
  pub late_clusters : after.late_clusters ≡ before.late_clusters
  pub late_listeners : after.late_listeners ≡ before.late_listeners
  pub phase : after.phase ≡ before.phase

rest_itself : (world : World) → SameRest world world
rest_itself world = record { first_clusters = refl; first_listeners = refl; late_clusters = refl; late_listeners = refl; phase = refl }

rest_then : (a b c : World) → SameRest a b → SameRest b c → SameRest a c
rest_then a b c p q = record {
  first_clusters = q.first_clusters ∙ p.first_clusters;
  first_listeners = q.first_listeners ∙ p.first_listeners;
  late_clusters = q.late_clusters ∙ p.late_clusters;
  late_listeners = q.late_listeners ∙ p.late_listeners;
  phase = q.phase ∙ p.phase;
}

content_rest : (change : Content → World → World) → ((content : Content) (world : World) → SameRest world (change content world))
    → (body : Body) (world : World) → SameRest world (with_content change body world)
content_rest change same (Good content) world = same content world
content_rest change same (Bad rule) world = rest_itself world
content_rest change same Beat world = rest_itself world

told_rest : (watched : Bool) (more world : World) → SameRest world more → SameRest world (cond watched more world)
told_rest true more world same = same
told_rest false more world same = rest_itself world

refused_rest : (kind : Kind) (name : List ℕ) (world : World) → SameRest world (refuse kind name world)
refused_rest Cds name world = rest_itself world
refused_rest Eds name world = told_rest (is_watched (lives_of world) Eds name) _ world
    (record { first_clusters = refl; first_listeners = refl; late_clusters = refl; late_listeners = refl; phase = refl })
refused_rest Lds name world = rest_itself world
refused_rest Rds name world = told_rest (is_watched (lives_of world) Rds name) _ world
    (record { first_clusters = refl; first_listeners = refl; late_clusters = refl; late_listeners = refl; phase = refl })
refused_rest Sds name world = told_rest (is_watched (lives_of world) Sds name) _ world
    (record { first_clusters = refl; first_listeners = refl; late_clusters = refl; late_listeners = refl; phase = refl })
refused_rest Ecds name world = told_rest (is_watched (lives_of world) Ecds name) _ world
    (record { first_clusters = refl; first_listeners = refl; late_clusters = refl; late_listeners = refl; phase = refl })

item_rest : (kind : Kind) (verdict : Verdict) (item : ItemParts) (world : World) → SameRest world (add_item kind verdict item world)
item_rest kind New item world = content_rest (λ content. add_row kind item content [])
    (λ content world. record { first_clusters = refl; first_listeners = refl; late_clusters = refl; late_listeners = refl; phase = refl })
    item.body world
item_rest kind InPlace item world = content_rest (add_in_place kind item)
    (λ content world. record { first_clusters = refl; first_listeners = refl; late_clusters = refl; late_listeners = refl; phase = refl })
    item.body world
item_rest kind Back item world = content_rest (λ content. go_back kind item)
    (λ content world. record { first_clusters = refl; first_listeners = refl; late_clusters = refl; late_listeners = refl; phase = refl })
    item.body world
item_rest kind Same item world = content_rest (λ content. keep_version kind item)
    (λ content world. record { first_clusters = refl; first_listeners = refl; late_clusters = refl; late_listeners = refl; phase = refl })
    item.body world
item_rest kind Kept item world = content_rest (keep_value kind item)
    (λ content world. record { first_clusters = refl; first_listeners = refl; late_clusters = refl; late_listeners = refl; phase = refl })
    item.body world
item_rest kind Unasked item world = rest_itself world
item_rest kind Renewed item world =
    record { first_clusters = refl; first_listeners = refl; late_clusters = refl; late_listeners = refl; phase = refl }
item_rest kind (Refused rule) item world = refused_rest kind item.name world

items_rest : (kind : Kind) (judged : List (Verdict × ItemParts)) (world : World)
    → SameRest world (fold (λ (w : World) (one : Verdict × ItemParts). add_item kind one.0 one.1 w) world judged)
items_rest kind [] world = rest_itself world
items_rest kind (one ∷ judged) world =
    rest_then world (add_item kind one.0 one.1 world) _ (item_rest kind one.0 one.1 world) (items_rest kind judged (add_item kind one.0 one.1 world))

removals_rest : (kind : Kind) (response : ResponseParts) (world : World) → SameRest world (with_removals kind response world)
removals_rest Cds response world = record { first_clusters = refl; first_listeners = refl; late_clusters = refl; late_listeners = refl; phase = refl }
removals_rest Eds response world = record { first_clusters = refl; first_listeners = refl; late_clusters = refl; late_listeners = refl; phase = refl }
removals_rest Lds response world = record { first_clusters = refl; first_listeners = refl; late_clusters = refl; late_listeners = refl; phase = refl }
removals_rest Rds response world = record { first_clusters = refl; first_listeners = refl; late_clusters = refl; late_listeners = refl; phase = refl }
removals_rest Sds response world = record { first_clusters = refl; first_listeners = refl; late_clusters = refl; late_listeners = refl; phase = refl }
removals_rest Ecds response world = record { first_clusters = refl; first_listeners = refl; late_clusters = refl; late_listeners = refl; phase = refl }

pub response_rest : (kind : Kind) (response : ResponseParts) (verdicts : List Verdict) (world : World)
    → SameRest world (add_items kind verdicts response.items (with_removals kind response world))
response_rest kind response verdicts world =
    rest_then world (with_removals kind response world) _ (removals_rest kind response world) (items_rest kind (zip verdicts response.items) (with_removals kind response world))

-- the targets look at the rest alone
pub rest_boots : (targets : InitTargetsParts) (before after : World) → SameRest before after → HaveBooted targets before → HaveBooted targets after
rest_boots targets before after same booted = record {
  phase = booted.phase ∙ sym same.phase;
  first_clusters = booted.first_clusters ∙ sym same.first_clusters;
  first_listeners = booted.first_listeners ∙ sym same.first_listeners;
  late_clusters = booted.late_clusters ∙ sym same.late_clusters;
  late_listeners = booted.late_listeners ∙ sym same.late_listeners;
}

-- what the first names leave
pub record FirstLeaves (world after : World) : Type 0 where
  pub seen : SameSeen world after
  pub versions : after.versions ≡ world.versions
  pub node : after.node ≡ world.node
  pub stream : after.stream ≡ world.stream
  pub phase : after.phase ≡ world.phase

pub first_leaves : (kind : Kind) (names : List (List ℕ)) (world : World) → FirstLeaves world (with_first kind names world)
first_leaves Cds names world = record { seen = record { rows = refl; made = refl; arrivals = refl; results = refl }; versions = refl; node = refl; stream = refl; phase = refl }
first_leaves Eds names world = record { seen = record { rows = refl; made = refl; arrivals = refl; results = refl }; versions = refl; node = refl; stream = refl; phase = refl }
first_leaves Lds names world = record { seen = record { rows = refl; made = refl; arrivals = refl; results = refl }; versions = refl; node = refl; stream = refl; phase = refl }
first_leaves Rds names world = record { seen = record { rows = refl; made = refl; arrivals = refl; results = refl }; versions = refl; node = refl; stream = refl; phase = refl }
first_leaves Sds names world = record { seen = record { rows = refl; made = refl; arrivals = refl; results = refl }; versions = refl; node = refl; stream = refl; phase = refl }
first_leaves Ecds names world = record { seen = record { rows = refl; made = refl; arrivals = refl; results = refl }; versions = refl; node = refl; stream = refl; phase = refl }
