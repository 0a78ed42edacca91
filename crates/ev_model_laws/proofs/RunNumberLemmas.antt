-- At most one number is allocated for each resource.
use Rattle.std.proofs.Common.{◌≡◌, ℕ, ◌+◌, ◌≤◌, Bool, true, false, cond, List, [], ◌∷◌, ◌++◌, length, refl, sym, subst, arith}
use Rattle.std.proofs.lemmas.List.Sums.{sum_by-cons}
use Rattle.ev_types.specs.Items.{ItemParts, ResponseParts}
use Rattle.ev_types.specs.Scripts.{items_in}
use Rattle.ev_types.specs.declared.contents.Kind.{Kind}
use Rattle.ev_types.specs.declared.contents.Kind.TheVariants.{Cds, Eds, Lds, Rds, Sds, Ecds}
use Rattle.ev_types.specs.declared.contents.Content.{Content}
use Rattle.ev_types.specs.declared.contents.Body.{Body}
use Rattle.ev_types.specs.declared.contents.Body.TheVariants.{Good, Bad, Beat}
use Rattle.ev_types.specs.declared.events.Actor.{Actor}
use Rattle.ev_types.specs.declared.events.Entry.{Entry}
use Rattle.ev_types.specs.declared.events.Event.{Event}
use Rattle.ev_types.specs.declared.events.Verdict.{Verdict}
use Rattle.ev_types.specs.declared.events.Verdict.TheVariants.{New, InPlace, Back, Same, Kept, Unasked, Renewed, Refused}
use Rattle.ev_types.specs.declared.journals.Format.{Format}
use Rattle.ev_model.specs.World.{World, opening}
use Rattle.ev_model.specs.Live.{lives_of}
use Rattle.ev_model.specs.Verdicts.{verdicts_for}
use Rattle.ev_model.specs.Watching.{is_watched}
use Rattle.ev_model.specs.Rows.{with_content, add_row, keep_version, keep_value, refuse, add_item, add_items, with_removals, with_first, made_names, add_in_place, go_back}
use Rattle.ev_model.specs.Signals.{with_end, forget_version}
use Rattle.ev_model.specs.Runs.{world_after}
use Rattle.ev_model.specs.Step.{step}
use Rattle.ev_model.proofs.RunLemmas.{world_after-more}
use Rattle.ev_model_laws.proofs.EventLemmas.{step-leads}
use Rattle.ev_model_laws.proofs.NumberLemmas.{draws_in_order}
use Rattle.ev_model_laws.specs.Drawing.{items_entered}

content_made : (change : Content → World → World) (body : Body) (world : World)
    → ((content : Content) → (change content world).made ≤ world.made + 1)
    → (with_content change body world).made ≤ world.made + 1
content_made change (Good content) world few = few content
content_made change (Bad rule) world few = omega arith
content_made change Beat world few = omega arith

told_made : (watched : Bool) (more world : World) → more.made ≡ world.made → (cond watched more world).made ≤ world.made + 1
told_made true more world same = omega arith
told_made false more world same = omega arith

refused_made : (kind : Kind) (name : List ℕ) (world : World) → (refuse kind name world).made ≤ world.made + 1
refused_made Cds name world = omega arith
refused_made Eds name world = told_made (is_watched (lives_of world) Eds name) _ world refl
refused_made Lds name world = omega arith
refused_made Rds name world = told_made (is_watched (lives_of world) Rds name) _ world refl
refused_made Sds name world = told_made (is_watched (lives_of world) Sds name) _ world refl
refused_made Ecds name world = told_made (is_watched (lives_of world) Ecds name) _ world refl

item_made : (kind : Kind) (verdict : Verdict) (item : ItemParts) (world : World) → (add_item kind verdict item world).made ≤ world.made + 1
item_made kind New item world = content_made (λ content. add_row kind item content []) item.body world (λ content. omega arith)
item_made kind InPlace item world = content_made (add_in_place kind item) item.body world (λ content. omega arith)
item_made kind Back item world = content_made (λ content. go_back kind item) item.body world (λ content. omega arith)
item_made kind Same item world = content_made (λ content. keep_version kind item) item.body world (λ content. omega arith)
item_made kind Kept item world = content_made (keep_value kind item) item.body world (λ content. omega arith)
item_made kind Unasked item world = omega arith
item_made kind Renewed item world = omega arith
item_made kind (Refused rule) item world = refused_made kind item.name world

items_made : (kind : Kind) (verdicts : List Verdict) (items : List ItemParts) (world : World) → (add_items kind verdicts items world).made ≤ world.made + length items
items_made kind [] items world = omega arith
items_made kind (verdict ∷ verdicts) [] world = omega arith
items_made kind (verdict ∷ verdicts) (item ∷ items) world =
    let one : (add_item kind verdict item world).made ≤ world.made + 1 = item_made kind verdict item world in
    let more : (add_items kind verdicts items (add_item kind verdict item world)).made ≤ (add_item kind verdict item world).made + length items =
    items_made kind verdicts items (add_item kind verdict item world) in
    omega arith

removals_made : (kind : Kind) (response : ResponseParts) (world : World) → (with_removals kind response world).made ≡ world.made
removals_made Cds response world = refl
removals_made Eds response world = refl
removals_made Lds response world = refl
removals_made Rds response world = refl
removals_made Sds response world = refl
removals_made Ecds response world = refl

first_made : (kind : Kind) (names : List (List ℕ)) (world : World) → (with_first kind names world).made ≡ world.made
first_made Cds names world = refl
first_made Eds names world = refl
first_made Lds names world = refl
first_made Rds names world = refl
first_made Sds names world = refl
first_made Ecds names world = refl

end_made : (kind : Kind) (name : List ℕ) (world : World) → (with_end kind name world).made ≡ world.made
end_made Cds name world = refl
end_made Eds name world = refl
end_made Lds name world = refl
end_made Rds name world = refl
end_made Sds name world = refl
end_made Ecds name world = refl

few : (m n : ℕ) → m ≤ m + n
few m n = omega arith

-- an event draws at most one number for each of its resources
pub step_made : (format : Format) (world : World) (actor : Actor) (event : Event) → (step format world actor event).0.made ≤ world.made + items_in event
step_made format world actor event =
    step-leads (λ did. did.0.made ≤ world.made + items_in event) format world actor event (record {
      ignored = few world.made (items_in event);
      connected = λ is. few world.made (items_in event);
      disconnected = λ is. few world.made (items_in event);
      replied = λ kind response is typed.
          let verdicts : List Verdict = verdicts_for kind (lives_of world) world.versions response in
          let left : World = with_removals kind response world in
          let all : (add_items kind verdicts response.items left).made ≤ left.made + length response.items = items_made kind verdicts response.items left in
          let same : left.made ≡ world.made = removals_made kind response world in
          let first : (with_first kind (made_names verdicts response.items) (add_items kind verdicts response.items left)).made ≡ (add_items kind verdicts response.items left).made =
          first_made kind (made_names verdicts response.items) (add_items kind verdicts response.items left) in
          subst (λ (e : Event). (with_first kind (made_names verdicts response.items) (add_items kind verdicts response.items left)).made ≤ world.made + items_in e) (sym is) (omega arith);
      resulted = λ cluster host healthy rows is. few world.made (items_in event);
      timed = λ timeout name is named. few world.made (items_in event);
      clusters_late = λ timeout is. few world.made (items_in event);
      listeners_late = λ timeout is. few world.made (items_in event);
      expired = λ name numbers is. few world.made (items_in event);
      ended = λ kind name is bounded.
          subst (λ n. n ≤ world.made + items_in event) (sym (end_made kind name (forget_version kind name world))) (few world.made (items_in event));
      unchanged = λ is. few world.made (items_in event);
      published = λ is. few world.made (items_in event);
      reaped = λ is. few world.made (items_in event);
      accepted = λ ask worker is by. few world.made (items_in event);
      closed = λ connection worker is by. few world.made (items_in event);
      settled = λ worker is by. few world.made (items_in event);
    })

-- so one without resources allocates none
pub rest_made : (format : Format) (world : World) (actor : Actor) (event : Event) → items_in event ≡ 0 → (step format world actor event).0.made ≡ world.made
rest_made format world actor event none =
    let most : (step format world actor event).0.made ≤ world.made + items_in event = step_made format world actor event in
    let least : world.made ≤ (step format world actor event).0.made = draws_in_order.counts format world actor event in
    omega arith

-- entries draw at most one number for each of theirs
pub after_made : (format : Format) (world : World) (entries : List Entry) → (world_after format world entries).made ≤ world.made + items_entered entries
after_made format world [] = few world.made 0
after_made format world (entry ∷ entries) =
    let next : World = (step format world entry.actor entry.event).0 in
    let one : next.made ≤ world.made + items_in entry.event = step_made format world entry.actor entry.event in
    let more : (world_after format next entries).made ≤ next.made + items_entered entries = after_made format next entries in
    let all : items_entered (entry ∷ entries) ≡ items_in entry.event + items_entered entries = sum_by-cons (λ (e : Entry). items_in e.event) entry entries in
    omega arith

-- so in a journal at most as many were allocated as its events have resources
pub journal_made : (format : Format) (workers : ℕ) (node : List ℕ) (entries : List Entry) → (world_after format (opening workers node) entries).made ≤ items_entered entries
journal_made format workers node entries =
    let most : (world_after format (opening workers node) entries).made ≤ 0 + items_entered entries = after_made format (opening workers node) entries in
    omega arith

-- one entry more
pub entry_draws : (format : Format) (world : World) (entries : List Entry) (entry : Entry)
    → (world_after format world (entries ++ entry ∷ [])).made ≤ (world_after format world entries).made + items_in entry.event
entry_draws format world entries entry =
    subst (λ (w : World). w.made ≤ (world_after format world entries).made + items_in entry.event) (sym (world_after-more format world entries entry))
    (step_made format (world_after format world entries) entry.actor entry.event)
