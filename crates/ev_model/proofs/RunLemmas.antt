-- Runs that go on by one entry.
use Rattle.std.proofs.Common.{◌≡◌, ℕ, List, [], ◌∷◌, ◌++◌, length, refl, ap, ◌∙◌, Option, Some, None, Bool, true, false, if◌then◌else◌, ◌||◌}
use Rattle.std.specs.List.{AllByRecursion}
use Rattle.std.specs.Option.{is_some}
use Rattle.std.proofs.lemmas.List.{length-set}
use Rattle.std.proofs.lemmas.Bool.{both_ways}
use Rattle.ev_types.specs.Items.{ItemParts, ResponseParts}
use Rattle.ev_types.specs.Events.{MayMake}
use Rattle.ev_types.specs.declared.contents.Kind.{Kind}
use Rattle.ev_types.specs.declared.contents.Kind.TheVariants.{Cds, Eds, Lds, Rds, Sds, Ecds}
use Rattle.ev_types.specs.declared.contents.Content.{Content}
use Rattle.ev_types.specs.declared.contents.Body.{Body}
use Rattle.ev_types.specs.declared.contents.Body.TheVariants.{Good, Bad, Beat}
use Rattle.ev_types.specs.declared.hosts.Host.{Host}
use Rattle.ev_types.specs.declared.rows.GenRow.{GenRow}
use Rattle.ev_types.specs.declared.events.Verdict.{Verdict}
use Rattle.ev_types.specs.declared.events.Verdict.TheVariants.{New, InPlace, Back, Same, Kept, Unasked, Renewed, Refused}
use Rattle.ev_types.specs.declared.events.Actor.{Actor}
use Rattle.ev_types.specs.declared.events.Actor.TheVariants.{Stream, Health as health_checker, Timer, Main, Worker}
use Rattle.ev_types.specs.declared.events.Event.{Event}
use Rattle.ev_types.specs.declared.events.Event.TheVariants.{Connect, Disconnect, Response, Health, FetchTimeout, DrainTimeout, TtlExpired, Publish, Reap, Accept, Close, Settle}
use Rattle.ev_types.specs.declared.events.Answer.{Answer}
use Rattle.ev_types.specs.declared.events.Entry.{Entry}
use Rattle.ev_types.specs.declared.journals.Format.{Format}
use Rattle.ev_model.specs.World.{World, last_version}
use Rattle.ev_model.specs.Live.{lives_of}
use Rattle.ev_model.specs.Watching.{is_watched}
use Rattle.ev_model.specs.Phase.{is_clusters}
use Rattle.ev_model.specs.Verdicts.{verdicts_of}
use Rattle.ev_model.specs.Rows.{with_removals, with_content, add_row, add_in_place, go_back, keep_value, keep_version, told_of_refusal, refuse, add_item, add_items, made_names, with_first}
use Rattle.ev_model.specs.Versions.{is_bounded}
use Rattle.ev_model.specs.Picture.{shown_of, shown_same}
use Rattle.ev_model.specs.Dead.{shown_at}
use Rattle.ev_model.specs.Signals.{health_of, rows_meant, name_timeout_of, is_awaited, fetch_timeout, expire, unexpired, with_end}
use Rattle.ev_model.specs.Step.{step, respond_by, answered}
use Rattle.ev_model.specs.Runs.{world_after, RunsFrom, is_batched, IsUnbroken}

-- the world after one entry more
pub world_after-more : (format : Format) (world : World) (entries : List Entry) (entry : Entry)
    → world_after format world (entries ++ entry ∷ []) ≡ (step format (world_after format world entries) entry.actor entry.event).0
world_after-more format world [] entry = refl
world_after-more format world (first ∷ entries) entry = world_after-more format (step format world first.actor first.event).0 entries entry

-- a run goes on with an entry that is answered as the machine answers it
pub RunsFrom-more : (format : Format) (workers : ℕ) (world : World) (entries : List Entry) (entry : Entry)
    → RunsFrom format workers world entries
    → MayMake workers entry.actor entry.event
    → entry.answer ≡ (step format (world_after format world entries) entry.actor entry.event).1
    → RunsFrom format workers world (entries ++ entry ∷ [])
RunsFrom-more format workers world [] entry run may answered = (may, answered, tt)
RunsFrom-more format workers world (first ∷ entries) entry run may answered =
    (run.0, run.1, RunsFrom-more format workers (step format world first.actor first.event).0 entries entry run.2 may answered)

-- a journal with no accept or close stays unbroken with one entry more that is none
pub IsUnbroken-more : (entries : List Entry) (entry : Entry)
    → AllByRecursion (λ (e : Entry). is_batched e.event ≡ false) entries
    → is_batched entry.event ≡ false
    → IsUnbroken (entries ++ entry ∷ [])
IsUnbroken-more [] entry none isnt = (λ h. absurd (both_ways (is_batched entry.event) isnt h), tt)
IsUnbroken-more (first ∷ entries) entry none isnt =
    (λ h. absurd (both_ways (is_batched first.event) none.0 h), IsUnbroken-more entries entry none.1 isnt)

-- both branches of a choice keep the versions that workers hold
if-held : (b : Bool) (one other : World × Answer) (world : World) → one.0.held ≡ world.held → other.0.held ≡ world.held
    → (if b then one else other).0.held ≡ world.held
if-held true one other world o t = o
if-held false one other world o t = t

removals-held : (kind : Kind) (response : ResponseParts) (world : World) → (with_removals kind response world).held ≡ world.held
removals-held Cds response world = refl
removals-held Eds response world = refl
removals-held Lds response world = refl
removals-held Rds response world = refl
removals-held Sds response world = refl
removals-held Ecds response world = refl

told-held : (kind : Kind) (name : List ℕ) (world : World) (b : Bool) → is_watched (lives_of world) kind name ≡ b
    → (told_of_refusal kind name world).held ≡ world.held
told-held kind name world true h = simp h refl
told-held kind name world false h = simp h refl

refuse-held : (kind : Kind) (name : List ℕ) (world : World) → (refuse kind name world).held ≡ world.held
refuse-held Cds name world = refl
refuse-held Eds name world = told-held Eds name world (is_watched (lives_of world) Eds name) refl
refuse-held Lds name world = refl
refuse-held Rds name world = told-held Rds name world (is_watched (lives_of world) Rds name) refl
refuse-held Sds name world = told-held Sds name world (is_watched (lives_of world) Sds name) refl
refuse-held Ecds name world = told-held Ecds name world (is_watched (lives_of world) Ecds name) refl

content-held : (change : Content → World → World) (body : Body) (world : World)
    → ((content : Content) → (change content world).held ≡ world.held)
    → (with_content change body world).held ≡ world.held
content-held change (Good content) world keeps = keeps content
content-held change (Bad rule) world keeps = refl
content-held change Beat world keeps = refl

item-held : (kind : Kind) (verdict : Verdict) (item : ItemParts) (world : World) → (add_item kind verdict item world).held ≡ world.held
item-held kind New item world = content-held (λ content. add_row kind item content []) item.body world (λ content. refl)
item-held kind InPlace item world = content-held (add_in_place kind item) item.body world (λ content. refl)
item-held kind Back item world = content-held (λ content. go_back kind item) item.body world (λ content. refl)
item-held kind Same item world = content-held (λ content. keep_version kind item) item.body world (λ content. refl)
item-held kind Kept item world = content-held (keep_value kind item) item.body world (λ content. refl)
item-held kind Unasked item world = refl
item-held kind Renewed item world = refl
item-held kind (Refused rule) item world = refuse-held kind item.name world

items-held : (kind : Kind) (verdicts : List Verdict) (items : List ItemParts) (world : World) → (add_items kind verdicts items world).held ≡ world.held
items-held kind [] items world = refl
items-held kind (verdict ∷ verdicts) [] world = refl
items-held kind (verdict ∷ verdicts) (item ∷ items) world =
    items-held kind verdicts items (add_item kind verdict item world) ∙ item-held kind verdict item world

first-held : (kind : Kind) (names : List (List ℕ)) (world : World) → (with_first kind names world).held ≡ world.held
first-held Cds names world = refl
first-held Eds names world = refl
first-held Lds names world = refl
first-held Rds names world = refl
first-held Sds names world = refl
first-held Ecds names world = refl

answered-held : (kind : Kind) (response : ResponseParts) (verdicts : List Verdict) (world : World)
    → (answered kind response verdicts world).0.held ≡ world.held
answered-held kind response verdicts world =
    first-held kind (made_names verdicts response.items) (add_items kind verdicts response.items (with_removals kind response world))
    ∙ items-held kind verdicts response.items (with_removals kind response world)
    ∙ removals-held kind response world

by-held : (kind : Option Kind) (response : ResponseParts) (world : World) → (respond_by kind response world).0.held ≡ world.held
by-held None response world = refl
by-held (Some kind) response world = answered-held kind response (verdicts_of (lives_of world) world.versions response) world

health-held : (host : Host) (healthy : Bool) (rows : List GenRow) (world : World) → (health_of host healthy rows world).0.held ≡ world.held
health-held host healthy [] world = refl
health-held host healthy (row ∷ rows) world = refl

name-held : (kind : Kind) (name : Option (List ℕ)) (world : World) → (name_timeout_of kind name world).0.held ≡ world.held
name-held kind None world = refl
name-held kind (Some name) world = if-held (is_awaited world.arrivals world.rows kind name) _ _ world refl refl

timeout-held : (kind : Kind) (name : Option (List ℕ)) (world : World) → (fetch_timeout kind name world).0.held ≡ world.held
timeout-held Cds name world = if-held (is_some world.first_clusters || world.late_clusters) _ _ world refl refl
timeout-held Eds name world = name-held Eds name world
timeout-held Lds name world =
    if-held (is_clusters world.phase || (is_some world.first_listeners || world.late_listeners)) _ _ world refl refl
timeout-held Rds name world = name-held Rds name world
timeout-held Sds name world = name-held Sds name world
timeout-held Ecds name world = name-held Ecds name world

expire-held : (numbers : List ℕ) (world : World) → (expire numbers world).0.held ≡ world.held
expire-held [] world = refl
expire-held (number ∷ numbers) world = refl

end-held : (kind : Kind) (name : List ℕ) (world : World) → (with_end kind name world).held ≡ world.held
end-held Cds name world = refl
end-held Eds name world = refl
end-held Lds name world = refl
end-held Rds name world = refl
end-held Sds name world = refl
end-held Ecds name world = refl

-- no event changes how many workers there are
pub length-held : (format : Format) (world : World) (actor : Actor) (event : Event) → length (step format world actor event).0.held ≡ length world.held
length-held format world actor Connect = ap length (if-held world.stream _ _ world refl refl)
length-held format world actor Disconnect = ap length (if-held world.stream _ _ world refl refl)
length-held format world actor (Response response) = ap length (if-held world.stream _ _ world (by-held response.kind response world) refl)
length-held format world actor (Health cluster host healthy) = ap length (health-held host healthy (rows_meant world.arrivals cluster host world.rows) world)
length-held format world actor (FetchTimeout timeout) = ap length (timeout-held timeout.kind timeout.name world)
length-held format world actor (DrainTimeout listener) = ap length (expire-held (unexpired world.expired listener world.rows) world)
length-held format world actor (TtlExpired kind name) =
    ap length (if-held (is_bounded world.versions kind name) _ _ world (end-held kind name _) refl)
length-held format world actor Publish = ap length (if-held (shown_same (shown_of world) (shown_at world (last_version world))) _ _ world refl refl)
length-held format world actor Reap = refl
length-held format world (Worker worker) (Accept ask) = refl
length-held format world (Worker worker) (Close connection) = refl
length-held format world (Worker worker) Settle = length-set world.held worker _
length-held format world Stream event = refl
length-held format world health_checker event = refl
length-held format world Timer event = refl
length-held format world Main event = refl
