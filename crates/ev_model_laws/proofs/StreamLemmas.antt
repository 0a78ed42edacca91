-- A connect opens the stream and a disconnect closes it; no other event does.
use Rattle.std.proofs.Common.{◌≡◌, ℕ, Bool, true, false, cond, List, [], ◌∷◌, fold, filter_map, Option, Some, None, refl, sym, ap, ◌∙◌}
use Rattle.std.specs.Prelude.{unwrap_or}
use Rattle.std.specs.List.{last_or, zip}
use Rattle.ev_types.specs.Items.{ItemParts, ResponseParts}
use Rattle.ev_types.specs.declared.contents.Kind.{Kind}
use Rattle.ev_types.specs.declared.contents.Kind.TheVariants.{Cds, Eds, Lds, Rds, Sds, Ecds}
use Rattle.ev_types.specs.declared.events.Actor.{Actor}
use Rattle.ev_types.specs.declared.events.Entry.{Entry}
use Rattle.ev_types.specs.declared.events.Event.{Event}
use Rattle.ev_types.specs.declared.events.Event.TheVariants.{Connect, Disconnect, Response, Health, FetchTimeout, DrainTimeout, TtlExpired, Publish, Reap, Accept, Close, Settle}
use Rattle.ev_types.specs.declared.events.Verdict.{Verdict}
use Rattle.ev_types.specs.declared.events.Verdict.TheVariants.{New, InPlace, Back, Same, Kept, Unasked, Renewed, Refused}
use Rattle.ev_types.specs.declared.journals.Format.{Format}
use Rattle.ev_types.specs.declared.rows.GenRow.{GenRow}
use Rattle.ev_types.specs.declared.hosts.Host.{Host}
use Rattle.ev_model.specs.World.{World}
use Rattle.ev_model.specs.Rows.{with_removals, add_row, keep_version, keep_value, refuse, add_item, add_items, with_first, add_in_place, go_back}
use Rattle.ev_model.specs.Runs.{world_after}
use Rattle.ev_model.specs.Signals.{health_of, name_timeout_of, fetch_timeout, with_end, expire, unexpired, rows_meant, forget_version}
use Rattle.ev_model.specs.Step.{step, responded, respond_by}
use Rattle.ev_model_laws.proofs.KeepLemmas.{either, of_worker-keeps, with_content-holds}
use Rattle.ev_model_laws.specs.MainSide.{stream_told}

-- what an event leaves of the stream, where it says nothing of it
abbrev HasSame : World → World → Type 0
HasSame world after = after.stream ≡ world.stream

removed_same : (kind : Kind) (response : ResponseParts) (world : World) → HasSame world (with_removals kind response world)
removed_same Cds response world = refl
removed_same Eds response world = refl
removed_same Lds response world = refl
removed_same Rds response world = refl
removed_same Sds response world = refl
removed_same Ecds response world = refl

one_of : (world : World) (test : Bool) (this that : World) → HasSame world this → HasSame world that → HasSame world (cond test this that)
one_of world true this that first second = first
one_of world false this that first second = second

refused_same : (kind : Kind) (name : List ℕ) (world : World) → HasSame world (refuse kind name world)
refused_same Cds name world = refl
refused_same Eds name world = one_of world _ _ _ refl refl
refused_same Lds name world = refl
refused_same Rds name world = one_of world _ _ _ refl refl
refused_same Sds name world = one_of world _ _ _ refl refl
refused_same Ecds name world = one_of world _ _ _ refl refl

item_same : (kind : Kind) (verdict : Verdict) (item : ItemParts) (world : World) → HasSame world (add_item kind verdict item world)
item_same kind New item world = with_content-holds (HasSame world) (λ content. add_row kind item content []) item.body world (λ content. refl) refl
item_same kind InPlace item world = with_content-holds (HasSame world) (add_in_place kind item) item.body world (λ content. refl) refl
item_same kind Back item world = with_content-holds (HasSame world) (λ content. go_back kind item) item.body world (λ content. refl) refl
item_same kind Same item world = with_content-holds (HasSame world) (λ content. keep_version kind item) item.body world (λ content. refl) refl
item_same kind Kept item world = with_content-holds (HasSame world) (keep_value kind item) item.body world (λ content. refl) refl
item_same kind Unasked item world = refl
item_same kind Renewed item world = refl
item_same kind (Refused rule) item world = refused_same kind item.name world

judged_same : (kind : Kind) (judged : List (Verdict × ItemParts)) (world : World)
    → HasSame world (fold (λ (w : World) (one : Verdict × ItemParts). add_item kind one.0 one.1 w) world judged)
judged_same kind [] world = refl
judged_same kind (one ∷ judged) world =
    judged_same kind judged (add_item kind one.0 one.1 world) ∙ item_same kind one.0 one.1 world

first_same : (kind : Kind) (names : List (List ℕ)) (world : World) → HasSame world (with_first kind names world)
first_same Cds names world = refl
first_same Eds names world = refl
first_same Lds names world = refl
first_same Rds names world = refl
first_same Sds names world = refl
first_same Ecds names world = refl

responded_same : (kind : Kind) (response : ResponseParts) (verdicts : List Verdict) (world : World) → HasSame world (responded kind response verdicts world)
responded_same kind response verdicts world =
    let left : World = with_removals kind response world in
    first_same kind _ (add_items kind verdicts response.items left)
    ∙ judged_same kind (zip verdicts response.items) left
    ∙ removed_same kind response world

respond_same : (kind : Option Kind) (response : ResponseParts) (world : World) → HasSame world (respond_by kind response world).0
respond_same None response world = refl
respond_same (Some kind) response world = responded_same kind response _ world

health_same : (host : Host) (healthy : Bool) (rows : List GenRow) (world : World) → HasSame world (health_of host healthy rows world).0
health_same host healthy [] world = refl
health_same host healthy (row ∷ rows) world = refl

name_same : (kind : Kind) (name : Option (List ℕ)) (world : World) → HasSame world (name_timeout_of kind name world).0
name_same kind None world = refl
name_same kind (Some name) world = either (HasSame world) _ _ _ refl refl

fetch_same : (kind : Kind) (name : Option (List ℕ)) (world : World) → HasSame world (fetch_timeout kind name world).0
fetch_same Cds name world = either (HasSame world) _ _ _ refl refl
fetch_same Eds name world = name_same Eds name world
fetch_same Lds name world = either (HasSame world) _ _ _ refl refl
fetch_same Rds name world = name_same Rds name world
fetch_same Sds name world = name_same Sds name world
fetch_same Ecds name world = name_same Ecds name world

expire_same : (numbers : List ℕ) (world : World) → HasSame world (expire numbers world).0
expire_same [] world = refl
expire_same (number ∷ numbers) world = refl

end_same : (kind : Kind) (name : List ℕ) (world : World) → HasSame world (with_end kind name (forget_version kind name world))
end_same Cds name world = refl
end_same Eds name world = refl
end_same Lds name world = refl
end_same Rds name world = refl
end_same Sds name world = refl
end_same Ecds name world = refl

-- a word, where there is one, before others
abbrev cons_some : Option Bool → List Bool → List Bool
cons_some None rest = rest
cons_some (Some opens) rest = opens ∷ rest

-- whether a stream is open after an event
step_stream : (format : Format) (world : World) (actor : Actor) (event : Event)
    → (step format world actor event).0.stream ≡ unwrap_or (stream_told event) world.stream
step_stream format world actor Connect =
    by_connect world.stream refl
  where
    by_connect : (stream : Bool) → world.stream ≡ stream → (step format world actor Connect).0.stream ≡ true
    by_connect true is = simp is refl
    by_connect false is = simp is refl
step_stream format world actor Disconnect =
    by_disconnect world.stream refl
  where
    by_disconnect : (stream : Bool) → world.stream ≡ stream → (step format world actor Disconnect).0.stream ≡ false
    by_disconnect true is = simp is refl
    by_disconnect false is = simp is refl
step_stream format world actor (Response response) = either (HasSame world) _ _ _ (respond_same response.kind response world) refl
step_stream format world actor (Health cluster host healthy) = health_same host healthy (rows_meant world.arrivals cluster host world.rows) world
step_stream format world actor (FetchTimeout timeout) = fetch_same timeout.kind timeout.name world
step_stream format world actor (DrainTimeout name) = expire_same (unexpired world.expired name world.rows) world
step_stream format world actor (TtlExpired kind name) = either (HasSame world) _ _ _ (end_same kind name world) refl
step_stream format world actor Publish = either (HasSame world) _ _ _ refl refl
step_stream format world actor Reap = refl
step_stream format world actor (Accept ask) = of_worker-keeps (λ did. HasSame world did.0) _ actor world (λ worker by. refl) refl
step_stream format world actor (Close connection) = of_worker-keeps (λ did. HasSame world did.0) _ actor world (λ worker by. refl) refl
step_stream format world actor Settle = of_worker-keeps (λ did. HasSame world did.0) _ actor world (λ worker by. refl) refl

some_last : (x : Bool) (rest : List Bool) (a b : Bool) → unwrap_or (last_or (Some x) rest) a ≡ unwrap_or (last_or (Some x) rest) b
some_last x [] a b = refl
some_last x (y ∷ rest) a b = some_last y rest a b

-- the last word of a list, where what was before it said this or nothing
last_told : (told : Option Bool) (was : Bool) (rest : List Bool)
    → unwrap_or (last_or None rest) (unwrap_or told was) ≡ unwrap_or (last_or None (cons_some told rest)) was
last_told None was rest = refl
last_told (Some opens) was [] = refl
last_told (Some opens) was (x ∷ rest) = some_last x rest opens was

more_told : (entry : Entry) (entries : List Entry)
    → filter_map (λ (e : Entry). stream_told e.event) (entry ∷ entries)
    ≡ cons_some (stream_told entry.event) (filter_map (λ (e : Entry). stream_told e.event) entries)
more_told entry entries = by (stream_told entry.event) refl
  where
    by : (told : Option Bool) → stream_told entry.event ≡ told
        → filter_map (λ (e : Entry). stream_told e.event) (entry ∷ entries) ≡ cons_some (stream_told entry.event) (filter_map (λ (e : Entry). stream_told e.event) entries)
    by None is = simp is refl
    by (Some opens) is = simp is refl

pub stream_after : (format : Format) (world : World) (entries : List Entry)
    → (world_after format world entries).stream
    ≡ unwrap_or (last_or None (filter_map (λ (entry : Entry). stream_told entry.event) entries)) world.stream
stream_after format world [] = refl
stream_after format world (entry ∷ entries) =
    let next : World = (step format world entry.actor entry.event).0 in
    let rest : List Bool = filter_map (λ (e : Entry). stream_told e.event) entries in
    stream_after format next entries
    ∙ ap (λ b. unwrap_or (last_or None rest) b) (step_stream format world entry.actor entry.event)
    ∙ last_told (stream_told entry.event) world.stream rest
    ∙ ap (λ told. unwrap_or (last_or None told) world.stream) (sym (more_told entry entries))
