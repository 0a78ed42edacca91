-- Worlds after equal entries differ in what workers hold and in the node alone, whatever their workers and nodes.
use Rattle.std.proofs.Common.{◌≡◌, ◌<◌, ℕ, zero, suc, Bool, true, false, not, ◌&&◌, ◌||◌, ◌==◌, if◌then◌else◌, List, [], ◌∷◌, ◌++◌, map, filter, length, replicate, Option, None, Some, refl, ap, sym, ◌∙◌, subst, arith}
use Rattle.std.specs.Prelude.{slice_index_or, slice_set}
use Rattle.std.specs.List.{flat_map, list_any}
use Rattle.std.specs.Option.{is_some}
use Rattle.std.proofs.lemmas.List.{length-replicate}
use Rattle.std.proofs.lemmas.List.Folds.{list_any-append}
use Rattle.ev_types.specs.Events.{MayMake}
use Rattle.ev_types.specs.Items.{ItemParts, ResponseParts}
use Rattle.ev_types.specs.declared.contents.Body.{Body}
use Rattle.ev_types.specs.declared.contents.Body.TheVariants.{Good, Bad, Beat}
use Rattle.ev_types.specs.declared.contents.Content.{Content}
use Rattle.ev_types.specs.declared.contents.Kind.{Kind}
use Rattle.ev_types.specs.declared.contents.Kind.TheVariants.{Cds, Eds, Lds, Rds, Sds, Ecds}
use Rattle.ev_types.specs.declared.events.Actor.{Actor}
use Rattle.ev_types.specs.declared.events.Actor.TheVariants.{Stream, Health as health_checker, Timer, Main, Worker}
use Rattle.ev_types.specs.declared.events.Answer.{Answer}
use Rattle.ev_types.specs.declared.events.Ask.{Ask}
use Rattle.ev_types.specs.declared.events.Entry.{Entry}
use Rattle.ev_types.specs.declared.events.Event.{Event}
use Rattle.ev_types.specs.declared.events.Event.TheVariants.{Connect, Disconnect, Response, Health, FetchTimeout, DrainTimeout, TtlExpired, Publish, Reap, Accept, Close, Settle}
use Rattle.ev_types.specs.declared.events.Verdict.{Verdict}
use Rattle.ev_types.specs.declared.events.Verdict.TheVariants.{New, InPlace, Back, Same, Kept, Unasked, Renewed, Refused}
use Rattle.ev_types.specs.declared.hosts.Host.{Host}
use Rattle.ev_types.specs.declared.journals.Format.{Format}
use Rattle.ev_types.specs.declared.rows.GenRow.{GenRow}
use Rattle.ev_model.specs.declared.pictures.Shown.{Shown}
use Rattle.ev_model.specs.World.{World, last_version, nothing_shown, opening}
use Rattle.ev_model.specs.Live.{lives_of}
use Rattle.ev_model.specs.Watching.{is_watched}
use Rattle.ev_model.specs.Phase.{is_clusters}
use Rattle.ev_model.specs.Picture.{has_number, numbers_shown, shown_of, shown_same}
use Rattle.ev_model.specs.Verdicts.{verdicts_of}
use Rattle.ev_model.specs.Versions.{is_bounded}
use Rattle.ev_model.specs.Rows.{add_in_place, add_item, add_items, add_row, go_back, keep_value, keep_version, made_names, refuse, told_of_refusal, with_content, with_first, with_removals}
use Rattle.ev_model.specs.Tidy.{tidy}
use Rattle.ev_model.specs.Signals.{expire, fetch_timeout, forget_version, health_of, is_awaited, name_timeout_of, rows_meant, unexpired, with_end}
use Rattle.ev_model.specs.Dead.{is_dead, is_dead_at, is_open_on, numbers_in_use, picture_at, shown_at, shown_in_use, waits_for_timer}
use Rattle.ev_model.specs.Publishing.{ascending, publish, reap}
use Rattle.ev_model.specs.Connections.{accept, accepted, settle, with_worked}
use Rattle.ev_model.specs.Step.{answered, respond_by, step}
use Rattle.ev_model.specs.Runs.{RunsFrom, world_after}
use Rattle.ev_model.proofs.RunLemmas.{length-held}
use Rattle.ev_model_laws.proofs.KeepLemmas.{either, is_for_managers, step-each}
use Rattle.ev_model_laws.proofs.SeenLemmas.{same_seen}

-- ---- what the managers do looks at neither

-- the world with these versions held and this node
abbrev but : List ℕ → List ℕ → World → World
but held node world = record world { held = held; node = node }

module _ (held : List ℕ) (node : List ℕ) where
  if-but : (b : Bool) (one other here there : World × Answer) → here.0 ≡ but held node one.0 → there.0 ≡ but held node other.0
      → (if b then here else there).0 ≡ but held node (if b then one else other).0
  if-but true one other here there h t = h
  if-but false one other here there h t = t

  if-world : (b : Bool) (one other here there : World) → here ≡ but held node one → there ≡ but held node other
      → (if b then here else there) ≡ but held node (if b then one else other)
  if-world true one other here there h t = h
  if-world false one other here there h t = t

  removals-but : (kind : Kind) (response : ResponseParts) (world : World) → with_removals kind response (but held node world) ≡ but held node (with_removals kind response world)
  removals-but Cds response world = refl
  removals-but Eds response world = refl
  removals-but Lds response world = refl
  removals-but Rds response world = refl
  removals-but Sds response world = refl
  removals-but Ecds response world = refl

  told-but : (kind : Kind) (name : List ℕ) (world : World) → told_of_refusal kind name (but held node world) ≡ but held node (told_of_refusal kind name world)
  told-but kind name world = if-world (is_watched (lives_of world) kind name) _ _ _ _ refl refl

  refuse-but : (kind : Kind) (name : List ℕ) (world : World) → refuse kind name (but held node world) ≡ but held node (refuse kind name world)
  refuse-but Cds name world = refl
  refuse-but Eds name world = told-but Eds name world
  refuse-but Lds name world = refl
  refuse-but Rds name world = told-but Rds name world
  refuse-but Sds name world = told-but Sds name world
  refuse-but Ecds name world = told-but Ecds name world

  content-but : (change : Content → World → World) (body : Body) (world : World)
      → ((content : Content) → change content (but held node world) ≡ but held node (change content world))
      → with_content change body (but held node world) ≡ but held node (with_content change body world)
  content-but change (Good content) world same = same content
  content-but change (Bad rule) world same = refl
  content-but change Beat world same = refl

  item-but : (kind : Kind) (verdict : Verdict) (item : ItemParts) (world : World)
      → add_item kind verdict item (but held node world) ≡ but held node (add_item kind verdict item world)
  item-but kind New item world = content-but (λ content. add_row kind item content []) item.body world (λ content. refl)
  item-but kind InPlace item world = content-but (add_in_place kind item) item.body world (λ content. refl)
  item-but kind Back item world = content-but (λ content. go_back kind item) item.body world (λ content. refl)
  item-but kind Same item world = content-but (λ content. keep_version kind item) item.body world (λ content. refl)
  item-but kind Kept item world = content-but (keep_value kind item) item.body world (λ content. refl)
  item-but kind Unasked item world = refl
  item-but kind Renewed item world = refl
  item-but kind (Refused rule) item world = refuse-but kind item.name world

  items-but : (kind : Kind) (verdicts : List Verdict) (items : List ItemParts) (world : World)
      → add_items kind verdicts items (but held node world) ≡ but held node (add_items kind verdicts items world)
  items-but kind [] items world = refl
  items-but kind (verdict ∷ verdicts) [] world = refl
  items-but kind (verdict ∷ verdicts) (item ∷ items) world =
      ap (add_items kind verdicts items) (item-but kind verdict item world) ∙ items-but kind verdicts items (add_item kind verdict item world)

  first-but : (kind : Kind) (names : List (List ℕ)) (world : World) → with_first kind names (but held node world) ≡ but held node (with_first kind names world)
  first-but Cds names world = refl
  first-but Eds names world = refl
  first-but Lds names world = refl
  first-but Rds names world = refl
  first-but Sds names world = refl
  first-but Ecds names world = refl

  answered-but : (kind : Kind) (response : ResponseParts) (verdicts : List Verdict) (world : World)
      → (answered kind response verdicts (but held node world)).0 ≡ but held node (answered kind response verdicts world).0
  answered-but kind response verdicts world =
      let names : List (List ℕ) = made_names verdicts response.items in
      let left : World = with_removals kind response world in
      ap (λ w. tidy (with_first kind names (add_items kind verdicts response.items w))) (removals-but kind response world)
      ∙ ap (λ w. tidy (with_first kind names w)) (items-but kind verdicts response.items left)
      ∙ ap tidy (first-but kind names (add_items kind verdicts response.items left))

  by-but : (kind : Option Kind) (response : ResponseParts) (world : World)
      → (respond_by kind response (but held node world)).0 ≡ but held node (respond_by kind response world).0
  by-but None response world = refl
  by-but (Some kind) response world = answered-but kind response (verdicts_of (lives_of world) world.versions response) world

  health-but : (host : Host) (healthy : Bool) (rows : List GenRow) (world : World)
      → (health_of host healthy rows (but held node world)).0 ≡ but held node (health_of host healthy rows world).0
  health-but host healthy [] world = refl
  health-but host healthy (row ∷ rows) world = refl

  name-but : (kind : Kind) (name : Option (List ℕ)) (world : World)
      → (name_timeout_of kind name (but held node world)).0 ≡ but held node (name_timeout_of kind name world).0
  name-but kind None world = refl
  name-but kind (Some name) world = if-but (is_awaited world.arrivals world.rows kind name) _ _ _ _ refl refl

  timeout-but : (kind : Kind) (name : Option (List ℕ)) (world : World)
      → (fetch_timeout kind name (but held node world)).0 ≡ but held node (fetch_timeout kind name world).0
  timeout-but Cds name world = if-but (is_some world.first_clusters || world.late_clusters) _ _ _ _ refl refl
  timeout-but Eds name world = name-but Eds name world
  timeout-but Lds name world = if-but (is_clusters world.phase || (is_some world.first_listeners || world.late_listeners)) _ _ _ _ refl refl
  timeout-but Rds name world = name-but Rds name world
  timeout-but Sds name world = name-but Sds name world
  timeout-but Ecds name world = name-but Ecds name world

  expire-but : (numbers : List ℕ) (world : World) → (expire numbers (but held node world)).0 ≡ but held node (expire numbers world).0
  expire-but [] world = refl
  expire-but (number ∷ numbers) world = refl

  end-but : (kind : Kind) (name : List ℕ) (world : World) → tidy (with_end kind name (but held node world)) ≡ but held node (tidy (with_end kind name world))
  end-but Cds name world = refl
  end-but Eds name world = refl
  end-but Lds name world = refl
  end-but Rds name world = refl
  end-but Sds name world = refl
  end-but Ecds name world = refl

  managed-but : (format : Format) (world : World) (actor : Actor) (event : Event) → is_for_managers event ≡ true
      → (step format (but held node world) actor event).0 ≡ but held node (step format world actor event).0
  managed-but format world actor Connect is = if-but world.stream _ _ _ _ refl refl
  managed-but format world actor Disconnect is = if-but world.stream _ _ _ _ refl refl
  managed-but format world actor (Response response) is = if-but world.stream _ _ _ _ (by-but response.kind response world) refl
  managed-but format world actor (Health cluster host healthy) is = health-but host healthy (rows_meant world.arrivals cluster host world.rows) world
  managed-but format world actor (FetchTimeout timeout) is = timeout-but timeout.kind timeout.name world
  managed-but format world actor (DrainTimeout listener) is = expire-but (unexpired world.expired listener world.rows) world
  managed-but format world actor (TtlExpired kind name) is =
      if-but (is_bounded world.versions kind name) _ _ _ _ (end-but kind name (forget_version kind name world)) refl
  managed-but format world actor Publish is = cc
  managed-but format world actor Reap is = cc
  managed-but format world actor (Accept ask) is = cc
  managed-but format world actor (Close connection) is = cc
  managed-but format world actor Settle is = cc

  publish-but : (world : World) → (publish (but held node world)).0 ≡ but held node (publish world).0
  publish-but world = if-but (shown_same (shown_of world) (shown_at world (last_version world))) _ _ _ _ refl refl

-- ---- what workers hold

-- each worker holds the same; one that isn't there counts as holding the first version
abbrev SameHeld : List ℕ → List ℕ → Type 0
SameHeld held others = (worker : ℕ) → slice_index_or held worker 0 ≡ slice_index_or others worker 0

abbrev first_versions : ℕ → List ℕ
first_versions workers = replicate workers 0

first_held : (workers worker : ℕ) → slice_index_or (first_versions workers) worker 0 ≡ 0
first_held zero worker = refl
first_held (suc workers) zero = refl
first_held (suc workers) (suc worker) = first_held workers worker

set_same : (held others : List ℕ) (place version : ℕ) → SameHeld held others → place < length held → place < length others
    → SameHeld (slice_set held place version) (slice_set others place version)
set_same [] others place version same within there worker = absurd (omega arith)
set_same (one ∷ held) [] place version same within there worker = absurd (omega arith)
set_same (one ∷ held) (other ∷ others) zero version same within there zero = refl
set_same (one ∷ held) (other ∷ others) zero version same within there (suc worker) = same (suc worker)
set_same (one ∷ held) (other ∷ others) (suc place) version same within there zero = same zero
set_same (one ∷ held) (other ∷ others) (suc place) version same within there (suc worker) =
    set_same held others place version (λ w. same (suc w)) (omega arith) (omega arith) worker

-- a test that fails of the first version is passed by one of both or by none
any_same : (test : ℕ → Bool) → test 0 ≡ false → (held others : List ℕ) → SameHeld held others → list_any test held ≡ list_any test others
any_same test fails [] [] same = refl
any_same test fails [] (other ∷ others) same =
    any_same test fails [] others (λ w. same (suc w)) ∙ ap (λ b. b || list_any test others) (sym (ap test (sym (same 0)) ∙ fails))
any_same test fails (one ∷ held) [] same =
    ap (λ b. b || list_any test held) (ap test (same 0) ∙ fails) ∙ any_same test fails held [] (λ w. same (suc w))
any_same test fails (one ∷ held) (other ∷ others) same =
    (λ i. test (same 0 i) || any_same test fails held others (λ w. same (suc w)) i)

any_map : {X Y : Type 0} (test : Y → Bool) (f : X → Y) (xs : List X) → list_any test (map f xs) ≡ list_any (λ x. test (f x)) xs
any_map test f [] = refl
any_map test f (x ∷ xs) = ap (λ b. test (f x) || b) (any_map test f xs)

any_flat : {X : Type 0} (number : ℕ) (f : X → List ℕ) (xs : List X) → has_number number (flat_map f xs) ≡ list_any (λ x. has_number number (f x)) xs
any_flat number f [] = refl
any_flat number f (x ∷ xs) =
    list_any-append (λ n. n == number) (f x) (flat_map f xs) ∙ ap (λ b. has_number number (f x) || b) (any_flat number f xs)

-- the first picture shows nothing
abbrev BeginsEmpty : World → Type 0
BeginsEmpty world = (others : List Shown) × (world.pictures ≡ nothing_shown ∷ others)

-- the generation is shown in the picture of this version
abbrev shows : World → ℕ → ℕ → Bool
shows world number version = has_number number (numbers_shown (shown_at world version))

first_shows : (world : World) (number : ℕ) → BeginsEmpty world → shows world number 0 ≡ false
first_shows world number begins = ap (λ (pictures : List Shown). has_number number (numbers_shown (slice_index_or pictures 0 nothing_shown))) begins.1

in_use_is : (world : World) (number : ℕ)
    → has_number number (numbers_in_use world) ≡ (list_any (shows world number) world.held || list_any (shows world number) (last_version world ∷ []))
in_use_is world number =
    let test : Shown → Bool = λ (s : Shown). has_number number (numbers_shown s) in
    any_flat number numbers_shown (shown_in_use world)
    ∙ list_any-append test (map (shown_at world) world.held) (shown_at world (last_version world) ∷ [])
    ∙ ap (λ b. b || list_any test (shown_at world (last_version world) ∷ [])) (any_map test (shown_at world) world.held)

module _ (world : World) (held : List ℕ) (node : List ℕ) (begins : BeginsEmpty world) (same : SameHeld world.held held) where
  in_use_same : (number : ℕ) → has_number number (numbers_in_use (but held node world)) ≡ has_number number (numbers_in_use world)
  in_use_same number =
      in_use_is (but held node world) number
      ∙ ap (λ b. b || list_any (shows world number) (last_version world ∷ []))
      (sym (any_same (shows world number) (first_shows world number begins) world.held held same))
      ∙ sym (in_use_is world number)

  dead_same : (format : Format) (row : GenRow) → is_dead format (but held node world) row ≡ is_dead format world row
  dead_same format row =
      ap
      (λ b. is_dead_at row.status
      ((b || list_any (is_open_on row.number) world.opened) || (waits_for_timer format row.kind && not (has_number row.number world.expired))))
      (in_use_same row.number)

  reap-but : (format : Format) → (reap format (but held node world)).0 ≡ but held node (reap format world).0
  reap-but format = λ i. record world {
    rows = filter (λ (row : GenRow). not (dead_same format row i)) world.rows;
    expired = filter
        (λ number. not (has_number number (ascending (map (λ (row : GenRow). row.number) (filter (λ (row : GenRow). dead_same format row i) world.rows)))))
        world.expired;
    held = held;
    node = node;
  }

  accept-but : (ask : Ask) (worker : ℕ) → (accept ask worker (but held node world)).0 ≡ but held node (accept ask worker world).0
  accept-but ask worker =
      ap (λ version. but held node (with_worked world (accepted (picture_at world version) ask worker world.opened)).0) (sym (same worker))

-- the two differ in what workers hold and in the node alone,
-- and hold the same but for the first version of idle workers
pub record Alike (world other : World) : Type 0 where
  pub rest : other ≡ but other.held other.node world
  pub same : SameHeld world.held other.held

alike_by : (world other : World) (held node : List ℕ) → other ≡ but held node world → SameHeld world.held held → Alike world other
alike_by world other held node is same =
    let held_is : held ≡ other.held = sym (ap (λ (w : World). w.held) is) in
    let node_is : node ≡ other.node = sym (ap (λ (w : World). w.node) is) in
    record {
      rest = is ∙ (λ i. but (held_is i) (node_is i) world);
      same = subst (SameHeld world.held) held_is same;
    }

pub opens_alike : (workers others : ℕ) (node other : List ℕ) → Alike (opening workers node) (opening others other)
opens_alike workers others node other = record {
  rest = refl;
  same = λ worker. first_held workers worker ∙ sym (first_held others worker);
}

if-held : (b : Bool) (one other : World × Answer) (world : World) → one.0.held ≡ world.held → other.0.held ≡ world.held
    → (if b then one else other).0.held ≡ world.held
if-held true one other world o t = o
if-held false one other world o t = t

publish-held : (world : World) → (publish world).0.held ≡ world.held
publish-held world = if-held (shown_same (shown_of world) (shown_at world (last_version world))) _ _ world refl refl

-- an event of both
module _ (format : Format) (world other : World) (begins : BeginsEmpty world) (alike : Alike world other) where
  changed : (actor : Actor) (event : Event)
      → (step format (but other.held other.node world) actor event).0 ≡ but other.held other.node (step format world actor event).0
      → (step format world actor event).0.held ≡ world.held
      → Alike (step format world actor event).0 (step format other actor event).0
  changed actor event is kept =
      alike_by (step format world actor event).0 (step format other actor event).0 other.held other.node
      (ap (λ w. (step format w actor event).0) alike.rest ∙ is)
      (subst (λ held. SameHeld held other.held) (sym kept) alike.same)

  managed : (actor : Actor) (event : Event) → is_for_managers event ≡ true → Alike (step format world actor event).0 (step format other actor event).0
  managed actor event is =
      changed actor event (managed-but other.held other.node format world actor event is) (same_seen format world actor event is).held

  settled : (worker : ℕ) → worker < length world.held → worker < length other.held → Alike (settle worker world).0 (settle worker other).0
  settled worker within there =
      alike_by (settle worker world).0 (settle worker other).0 (slice_set other.held worker (last_version world)) other.node
      (ap (λ w. (settle worker w).0) alike.rest)
      (set_same world.held other.held worker (last_version world) alike.same within there)

  step_alike : (workers others : ℕ) (actor : Actor) (event : Event) → MayMake workers actor event → MayMake others actor event
      → length world.held ≡ workers → length other.held ≡ others → Alike (step format world actor event).0 (step format other actor event).0
  step_alike workers others actor Connect may there count counted = managed actor Connect refl
  step_alike workers others actor Disconnect may there count counted = managed actor Disconnect refl
  step_alike workers others actor (Response response) may there count counted = managed actor (Response response) refl
  step_alike workers others actor (Health cluster host healthy) may there count counted = managed actor (Health cluster host healthy) refl
  step_alike workers others actor (FetchTimeout timeout) may there count counted = managed actor (FetchTimeout timeout) refl
  step_alike workers others actor (DrainTimeout listener) may there count counted = managed actor (DrainTimeout listener) refl
  step_alike workers others actor (TtlExpired kind name) may there count counted = managed actor (TtlExpired kind name) refl
  step_alike workers others actor Publish may there count counted =
      changed actor Publish (publish-but other.held other.node world) (publish-held world)
  step_alike workers others actor Reap may there count counted =
      changed actor Reap (reap-but world other.held other.node begins alike.same format) refl
  step_alike workers others (Worker worker) (Accept ask) may there count counted =
      changed (Worker worker) (Accept ask) (accept-but world other.held other.node begins alike.same ask worker) refl
  step_alike workers others (Worker worker) (Close connection) may there count counted = changed (Worker worker) (Close connection) refl refl
  step_alike workers others (Worker worker) Settle may there count counted =
      let known : worker < workers = may in
      let known_there : worker < others = there in
      settled worker (omega arith) (omega arith)
  step_alike workers others Stream event may there count counted = changed Stream event refl refl
  step_alike workers others health_checker event may there count counted = changed health_checker event refl refl
  step_alike workers others Timer event may there count counted = changed Timer event refl refl
  step_alike workers others Main event may there count counted = changed Main event refl refl

-- the first picture stays empty
published_begins : (world : World) → BeginsEmpty world → BeginsEmpty (record world { pictures = world.pictures ++ shown_of world ∷ [] })
published_begins world begins = (begins.0 ++ shown_of world ∷ [], ap (λ pictures. pictures ++ shown_of world ∷ []) begins.1)

begins_after : (format : Format) (world : World) (actor : Actor) (event : Event) → BeginsEmpty world → BeginsEmpty (step format world actor event).0
begins_after format world actor event begins = step-each BeginsEmpty format world actor event begins (record {
  managed = λ e is. (begins.0, (same_seen format world actor e is).pictures ∙ begins.1);
  published = either BeginsEmpty _ _ _ begins (published_begins world begins);
  reaped = begins;
  accepted = λ ask worker is. begins;
  closed = λ connection worker is. begins;
  settled = λ worker is. begins;
})

run_by : (format : Format) (workers others : ℕ) (world other : World) (entries : List Entry) → RunsFrom format workers world entries
    → RunsFrom format others other entries → length world.held ≡ workers → length other.held ≡ others → BeginsEmpty world → Alike world other
    → Alike (world_after format world entries) (world_after format other entries)
run_by format workers others world other [] run there count counted begins alike = alike
run_by format workers others world other (entry ∷ entries) run there count counted begins alike =
    run_by format workers others (step format world entry.actor entry.event).0 (step format other entry.actor entry.event).0 entries run.2 there.2
    (length-held format world entry.actor entry.event ∙ count) (length-held format other entry.actor entry.event ∙ counted)
    (begins_after format world entry.actor entry.event begins)
    (step_alike format world other begins alike workers others entry.actor entry.event run.0 there.0 count counted)

-- worlds after entries that are a run both for this many workers and a node and for others
pub run_alike : (format : Format) (workers others : ℕ) (node other : List ℕ) (entries : List Entry) → RunsFrom format workers (opening workers node) entries
    → RunsFrom format others (opening others other) entries
    → Alike (world_after format (opening workers node) entries) (world_after format (opening others other) entries)
run_alike format workers others node other entries run there =
    run_by format workers others (opening workers node) (opening others other) entries run there
    (length-replicate workers 0) (length-replicate others 0) ([], refl) (opens_alike workers others node other)
