-- A generation that serves behind an event served before it, or the event has made it serve: it is ready then.
use Rattle.std.proofs.Common.{◌≡◌, ℕ, zero, suc, ◌<◌, ◌≤◌, ◌+◌, ◌⊎◌, inl, inr, Bool, true, false, ◌&&◌, ◌==◌, List, [], ◌∷◌, ◌++◌, take, drop, Some, refl, sym, ap, ◌∙◌, subst, arith}
use Rattle.std.specs.Cmp.{first_so, second_so}
use Rattle.std.specs.List.{Contains, fold, zip, list_any, list_all}
use Rattle.std.proofs.lemmas.Bool.{false≢true, cond_both, and_from}
use Rattle.std.proofs.lemmas.List.Elements.{All-map, All-contains}
use Rattle.std.proofs.lemmas.List.{take-append-drop}
use Rattle.ev_types.specs.Items.{ItemParts, ResponseParts}
use Rattle.ev_types.specs.Kinds.{kind_same}
use Rattle.ev_types.specs.Same.{numbers_decide}
use Rattle.ev_types.specs.Statuses.{is_active, is_live, is_warming}
use Rattle.ev_types.specs.declared.contents.Kind.{Kind}
use Rattle.ev_types.specs.declared.contents.Kind.TheVariants.{Cds, Eds, Lds, Rds, Sds, Ecds}
use Rattle.ev_types.specs.declared.events.Actor.{Actor}
use Rattle.ev_types.specs.declared.events.Answer.{Answer}
use Rattle.ev_types.specs.declared.events.Entry.{Entry}
use Rattle.ev_types.specs.declared.events.Event.{Event}
use Rattle.ev_types.specs.declared.events.Verdict.{Verdict}
use Rattle.ev_types.specs.declared.events.Verdict.TheVariants.{New, InPlace, Back, Same, Kept, Unasked, Renewed, Refused}
use Rattle.ev_types.specs.declared.journals.Format.{Format}
use Rattle.ev_types.specs.declared.rows.Arrival.TheVariants.{Bad as bad}
use Rattle.ev_types.specs.declared.rows.GenRow.{GenRow}
use Rattle.ev_types.specs.declared.rows.RowStatus.{RowStatus}
use Rattle.ev_types.specs.declared.rows.RowStatus.TheVariants.{Warming, Active, Draining, Dropped}
use Rattle.ev_model.specs.World.{World, Arrived}
use Rattle.ev_model.specs.Live.{lives_of}
use Rattle.ev_model.specs.Verdicts.{verdicts_for, is_removed}
use Rattle.ev_model.specs.Watching.{is_watched, dependencies_of}
use Rattle.ev_model.specs.Warming.{is_ready_by, is_ready}
use Rattle.ev_model.specs.Rows.{is_row_of, arrived, with_statuses, status_left, with_removals, replaced_status, new_row, add_row, keep_value, keep_version, told_of_refusal, refuse, add_item, add_items, made_names, with_first, rows_replaced, add_in_place, go_back, serving_row}
use Rattle.ev_model.specs.Tidy.{has_successor, status_by, promoted_status, promoted, arrivals_watched, tidy}
use Rattle.ev_model.specs.Signals.{ended_status, with_end, forget_version}
use Rattle.ev_model.specs.Step.{step}
use Rattle.ev_model.specs.Entries.{MadeRow, made_of, has_ended_wait}
use Rattle.ev_model.specs.Laws.{Told, world_told, IsEntryAt, IsServing, HadWarmed}
use Rattle.ev_model_laws.specs.Kept.{made_as, AreMade, ComesByEntries, ServesWarmed}
use Rattle.ev_model_laws.proofs.TidyLists.{all_of, any_at}
use Rattle.ev_model_laws.proofs.TidyLemmas.{kept, watched_ready, results_ready}
use Rattle.ev_model_laws.proofs.AnyLemmas.{any_so, any_behind, any_left, any_mapped, any_found, any_only}
use Rattle.ev_model_laws.proofs.PictureLemmas.{serves_numbered}
use Rattle.ev_model_laws.proofs.EventLemmas.{step-leads}
use Rattle.ev_model_laws.proofs.MadeLemmas.{made_more}
use Rattle.ev_model_laws.proofs.PlaceLemmas.{world_next}
use Rattle.ev_model_laws.proofs.OneANameLemmas.{removed_active, replaced_active}
use Rattle.ev_model_laws.proofs.AnsweredLemmas.{answered_by, ready_answered}
use Rattle.ev_model_laws.proofs.KeepLemmas.{with_content-holds}
use Rattle.ev_types.specs.declared.origins.KeptChain.{KeptChain}
use Rattle.ev_model.specs.Origins.{kept_from}
use Rattle.ev_types.specs.declared.contents.Content.{Content}

-- what serves in the one world serves in the other
abbrev ServesWithin : World → World → Type 0
ServesWithin before after = (number : ℕ) → list_any (serves_numbered number) after.rows ≡ true → list_any (serves_numbered number) before.rows ≡ true

statuses_within : (number : ℕ) (status_of : GenRow → RowStatus) (rows : List GenRow)
    → ((row : GenRow) → is_active (status_of row) ≡ true → is_active row.status ≡ true)
    → list_any (serves_numbered number) (with_statuses status_of rows) ≡ true → list_any (serves_numbered number) rows ≡ true
statuses_within number status_of rows stays h =
    any_so (λ (row : GenRow). serves_numbered number (record row { status = status_of row })) (serves_numbered number) rows
    (λ (row : GenRow) is.
    and_from (row.number == number) (is_active row.status) (first_so (row.number == number) (is_active (status_of row)) is)
    (stays row (second_so (row.number == number) (is_active (status_of row)) is)))
    (sym (any_mapped (serves_numbered number) (λ (row : GenRow). record row { status = status_of row }) rows) ∙ h)

module _ (before : World) where
  removals_serve : (kind : Kind) (response : ResponseParts) (world : World) → ServesWithin before world → ServesWithin before (with_removals kind response world)
  removals_serve Cds response world within number h =
      within number (statuses_within number (status_left Cds response) world.rows (λ (row : GenRow). removed_active (kind_same row.kind Cds && is_removed response row.name) row.status) h)
  removals_serve Eds response world within number h = within number h
  removals_serve Lds response world within number h =
      within number (statuses_within number (status_left Lds response) world.rows (λ (row : GenRow). removed_active (kind_same row.kind Lds && is_removed response row.name) row.status) h)
  removals_serve Rds response world within number h = within number h
  removals_serve Sds response world within number h = within number h
  removals_serve Ecds response world within number h = within number h

  replaced_serves : (kind : Kind) (name : List ℕ) (world : World) → ServesWithin before world
      → ServesWithin before (record world { rows = rows_replaced kind name world.rows })
  replaced_serves kind name world within number olds =
      within number
      (statuses_within number (replaced_status kind name) world.rows
      (λ (row : GenRow). replaced_active (is_row_of kind name row && is_warming row.status) row.status) olds)

  row_serves : (kind : Kind) (item : ItemParts) (content : Content) (chains : List KeptChain) (world : World) → ServesWithin before world
      → ServesWithin before (add_row kind item content chains world)
  row_serves kind item content chains world within number =
      let new : GenRow = new_row kind world.made item.name content chains in
      any_behind (serves_numbered number) (rows_replaced kind item.name world.rows) (new ∷ [])
      (replaced_serves kind item.name world within number)
      (λ is. absurd (false≢true (second_so (world.made + 1 == number) false (any_only (serves_numbered number) new is))))

  told_serves : (kind : Kind) (name : List ℕ) (world : World) → ServesWithin before world → ServesWithin before (told_of_refusal kind name world)
  told_serves kind name world within =
      cond_both (is_watched (lives_of world) kind name)
      (record world { arrivals = world.arrivals ++ arrived world.made kind bad name ∷ [] }) world
      (ServesWithin before) (λ watched. within) (λ unwatched. within)

  refuse_serves : (kind : Kind) (name : List ℕ) (world : World) → ServesWithin before world → ServesWithin before (refuse kind name world)
  refuse_serves Cds name world within = within
  refuse_serves Eds name world within = told_serves Eds name world within
  refuse_serves Lds name world within = within
  refuse_serves Rds name world within = told_serves Rds name world within
  refuse_serves Sds name world within = told_serves Sds name world within
  refuse_serves Ecds name world within = told_serves Ecds name world within

  item_serves : (kind : Kind) (verdict : Verdict) (item : ItemParts) (world : World) → ServesWithin before world → ServesWithin before (add_item kind verdict item world)
  item_serves kind New item world within =
      with_content-holds (ServesWithin before) (λ content. add_row kind item content []) item.body world
      (λ content. row_serves kind item content [] world within) within
  item_serves kind InPlace item world within =
      with_content-holds (ServesWithin before) (add_in_place kind item) item.body world
      (λ content. row_serves kind item content (kept_from (serving_row kind item.name world.rows) content) world within) within
  item_serves kind Back item world within =
      with_content-holds (ServesWithin before) (λ content. go_back kind item) item.body world (λ content. replaced_serves kind item.name world within) within
  item_serves kind Same item world within =
      with_content-holds (ServesWithin before) (λ content. keep_version kind item) item.body world (λ content. within) within
  item_serves kind Kept item world within =
      with_content-holds (ServesWithin before) (keep_value kind item) item.body world (λ content. within) within
  item_serves kind Unasked item world within = within
  item_serves kind Renewed item world within = within
  item_serves kind (Refused rule) item world within = refuse_serves kind item.name world within

  items_serve : (kind : Kind) (judged : List (Verdict × ItemParts)) (world : World) → ServesWithin before world
      → ServesWithin before (fold (λ (w : World) (one : Verdict × ItemParts). add_item kind one.0 one.1 w) world judged)
  items_serve kind [] world within = within
  items_serve kind (one ∷ judged) world within = items_serve kind judged (add_item kind one.0 one.1 world) (item_serves kind one.0 one.1 world within)

  first_serves : (kind : Kind) (names : List (List ℕ)) (world : World) → ServesWithin before world → ServesWithin before (with_first kind names world)
  first_serves Cds names world within = within
  first_serves Eds names world within = within
  first_serves Lds names world within = within
  first_serves Rds names world within = within
  first_serves Sds names world within = within
  first_serves Ecds names world within = within

  end_serves : (kind : Kind) (name : List ℕ) (world : World) → ServesWithin before world → ServesWithin before (with_end kind name world)
  end_serves Cds name world within number h =
      within number (statuses_within number (ended_status Cds name) world.rows (λ (row : GenRow). removed_active (is_row_of Cds name row) row.status) h)
  end_serves Eds name world within number h = within number h
  end_serves Lds name world within number h =
      within number (statuses_within number (ended_status Lds name) world.rows (λ (row : GenRow). removed_active (is_row_of Lds name row) row.status) h)
  end_serves Rds name world within number h = within number h
  end_serves Sds name world within number h = within number h
  end_serves Ecds name world within number h = within number h

-- it served, or is ready
abbrev ServedOrReady : World → GenRow → Type 0
ServedOrReady world row = is_active row.status ≡ true → (list_any (serves_numbered row.number) world.rows ≡ true) ⊎ (is_ready_by world.arrivals world.results row ≡ true)

promoted_by : (succeeded ready : Bool) (status : RowStatus) → is_active (status_by succeeded ready status) ≡ true → (is_active status ≡ true) ⊎ (ready ≡ true)
promoted_by succeeded true Warming h = inr refl
promoted_by succeeded false Warming h = absurd (false≢true h)
promoted_by succeeded ready Active h = inl refl
promoted_by succeeded ready Draining h = absurd (false≢true h)
promoted_by succeeded ready Dropped h = absurd (false≢true h)

served_by_row : (world : World) (row : GenRow) (ready : Bool) → Contains world.rows row → (is_active row.status ≡ true) ⊎ (ready ≡ true)
    → (list_any (serves_numbered row.number) world.rows ≡ true) ⊎ (ready ≡ true)
served_by_row world row ready there (inl serves) =
    inl (any_at (serves_numbered row.number) world.rows row there
    (and_from (row.number == row.number) (is_active row.status) ((numbers_decide row.number row.number).1 refl) serves))
served_by_row world row ready there (inr is) = inr is

-- what serves once all that are due serve served, or is ready
promoted_served_or_ready : (world : World) (row : GenRow) → Contains (promoted world).rows row → ServedOrReady world row
promoted_served_or_ready world row there =
    let status_of : GenRow → RowStatus = promoted_status world.arrivals world.results world.rows in
    All-contains (ServedOrReady world) (promoted world).rows row
    (All-map (ServedOrReady world) (λ (r : GenRow). record r { status = status_of r }) world.rows
    (all_of (λ (r : GenRow). ServedOrReady world (record r { status = status_of r })) world.rows
    (λ (r : GenRow) among serves.
    served_by_row world r (is_ready_by world.arrivals world.results r) among
    (promoted_by (has_successor world.arrivals world.results world.rows r) (is_ready_by world.arrivals world.results r) r.status serves))))
    there

pub active_status : (status : RowStatus) → is_active status ≡ true → status ≡ Active
active_status Warming h = absurd (false≢true h)
active_status Active h = refl
active_status Draining h = absurd (false≢true h)
active_status Dropped h = absurd (false≢true h)

-- a row that serves in a tidied world is as ready as it was before unwatched names and old results went
tidied_ready : (world : World) (row : GenRow) → Contains (promoted world).rows row → row.status ≡ Active
    → is_ready_by world.arrivals world.results row ≡ true → is_ready (tidy world) row ≡ true
tidied_ready world row there serves ready =
    let live : is_live row.status ≡ true = ap is_live serves in
    let before : World = promoted world in
    let watched : List Arrived = arrivals_watched (lives_of before) world.arrivals in
    results_ready watched before.rows world.results row there live
    ∙ watched_ready (lives_of before) world.arrivals world.results row (kept before row there live)
    ∙ ready

-- the generation served before, or serves now and is ready
abbrev ServesNow : World → World → Type 0
ServesNow before after =
    (number : ℕ) → list_any (serves_numbered number) after.rows ≡ true → (list_any (serves_numbered number) before.rows ≡ true) ⊎ IsServing after number

serves_or : (before world : World) (row : GenRow) → ServesWithin before world → Contains (promoted world).rows row → is_active row.status ≡ true
    → (list_any (serves_numbered row.number) world.rows ≡ true) ⊎ (is_ready_by world.arrivals world.results row ≡ true)
    → (list_any (serves_numbered row.number) before.rows ≡ true) ⊎ IsServing (tidy world) row.number
serves_or before world row within there serves (inl was) = inl (within row.number was)
serves_or before world row within there serves (inr ready) =
    inr (record {
      row = row;
      among = there;
      numbered = refl;
      active = active_status row.status serves;
      ready = tidied_ready world row there (active_status row.status serves) ready;
    })

tidied_serves : (before world : World) → ServesWithin before world → ServesNow before (tidy world)
tidied_serves before world within number h =
    let found : (row : GenRow) × Contains (promoted world).rows row × (serves_numbered number row ≡ true) = any_found (serves_numbered number) (promoted world).rows h in
    let row : GenRow = found.0 in
    let serves : is_active row.status ≡ true = second_so (row.number == number) (is_active row.status) found.2 in
    subst (λ n. (list_any (serves_numbered n) before.rows ≡ true) ⊎ IsServing (tidy world) n)
    ((numbers_decide row.number number).0 (first_so (row.number == number) (is_active row.status) found.2))
    (serves_or before world row within found.1 serves (promoted_served_or_ready world row found.1 serves))

-- this holds after any event
pub step-serves : (format : Format) (world : World) (actor : Actor) (event : Event) → ServesNow world (step format world actor event).0
step-serves format world actor event =
    let same : ServesWithin world world = λ number h. h in
    step-leads (λ (did : World × Answer). ServesNow world did.0) format world actor event (record {
      ignored = λ number h. inl h;
      connected = λ is. tidied_serves world (record world { stream = true }) same;
      disconnected = λ is. tidied_serves world (record world { stream = false }) same;
      replied = λ kind response is typed.
          let verdicts : List Verdict = verdicts_for kind (lives_of world) world.versions response in
          tidied_serves world (with_first kind (made_names verdicts response.items) (add_items kind verdicts response.items (with_removals kind response world)))
          (first_serves world kind (made_names verdicts response.items) (add_items kind verdicts response.items (with_removals kind response world))
          (items_serve world kind (zip verdicts response.items) (with_removals kind response world) (removals_serve world kind response world same)));
      resulted = λ cluster host healthy rows is. tidied_serves world _ same;
      timed = λ timeout name is named. tidied_serves world _ same;
      clusters_late = λ timeout is. tidied_serves world _ same;
      listeners_late = λ timeout is. tidied_serves world _ same;
      expired = λ name numbers is. tidied_serves world _ same;
      ended = λ kind name is bounded. tidied_serves world _ (end_serves world kind name (forget_version kind name world) same);
      unchanged = λ is number h. inl h;
      published = λ is number h. inl h;
      reaped = λ is number h. inl (any_left (serves_numbered number) _ world.rows h);
      accepted = λ ask worker is by number h. inl h;
      closed = λ connection worker is by number h. inl h;
      settled = λ worker is by number h. inl h;
    })

-- a generation that had warmed before a place had before a later one
pub warmed_later : (told : Told) (number j k : ℕ) → j ≤ k → HadWarmed told number j → HadWarmed told number k
warmed_later told number j k le had =
    let lt : had.place < j = had.earlier in
    record { place = had.place; earlier = omega (arith, lt, le); serving = had.serving; answered = had.answered }

-- numbers of generations that were made begin at 1
drawn_number : (entries : List Entry) (number : ℕ) (m : MadeRow) → made_of entries number ≡ Some m → 0 < number
drawn_number entries zero m there = absurd (cc)
drawn_number entries (suc place) m there = omega arith

-- one that serves behind an entry and is ready there has warmed by then
serving_warmed : (told : Told) (k number : ℕ) → AreMade (world_told told (k + 1)) (take (k + 1) told.journal)
    → ComesByEntries (world_told told (k + 1)) (take (k + 1) told.journal) → IsServing (world_told told (k + 1)) number → HadWarmed told number (k + 1)
serving_warmed told k number made come serving =
    let world : World = world_told told (k + 1) in
    let row : GenRow = serving.row in
    let entries : List Entry = take (k + 1) told.journal in
    let whole : entries ++ drop (k + 1) told.journal ≡ told.journal = take-append-drop (k + 1) told.journal in
    let numbered : made_of entries row.number ≡ Some (made_as row) =
    All-contains (λ (r : GenRow). made_of entries r.number ≡ Some (made_as r)) world.rows row made.rows serving.among in
    let of : made_of entries number ≡ Some (made_as row) = ap (made_of entries) (sym serving.numbered) ∙ numbered in
    record {
      place = k;
      earlier = omega arith;
      serving = serving;
      answered = record {
        row = made_as row;
        made = ap (λ (journal : List Entry). made_of journal number) (sym whole) ∙ made_more entries (drop (k + 1) told.journal) number (made_as row) of;
        answered = ap (λ n. list_all (has_ended_wait n entries) (dependencies_of row.content)) (sym serving.numbered)
            ∙ answered_by entries world row.number row.content come (drawn_number entries row.number (made_as row) numbered)
            (ready_answered world row serving.ready);
      };
    }

-- an entry keeps that each generation that serves had warmed
module _ (told : Told) (k : ℕ) (entry : Entry) (there : IsEntryAt told k entry) (serves : ServesWarmed told k)
    (made : AreMade (world_told told (k + 1)) (take (k + 1) told.journal))
    (come : ComesByEntries (world_told told (k + 1)) (take (k + 1) told.journal)) where
  warmed_by : (number : ℕ) → (list_any (serves_numbered number) (world_told told k).rows ≡ true) ⊎ IsServing (world_told told (k + 1)) number
      → HadWarmed told number (k + 1)
  warmed_by number (inl was) =
      let found : (row : GenRow) × Contains (world_told told k).rows row × (serves_numbered number row ≡ true) =
      any_found (serves_numbered number) (world_told told k).rows was in
      let row : GenRow = found.0 in
      subst (λ n. HadWarmed told n (k + 1)) ((numbers_decide row.number number).0 (first_so (row.number == number) (is_active row.status) found.2))
      (warmed_later told row.number k (k + 1) (omega arith)
      (serves row found.1 (active_status row.status (second_so (row.number == number) (is_active row.status) found.2))))
  warmed_by number (inr serving) = serving_warmed told k number made come serving

  pub serves_next : ServesWarmed told (k + 1)
  serves_next row among active =
      warmed_by row.number
      (subst (λ (w : World). (number : ℕ) → list_any (serves_numbered number) w.rows ≡ true
      → (list_any (serves_numbered number) (world_told told k).rows ≡ true) ⊎ IsServing w number)
      (sym (world_next told k entry there)) (step-serves told.format (world_told told k) entry.actor entry.event) row.number
      (any_at (serves_numbered row.number) (world_told told (k + 1)).rows row among
      (and_from (row.number == row.number) (is_active row.status) ((numbers_decide row.number row.number).1 refl) (ap is_active active))))
