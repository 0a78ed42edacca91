-- What was received for names is kept only of names that are watched,
-- and a version of endpoints or routes only of one that was reported.
use Rattle.std.proofs.Common.{◌≡◌, ℕ, ◌+◌, Bool, true, false, ◌&&◌, cond, List, [], ◌∷◌, ◌++◌, map, filter, refl, sym, ap, ◌∙◌, subst, not}
use Rattle.std.specs.List.{All, AllByRecursion as ByRecursion, fold, zip, list_any}
use Rattle.std.specs.Str.{bytes_eq}
use Rattle.std.proofs.lemmas.Bool.{false≢true, both_ways, cond_both, and_from, or_left, not_from_true}
use Rattle.std.proofs.lemmas.List.Elements.{All-nil, All-map, All-weaker, All-filter, All-contains, All-from_recursion, recursion_from_All, filter_passes}
use Rattle.ev_types.specs.Items.{ItemParts, ResponseParts}
use Rattle.ev_types.specs.Kinds.{kind_same, kind_decides, is_by_name}
use Rattle.ev_types.specs.Same.{bytes_decide}
use Rattle.ev_types.specs.declared.contents.Kind.{Kind}
use Rattle.ev_types.specs.declared.contents.Kind.TheVariants.{Cds, Eds, Lds, Rds, Sds, Ecds}
use Rattle.ev_types.specs.declared.events.Answer.{Answer}
use Rattle.ev_types.specs.declared.events.Event.{Event}
use Rattle.ev_types.specs.declared.events.Verdict.{Verdict}
use Rattle.ev_types.specs.declared.events.Verdict.TheVariants.{New, InPlace, Back, Same, Kept, Unasked, Renewed, Refused}
use Rattle.ev_types.specs.declared.journals.Format.{Format}
use Rattle.ev_types.specs.declared.rows.Arrival.TheVariants.{Value, Absent, Bad as bad, TimedOut, Ended}
use Rattle.ev_types.specs.declared.rows.KeptVersion.{KeptVersion}
use Rattle.ev_model.specs.World.{World, Arrived, opening}
use Rattle.ev_model.specs.Live.{lives_of, live_of}
use Rattle.ev_model.specs.Versions.{is_version_of, bounded_as, with_version}
use Rattle.ev_model.specs.Verdicts.{lives_left, verdicts_for}
use Rattle.ev_model.specs.Watching.{is_watched}
use Rattle.ev_model.specs.Warming.{is_word, is_told_by}
use Rattle.ev_model.specs.Rows.{is_version_left, arrived, absent_names, with_removals, version_in, keep_version, add_row, keep_value, told_of_refusal, refuse, renew, add_item, add_items, made_names, with_first, rows_with_new, versions_left, rows_replaced, add_in_place, go_back, serving_row}
use Rattle.ev_model.specs.Tidy.{promoted, is_version_due, tidy, arrivals_watched}
use Rattle.ev_model.specs.Signals.{no_hosts, no_routes, with_end, forget_version}
use Rattle.ev_model.specs.Step.{step}
use Rattle.ev_model_laws.specs.Kept.{KeepsWatched}
use Rattle.ev_model_laws.proofs.TidyLists.{all_of, any_of_map, filter_within}
use Rattle.ev_model_laws.proofs.AnyLemmas.{any_first, any_second, or_so}
use Rattle.ev_model_laws.proofs.VersionLemmas.{all_with}
use Rattle.ev_model_laws.proofs.ExpiredLemmas.{passed}
use Rattle.ev_model_laws.proofs.VerdictLemmas.{fits, judged_by, verdict_fits, listener_not}
use Rattle.ev_model_laws.proofs.EventLemmas.{step-leads}
use Rattle.ev_types.specs.declared.rows.Live.{Live}
use Rattle.ev_types.specs.declared.rows.GenRow.{GenRow}
use Rattle.ev_types.specs.declared.rows.RowStatus.{RowStatus}
use Rattle.ev_types.specs.declared.rows.RowStatus.TheVariants.{Warming, Active, Draining, Dropped}
use Rattle.ev_types.specs.Statuses.{is_live}
use Rattle.ev_model.specs.Dead.{is_dead, is_dead_at}
use Rattle.ev_model.specs.Publishing.{without_dead}
use Rattle.ev_model_laws.proofs.TidyLemmas.{came_same}
use Rattle.ev_model_laws.proofs.CameLemmas.{by_name_not}
use Rattle.ev_model_laws.proofs.PromotionLemmas.{each_left}
use Rattle.ev_types.specs.declared.rows.Arrival.{Arrival}
use Rattle.ev_types.specs.declared.events.Actor.{Actor}
use Rattle.ev_types.specs.declared.origins.KeptChain.{KeptChain}
use Rattle.ev_model.specs.Origins.{kept_from}
use Rattle.ev_model_laws.proofs.KeepLemmas.{with_content-holds}
use Rattle.ev_types.specs.declared.contents.Content.{Content}

-- it is one of endpoints or routes of a name of which a word came, or one of clusters or listeners
abbrev IsVersionHeard : List Arrived → KeptVersion → Type 0
IsVersionHeard arrivals kept = is_by_name kept.kind ≡ true → is_told_by arrivals kept.kind kept.name ≡ true

-- so are all versions, by what came
abbrev AreHeard : World → Type 0
AreHeard world = All (IsVersionHeard world.arrivals) world.versions

-- a word came for the name
abbrev is_word_for : Kind → List ℕ → Arrived → Bool
is_word_for kind name a = (kind_same a.kind kind && bytes_eq a.name name) && is_word a.arrival

heard_is : (arrivals : List Arrived) (kind : Kind) (name : List ℕ) → is_told_by arrivals kind name ≡ list_any (is_word_for kind name) arrivals
heard_is arrivals kind name = any_of_map is_word (λ (a : Arrived). a.arrival) (λ (a : Arrived). kind_same a.kind kind && bytes_eq a.name name) arrivals

-- a name that was reported is reported when more came
heard_more : (arrivals more : List Arrived) (kind : Kind) (name : List ℕ) → is_told_by arrivals kind name ≡ true → is_told_by (arrivals ++ more) kind name ≡ true
heard_more arrivals more kind name h =
    heard_is (arrivals ++ more) kind name ∙ any_first (is_word_for kind name) arrivals more (sym (heard_is arrivals kind name) ∙ h)

more_heard : (more : List Arrived) (world : World) → AreHeard world → AreHeard (record world { arrivals = world.arrivals ++ more })
more_heard more world heard =
    All-weaker (IsVersionHeard world.arrivals) (IsVersionHeard (world.arrivals ++ more))
    (λ (kept : KeptVersion) told by_name. heard_more world.arrivals more kept.kind kept.name (told by_name)) world.versions heard

new_heard : (new : KeptVersion) (world : World) → IsVersionHeard world.arrivals new → AreHeard world
    → AreHeard (record world { versions = with_version new world.versions })
new_heard new world told heard =
    All-from_recursion (IsVersionHeard world.arrivals) (with_version new world.versions)
    (all_with (IsVersionHeard world.arrivals) new world.versions told (recursion_from_All (IsVersionHeard world.arrivals) world.versions heard))

marked_heard : (arrivals : List Arrived) (marks : Bool) (kept : KeptVersion) → IsVersionHeard arrivals kept
    → IsVersionHeard arrivals (cond marks (record kept { bounded = true }) kept)
marked_heard arrivals true kept told = told
marked_heard arrivals false kept told = told

renewed_heard : (kind : Kind) (name : List ℕ) (world : World) → AreHeard world → AreHeard (renew kind name world)
renewed_heard kind name world heard =
    All-map (IsVersionHeard world.arrivals) (bounded_as kind name) world.versions
    (All-weaker (IsVersionHeard world.arrivals) (λ (kept : KeptVersion). IsVersionHeard world.arrivals (bounded_as kind name kept))
    (λ (kept : KeptVersion). marked_heard world.arrivals (is_version_of kind name kept) kept) world.versions heard)

left_heard : (test : KeptVersion → Bool) (world : World) → AreHeard world → AreHeard (record world { versions = filter test world.versions })
left_heard test world heard = All-filter test (IsVersionHeard world.arrivals) world.versions heard

removals_heard : (kind : Kind) (response : ResponseParts) (world : World) → AreHeard world → AreHeard (with_removals kind response world)
removals_heard Cds response world heard = left_heard (is_version_left Cds response) world heard
removals_heard Eds response world heard =
    more_heard (map (arrived world.made Eds Absent) (absent_names Eds response world))
    (record world { versions = versions_left Eds response world.versions }) (left_heard (is_version_left Eds response) world heard)
removals_heard Lds response world heard = left_heard (is_version_left Lds response) world heard
removals_heard Rds response world heard =
    more_heard (map (arrived world.made Rds Absent) (absent_names Rds response world))
    (record world { versions = versions_left Rds response world.versions }) (left_heard (is_version_left Rds response) world heard)
removals_heard Sds response world heard = left_heard (is_version_left Sds response) world heard
removals_heard Ecds response world heard =
    more_heard (map (arrived world.made Ecds Absent) (absent_names Ecds response world))
    (record world { versions = versions_left Ecds response world.versions }) (left_heard (is_version_left Ecds response) world heard)

module _ (kind : Kind) (item : ItemParts) where
  row_heard : (content : Content) (chains : List KeptChain) (world : World) → is_by_name kind ≡ false → AreHeard world
      → AreHeard (add_row kind item content chains world)
  row_heard content chains world isnt heard =
      new_heard (version_in kind item) (record world { rows = rows_with_new kind world.made item.name content chains world.rows; made = world.made + 1 })
      (λ is. absurd (both_ways (is_by_name kind) isnt is)) heard

  back_heard : (world : World) → is_by_name kind ≡ false → AreHeard world → AreHeard (go_back kind item world)
  back_heard world isnt heard =
      new_heard (version_in kind item) (record world { rows = rows_replaced kind item.name world.rows })
      (λ is. absurd (both_ways (is_by_name kind) isnt is)) heard

  same_heard : (world : World) → is_by_name kind ≡ false → AreHeard world → AreHeard (keep_version kind item world)
  same_heard world isnt heard = new_heard (version_in kind item) world (λ is. absurd (both_ways (is_by_name kind) isnt is)) heard

  value_heard : (content : Content) (world : World) → AreHeard world → AreHeard (keep_value kind item content world)
  value_heard content world heard =
      let more : List Arrived = arrived world.made kind (Value content) item.name ∷ [] in
      new_heard (version_in kind item) (record world { arrivals = world.arrivals ++ more })
      (λ is.
      heard_is (world.arrivals ++ more) kind item.name
      ∙ any_second (is_word_for kind item.name) world.arrivals more
      (or_left (is_word_for kind item.name (arrived world.made kind (Value content) item.name)) false
      (and_from (kind_same kind kind && bytes_eq item.name item.name) true
      (and_from (kind_same kind kind) (bytes_eq item.name item.name) ((kind_decides kind kind).1 refl) ((bytes_decide item.name item.name).1 refl)) refl)))
      (more_heard more world heard)

refusal_heard : (kind : Kind) (name : List ℕ) (world : World) → AreHeard world → AreHeard (told_of_refusal kind name world)
refusal_heard kind name world heard =
    cond_both (is_watched (lives_of world) kind name)
    (record world { arrivals = world.arrivals ++ arrived world.made kind bad name ∷ [] }) world AreHeard
    (λ watched. more_heard (arrived world.made kind bad name ∷ []) world heard) (λ unwatched. heard)

refused_heard : (kind : Kind) (name : List ℕ) (world : World) → AreHeard world → AreHeard (refuse kind name world)
refused_heard Cds name world heard = heard
refused_heard Eds name world heard = refusal_heard Eds name world heard
refused_heard Lds name world heard = heard
refused_heard Rds name world heard = refusal_heard Rds name world heard
refused_heard Sds name world heard = refusal_heard Sds name world heard
refused_heard Ecds name world heard = refusal_heard Ecds name world heard

item_heard : (kind : Kind) (verdict : Verdict) (item : ItemParts) (world : World) → fits kind verdict ≡ true → AreHeard world
    → AreHeard (add_item kind verdict item world)
item_heard kind New item world fit heard =
    with_content-holds AreHeard (λ content. add_row kind item content []) item.body world
    (λ content. row_heard kind item content [] world (by_name_not kind fit) heard) heard
item_heard kind InPlace item world fit heard =
    with_content-holds AreHeard (add_in_place kind item) item.body world
    (λ content. row_heard kind item content (kept_from (serving_row kind item.name world.rows) content) world (listener_not kind fit) heard) heard
item_heard kind Back item world fit heard =
    with_content-holds AreHeard (λ content. go_back kind item) item.body world (λ content. back_heard kind item world (listener_not kind fit) heard) heard
item_heard kind Same item world fit heard =
    with_content-holds AreHeard (λ content. keep_version kind item) item.body world (λ content. same_heard kind item world (by_name_not kind fit) heard) heard
item_heard kind Kept item world fit heard =
    with_content-holds AreHeard (keep_value kind item) item.body world (λ content. value_heard kind item content world heard) heard
item_heard kind Unasked item world fit heard = heard
item_heard kind Renewed item world fit heard = renewed_heard kind item.name world heard
item_heard kind (Refused rule) item world fit heard = refused_heard kind item.name world heard

items_heard : (kind : Kind) (judged : List (Verdict × ItemParts)) (world : World) → ByRecursion (λ (one : Verdict × ItemParts). fits kind one.0 ≡ true) judged
    → AreHeard world → AreHeard (fold (λ (w : World) (one : Verdict × ItemParts). add_item kind one.0 one.1 w) world judged)
items_heard kind [] world fit heard = heard
items_heard kind (one ∷ judged) world fit heard =
    items_heard kind judged (add_item kind one.0 one.1 world) fit.1 (item_heard kind one.0 one.1 world fit.0 heard)

first_heard : (kind : Kind) (names : List (List ℕ)) (world : World) → AreHeard world → AreHeard (with_first kind names world)
first_heard Cds names world heard = heard
first_heard Eds names world heard = heard
first_heard Lds names world heard = heard
first_heard Rds names world heard = heard
first_heard Sds names world heard = heard
first_heard Ecds names world heard = heard

end_heard : (kind : Kind) (name : List ℕ) (world : World) → AreHeard world → AreHeard (with_end kind name world)
end_heard Cds name world heard = heard
end_heard Eds name world heard = more_heard (arrived world.made Eds (Ended no_hosts) name ∷ []) world heard
end_heard Lds name world heard = heard
end_heard Rds name world heard = more_heard (arrived world.made Rds (Ended no_routes) name ∷ []) world heard
end_heard Sds name world heard = heard
end_heard Ecds name world heard = heard

due_heard : (lives : List Live) (arrivals : List Arrived) (kept : KeptVersion) (by_name : Bool) → is_by_name kept.kind ≡ by_name
    → is_version_due lives kept ≡ true → IsVersionHeard arrivals kept → IsVersionHeard (arrivals_watched lives arrivals) kept
due_heard lives arrivals kept false isnt due told is = absurd (both_ways (is_by_name kept.kind) isnt is)
due_heard lives arrivals kept true also due told is =
    ap (λ (came : List Arrival). list_any is_word came)
    (came_same lives arrivals kept.kind kept.name
    (or_so (not (is_by_name kept.kind)) (is_watched lives kept.kind kept.name)
    (λ isnt. absurd (false≢true (sym (not_from_true (is_by_name kept.kind) is) ∙ isnt))) (λ watched. watched) due))
    ∙ told is

-- tidying takes what was received for names that aren't watched, and their versions
tidied_watched : (world : World) → AreHeard world → KeepsWatched (tidy world)
tidied_watched world heard =
    let lives : List Live = lives_of (promoted world) in
    record {
      arrivals = filter_passes (λ (a : Arrived). is_watched lives a.kind a.name) world.arrivals;
      versions = all_of (IsVersionHeard (arrivals_watched lives world.arrivals)) (filter (is_version_due lives) world.versions)
          (λ (kept : KeptVersion) there.
          due_heard lives world.arrivals kept (is_by_name kept.kind) refl (passed (is_version_due lives) world.versions kept there)
          (each_left (IsVersionHeard world.arrivals) (is_version_due lives) world.versions
          (λ (kept : KeptVersion) among. All-contains (IsVersionHeard world.arrivals) world.versions kept heard among) kept there));
    }

live_stays : (status : RowStatus) (held : Bool) → is_live status ≡ true → not (is_dead_at status held) ≡ true
live_stays Warming held live = refl
live_stays Active held live = refl
live_stays Draining held live = absurd (false≢true live)
live_stays Dropped held live = absurd (false≢true live)

-- a reaping takes no live row
reaped_lives : (format : Format) (world : World) → lives_of (without_dead format world) ≡ lives_of world
reaped_lives format world =
    ap (map live_of)
    (filter_within (λ (row : GenRow). is_live row.status) (λ (row : GenRow). not (is_dead format world row)) (λ (row : GenRow). live_stays row.status _) world.rows)

reaped_watched : (format : Format) (world : World) → KeepsWatched world → KeepsWatched (without_dead format world)
reaped_watched format world watched = record {
  arrivals = subst (λ (lives : List Live). All (λ (a : Arrived). is_watched lives a.kind a.name ≡ true) world.arrivals) (sym (reaped_lives format world)) watched.arrivals;
  versions = watched.versions;
}

-- an event keeps it
pub step-watched : (format : Format) (world : World) (actor : Actor) (event : Event) → KeepsWatched world → KeepsWatched (step format world actor event).0
step-watched format world actor event watched =
    let heard : AreHeard world = watched.versions in
    step-leads (λ (did : World × Answer). KeepsWatched did.0) format world actor event (record {
      ignored = watched;
      connected = λ is. tidied_watched (record world { stream = true }) heard;
      disconnected = λ is. tidied_watched (record world { stream = false }) heard;
      replied = λ kind response is typed.
          let verdicts : List Verdict = verdicts_for kind (lives_of world) world.versions response in
          let left : World = with_removals kind response world in
          tidied_watched (with_first kind (made_names verdicts response.items) (add_items kind verdicts response.items left))
          (first_heard kind (made_names verdicts response.items) (add_items kind verdicts response.items left)
          (items_heard kind (zip verdicts response.items) left
          (judged_by (λ (one : Verdict × ItemParts). fits kind one.0 ≡ true) kind response world.versions
          (λ lives (item : ItemParts). verdict_fits kind response lives world.versions item) (lives_left kind response (lives_of world)) response.items)
          (removals_heard kind response world heard)));
      resulted = λ cluster host healthy rows is. tidied_watched _ heard;
      timed = λ timeout name is named. tidied_watched _ (more_heard (arrived world.made timeout.kind TimedOut name ∷ []) world heard);
      clusters_late = λ timeout is. tidied_watched _ heard;
      listeners_late = λ timeout is. tidied_watched _ heard;
      expired = λ name numbers is. tidied_watched _ heard;
      ended = λ kind name is bounded. tidied_watched _ (end_heard kind name (forget_version kind name world) (left_heard _ world heard));
      unchanged = λ is. watched;
      published = λ is. record { arrivals = watched.arrivals; versions = watched.versions };
      reaped = λ is. reaped_watched format world watched;
      accepted = λ ask worker is by. record { arrivals = watched.arrivals; versions = watched.versions };
      closed = λ connection worker is by. record { arrivals = watched.arrivals; versions = watched.versions };
      settled = λ worker is by. record { arrivals = watched.arrivals; versions = watched.versions };
    })

pub opens_watched : (workers : ℕ) (node : List ℕ) → KeepsWatched (opening workers node)
opens_watched workers node = record { arrivals = All-nil _; versions = All-nil _ }
