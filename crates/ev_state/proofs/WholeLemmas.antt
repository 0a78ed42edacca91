-- Generations are of clusters or of listeners: no event makes one of what is asked for by name.
use Rattle.std.proofs.Common.{◌≡◌, ℕ, Bool, true, false, not, List, [], ◌∷◌, ◌++◌, filter, cond}
use Rattle.std.specs.List.{AllByRecursion as ByRecursion, fold, zip}
use Rattle.std.proofs.lemmas.Bool.{cond_both}
use Rattle.ev_types.specs.Items.{ItemParts, ResponseParts}
use Rattle.ev_types.specs.declared.contents.Kind.{Kind}
use Rattle.ev_types.specs.declared.contents.Kind.TheVariants.{Cds, Eds, Lds, Rds, Sds, Ecds}
use Rattle.ev_types.specs.declared.contents.Body.{Body}
use Rattle.ev_types.specs.declared.contents.Body.TheVariants.{Good, Bad, Beat}
use Rattle.ev_types.specs.declared.contents.Content.{Content}
use Rattle.ev_types.specs.declared.events.Actor.{Actor}
use Rattle.ev_types.specs.declared.events.Answer.{Answer}
use Rattle.ev_types.specs.declared.events.Event.{Event}
use Rattle.ev_types.specs.declared.events.Verdict.{Verdict}
use Rattle.ev_types.specs.declared.events.Verdict.TheVariants.{New, InPlace, Back, Same, Kept, Unasked, Renewed, Refused}
use Rattle.ev_types.specs.declared.journals.Format.{Format}
use Rattle.ev_types.specs.declared.origins.KeptChain.{KeptChain}
use Rattle.ev_types.specs.declared.rows.GenRow.{GenRow}
use Rattle.ev_types.specs.declared.rows.RowStatus.{RowStatus}
use Rattle.ev_model.specs.World.{World}
use Rattle.ev_model.specs.Live.{lives_of}
use Rattle.ev_model.specs.Dead.{is_dead}
use Rattle.ev_model.specs.Verdicts.{lives_left, verdicts_for}
use Rattle.ev_types.specs.Kinds.{is_by_name}
use Rattle.ev_model.specs.Watching.{is_watched}
use Rattle.ev_model.specs.Rows.{with_statuses, with_removals, status_left, replaced_status, new_row, serving_row, add_row, go_back, keep_version, keep_value, with_content, refuse, add_item, add_items, made_names, with_first}
use Rattle.ev_model.specs.Origins.{kept_from}
use Rattle.ev_model.specs.Signals.{with_end, forget_version, ended_status}
use Rattle.ev_model.specs.Step.{step}
use Rattle.ev_model.specs.Tidy.{promoted_status, tidy}
use Rattle.ev_model_laws.proofs.CameLemmas.{by_name_not}
use Rattle.ev_model_laws.proofs.EventLemmas.{step-leads}
use Rattle.ev_model_laws.proofs.VerdictLemmas.{fits, judged_by, listener_not, verdict_fits}

-- each generation is of clusters or of listeners
abbrev pub AreWhole : List GenRow → Type 0
AreWhole rows = ByRecursion (λ (row : GenRow). is_by_name row.kind ≡ false) rows

statuses_whole : (status_of : GenRow → RowStatus) (rows : List GenRow) → AreWhole rows → AreWhole (with_statuses status_of rows)
statuses_whole status_of [] whole = tt
statuses_whole status_of (row ∷ rows) whole = (whole.0, statuses_whole status_of rows whole.1)

more_whole : (rows : List GenRow) (row : GenRow) → AreWhole rows → is_by_name row.kind ≡ false → AreWhole (rows ++ row ∷ [])
more_whole [] row whole isnt = (isnt, tt)
more_whole (first ∷ rows) row whole isnt = (whole.0, more_whole rows row whole.1 isnt)

pub left-whole : (test : GenRow → Bool) (rows : List GenRow) → AreWhole rows → AreWhole (filter test rows)
left-whole test [] whole = tt
left-whole test (row ∷ rows) whole =
    cond_both (test row) (row ∷ filter test rows) (filter test rows) AreWhole
    (λ stays. (whole.0, left-whole test rows whole.1)) (λ goes. left-whole test rows whole.1)

removals_whole : (kind : Kind) (response : ResponseParts) (world : World) → AreWhole world.rows → AreWhole (with_removals kind response world).rows
removals_whole Cds response world whole = statuses_whole (status_left Cds response) world.rows whole
removals_whole Eds response world whole = whole
removals_whole Lds response world whole = statuses_whole (status_left Lds response) world.rows whole
removals_whole Rds response world whole = whole
removals_whole Sds response world whole = whole
removals_whole Ecds response world whole = whole

module _ (kind : Kind) (item : ItemParts) where
  -- a new generation, whichever chains it keeps
  new_whole : (kept : Content → World → List KeptChain) (body : Body) (world : World) → is_by_name kind ≡ false → AreWhole world.rows
      → AreWhole (with_content (λ content w. add_row kind item content (kept content w) w) body world).rows
  new_whole kept (Good content) world isnt whole =
      more_whole (with_statuses (replaced_status kind item.name) world.rows) (new_row kind world.made item.name content (kept content world))
      (statuses_whole (replaced_status kind item.name) world.rows whole) isnt
  new_whole kept (Bad rule) world isnt whole = whole
  new_whole kept Beat world isnt whole = whole

  back_whole : (body : Body) (world : World) → AreWhole world.rows → AreWhole (with_content (λ content. go_back kind item) body world).rows
  back_whole (Good content) world whole = statuses_whole (replaced_status kind item.name) world.rows whole
  back_whole (Bad rule) world whole = whole
  back_whole Beat world whole = whole

  same_whole : (body : Body) (world : World) → AreWhole world.rows → AreWhole (with_content (λ content. keep_version kind item) body world).rows
  same_whole (Good content) world whole = whole
  same_whole (Bad rule) world whole = whole
  same_whole Beat world whole = whole

  value_whole : (body : Body) (world : World) → AreWhole world.rows → AreWhole (with_content (keep_value kind item) body world).rows
  value_whole (Good content) world whole = whole
  value_whole (Bad rule) world whole = whole
  value_whole Beat world whole = whole

told_whole : (watched : Bool) (more world : World) → AreWhole more.rows → AreWhole world.rows → AreWhole (cond watched more world).rows
told_whole true more world first second = first
told_whole false more world first second = second

refused_whole : (kind : Kind) (name : List ℕ) (world : World) → AreWhole world.rows → AreWhole (refuse kind name world).rows
refused_whole Cds name world whole = whole
refused_whole Eds name world whole = told_whole (is_watched (lives_of world) Eds name) _ world whole whole
refused_whole Lds name world whole = whole
refused_whole Rds name world whole = told_whole (is_watched (lives_of world) Rds name) _ world whole whole
refused_whole Sds name world whole = told_whole (is_watched (lives_of world) Sds name) _ world whole whole
refused_whole Ecds name world whole = told_whole (is_watched (lives_of world) Ecds name) _ world whole whole

item_whole : (kind : Kind) (verdict : Verdict) (item : ItemParts) (world : World) → fits kind verdict ≡ true → AreWhole world.rows
    → AreWhole (add_item kind verdict item world).rows
item_whole kind New item world fit whole = new_whole kind item (λ content w. []) item.body world (by_name_not kind fit) whole
item_whole kind InPlace item world fit whole =
    new_whole kind item (λ content w. kept_from (serving_row kind item.name w.rows) content) item.body world (listener_not kind fit) whole
item_whole kind Back item world fit whole = back_whole kind item item.body world whole
item_whole kind Same item world fit whole = same_whole kind item item.body world whole
item_whole kind Kept item world fit whole = value_whole kind item item.body world whole
item_whole kind Unasked item world fit whole = whole
item_whole kind Renewed item world fit whole = whole
item_whole kind (Refused rule) item world fit whole = refused_whole kind item.name world whole

items_whole : (kind : Kind) (judged : List (Verdict × ItemParts)) (world : World) → ByRecursion (λ (one : Verdict × ItemParts). fits kind one.0 ≡ true) judged
    → AreWhole world.rows → AreWhole (fold (λ (w : World) (one : Verdict × ItemParts). add_item kind one.0 one.1 w) world judged).rows
items_whole kind [] world fit whole = whole
items_whole kind (one ∷ judged) world fit whole =
    items_whole kind judged (add_item kind one.0 one.1 world) fit.1 (item_whole kind one.0 one.1 world fit.0 whole)

first_whole : (kind : Kind) (names : List (List ℕ)) (world : World) → AreWhole world.rows → AreWhole (with_first kind names world).rows
first_whole Cds names world whole = whole
first_whole Eds names world whole = whole
first_whole Lds names world whole = whole
first_whole Rds names world whole = whole
first_whole Sds names world whole = whole
first_whole Ecds names world whole = whole

end_whole : (kind : Kind) (name : List ℕ) (world : World) → AreWhole world.rows → AreWhole (with_end kind name world).rows
end_whole Cds name world whole = statuses_whole (ended_status Cds name) world.rows whole
end_whole Eds name world whole = whole
end_whole Lds name world whole = statuses_whole (ended_status Lds name) world.rows whole
end_whole Rds name world whole = whole
end_whole Sds name world whole = whole
end_whole Ecds name world whole = whole

-- every event keeps it
pub step-whole : (format : Format) (world : World) (actor : Actor) (event : Event) → AreWhole world.rows → AreWhole (step format world actor event).0.rows
step-whole format world actor event whole =
    step-leads (λ (did : World × Answer). AreWhole did.0.rows) format world actor event (record {
      ignored = whole;
      connected = λ is. statuses_whole _ _ whole;
      disconnected = λ is. statuses_whole _ _ whole;
      replied = λ kind response is typed.
          let verdicts : List Verdict = verdicts_for kind (lives_of world) world.versions response in
          let left : World = with_removals kind response world in
          statuses_whole _ _
          (first_whole kind (made_names verdicts response.items) (add_items kind verdicts response.items left)
          (items_whole kind (zip verdicts response.items) left
          (judged_by (λ (one : Verdict × ItemParts). fits kind one.0 ≡ true) kind response world.versions
          (λ lives (item : ItemParts). verdict_fits kind response lives world.versions item) (lives_left kind response (lives_of world)) response.items)
          (removals_whole kind response world whole)));
      resulted = λ cluster host healthy rows is. statuses_whole _ _ whole;
      timed = λ timeout name is named. statuses_whole _ _ whole;
      clusters_late = λ timeout is. statuses_whole _ _ whole;
      listeners_late = λ timeout is. statuses_whole _ _ whole;
      expired = λ name numbers is. statuses_whole _ _ whole;
      ended = λ kind name is bounded. statuses_whole _ _ (end_whole kind name (forget_version kind name world) whole);
      unchanged = λ is. whole;
      published = λ is. whole;
      reaped = λ is. left-whole (λ (row : GenRow). not (is_dead format world row)) world.rows whole;
      accepted = λ ask worker is by. whole;
      closed = λ connection worker is by. whole;
      settled = λ worker is by. whole;
    })

-- what follows an event by itself keeps it
pub tidy-whole : (world : World) → AreWhole world.rows → AreWhole (tidy world).rows
tidy-whole world whole = statuses_whole (promoted_status world.arrivals world.results world.rows) world.rows whole
