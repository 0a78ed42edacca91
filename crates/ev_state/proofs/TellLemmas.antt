-- What is reported of changes is so: a picture shows the same of each number that isn't reported.
use Rattle.std.proofs.Common.{◌≡◌, ◌∙◌, ◌⊎◌, ℕ, Bool, true, false, cond, not, ◌&&◌, ◌||◌, nat_eq, List, [], ◌∷◌, ◌++◌, Option, None, Some, refl, sym, ap, subst}
use Rattle.std.proofs.lemmas.Bool.{false≢true, eqb-true}
use Rattle.ev_types.specs.Items.{ResponseParts}
use Rattle.ev_types.specs.Kinds.{kind_same}
use Rattle.ev_types.specs.Statuses.{is_live, is_active}
use Rattle.ev_types.specs.declared.contents.Kind.{Kind}
use Rattle.ev_types.specs.declared.contents.Kind.TheVariants.{Cds, Lds}
use Rattle.ev_types.specs.declared.events.Verdict.{Verdict}
use Rattle.ev_types.specs.declared.hosts.Host.{Host}
use Rattle.ev_types.specs.declared.rows.RowStatus.{RowStatus}
use Rattle.ev_types.specs.declared.rows.RowStatus.TheVariants.{Warming, Active, Draining, Dropped}
use Rattle.ev_types.specs.declared.rows.GenRow.{GenRow}
use Rattle.ev_model.specs.World.{World}
use Rattle.ev_model.specs.Phase.{is_serving, phase_after}
use Rattle.ev_model.specs.Rows.{arrived, with_removals, add_items, with_first}
use Rattle.ev_model.specs.Signals.{rows_meant, with_results, with_end, forget_version}
use Rattle.ev_model.specs.Tidy.{tidy, promoted, without_unwatched, without_old_results}
use Rattle.ev_model.specs.Warming.{value_by, assignment_by, is_healthy}
use Rattle.ev_types.specs.declared.rows.Arrival.TheVariants.{TimedOut}
use Rattle.ev_indexes.specs.Tables.{row_in}
use Rattle.ev_lookups.specs.Keys.{named}
use Rattle.ev_indexes.specs.Due.{is_one_of}
use Rattle.ev_warming.specs.Changes.{is_over, has_retired, began_to_serve, began_to_drain}
use Rattle.ev_indexes.specs.Indexes.{serves, numbers_where}
use Rattle.ev_indexes.specs.Worlds.{IsSound}
use Rattle.ev_warming.proofs.RemovalLemmas.{row_in-without}
use Rattle.ev_managers.specs.declared.managers.Managers.{Managers}
use Rattle.ev_managers.specs.Managers.{StandFor}
use Rattle.ev_managers.specs.Moved.{Grows, is_moved}
use Rattle.ev_state.specs.Changed.{HaveChanged, dependents_in, dependents_of, listeners_begun}
use Rattle.ev_state.specs.Retirements.{HaveRetired}
use Rattle.ev_state.specs.States.{without_over}
use Rattle.ev_state.proofs.GoneLemmas.{over-stays, over-goes}
use Rattle.ev_state.proofs.SameLemmas.{SameResults, same-changed, changed-more, changed-then}
use Rattle.ev_state.proofs.ValueLemmas.{value-quiet, mute-quiet}
use Rattle.ev_state.proofs.StillLemmas.{serving}
use Rattle.ev_state.proofs.KeepLemmas.{results-stay, unwatched-same, old_results-same, promoted-same}
use Rattle.ev_state.proofs.DependLemmas.{or_none, none-of, entered-same, ended-same}
use Rattle.ev_state.proofs.ResultLemmas.{resulted-same}
use Rattle.ev_state.proofs.BeginLemmas.{begun-changed}

-- where generations, values, results and the phase are the same, so is what a picture shows
pub quiet-changed : (changed : List ℕ) (before after : World) → after.rows ≡ before.rows → ((k : Kind) (q : List ℕ) → value_by after.arrivals k q ≡ value_by before.arrivals k q)
    → after.results ≡ before.results → after.phase ≡ before.phase → HaveChanged changed before after
quiet-changed changed before after rows values results phase = same-changed changed before after (record {
  clusters = record { rows = λ n other. λ i. serving Cds (row_in n (rows i)); values = λ n row other at needed q needs. values needed q };
  listeners = record { rows = λ n other. λ i. serving Lds (row_in n (rows i)); values = λ n row other at needed q needs. values needed q };
  results = λ n row other at.
      subst (λ rs. SameResults before.results rs row.number (assignment_by before.arrivals row.content)) (sym results)
      (results-stay before.results row.number (assignment_by before.arrivals row.content));
  phase = λ i. is_serving (phase i);
})

-- a fetch timeout brings no value
pub timeout-changed : (changed : List ℕ) (kind : Kind) (name : List ℕ) (world : World) → HaveChanged changed world (record world { arrivals = world.arrivals ++ arrived world.made kind TimedOut name ∷ [] })
timeout-changed changed kind name world =
    quiet-changed changed world (record world { arrivals = world.arrivals ++ arrived world.made kind TimedOut name ∷ [] }) refl
    (λ k q. value-quiet world.arrivals (arrived world.made kind TimedOut name ∷ []) k q (mute-quiet world.made kind TimedOut name k q refl)) refl refl

-- a generation that is over isn't shown
over_hidden : (kind : Kind) (found : Option GenRow) → is_over found ≡ true → serving kind found ≡ None
over_hidden kind None over = refl
over_hidden kind (Some row) over = by (kind_same row.kind kind) row.status over
  where
    by : (k : Bool) (status : RowStatus) → not (is_live status) ≡ true → cond (k && is_active status) (Some row) None ≡ None
    by false status over = refl
    by true Warming over = refl
    by true Active over = absurd (false≢true over)
    by true Draining over = refl
    by true Dropped over = refl

-- so that it goes changes nothing
pub left-changed : (number : ℕ) (world : World) → IsSound world → HaveChanged [] world (record world { rows = without_over number world.rows })
left-changed number world sound = by (is_over (row_in number world.rows)) refl
  where
    hidden : (kind : Kind) (n : ℕ) → is_over (row_in number world.rows) ≡ true → (b : Bool) → nat_eq number n ≡ b
        → serving kind (cond b None (row_in n world.rows)) ≡ serving kind (row_in n world.rows)
    hidden kind n over true is = sym (over_hidden kind (row_in n world.rows) ((λ i. is_over (row_in (sym (eqb-true number n is) i) world.rows)) ∙ over))
    hidden kind n over false isnt = refl

    rows : (kind : Kind) (n : ℕ) → is_over (row_in number world.rows) ≡ true → serving kind (row_in n (without_over number world.rows)) ≡ serving kind (row_in n world.rows)
    rows kind n over =
        (λ i. serving kind (row_in n (over-goes number world.rows sound.table.apart over i)))
        ∙ ap (serving kind) (row_in-without number n world.rows)
        ∙ hidden kind n over (nat_eq number n) refl

    by : (b : Bool) → is_over (row_in number world.rows) ≡ b → HaveChanged [] world (record world { rows = without_over number world.rows })
    by false isnt = quiet-changed [] world (record world { rows = without_over number world.rows }) (over-stays number world.rows sound.table.apart isnt) (λ k q. refl) refl refl
    by true over = same-changed [] world (record world { rows = without_over number world.rows }) (record {
      clusters = record { rows = λ n other. rows Cds n over; values = λ n row other at needed q needs. refl };
      listeners = record { rows = λ n other. rows Lds n over; values = λ n row other at needed q needs. refl };
      results = λ n row other at. results-stay world.results row.number (assignment_by world.arrivals row.content);
      phase = refl;
    })

-- these numbers have those that are put first, and those that retired
module _ (changed put retired : List ℕ) (m : Managers) (before after : World) (are : changed ≡ put ++ retired)
    (stand : StandFor m before) (have : HaveRetired retired before after) where
  parts : (n : ℕ) → is_one_of changed n ≡ false → (is_one_of put n ≡ false) × (has_retired n before.rows after.rows ≡ false)
  parts n other =
      let both = none-of put retired n ((λ i. is_one_of (sym are i) n) ∙ other) in
      (both.0, sym (have n) ∙ both.1)

  -- after a response, the dependents of each of its names
  pub entered-changed : (kind : Kind) (verdicts : List Verdict) (response : ResponseParts) (names : List (List ℕ))
      → after ≡ with_first kind names (add_items kind verdicts response.items (with_removals kind response before))
      → put ≡ dependents_of m.core.state kind response.items → HaveChanged changed before after
  entered-changed kind verdicts response names leads told =
      same-changed changed before after
      (entered-same changed m.core.state before after stand.rows (λ n other. (parts n other).1)
      kind verdicts response names leads (λ n other. (λ i. is_one_of (sym told i) n) ∙ (parts n other).0))

  -- after the end of a resource, those of its name
  pub ended-changed : (kind : Kind) (name : List ℕ) → after ≡ with_end kind name (forget_version kind name before)
      → put ≡ dependents_in m.core.state kind name → HaveChanged changed before after
  ended-changed kind name leads told =
      same-changed changed before after
      (ended-same changed m.core.state before after stand.rows (λ n other. (parts n other).1)
      kind name leads (λ n other. (λ i. is_one_of (sym told i) n) ∙ (parts n other).0))

-- after a health result, the cluster that serves the name, where the host was not as healthy before
pub resulted-changed : (changed : List ℕ) (m : Managers) (name : List ℕ) (host : Host) (healthy : Bool) (world : World)
    → StandFor m (with_results host healthy (rows_meant world.arrivals name host world.rows) world)
    → ((n : ℕ) → is_one_of changed n ≡ false
    → (is_one_of (numbers_where (serves (named Cds name)) m.core.state.table.rows) n ≡ false) ⊎ (is_healthy world.results n host ≡ healthy))
    → HaveChanged changed world (with_results host healthy (rows_meant world.arrivals name host world.rows) world)
resulted-changed changed m name host healthy world stand are =
    same-changed changed world (with_results host healthy (rows_meant world.arrivals name host world.rows) world)
    (resulted-same changed m.core.state name host healthy world stand.rows stand.sound.table.apart are)

-- what was reported, what came to serve or began to drain, and the listeners that come to serve together
module _ (old more all : List ℕ) (m after last : Managers) (before world : World)
    (stand : StandFor m world) (stand_after : StandFor after (promoted world)) (stand_last : StandFor last (without_old_results (without_unwatched (promoted world))))
    (moved : Grows old more (λ n. is_moved n m.core.state.table.rows after.core.state.table.rows)) where
  abbrev left : World
  left = without_old_results (without_unwatched (promoted world))

  told : (n : ℕ) → is_one_of more n ≡ false
      → (is_one_of old n ≡ false)
      × (began_to_serve n world.rows (promoted world).rows ≡ false)
      × (began_to_drain n world.rows (promoted world).rows ≡ false)
  told n other =
      let outer = or_none (is_one_of old n) (is_moved n world.rows (promoted world).rows)
      ((λ i. is_one_of old n || is_moved n (sym stand.rows i) (sym stand_after.rows i)) ∙ sym (moved n) ∙ other) in
      let inner = or_none (began_to_serve n world.rows (promoted world).rows) (began_to_drain n world.rows (promoted world).rows) outer.1 in
      (outer.0, inner.0, inner.1)

  pub tidied-changed : all ≡ more ++ listeners_begun world.phase (phase_after left) last.core.state → HaveChanged old before world → HaveChanged all before (tidy world)
  tidied-changed are have =
      let fewer : (n : ℕ) → is_one_of all n ≡ false → is_one_of more n ≡ false = λ n other. (split n other).0 in
      let none : (n : ℕ) → is_one_of all n ≡ false → is_one_of [] n ≡ false = λ n other. refl in
      let first = changed-more old all before world (λ n other. (told n (fewer n other)).0) have in
      let second = changed-more more all world (promoted world) fewer (same-changed more world (promoted world)
      (promoted-same more world (λ n other. (told n other).1) (λ n other. (told n other).2))) in
      let third = changed-more [] all (promoted world) (without_unwatched (promoted world)) none
      (same-changed [] (promoted world) (without_unwatched (promoted world)) (unwatched-same (promoted world))) in
      let fourth = changed-more [] all (without_unwatched (promoted world)) left none
      (same-changed [] (without_unwatched (promoted world)) left (old_results-same (without_unwatched (promoted world)))) in
      let fifth = begun-changed all last.core.state left stand_last.rows (λ n other. (split n other).1) in
      changed-then all before world (tidy world) first
      (changed-then all world (promoted world) (tidy world) second
      (changed-then all (promoted world) (without_unwatched (promoted world)) (tidy world) third
      (changed-then all (without_unwatched (promoted world)) left (tidy world) fourth fifth)))
    where
      split : (n : ℕ) → is_one_of all n ≡ false → (is_one_of more n ≡ false) × (is_one_of (listeners_begun world.phase (phase_after left) last.core.state) n ≡ false)
      split n other = none-of more (listeners_begun world.phase (phase_after left) last.core.state) n ((λ i. is_one_of (sym are i) n) ∙ other)
