use Rattle.std.proofs.Common.{◌≡◌, ◌∙◌, ◌||◌, [], cond, option_to_list, sym, subst}
use Rattle.ev_types.specs.declared.contents.Kind.TheVariants.{Cds}
use Rattle.ev_model.specs.Signals.{rows_meant, with_results}
use Rattle.ev_lookups.specs.Keys.{named}
use Rattle.ev_indexes.specs.declared.state.State.{State}
use Rattle.ev_warming.specs.Forgetting.{IsTidyBut}
use Rattle.ev_warming.specs.Health.{takes_at, NotesEach}
use Rattle.ev_indexes.specs.Indexes.{MarksAssignment}
use Rattle.ev_indexes.specs.Standings.{standing_in}
use Rattle.ev_indexes.specs.Worlds.{HasRows}
use Rattle.ev_warming.proofs.HealthLemmas.{any-meant, notes-both, any_meant-same, noted-stands, noted-tidy}
use Rattle.ev_warming.proofs.health.note.Goals as goal

pub returns-then-served-clause-meant : goal.returns-then-served-clause-meant
returns-then-served-clause-meant g c =
    let s = c.args.state.now in
    let o = c.in_ok-served.ensures.others in
    let takes_served : c.in_ok-served.served ≡ takes_at s.watches c.args.host.now (standing_in s.names (named Cds c.args.name.now)).active s.table.rows =
    c.in_ok-served.ensures.meant ∙ (λ i. takes_at s.watches c.args.host.now (c.standing-standing.ensures i).active s.table.rows) in
    let takes_warmed : c.in_ok-warmed.warmed ≡ takes_at s.watches c.args.host.now (standing_in s.names (named Cds c.args.name.now)).warming s.table.rows =
    c.in_ok-warmed.ensures.meant ∙ (λ i. takes_at (o i).watches c.args.host.now (c.standing-standing.ensures i).warming (o i).table.rows) in
    c.if-served.true ∙ sym (any-meant s c.requires.indexed c.args.name.now c.args.host.now c.in_ok-served.served c.in_ok-warmed.warmed takes_served takes_warmed
    ∙ (λ i. c.if-served.true i || c.in_ok-warmed.warmed))

pub returns-then-served-clause-results : goal.returns-then-served-clause-results
returns-then-served-clause-results g c =
    let s = c.args.state.now in
    let o = c.in_ok-served.ensures.others in
    let takes_served : c.in_ok-served.served ≡ takes_at s.watches c.args.host.now (standing_in s.names (named Cds c.args.name.now)).active s.table.rows =
    c.in_ok-served.ensures.meant ∙ (λ i. takes_at s.watches c.args.host.now (c.standing-standing.ensures i).active s.table.rows) in
    let takes_warmed : c.in_ok-warmed.warmed ≡ takes_at s.watches c.args.host.now (standing_in s.names (named Cds c.args.name.now)).warming s.table.rows =
    c.in_ok-warmed.ensures.meant ∙ (λ i. takes_at (o i).watches c.args.host.now (c.standing-standing.ensures i).warming (o i).table.rows) in
    notes-both s c.requires.indexed c.args.name.now c.args.host.now c.in_ok-served.served c.in_ok-warmed.warmed takes_served takes_warmed c.args.healthy
    c.note_at.new.state.results c.note_at-2.new.state.results
    (subst (λ l. NotesEach s.results c.note_at.new.state.results (cond c.in_ok-served.served (option_to_list l.active) []) c.args.host.now c.args.healthy) c.standing-standing.ensures c.in_ok-served.ensures.results)
    (subst (λ l. NotesEach c.note_at.new.state.results c.note_at-2.new.state.results (cond c.in_ok-warmed.warmed (option_to_list l.warming) []) c.args.host.now c.args.healthy) c.standing-standing.ensures c.in_ok-warmed.ensures.results)

pub returns-then-served-clause-stands : goal.returns-then-served-clause-stands
returns-then-served-clause-stands g c = λ world stands.
    let s = c.args.state.now in
    let o = c.in_ok-served.ensures.others in
    let u = c.note_at-2.new.state in
    let whole : u ≡ record s { results = u.results; due = u.due } = c.in_ok-warmed.ensures.others ∙ (λ i. record (o i) { results = u.results; due = u.due }) in
    subst (λ (v : State). HasRows v (with_results c.args.host.now c.args.healthy (rows_meant world.arrivals c.args.name.now c.args.host.now world.rows) world)) (sym whole)
    (noted-stands s world stands c.requires.indexed c.args.name.now c.args.host.now c.args.healthy u.results u.due (returns-then-served-clause-results g c))

pub returns-then-served-clause-ignored : goal.returns-then-served-clause-ignored
returns-then-served-clause-ignored g c = λ world stands.
    returns-then-served-clause-meant g c ∙ any_meant-same c.args.state.now world stands c.requires.indexed c.args.name.now c.args.host.now

pub returns-else-served-clause-meant : goal.returns-else-served-clause-meant
returns-else-served-clause-meant g c =
    let s = c.args.state.now in
    let o = c.in_ok-served.ensures.others in
    let takes_served : c.in_ok-served.served ≡ takes_at s.watches c.args.host.now (standing_in s.names (named Cds c.args.name.now)).active s.table.rows =
    c.in_ok-served.ensures.meant ∙ (λ i. takes_at s.watches c.args.host.now (c.standing-standing.ensures i).active s.table.rows) in
    let takes_warmed : c.in_ok-warmed.warmed ≡ takes_at s.watches c.args.host.now (standing_in s.names (named Cds c.args.name.now)).warming s.table.rows =
    c.in_ok-warmed.ensures.meant ∙ (λ i. takes_at (o i).watches c.args.host.now (c.standing-standing.ensures i).warming (o i).table.rows) in
    sym (any-meant s c.requires.indexed c.args.name.now c.args.host.now c.in_ok-served.served c.in_ok-warmed.warmed takes_served takes_warmed
    ∙ (λ i. c.if-served.false i || c.in_ok-warmed.warmed))

pub returns-else-served-clause-results : goal.returns-else-served-clause-results
returns-else-served-clause-results g c =
    let s = c.args.state.now in
    let o = c.in_ok-served.ensures.others in
    let takes_served : c.in_ok-served.served ≡ takes_at s.watches c.args.host.now (standing_in s.names (named Cds c.args.name.now)).active s.table.rows =
    c.in_ok-served.ensures.meant ∙ (λ i. takes_at s.watches c.args.host.now (c.standing-standing.ensures i).active s.table.rows) in
    let takes_warmed : c.in_ok-warmed.warmed ≡ takes_at s.watches c.args.host.now (standing_in s.names (named Cds c.args.name.now)).warming s.table.rows =
    c.in_ok-warmed.ensures.meant ∙ (λ i. takes_at (o i).watches c.args.host.now (c.standing-standing.ensures i).warming (o i).table.rows) in
    notes-both s c.requires.indexed c.args.name.now c.args.host.now c.in_ok-served.served c.in_ok-warmed.warmed takes_served takes_warmed c.args.healthy
    c.note_at.new.state.results c.note_at-2.new.state.results
    (subst (λ l. NotesEach s.results c.note_at.new.state.results (cond c.in_ok-served.served (option_to_list l.active) []) c.args.host.now c.args.healthy) c.standing-standing.ensures c.in_ok-served.ensures.results)
    (subst (λ l. NotesEach c.note_at.new.state.results c.note_at-2.new.state.results (cond c.in_ok-warmed.warmed (option_to_list l.warming) []) c.args.host.now c.args.healthy) c.standing-standing.ensures c.in_ok-warmed.ensures.results)

pub returns-else-served-clause-stands : goal.returns-else-served-clause-stands
returns-else-served-clause-stands g c = λ world stands.
    let s = c.args.state.now in
    let o = c.in_ok-served.ensures.others in
    let u = c.note_at-2.new.state in
    let whole : u ≡ record s { results = u.results; due = u.due } = c.in_ok-warmed.ensures.others ∙ (λ i. record (o i) { results = u.results; due = u.due }) in
    subst (λ (v : State). HasRows v (with_results c.args.host.now c.args.healthy (rows_meant world.arrivals c.args.name.now c.args.host.now world.rows) world)) (sym whole)
    (noted-stands s world stands c.requires.indexed c.args.name.now c.args.host.now c.args.healthy u.results u.due (returns-else-served-clause-results g c))

pub returns-else-served-clause-ignored : goal.returns-else-served-clause-ignored
returns-else-served-clause-ignored g c = λ world stands.
    returns-else-served-clause-meant g c ∙ any_meant-same c.args.state.now world stands c.requires.indexed c.args.name.now c.args.host.now

pub returns-then-served-clause-tidy : goal.returns-then-served-clause-tidy
returns-then-served-clause-tidy g c = λ stale tidy.
    let s = c.args.state.now in
    let o = c.in_ok-served.ensures.others in
    let u = c.note_at-2.new.state in
    let whole : u ≡ record s { results = u.results; due = u.due } = c.in_ok-warmed.ensures.others ∙ (λ i. record (o i) { results = u.results; due = u.due }) in
    subst (λ (v : State). IsTidyBut v stale) (sym whole)
    (noted-tidy s c.requires.indexed c.args.name.now c.args.host.now c.args.healthy u.results u.due (returns-then-served-clause-results g c)
    (λ n was. subst (λ (v : State). MarksAssignment v n) whole (c.in_ok-warmed.ensures.marked n (c.in_ok-served.ensures.marked n was))) stale tidy)

pub returns-else-served-clause-tidy : goal.returns-else-served-clause-tidy
returns-else-served-clause-tidy g c = λ stale tidy.
    let s = c.args.state.now in
    let o = c.in_ok-served.ensures.others in
    let u = c.note_at-2.new.state in
    let whole : u ≡ record s { results = u.results; due = u.due } = c.in_ok-warmed.ensures.others ∙ (λ i. record (o i) { results = u.results; due = u.due }) in
    subst (λ (v : State). IsTidyBut v stale) (sym whole)
    (noted-tidy s c.requires.indexed c.args.name.now c.args.host.now c.args.healthy u.results u.due (returns-else-served-clause-results g c)
    (λ n was. subst (λ (v : State). MarksAssignment v n) whole (c.in_ok-warmed.ensures.marked n (c.in_ok-served.ensures.marked n was))) stale tidy)
