use Rattle.std.proofs.Common.{◌≡◌, ◌∙◌, ◌+◌, ◌++◌, [], ◌∷◌, Some, cond}
use Rattle.ev_model.specs.Rows.{new_row}
use Rattle.ev_model.specs.Watching.{dependencies_of}
use Rattle.ev_lookups.specs.Keys.{key_same, named}
use Rattle.ev_indexes.specs.declared.state.State.{State}
use Rattle.ev_indexes.specs.Addresses.{listens_at, numbers_at}
use Rattle.ev_indexes.specs.Due.{is_one_of}
use Rattle.ev_indexes.specs.Ready.{is_due_at}
use Rattle.ev_indexes.specs.Standings.{standing_in}
use Rattle.ev_indexes.specs.Watched.{watch_in, watched_for}
use Rattle.ev_warming.proofs.AddLemmas.{indexed-added}
use Rattle.ev_warming.proofs.AddedLemmas.{added-stands}
use Rattle.ev_warming.proofs.WayLemmas.{marks-then}
use Rattle.ev_warming.proofs.changes.add.Goals as goal

pub returns-clause-indexed : goal.returns-clause-indexed
returns-clause-indexed g c =
    let s = c.drop_warming.new.state in
    let name = c.args.name in
    let content = c.args.content.now in
    let number : c.in_ok-number.number ≡ s.table.made + 1 = c.in_ok-number.ensures.number in
    indexed-added s c.drop_warming.ensures.indexed c.args.kind name content c.args.chains c.drop_warming.ensures.alone c.add.new.self
    (c.in_ok-number.ensures.added ∙ (λ i. s.table.rows ++ new_row c.args.kind s.table.made (c.in_ok-copy.ensures.equal i) (c.in_ok-copy-2.ensures.equal i) c.args.chains ∷ []))
    c.in_ok-number.ensures.made
    c.in_ok-number.ensures.table
    c.enter.new.self
    (λ q. c.in_ok-enter.ensures.ok q ∙ (λ i. cond (key_same (named c.args.kind name) q) (record { active = (c.standing-active.ensures i).active; warming = Some (number i) }) (standing_in s.names q)))
    c.watch.new.watches
    (λ q. c.in_ok-watch.ensures.watched q ∙ (λ i. watched_for (number i) q (dependencies_of content) (watch_in s.watches q)))
    c.hold.new.self
    (λ a. c.in_ok-hold.ensures a ∙ (λ i. numbers_at s.addresses a ++ cond (listens_at a content) (number i ∷ []) []))
    c.refresh.new.due
    (λ n. c.in_ok-refresh.ensures.due n ∙ (λ i. cond (is_one_of (number i ∷ []) n) (is_due_at c.watch.new.watches s.results n c.add.new.self.rows) (is_one_of s.due n)))

pub returns-clause-rows : goal.returns-clause-rows
returns-clause-rows g c =
    let d = c.drop_warming.ensures in
    c.in_ok-number.ensures.added
    ∙ (λ i. d.rows i ++ new_row c.args.kind (d.made i) (c.in_ok-copy.ensures.equal i) (c.in_ok-copy-2.ensures.equal i) c.args.chains ∷ [])

pub returns-clause-marks : goal.returns-clause-marks
returns-clause-marks g c =
    let watched = c.in_ok-watch.ensures.watched in
    marks-then c.args.state.now.watches c.drop_warming.new.state.watches c.watch.new.watches c.drop_warming.ensures.marks
    (λ q. (λ i. (watched q i).told, λ i. (watched q i).timed, λ i. (watched q i).value))

pub returns-clause-stands : goal.returns-clause-stands
returns-clause-stands g c =
    let s = c.args.state.now in
    let d = c.drop_warming.ensures in
    let t : State = record c.drop_warming.new.state { table = c.add.new.self; names = c.enter.new.self; watches = c.watch.new.watches; addresses = c.hold.new.self; due = c.refresh.new.due } in
    λ world stands.
    added-stands s t world c.args.kind c.args.name c.args.content.now c.args.chains c.as_str-text.ensures.named c.requires.typed c.requires.indexed stands
    (λ i. (d.others i).results) (c.in_ok-number.ensures.made ∙ (λ i. d.made i + 1))
    (returns-clause-marks g c) (returns-clause-rows g c)
