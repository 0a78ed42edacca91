use Rattle.std.proofs.Common.{◌∙◌, ◌<◌, ◌≤◌, ◌&&◌, ℕ, List, length, get_or, sym, subst}
use Rattle.ev_model.specs.Verdicts.{is_among}
use Rattle.std.proofs.lemmas.List.{take_all}
use Rattle.std.specs.List.{list_any}
use Rattle.ev_types.specs.declared.rows.Arrival.TheVariants.{Absent}
use Rattle.ev_lookups.specs.Keys.{named}
use Rattle.ev_indexes.specs.Indexes.{depends_on}
use Rattle.ev_indexes.specs.Worlds.{HasRows}
use Rattle.ev_warming.specs.Changes.{is_unlisted}
use Rattle.ev_warming.specs.Arrivals.{told_where}
use Rattle.ev_warming.proofs.ForgottenLemmas.{watched-same}
use Rattle.ev_warming.proofs.AbsenceLemmas.{with_absent, absent-more}
use Rattle.ev_warming.proofs.ResponseLemmas.{listed-at}
use Rattle.ev_warming.proofs.manager.Manager.tell_absences.Goals as goal

pub loop-name-preserved : goal.loop-name-preserved
loop-name-preserved g c =
    let i = c.loop-name.invariant in
    let e = c.in_ok-tell_absence.ensures in
    let s0 = c.args.self.now.state in
    let s = c.loop-name.self.state in
    let t = c.tell_absence.new.self.state in
    let response = c.args.mentions.now in
    let name = c.name-item.result in
    let place = c.loop-name.name-index in
    let within : place < length response.removed = subst (λ (n : _). place < n) (λ j. length (i.items j)) c.loop-name-test.true in
    record {
      kept = e.kept;
      table = e.table ∙ i.table;
      items = i.items;
      stands = λ world stands.
          absent-more s t world response c.args.kind s0.table.rows place name within (c.name-item.is ∙ (λ j. get_or (i.items j) place name)) (watched-same s0 world stands (named c.args.kind name)) (i.stands world stands)
          (λ w standing.
          subst (HasRows t) (λ j. told_where (is_unlisted response name && list_any (depends_on (named c.args.kind name)) (i.table j).rows) c.args.kind Absent name w) (e.stands w standing));
    }

pub tell_absence-requires-clause-listed : goal.tell_absence-requires-clause-listed
tell_absence-requires-clause-listed g c =
    (λ i. is_among c.name-item.result (sym c.loop-name.invariant.items i))
    ∙ listed-at c.as_slice-name-items.result.now c.loop-name.name-index c.name-item.result c.loop-name-test.true c.name-item.is

pub returns-clause-stands : goal.returns-clause-stands
returns-clause-stands g c =
    let response = c.args.mentions.now in
    let kind = c.args.kind in
    let done : length response.removed ≤ c.loop-name.name-index = subst (λ (names : List (List ℕ)). length names ≤ c.loop-name.name-index) c.loop-name.invariant.items c.loop-name-test.false in
    λ world stands.
    subst (λ (names : List (List ℕ)). HasRows c.loop-name.self.state (with_absent response kind world names)) (take_all c.loop-name.name-index response.removed done) (c.loop-name.invariant.stands world stands)
