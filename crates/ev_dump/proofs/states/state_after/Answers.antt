use Rattle.std.proofs.Common.{◌≡◌, subst, ap, take, ◌∙◌}
use Rattle.std.proofs.lemmas.Result.{IfOk-weaker}
use Rattle.ev_types.specs.Scripts.{IsScript}
use Rattle.ev_model.specs.Finding.{journal_told}
use Rattle.ev_model.specs.World.{opening}
use Rattle.ev_dump.specs.Fronts.{IsFront}
use Rattle.ev_dump.proofs.FrontLemmas.{fronts_are_runs}
use Rattle.ev_dump.proofs.StepLemmas.{run_of, steps_again, stepped_of}
use Rattle.ev_dump.proofs.states.state_after.Goals as goal

pub entries_told-requires : goal.entries_told-requires
entries_told-requires c =
    let kept : IsScript c.args.script.now = subst IsScript c.script.view_is c.script.invariant in
    record { told = (fronts_are_runs c.args.format c.args.script.now c.args.rows.now c.args.entries kept c.requires.legal c.requires.ends).told }

pub of_journal-requires-clause-run : goal.of_journal-requires-clause-run
of_journal-requires-clause-run c =
    let kept : IsScript c.args.script.now = subst IsScript c.script.view_is c.script.invariant in
    let front : IsFront c.args.format c.args.script.now c.args.rows.now c.args.entries =
    fronts_are_runs c.args.format c.args.script.now c.args.rows.now c.args.entries kept c.requires.legal c.requires.ends in
    run_of c.args.format c.args.script.now.workers c.script.inside.workers c.args.script.now.node c.script.inside.node
    (take c.args.entries (journal_told c.args.script.now c.args.rows.now)) c.in_ok-front.front.items
    (ap (λ s. s.workers) c.script.view_is) (ap (λ s. s.node) c.script.view_is) (c.in_ok-front.ensures.entries ∙ front.journal) front.run

pub of_journal-requires-clause-stepped : goal.of_journal-requires-clause-stepped
of_journal-requires-clause-stepped c =
    let kept : IsScript c.args.script.now = subst IsScript c.script.view_is c.script.invariant in
    let front : IsFront c.args.format c.args.script.now c.args.rows.now c.args.entries =
    fronts_are_runs c.args.format c.args.script.now c.args.rows.now c.args.entries kept c.requires.legal c.requires.ends in
    stepped_of c.args.format c.args.script.now.workers c.script.inside.workers c.args.script.now.node c.script.inside.node
    (take c.args.entries (journal_told c.args.script.now c.args.rows.now)) c.in_ok-front.front.items
    (ap (λ s. s.workers) c.script.view_is) (ap (λ s. s.node) c.script.view_is) (c.in_ok-front.ensures.entries ∙ front.journal)
    (steps_again c.args.format c.args.script.now.workers (opening c.args.script.now.workers c.args.script.now.node)
    (take c.args.entries (journal_told c.args.script.now c.args.rows.now)) front.run.answers front.numbers)

pub returns : goal.returns
returns c =
    let kept : IsScript c.args.script.now = subst IsScript c.script.view_is c.script.invariant in
    let front : IsFront c.args.format c.args.script.now c.args.rows.now c.args.entries =
    fronts_are_runs c.args.format c.args.script.now c.args.rows.now c.args.entries kept c.requires.legal c.requires.ends in
    let items : c.in_ok-front.front.items ≡ take c.args.entries (journal_told c.args.script.now c.args.rows.now) =
    c.in_ok-front.ensures.entries ∙ front.journal in
    record {
      journal = IfOk-weaker c.of_journal.result
          (λ made. made.journaled ≡ record {
            format = c.args.format;
            workers = c.script.inside.workers;
            node = c.script.inside.node;
            journal = c.in_ok-front.front.items;
          })
          (λ made. made.journaled ≡ record {
            format = c.args.format;
            workers = c.args.script.now.workers;
            node = c.args.script.now.node;
            journal = take c.args.entries (journal_told c.args.script.now c.args.rows.now);
          })
          (λ made is. is ∙ (λ i. record {
            format = c.args.format;
            workers = (c.script.view_is i).workers;
            node = (c.script.view_is i).node;
            journal = items i;
          }))
          c.of_journal.ensures.shown;
    }
