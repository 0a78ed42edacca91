-- The text of the replay of a script of the state of the world.
use Rattle.std.proofs.Common.{◌≡◌, ◌∙◌, map}
use Rattle.ev_sotw.specs.Text.{stated_by, sotw_text}
use Rattle.ev_app.proofs.SotwLemmas.{sotw_told}
use Rattle.ev_app.proofs.sotw.sotw_text.Goals as goal

pub returns : goal.returns
returns c = λ input trees read same versions.
    let entries : c.journal.result.now ≡ c.in_ok-registry.registry.journaled.journal = c.journal.ensures.entries in
    sotw_told input trees c.args.script.now c.in_ok-registry.registry.journaled c.in_ok-text.field-0.items
    c.runs_have_the_laws.ensures c.replay_is_a_run_of_its_script.ensures c.same_world.ensures
    read c.workers_of-workers.ensures.kept same c.in_ok-registry.ensures c.journal.ensures.run
    (c.in_ok-text.ensures ∙ (λ i. sotw_text (c.workers_of-workers.ensures.workers i) (map (stated_by (versions i)) (entries i))))
