use Rattle.std.proofs.Common.{◌∙◌}
use Rattle.std.proofs.lemmas.Result.{IfOk-weaker}
use Rattle.ev_indexes.proofs.HolderLemmas.{holders-rows, holders-world}
use Rattle.ev_indexes.proofs.state.State.holders.Goals as goal

pub returns-clause-rows : goal.returns-clause-rows
returns-clause-rows c = IfOk-weaker c.lives_at.result _ _ (λ lives e. e ∙ holders-rows c.args.self.now c.requires.indexed c.args.address.now) c.lives_at.ensures

pub returns-clause-world : goal.returns-clause-world
returns-clause-world c =
    let s = c.args.self.now in
    IfOk-weaker c.lives_at.result _ _ (λ lives e world stands.
    e ∙ holders-rows s c.requires.indexed c.args.address.now ∙ holders-world s c.requires.indexed c.args.address.now world stands) c.lives_at.ensures
