use Rattle.std.proofs.Common.{◌∙◌, Some, None}
use Rattle.ev_chains.proofs.ChoiceLemmas.{equal_number, number_if}
use Rattle.ev_chains.proofs.listed.Listed.number_of.Goals as goal

pub returns-in-Some : goal.returns-in-Some
returns-in-Some c =
    c.if_same.ensures ∙ number_if c.args.chain.now c.in-Some.row.now
    ∙ equal_number c.in_ok-key.key c.args.chain.now c.args.self.now (Some c.in-Some.row.now) c.in_ok-key.ensures c.requires c.in-Some.ensures

pub returns : goal.returns
returns c = equal_number c.in_ok-key.key c.args.chain.now c.args.self.now None c.in_ok-key.ensures c.requires c.in-None.ensures
