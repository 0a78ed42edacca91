use Rattle.std.proofs.Common.{◌∙◌, ap}
use Rattle.ev_model.specs.Verdicts.{is_among}
use Rattle.ev_sotw.proofs.NameSetLemmas.{among_keys}
use Rattle.ev_sotw.proofs.name_set.NameSet.contains.Goals as goal

pub returns : goal.returns
returns c = c.contains.ensures ∙ among_keys c.args.name.now c.self.inside.names.keys ∙ ap (is_among c.args.name.now) c.self.view_is
