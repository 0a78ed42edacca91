use Rattle.std.proofs.Common.{◌∙◌, ap, map, string_bytes}
use Rattle.ev_sotw.specs.Names.{with_name}
use Rattle.ev_sotw.proofs.NameSetLemmas.{keys-in_order, inserted}
use Rattle.ev_sotw.proofs.name_set.NameSet.insert.Goals as goal

pub invariant_of-self-2 : goal.invariant_of-self-2
invariant_of-self-2 c = keys-in_order c.insert.new.self.keys c.insert.ensures.ordered

pub returns-clause-ok : goal.returns-clause-ok
returns-clause-ok c =
    inserted (string_bytes c.in_ok-from_str.field-0) c.self.inside.names c.insert.new.self c.in_ok-insert.ensures.updates c.insert.ensures.ordered
    ∙ ap (λ n. with_name n (map string_bytes c.self.inside.names.keys)) c.in_ok-from_str.ensures.ok ∙ ap (with_name c.args.name.now) c.self.view_is
