use Rattle.std.proofs.Common.{◌++◌, Option, nat_eq, is_some, map, ap, sym, ◌∙◌}
use Rattle.std.specs.Option.{option_to_list}
use Rattle.indexmap.proofs.CallerLemmas.{insert_entry-new}
use Rattle.ev_ledger.specs.declared.open_on.On.{On}
use Rattle.ev_worker.proofs.members.open_on.Goals as goal

pub returns-clause-entries : goal.returns-clause-entries
returns-clause-entries c =
    let none = c.requires.absent (ap is_some c.in-Some.is) in
    c.in-Ok.ensures.entries
    ∙ insert_entry-new nat_eq c.args.members.now c.args.conn c.in-Some.on none
    ∙ ap (λ (on : Option On). c.args.members.now.entries ++ map (λ (o : On). (c.args.conn, o)) (option_to_list on)) (sym c.in-Some.is)
