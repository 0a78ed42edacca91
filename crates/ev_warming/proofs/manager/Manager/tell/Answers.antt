use Rattle.std.proofs.Common.{sym, subst, arith, ⊎_elim, Err}
use Rattle.std.specs.List.{list_any}
use Rattle.ev_types.specs.Texts.{IsName}
use Rattle.ev_lookups.specs.Keys.{named}
use Rattle.ev_indexes.specs.Indexes.{depends_on}
use Rattle.ev_warming.proofs.AbsenceLemmas.{unneeded, quiet-stands}
use Rattle.ev_warming.proofs.manager.Manager.tell.Goals as goal

pub returns-in-Err-Length-clause-stands : goal.returns-in-Err-Length-clause-stands
returns-in-Err-Length-clause-stands g c =
    let m = c.args.self.now in
    let name = c.args.name.now in
    let text = c.as_str.result.now in
    let bad : IsName text → ⊥ = λ named. ⊎_elim (λ none. absurd (omega (arith, named.given, none))) (λ long. absurd (omega (arith, named.short, long)))
    (c.in-Err-Length.ensures.length.0 (λ i. Err (c.in-Err-Length.field-0-is i))) in
    λ world stands.
    quiet-stands m.state world (list_any (depends_on (named c.args.kind name)) m.state.table.rows) c.args.kind c.args.arrival.now name
    (unneeded (named c.args.kind name) (λ named. bad (subst IsName (sym c.as_str.ensures.bytes) named)) m.state.table.rows c.requires.kept.needs) stands
