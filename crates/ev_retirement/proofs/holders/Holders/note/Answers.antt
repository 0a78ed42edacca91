use Rattle.std.proofs.Common.{◌≡◌, false, refl, sym, ap, ◌∙◌}
use Rattle.ev_drain.specs.Retired.{has_row, newly_retired}
use Rattle.ev_retirement.specs.Holders.{HoldersParts}
use Rattle.ev_retirement.proofs.FoundLemmas.{retire_found}
use Rattle.ev_retirement.proofs.AskLemmas.{more_kept, retire_kept}
use Rattle.ev_retirement.proofs.holders.Holders.note.Goals as goal

pub invariant_of-self : goal.invariant_of-self
invariant_of-self c = record {
  asked = more_kept c.self.inside.asking c.ask.new.self _ c.ask.ensures.more c.self.invariant.asked;
  found = c.self.invariant.found;
}

pub invariant_of-self-2 : goal.invariant_of-self-2
invariant_of-self-2 c =
    let holders : HoldersParts = record { pictures = c.self.inside.pictures; ledger = c.self.inside.ledger; drain = c.self.inside.drain } in
    let absent : has_row c.self.inside.drain c.args.row.now.number ≡ false =
    ap (λ (v : HoldersParts). has_row v.drain c.args.row.now.number) c.self.view_is ∙ sym c.has_retired.ensures ∙ c.if-has_retired.false in
    record {
      asked = retire_kept c.retire.result c.ask.new.self holders (newly_retired c.args.row.now.kind c.args.row.now.number c.args.row.now.name c.is_dropped-dropped.result) c.retire.new.self
          c.retire.ensures.retired c.retire.ensures.err c.in-Ok.ensures.asked absent
          (more_kept c.self.inside.asking c.ask.new.self holders c.ask.ensures.more c.self.invariant.asked);
      found = retire_found c.retire.result c.self.inside.closing c.self.inside.drain c.retire.new.self c.self.inside.pictures.last.shown (newly_retired c.args.row.now.kind c.args.row.now.number c.args.row.now.name c.is_dropped-dropped.result) c.self.inside.ledger refl c.retire.ensures.retired c.retire.ensures.err c.self.invariant.found;
    }
