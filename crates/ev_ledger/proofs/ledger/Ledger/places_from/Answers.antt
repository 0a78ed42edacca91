use Rattle.std.proofs.Common.{ap, ◌∙◌}
use Rattle.std.proofs.lemmas.Result.{IfOk-weaker}
use Rattle.ev_ledger.specs.Members.{has_place, is_open_from}
use Rattle.ev_ledger.proofs.IndexLemmas.{has_place_on, open_from}
use Rattle.ev_ledger.proofs.ledger.Ledger.places_from.Goals as goal

pub returns : goal.returns
returns c = record {
  places =
      IfOk-weaker c.places_under.result _ _
      (λ v is worker connection. ap (has_place worker connection) is
      ∙ has_place_on c.number.result worker connection c.self.inside.begun.keys
      ∙ c.self.invariant.begun_indexed c.number.result (worker, connection)
      ∙ open_from c.number.result worker connection c.self.inside.members.entries c.len.ensures.ordered
      ∙ ap (is_open_from c.number.result worker connection) c.self.view_is
      ∙ ap (λ n. is_open_from n worker connection c.args.self.now) c.number.ensures.number) c.places_under.ensures;
}
