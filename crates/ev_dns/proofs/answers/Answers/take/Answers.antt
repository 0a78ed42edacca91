use Rattle.std.proofs.Common.{ℕ, List, Option, None, cond, sym, ap, ◌∙◌}
use Rattle.std.specs.Str.{bytes_eq}
use Rattle.std.proofs.lemmas.Result.{on_ok_weaker}
use Rattle.ev_dns.specs.Known.{known_addresses, later_addresses}
use Rattle.ev_dns.proofs.PairLemmas.{on_ok_both}
use Rattle.ev_dns.proofs.AnswerLemmas.{later_failed}
use Rattle.ev_dns.proofs.answers.Answers.take.Goals as goal

pub returns-in-None : goal.returns-in-None
returns-in-None c =
    on_ok_weaker c.note.result
    (λ both. record {
      answered = both.0;
      addresses = λ name.
          both.1 name ∙ later_failed (bytes_eq c.args.resolution.name name) (known_addresses c.args.self.now name)
          ∙ ap (λ (given : Option (List (List ℕ))). later_addresses (known_addresses c.args.self.now name) (cond (bytes_eq c.args.resolution.name name) given None)) (sym c.in-None.is);
    })
    (on_ok_both _ _ c.note.result c.note.ensures.answered c.note.ensures.addresses)
