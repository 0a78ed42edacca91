use Rattle.std.proofs.Common.{refl}
use Rattle.ev_dns.proofs.resolutions.Resolutions.new.Goals as goal

pub returns : goal.returns
returns c = λ profile. record {
  stream = refl;
  answers = record { answered = λ name. c.new.ensures.answered name; addresses = λ name. c.new.ensures.addresses name };
  waiting = c.new-2.ensures c.new.result;
  complete = c.new-3.ensures c.new.result;
}
