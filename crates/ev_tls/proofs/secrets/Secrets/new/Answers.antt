use Rattle.std.proofs.Common.{refl}
use Rattle.ev_tls.proofs.secrets.Secrets.new.Goals as goal

pub returns : goal.returns
returns c = λ profile own. record {
  stream = refl;
  told = c.new.ensures;
  values = c.new-2.ensures;
  waiting = c.new-3.ensures c.new.result;
  complete = c.new-4.ensures c.new.result;
}
