use Rattle.std.proofs.Common.{refl}
use Rattle.ev_retirement.proofs.MoreLemmas.{taken_out}
use Rattle.ev_retirement.proofs.asking.Asking.forget.Goals as goal

pub returns : goal.returns
returns c = record {
  asked = λ other. taken_out c.args.number other _ _ (c.remove.ensures.updates.0 other);
  aside = λ version other. refl;
}
