use Rattle.ev_dns.proofs.LawLemmas.{last_answer}
use Rattle.ev_dns.proofs.laws.answers_are_last.Goals as goal

pub returns : goal.returns
returns c = last_answer
