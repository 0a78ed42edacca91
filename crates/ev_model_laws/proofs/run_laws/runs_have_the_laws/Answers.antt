use Rattle.ev_model_laws.proofs.AllLaws.{all_laws}
use Rattle.ev_model_laws.proofs.run_laws.runs_have_the_laws.Goals as goal

pub returns : goal.returns
returns c = λ format workers node journal run. all_laws (record { format = format; workers = workers; node = node; journal = journal }) run.answers
