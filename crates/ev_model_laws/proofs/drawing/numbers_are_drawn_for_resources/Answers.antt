use Rattle.ev_model_laws.proofs.RunNumberLemmas.{after_made, journal_made, rest_made, step_made}
use Rattle.ev_model_laws.proofs.drawing.numbers_are_drawn_for_resources.Goals as goal

pub returns : goal.returns
returns c = record { steps = step_made; rests = rest_made; runs = after_made; journals = journal_made }
