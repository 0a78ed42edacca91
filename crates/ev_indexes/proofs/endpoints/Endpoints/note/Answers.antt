use Rattle.ev_indexes.proofs.endpoints.Endpoints.note.Goals as goal

pub invariant_of-self-2 : goal.invariant_of-self-2
invariant_of-self-2 c = c.note_mark.ensures.marks c.self.inside.results c.note.new.self c.in_ok-note.ensures.ok c.self.invariant
