-- What is made of lines of filter chains.
use Rattle.std.proofs.Common.{◌≡◌, ℕ, List, Option, Ok, Err, Vec, inl, sym, subst}
use Rattle.std.specs.declared.alloc.Global.{Global}
use Rattle.ev_io.specs.declared.faults.ScriptFault.{ScriptFault}
use Rattle.ev_io.specs.declared.faults.ScriptFault.TheVariants.{Bad, Read, OutOfMemory as lacks_memory}
use Rattle.ev_script.specs.Faults.{Input, IsFaultOf}
use Rattle.ev_chain_lines.specs.Inputs.{MakesChains, IsChainsText}
use Rattle.ev_chain_lines.specs.Inputs.{TakesChains}
use Rattle.ev_chain_lines.specs.Lines.{chain_lines}
use Rattle.ev_chains.specs.Laws.{ConnectionsStay, ChainsStay}
use Rattle.ev_app.specs.declared.commands.Command.TheVariants.{Chains}
use Rattle.ev_app.specs.declared.made.Made.{Made}
use Rattle.ev_app.specs.declared.status.Status.TheVariants.{Done}
use Rattle.ev_app.specs.Chains.{IsChained}
use Rattle.ev_app.specs.Faults.{IsFirstEarly}
use Rattle.ev_app.specs.Input.{IsTakenFor}
use Rattle.ev_app.specs.Texts.{IsMadeBy}

taken : (before after : Option (List ℕ)) (input : Input) → TakesChains before after input → IsTakenFor Chains before after input
taken before after input takes = record { asked = takes.asked; taken = takes.taken; at_most = takes.at_most; ended = takes.ended }

first_early : (input : Input) (line number : ℕ) → IsFaultOf chain_lines input line number → IsFirstEarly Chains input line number
first_early input line number fault = record { place = fault.place; kind = fault.kind; stands = fault.first.stands; first = fault.first.first; told = fault.told; numbered = fault.numbered }

with_laws : (bytes text : List ℕ) → ConnectionsStay → ChainsStay → IsChainsText bytes text → IsChained bytes text
with_laws bytes text connections chains told = record {
  events = told.events;
  reads = told.reads;
  answers = told.answers;
  connections = connections told.events;
  chains = chains told.events;
}

-- the text answers the lines
pub chained : (before after : Option (List ℕ)) (text : Vec ℕ Global) (made : Made) → ConnectionsStay → ChainsStay → MakesChains before after (Ok text) → made.status ≡ Done → made.text ≡ text → IsMadeBy Chains before after (Ok made)
chained before after text made connections chains makes done same = record {
  input = makes.input;
  takes = taken before after makes.input makes.takes;
  is = record {
    ended = makes.is.ended;
    sound = record { early = makes.is.sound; late = λ whole line number no. no };
    answers = (done, with_laws makes.input.bytes made.text.items connections chains (subst (λ (t : Vec ℕ Global). IsChainsText makes.input.bytes t.items) (sym same) makes.is.text_of));
  };
}

-- or they have a fault, or go on
pub not_chained : (before after : Option (List ℕ)) (fault : ScriptFault) → MakesChains before after (Err fault) → IsMadeBy Chains before after (Err fault)
not_chained before after (Bad line number) makes = record { input = makes.input; takes = taken before after makes.input makes.takes; is = inl (first_early makes.input line number makes.is) }
not_chained before after Read makes = record { input = makes.input; takes = taken before after makes.input makes.takes; is = record { goes_on = makes.is.1; sound = makes.is.0 } }
not_chained before after lacks_memory makes = record { input = makes.input; takes = taken before after makes.input makes.takes; is = tt }
