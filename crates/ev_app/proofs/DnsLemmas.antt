-- What is made of a script with resolutions, whose clusters wait for the addresses of their hosts.
use Rattle.std.proofs.Common.{◌≡◌, ℕ, false, List, Option, Some, Result, Ok, Err, Vec, inl, inr, refl}
use Rattle.std.specs.declared.alloc.Global.{Global}
use Rattle.serde_json.specs.View.{view}
use Rattle.ev_io.specs.declared.faults.ScriptFault.{ScriptFault}
use Rattle.ev_io.specs.declared.faults.ScriptFault.TheVariants.{Bad, Read, OutOfMemory as lacks_memory}
use Rattle.ev_types.specs.Scripts.{IsScript}
use Rattle.ev_script.specs.declared.trees.ScriptTrees.{ScriptTrees}
use Rattle.ev_script.specs.Faults.{Input, IsFaultOf, HasNoFault, plain_lines}
use Rattle.ev_script.specs.Script.{script_of}
use Rattle.ev_expand.specs.Expanding.{IsExpanded}
use Rattle.ev_expand.specs.declared.outcome.ExpandError.{ExpandError}
use Rattle.ev_expand.specs.declared.outcome.ExpandError.TheVariants.{Private, Large, OutOfMemory}
use Rattle.ev_expand.specs.Said.{lines_in, input_of_text, expanded_script}
use Rattle.ev_dns.specs.Lines.{dns_lines}
use Rattle.ev_dns.specs.Resolving.{dns_rules}
use Rattle.ev_dns.specs.LastAnswers.{LastAnswers}
use Rattle.ev_app.specs.declared.commands.Command.TheVariants.{Dns}
use Rattle.ev_app.specs.declared.made.Made.{Made}
use Rattle.ev_app.specs.declared.status.Status.TheVariants.{Done}
use Rattle.ev_app.specs.Expansions.{fault_of}
use Rattle.ev_app.specs.Faults.{IsFirstEarly}
use Rattle.ev_app.specs.Texts.{IsMadeBy}
use Rattle.ev_app.specs.Dns.{IsDnsAnswer}
use Rattle.ev_app.specs.Trees.{ReadsTrees}
use Rattle.ev_app.proofs.ExpandLemmas.{has_made, text_made, never_unmade}
use Rattle.ev_app.proofs.TreeLemmas.{whole_trees}

-- the text that was made
pub dns_told : (trees : ScriptTrees) (text : Vec ℕ Global) (made : Made) → LastAnswers → IsExpanded (dns_rules trees.header.profile) (view trees.head) (lines_in trees) (Ok text)
    → HasNoFault plain_lines (input_of_text text.items) → script_of false text.items ≡ Some (expanded_script (dns_rules trees.header.profile) trees)
    → IsScript (expanded_script (dns_rules trees.header.profile) trees) → made.status ≡ Done → made.text ≡ text → IsDnsAnswer trees (Ok made)
dns_told trees text made law told sound script kept done same = (
  has_made (dns_rules trees.header.profile) trees text told,
  done,
  record { made = text_made (dns_rules trees.header.profile) trees text made.text told sound script kept same; last = λ format journal. law trees format journal told.0 kept },
)

-- why none was
pub dns_not_told : (trees : ScriptTrees) (error : ExpandError) → IsExpanded (dns_rules trees.header.profile) (view trees.head) (lines_in trees) (Err error) → IsDnsAnswer trees (Err (fault_of error))
dns_not_told trees (Private line) told = inl (told, refl)
dns_not_told trees (Large line) told = inr (told.0, told.1, refl)
dns_not_told trees OutOfMemory told = tt

first_early : (input : Input) (line number : ℕ) → IsFaultOf dns_lines input line number → IsFirstEarly Dns input line number
first_early input line number fault = record { place = fault.place; kind = fault.kind; stands = fault.first.stands; first = fault.first.first; told = fault.told; numbered = fault.numbered }

-- the text answers what was read, or there is none
pub answered : (before after : Option (List ℕ)) (trees : ScriptTrees) (result : Result Made ScriptFault) → ReadsTrees dns_lines before after (Ok trees) → IsDnsAnswer trees result → IsMadeBy Dns before after result
answered before after trees (Ok made) read told = record {
  input = read.input;
  takes = read.takes;
  is = record {
    ended = read.is.0.ended;
    sound = record {
      early = read.is.0.sound;
      late = λ ended line number late. never_unmade dns_rules dns_lines read.input.bytes trees (whole_trees dns_lines read.input trees read.is) told.0 line number late;
    };
    answers = (told.1, record { trees = trees; reads = whole_trees dns_lines read.input trees read.is; answers = told.2 });
  };
}
answered before after trees (Err (Bad line number)) read told = record {
  input = read.input;
  takes = read.takes;
  is = inr (read.is.0.ended, read.is.0.sound, record { trees = trees; reads = whole_trees dns_lines read.input trees read.is; unmade = told });
}
answered before after trees (Err Read) read told = absurd told
answered before after trees (Err lacks_memory) read told = record { input = read.input; takes = read.takes; is = tt }

-- nothing was read
pub not_read : (before after : Option (List ℕ)) (fault : ScriptFault) → ReadsTrees dns_lines before after (Err fault) → IsMadeBy Dns before after (Err fault)
not_read before after (Bad line number) read = record { input = read.input; takes = read.takes; is = inl (first_early read.input line number read.is) }
not_read before after Read read = record { input = read.input; takes = read.takes; is = record { goes_on = read.is.1; sound = read.is.0 } }
not_read before after lacks_memory read = record { input = read.input; takes = read.takes; is = tt }
