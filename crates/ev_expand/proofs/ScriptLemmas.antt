-- The text that a command makes is a script, of the lines that it makes.
use Rattle.std.proofs.Common.{◌≡◌, ◌∙◌, ◌+◌, ◌<◌, false, List, ◌∷◌, length, map, get_or, Some, sym, ap, subst, arith}
use Rattle.std.specs.Prelude.{All}
use Rattle.std.proofs.lemmas.List.{length-map, get_or-map}
use Rattle.std.proofs.lemmas.List.Elements.{All-cons, All-head, All-tail, All-map}
use Rattle.serde_json.specs.Data.{Data, null}
use Rattle.serde_json.specs.View.{view}
use Rattle.ev_script.specs.declared.forms.Settings.{Settings}
use Rattle.ev_script.specs.declared.header.Header.{Header}
use Rattle.ev_script.specs.Faults.{plain_lines, HasNoFault}
use Rattle.ev_script.specs.Header.{header_of, settings_of}
use Rattle.ev_script.specs.Lines.{line_of}
use Rattle.ev_script.specs.ReadScript.{script_made}
use Rattle.ev_script.specs.Script.{script_of}
use Rattle.ev_tree.specs.Floats.{whole}
use Rattle.ev_trees.specs.Trees.{text_of_trees, ReadsBack, IsReadable, AreWithinLimits}
use Rattle.ev_trees.specs.Scripts.{AreScript, input_of_trees}
use Rattle.ev_trees.proofs.ScriptLemmas.{script_is}
use Rattle.ev_whole_laws.proofs.LineForms.{one_form}
use Rattle.ev_expand.specs.Expanding.{ReadBack}
use Rattle.ev_expand.specs.Said.{HasLine, AllAt, lines_in, lines_said, input_of_text, given_lines}
use Rattle.ev_expand.specs.Scripts.{TextsAreScripts}
use Rattle.ev_expand.proofs.BoundLemmas.{said_kept}
use Rattle.ev_expand.proofs.SaidLemmas.{said_count, said_each, said_below}
use Rattle.ev_expand.proofs.GivenLemmas.{IsGiven, lines_given, given_have, given_readable}

some_tree : Data
some_tree = null

-- trees that are lines at their places are a script when they are written, with -1 for each float
pub trees_said : (header : Header) (head : Data) (trees : List Data) → header_of head ≡ Some header → AllAt (HasLine (settings_of header)) 2 trees
    → All ReadsBack (map whole (head ∷ trees)) → AreWithinLimits (map whole (head ∷ trees))
    → HasNoFault plain_lines (input_of_trees (map whole (head ∷ trees)))
    × (script_of false (text_of_trees (map whole (head ∷ trees))) ≡ Some (script_made header (lines_said header.profile 2 trees)))
trees_said header head trees heads all back limits =
    let count : length (map whole trees) ≡ length trees = length-map trees whole in
    let are : AreScript header (lines_said header.profile 2 trees) (whole head) (map whole trees) = record {
      read_back = back;
      limits = limits;
      heads = (one_form head).header ∙ heads;
      count = count ∙ sym (said_count (settings_of header) 2 trees all);
      says = λ i tree line h.
          let within : i < length trees = omega (arith, h, said_count (settings_of header) 2 trees all) in
          let place : i + 2 ≡ 2 + i = omega arith in
          ap (line_of header.profile (i + 2)) (get_or-map whole trees i some_tree tree within)
          ∙ (one_form (get_or trees i some_tree)).line header.profile (i + 2)
          ∙ ap (λ n. line_of header.profile n (get_or trees i some_tree)) place
          ∙ said_each (settings_of header) 2 trees all i some_tree line within;
      below = said_below (settings_of header) 2 trees all;
    } in
    script_is header (lines_said header.profile 2 trees) (whole head) (map whole trees) are

-- what isn't too deep is read back as it was written
back_so : (trees : List Data) → ReadBack trees → All IsReadable trees → All ReadsBack (map whole trees)
back_so trees back readable = All-map ReadsBack whole trees (λ k tree h. back k tree h (readable k tree h))

pub text_is_script : TextsAreScripts
text_is_script rules trees text able expanded =
    let settings : Settings = settings_of trees.header in
    let head : Data = view trees.head in
    let given : List Data = given_lines rules (lines_in trees) in
    let each : All (IsGiven settings) given =
    lines_given rules settings (lines_in trees) able.profile able.nonce able.written (All-tail IsReadable head (lines_in trees) able.readable) able.shallow in
    let readable : All IsReadable (head ∷ given) =
    All-cons IsReadable head given (All-head IsReadable head (lines_in trees) able.readable) (given_readable settings given each) in
    let script = trees_said trees.header head given able.heads (given_have settings given each) (back_so (head ∷ given) expanded.2 readable) expanded.1 in
    let bytes : text.items ≡ text_of_trees (map whole (head ∷ given)) = expanded.3 in
    record {
      sound = subst (λ bs. HasNoFault plain_lines (input_of_text bs)) (sym bytes) script.0;
      script = ap (script_of false) bytes ∙ script.1;
      kept = said_kept trees.header head given able.heads (given_have settings given each) expanded.1;
    }
