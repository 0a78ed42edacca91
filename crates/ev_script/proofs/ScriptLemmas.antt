-- The script of lines that were read.
use Rattle.std.proofs.Common.{◌≡◌, ℕ, zero, suc, ◌+◌, ◌<◌, Bool, true, false, cond, ◌&&◌, List, [], ◌∷◌, length, map, take, get_or, Option, None, Some, Ok, option_map, option_and_then, refl, sym, ap, subst, ◌∙◌, arith, add-zero}
use Rattle.std.proofs.lemmas.List.{length-map, get_or-map, get_or-take, length-take-le}
use Rattle.std.specs.List.Sorted.{IsStrictlyIncreasing}
use Rattle.serde_json.specs.Data.{Data}
use Rattle.ev_io.specs.Lines.{lines_of}
use Rattle.ev_types.specs.Events.{MayMake}
use Rattle.ev_types.specs.Scripts.{ScriptParts, IsScript, items_of}
use Rattle.ev_types.specs.declared.events.Line.{Line}
use Rattle.ev_types.specs.declared.events.Profile.{Profile}
use Rattle.ev_types.specs.declared.events.Actor.TheVariants.{Stream}
use Rattle.ev_types.specs.declared.events.Event.TheVariants.{Connect}
use Rattle.ev_io.specs.declared.limits.TheConstants.{MAX_LINES}
use Rattle.ev_script.specs.declared.forms.Settings.{Settings}
use Rattle.ev_script.specs.declared.header.Header.{Header}
use Rattle.ev_script.specs.declared.read_input.ReadLines.{ReadLines}
use Rattle.ev_script.specs.Header.{header_of, settings_of, IsHeader}
use Rattle.ev_script.specs.Members.{tree_of}
use Rattle.ev_script.specs.Lines.{line_of}
use Rattle.ev_script.specs.Faults.{LineForms, Input, index_at, has_format, worker_of, plain_lines}
use Rattle.ev_script.specs.Script.{lines_from, script_made, script_with, script_from, begins_journal, before_journal, script_texts, script_of}
use Rattle.ev_script.specs.Content.{is_above, IsLineOf, IsKeptOf}
use Rattle.ev_script.specs.ReadLines.{AreRead, AreLinesKept}
use Rattle.ev_script.specs.ReadInput.{IsWhole, IsUpToJournal, IsReadOf}
use Rattle.ev_script.specs.ReadScript.{HeadsScripts, KeepsLines, IsHeadOf, IsHeaderOf, IsScriptAnswer, AreNumbered}
use Rattle.ev_script.proofs.PlaceLemmas.{ends_within}
use Rattle.ev_script.proofs.ContentLemmas.{first_is}
use Rattle.ev_script.proofs.SoundLemmas.{some_same}
use Rattle.ev_script.proofs.KeptLemmas.{kept_line}

-- ---- what each line keeps

-- the number of a line, and an actor that may make its event
line_at : (forms : LineForms) (keeps : Profile → ℕ → Data → Line → Type 0) (audit : Bool) (texts : List (List ℕ)) (settings : Settings) (kept : List Line)
    → KeepsLines forms keeps → AreRead forms audit texts settings (length kept + 1) → AreLinesKept (keeps settings.profile) texts kept
    → (i : ℕ) (other : Line) → i < length kept → ((get_or kept i other).at ≡ i + 2) × MayMake settings.workers (get_or kept i other).actor (get_or kept i other).event
line_at forms keeps audit texts settings kept plain read are i other h =
    let line : Line = get_or kept i other in
    let k : IsKeptOf (keeps settings.profile) (i + 2) (tree_of (get_or texts (i + 1) [])) line = are i other h in
    let r : IsLineOf forms audit settings (i + 1 + 1) (tree_of (get_or texts (i + 1) [])) = read.others (i + 1) (omega arith) (omega arith) in
    let both = plain settings.profile (i + 2) k.tree line k.holds in
    let same : k.tree ≡ r.tree = some_same k.tree r.tree (tree_of (get_or texts (i + 1) [])) k.is r.is in
    let place : i + 1 + 1 ≡ i + 2 = omega arith in
    let reads : forms.lines settings.profile (i + 2) k.tree ≡ Some r.named =
    ap (forms.lines settings.profile (i + 2)) same ∙ ap (λ (n : ℕ). forms.lines settings.profile n r.tree) (sym place) ∙ r.reads in
    let named : r.named ≡ worker_of line.actor = some_same r.named (worker_of line.actor) (forms.lines settings.profile (i + 2) k.tree) reads both.1 in
    kept_line settings.workers settings.profile (i + 2) k.tree line both.0 (ap (is_above settings.workers) (sym named) ∙ r.below)

pub are_numbered : (forms : LineForms) (keeps : Profile → ℕ → Data → Line → Type 0) (audit : Bool) (texts : List (List ℕ)) (settings : Settings) (kept : List Line) → KeepsLines forms keeps → AreRead forms audit texts settings (length kept + 1) → AreLinesKept (keeps settings.profile) texts kept → AreNumbered settings.workers kept
are_numbered forms keeps audit texts settings kept plain read are = record {
  places = λ k other h. (line_at forms keeps audit texts settings kept plain read are k other h).0;
  allowed = λ k other h. (line_at forms keeps audit texts settings kept plain read are k other h).1;
}

-- ---- what a script keeps

rising : (workers : ℕ) (lines : List Line) → AreNumbered workers lines → IsStrictlyIncreasing (map (λ (line : Line). line.at) lines)
rising workers lines numbered k h =
    let some : Line = record { at = 0; actor = Stream; event = Connect } in
    let within : k + 1 < length lines = omega (arith, length-map lines (λ (line : Line). line.at)) in
    let below : k < length lines = omega arith in
    let first : get_or (map (λ (line : Line). line.at) lines) k 0 ≡ k + 2 = get_or-map (λ (line : Line). line.at) lines k some 0 below ∙ numbered.places k some below in
    let second : get_or (map (λ (line : Line). line.at) lines) (k + 1) 0 ≡ k + 1 + 2 = get_or-map (λ (line : Line). line.at) lines (k + 1) some 0 within ∙ numbered.places (k + 1) some within in
    omega arith

pub script_kept : (header : Header) (lines : List Line) → IsHeader header → AreNumbered header.workers lines → length lines < MAX_LINES → items_of lines < 4294967295 → IsScript (script_made header lines)
script_kept header lines kept numbered few items = record {
  some_worker = kept.some_worker;
  few_workers = kept.few_workers;
  named = kept.named;
  counted = omega arith;
  few_lines = omega arith;
  rising = rising header.workers lines numbered;
  numbered = λ k other h. let e : (get_or lines k other).at ≡ k + 2 = numbered.places k other h in (omega arith, omega arith);
  allowed = numbered.allowed;
  few_items = items;
}

-- ---- the script of the texts

-- a line of a script is kept
abbrev pub IsLine : Profile → ℕ → Data → Line → Type 0
IsLine profile at tree line = line_of profile at tree ≡ Some line

lines_by : (profile : Profile) (at : ℕ) (texts : List (List ℕ)) (lines : List Line) → length texts ≡ length lines → ((i : ℕ) (other : Line) → i < length lines → IsKeptOf (IsLine profile) (at + i) (tree_of (get_or texts i [])) (get_or lines i other)) → lines_from profile at texts ≡ Some lines
lines_by profile at [] [] e h = refl
lines_by profile at [] (line ∷ lines) e h = absurd (omega (arith, e))
lines_by profile at (text ∷ texts) [] e h = absurd (omega (arith, e))
lines_by profile at (text ∷ texts) (line ∷ lines) e h =
    let k : IsKeptOf (IsLine profile) (at + 0) (tree_of text) line = h 0 line (omega arith) in
    let here : option_and_then (line_of profile at) (tree_of text) ≡ Some line = ap (option_and_then (line_of profile at)) k.is ∙ ap (λ (n : ℕ). line_of profile n k.tree) (sym (add-zero at)) ∙ k.holds in
    let others : lines_from profile (at + 1) texts ≡ Some lines = lines_by profile (at + 1) texts lines (omega (arith, e)) (λ i other within.
    let place : at + suc i ≡ at + 1 + i = omega arith in
    subst (λ (n : ℕ). IsKeptOf (IsLine profile) n (tree_of (get_or texts i [])) (get_or lines i other)) place (h (suc i) other (omega arith))) in
    ap (λ (found : Option Line). option_and_then (λ (l : Line). option_map (λ (ls : List Line). l ∷ ls) (lines_from profile (at + 1) texts)) found) here
    ∙ ap (option_map (λ (ls : List Line). line ∷ ls)) others

-- the texts before the first that begins a journal
before_is : (texts : List (List ℕ)) (n : ℕ) → n < length texts → ((i : ℕ) → i < n → begins_journal (tree_of (get_or texts i [])) ≡ false) → begins_journal (tree_of (get_or texts n [])) ≡ true → before_journal texts ≡ take n texts
before_is [] n within others here = absurd (omega arith)
before_is (text ∷ texts) zero within others here = ap (λ (t : Bool). cond t [] (text ∷ before_journal texts)) here
before_is (text ∷ texts) (suc n) within others here =
    let first : begins_journal (tree_of text) ≡ false = others 0 (omega arith) in
    ap (λ (t : Bool). cond t [] (text ∷ before_journal texts)) first
    ∙ ap (λ (ts : List (List ℕ)). text ∷ ts) (before_is texts n (omega arith) (λ i h. others (suc i) (omega arith)) here)

-- the first text's header, and the lines of the others
from_parts : (first : List ℕ) (others : List (List ℕ)) (header : Header) (lines : List Line) → option_and_then header_of (tree_of first) ≡ Some header → lines_from header.profile 2 others ≡ Some lines
    → script_from (first ∷ others) ≡ Some (script_made header lines)
from_parts first others header lines e f =
    ap (option_and_then (script_with others)) e
    ∙ ap (option_map (script_made header)) f

-- the script of an input's lines, all of which were read
pub whole_script : (forms : LineForms) (keeps : Profile → ℕ → Data → Line → Type 0) (audit : Bool) (texts : List (List ℕ)) (header : Header) (kept : List Line) → KeepsLines forms keeps → IsHeaderOf (get_or texts 0 []) header → AreRead forms audit texts (settings_of header) (length kept + 1) → AreLinesKept (keeps header.profile) texts kept → length texts ≡ length kept + 1
    → script_from texts ≡ Some (script_made header kept)
whole_script forms keeps audit [] header kept plain heads read are long = absurd (omega (arith, long))
whole_script forms keeps audit (first ∷ others) header kept plain heads read are long =
    from_parts first others header kept heads
    (lines_by header.profile 2 others kept (omega (arith, long)) (λ i other h.
    let k : IsKeptOf (keeps header.profile) (i + 2) (tree_of (get_or (first ∷ others) (i + 1) [])) (get_or kept i other) = are i other h in
    let next : get_or (first ∷ others) (i + 1) [] ≡ get_or others i [] = ap (λ (n : ℕ). get_or (first ∷ others) n []) (next_is i) in
    let place : i + 2 ≡ 2 + i = omega arith in
    record { tree = k.tree; is = ap tree_of (sym next) ∙ k.is; holds = subst (λ (n : ℕ). IsLine header.profile n k.tree (get_or kept i other)) place (plain header.profile (i + 2) k.tree (get_or kept i other) k.holds).0 }))
  where
    next_is : (i : ℕ) → i + 1 ≡ suc i
    next_is i = omega arith

plain_tree : (tree : Data) → (true && has_format tree) ≡ false → has_format tree ≡ false
plain_tree tree e = e

-- no line that was read begins a journal
not_begun : (forms : LineForms) (texts : List (List ℕ)) (settings : Settings) (n i : ℕ) → AreRead forms true texts settings n → 0 < i → i < n → begins_journal (tree_of (get_or texts i [])) ≡ false
not_begun forms texts settings n i read some within =
    let r : IsLineOf forms true settings (i + 1) (tree_of (get_or texts i [])) = read.others i some within in
    ap begins_journal r.is ∙ plain_tree r.tree r.plain

-- the script of the lines before the journal
pub script_before : (forms : LineForms) (keeps : Profile → ℕ → Data → Line → Type 0) (texts : List (List ℕ)) (header : Header) (kept : List Line) → KeepsLines forms keeps → IsHeaderOf (get_or texts 0 []) header → AreRead forms true texts (settings_of header) (length kept + 1) → AreLinesKept (keeps header.profile) texts kept → length kept + 1 < length texts → begins_journal (tree_of (get_or texts (length kept + 1) [])) ≡ true
    → script_from (script_texts true texts) ≡ Some (script_made header kept)
script_before forms keeps [] header kept plain heads read are long begins = absurd (omega arith)
script_before forms keeps (first ∷ others) header kept plain heads read are long begins =
    ap (λ (ts : List (List ℕ)). script_from (first ∷ ts)) (before_is others (length kept) (omega arith) (λ i h.
    ap (λ (n : ℕ). begins_journal (tree_of (get_or (first ∷ others) n []))) (sym (next_is i)) ∙ not_begun forms (first ∷ others) (settings_of header) (length kept + 1) (i + 1) read (omega arith) (omega arith))
    (ap (λ (n : ℕ). begins_journal (tree_of (get_or (first ∷ others) n []))) (sym (next_is (length kept))) ∙ begins))
    ∙ from_parts first (take (length kept) others) header kept heads
    (lines_by header.profile 2 (take (length kept) others) kept (length-take-le (length kept) others (omega arith)) (λ i other h.
    let k : IsKeptOf (keeps header.profile) (i + 2) (tree_of (get_or (first ∷ others) (i + 1) [])) (get_or kept i other) = are i other h in
    let next : get_or (first ∷ others) (i + 1) [] ≡ get_or (take (length kept) others) i [] = ap (λ (n : ℕ). get_or (first ∷ others) n []) (next_is i) ∙ sym (get_or-take (length kept) others i [] h) in
    let place : i + 2 ≡ 2 + i = omega arith in
    record { tree = k.tree; is = ap tree_of (sym next) ∙ k.is; holds = subst (λ (n : ℕ). IsLine header.profile n k.tree (get_or kept i other)) place (plain header.profile (i + 2) k.tree (get_or kept i other) k.holds).0 }))
  where
    next_is : (i : ℕ) → i + 1 ≡ suc i
    next_is i = omega arith

-- ---- the header

-- the first line that was read is a header that sets this
pub header_read : (forms : LineForms) (audit : Bool) (texts : List (List ℕ)) (settings : Settings) (n : ℕ) → HeadsScripts forms → AreRead forms audit texts settings n → 0 < n → (header : Header) × IsHeaderOf (get_or texts 0 []) header × (settings_of header ≡ settings)
header_read forms audit texts settings n plain read some = by_tree (tree_of (get_or texts 0 [])) (first_is forms (tree_of (get_or texts 0 [])) settings (read.head some))
  where
    by_header : (found : Option Header) → option_map settings_of found ≡ Some settings → (header : Header) × (found ≡ Some header) × (settings_of header ≡ settings)
    by_header None e = cc
    by_header (Some header) e = let same : settings_of header ≡ settings = cc in (header, refl, same)

    by_tree : (tree : Option Data) → option_and_then forms.heads tree ≡ Some settings → (header : Header) × (option_and_then header_of tree ≡ Some header) × (settings_of header ≡ settings)
    by_tree None e = cc
    by_tree (Some tree) e = by_header (header_of tree) (sym (plain tree) ∙ e)

-- what a script keeps of a line is the line
pub keeps_plain : KeepsLines plain_lines IsLine
keeps_plain profile at tree line e = (e, ap (option_map (λ (l : Line). worker_of l.actor)) e)

-- ---- what was read of a script

abbrev pub IsScriptRead : Input → ReadLines Header Line → Type 0
IsScriptRead input read = IsReadOf plain_lines IsHeadOf IsLine input read

-- the first line is its header
header_is : (input : Input) (read : ReadLines Header Line) → IsScriptRead input read → IsHeaderOf (get_or (lines_of input.bytes) 0 []) read.head
header_is input read of = ap (option_and_then header_of) of.head.is ∙ of.head.holds.0

-- so it sets what the header does
same_settings : (input : Input) (read : ReadLines Header Line) → IsScriptRead input read → read.settings ≡ settings_of read.head
same_settings input read of =
    let found = header_read plain_lines input.audit (lines_of input.bytes) read.settings (length read.kept.items + 1) (λ tree. refl) of.lines (omega arith) in
    let same : found.0 ≡ read.head = some_same found.0 read.head (option_and_then header_of (tree_of (get_or (lines_of input.bytes) 0 []))) found.1 (header_is input read of) in
    sym found.2 ∙ ap settings_of same

-- the lines are those of a script with this header
pub numbered_read : (input : Input) (read : ReadLines Header Line) → IsScriptRead input read → AreNumbered read.head.workers read.kept.items
numbered_read input read of =
    subst (λ (settings : Settings). AreNumbered settings.workers read.kept.items) (same_settings input read of)
    (are_numbered plain_lines IsLine input.audit (lines_of input.bytes) read.settings read.kept.items keeps_plain of.lines of.kept)

-- the lines that were read, by what the header sets
lines_read : (input : Input) (read : ReadLines Header Line) → IsScriptRead input read → AreRead plain_lines input.audit (lines_of input.bytes) (settings_of read.head) (length read.kept.items + 1)
lines_read input read of =
    subst (λ (settings : Settings). AreRead plain_lines input.audit (lines_of input.bytes) settings (length read.kept.items + 1)) (same_settings input read of) of.lines

-- what was kept of them
lines_kept : (input : Input) (read : ReadLines Header Line) → IsScriptRead input read → AreLinesKept (IsLine read.head.profile) (lines_of input.bytes) read.kept.items
lines_kept input read of =
    subst (λ (settings : Settings). AreLinesKept (IsLine settings.profile) (lines_of input.bytes) read.kept.items) (same_settings input read of) of.kept

-- ---- the answers

-- the script of a whole input
pub answer_whole : (input : Input) (read : ReadLines Header Line) (script : ScriptParts) → IsScriptRead input read → IsWhole plain_lines input (length read.kept.items + 1) → script ≡ script_made read.head read.kept.items → IsScriptAnswer plain_lines input (Ok script)
answer_whole input read script of ends made =
    subst (λ (s : ScriptParts). IsScriptAnswer plain_lines input (Ok s)) (sym made)
    (ends, whole_script plain_lines IsLine input.audit (lines_of input.bytes) read.head read.kept.items keeps_plain (header_is input read of) (lines_read input read of) (lines_kept input read of) ends.lines)

-- the script before a journal
pub answer_audited : (input : Input) (read : ReadLines Header Line) (script : ScriptParts) (text : List ℕ) → IsScriptRead input read → IsUpToJournal plain_lines input (length read.kept.items + 1) text → script ≡ script_made read.head read.kept.items → IsUpToJournal plain_lines input script.count text × (script_of true input.bytes ≡ Some script)
answer_audited input read script text of ends made =
    let asked : input.audit ≡ true = ends.begins.audit in
    let within : index_at input ends.place < length (lines_of input.bytes) = ends_within input ends.place ends.begins.ends in
    let behind : index_at input ends.place ≡ length read.kept.items + 1 = ends.behind in
    let tree : tree_of (get_or (lines_of input.bytes) (length read.kept.items + 1) []) ≡ Some ends.begins.format.0 = ap (λ (i : ℕ). tree_of (get_or (lines_of input.bytes) i [])) (sym behind) ∙ ends.begins.format.1 in
    let lines : AreRead plain_lines true (lines_of input.bytes) (settings_of read.head) (length read.kept.items + 1) =
    subst (λ (a : Bool). AreRead plain_lines a (lines_of input.bytes) (settings_of read.head) (length read.kept.items + 1)) asked (lines_read input read of) in
    subst (λ (s : ScriptParts). IsUpToJournal plain_lines input s.count text × (script_of true input.bytes ≡ Some s)) (sym made) (
      ends,
      script_before plain_lines IsLine (lines_of input.bytes) read.head read.kept.items keeps_plain (header_is input read of) lines (lines_kept input read of) (omega arith) (ap begins_journal tree ∙ ends.begins.format.2),
    )
