-- An input that is being read: what each call for a line makes of it.
use Rattle.std.proofs.Common.{◌≡◌, ℕ, ◌+◌, ◌<◌, ◌≤◌, Bool, true, false, List, [], ◌∷◌, ◌++◌, length, take, get_or, IsTrue, Option, None, Some, Vec, Result, Ok, Err, refl, sym, ap, subst, ◌∙◌, ◌⊎◌, inl, inr, arith, append_assoc, length-append}
use Rattle.std.specs.Io.KnownBytes.{prepend_known, IsAtEnd}
use Rattle.std.specs.declared.alloc.Global.{Global}
use Rattle.serde_json.specs.Data.{Data}
use Rattle.ev_types.specs.declared.events.Profile.{Profile}
use Rattle.ev_types.specs.declared.events.Profile.TheVariants.{Own}
use Rattle.ev_io.specs.declared.faults.LineFault.{LineFault}
use Rattle.ev_io.specs.declared.faults.LineEnd.{LineEnd}
use Rattle.ev_io.specs.declared.faults.LineEnd.TheVariants.{Line, End}
use Rattle.ev_io.specs.declared.faults.ScriptFault.{ScriptFault}
use Rattle.ev_io.specs.declared.faults.ScriptFault.TheVariants.{Bad, Read, OutOfMemory}
use Rattle.ev_io.specs.Lines.{lines_of}
use Rattle.ev_io.specs.Outside.{Rose, Takes, ReadFails}
use Rattle.ev_io.specs.LinesState.{LinesState, IsFresh, HasTaken}
use Rattle.ev_io.specs.ReadLine.{GivesLine, IsUnfinished, ReachesEnd, LeavesOpen, ReadsLine}
use Rattle.ev_script.specs.declared.content.Content.{Content}
use Rattle.ev_script.specs.declared.content.Content.TheVariants as is
use Rattle.ev_script.specs.declared.content.First.TheVariants as first
use Rattle.ev_script.specs.declared.fault_kinds.FaultKind.{FaultKind}
use Rattle.ev_script.specs.declared.fault_kinds.FaultKind.TheVariants.{NoByte, NotJournal}
use Rattle.ev_script.specs.declared.read_input.UpToJournal.{UpToJournal}
use Rattle.ev_script.specs.declared.forms.FormedHead.{FormedHead}
use Rattle.ev_script.specs.declared.forms.Settings.{Settings}
use Rattle.ev_script.specs.Members.{tree_of}
use Rattle.ev_script.specs.Faults.{LineForms, fault_number, IsFaultOf}
use Rattle.ev_script.specs.Content.{first_content, IsHeadKept, IsContent, IsLineOf, IsKeptOf}
use Rattle.ev_script.specs.ReadLines.{AreRead, AreLinesKept}
use Rattle.ev_script.specs.ReadInput.{input_of, script_fault, IsTold, IsUpToJournal, HasNoJournal, IsReadOf, IsAnswerUpTo, IsHeadAnswer}
use Rattle.ev_script.proofs.ContentFaults.{IsGiven, first_told, content_told, journal_reached}
use Rattle.ev_script.proofs.StepLemmas.{same_at, are_read_same, are_kept_same, are_read_more, are_kept_more, given_line, few_lines}
use Rattle.ev_script.proofs.EndLemmas.{fault_told, nothing_told, whole_read, journal_missing}

-- a call for a line took more bytes, and this is its answer
abbrev pub Reads : Option (List ℕ) → Option (List ℕ) → LinesState → LinesState → List ℕ → List ℕ → Result LineEnd LineFault → Type 0
Reads now after old new out text answer = (more : List ℕ) × Takes now after more × ((bytes : List ℕ) → HasTaken old bytes → ReadsLine old new bytes more out text answer)

-- the header and some lines were read
pub record IsReading {H A : Type 0} (forms : LineForms) (keeps_head : Data → H → Type 0) (keeps : Profile → ℕ → Data → A → Type 0) (audit : Bool) (before now : Option (List ℕ)) (state : LinesState) (settings : Settings) (heading : H) (kept : List A) : Type 0 where
  pub bytes : List ℕ
  pub takes : Takes before now bytes
  pub taken : HasTaken state bytes
  pub untold : state.told ≡ None
  pub given : state.given ≡ length kept + 1
  pub head : IsHeadKept keeps_head (tree_of (get_or (lines_of bytes) 0 [])) heading
  pub read : AreRead forms audit (lines_of bytes) settings state.given
  pub holds : AreLinesKept (keeps settings.profile) (lines_of bytes) kept

-- what is ensured at the end
abbrev pub Exits : {H A : Type 0} → LineForms → (Data → H → Type 0) → (Profile → ℕ → Data → A → Type 0) → Bool → Option (List ℕ) → Option (List ℕ) → LinesState → Result (UpToJournal H A) ScriptFault → Type 0
Exits forms keeps_head keeps audit before after new result = (bytes : List ℕ) × Takes before after bytes × HasTaken new bytes × IsAnswerUpTo forms keeps_head keeps (input_of audit new bytes) result

-- where a failed read is reported, the source isn't known to be at its end
pub told_open : {H A : Type 0} (forms : LineForms) (keeps_head : Data → H → Type 0) (keeps : Profile → ℕ → Data → A → Type 0) (audit : Bool) (before after : Option (List ℕ)) (new : LinesState) (result : Result (UpToJournal H A) ScriptFault) → Exits forms keeps_head keeps audit before after new result → result ≡ Err Read → ¬ (IsTrue new.ended)
told_open {H = H} {A = A} forms keeps_head keeps audit before after new result exits failed =
    let told : IsTold forms (input_of audit new exits.0) Read = subst (λ (r : Result (UpToJournal H A) ScriptFault). IsAnswerUpTo forms keeps_head keeps (input_of audit new exits.0) r) failed exits.3 in
    told.1

prepend_known-append : (xs ys : List ℕ) (known : Option (List ℕ)) → prepend_known xs (prepend_known ys known) ≡ prepend_known (xs ++ ys) known
prepend_known-append xs ys None = refl
prepend_known-append xs ys (Some zs) = ap Some (sym (append_assoc xs ys zs))

-- what was taken before, and what the call took
takes_both : (before now after : Option (List ℕ)) (taken more : List ℕ) → Takes before now taken → Takes now after more → Takes before after (taken ++ more)
takes_both before now after taken more e f = e ∙ ap (prepend_known taken) f ∙ prepend_known-append taken more after

-- what is kept of the first line, of more bytes
head_same : {H : Type 0} (keeps_head : Data → H → Type 0) (heading : H) (n : ℕ) (texts others : List (List ℕ)) → take n others ≡ take n texts → 0 < n → IsHeadKept keeps_head (tree_of (get_or texts 0 [])) heading → IsHeadKept keeps_head (tree_of (get_or others 0 [])) heading
head_same keeps_head heading n texts others same some head =
    subst (λ (text : List ℕ). IsHeadKept keeps_head (tree_of text) heading) (sym (same_at n texts others 0 same some)) head

-- ---- the lines after the header

given_now : {H A : Type 0} (forms : LineForms) (keeps_head : Data → H → Type 0) (keeps : Profile → ℕ → Data → A → Type 0) (audit : Bool) (before now : Option (List ℕ)) (old new : LinesState) (settings : Settings) (heading : H) (kept : List A) (more out text : List ℕ) → (r : IsReading forms keeps_head keeps audit before now old settings heading kept) → ReadsLine old new r.bytes more out text (Ok Line) → IsGiven forms (input_of audit new (r.bytes ++ more)) settings old.given text
given_now forms keeps_head keeps audit before now old new settings heading kept more out text r reads = given_line forms audit settings old new r.bytes more out text reads r.read

-- one line more
pub reading_more : {H A : Type 0} (forms : LineForms) (keeps_head : Data → H → Type 0) (keeps : Profile → ℕ → Data → A → Type 0) (audit : Bool) (before now after : Option (List ℕ)) (old new : LinesState) (settings : Settings) (heading : H) (kept : List A) (line : A) (out text : List ℕ) → IsReading forms keeps_head keeps audit before now old settings heading kept → Reads now after old new out text (Ok Line) → IsContent forms keeps audit settings new.given (tree_of text) (is.Line line) → IsReading forms keeps_head keeps audit before after new settings heading (kept ++ line ∷ [])
reading_more forms keeps_head keeps audit before now after old new settings heading kept line out text r call content =
    let more : List ℕ = call.0 in
    let reads : ReadsLine old new r.bytes more out text (Ok Line) = call.2 r.bytes r.taken in
    let means : GivesLine old new (r.bytes ++ more) text = reads.means in
    let g : IsGiven forms (input_of audit new (r.bytes ++ more)) settings old.given text = given_now forms keeps_head keeps audit before now old new settings heading kept more out text r reads in
    let some : 0 < old.given = omega (arith, r.given) in
    let number : new.given ≡ old.given + 1 = means.number in
    let line_here : IsLineOf forms audit settings (old.given + 1) (tree_of (get_or (lines_of (r.bytes ++ more)) old.given [])) =
    subst (λ (t : List ℕ). IsLineOf forms audit settings (old.given + 1) (tree_of t)) (sym g.here) (subst (λ (n : ℕ). IsLineOf forms audit settings n (tree_of text)) number content.0) in
    let place : old.given ≡ length kept + 1 = r.given in
    let kept_at : new.given ≡ length kept + 2 = omega arith in
    let kept_here : IsKeptOf (keeps settings.profile) (length kept + 2) (tree_of (get_or (lines_of (r.bytes ++ more)) (length kept + 1) [])) line =
    subst (λ (i : ℕ). IsKeptOf (keeps settings.profile) (length kept + 2) (tree_of (get_or (lines_of (r.bytes ++ more)) i [])) line) place
    (subst (λ (t : List ℕ). IsKeptOf (keeps settings.profile) (length kept + 2) (tree_of t) line) (sym g.here) (subst (λ (n : ℕ). IsKeptOf (keeps settings.profile) n (tree_of text) line) kept_at content.1)) in
    record {
      bytes = r.bytes ++ more;
      takes = takes_both before now after r.bytes more r.takes call.1;
      taken = reads.taken;
      untold = means.untold;
      given = omega (arith, length-append kept (line ∷ []));
      head = head_same keeps_head heading old.given (lines_of r.bytes) (lines_of (r.bytes ++ more)) reads.kept some r.head;
      read = subst (AreRead forms audit (lines_of (r.bytes ++ more)) settings) (sym number)
          (are_read_more forms audit (lines_of (r.bytes ++ more)) settings old.given (are_read_same forms audit (lines_of r.bytes) (lines_of (r.bytes ++ more)) settings old.given reads.kept r.read) some line_here);
      holds = are_kept_more (keeps settings.profile) (lines_of (r.bytes ++ more)) kept line (are_kept_same (keeps settings.profile) (lines_of r.bytes) (lines_of (r.bytes ++ more)) old.given kept reads.kept (omega arith) r.holds) kept_here;
    }

-- how many lines were given
pub few_after : (now after : Option (List ℕ)) (old new : LinesState) (bytes out text : List ℕ) (answer : Result LineEnd LineFault) → HasTaken old bytes → Reads now after old new out text answer → new.given ≤ 200000
few_after now after old new bytes out text answer taken call =
    let reads : ReadsLine old new bytes call.0 out text answer = call.2 bytes taken in
    few_lines new (bytes ++ call.0) reads.taken

pub one_more : (now after : Option (List ℕ)) (old new : LinesState) (bytes out text : List ℕ) → HasTaken old bytes → Reads now after old new out text (Ok Line) → new.given ≡ old.given + 1
one_more now after old new bytes out text taken call =
    let reads : ReadsLine old new bytes call.0 out text (Ok Line) = call.2 bytes taken in
    let means : GivesLine old new (bytes ++ call.0) text = reads.means in
    means.number

pub exit_fault : {H A : Type 0} (forms : LineForms) (keeps_head : Data → H → Type 0) (keeps : Profile → ℕ → Data → A → Type 0) (audit : Bool) (before now after : Option (List ℕ)) (old new : LinesState) (settings : Settings) (heading : H) (kept : List A) (fault : LineFault) (out text : List ℕ) → IsReading forms keeps_head keeps audit before now old settings heading kept → Reads now after old new out text (Err fault) → Exits forms keeps_head keeps audit before after new (Err (script_fault new.given fault))
exit_fault forms keeps_head keeps audit before now after old new settings heading kept fault out text r call =
    let reads : ReadsLine old new r.bytes call.0 out text (Err fault) = call.2 r.bytes r.taken in
    (r.bytes ++ call.0, takes_both before now after r.bytes call.0 r.takes call.1, reads.taken, fault_told forms audit settings old new r.bytes call.0 out text fault reads r.read)

pub exit_content : {H A : Type 0} (forms : LineForms) (keeps_head : Data → H → Type 0) (keeps : Profile → ℕ → Data → A → Type 0) (audit : Bool) (before now after : Option (List ℕ)) (old new : LinesState) (settings : Settings) (heading : H) (kept : List A) (kind : FaultKind) (out text : List ℕ) → IsReading forms keeps_head keeps audit before now old settings heading kept → Reads now after old new out text (Ok Line) → IsContent forms keeps audit settings new.given (tree_of text) (is.Fault kind) → Exits forms keeps_head keeps audit before after new (Err (Bad new.given (fault_number kind)))
exit_content forms keeps_head keeps audit before now after old new settings heading kept kind out text r call content =
    let reads : ReadsLine old new r.bytes call.0 out text (Ok Line) = call.2 r.bytes r.taken in
    let means : GivesLine old new (r.bytes ++ call.0) text = reads.means in
    let input = input_of audit new (r.bytes ++ call.0) in (
      r.bytes ++ call.0,
      takes_both before now after r.bytes call.0 r.takes call.1,
      reads.taken,
      subst (λ (n : ℕ). IsFaultOf forms input n (fault_number kind)) (sym means.number)
          (content_told forms keeps input settings old.given text kind (given_now forms keeps_head keeps audit before now old new settings heading kept call.0 out text r reads) (omega (arith, r.given))
          (subst (λ (n : ℕ). IsContent forms keeps audit settings n (tree_of text) (is.Fault kind)) means.number content)),
    )

-- what was read, as it stands in all bytes
read_now : {H A : Type 0} (forms : LineForms) (keeps_head : Data → H → Type 0) (keeps : Profile → ℕ → Data → A → Type 0) (audit : Bool) (before now : Option (List ℕ)) (old new : LinesState) (settings : Settings) (heading : H) (kept : Vec A Global) (more out text : List ℕ) (answer : LineEnd) → (r : IsReading forms keeps_head keeps audit before now old settings heading kept.items) → ReadsLine old new r.bytes more out text (Ok answer) → IsReadOf forms keeps_head keeps (input_of audit new (r.bytes ++ more)) (record { settings = settings; head = heading; kept = kept })
read_now forms keeps_head keeps audit before now old new settings heading kept more out text answer r reads = record {
  head = head_same keeps_head heading old.given (lines_of r.bytes) (lines_of (r.bytes ++ more)) reads.kept (omega (arith, r.given)) r.head;
  lines = subst (AreRead forms audit (lines_of (r.bytes ++ more)) settings) r.given (are_read_same forms audit (lines_of r.bytes) (lines_of (r.bytes ++ more)) settings old.given reads.kept r.read);
  kept = are_kept_same (keeps settings.profile) (lines_of r.bytes) (lines_of (r.bytes ++ more)) old.given kept.items reads.kept (omega (arith, r.given)) r.holds;
}

pub exit_journal : {H A : Type 0} (forms : LineForms) (keeps_head : Data → H → Type 0) (keeps : Profile → ℕ → Data → A → Type 0) (audit : Bool) (before now after : Option (List ℕ)) (old new : LinesState) (settings : Settings) (heading : H) (kept : Vec A Global) (out : List ℕ) (text : Vec ℕ Global) → IsReading forms keeps_head keeps audit before now old settings heading kept.items → Reads now after old new out text.items (Ok Line) → IsContent forms keeps audit settings new.given (tree_of text.items) is.Journal → Exits forms keeps_head keeps audit before after new (Ok record { read = record { settings = settings; head = heading; kept = kept }; journal = Some text })
exit_journal forms keeps_head keeps audit before now after old new settings heading kept out text r call content =
    let reads : ReadsLine old new r.bytes call.0 out text.items (Ok Line) = call.2 r.bytes r.taken in
    let input = input_of audit new (r.bytes ++ call.0) in (
      r.bytes ++ call.0,
      takes_both before now after r.bytes call.0 r.takes call.1,
      reads.taken,
      (
        read_now forms keeps_head keeps audit before now old new settings heading kept call.0 out text.items Line r reads,
        subst (λ (n : ℕ). IsUpToJournal forms input n text.items) r.given
            (journal_reached forms input settings old.given text.items (given_now forms keeps_head keeps audit before now old new settings heading kept.items call.0 out text.items r reads) (omega (arith, r.given)) content),
      ),
    )

-- where the input ends, it is whole, or a journal is missing
no_journal : (forms : LineForms) (audit : Bool) (settings : Settings) (old new : LinesState) (bytes more out text : List ℕ) → ReadsLine old new bytes more out text (Ok End) → AreRead forms audit (lines_of bytes) settings old.given → 0 < old.given → HasNoJournal audit forms (input_of audit new (bytes ++ more)) old.given
no_journal forms false settings old new bytes more out text reads read some = whole_read forms settings old new bytes more out text reads read some
no_journal forms true settings old new bytes more out text reads read some =
    let end : ReachesEnd old new (bytes ++ more) = reads.means.0 in
    subst (λ (n : ℕ). IsFaultOf forms (input_of true new (bytes ++ more)) (n + 1) (fault_number NotJournal)) end.number
    (journal_missing forms settings old new bytes more out text reads read some)

pub exit_end : {H A : Type 0} (forms : LineForms) (keeps_head : Data → H → Type 0) (keeps : Profile → ℕ → Data → A → Type 0) (audit : Bool) (before now after : Option (List ℕ)) (old new : LinesState) (settings : Settings) (heading : H) (kept : Vec A Global) (out text : List ℕ) → IsReading forms keeps_head keeps audit before now old settings heading kept.items → Reads now after old new out text (Ok End) → Exits forms keeps_head keeps audit before after new (Ok record { read = record { settings = settings; head = heading; kept = kept }; journal = None })
exit_end forms keeps_head keeps audit before now after old new settings heading kept out text r call =
    let reads : ReadsLine old new r.bytes call.0 out text (Ok End) = call.2 r.bytes r.taken in (
      r.bytes ++ call.0,
      takes_both before now after r.bytes call.0 r.takes call.1,
      reads.taken,
      (
        read_now forms keeps_head keeps audit before now old new settings heading kept call.0 out text End r reads,
        subst (HasNoJournal audit forms (input_of audit new (r.bytes ++ call.0))) r.given
            (no_journal forms audit settings old new r.bytes call.0 out text reads r.read (omega (arith, r.given))),
      ),
    )

pub exit_memory : {H A : Type 0} (forms : LineForms) (keeps_head : Data → H → Type 0) (keeps : Profile → ℕ → Data → A → Type 0) (audit : Bool) (before now after : Option (List ℕ)) (old new : LinesState) (settings : Settings) (heading : H) (kept : List A) (answer : Result LineEnd LineFault) (out text : List ℕ) → IsReading forms keeps_head keeps audit before now old settings heading kept → Reads now after old new out text answer → Exits forms keeps_head keeps audit before after new (Err OutOfMemory)
exit_memory forms keeps_head keeps audit before now after old new settings heading kept answer out text r call =
    let reads : ReadsLine old new r.bytes call.0 out text answer = call.2 r.bytes r.taken in
    (r.bytes ++ call.0, takes_both before now after r.bytes call.0 r.takes call.1, reads.taken, tt)

-- ---- the header

-- nothing was taken of a fresh reader's source
pub fresh_taken : (state : LinesState) → IsFresh state → HasTaken state []
fresh_taken state e = subst (λ (s : LinesState). HasTaken s []) (sym e) record {
  front = [];
  parts = refl;
  count = refl;
  lines = refl;
  closed = inl (λ k f. absurd (omega (arith, f)));
  sound = λ place h. absurd (omega arith);
}

-- what is set as long as no line was read: anything
nothing_set : Settings
nothing_set = record { workers = 1; profile = Own }

none_read : (forms : LineForms) (audit : Bool) (texts : List (List ℕ)) (n : ℕ) → n ≡ 0 → AreRead forms audit texts nothing_set n
none_read forms audit texts n none = record { head = λ h. absurd (omega arith); others = λ i some within. absurd (omega arith) }

abbrev pub HeadExits : {H : Type 0} → LineForms → (Data → H → Type 0) → Option (List ℕ) → Option (List ℕ) → LinesState → Result (FormedHead H) ScriptFault → Type 0
HeadExits forms keeps_head before after new result = (bytes : List ℕ) × Takes before after bytes × HasTaken new bytes × IsHeadAnswer forms keeps_head new bytes result

fresh_given : (state : LinesState) → IsFresh state → state.given ≡ 0
fresh_given state e = ap (λ (s : LinesState). s.given) e

pub fresh_untold : (state : LinesState) → IsFresh state → state.told ≡ None
fresh_untold state e = ap (λ (s : LinesState). s.told) e

pub head_read : {H : Type 0} (forms : LineForms) (keeps_head : Data → H → Type 0) (before after : Option (List ℕ)) (old new : LinesState) (head : FormedHead H) (out text : List ℕ) → IsFresh old → Reads before after old new out text (Ok Line) → first.Header head.settings ≡ first_content forms text → IsHeadKept keeps_head (tree_of text) head.kept → HeadExits forms keeps_head before after new (Ok head)
head_read forms keeps_head before after old new head out text fresh call told kept =
    let reads : ReadsLine old new [] call.0 out text (Ok Line) = call.2 [] (fresh_taken old fresh) in
    let means : GivesLine old new call.0 text = reads.means in
    let zero : old.given ≡ 0 = fresh_given old fresh in
    let g : IsGiven forms (input_of false new call.0) nothing_set old.given text = given_line forms false nothing_set old new [] call.0 out text reads (none_read forms false [] old.given zero) in
    let here : get_or (lines_of call.0) 0 [] ≡ text = ap (λ (i : ℕ). get_or (lines_of call.0) i []) (sym zero) ∙ g.here in
    (call.0, call.1, reads.taken, (means.untold, means.number ∙ ap (λ (n : ℕ). n + 1) zero, ap (first_content forms) here ∙ sym told, subst (λ (t : List ℕ). IsHeadKept keeps_head (tree_of t) head.kept) (sym here) kept))

pub head_fault : {H : Type 0} (forms : LineForms) (keeps_head : Data → H → Type 0) (before after : Option (List ℕ)) (old new : LinesState) (kind : FaultKind) (out text : List ℕ) → IsFresh old → Reads before after old new out text (Ok Line) → first.Fault kind ≡ first_content forms text → HeadExits forms keeps_head before after new (Err (Bad 1 (fault_number kind)))
head_fault forms keeps_head before after old new kind out text fresh call told =
    let reads : ReadsLine old new [] call.0 out text (Ok Line) = call.2 [] (fresh_taken old fresh) in
    let zero : old.given ≡ 0 = fresh_given old fresh in (
      call.0,
      call.1,
      reads.taken,
      λ audit. first_told forms (input_of audit new call.0) nothing_set text kind
          (subst (λ (n : ℕ). IsGiven forms (input_of audit new call.0) nothing_set n text) zero (given_line forms audit nothing_set old new [] call.0 out text reads (none_read forms audit [] old.given zero)))
          (sym told),
    )

pub head_missing : {H : Type 0} (forms : LineForms) (keeps_head : Data → H → Type 0) (before after : Option (List ℕ)) (old new : LinesState) (out text : List ℕ) → IsFresh old → Reads before after old new out text (Ok End) → HeadExits forms keeps_head before after new (Err (Bad 1 (fault_number NoByte)))
head_missing forms keeps_head before after old new out text fresh call =
    let reads : ReadsLine old new [] call.0 out text (Ok End) = call.2 [] (fresh_taken old fresh) in
    (call.0, call.1, reads.taken, λ audit. nothing_told forms audit old new [] call.0 out text reads (fresh_given old fresh))

pub head_limit : {H : Type 0} (forms : LineForms) (keeps_head : Data → H → Type 0) (before after : Option (List ℕ)) (old new : LinesState) (fault : LineFault) (out text : List ℕ) → IsFresh old → Reads before after old new out text (Err fault) → HeadExits forms keeps_head before after new (Err (script_fault new.given fault))
head_limit forms keeps_head before after old new fault out text fresh call =
    let reads : ReadsLine old new [] call.0 out text (Err fault) = call.2 [] (fresh_taken old fresh) in
    (call.0, call.1, reads.taken, λ audit. fault_told forms audit nothing_set old new [] call.0 out text fault reads (none_read forms audit [] old.given (fresh_given old fresh)))

pub head_memory : {H : Type 0} (forms : LineForms) (keeps_head : Data → H → Type 0) (before after : Option (List ℕ)) (old new : LinesState) (answer : Result LineEnd LineFault) (out text : List ℕ) → IsFresh old → Reads before after old new out text answer → HeadExits forms keeps_head before after new (Err OutOfMemory)
head_memory forms keeps_head before after old new answer out text fresh call =
    let reads : ReadsLine old new [] call.0 out text answer = call.2 [] (fresh_taken old fresh) in
    (call.0, call.1, reads.taken, λ audit. tt)

-- the same of a header
pub head_open : {H : Type 0} (forms : LineForms) (keeps_head : Data → H → Type 0) (before after : Option (List ℕ)) (new : LinesState) (result : Result (FormedHead H) ScriptFault) → HeadExits forms keeps_head before after new result → result ≡ Err Read → ¬ (IsTrue new.ended)
head_open {H = H} forms keeps_head before after new result exits failed =
    let told : IsTold forms (input_of false new exits.0) Read = (subst (λ (r : Result (FormedHead H) ScriptFault). IsHeadAnswer forms keeps_head new exits.0 r) failed exits.3) false in
    told.1

-- what a line is, by equal places and texts
pub content_at : {A : Type 0} (forms : LineForms) (keeps : Profile → ℕ → Data → A → Type 0) (audit : Bool) (settings : Settings) (at given : ℕ) (now text : List ℕ) (content other : Content A) → at ≡ given → now ≡ text → content ≡ other → IsContent forms keeps audit settings at (tree_of now) content → IsContent forms keeps audit settings given (tree_of text) other
content_at {A = A} forms keeps audit settings at given now text content other e f g h =
    subst (λ (n : ℕ). IsContent forms keeps audit settings n (tree_of text) other) e
    (subst (λ (t : List ℕ). IsContent forms keeps audit settings at (tree_of t) other) f
    (subst (λ (x : Content A). IsContent forms keeps audit settings at (tree_of now) x) g h))

-- ---- the source

pub left_of : {P Q : Type 0} → (Q → ⊥) → P ⊎ Q → P
left_of none (inl p) = p
left_of none (inr q) = absurd (none q)

-- a read that failed where the source isn't known to be at its end
pub read_fails : {S : Type 0} (ended : S → Bool) (faults : S → ℕ) (source source' : S) (old new : LinesState) → LeavesOpen ended source source' old new → ¬ (IsTrue new.ended) → Rose (faults source) (faults source') → ReadFails ended faults source source'
read_fails ended faults source source' old new left goes_on rose = record { unended = left.unended goes_on; rose = rose }

-- a source at its end stays there
pub still_at_end : {S : Type 0} (left : S → Option (List ℕ)) (source other : S) (old new : LinesState) (bytes : List ℕ) → (IsTrue old.ended → IsAtEnd (left source)) → (IsTrue new.ended → IsTrue old.ended ⊎ IsAtEnd (left other)) → (other ≡ source) ⊎ IsUnfinished old.given old.ended bytes → IsTrue new.ended → IsAtEnd (left other)
still_at_end left source other old new bytes before here touched ended = by_end (here ended) touched
  where
    by_end : IsTrue old.ended ⊎ IsAtEnd (left other) → (other ≡ source) ⊎ IsUnfinished old.given old.ended bytes → IsAtEnd (left other)
    by_end (inr end) t = end
    by_end (inl was) (inl same) = subst (λ (s : _). IsAtEnd (left s)) (sym same) (before was)
    by_end (inl was) (inr u) = absurd (u.goes_on was)
