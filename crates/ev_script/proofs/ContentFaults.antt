-- The fault that the content of a line gives is the first of the input.
use Rattle.std.proofs.Common.{◌≡◌, ℕ, ◌+◌, ◌<◌, ◌≤◌, Bool, true, false, ◌&&◌, List, [], get_or, IsTrue, Option, None, Some, refl, sym, ap, subst, ◌∙◌, ◌⊎◌, inl, inr, arith}
use Rattle.std.proofs.lemmas.Bool.Decides.{nat_tests}
use Rattle.std.proofs.lemmas.Bool.{cases_lt}
use Rattle.serde_json.specs.Data.{Data}
use Rattle.ev_types.specs.declared.events.Profile.{Profile}
use Rattle.ev_io.specs.Lines.{lines_of}
use Rattle.ev_script.specs.declared.content.Content.TheVariants as is
use Rattle.ev_script.specs.declared.content.First.TheVariants as first
use Rattle.ev_script.specs.declared.fault_kinds.FaultKind.{FaultKind}
use Rattle.ev_script.specs.declared.fault_kinds.FaultKind.TheVariants.{TooLong, TooMany, TooLarge, NotJson, NotHeader, NotLine, NoSuchWorker, NoByte, NotJournal}
use Rattle.ev_script.specs.declared.forms.Settings.{Settings}
use Rattle.ev_script.specs.Members.{tree_of}
use Rattle.ev_script.specs.Faults.{LineForms, Input, index_at, tree_at, BeginsJournal, fault_number, has_format, Stands, IsFirstFault, IsFaultOf}
use Rattle.ev_script.specs.Content.{first_of, first_tree, first_content, is_above, IsContent, IsNoLine, NamesAbove, IsJournalHead}
use Rattle.ev_script.specs.ReadInput.{IsUpToJournal}
use Rattle.ev_script.proofs.SoundLemmas.{no_journal}
use Rattle.ev_script.proofs.FirstLemmas.{IsReadBefore, nothing_before, no_journal_before, of_content, json_first, header_first, line_first, worker_first}

-- the line after the first n ones ends at a place and is this text, and those before it were read
pub record IsGiven (forms : LineForms) (input : Input) (settings : Settings) (n : ℕ) (text : List ℕ) : Type 0 where
  pub place : ℕ
  pub before : IsReadBefore forms input settings place
  pub index : index_at input place ≡ n
  pub here : get_or (lines_of input.bytes) n [] ≡ text

-- its tree is that of the text
pub given_tree : (forms : LineForms) (input : Input) (settings : Settings) (n : ℕ) (text : List ℕ) → (g : IsGiven forms input settings n text) → tree_at input g.place ≡ tree_of text
given_tree forms input settings n text g = ap (λ (i : ℕ). tree_of (get_or (lines_of input.bytes) i [])) g.index ∙ ap tree_of g.here

-- the first line
pub first_told : (forms : LineForms) (input : Input) (settings : Settings) (text : List ℕ) (kind : FaultKind) → IsGiven forms input settings 0 text → first_content forms text ≡ first.Fault kind → IsFaultOf forms input 1 (fault_number kind)
first_told forms input settings text kind g told = by_tree (tree_of text) refl told
  where
    told_at : (k : FaultKind) → 1 ≡ index_at input g.place + 1
    told_at k = let e : index_at input g.place ≡ 0 = g.index in omega arith

    by_header : (tree : Data) → tree_of text ≡ Some tree → (found : Option Settings) → forms.heads tree ≡ found → first_of found ≡ first.Fault kind → IsFaultOf forms input 1 (fault_number kind)
    by_header tree e None f h =
        let same : NotHeader ≡ kind = cc in
        subst (λ (k : FaultKind). IsFaultOf forms input 1 (fault_number k)) same record {
          place = g.place;
          kind = NotHeader;
          first = header_first forms input settings g.place tree g.before g.index (given_tree forms input settings 0 text g ∙ e) f;
          before = λ start h. no_journal_before forms input settings g.place start g.before h;
          told = told_at NotHeader;
          numbered = refl;
        }
    by_header tree e (Some h) f k = cc

    by_tree : (found : Option Data) → tree_of text ≡ found → first_tree forms found ≡ first.Fault kind → IsFaultOf forms input 1 (fault_number kind)
    by_tree None e f =
        let same : NotJson ≡ kind = cc in
        subst (λ (k : FaultKind). IsFaultOf forms input 1 (fault_number k)) same record {
          place = g.place;
          kind = NotJson;
          first = json_first forms input settings g.place g.before (given_tree forms input settings 0 text g ∙ e);
          before = λ start h. no_journal_before forms input settings g.place start g.before h;
          told = told_at NotJson;
          numbered = refl;
        }
    by_tree (Some tree) e f = by_header tree e (forms.heads tree) refl f

named_above : (workers : ℕ) (named : Option ℕ) → is_above workers named ≡ true → (worker : ℕ) × (named ≡ Some worker) × (workers ≤ worker)
named_above workers None e = cc
named_above workers (Some worker) e = (worker, refl, grind (arith, nat_tests))

-- no line by the forms
no_line : (forms : LineForms) (input : Input) (settings : Settings) (n : ℕ) (text : List ℕ) → (g : IsGiven forms input settings n text) → 0 < n → IsNoLine forms input.audit settings.profile (n + 1) (tree_of text) → IsFirstFault forms input g.place NotLine
no_line forms input settings n text g some c =
    let tree : tree_at input g.place ≡ Some c.tree = given_tree forms input settings n text g ∙ c.is in
    line_first forms input settings g.place c.tree g.before (no_journal input g.place c.tree tree c.plain) (subst (λ (i : ℕ). 0 < i) (sym g.index) some) tree
    (ap (λ (i : ℕ). forms.lines settings.profile (i + 1) c.tree) g.index ∙ c.none)

-- a worker that isn't below the count
unknown_worker : (forms : LineForms) (input : Input) (settings : Settings) (n : ℕ) (text : List ℕ) → (g : IsGiven forms input settings n text) → 0 < n → NamesAbove forms input.audit settings (n + 1) (tree_of text) → IsFirstFault forms input g.place NoSuchWorker
unknown_worker forms input settings n text g some c =
    let tree : tree_at input g.place ≡ Some c.tree = given_tree forms input settings n text g ∙ c.is in
    let above = named_above settings.workers c.named c.above in
    worker_first forms input settings g.place c.tree above.0 g.before (no_journal input g.place c.tree tree c.plain) (subst (λ (i : ℕ). 0 < i) (sym g.index) some) tree
    (ap (λ (i : ℕ). forms.lines settings.profile (i + 1) c.tree) g.index ∙ c.reads ∙ ap Some above.1) above.2

-- another line
pub content_told : {A : Type 0} (forms : LineForms) (keeps : Profile → ℕ → Data → A → Type 0) (input : Input) (settings : Settings) (n : ℕ) (text : List ℕ) (kind : FaultKind) → IsGiven forms input settings n text → 0 < n → IsContent forms keeps input.audit settings (n + 1) (tree_of text) (is.Fault kind) → IsFaultOf forms input (n + 1) (fault_number kind)
content_told forms keeps input settings n text NotJson g some c =
    let e : index_at input g.place ≡ n = g.index in
    record { place = g.place; kind = NotJson; first = json_first forms input settings g.place g.before (given_tree forms input settings n text g ∙ c); before = λ start h. no_journal_before forms input settings g.place start g.before h; told = omega arith; numbered = refl }
content_told forms keeps input settings n text NotLine g some c =
    let e : index_at input g.place ≡ n = g.index in
    record { place = g.place; kind = NotLine; first = no_line forms input settings n text g some c; before = λ start h. no_journal_before forms input settings g.place start g.before h; told = omega arith; numbered = refl }
content_told forms keeps input settings n text NoSuchWorker g some c =
    let e : index_at input g.place ≡ n = g.index in
    record { place = g.place; kind = NoSuchWorker; first = unknown_worker forms input settings n text g some c; before = λ start h. no_journal_before forms input settings g.place start g.before h; told = omega arith; numbered = refl }
content_told forms keeps input settings n text TooLong g some c = absurd c
content_told forms keeps input settings n text TooMany g some c = absurd c
content_told forms keeps input settings n text TooLarge g some c = absurd c
content_told forms keeps input settings n text NotHeader g some c = absurd c
content_told forms keeps input settings n text NoByte g some c = absurd c
content_told forms keeps input settings n text NotJournal g some c = absurd c

-- ---- a line that begins the journal

by_both : (a b : Bool) → (a && b) ≡ true → IsTrue a × IsTrue b
by_both true true e = (refl, refl)
by_both true false e = cc
by_both false b e = cc

begins_there : (forms : LineForms) (input : Input) (settings : Settings) (n : ℕ) (text : List ℕ) → (g : IsGiven forms input settings n text) → 0 < n → IsJournalHead input.audit (tree_of text) → BeginsJournal input g.place
begins_there forms input settings n text g some c =
    let both = by_both input.audit (has_format c.tree) c.begins in
    record { audit = both.0; ends = g.before.ends; later = subst (λ (i : ℕ). 0 < i) (sym g.index) some; format = (c.tree, given_tree forms input settings n text g ∙ c.is, both.1) }

-- there is no fault at the place where the journal begins
nothing_there : (forms : LineForms) (input : Input) (settings : Settings) (place : ℕ) (kind : FaultKind) → IsReadBefore forms input settings place → BeginsJournal input place → Stands forms input place kind → ⊥
nothing_there forms input settings place TooLong read begins s = let h : 4 ≤ 2 = of_content forms input settings place TooLong read s in omega arith
nothing_there forms input settings place TooMany read begins s = let h : 4 ≤ 1 = of_content forms input settings place TooMany read s in omega arith
nothing_there forms input settings place TooLarge read begins s = let h : 4 ≤ 0 = of_content forms input settings place TooLarge read s in omega arith
nothing_there forms input settings place NoByte read begins s = let h : 4 ≤ 3 = of_content forms input settings place NoByte read s in omega arith
nothing_there forms input settings place NotJson read begins s = s.0.before place (omega arith) begins
nothing_there forms input settings place NotHeader read begins s = s.0.before place (omega arith) begins
nothing_there forms input settings place NotLine read begins s = s.0.before place (omega arith) begins
nothing_there forms input settings place NoSuchWorker read begins s = s.0.before place (omega arith) begins
nothing_there forms input settings place NotJournal read begins s = s.3 place begins

pub journal_reached : (forms : LineForms) (input : Input) (settings : Settings) (n : ℕ) (text : List ℕ) → IsGiven forms input settings n text → 0 < n → IsJournalHead input.audit (tree_of text) → IsUpToJournal forms input n text
journal_reached forms input settings n text g some c =
    let begins : BeginsJournal input g.place = begins_there forms input settings n text g some c in
    record {
      place = g.place;
      begins = begins;
      first = λ other h. no_journal_before forms input settings g.place other g.before h;
      sound = λ other kind h s. by_place other kind h s (cases_lt other g.place);
      behind = g.index;
      here = g.here;
    }
  where
    by_place : (other : ℕ) (kind : FaultKind) → other ≤ g.place → Stands forms input other kind → (other < g.place) ⊎ (g.place ≤ other) → ⊥
    by_place other kind h s (inl early) = nothing_before forms input settings g.place other kind g.before s early
    by_place other kind h s (inr late) =
        let same : other ≡ g.place = omega arith in
        nothing_there forms input settings g.place kind g.before (begins_there forms input settings n text g some c) (subst (λ (p : ℕ). Stands forms input p kind) same s)
