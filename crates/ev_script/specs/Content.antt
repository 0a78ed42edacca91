-- What the content of one line is, by its text.
use Rattle.std.specs.Prelude.{◌≡◌, ℕ, ◌&&◌, List, Bool, true, false, nat_le, Option, None, Some, ⊤}
use Rattle.serde_json.specs.Data.{Data}
use Rattle.ev_types.specs.declared.events.Profile.{Profile}
use Rattle.ev_script.specs.declared.content.Content.{Content}
use Rattle.ev_script.specs.declared.content.Content.TheVariants as is
use Rattle.ev_script.specs.declared.content.First.{First}
use Rattle.ev_script.specs.declared.content.First.TheVariants as first
use Rattle.ev_script.specs.declared.forms.FormedHead.{FormedHead}
use Rattle.ev_script.specs.declared.forms.Settings.{Settings}
use Rattle.ev_script.specs.declared.fault_kinds.FaultKind.TheVariants.{NotJson, NotHeader, NotLine, NoSuchWorker}
use Rattle.ev_script.specs.Members.{tree_of}
use Rattle.ev_script.specs.Faults.{LineForms, has_format}

-- what the first line is, by what it sets as a header
abbrev pub first_of : Option Settings → First Settings
first_of None = first.Fault NotHeader
first_of (Some settings) = first.Header settings

abbrev pub first_tree : LineForms → Option Data → First Settings
first_tree forms None = first.Fault NotJson
first_tree forms (Some tree) = first_of (forms.heads tree)

-- what the first line is by these forms: a header, which sets this, or a fault
abbrev pub first_content : LineForms → List ℕ → First Settings
first_content forms text = first_tree forms (tree_of text)

-- what a header sets
abbrev pub first_set : {A : Type 0} → First (FormedHead A) → First Settings
first_set (first.Header head) = first.Header head.settings
first_set (first.Fault kind) = first.Fault kind

-- this is kept of the first line
pub record IsHeadKept {A : Type 0} (keeps : Data → A → Type 0) (found : Option Data) (kept : A) : Type 0 where
  pub tree : Data
  pub is : found ≡ Some tree
  pub holds : keeps tree kept

-- what a header keeps
abbrev pub IsFirstKept : {A : Type 0} → (Data → A → Type 0) → Option Data → First (FormedHead A) → Type 0
IsFirstKept keeps found (first.Header head) = IsHeadKept keeps found head.kept
IsFirstKept keeps found (first.Fault kind) = ⊤

-- a worker that isn't below the count
abbrev pub is_above : ℕ → Option ℕ → Bool
is_above workers None = false
is_above workers (Some worker) = nat_le workers worker

-- a line by these forms, at its place, in a script with these settings: its tree begins no journal and is a line, whose
-- worker, where it names one, is below the count
pub record IsLineOf (forms : LineForms) (audit : Bool) (settings : Settings) (at : ℕ) (found : Option Data) : Type 0 where
  pub tree : Data
  pub is : found ≡ Some tree
  pub plain : (audit && has_format tree) ≡ false
  pub named : Option ℕ
  pub reads : forms.lines settings.profile at tree ≡ Some named
  pub below : is_above settings.workers named ≡ false

-- no line by these forms: its tree begins no journal and isn't one
pub record IsNoLine (forms : LineForms) (audit : Bool) (profile : Profile) (at : ℕ) (found : Option Data) : Type 0 where
  pub tree : Data
  pub is : found ≡ Some tree
  pub plain : (audit && has_format tree) ≡ false
  pub none : forms.lines profile at tree ≡ None

-- a line whose worker isn't below the count
pub record NamesAbove (forms : LineForms) (audit : Bool) (settings : Settings) (at : ℕ) (found : Option Data) : Type 0 where
  pub tree : Data
  pub is : found ≡ Some tree
  pub plain : (audit && has_format tree) ≡ false
  pub named : Option ℕ
  pub reads : forms.lines settings.profile at tree ≡ Some named
  pub above : is_above settings.workers named ≡ true

-- the first line of a journal
pub record IsJournalHead (audit : Bool) (found : Option Data) : Type 0 where
  pub tree : Data
  pub is : found ≡ Some tree
  pub begins : (audit && has_format tree) ≡ true

-- this is kept of the line
pub record IsKeptOf {A : Type 0} (keeps : ℕ → Data → A → Type 0) (at : ℕ) (found : Option Data) (kept : A) : Type 0 where
  pub tree : Data
  pub is : found ≡ Some tree
  pub holds : keeps at tree kept

-- what a line after the first is, by its tree: a line of the script, of which this is kept, a fault, or, in an audit's
-- input, the begin of the journal
abbrev pub IsContent : {A : Type 0} → LineForms → (Profile → ℕ → Data → A → Type 0) → Bool → Settings → ℕ → Option Data → Content A → Type 0
IsContent forms keeps audit settings at found (is.Line kept) = IsLineOf forms audit settings at found × IsKeptOf (keeps settings.profile) at found kept
IsContent forms keeps audit settings at found (is.Fault NotJson) = found ≡ None
IsContent forms keeps audit settings at found (is.Fault NotLine) = IsNoLine forms audit settings.profile at found
IsContent forms keeps audit settings at found (is.Fault NoSuchWorker) = NamesAbove forms audit settings at found
IsContent forms keeps audit settings at found (is.Fault _) = ⊥
IsContent forms keeps audit settings at found is.Journal = IsJournalHead audit found
