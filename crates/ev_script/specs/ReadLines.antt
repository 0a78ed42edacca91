-- Lines that were read without a fault.
use Rattle.std.specs.Prelude.{◌≡◌, ℕ, ◌+◌, ◌<◌, Bool, List, [], length, slice_index_or}
use Rattle.serde_json.specs.Data.{Data}
use Rattle.ev_script.specs.declared.content.First.TheVariants as first
use Rattle.ev_script.specs.declared.forms.Settings.{Settings}
use Rattle.ev_script.specs.Members.{tree_of}
use Rattle.ev_script.specs.Faults.{LineForms}
use Rattle.ev_script.specs.Content.{first_content, IsLineOf, IsKeptOf}

-- by these forms, of the first n lines the first is a header with these settings, and each other a line
pub record AreRead (forms : LineForms) (audit : Bool) (texts : List (List ℕ)) (settings : Settings) (n : ℕ) : Type 0 where
  pub head : 0 < n → first_content forms (slice_index_or texts 0 []) ≡ first.Header settings
  pub others : (i : ℕ) → 0 < i → i < n → IsLineOf forms audit settings (i + 1) (tree_of (slice_index_or texts i []))

-- this is kept of the lines after the first, one after another
abbrev pub AreLinesKept : {A : Type 0} → (ℕ → Data → A → Type 0) → List (List ℕ) → List A → Type 0
AreLinesKept keeps texts kept = (i : ℕ) (other : _) → i < length kept → IsKeptOf keeps (i + 2) (tree_of (slice_index_or texts (i + 1) [])) (slice_index_or kept i other)
