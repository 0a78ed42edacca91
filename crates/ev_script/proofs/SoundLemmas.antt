-- A line that was read without a fault has none by the definition either.
use Rattle.std.proofs.Common.{◌≡◌, ℕ, zero, suc, ◌+◌, ◌<◌, ◌≤◌, Bool, true, false, ◌&&◌, nat_le, IsTrue, List, [], get_or, Option, None, Some, option_and_then, refl, sym, ap, subst, ◌∙◌, arith}
use Rattle.std.proofs.lemmas.Bool.Decides.{nat_tests}
use Rattle.serde_json.specs.Data.{Data}
use Rattle.ev_types.specs.declared.events.Profile.{Profile}
use Rattle.ev_io.specs.Lines.{lines_of}
use Rattle.ev_script.specs.declared.fault_kinds.FaultKind.TheVariants.{NotJson, NotHeader, NotLine, NoSuchWorker}
use Rattle.ev_script.specs.declared.forms.Settings.{Settings}
use Rattle.ev_script.specs.Members.{tree_of}
use Rattle.ev_script.specs.Faults.{LineForms, Input, index_at, tree_at, settings_in, profile_by, profile_in, named_at, has_format, BeginsJournal, IsUnknownWorker, Stands}
use Rattle.ev_script.specs.Content.{is_above, IsLineOf}
use Rattle.ev_script.specs.ReadLines.{AreRead}
use Rattle.ev_script.proofs.ContentLemmas.{first_is}

-- there is no fault of its content where a line ends, nor does a journal begin there
pub record IsSoundAt (forms : LineForms) (input : Input) (place : ℕ) : Type 0 where
  pub json : ¬ (Stands forms input place NotJson)
  pub header : ¬ (Stands forms input place NotHeader)
  pub line : ¬ (Stands forms input place NotLine)
  pub worker : ¬ (Stands forms input place NoSuchWorker)
  pub journal : ¬ (BeginsJournal input place)

none_some : {A : Type 0} (x : A) (o : Option A) → o ≡ None → o ≡ Some x → ⊥
none_some x o e f = cc

pub some_same : {A : Type 0} (x y : A) (o : Option A) → o ≡ Some x → o ≡ Some y → x ≡ y
some_same x y o e f = cc

not_above : (workers worker : ℕ) (named : Option ℕ) → named ≡ Some worker → is_above workers named ≡ false → workers ≤ worker → ⊥
not_above workers worker named e f h =
    let test : nat_le workers worker ≡ false = sym (ap (is_above workers) e) ∙ f in
    grind (arith, nat_tests)

both_true : (a b : Bool) → IsTrue a → IsTrue b → (a && b) ≡ false → ⊥
both_true true true h k e = cc
both_true true false h k e = let f : false ≡ true = k in cc
both_true false b h k e = let f : false ≡ true = h in cc

-- no journal begins where a line ends that has no member `format`, or in an input that is no audit's
pub no_journal : (input : Input) (place : ℕ) (tree : Data) → tree_at input place ≡ Some tree → (input.audit && has_format tree) ≡ false → ¬ (BeginsJournal input place)
no_journal input place tree e f = λ b.
    let same : b.format.0 ≡ tree = some_same b.format.0 tree (tree_at input place) b.format.1 e in
    both_true input.audit (has_format tree) b.audit (subst (λ (d : Data). IsTrue (has_format d)) same b.format.2) f

-- what the first line sets
pub head_is : (forms : LineForms) (audit : Bool) (texts : List (List ℕ)) (settings : Settings) (n : ℕ) → AreRead forms audit texts settings n → 0 < n → settings_in forms texts ≡ Some settings
head_is forms audit texts settings n read h = first_is forms (tree_of (get_or texts 0 [])) settings (read.head h)

-- its profile
pub profile_is : (forms : LineForms) (audit : Bool) (texts : List (List ℕ)) (settings : Settings) (n : ℕ) → AreRead forms audit texts settings n → 0 < n → profile_in forms texts ≡ settings.profile
profile_is forms audit texts settings n read h = ap profile_by (head_is forms audit texts settings n read h)

-- what a line is by the forms, at a place of this profile and index
pub named_is : (forms : LineForms) (input : Input) (place i : ℕ) (profile : Profile) → profile_in forms (lines_of input.bytes) ≡ profile → index_at input place ≡ i → named_at forms input place ≡ option_and_then (forms.lines profile (i + 1)) (tree_at input place)
named_is forms input place i profile p e =
    ap (λ (q : Profile). option_and_then (forms.lines q (index_at input place + 1)) (tree_at input place)) p
    ∙ ap (λ (n : ℕ). option_and_then (forms.lines profile (n + 1)) (tree_at input place)) e

-- the first line
sound_first : (forms : LineForms) (input : Input) (place n : ℕ) (settings : Settings) → AreRead forms input.audit (lines_of input.bytes) settings n → 0 < n → index_at input place ≡ 0 → IsSoundAt forms input place
sound_first forms input place n settings read h e =
    let same : option_and_then forms.heads (tree_at input place) ≡ Some settings = ap (λ (i : ℕ). option_and_then forms.heads (tree_of (get_or (lines_of input.bytes) i []))) e ∙ head_is forms input.audit (lines_of input.bytes) settings n read h in
    record {
      json = λ s. none_some settings (option_and_then forms.heads (tree_at input place)) (ap (option_and_then forms.heads) s.1) same;
      header = λ s. none_some settings (option_and_then forms.heads (tree_at input place)) s.2 same;
      line = λ s. let k : 0 < index_at input place = s.1 in omega arith;
      worker = λ s. let k : 0 < index_at input place = s.1 in omega arith;
      journal = λ b. let k : 0 < index_at input place = b.later in omega arith;
    }

-- another line
sound_other : (forms : LineForms) (input : Input) (place n i : ℕ) (settings : Settings) → AreRead forms input.audit (lines_of input.bytes) settings n → 0 < i → i < n → index_at input place ≡ i → IsSoundAt forms input place
sound_other forms input place n i settings read some within e =
    let r : IsLineOf forms input.audit settings (i + 1) (tree_of (get_or (lines_of input.bytes) i [])) = read.others i some within in
    let tree : tree_at input place ≡ Some r.tree = ap (λ (i : ℕ). tree_of (get_or (lines_of input.bytes) i [])) e ∙ r.is in
    let named : named_at forms input place ≡ Some r.named =
    named_is forms input place i settings.profile (profile_is forms input.audit (lines_of input.bytes) settings n read (omega arith)) e
    ∙ ap (option_and_then (forms.lines settings.profile (i + 1))) tree
    ∙ r.reads in
    let worker : IsUnknownWorker forms input (named_at forms input place) → ⊥ = λ u.
    let actor : r.named ≡ Some u.worker = some_same r.named (Some u.worker) (named_at forms input place) named u.names in
    let heads : u.settings ≡ settings = some_same u.settings settings (settings_in forms (lines_of input.bytes)) u.heads (head_is forms input.audit (lines_of input.bytes) settings n read (omega arith)) in
    not_above settings.workers u.worker r.named actor r.below (subst (λ (s : Settings). s.workers ≤ u.worker) heads u.above) in
    record {
      json = λ s. none_some r.tree (tree_at input place) s.1 tree;
      header = λ s. let k : index_at input place ≡ 0 = s.1 in omega arith;
      line = λ s. none_some r.named (named_at forms input place) s.2 named;
      worker = λ s. worker s.2;
      journal = no_journal input place r.tree tree r.plain;
    }

-- any line that was read
pub sound_at : (forms : LineForms) (input : Input) (place n : ℕ) (settings : Settings) → AreRead forms input.audit (lines_of input.bytes) settings n → index_at input place < n → IsSoundAt forms input place
sound_at forms input place n settings read within = by_index (index_at input place) refl
  where
    by_index : (i : ℕ) → index_at input place ≡ i → IsSoundAt forms input place
    by_index zero e = sound_first forms input place n settings read (omega arith) e
    by_index (suc i) e = sound_other forms input place n (suc i) settings read (omega arith) (omega arith) e
