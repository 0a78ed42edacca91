-- What an input of filter chains is, by what the reader of lines answers.
use Rattle.std.proofs.Common.{◌≡◌, ℕ, suc, ◌+◌, ◌<◌, true, false, List, [], ◌∷◌, Vec, map, length, get_or, IsTrue, Option, None, Some, Result, Ok, Err, option_map, option_and_then, refl, sym, ap, ◌∙◌, arith}
use Rattle.std.specs.Prelude.{⊤}
use Rattle.std.specs.declared.alloc.Global.{Global}
use Rattle.std.specs.Io.KnownBytes.{IsAtEnd}
use Rattle.serde_json.specs.Data.{Data}
use Rattle.ev_types.specs.declared.events.Profile.{Profile}
use Rattle.ev_io.specs.declared.faults.ScriptFault.{ScriptFault}
use Rattle.ev_io.specs.declared.faults.ScriptFault.TheVariants.{Bad, Read, OutOfMemory}
use Rattle.ev_io.specs.Lines.{lines_of}
use Rattle.ev_io.specs.Outside.{Takes}
use Rattle.ev_io.specs.LinesState.{LinesState, HasTaken, IsWithin}
use Rattle.ev_script.specs.declared.read_input.ReadLines.{ReadLines}
use Rattle.ev_script.specs.Faults.{Input}
use Rattle.ev_script.specs.Members.{tree_of}
use Rattle.ev_script.specs.Content.{IsKeptOf}
use Rattle.ev_script.specs.ReadLines.{AreLinesKept}
use Rattle.ev_script.specs.ReadInput.{input_of, IsAnswer, IsTold}
use Rattle.ev_chains.specs.Steps.{Event}
use Rattle.ev_chain_lines.specs.Lines.{event_of, event_told, chain_lines, events_from, events_behind}
use Rattle.ev_chain_lines.specs.Texts.{chains_text}
use Rattle.ev_chain_lines.specs.Inputs.{TakesChains, IsMadeOf, MakesChains}

-- an event is kept, whatever the profile
abbrev pub IsEvent : Profile → ℕ → Data → List ℕ → Type 0
IsEvent profile at tree event = event_of tree ≡ Some (event_told event)

-- the events of lines that were kept
events_by : (profile : Profile) (at : ℕ) (texts : List (List ℕ)) (kept : List (List ℕ)) → length texts ≡ length kept
    → ((i : ℕ) (other : List ℕ) → i < length kept → IsKeptOf (IsEvent profile) (at + i) (tree_of (get_or texts i [])) (get_or kept i other))
    → events_from texts ≡ Some (map event_told kept)
events_by profile at [] [] e h = refl
events_by profile at [] (event ∷ kept) e h = absurd (omega (arith, e))
events_by profile at (text ∷ texts) [] e h = absurd (omega (arith, e))
events_by profile at (text ∷ texts) (event ∷ kept) e h =
    let k : IsKeptOf (IsEvent profile) (at + 0) (tree_of text) event = h 0 event (omega arith) in
    let here : option_and_then event_of (tree_of text) ≡ Some (event_told event) = ap (option_and_then event_of) k.is ∙ k.holds in
    let others : events_from texts ≡ Some (map event_told kept) = events_by profile (at + 1) texts kept (omega (arith, e)) (λ i other within.
    let r = h (suc i) other (omega arith) in record { tree = r.tree; is = r.is; holds = r.holds }) in
    ap (λ (found : Option Event). option_and_then (λ (l : Event). option_map (λ (ls : List Event). l ∷ ls) (events_from texts)) found) here
    ∙ ap (option_map (λ (ls : List Event). event_told event ∷ ls)) others

behind_first : (profile : Profile) (texts : List (List ℕ)) (kept : List (List ℕ)) → length texts ≡ length kept + 1 → AreLinesKept (IsEvent profile) texts kept → events_behind texts ≡ Some (map event_told kept)
behind_first profile [] kept long are = absurd (omega (arith, long))
behind_first profile (first ∷ texts) kept long are =
    events_by profile 2 texts kept (omega (arith, long)) (λ i other h.
    let k : IsKeptOf (IsEvent profile) (i + 2) (tree_of (get_or (first ∷ texts) (i + 1) [])) (get_or kept i other) = are i other h in
    let next : get_or (first ∷ texts) (i + 1) [] ≡ get_or texts i [] = ap (λ (n : ℕ). get_or (first ∷ texts) n []) (next_is i) in
    record { tree = k.tree; is = ap tree_of (sym next) ∙ k.is; holds = k.holds })
  where
    next_is : (i : ℕ) → i + 1 ≡ suc i
    next_is i = omega arith

-- the bytes taken
taken_input : (before after : Option (List ℕ)) (state : LinesState) (bytes : List ℕ) → Takes before after bytes → HasTaken state bytes → IsWithin state → (IsTrue state.ended → IsAtEnd after) → TakesChains before after (input_of false state bytes)
taken_input before after state bytes takes taken within ended = record {
  asked = refl;
  taken = takes;
  at_most = omega (arith, taken.count, within.taken);
  ended = ended;
}

-- what the reader of lines ensures
abbrev pub Reads : Option (List ℕ) → Option (List ℕ) → LinesState → Result (ReadLines ⊤ (List ℕ)) ScriptFault → Type 0
Reads before after state result = (bytes : List ℕ) × Takes before after bytes × HasTaken state bytes × IsAnswer chain_lines (λ tree head. ⊤) IsEvent (input_of false state bytes) result

pub makes_text : (before after : Option (List ℕ)) (state : LinesState) (read : ReadLines ⊤ (List ℕ)) (text : Vec ℕ Global) → IsWithin state → (IsTrue state.ended → IsAtEnd after)
    → Reads before after state (Ok read) → text.items ≡ chains_text (map event_told read.kept.items) → MakesChains before after (Ok text)
makes_text before after state read text within ended r answers =
    let input = input_of false state r.0 in
    let ends = r.3.1 in
    record {
      input = input;
      takes = taken_input before after state r.0 r.1 r.2 within ended;
      is = record {
        ended = ends.ended;
        sound = ends.sound;
        text_of = record { events = map event_told read.kept.items; reads = behind_first read.settings.profile (lines_of r.0) read.kept.items ends.lines r.3.0.kept; answers = answers };
      };
    }

told : (input : Input) (fault : ScriptFault) → IsTold chain_lines input fault → IsMadeOf input (Err fault)
told input (Bad line kind) is = is
told input Read is = (is.0, is.1)
told input OutOfMemory is = tt

pub makes_fault : (before after : Option (List ℕ)) (state : LinesState) (fault : ScriptFault) → IsWithin state → (IsTrue state.ended → IsAtEnd after)
    → Reads before after state (Err fault) → MakesChains before after (Err fault)
makes_fault before after state fault within ended r =
    record { input = input_of false state r.0; takes = taken_input before after state r.0 r.1 r.2 within ended; is = told (input_of false state r.0) fault r.3 }

-- there was no memory for the text
pub makes_none : (before after : Option (List ℕ)) (state : LinesState) (read : ReadLines ⊤ (List ℕ)) → IsWithin state → (IsTrue state.ended → IsAtEnd after)
    → Reads before after state (Ok read) → MakesChains before after (Err OutOfMemory)
makes_none before after state read within ended r =
    record { input = input_of false state r.0; takes = taken_input before after state r.0 r.1 r.2 within ended; is = tt }

no_byte : (left : Option (List ℕ)) → Takes left left []
no_byte None = refl
no_byte (Some xs) = refl

-- nothing was taken
pub makes_nothing : (left : Option (List ℕ)) → MakesChains left left (Err OutOfMemory)
makes_nothing left = record {
  input = record { bytes = []; ended = false; audit = false };
  takes = record { asked = refl; taken = no_byte left; at_most = omega arith; ended = λ no. let f : false ≡ true = no in cc };
  is = tt;
}
