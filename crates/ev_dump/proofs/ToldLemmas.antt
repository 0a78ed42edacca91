-- The entry that a row records, by its word or its line.
use Rattle.std.proofs.Common.{◌≡◌, ◌==◌, ◌⊎◌, inl, inr, ℕ, ◌+◌, Bool, true, false, ◌&&◌, if◌then◌else◌, List, [], ◌∷◌, ◌++◌, map, Option, Some, None, IsSome, refl, ap, sym, ◌∙◌, subst}
use Rattle.std.specs.Prelude.{find, option_map, slice_get, take}
use Rattle.std.specs.List.{cons_option, flat_map, range_with_len}
use Rattle.std.specs.Cmp.{first_so, second_so}
use Rattle.std.proofs.lemmas.List.Elements.{filter_map-append}
use Rattle.ev_types.specs.Events.{op_decides, op_of, op_same}
use Rattle.ev_types.specs.Same.{numbers_decide}
use Rattle.ev_types.specs.Scripts.{ScriptParts, IsScript}
use Rattle.ev_types.specs.declared.events.Entry.{Entry}
use Rattle.ev_types.specs.declared.events.Event.{Event}
use Rattle.ev_types.specs.declared.events.Event.TheVariants.{Connect, Disconnect, Response, Health, FetchTimeout, DrainTimeout, TtlExpired, Publish, Reap, Accept, Close, Settle}
use Rattle.ev_types.specs.declared.events.Line.{Line}
use Rattle.ev_types.specs.declared.journals.Row.{Row}
use Rattle.ev_model.specs.Operations.{Operation, actor_same, actor_decides, all_operations, operations_of, entry_of, is_automatic, is_full_at, line_operation, line_operations, last_settle, step_behind}
use Rattle.ev_model.specs.Finding.{entry_told, journal_told, operation_told, tells_of}
use Rattle.ev_model_laws.proofs.OperationLists.{IsIn, in_filter, in_parts}
use Rattle.ev_model_laws.proofs.PlaceLemmas.{take_one}
use Rattle.ev_dump.specs.Told.{event_behind, line_numbered}
use Rattle.ev_dump.proofs.LineLemmas.{found_by, pairs_rise}

-- what is found is in the list and passes
found_in_by : {X : Type 0} (p : X → Bool) (x y : X) (ys : List X) (b : Bool) → p y ≡ b → (find p ys ≡ Some x → IsIn x ys × (p x ≡ true))
    → (if b then Some y else find p ys) ≡ Some x → IsIn x (y ∷ ys) × (p x ≡ true)
found_in_by p x y ys true here more is = let same : y ≡ x = cc in (inl same, sym (ap p same) ∙ here)
found_in_by p x y ys false here more is = let parts : IsIn x ys × (p x ≡ true) = more is in (inr parts.0, parts.1)

found_in : {X : Type 0} (p : X → Bool) (x : X) (xs : List X) → find p xs ≡ Some x → IsIn x xs × (p x ≡ true)
found_in p x [] is = absurd (none x is)
  where
    none : {X : Type 0} (x : X) → None ≡ Some x → ⊥
    none x h = cc
found_in p x (y ∷ ys) is = found_in_by p x y ys (p y) refl (λ more. found_in p x ys more) is

-- the operation of a row
pub record IsTold (script : ScriptParts) (row : Row) (o : Operation) : Type 0 where
  pub among : IsIn o (all_operations script)
  pub actor : o.actor ≡ row.actor
  pub at : o.at ≡ row.at
  pub step_same : o.step ≡ row.step
  pub word : row.op ≡ op_of o.event

pub told_is : (script : ScriptParts) (row : Row) (o : Operation) → IsIn o (operations_of script row.actor) → tells_of row o ≡ true → IsTold script row o
told_is script row o there tells =
    let own : IsIn o (all_operations script) × (actor_same o.actor row.actor ≡ true) =
    in_filter (λ (p : Operation). actor_same p.actor row.actor) o (all_operations script) there in
    let numbers : ((row.at == o.at) && (row.step == o.step)) ≡ true =
    first_so ((row.at == o.at) && (row.step == o.step)) (op_same row.op (op_of o.event)) tells in
    record {
      among = own.0;
      actor = (actor_decides o.actor row.actor).0 own.1;
      at = sym ((numbers_decide row.at o.at).0 (first_so (row.at == o.at) (row.step == o.step) numbers));
      step_same = sym ((numbers_decide row.step o.step).0 (second_so (row.at == o.at) (row.step == o.step) numbers));
      word = (op_decides row.op (op_of o.event)).0 (second_so ((row.at == o.at) && (row.step == o.step)) (op_same row.op (op_of o.event)) tells);
    }

-- an operation is that of a line, or of those whose word says all of their event
abbrev IsOfLine : ScriptParts → Operation → Type 0
IsOfLine script o = (line : Line) × IsIn line script.lines × (line_operation line ≡ o)

abbrev IsBehind : Operation → Type 0
IsBehind o = event_behind (op_of o.event) ≡ Some o.event

behind_by : (line : Line) (o : Operation) (automatic full : Bool)
    → IsIn o (if automatic then step_behind line 1 Publish ∷ step_behind line 2 Reap ∷ [] else (if full then step_behind line 1 Settle ∷ [] else [])) → IsBehind o
behind_by line o true full (inl e) = subst IsBehind e refl
behind_by line o true full (inr (inl e)) = subst IsBehind e refl
behind_by line o true full (inr (inr none)) = absurd none
behind_by line o false true (inl e) = subst IsBehind e refl
behind_by line o false true (inr none) = absurd none
behind_by line o false false none = absurd none

of_line : (script : ScriptParts) (line : Line) (o : Operation) → IsIn line script.lines → IsIn o (line_operations script line) → IsOfLine script o ⊎ IsBehind o
of_line script line o there (inl e) = inl (line, there, e)
of_line script line o there (inr behind) = inr (behind_by line o (script.auto && is_automatic line.actor) (is_full_at script.lines line) behind)

of_lines : (script : ScriptParts) (lines : List Line) (o : Operation) → ((line : Line) → IsIn line lines → IsIn line script.lines)
    → IsIn o (flat_map (line_operations script) lines) → IsOfLine script o ⊎ IsBehind o
of_lines script [] o all is = absurd is
of_lines script (line ∷ lines) o all is =
    elim (in_parts o (line_operations script line) (flat_map (line_operations script) lines) is) [
      | inl here ↦ of_line script line o (all line (inl refl)) here
      | inr later ↦ of_lines script lines o (λ l there. all l (inr there)) later
    ]

of_settles : (script : ScriptParts) (workers : List ℕ) (o : Operation) → IsIn o (map (last_settle script) workers) → IsBehind o
of_settles script [] o is = absurd is
of_settles script (worker ∷ workers) o (inl e) = subst IsBehind e refl
of_settles script (worker ∷ workers) o (inr is) = of_settles script workers o is

of_script : (script : ScriptParts) (o : Operation) → IsIn o (all_operations script) → IsOfLine script o ⊎ IsBehind o
of_script script o is =
    by (in_parts o (flat_map (line_operations script) script.lines) (map (last_settle script) (range_with_len 0 script.workers)) is)
  where
    by : IsIn o (flat_map (line_operations script) script.lines) ⊎ IsIn o (map (last_settle script) (range_with_len 0 script.workers)) → IsOfLine script o ⊎ IsBehind o
    by (inl front) = of_lines script script.lines o (λ line there. there) front
    by (inr back) = inr (of_settles script (range_with_len 0 script.workers) o back)

-- a word that says all of an event
whole_event : (event other : Event) → event_behind (op_of event) ≡ Some other → event ≡ other
whole_event Connect other is = cc
whole_event Disconnect other is = cc
whole_event (Response response) other is = cc
whole_event (Health cluster host healthy) other is = cc
whole_event (FetchTimeout timeout) other is = cc
whole_event (DrainTimeout listener) other is = cc
whole_event (TtlExpired kind name) other is = cc
whole_event Publish other is = cc
whole_event Reap other is = cc
whole_event (Accept ask) other is = cc
whole_event (Close connection) other is = cc
whole_event Settle other is = cc

-- the entry of a row with this event
abbrev pub with_event : Row → Event → Entry
with_event row event = record { actor = row.actor; at = row.at; step = row.step; event = event; answer = row.answer }

entry_is : (script : ScriptParts) (row : Row) (o : Operation) (event : Event) → IsTold script row o → o.event ≡ event → entry_of o row.answer ≡ with_event row event
entry_is script row o event told is = λ i. record { actor = told.actor i; at = told.at i; step = told.step_same i; event = is i; answer = row.answer }

-- a row of which the script has the operation
record HasTold (script : ScriptParts) (row : Row) : Type 0 where
  o : Operation
  told : IsTold script row o
  entry : entry_told script row ≡ Some (entry_of o row.answer)

has_by : (script : ScriptParts) (row : Row) (found : Option Operation) → operation_told script row ≡ found
    → IsSome (option_map (λ (o : Operation). entry_of o row.answer) found) → HasTold script row
has_by script row None is some = cc
has_by script row (Some o) is some =
    let there : IsIn o (operations_of script row.actor) × (tells_of row o ≡ true) = found_in (tells_of row) o (operations_of script row.actor) is in
    record {
      o = o;
      told = told_is script row o there.0 there.1;
      entry = ap (option_map (λ (p : Operation). entry_of p row.answer)) is;
    }

has_told : (script : ScriptParts) (row : Row) → IsSome (entry_told script row) → HasTold script row
has_told script row some = has_by script row (operation_told script row) refl some

-- by its word
pub told_by_word : (script : ScriptParts) (row : Row) (event : Event) → IsSome (entry_told script row) → event_behind row.op ≡ Some event
    → entry_told script row ≡ Some (with_event row event)
told_by_word script row event some word =
    let has : HasTold script row = has_told script row some in
    has.entry ∙ ap Some (entry_is script row has.o event has.told (whole_event has.o.event event (ap event_behind (sym has.told.word) ∙ word)))

-- by its line
line_by : (script : ScriptParts) (row : Row) (has : HasTold script row) → IsScript script → event_behind row.op ≡ None → IsOfLine script has.o ⊎ IsBehind has.o
    → (line : Line) × (line_numbered row.at script.lines ≡ Some line) × (has.o.event ≡ line.event)
line_by script row has kept word (inl of) = (
  of.0,
  found_by row.at of.0 script.lines (pairs_rise script.lines kept.rising) of.1 (ap (λ (p : Operation). p.at) of.2 ∙ has.told.at),
  sym (ap (λ (p : Operation). p.event) of.2),
)
line_by script row has kept word (inr behind) = absurd (never has.o.event (sym behind ∙ ap event_behind (sym has.told.word) ∙ word))
  where
    never : (event : Event) → Some event ≡ None → ⊥
    never event h = cc

pub told_by_line : (script : ScriptParts) (row : Row) → IsScript script → IsSome (entry_told script row) → event_behind row.op ≡ None
    → (line : Line) × (line_numbered row.at script.lines ≡ Some line) × (entry_told script row ≡ Some (with_event row line.event))
told_by_line script row kept some word =
    let has : HasTold script row = has_told script row some in
    let there : (line : Line) × (line_numbered row.at script.lines ≡ Some line) × (has.o.event ≡ line.event) =
    line_by script row has kept word (of_script script has.o has.told.among) in
    (there.0, there.1, has.entry ∙ ap Some (entry_is script row has.o there.0.event has.told there.2))

-- one entry more
pub entries_more : (script : ScriptParts) (rows : List Row) (place : ℕ) (row : Row) (entry : Entry) (before after : List Entry) → slice_get rows place ≡ Some row
    → entry_told script row ≡ Some entry → before ≡ journal_told script (take place rows) → after ≡ before ++ entry ∷ []
    → after ≡ journal_told script (take (place + 1) rows)
entries_more script rows place row entry before after there told was is =
    is
    ∙ (λ i. was i ++ cons_option (sym told i) [])
    ∙ sym (filter_map-append (entry_told script) (take place rows) (row ∷ []))
    ∙ ap (journal_told script) (sym (take_one rows place row there))
