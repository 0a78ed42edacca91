-- A row that records what comes next: its entry, and what is left after it.
use Rattle.std.proofs.Common.{◌≡◌, inl, ℕ, ◌+◌, Bool, true, false, not, if◌then◌else◌, List, [], ◌∷◌, ◌++◌, map, filter, take, Option, Some, None, refl, ap, sym, ◌∙◌, subst, append-nil}
use Rattle.std.specs.Prelude.{option_map, option_and_then, slice_get, unwrap_or}
use Rattle.std.specs.List.{last_or, list_any, list_all, cons_option}
use Rattle.std.proofs.lemmas.List.{map-append}
use Rattle.std.proofs.lemmas.List.Elements.{filter-append, filter_map-append, recursion_from_All}
use Rattle.ev_types.specs.Events.{MayMake}
use Rattle.ev_types.specs.Scripts.{ScriptParts, IsScript}
use Rattle.ev_types.specs.declared.events.Actor.{Actor}
use Rattle.ev_types.specs.declared.events.Entry.{Entry}
use Rattle.ev_types.specs.declared.journals.Format.{Format}
use Rattle.ev_types.specs.declared.journals.Format.TheVariants.{One, Two}
use Rattle.ev_types.specs.declared.journals.Row.{Row}
use Rattle.ev_types.specs.declared.journals.Finding.{Finding}
use Rattle.ev_types.specs.declared.journals.Finding.TheVariants.{IllegalAt, NotTheScript}
use Rattle.ev_model.specs.World.{World, opening}
use Rattle.ev_model.specs.Step.{step}
use Rattle.ev_model.specs.Runs.{world_after}
use Rattle.ev_model.specs.Operations.{Operation, Deed, actor_same, actor_decides, is_earlier, all_operations, operations_of, operation_of, entry_of, entries_of, rests_behind, deeds_from, deeds_of}
use Rattle.ev_model.specs.Finding.{tells_of, entry_told, journal_told, operations_left, rests_by, next_operations, is_stray, is_wrong, is_illegal, row_finding, finding_at}
use Rattle.ev_model_laws.proofs.OperationLists.{IsIn, at_in, in_filter, in_back}
use Rattle.ev_model_laws.proofs.PlaceLemmas.{take_one}
use Rattle.ev_model_laws.proofs.RisingOperations.{operations_rise}
use Rattle.ev_model_laws.proofs.ScriptOperations.{IsAllowed, all_allowed}
use Rattle.ev_model_laws.proofs.DeedLemmas.{IsNext, IsFound, left_next, next_by, next_found, found_next}
use Rattle.ev_model.proofs.RunLemmas.{world_after-more}
use Rattle.ev_model_laws.specs.Walks.{ComesNext, MovesOn, TakesNext, IsNextFor, journal_before, leaves_out, may_leave_out, world_behind}
use Rattle.ev_model_laws.proofs.WalkToldLemmas.{entry_is}

-- what may come next, where settles may be left out or not
pub next_are : (format : Format) (script : ScriptParts) (journal : List Entry) (actor : Actor)
    → next_operations format script journal actor ≡ next_by (may_leave_out format script journal actor) (operations_left script journal actor)
next_are One script journal actor = refl
next_are Two script journal actor = refl

abbrev next_so : {row : Row} {rests : Bool} {os : List Operation} {o : Operation} → ComesNext row rests os o → IsNext rests os o
next_so next = record { skipped = next.skipped; behind = next.behind; whole = next.whole; passes = next.settles }

-- where nothing comes next for the row it is stray, and otherwise it isn't
pub stray_found : (format : Format) (script : ScriptParts) (journal : List Entry) (number : ℕ) (row : Row)
    → list_any (tells_of row) (next_by (may_leave_out format script journal row.actor) (operations_left script journal row.actor)) ≡ false
    → row_finding format script journal number row ≡ Some (NotTheScript number)
stray_found format script journal number row none =
    ap (λ b. if b then Some (NotTheScript number) else (if is_illegal format script journal row then Some (IllegalAt number) else None))
    (ap (λ os. not (list_any (tells_of row) os)) (next_are format script journal row.actor) ∙ ap not none)

pub told_next : (row : Row) (rests : Bool) (os : List Operation) (o : Operation) → ComesNext row rests os o → list_any (tells_of row) (next_by rests os) ≡ true
told_next row rests os o next =
    ap (λ ps. list_any (tells_of row) (next_by rests ps)) (sym next.whole)
    ∙ found_next (tells_of row) rests next.skipped next.behind o next.tells next.settles

pub isnt_stray : (format : Format) (script : ScriptParts) (journal : List Entry) (row : Row) (o : Operation) → IsNextFor format script journal row o
    → is_stray format script journal row ≡ false
isnt_stray format script journal row o next =
    ap (λ os. not (list_any (tells_of row) os)) (next_are format script journal row.actor)
    ∙ ap not (told_next row (may_leave_out format script journal row.actor) (operations_left script journal row.actor) o next)

is_so : (b : Bool) → not b ≡ false → b ≡ true
is_so true h = refl
is_so false h = sym h

-- for a row that isn't stray something comes next
pub record HasNext (format : Format) (script : ScriptParts) (journal : List Entry) (row : Row) : Type 0 where
  pub o : Operation
  pub next : IsNextFor format script journal row o

pub has_next : (format : Format) (script : ScriptParts) (journal : List Entry) (row : Row) → is_stray format script journal row ≡ false
    → HasNext format script journal row
has_next format script journal row h =
    let found : IsFound (tells_of row) (may_leave_out format script journal row.actor) (operations_left script journal row.actor) =
    next_found (tells_of row) (may_leave_out format script journal row.actor) (operations_left script journal row.actor)
    (ap (list_any (tells_of row)) (sym (next_are format script journal row.actor)) ∙ is_so (list_any (tells_of row) (next_operations format script journal row.actor)) h) in
    record {
      o = found.found;
      next = record {
        tells = found.passes;
        skipped = found.next.skipped;
        behind = found.next.behind;
        whole = found.next.whole;
        settles = found.next.passes;
      };
    }

last_of : {X : Type 0} (before : Option X) (xs : List X) (x : X) → last_or before (xs ++ x ∷ []) ≡ Some x
last_of before [] x = refl
last_of before (first ∷ xs) x = last_of (Some first) xs x

deeds_append : (format : Format) (world : World) (before more : List Entry)
    → deeds_from format world (before ++ more) ≡ deeds_from format world before ++ deeds_from format (world_after format world before) more
deeds_append format world [] more = refl
deeds_append format world (entry ∷ before) more =
    ap (λ ds. record { operation = operation_of entry; rests = rests_behind (step format world entry.actor entry.event).0 (operation_of entry) } ∷ ds)
    (deeds_append format (step format world entry.actor entry.event).0 before more)

-- one entry more: of its actor, and of another
deeds_more : (format : Format) (script : ScriptParts) (journal : List Entry) (entry : Entry) (actor : Actor)
    → deeds_of format script (journal ++ entry ∷ []) actor
    ≡ deeds_of format script journal actor
    ++ filter (λ (d : Deed). actor_same d.operation.actor actor) (deeds_from format (world_behind format script journal) (entry ∷ []))
deeds_more format script journal entry actor =
    ap (filter (λ (d : Deed). actor_same d.operation.actor actor)) (deeds_append format (opening script.workers script.node) journal (entry ∷ []))
    ∙ filter-append (λ (d : Deed). actor_same d.operation.actor actor) (deeds_from format (opening script.workers script.node) journal)
    (deeds_from format (world_behind format script journal) (entry ∷ []))

entries_more : (journal : List Entry) (entry : Entry) (actor : Actor)
    → entries_of (journal ++ entry ∷ []) actor ≡ entries_of journal actor ++ filter (λ (o : Operation). actor_same o.actor actor) (operation_of entry ∷ [])
entries_more journal entry actor =
    ap (filter (λ (o : Operation). actor_same o.actor actor)) (map-append operation_of journal (entry ∷ []))
    ∙ filter-append (λ (o : Operation). actor_same o.actor actor) (map operation_of journal) (operation_of entry ∷ [])

abbrev behind_world : Format → ScriptParts → List Entry → Entry → World
behind_world format script journal entry = (step format (world_behind format script journal) entry.actor entry.event).0

pub rests_own : (format : Format) (script : ScriptParts) (journal : List Entry) (entry : Entry) (actor : Actor) → actor_same entry.actor actor ≡ true
    → may_leave_out format script (journal ++ entry ∷ []) actor
    ≡ leaves_out format (rests_behind (step format (world_behind format script journal) entry.actor entry.event).0 (operation_of entry))
rests_own format script journal entry actor same =
    ap (λ ds. leaves_out format (rests_by (last_or None ds)))
    (deeds_more format script journal entry actor
    ∙ ap
    (λ b.
    deeds_of format script journal actor
    ++ (if b then record { operation = operation_of entry; rests = rests_behind (behind_world format script journal entry) (operation_of entry) } ∷ [] else []))
    same)
    ∙ ap (λ d. leaves_out format (rests_by d))
    (last_of None (deeds_of format script journal actor)
    (record { operation = operation_of entry; rests = rests_behind (behind_world format script journal entry) (operation_of entry) }))

pub rests_other : (format : Format) (script : ScriptParts) (journal : List Entry) (entry : Entry) (actor : Actor) → actor_same entry.actor actor ≡ false
    → may_leave_out format script (journal ++ entry ∷ []) actor ≡ may_leave_out format script journal actor
rests_other format script journal entry actor apart =
    ap (λ ds. leaves_out format (rests_by (last_or None ds)))
    (deeds_more format script journal entry actor
    ∙ ap
    (λ b.
    deeds_of format script journal actor
    ++ (if b then record { operation = operation_of entry; rests = rests_behind (behind_world format script journal entry) (operation_of entry) } ∷ [] else []))
    apart
    ∙ append-nil (deeds_of format script journal actor))

pub left_other : (script : ScriptParts) (journal : List Entry) (entry : Entry) (actor : Actor) → actor_same entry.actor actor ≡ false
    → operations_left script (journal ++ entry ∷ []) actor ≡ operations_left script journal actor
left_other script journal entry actor apart =
    ap (λ done. filter (λ o. list_all (λ d. is_earlier d o) done) (operations_of script actor))
    (entries_more journal entry actor
    ∙ ap (λ b. entries_of journal actor ++ (if b then operation_of entry ∷ [] else [])) apart
    ∙ append-nil (entries_of journal actor))

-- what comes next for a row
module _ (format : Format) (script : ScriptParts) (kept : IsScript script) (journal : List Entry) (row : Row) (o : Operation)
    (next : IsNextFor format script journal row o) where
  is_own : IsIn o (operations_of script row.actor)
  is_own =
      (in_filter (λ p. list_all (λ d. is_earlier d p) (entries_of journal row.actor)) o (operations_of script row.actor)
      (subst (IsIn o) next.whole (in_back o next.skipped (o ∷ next.behind) (inl refl)))).0

  parts : IsIn o (all_operations script) × (actor_same o.actor row.actor ≡ true)
  parts = in_filter (λ (p : Operation). actor_same p.actor row.actor) o (all_operations script) is_own

  pub next_actor : o.actor ≡ row.actor
  next_actor = (actor_decides o.actor row.actor).0 parts.1

  pub next_allowed : MayMake script.workers o.actor o.event
  next_allowed =
      at_in (IsAllowed script.workers) o (all_operations script)
      (recursion_from_All (IsAllowed script.workers) (all_operations script) (all_allowed script kept)) parts.0

  pub next_entry : entry_told script row ≡ Some (entry_of o row.answer)
  next_entry = entry_is script kept row o is_own next.tells

  -- what is found of the row
  pub next_finding : (number : ℕ) → row_finding format script journal number row
      ≡ (if is_wrong format script journal (entry_of o row.answer) then Some (IllegalAt number) else None)
  next_finding number =
      ap (λ b. if b then Some (NotTheScript number) else (if is_illegal format script journal row then Some (IllegalAt number) else None))
      (isnt_stray format script journal row o next)
      ∙ ap (λ (e : Option Entry). if unwrap_or (option_map (is_wrong format script journal) e) false then Some (IllegalAt number) else None) next_entry

  -- what is left of its actor's operations after its entry
  pub left_own : operations_left script (journal ++ entry_of o row.answer ∷ []) row.actor ≡ next.behind
  left_own =
      ap (λ done. filter (λ p. list_all (λ d. is_earlier d p) done) (operations_of script row.actor))
      (entries_more journal (entry_of o row.answer) row.actor
      ∙ ap (λ b. entries_of journal row.actor ++ (if b then o ∷ [] else [])) parts.1)
      ∙ left_next (may_leave_out format script journal row.actor) (operations_of script row.actor) (entries_of journal row.actor) o
      (operations_rise script row.actor kept) (next_so next)

-- the journal with a row more
pub journal_more : (script : ScriptParts) (rows : List Row) (place : ℕ) (row : Row) (entry : Entry) → slice_get rows place ≡ Some row
    → entry_told script row ≡ Some entry → journal_before script rows (place + 1) ≡ journal_before script rows place ++ entry ∷ []
journal_more script rows place row entry there is =
    ap (journal_told script) (take_one rows place row there)
    ∙ filter_map-append (entry_told script) (take place rows) (row ∷ [])
    ∙ ap (λ (e : Option Entry). journal_before script rows place ++ cons_option e []) is

-- what is found at a place is found of its row
pub at_row : (format : Format) (script : ScriptParts) (rows : List Row) (place : ℕ) (row : Row) → slice_get rows place ≡ Some row
    → finding_at format script rows place ≡ row_finding format script (journal_before script rows place) (place + 1) row
at_row format script rows place row there = ap (option_and_then (row_finding format script (journal_before script rows place) (place + 1))) there

none_parts : (stray illegal : Bool) (a b : Finding) → (if stray then Some a else (if illegal then Some b else None)) ≡ None → stray ≡ false
none_parts true illegal a b h = cc
none_parts false illegal a b h = refl

-- for a row of which nothing is found something comes next
pub next_of_none : (format : Format) (script : ScriptParts) (rows : List Row) (place : ℕ) (row : Row) → slice_get rows place ≡ Some row
    → finding_at format script rows place ≡ None → HasNext format script (journal_before script rows place) row
next_of_none format script rows place row there none =
    has_next format script (journal_before script rows place) row
    (none_parts (is_stray format script (journal_before script rows place) row) (is_illegal format script (journal_before script rows place) row)
    (NotTheScript (place + 1)) (IllegalAt (place + 1)) (sym (at_row format script rows place row there) ∙ none))

pub takes_next : TakesNext
takes_next format script journal row o kept next = record {
  actor = next_actor format script kept journal row o next;
  allowed = next_allowed format script kept journal row o next;
  entry = next_entry format script kept journal row o next;
  finding = next_finding format script kept journal row o next;
}

rests_entry : (format : Format) (script : ScriptParts) (journal : List Entry) (entry : Entry)
    → may_leave_out format script (journal ++ entry ∷ []) entry.actor
    ≡ leaves_out format (rests_behind (world_behind format script (journal ++ entry ∷ [])) (operation_of entry))
rests_entry format script journal entry =
    rests_own format script journal entry entry.actor ((actor_decides entry.actor entry.actor).1 refl)
    ∙ ap (λ (world : World). leaves_out format (rests_behind world (operation_of entry))) (sym (world_after-more format (opening script.workers script.node) journal entry))

pub moves_on : MovesOn
moves_on = record {
  left = λ format script journal row o kept next. left_own format script kept journal row o next;
  rests = rests_entry;
  left_alone = left_other;
  rests_alone = rests_other;
}
