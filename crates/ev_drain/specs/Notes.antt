-- What the drain's map holds: what is noted of a row, by its number.
use Rattle.std.specs.Prelude.{ℕ, Bool, not, ◌==◌, ◌&&◌, ◌||◌, if◌then◌else◌, List, filter, map}
use Rattle.ev_types.specs.declared.journals.Format.{Format}
use Rattle.ev_model.specs.World.{OpenMember}
use Rattle.ev_model.specs.Dead.{is_dead_at, waits_for_timer}
use Rattle.ev_ledger.specs.Members.{count_of}
use Rattle.std.specs.Str.{bytes_eq}
use Rattle.ev_types.specs.Kinds.{kind_same}
use Rattle.ev_types.specs.declared.contents.Kind.TheVariants.{Lds}
use Rattle.ev_model.specs.Picture.{has_number}
use Rattle.ev_model.specs.Signals.{is_draining}
use Rattle.ev_drain.specs.declared.notes.Note.{Note}
use Rattle.ev_drain.specs.Retired.{Retired}

-- the row of an entry
abbrev pub row_of : ℕ × Note → Retired
row_of entry = record {
  kind = entry.1.kind;
  number = entry.0;
  name = entry.1.name;
  status = entry.1.status;
  expired = entry.1.expired;
}

-- the rows of the entries
abbrev pub rows_of : List (ℕ × Note) → List Retired
rows_of entries = map row_of entries

-- the note of a draining listener of this name, whose drain timeout hasn't come
abbrev pub is_waiting_note : List ℕ → Note → Bool
is_waiting_note name note = ((kind_same note.kind Lds && bytes_eq note.name name) && is_draining note.status) && not note.expired

-- the note once the drain timeout of this name came
abbrev pub marked_note : List ℕ → Note → Note
marked_note name note =
    record note { expired = note.expired || ((kind_same note.kind Lds && bytes_eq note.name name) && is_draining note.status) }

-- the entry has one of these numbers, and its note waits for the drain timeout of this name
abbrev pub is_waiting_among : List ℕ → List ℕ → ℕ × Note → Bool
is_waiting_among name numbers entry = has_number entry.0 numbers && is_waiting_note name entry.1

-- the entry once the drain timeout of this name came, which the notes of these numbers learn
abbrev pub marked_among : List ℕ → List ℕ → ℕ × Note → ℕ × Note
marked_among name numbers entry = (entry.0, if has_number entry.0 numbers then marked_note name entry.1 else entry.1)

-- a picture or a connection holds the generation of an entry,
-- by a test of what is shown and the open connections' counts, or its drain timeout is awaited
abbrev pub is_held_note : Format → (ℕ → Bool) → List OpenMember → ℕ × Note → Bool
is_held_note format shown opened entry =
    (shown entry.0 || not (count_of entry.0 opened == 0)) || (waits_for_timer format entry.1.kind && not entry.1.expired)

-- nothing holds the generation of an entry any more, by the same
abbrev pub is_dead_note : Format → (ℕ → Bool) → List OpenMember → ℕ × Note → Bool
is_dead_note format shown opened entry = is_dead_at entry.1.status (is_held_note format shown opened entry)

-- the numbers of those
abbrev pub dead_notes : Format → (ℕ → Bool) → List OpenMember → List (ℕ × Note) → List ℕ
dead_notes format shown opened entries = map (λ (entry : ℕ × Note). entry.0) (filter (is_dead_note format shown opened) entries)
