-- A batch is full with 256 lines. To compute all operations of so long a script is too expensive,
-- so the row is cut down to the lines about its 256th accept:
-- a settle is forced after that one, and after neither the one before nor the one after.
use Rattle.std.specs.Prelude.{◌≡◌, ◌+◌, ℕ, List, true, false, map}
use Rattle.std.specs.List.{range_with_len}
use Rattle.ev_types.specs.declared.events.Line.{Line}
use Rattle.ev_model.specs.Operations.{is_full_at}
use Rattle.ev_model_rows.specs.Words.{accept}

-- the accept of this connection, at the line after its number
abbrev pub line_of : ℕ → Line
line_of connection = record { at = connection + 1; actor = (accept connection).actor; event = (accept connection).event }

-- 257 accepts, at the lines 2 to 258
abbrev pub lines : List Line
lines = map line_of (range_with_len 1 257)

-- the batch is full at the 256th of them
pub record IsFull : Type 0 where
  pub before : is_full_at lines (line_of 255) ≡ false
  pub there : is_full_at lines (line_of 256) ≡ true
  pub after : is_full_at lines (line_of 257) ≡ false
