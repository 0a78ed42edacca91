-- What a source and a sink over memory are: which bytes are left or written, and which calls fail.
use Rattle.std.specs.Prelude.{◌≡◌, ℕ, Bool, ◌+◌, ◌-◌, ◌<◌, ◌⊎◌, List, length, Contains}

-- a source over memory: the bytes left, the most that a call gives, whether it gave its end, the
-- numbers of the calls that fail, counted from 1, how many calls there were, and how many faults
pub record MemSourceState : Type 0 where
  pub left : List ℕ
  pub piece : ℕ
  pub ended : Bool
  pub fails : List ℕ
  pub calls : ℕ
  pub faults : ℕ

-- a sink over memory: the bytes written, how many fit, the most that a call takes, the numbers of
-- the calls that fail, counted from 1, how many calls there were, and how many faults
pub record MemSinkState : Type 0 where
  pub written : List ℕ
  pub room : ℕ
  pub piece : ℕ
  pub fails : List ℕ
  pub calls : ℕ
  pub faults : ℕ

-- how many more bytes fit
abbrev pub room_left : MemSinkState → ℕ
room_left s = s.room - length s.written

-- the next read is one of those named to fail
abbrev pub NextReadFails : MemSourceState → Type 0
NextReadFails s = Contains s.fails (s.calls + 1)

-- the next write is one of those named to fail, or has bytes for which no room is left
abbrev pub NextWriteFails : MemSinkState → List ℕ → Type 0
NextWriteFails s bytes = Contains s.fails (s.calls + 1) ⊎ ((length s.written ≡ s.room) × (0 < length bytes))
