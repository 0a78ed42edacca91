-- What the adapters of the standard streams hold.
use Rattle.std.specs.Prelude.{ℕ, Bool, List, Option, Result}
use Rattle.std.specs.Io.KnownBytes.{Appends, ReadConsumes}
use Rattle.ev_io.specs.declared.outside.Failed.{Failed}
use Rattle.ev_io.specs.declared.standard.StdSource.{StdSource}
use Rattle.ev_io.specs.declared.standard.StdSink.{StdSink}

-- the reader that a source adapts, whether it gave its end, and how often it failed
abbrev pub reader_of : {R : Type 0} → StdSource R → R
reader_of s = s.reader

abbrev pub gave_end : {R : Type 0} → StdSource R → Bool
gave_end s = s.ended

abbrev pub read_faults : {R : Type 0} → StdSource R → ℕ
read_faults s = s.faults

-- the writer that a sink adapts, and how often it failed
abbrev pub writer_of : {W : Type 0} → StdSink W → W
writer_of s = s.writer

abbrev pub write_faults : {W : Type 0} → StdSink W → ℕ
write_faults s = s.faults

-- the reader lost the bytes that a read gave, by its answer and the buffer after it
abbrev pub ReadsThrough : {R : Type 0} → (R → Option (List ℕ)) → StdSource R → StdSource R → Result ℕ Failed → List ℕ → Type 0
ReadsThrough remaining old new answer buf = ReadConsumes (remaining (reader_of old)) (remaining (reader_of new)) answer buf

-- the writer gained these bytes
abbrev pub WritesThrough : {W : Type 0} → (W → Option (List ℕ)) → StdSink W → StdSink W → List ℕ → Type 0
WritesThrough contents old new bytes = Appends (contents (writer_of old)) (contents (writer_of new)) bytes
