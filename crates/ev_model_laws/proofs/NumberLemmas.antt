-- Numbers are allocated once, and in order.
use Rattle.std.proofs.Common.{◌≡◌, ℕ, ◌+◌, ◌<◌, ◌≤◌, ◌⊎◌, Bool, true, false, cond, List, [], ◌∷◌, ◌++◌, map, filter, refl, inl, inr, le_trans, arith}
use Rattle.ev_types.specs.declared.rows.GenRow.{GenRow}
use Rattle.ev_types.specs.declared.rows.RowStatus.{RowStatus}
use Rattle.ev_types.specs.declared.rows.Phase.{Phase}
use Rattle.ev_model.specs.World.{World, opening}
use Rattle.ev_model.specs.Rows.{with_statuses, replaced_status, new_row}
use Rattle.ev_model.specs.Tidy.{promoted_status}
use Rattle.ev_model_laws.specs.Numbers.{RiseWithin, IsAmong, AreOldOrNew, DrawsInOrder}
use Rattle.ev_model_laws.proofs.KeepLemmas.{removed_where, Keeps, step-keeps, run-keeps}

-- the numbers of these rows
abbrev pub numbers : List GenRow → List ℕ
numbers rows = map (λ (row : GenRow). row.number) rows

-- other statuses leave the numbers
statuses-rise : (status_of : GenRow → RowStatus) (low : ℕ) (rows : List GenRow) (high : ℕ)
    → RiseWithin low (numbers rows) high → RiseWithin low (numbers (with_statuses status_of rows)) high
statuses-rise status_of low [] high rise = rise
statuses-rise status_of low (row ∷ rows) high rise = (rise.0, statuses-rise status_of row.number rows high rise.1)

-- what rises from a number rises from one below it
lower-rise : (low below : ℕ) (ns : List ℕ) (high : ℕ) → below ≤ low → RiseWithin low ns high → RiseWithin below ns high
lower-rise low below [] high le rise = le_trans le rise
lower-rise low below (n ∷ ns) high le rise = (omega (arith, rise.0), rise.1)

kept-rise : (kept : Bool) (low : ℕ) (row : GenRow) (rows : List GenRow) (high : ℕ)
    → low < row.number → RiseWithin row.number (numbers rows) high → RiseWithin low (numbers (cond kept (row ∷ rows) rows)) high
kept-rise true low row rows high lt rise = (lt, rise)
kept-rise false low row rows high lt rise = lower-rise row.number low (numbers rows) high (omega arith) rise

-- so do the numbers of some of the rows
pub filter-rise : (test : GenRow → Bool) (low : ℕ) (rows : List GenRow) (high : ℕ)
    → RiseWithin low (numbers rows) high → RiseWithin low (numbers (filter test rows)) high
filter-rise test low [] high rise = rise
filter-rise test low (row ∷ rows) high rise =
    kept-rise (test row) low row (filter test rows) high rise.0 (filter-rise test row.number rows high rise.1)

-- a row of the next number goes last
added-rise : (low : ℕ) (rows : List GenRow) (new : GenRow) (high : ℕ) → new.number ≡ high + 1
    → RiseWithin low (numbers rows) high → RiseWithin low (numbers (rows ++ new ∷ [])) (high + 1)
added-rise low [] new high is rise = (omega arith, omega arith)
added-rise low (row ∷ rows) new high is rise = (rise.0, added-rise row.number rows new high is rise.1)

pub keeps_numbered : Keeps (λ rows made phase. RiseWithin 0 (numbers rows) made)
keeps_numbered = record {
  removed = λ goes rows made phase rise. statuses-rise (removed_where goes) 0 rows made rise;
  added = λ kind name content kept rows made phase rise.
      added-rise 0 (with_statuses (replaced_status kind name) rows) (new_row kind made name content kept) made refl
      (statuses-rise (replaced_status kind name) 0 rows made rise);
  left = λ test rows made phase rise. filter-rise test 0 rows made rise;
  tidied = λ world rise. statuses-rise (promoted_status world.arrivals world.results world.rows) 0 world.rows world.made rise;
}

pub keeps_count : (least : ℕ) → Keeps (λ (rows : List GenRow) made (phase : Phase). least ≤ made)
keeps_count least = record {
  removed = λ goes rows made phase le. le;
  added = λ kind name content kept rows made phase le. omega arith;
  left = λ test rows made phase le. le;
  tidied = λ world le. le;
}

-- a generation stays the same with another status
status-among : (others : List GenRow) (row : GenRow) (status : RowStatus) → IsAmong others row → IsAmong others (record row { status = status })
status-among [] row status among = among
status-among (other ∷ others) row status (inl same) =
    inl (record { number = same.number; kind = same.kind; name = same.name; content = same.content; kept = same.kept })
status-among (other ∷ others) row status (inr among) = inr (status-among others row status among)

status-drawn : (world : World) (row : GenRow) (status : RowStatus)
    → IsAmong world.rows row ⊎ (world.made < row.number)
    → IsAmong world.rows (record row { status = status }) ⊎ (world.made < row.number)
status-drawn world row status (inl among) = inl (status-among world.rows row status among)
status-drawn world row status (inr new) = inr new

statuses-drawn : (world : World) (status_of : GenRow → RowStatus) (rows : List GenRow)
    → AreOldOrNew world rows → AreOldOrNew world (with_statuses status_of rows)
statuses-drawn world status_of [] drawn = tt
statuses-drawn world status_of (row ∷ rows) drawn =
    (status-drawn world row (status_of row) drawn.0, statuses-drawn world status_of rows drawn.1)

kept-drawn : (world : World) (kept : Bool) (row : GenRow) (rows : List GenRow)
    → IsAmong world.rows row ⊎ (world.made < row.number) → AreOldOrNew world rows → AreOldOrNew world (cond kept (row ∷ rows) rows)
kept-drawn world true row rows one drawn = (one, drawn)
kept-drawn world false row rows one drawn = drawn

filter-drawn : (world : World) (test : GenRow → Bool) (rows : List GenRow) → AreOldOrNew world rows → AreOldOrNew world (filter test rows)
filter-drawn world test [] drawn = tt
filter-drawn world test (row ∷ rows) drawn =
    kept-drawn world (test row) row (filter test rows) drawn.0 (filter-drawn world test rows drawn.1)

added-drawn : (world : World) (rows : List GenRow) (new : GenRow)
    → world.made < new.number → AreOldOrNew world rows → AreOldOrNew world (rows ++ new ∷ [])
added-drawn world [] new above drawn = (inr above, tt)
added-drawn world (row ∷ rows) new above drawn = (drawn.0, added-drawn world rows new above drawn.1)

-- rows that are among those of the world are old
all-drawn : (world : World) (rows : List GenRow)
    → ((row : GenRow) → IsAmong rows row → IsAmong world.rows row) → AreOldOrNew world rows
all-drawn world [] within = tt
all-drawn world (row ∷ rows) within = (
  inl (within row (inl (record { number = refl; kind = refl; name = refl; content = refl; kept = refl }))),
  all-drawn world rows (λ other among. within other (inr among)),
)

keeps_drawn : (world : World) → Keeps (λ rows made phase. AreOldOrNew world rows × (world.made ≤ made))
keeps_drawn world = record {
  removed = λ goes rows made phase fact. (statuses-drawn world (removed_where goes) rows fact.0, fact.1);
  added = λ kind name content kept rows made phase fact. (
    added-drawn world (with_statuses (replaced_status kind name) rows) (new_row kind made name content kept) (omega (arith, fact.1))
        (statuses-drawn world (replaced_status kind name) rows fact.0),
    omega (arith, fact.1),
  );
  left = λ test rows made phase fact. (filter-drawn world test rows fact.0, fact.1);
  tidied = λ other fact. (statuses-drawn world (promoted_status other.arrivals other.results other.rows) other.rows fact.0, fact.1);
}

-- at the start all rows are old, and no number is above those allocated
start-drawn : (world : World) → AreOldOrNew world world.rows × (world.made ≤ world.made)
start-drawn world = (all-drawn world world.rows (λ row among. among), omega arith)

pub draws_in_order : DrawsInOrder
draws_in_order = record {
  opens = λ workers node. omega arith;
  steps = λ format world actor event rise. step-keeps _ keeps_numbered format world actor event rise;
  runs = λ format workers node entries. run-keeps _ keeps_numbered format (opening workers node) entries (omega arith);
  counts = λ format world actor event. step-keeps _ (keeps_count world.made) format world actor event (omega arith);
  draws = λ format world actor event. (step-keeps _ (keeps_drawn world) format world actor event (start-drawn world)).0;
  stays_gone = λ format world entries. (run-keeps _ (keeps_drawn world) format world entries (start-drawn world)).0;
}
