-- Findings on the journal of the late batch, and on that of a worker that does nothing.
use Rattle.std.specs.Prelude.{◌≡◌, List, [], ◌++◌, map, take, drop}
use Rattle.ev_types.specs.declared.journals.Row.{Row}
use Rattle.ev_types.specs.declared.journals.Format.TheVariants.{One, Two}
use Rattle.ev_types.specs.declared.journals.Finding.TheVariants.{Legal, IllegalAt, NotTheScript}
use Rattle.ev_model.specs.Operations.{replay_order}
use Rattle.ev_model.specs.Finding.{finding_of, row_of}
use Rattle.ev_model_rows.specs.Words.{script_of}
use Rattle.ev_model_rows.specs.LateBatch.{deeds}
use Rattle.ev_model_rows.specs.DrainedListenersWait.{drained_deeds}

-- the rows of the journal
abbrev pub rows : List Row
rows = map row_of (replay_order Two (script_of deeds))

-- the same with the 14th row, a reaping, before the 12th
abbrev pub moved : List Row
moved = take 11 rows ++ (take 1 (drop 13 rows) ++ (take 2 (drop 11 rows) ++ drop 14 rows))

-- the rows of the journal in which a drained listener waits
abbrev pub waiting : List Row
waiting = map row_of (replay_order Two (script_of drained_deeds))

-- The journal is legal; with the reaping too early it isn't answered as the machine answers;
-- without its last row, a settle of a worker that has no connection open and has settled, one is missing in format 1,
-- and none in format 2. A script of a header alone has one settle, which may be left out.
-- The journal in which a drained listener waits is illegal by format 1.
pub record Found : Type 0 where
  pub whole : finding_of Two (script_of deeds) rows ≡ Legal
  pub too_early : finding_of Two (script_of deeds) moved ≡ IllegalAt 12
  pub short : finding_of One (script_of deeds) (take 14 rows) ≡ NotTheScript 15
  pub left_out : finding_of Two (script_of deeds) (take 14 rows) ≡ Legal
  pub none : finding_of Two (script_of deeds) [] ≡ NotTheScript 1
  pub one_missing : finding_of One (script_of []) [] ≡ NotTheScript 1
  pub none_missing : finding_of Two (script_of []) [] ≡ Legal
  pub waits : finding_of Two (script_of drained_deeds) waiting ≡ Legal
  pub waits_not : finding_of One (script_of drained_deeds) waiting ≡ IllegalAt 12
