-- Which generations of a name are live.
use Rattle.std.specs.Prelude.{List, None}
use Rattle.ev_lookups.specs.declared.kind_keys.Key.{Key}
use Rattle.ev_indexes.specs.declared.names.Standing.{Standing}
use Rattle.ev_indexes.specs.Kept.{kept_at}

-- names with what is live of each
abbrev pub NamesKept : Type 0
NamesKept = List (Key × Standing)

-- no generation is live
abbrev pub nobody : Standing
nobody = record { active = None; warming = None }

-- which generations of this name are live
abbrev pub standing_in : NamesKept → Key → Standing
standing_in kept key = kept_at nobody kept key
