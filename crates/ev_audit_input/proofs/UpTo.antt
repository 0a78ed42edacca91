-- What is known of the input up to the journal's first line stays where the journal is read.
use Rattle.std.proofs.Common.{◌≡◌, ℕ, zero, suc, ◌+◌, ◌<◌, ◌≤◌, Bool, true, List, [], ◌∷◌, ◌++◌, length, take, get_or, IsTrue, if◌then◌else◌, Option, None, Some, option_map, option_and_then, sym, ap, subst, ◌∙◌, ◌⊎◌, inl, inr, arith, append-nil}
use Rattle.std.proofs.lemmas.List.{take_all}
use Rattle.serde_json.specs.Data.{Data}
use Rattle.ev_io.specs.Lines.{lines_of, feeds_in, IsClosed}
use Rattle.ev_io.specs.LinesState.{LinesState, HasTaken}
use Rattle.ev_io.proofs.LineLemmas.{feeds_in-append, feeds_in-closed}
use Rattle.ev_types.specs.Scripts.{ScriptParts}
use Rattle.ev_types.specs.declared.events.Line.{Line}
use Rattle.ev_script.specs.declared.header.Header.{Header}
use Rattle.ev_script.specs.Members.{tree_of}
use Rattle.ev_script.specs.Header.{header_of, settings_of}
use Rattle.ev_script.specs.declared.forms.Settings.{Settings}
use Rattle.ev_script.specs.Faults.{Input, EndsLine, plain_lines, settings_in}
use Rattle.ev_script.specs.Script.{lines_from, script_made, script_with, script_from, begins_journal, before_journal, script_texts, script_of}
use Rattle.ev_script.specs.ReadInput.{input_of, IsUpToJournal}
use Rattle.ev_script.proofs.PlaceLemmas.{ends_within}
use Rattle.ev_journal_read.specs.Journals.{GoesOn}
use Rattle.ev_audit_input.proofs.GrowLemmas.{index_same, text_same, feed_near, begins_near, begins_far, stands_near}

-- ---- the script of the lines before the journal

-- texts that are the same up to one that begins a journal
same_before : (n : ℕ) (xs ys : List (List ℕ)) → n < length xs → n < length ys → ((i : ℕ) → i ≤ n → get_or ys i [] ≡ get_or xs i [])
    → begins_journal (tree_of (get_or xs n [])) ≡ true → before_journal ys ≡ before_journal xs
same_before n [] ys h k same begins = absurd (omega arith)
same_before n (x ∷ xs) [] h k same begins = absurd (omega arith)
same_before zero (x ∷ xs) (y ∷ ys) h k same begins =
    let first : y ≡ x = same 0 (omega arith) in
    ap (λ (b : Bool). if b then [] else y ∷ before_journal ys) (ap (λ (t : List ℕ). begins_journal (tree_of t)) first ∙ begins)
    ∙ sym (ap (λ (b : Bool). if b then [] else x ∷ before_journal xs) begins)
same_before (suc n) (x ∷ xs) (y ∷ ys) h k same begins =
    let first : y ≡ x = same 0 (omega arith) in
    let others : before_journal ys ≡ before_journal xs = same_before n xs ys (omega arith) (omega arith) (λ i most. same (suc i) (omega arith)) begins in
    λ i. if begins_journal (tree_of (first i)) then [] else first i ∷ others i

same_texts : (n : ℕ) (xs ys : List (List ℕ)) → 0 < n → n < length xs → n < length ys → ((i : ℕ) → i ≤ n → get_or ys i [] ≡ get_or xs i [])
    → begins_journal (tree_of (get_or xs n [])) ≡ true → script_texts true ys ≡ script_texts true xs
same_texts zero xs ys some h k same begins = absurd (omega arith)
same_texts (suc n) [] ys some h k same begins = absurd (omega arith)
same_texts (suc n) (x ∷ xs) [] some h k same begins = absurd (omega arith)
same_texts (suc n) (x ∷ xs) (y ∷ ys) some h k same begins =
    let first : y ≡ x = same 0 (omega arith) in
    let others : before_journal ys ≡ before_journal xs = same_before n xs ys (omega arith) (omega arith) (λ i most. same (suc i) (omega arith)) begins in
    λ i. first i ∷ others i

-- what a script sets
abbrev pub settings_in_script : ScriptParts → Settings
settings_in_script script = record { workers = script.workers; profile = script.profile }

-- its header sets that
pub heads_of : (texts : List (List ℕ)) (script : ScriptParts) → script_from (script_texts true texts) ≡ Some script → settings_in plain_lines texts ≡ Some (settings_in_script script)
heads_of [] script e = cc
heads_of (first ∷ rest) script e = by_tree (tree_of first) e
  where
    by_lines : (header : Header) (lines : Option (List Line))
        → option_map (script_made header) lines ≡ Some script
        → Some (settings_of header) ≡ Some (settings_in_script script)
    by_lines header None e = cc
    by_lines header (Some lines) e = ap (option_map settings_in_script) e

    by_header : (found : Option Header) → option_and_then (script_with (before_journal rest)) found ≡ Some script → option_map settings_of found ≡ Some (settings_in_script script)
    by_header None e = cc
    by_header (Some header) e = by_lines header (lines_from header.profile 2 (before_journal rest)) e

    by_tree : (tree : Option Data) → option_and_then (script_with (before_journal rest)) (option_and_then header_of tree) ≡ Some script → option_and_then plain_lines.heads tree ≡ Some (settings_in_script script)
    by_tree None e = cc
    by_tree (Some tree) e = by_header (header_of tree) e

-- ---- the input up to the journal's first line

-- the journal's first line is the last and isn't closed, and the source gave its end
pub record IsOpenEnd (bytes : List ℕ) (old : LinesState) (count : ℕ) : Type 0 where
  pub ended : IsTrue old.ended
  pub feeds : feeds_in bytes ≡ count
  pub all : length (lines_of bytes) ≤ old.given

-- the same of all bytes
pub record IsJoined (bytes more : List ℕ) (new : LinesState) (count : ℕ) (text : List ℕ) : Type 0 where
  pub up : IsUpToJournal plain_lines (input_of true new (bytes ++ more)) count text
  pub script : script_of true (bytes ++ more) ≡ script_of true bytes

module _ (bytes more : List ℕ) (old new : LinesState) (count : ℕ) (text : List ℕ) (taken : HasTaken old bytes) (given : old.given ≡ count + 1)
    (up : IsUpToJournal plain_lines (input_of true old bytes) count text) where
  behind_is : feeds_in (take up.place bytes) ≡ count
  behind_is = up.behind

  begins_is : begins_journal (tree_of (get_or (lines_of bytes) count [])) ≡ true
  begins_is =
      let tree : tree_of (get_or (lines_of bytes) count []) ≡ Some up.begins.format.0 =
      ap (λ (i : ℕ). tree_of (get_or (lines_of bytes) i [])) (sym behind_is) ∙ up.begins.format.1 in
      ap begins_journal tree ∙ up.begins.format.2

  -- that line is closed
  closed_up : up.place < length bytes → IsUpToJournal plain_lines (input_of true new (bytes ++ more)) count text
  closed_up h =
      let feed : get_or bytes up.place 0 ≡ 10 = feed_near bytes more old.ended new.ended true up.place h up.begins.ends in
      record {
        place = up.place;
        begins = begins_far bytes more old.ended new.ended true up.place h up.begins;
        first = λ other before b. up.first other before (begins_near bytes more old.ended new.ended true other (omega arith) b);
        sound = λ other kind most s. up.sound other kind most (stands_near bytes more old.ended new.ended true other kind (omega arith) s);
        behind = index_same bytes more old.ended new.ended true up.place (omega arith) ∙ up.behind;
        here = text_same bytes more old.ended new.ended true up.place count h feed (omega (arith, behind_is)) ∙ up.here;
      }

  closed_script : (h : up.place < length bytes) → script_of true (bytes ++ more) ≡ script_of true bytes
  closed_script h =
      let there : IsUpToJournal plain_lines (input_of true new (bytes ++ more)) count text = closed_up h in
      let feed : get_or bytes up.place 0 ≡ 10 = feed_near bytes more old.ended new.ended true up.place h up.begins.ends in
      let later : 0 < feeds_in (take up.place bytes) = up.begins.later in
      let near_within : feeds_in (take up.place bytes) < length (lines_of bytes) = ends_within (input_of true old bytes) up.place up.begins.ends in
      let far_within : feeds_in (take there.place (bytes ++ more)) < length (lines_of (bytes ++ more)) =
      ends_within (input_of true new (bytes ++ more)) there.place there.begins.ends in
      ap script_from
      (same_texts count (lines_of bytes) (lines_of (bytes ++ more)) (omega (arith, behind_is)) (omega (arith, behind_is)) (omega (arith, there.behind))
      (λ i most. text_same bytes more old.ended new.ended true up.place i h feed (omega (arith, behind_is))) begins_is)

  -- it isn't: each line was given
  open_end : IsTrue old.ended × (up.place ≡ length bytes) × (feeds_in bytes < length (lines_of bytes)) → IsOpenEnd bytes old count
  open_end end = record { ended = end.0; feeds = feeds; all = by_front taken.closed }
    where
      feeds : feeds_in bytes ≡ count
      feeds =
          sym (ap feeds_in (take_all (length bytes) bytes (omega arith)))
          ∙ ap (λ (n : ℕ). feeds_in (take n bytes)) (sym end.1)
          ∙ behind_is

      by_front : IsClosed taken.front ⊎ (IsTrue old.ended × (old.pending ≡ [])) → length (lines_of bytes) ≤ old.given
      by_front (inl closed) =
          let both : feeds_in bytes ≡ feeds_in taken.front + feeds_in old.pending = ap feeds_in taken.parts ∙ feeds_in-append taken.front old.pending in
          let front : feeds_in taken.front ≡ length (lines_of taken.front) = feeds_in-closed taken.front closed in
          let lines : old.given ≡ length (lines_of taken.front) = taken.lines in
          absurd (omega (arith, feeds))
      by_front (inr none) =
          let same : bytes ≡ taken.front = taken.parts ∙ ap (λ (bs : List ℕ). taken.front ++ bs) none.1 ∙ append-nil taken.front in
          let lines : old.given ≡ length (lines_of taken.front) = taken.lines in
          omega (arith, ap (λ (bs : List ℕ). length (lines_of bs)) same)

  -- so it is known of all bytes, where in that case the source has still given its end
  pub joined : GoesOn old new bytes more → (IsOpenEnd bytes old count → more ≡ [] → IsTrue new.ended) → IsJoined bytes more new count text
  joined goes ends = by_end up.begins.ends
    where
      by_end : EndsLine (input_of true old bytes) up.place → IsJoined bytes more new count text
      by_end (inl feed) = record { up = closed_up feed.0; script = closed_script feed.0 }
      by_end (inr end) =
          let open_there : IsOpenEnd bytes old count = open_end end in
          let none : more ≡ [] = goes.still open_there.ended open_there.all in
          let same : bytes ++ more ≡ bytes = ap (λ (bs : List ℕ). bytes ++ bs) none ∙ append-nil bytes in
          let still : old.ended ≡ new.ended = open_there.ended ∙ sym (ends open_there none) in
          let input : input_of true old bytes ≡ input_of true new (bytes ++ more) = λ i. record { bytes = sym same i; ended = still i; audit = true } in
          record { up = subst (λ (x : Input). IsUpToJournal plain_lines x count text) input up; script = ap (script_of true) same }
