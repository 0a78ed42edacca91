-- What is said of places before the last of some bytes stays where more bytes follow:
-- so a fault of the bytes taken is one of the whole input.
use Rattle.std.proofs.Common.{◌≡◌, ℕ, suc, ◌+◌, ◌-◌, ◌<◌, ◌≤◌, Bool, true, false, List, [], ◌++◌, length, take, drop, get_or, Option, option_and_then, sym, ap, subst, ◌∙◌, ◌⊎◌, inl, inr, arith, append_assoc, length-append, add-one}
use Rattle.std.proofs.Math.ListN.{get_or-append}
use Rattle.std.proofs.lemmas.List.{take-append-le, take-append-drop}
use Rattle.ev_io.specs.Lines.{lines_of, feeds_in, IsClosed}
use Rattle.ev_io.proofs.LineLemmas.{lines_of-append, feeds_in-closed, closed-append}
use Rattle.ev_script.specs.declared.fault_kinds.FaultKind.{FaultKind}
use Rattle.ev_script.specs.declared.fault_kinds.FaultKind.TheVariants.{TooLong, TooMany, TooLarge, NotJson, NotHeader, NotLine, NoSuchWorker, NoByte, NotJournal}
use Rattle.ev_script.specs.Members.{tree_of}
use Rattle.ev_script.specs.declared.forms.Settings.{Settings}
use Rattle.ev_script.specs.Faults.{Input, index_at, tree_at, EndsLine, BeginsJournal, EndsScriptLine, Stands, plain_lines, settings_in, profile_by, profile_in, named_at}
use Rattle.ev_script.proofs.LimitLemmas.{feeds_with}
use Rattle.ev_script.proofs.PrefixLemmas.{stands_more}
use Rattle.ev_audit_input.specs.Faults.{StartsJournal, IsNoText, HasEndBefore, IsMisplacedAt, StandsWithJournal}

-- some bytes, and more after them; whether the source gave its end after the ones and the others
module _ (xs ys : List ℕ) (near_end far_end audit : Bool) where
  abbrev near : Input
  near = record { bytes = xs; ended = near_end; audit = audit }

  abbrev far : Input
  far = record { bytes = xs ++ ys; ended = far_end; audit = audit }

  pub index_same : (place : ℕ) → place ≤ length xs → feeds_in (take place (xs ++ ys)) ≡ feeds_in (take place xs)
  index_same place h = ap feeds_in (take-append-le place xs ys h)

  byte_same : (place : ℕ) → place < length xs → get_or (xs ++ ys) place 0 ≡ get_or xs place 0
  byte_same place h = get_or-append xs ys 0 place h

  -- a line that is closed, and those before it, stay
  pub text_same : (place i : ℕ) → place < length xs → get_or xs place 0 ≡ 10 → i ≤ feeds_in (take place xs) → get_or (lines_of (xs ++ ys)) i [] ≡ get_or (lines_of xs) i []
  text_same place i h feed most =
      let front : List ℕ = take (place + 1) xs in
      let rest : List ℕ = drop (place + 1) xs in
      let closed : IsClosed front = closed-append [] xs place h feed in
      let parts : front ++ rest ≡ xs = take-append-drop (place + 1) xs in
      let count : feeds_in front ≡ length (lines_of front) = feeds_in-closed front closed in
      let more : feeds_in front ≡ suc (feeds_in (take place xs)) = ap (λ (n : ℕ). feeds_in (take n xs)) (add-one place) ∙ feeds_with xs place h feed in
      let within : i < length (lines_of front) = omega arith in
      let here : lines_of xs ≡ lines_of front ++ lines_of rest = ap lines_of (sym parts) ∙ lines_of-append front rest closed in
      let there : lines_of (xs ++ ys) ≡ lines_of front ++ lines_of (rest ++ ys) =
      ap (λ (zs : List ℕ). lines_of (zs ++ ys)) (sym parts) ∙ ap lines_of (append_assoc front rest ys) ∙ lines_of-append front (rest ++ ys) closed in
      ap (λ (ls : List (List ℕ)). get_or ls i []) there
      ∙ get_or-append (lines_of front) (lines_of (rest ++ ys)) [] i within
      ∙ sym (get_or-append (lines_of front) (lines_of rest) [] i within)
      ∙ ap (λ (ls : List (List ℕ)). get_or ls i []) (sym here)

  tree_same : (place : ℕ) → place < length xs → get_or xs place 0 ≡ 10 → tree_at far place ≡ tree_at near place
  tree_same place h feed =
      ap (λ (i : ℕ). tree_of (get_or (lines_of (xs ++ ys)) i [])) (index_same place (omega arith))
      ∙ ap tree_of (text_same place (feeds_in (take place xs)) h feed (omega arith))

  heads_same : (place : ℕ) → place < length xs → get_or xs place 0 ≡ 10 → settings_in plain_lines (lines_of (xs ++ ys)) ≡ settings_in plain_lines (lines_of xs)
  heads_same place h feed = ap (λ (text : List ℕ). option_and_then plain_lines.heads (tree_of text)) (text_same place 0 h feed (omega arith))

  -- a line that ends there is closed
  pub feed_near : (place : ℕ) → place < length xs → EndsLine near place → get_or xs place 0 ≡ 10
  feed_near place h (inl feed) = feed.1
  feed_near place h (inr end) = let last : place ≡ length xs = end.1 in absurd (omega arith)

  ends_near : (place : ℕ) → place < length xs → EndsLine far place → EndsLine near place
  ends_near place h (inl feed) = inl (h, sym (byte_same place h) ∙ feed.1)
  ends_near place h (inr end) = let last : place ≡ length (xs ++ ys) = end.1 in absurd (omega (arith, length-append xs ys))

  ends_far : (place : ℕ) → place < length xs → EndsLine near place → EndsLine far place
  ends_far place h ends = inl (omega (arith, length-append xs ys), byte_same place h ∙ feed_near place h ends)

  pub begins_near : (place : ℕ) → place < length xs → BeginsJournal far place → BeginsJournal near place
  begins_near place h b =
      let ends : EndsLine near place = ends_near place h b.ends in
      record {
        audit = b.audit;
        ends = ends;
        later = subst (λ (i : ℕ). 0 < i) (index_same place (omega arith)) b.later;
        format = (b.format.0, sym (tree_same place h (feed_near place h ends)) ∙ b.format.1, b.format.2);
      }

  pub begins_far : (place : ℕ) → place < length xs → BeginsJournal near place → BeginsJournal far place
  begins_far place h b = record {
    audit = b.audit;
    ends = ends_far place h b.ends;
    later = subst (λ (i : ℕ). 0 < i) (sym (index_same place (omega arith))) b.later;
    format = (b.format.0, tree_same place h (feed_near place h b.ends) ∙ b.format.1, b.format.2);
  }

  line_near : (place : ℕ) → place < length xs → EndsScriptLine far place → EndsScriptLine near place
  line_near place h s = record { ends = ends_near place h s.ends; before = λ start up_to b. s.before start up_to (begins_far start (omega arith) b) }

  named_same : (place : ℕ) → place < length xs → get_or xs place 0 ≡ 10
      → named_at plain_lines far place ≡ named_at plain_lines near place
  named_same place h feed =
      ap (λ (s : Option Settings). option_and_then (plain_lines.lines (profile_by s) (index_at far place + 1)) (tree_at far place)) (heads_same place h feed)
      ∙ ap (λ (i : ℕ). option_and_then (plain_lines.lines (profile_in plain_lines (lines_of xs)) (i + 1)) (tree_at far place)) (index_same place (omega arith))
      ∙ ap (option_and_then (plain_lines.lines (profile_in plain_lines (lines_of xs)) (feeds_in (take place xs) + 1))) (tree_same place h feed)

  -- a fault of the script that is there in the whole is there in the part
  pub stands_near : (place : ℕ) (kind : FaultKind) → place < length xs → Stands plain_lines far place kind → Stands plain_lines near place kind
  stands_near place TooLong h s = (h, (s.1.0, λ k low high f. s.1.1 k low high (byte_same k (omega arith) ∙ f)))
  stands_near place TooMany h s =
      let same : feeds_in (take place (xs ++ ys)) ≡ feeds_in (take place xs) = index_same place (omega arith) in
      (h, omega (arith, s.1))
  stands_near place TooLarge h s = (h, s.1)
  stands_near place NotJson h s =
      let ends : EndsLine near place = ends_near place h s.0.ends in
      (line_near place h s.0, sym (tree_same place h (feed_near place h ends)) ∙ s.1)
  stands_near place NotHeader h s =
      let ends : EndsLine near place = ends_near place h s.0.ends in
      (line_near place h s.0, sym (index_same place (omega arith)) ∙ s.1, ap (option_and_then plain_lines.heads) (sym (tree_same place h (feed_near place h ends))) ∙ s.2)
  stands_near place NotLine h s =
      let ends : EndsLine near place = ends_near place h s.0.ends in
      (line_near place h s.0, subst (λ (i : ℕ). 0 < i) (index_same place (omega arith)) s.1, sym (named_same place h (feed_near place h ends)) ∙ s.2)
  stands_near place NoSuchWorker h s =
      let ends : EndsLine near place = ends_near place h s.0.ends in (
        line_near place h s.0,
        subst (λ (i : ℕ). 0 < i) (index_same place (omega arith)) s.1,
        record {
          worker = s.2.worker;
          settings = s.2.settings;
          names = sym (named_same place h (feed_near place h ends)) ∙ s.2.names;
          heads = sym (heads_same place h (feed_near place h ends)) ∙ s.2.heads;
          above = s.2.above;
        },
      )
  stands_near place NoByte h s = let none : length (xs ++ ys) ≡ 0 = ap length s.1 in absurd (omega (arith, length-append xs ys))
  stands_near place NotJournal h s = let last : place ≡ length (xs ++ ys) = s.2 in absurd (omega (arith, length-append xs ys))

  -- a line of the journal that is out of its place stays so
  starts_far : (start : ℕ) → start < length xs → StartsJournal near start → StartsJournal far start
  starts_far start h s = record { begins = begins_far start h s.begins; first = λ other before b. s.first other before (begins_near other (omega arith) b) }

  wrong_far : (workers start place : ℕ) → start ≤ place → place < length xs → get_or xs place 0 ≡ 10
      → IsNoText workers (index_at near place - index_at near start) (get_or (lines_of xs) (index_at near place) []) ⊎ HasEndBefore (lines_of xs) (index_at near start) (index_at near place)
      → IsNoText workers (index_at far place - index_at far start) (get_or (lines_of (xs ++ ys)) (index_at far place) []) ⊎ HasEndBefore (lines_of (xs ++ ys)) (index_at far start) (index_at far place)
  wrong_far workers start place behind h feed (inl wrong) =
      let text : get_or (lines_of (xs ++ ys)) (index_at far place) [] ≡ get_or (lines_of xs) (index_at near place) [] =
      ap (λ (i : ℕ). get_or (lines_of (xs ++ ys)) i []) (index_same place (omega arith)) ∙ text_same place (feeds_in (take place xs)) h feed (omega arith) in
      let count : index_at far place - index_at far start ≡ index_at near place - index_at near start =
      λ i. index_same place (omega arith) i - index_same start (omega arith) i in
      inl (subst (λ (n : ℕ). IsNoText workers n (get_or (lines_of (xs ++ ys)) (index_at far place) [])) (sym count)
      (subst (IsNoText workers (index_at near place - index_at near start)) (sym text) wrong))
  wrong_far workers start place behind h feed (inr end) =
      let first : index_at far start ≡ index_at near start = index_same start (omega arith) in
      let last : index_at far place ≡ index_at near place = index_same place (omega arith) in
      let before : index_at near start + 1 + end.rows < feeds_in (take place xs) = end.before in
      inr (subst (λ (n : ℕ). HasEndBefore (lines_of (xs ++ ys)) n (index_at far place)) (sym first)
      (subst (HasEndBefore (lines_of (xs ++ ys)) (index_at near start)) (sym last)
      record { rows = end.rows; before = before; is = text_same place (index_at near start + 1 + end.rows) h feed (omega arith) ∙ end.is }))

  pub misplaced_far : (place : ℕ) → place < length xs → IsMisplacedAt near place → IsMisplacedAt far place
  misplaced_far place h m =
      let feed : get_or xs place 0 ≡ 10 = feed_near place h m.ends in
      let behind : m.start ≤ place = m.behind in
      record {
        start = m.start;
        starts = starts_far m.start (omega arith) m.starts;
        behind = behind;
        ends = ends_far place h m.ends;
        settings = m.settings;
        heads = heads_same place h feed ∙ m.heads;
        wrong = wrong_far m.settings.workers m.start place behind h feed m.wrong;
      }

-- the bytes taken, the source not having given its end
abbrev part : List ℕ → Bool → Input
part xs audit = record { bytes = xs; ended = false; audit = audit }

within_part : (xs : List ℕ) (audit : Bool) (place : ℕ) → EndsLine (part xs audit) place → place < length xs
within_part xs audit place (inl feed) = feed.0
within_part xs audit place (inr end) = let no : false ≡ true = end.0 in cc

-- a fault of the bytes taken is in an input that begins with them
pub stands_more_with : (xs ys : List ℕ) (ended audit : Bool) (place : ℕ) (kind : FaultKind) → StandsWithJournal (part xs audit) place kind
    → StandsWithJournal (record { bytes = xs ++ ys; ended = ended; audit = audit }) place kind
stands_more_with xs ys ended audit place TooLong s = stands_more plain_lines xs ys ended audit place TooLong s
stands_more_with xs ys ended audit place TooMany s = stands_more plain_lines xs ys ended audit place TooMany s
stands_more_with xs ys ended audit place TooLarge s = stands_more plain_lines xs ys ended audit place TooLarge s
stands_more_with xs ys ended audit place NotJson s = stands_more plain_lines xs ys ended audit place NotJson s
stands_more_with xs ys ended audit place NotHeader s = stands_more plain_lines xs ys ended audit place NotHeader s
stands_more_with xs ys ended audit place NotLine s = stands_more plain_lines xs ys ended audit place NotLine s
stands_more_with xs ys ended audit place NoSuchWorker s = stands_more plain_lines xs ys ended audit place NoSuchWorker s
stands_more_with xs ys ended audit place NoByte s = stands_more plain_lines xs ys ended audit place NoByte s
stands_more_with xs ys ended audit place NotJournal (inl m) = inl (misplaced_far xs ys false ended audit place (within_part xs audit place m.ends) m)
stands_more_with xs ys ended audit place NotJournal (inr incomplete) = let no : false ≡ true = incomplete.ended in cc
