-- A fault of the bytes taken is one of the whole input: more bytes don't take it away.
use Rattle.std.proofs.Common.{◌≡◌, ℕ, suc, ◌+◌, ◌<◌, ◌≤◌, Bool, true, false, List, [], ◌++◌, length, take, drop, get_or, Option, option_and_then, sym, ap, ◌∙◌, inl, inr, arith, append_assoc, length-append, add-one}
use Rattle.std.proofs.Math.ListN.{get_or-append}
use Rattle.std.proofs.lemmas.List.{take-append-le, take-append-drop}
use Rattle.ev_io.specs.Lines.{lines_of, feeds_in, IsClosed}
use Rattle.ev_io.proofs.LineLemmas.{lines_of-append, feeds_in-closed, closed-append}
use Rattle.ev_script.specs.declared.fault_kinds.FaultKind.{FaultKind}
use Rattle.ev_script.specs.declared.fault_kinds.FaultKind.TheVariants.{TooLong, TooMany, TooLarge, NotJson, NotHeader, NotLine, NoSuchWorker, NoByte, NotJournal}
use Rattle.ev_script.specs.declared.forms.Settings.{Settings}
use Rattle.ev_script.specs.Members.{tree_of}
use Rattle.ev_script.specs.Faults.{LineForms, Input, index_at, tree_at, settings_in, profile_by, profile_in, named_at, EndsLine, BeginsJournal, EndsScriptLine, Stands}
use Rattle.ev_script.proofs.LimitLemmas.{feeds_with}

-- the bytes taken, the source not having given its end, and an input that begins with them
abbrev part : List ℕ → Bool → Input
part xs audit = record { bytes = xs; ended = false; audit = audit }

abbrev whole : List ℕ → List ℕ → Bool → Bool → Input
whole xs ys ended audit = record { bytes = xs ++ ys; ended = ended; audit = audit }

index_same : (xs ys : List ℕ) (place : ℕ) → place ≤ length xs → feeds_in (take place (xs ++ ys)) ≡ feeds_in (take place xs)
index_same xs ys place h = ap feeds_in (take-append-le place xs ys h)

byte_same : (xs ys : List ℕ) (place : ℕ) → place < length xs → get_or (xs ++ ys) place 0 ≡ get_or xs place 0
byte_same xs ys place h = get_or-append xs ys 0 place h

-- a line that is closed, and those before it, stay
text_same : (xs ys : List ℕ) (place i : ℕ) → place < length xs → get_or xs place 0 ≡ 10 → i ≤ feeds_in (take place xs) → get_or (lines_of (xs ++ ys)) i [] ≡ get_or (lines_of xs) i []
text_same xs ys place i h feed most =
    let front : List ℕ = take (place + 1) xs in
    let rest : List ℕ = drop (place + 1) xs in
    let closed : IsClosed front = closed-append [] xs place h feed in
    let parts : front ++ rest ≡ xs = take-append-drop (place + 1) xs in
    let count : feeds_in front ≡ length (lines_of front) = feeds_in-closed front closed in
    let more : feeds_in front ≡ suc (feeds_in (take place xs)) = ap (λ (n : ℕ). feeds_in (take n xs)) (add-one place) ∙ feeds_with xs place h feed in
    let within : i < length (lines_of front) = omega arith in
    let here : lines_of xs ≡ lines_of front ++ lines_of rest = ap lines_of (sym parts) ∙ lines_of-append front rest closed in
    let there : lines_of (xs ++ ys) ≡ lines_of front ++ lines_of (rest ++ ys) =
    ap (λ (zs : List ℕ). lines_of (zs ++ ys)) (sym parts) ∙ ap lines_of (append_assoc front rest ys) ∙ lines_of-append front (rest ++ ys) closed in
    ap (λ (ls : List (List ℕ)). get_or ls i []) there
    ∙ get_or-append (lines_of front) (lines_of (rest ++ ys)) [] i within
    ∙ sym (get_or-append (lines_of front) (lines_of rest) [] i within)
    ∙ ap (λ (ls : List (List ℕ)). get_or ls i []) (sym here)

tree_same : (xs ys : List ℕ) (ended audit : Bool) (place : ℕ) → place < length xs → get_or xs place 0 ≡ 10 → tree_at (whole xs ys ended audit) place ≡ tree_at (part xs audit) place
tree_same xs ys ended audit place h feed =
    ap (λ (i : ℕ). tree_of (get_or (lines_of (xs ++ ys)) i [])) (index_same xs ys place (omega arith))
    ∙ ap tree_of (text_same xs ys place (feeds_in (take place xs)) h feed (omega arith))

-- the line ends by its line feed
feed_at : (xs : List ℕ) (audit : Bool) (place : ℕ) → EndsLine (part xs audit) place → (place < length xs) × (get_or xs place 0 ≡ 10)
feed_at xs audit place (inl feed) = feed
feed_at xs audit place (inr end) = let no : false ≡ true = end.0 in cc

begins_before : (xs ys : List ℕ) (ended audit : Bool) (place start : ℕ) → place < length xs → start ≤ place → BeginsJournal (whole xs ys ended audit) start → BeginsJournal (part xs audit) start
begins_before xs ys ended audit place start h up_to b = by_end b.ends
  where
    by_end : EndsLine (whole xs ys ended audit) start → BeginsJournal (part xs audit) start
    by_end (inl feed) =
        let within : start < length xs = omega arith in
        let here : get_or xs start 0 ≡ 10 = sym (byte_same xs ys start within) ∙ feed.1 in
        let same : feeds_in (take start (xs ++ ys)) ≡ feeds_in (take start xs) = index_same xs ys start (omega arith) in
        let later : 0 < feeds_in (take start (xs ++ ys)) = b.later in
        record { audit = b.audit; ends = inl (within, here); later = omega arith; format = (b.format.0, sym (tree_same xs ys ended audit start within here) ∙ b.format.1, b.format.2) }
    by_end (inr end) =
        let last : start ≡ length (xs ++ ys) = end.1 in
        absurd (omega (arith, length-append xs ys))

line_same : (xs ys : List ℕ) (ended audit : Bool) (place : ℕ) → EndsScriptLine (part xs audit) place → EndsScriptLine (whole xs ys ended audit) place
line_same xs ys ended audit place s =
    let feed = feed_at xs audit place s.ends in
    let within : place < length xs = feed.0 in
    record {
      ends = inl (omega (arith, length-append xs ys), byte_same xs ys place within ∙ feed.1);
      before = λ start h b. s.before start h (begins_before xs ys ended audit place start within h b);
    }

-- what the first line sets, and its profile
settings_same : (forms : LineForms) (xs ys : List ℕ) (place : ℕ) → place < length xs → get_or xs place 0 ≡ 10 → settings_in forms (lines_of (xs ++ ys)) ≡ settings_in forms (lines_of xs)
settings_same forms xs ys place h feed = ap (λ (text : List ℕ). option_and_then forms.heads (tree_of text)) (text_same xs ys place 0 h feed (omega arith))

named_same : (forms : LineForms) (xs ys : List ℕ) (ended audit : Bool) (place : ℕ) → place < length xs → get_or xs place 0 ≡ 10 → named_at forms (whole xs ys ended audit) place ≡ named_at forms (part xs audit) place
named_same forms xs ys ended audit place h feed =
    ap (λ (s : Option Settings). option_and_then (forms.lines (profile_by s) (index_at (whole xs ys ended audit) place + 1)) (tree_at (whole xs ys ended audit) place)) (settings_same forms xs ys place h feed)
    ∙ ap (λ (i : ℕ). option_and_then (forms.lines (profile_in forms (lines_of xs)) (i + 1)) (tree_at (whole xs ys ended audit) place)) (index_same xs ys place (omega arith))
    ∙ ap (option_and_then (forms.lines (profile_in forms (lines_of xs)) (feeds_in (take place xs) + 1))) (tree_same xs ys ended audit place h feed)

later_same : (xs ys : List ℕ) (place : ℕ) → place ≤ length xs → 0 < feeds_in (take place xs) → 0 < feeds_in (take place (xs ++ ys))
later_same xs ys place h later =
    let same : feeds_in (take place (xs ++ ys)) ≡ feeds_in (take place xs) = index_same xs ys place h in
    omega arith

-- a fault of the bytes taken is in the whole input
pub stands_more : (forms : LineForms) (xs ys : List ℕ) (ended audit : Bool) (place : ℕ) (kind : FaultKind) → Stands forms (part xs audit) place kind → Stands forms (whole xs ys ended audit) place kind
stands_more forms xs ys ended audit place TooLong s =
    let within : place < length xs = s.0 in
    (omega (arith, length-append xs ys), (s.1.0, λ k low high f. s.1.1 k low high (sym (byte_same xs ys k (omega arith)) ∙ f)))
stands_more forms xs ys ended audit place TooMany s =
    let within : place < length xs = s.0 in
    let same : feeds_in (take place (xs ++ ys)) ≡ feeds_in (take place xs) = index_same xs ys place (omega arith) in
    (omega (arith, length-append xs ys), omega (arith, s.1))
stands_more forms xs ys ended audit place TooLarge s =
    let within : place < length xs = s.0 in
    (omega (arith, length-append xs ys), s.1)
stands_more forms xs ys ended audit place NotJson s =
    let feed = feed_at xs audit place s.0.ends in
    (line_same xs ys ended audit place s.0, tree_same xs ys ended audit place feed.0 feed.1 ∙ s.1)
stands_more forms xs ys ended audit place NotHeader s =
    let feed = feed_at xs audit place s.0.ends in
    let within : place < length xs = feed.0 in
    (line_same xs ys ended audit place s.0, index_same xs ys place (omega arith) ∙ s.1, ap (option_and_then forms.heads) (tree_same xs ys ended audit place feed.0 feed.1) ∙ s.2)
stands_more forms xs ys ended audit place NotLine s =
    let feed = feed_at xs audit place s.0.ends in
    let within : place < length xs = feed.0 in
    (line_same xs ys ended audit place s.0, later_same xs ys place (omega arith) s.1, named_same forms xs ys ended audit place feed.0 feed.1 ∙ s.2)
stands_more forms xs ys ended audit place NoSuchWorker s =
    let feed = feed_at xs audit place s.0.ends in
    let within : place < length xs = feed.0 in (
      line_same xs ys ended audit place s.0,
      later_same xs ys place (omega arith) s.1,
      record {
        worker = s.2.worker;
        settings = s.2.settings;
        names = named_same forms xs ys ended audit place feed.0 feed.1 ∙ s.2.names;
        heads = settings_same forms xs ys place feed.0 feed.1 ∙ s.2.heads;
        above = s.2.above;
      },
    )
stands_more forms xs ys ended audit place NoByte s = let no : false ≡ true = s.0 in cc
stands_more forms xs ys ended audit place NotJournal s = let no : false ≡ true = s.1 in cc
