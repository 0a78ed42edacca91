-- What is guarded in an input is less than the script that is written may have resources, so private names tell
-- places apart.
use Rattle.std.proofs.Common.{◌≡◌, ◌∙◌, ℕ, ◌+◌, ◌<◌, ◌≤◌, Bool, true, false, cond, not, List, [], ◌∷◌, ◌++◌, length, filter_map, flat_map, decimal, Option, Some, None, option_map, is_some, refl, sym, ap, arith, length-append, append_assoc}
use Rattle.std.specs.Prelude.{option_to_list}
use Rattle.std.specs.List.{cons_option, list_any}
use Rattle.std.proofs.lemmas.Bool.{or_parts}
use Rattle.std.proofs.lemmas.Fmt.{decimal_injective}
use Rattle.std.proofs.lemmas.List.{append_cancel_left, length-map}
use Rattle.std.proofs.lemmas.List.Folds.{flat_map-map}
use Rattle.std.proofs.lemmas.List.Sums.{count_by-le-length, length-filter, sum_by-append, sum_by-cons}
use Rattle.serde_json.specs.Data.{Data}
use Rattle.ev_types.specs.Scripts.{items_in, items_of}
use Rattle.ev_types.specs.declared.contents.Kind.TheVariants.{Cds}
use Rattle.ev_types.specs.declared.events.Line.{Line}
use Rattle.ev_types.specs.declared.events.Profile.{Profile}
use Rattle.ev_types.specs.declared.limits.TheConstants.{ITEM_LIMIT}
use Rattle.ev_wire.specs.Responses.{item_of}
use Rattle.ev_script.specs.Lines.{line_of}
use Rattle.ev_expand.specs.declared.keys.Key.{Key}
use Rattle.ev_expand.specs.Expanding.{Rules, due_at, gives, guarded_at, lines_due, place_of}
use Rattle.ev_expand.specs.Fronts.{Front, behind, fronts}
use Rattle.ev_expand.specs.Guarding.{Guard, Guarded, clusters_in, each_once, guarded_by, guarded_in, guarded_of, guarded_same, place_at, private_name, waiting_entries, waiting_entry, waiting_line}
use Rattle.ev_expand.specs.Said.{given_lines, lines_said}
use Rattle.ev_expand.specs.Waiting.{WaitsAsSaid, has_guarded, stream_line, waiting_response}
use Rattle.ev_expand.proofs.ReadLemmas.{waiting_reads}

-- ---- lists that get no longer

found_length : {X Y : Type 0} (f : X → Option Y) (xs : List X) → length (filter_map f xs) ≤ length xs
found_length f [] = omega arith
found_length f (x ∷ xs) = by f x xs (f x) (found_length f xs)
  where
    by : {X Y : Type 0} (f : X → Option Y) (x : X) (xs : List X) (found : Option Y) → length (filter_map f xs) ≤ length xs
        → length (cons_option found (filter_map f xs)) ≤ length (x ∷ xs)
    by f x xs None rest = omega (arith, rest)
    by f x xs (Some y) rest = omega (arith, rest)

once_length : (gs : List Guarded) → length (each_once gs) ≤ length gs
once_length [] = omega arith
once_length (first ∷ others) =
    let p = λ (other : Guarded). not (guarded_same other first) in
    omega (arith, length-filter p (each_once others), count_by-le-length p (each_once others), once_length others)

-- ---- resources of the lines that are written

said_append : (profile : Profile) (at : ℕ) (xs ys : List Data) → lines_said profile at (xs ++ ys) ≡ lines_said profile at xs ++ lines_said profile (at + length xs) ys
said_append profile at [] ys = let place : at ≡ at + 0 = omega arith in ap (λ n. lines_said profile n ys) place
said_append profile at (x ∷ xs) ys =
    let place : at + 1 + length xs ≡ at + length (x ∷ xs) = omega arith in
    ap (λ ls. option_to_list (line_of profile at x) ++ ls) (said_append profile (at + 1) xs ys ∙ ap (λ n. lines_said profile (at + 1) xs ++ lines_said profile n ys) place)
    ∙ sym (append_assoc (option_to_list (line_of profile at x)) (lines_said profile (at + 1) xs) (lines_said profile (at + length (x ∷ xs)) ys))

none_guarded : (guard : Guard) (entries : List Data) → list_any (λ (entry : Data). is_some (guard.key_of entry)) entries ≡ false → filter_map (guarded_of guard) entries ≡ []
none_guarded guard [] h = refl
none_guarded guard (entry ∷ entries) h =
    let parts = or_parts (is_some (guard.key_of entry)) (list_any (λ (e : Data). is_some (guard.key_of e)) entries) h in
    by (guard.key_of entry) parts.0 ∙ none_guarded guard entries parts.1
  where
    by : (key : Option Key) → is_some key ≡ false
        → cons_option (option_map (λ (k : Key). record { key = k; own = guard.own_of entry }) key) (filter_map (guarded_of guard) entries) ≡ filter_map (guarded_of guard) entries
    by None e = refl
    by (Some key) e = absurd (cc)

fronts_lines : {X : Type 0} (f : Data → List X) (lines : List Data) → flat_map (λ (front : Front). f front.line) (fronts lines) ≡ flat_map f lines
fronts_lines f [] = refl
fronts_lines f (line ∷ lines) =
    ap (λ xs. f line ++ xs) (flat_map-map (λ (front : Front). f front.line) (behind line) (fronts lines) ∙ fronts_lines f lines)

-- where each line that has something guarded is written
module _ (rules : Rules) (writes : (line : Data) → has_guarded rules.guard line ≡ true → rules.is_written line ≡ true) where
  -- the line of a prefix has no fewer resources than guarded ones
  front_items : (front : Front) (at : ℕ) → length (guarded_in rules.guard front.line) ≤ items_of (lines_said rules.guard.profile at (gives rules front))
  front_items front at = by (has_guarded rules.guard front.line) refl
    where
      by : (b : Bool) → has_guarded rules.guard front.line ≡ b → length (guarded_in rules.guard front.line) ≤ items_of (lines_said rules.guard.profile at (gives rules front))
      by false none = omega (arith, ap length (none_guarded rules.guard (clusters_in rules.guard.profile front.line) none))
      by true some =
          let guarded : List Guarded = guarded_at rules front in
          let reads : WaitsAsSaid rules.prefix rules.guard guarded front.line = waiting_reads rules.prefix rules.guard guarded front.line some in
          let line : Line = stream_line at (waiting_response rules.prefix rules.guard guarded front.line reads.response) in
          let due : List Data = lines_due rules.prefix rules.nonce (place_of front) (due_at rules front) in
          let later : List Line = lines_said rules.guard.profile (at + 1) due in
          let said : lines_said rules.guard.profile at (gives rules front) ≡ line ∷ later =
          ap (λ b. lines_said rules.guard.profile at (cond b (waiting_line rules.prefix rules.guard guarded front.line ∷ []) [] ++ due)) (writes front.line some)
          ∙ ap (λ found. option_to_list found ++ later) (reads.reads at) in
          let own : items_in line.event ≡ length (clusters_in rules.guard.profile front.line) =
          length-map (waiting_entries rules.prefix rules.guard guarded front.line) (item_of rules.guard.profile Cds)
          ∙ length-map (clusters_in rules.guard.profile front.line) (λ (entry : Data). waiting_entry rules.prefix (place_at rules.guard guarded entry) entry) in
          let sum : items_of (line ∷ later) ≡ items_in line.event + items_of later = sum_by-cons (λ (l : Line). items_in l.event) line later in
          omega (arith, ap items_of said, own, sum, found_length (guarded_of rules.guard) (clusters_in rules.guard.profile front.line))

  fronts_items : (fs : List Front) (at : ℕ) → length (flat_map (λ (f : Front). guarded_in rules.guard f.line) fs) ≤ items_of (lines_said rules.guard.profile at (flat_map (gives rules) fs))
  fronts_items [] at = omega arith
  fronts_items (f ∷ fs) at =
      let guarded : List Guarded = flat_map (λ (g : Front). guarded_in rules.guard g.line) fs in
      let later : List Data = flat_map (gives rules) fs in
      let joined : length (guarded_in rules.guard f.line ++ guarded) ≡ length (guarded_in rules.guard f.line) + length guarded =
      length-append (guarded_in rules.guard f.line) guarded in
      let sum : items_of (lines_said rules.guard.profile at (gives rules f ++ later)) ≡ items_of (lines_said rules.guard.profile at (gives rules f)) + items_of (lines_said rules.guard.profile (at + length (gives rules f)) later) =
      ap items_of (said_append rules.guard.profile at (gives rules f) later)
      ∙ sum_by-append (λ (l : Line). items_in l.event) (lines_said rules.guard.profile at (gives rules f)) (lines_said rules.guard.profile (at + length (gives rules f)) later) in
      omega (arith, joined, sum, front_items f at, fronts_items fs (at + length (gives rules f)))

  -- fewer are guarded than a script may have resources
  pub guarded_few : (lines : List Data) → items_of (lines_said rules.guard.profile 2 (given_lines rules lines)) < ITEM_LIMIT → length (guarded_by rules.guard lines) < ITEM_LIMIT
  guarded_few lines few =
      omega (arith, once_length (flat_map (guarded_in rules.guard) lines), ap length (fronts_lines (guarded_in rules.guard) lines), fronts_items (fronts lines) 2, few)

-- places below the limit are told apart by their private names
pub places_same : (prefix : List ℕ) (a b : ℕ) → a < ITEM_LIMIT → b < ITEM_LIMIT → private_name prefix a ≡ private_name prefix b → a ≡ b
places_same prefix a b first second same =
    let next : a + 1 ≡ b + 1 =
    decimal_injective (a + 1) (b + 1) (omega (arith, first)) (omega (arith, second)) (append_cancel_left prefix (decimal (a + 1)) (decimal (b + 1)) same) in
    omega (arith, next)
