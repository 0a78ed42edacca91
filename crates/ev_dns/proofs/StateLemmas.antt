-- What is known after one line more, and what is due there.
use Rattle.std.proofs.Common.{◌≡◌, ℕ, suc, ◌+◌, ◌<◌, ◌≤◌, Bool, true, false, not, cond, ◌&&◌, ◌||◌, nat_eq, nat_cmp, List, [], ◌∷◌, ◌++◌, length, map, filter, filter_map, flat_map, Option, Some, None, IfSome, option_map, option_and_then, unwrap_or, refl, sym, ap, ap₂, ◌∙◌, subst, arith}
use Rattle.std.specs.Prelude.{All, slice_get}
use Rattle.std.specs.List.{list_any, last_or, enumerate_from, cons_option}
use Rattle.std.specs.BTreeSet.{BTreeSet, contains}
use Rattle.std.proofs.lemmas.Bool.Decides.{same_from_decides}
use Rattle.std.proofs.lemmas.List.Elements.{filter_map-append}
use Rattle.serde_json.specs.Data.{Data}
use Rattle.ev_types.specs.Same.{numbers_decide}
use Rattle.ev_types.specs.declared.events.Profile.{Profile}
use Rattle.ev_expand.specs.declared.keys.Key.{Key}
use Rattle.ev_expand.specs.Keys.{key_same, key_decides}
use Rattle.ev_expand.specs.Expanding.{due_at}
use Rattle.ev_expand.specs.Fronts.{event_of, stream_said, stream_at}
use Rattle.ev_expand.specs.Growing.{front_of}
use Rattle.ev_expand.specs.Guarding.{Guard, Guarded, guarded_same, guarded_of, guarded_in, guarded_by, each_once, clusters_in, place_in, place_at}
use Rattle.ev_expand.specs.Numbers.{ArePlaces}
use Rattle.ev_expand.proofs.NumberLemmas.{guarded-push}
use Rattle.ev_expand.proofs.DistinctLemmas.{AreDistinct, IsExtended, once_distinct, once_extends, own_place, place_has}
use Rattle.ev_dns.specs.declared.answers.Answers.{Answers}
use Rattle.ev_dns.specs.declared.lines.Resolution.{Resolution}
use Rattle.ev_dns.specs.declared.complete.Complete.{Complete}
use Rattle.ev_dns.specs.Lines.{resolution_in}
use Rattle.ev_dns.specs.Answers.{is_complete}
use Rattle.ev_dns.specs.Hosts.{hosts_with, endpoints_tree}
use Rattle.ev_dns.specs.Known.{due_parts, due_found, is_sent, stands_named}
use Rattle.ev_dns.specs.Marking.{is_place, is_marked, passes_at, open_after}
use Rattle.ev_dns.specs.Resolving.{dns_rules, has_guarded, answers_one, answers_name}
use Rattle.ev_dns.specs.State.{AreAnswers, IsTouched}
use Rattle.ev_dns.specs.Templates.{by_names}
use Rattle.ev_dns.specs.Waiting.{AreComplete}
use Rattle.ev_dns.proofs.PairLemmas.{none_left}
use Rattle.ev_dns.proofs.AnswerLemmas.{last-append, complete_as}
use Rattle.ev_dns.proofs.WaitingLemmas.{complete_here, past_end}

-- ---- the stream

stream_step : (l o : Option Bool) → unwrap_or o (unwrap_or l false) ≡ unwrap_or (last_or l (cons_option o [])) false
stream_step l None = refl
stream_step l (Some v) = refl

pub stream_now : (profile : Profile) (before : List Data) (line : Data) → open_after (stream_at profile before) (event_of profile line) ≡ stream_at profile (before ++ line ∷ [])
stream_now profile before line =
    let said : Data → Option Bool = λ l. option_and_then stream_said (event_of profile l) in
    stream_step (last_or None (filter_map said before)) (said line)
    ∙ sym (ap (λ (o : Option Bool). unwrap_or o false) (ap (last_or None) (filter_map-append said before (line ∷ [])) ∙ last-append None (filter_map said before) (cons_option (said line) [])))

-- ---- the places

-- what is guarded after a line: what was, and more that have guarded resources in it
pub extended : (profile : Profile) (before : List Data) (line : Data) → IsExtended (guarded_by (by_names profile) before) (guarded_by (by_names profile) (before ++ line ∷ [])) (guarded_in (by_names profile) line)
extended profile before line =
    let e : IsExtended (guarded_by (by_names profile) before) (each_once (flat_map (guarded_in (by_names profile)) before ++ guarded_in (by_names profile) line)) (guarded_in (by_names profile) line) =
    once_extends (flat_map (guarded_in (by_names profile)) before) (guarded_in (by_names profile) line) in
    record { more = e.more; grown = guarded-push (by_names profile) before line ∙ e.grown; among = e.among }

place_as : (gs : List Guarded) (n : ℕ) (g : Guarded) (key : Key) (own : Data) → AreDistinct gs → slice_get gs n ≡ Some g
    → nat_eq (place_in gs key) n ≡ guarded_same g (record { key = key; own = own })
place_as gs n g key own distinct h =
    same_from_decides (nat_eq (place_in gs key) n) (key_same g.key key) (numbers_decide (place_in gs key) n) (
      λ same. let e : g.key ≡ key = (key_decides g.key key).0 same in ap (place_in gs) (sym e) ∙ own_place gs n g distinct h,
      λ at. (key_decides g.key key).1 (sym ((key_decides key g.key).0 (place_has gs key n g at h))),
    )

entry_marked : (guard : Guard) (gs : List Guarded) (n : ℕ) (g : Guarded) (entry : Data) (key : Option Key) (rest : List Guarded) → AreDistinct gs → slice_get gs n ≡ Some g
    → (is_place (option_map (place_in gs) key) n || list_any (guarded_same g) rest) ≡ list_any (guarded_same g) (cons_option (option_map (λ k. record { key = k; own = guard.own_of entry }) key) rest)
entry_marked guard gs n g entry None rest distinct h = refl
entry_marked guard gs n g entry (Some key) rest distinct h = ap (λ (t : Bool). t || list_any (guarded_same g) rest) (place_as gs n g key (guard.own_of entry) distinct h)

-- a place is marked exactly where its key is that of a guarded resource
marked_as : (guard : Guard) (gs : List Guarded) (n : ℕ) (g : Guarded) (entries : List Data) → AreDistinct gs → slice_get gs n ≡ Some g
    → is_marked (map (place_at guard gs) entries) n ≡ list_any (guarded_same g) (filter_map (guarded_of guard) entries)
marked_as guard gs n g [] distinct h = refl
marked_as guard gs n g (entry ∷ entries) distinct h =
    ap (λ (t : Bool). is_place (place_at guard gs entry) n || t) (marked_as guard gs n g entries distinct h)
    ∙ entry_marked guard gs n g entry (guard.key_of entry) (filter_map (guarded_of guard) entries) distinct h

other_than : (k n : ℕ) → k < n → nat_eq k n ≡ false
other_than k n h = grind arith

not_place : (m n : ℕ) (item : Option ℕ) → m ≤ n → IfSome item (λ (p : ℕ). p < m) → is_place item n ≡ false
not_place m n None le h = refl
not_place m n (Some p) le h = other_than p n (omega (arith, le, h))

-- no place past the end is marked
none_marked : (m n : ℕ) (items : List (Option ℕ)) → m ≤ n → All (λ (item : Option ℕ). IfSome item (λ (p : ℕ). p < m)) items → is_marked items n ≡ false
none_marked m n [] le h = refl
none_marked m n (item ∷ items) le h =
    ap₂ (λ (a b : Bool). a || b) (not_place m n item le (h 0 item (omega arith))) (none_marked m n items le (λ i d k. h (suc i) d (omega arith)))

-- ---- what a line touches

none_passes : (gs : List Guarded) (n : ℕ) → passes_at (λ (g : Guarded). false) gs n ≡ false
none_passes gs n = by (slice_get gs n)
  where
    by : (o : Option Guarded) → unwrap_or (option_map (λ (g : Guarded). false) o) false ≡ false
    by None = refl
    by (Some g) = refl

and_false : (b c : Bool) → c ≡ false → false ≡ (b && c)
and_false true c h = sym h
and_false false c h = refl

named_at : (answers : Answers) (complete : Complete) (gs : List Guarded) (o : Option Resolution) (n : ℕ) → AreComplete answers gs complete
    → stands_named complete.served (option_map (λ (r : Resolution). r.name) o) n ≡ (contains nat_cmp complete.places n && passes_at (λ (g : Guarded). answers_one o g.key) gs n)
named_at answers complete gs None n are = and_false (contains nat_cmp complete.places n) (passes_at (λ (g : Guarded). false) gs n) (none_passes gs n)
named_at answers complete gs (Some r) n are = are.served r.name n

marked_at : (profile : Profile) (line : Data) (gs : List Guarded) (n : ℕ) (items : List (Option ℕ)) → AreDistinct gs → ArePlaces (by_names profile) line gs items → (o : Option Guarded) → slice_get gs n ≡ o
    → is_marked items n ≡ unwrap_or (option_map (λ (g : Guarded). has_guarded profile line g.key) o) false
marked_at profile line gs n items distinct are None h = none_marked (length gs) n items (past_end gs n h) are.within
marked_at profile line gs n items distinct are (Some g) h = ap (λ (ps : List (Option ℕ)). is_marked ps n) are.each ∙ marked_as (by_names profile) gs n g (clusters_in profile line) distinct h

-- a set of the marked places, and of the complete ones under the name that is answered, has what the line touches
pub touched_now : (profile : Profile) (before : List Data) (line : Data) (answers : Answers) (complete : Complete) (items : List (Option ℕ)) (set : BTreeSet ℕ) → ArePlaces (by_names profile) line (guarded_by (by_names profile) (before ++ line ∷ [])) items
    → AreComplete answers (guarded_by (by_names profile) (before ++ line ∷ [])) complete
    → ((n : ℕ) → contains nat_cmp set n ≡ (is_marked items n || stands_named complete.served (option_map (λ (r : Resolution). r.name) (resolution_in line)) n)) → IsTouched profile before line complete.places set
touched_now profile before line answers complete items set are_places are_complete has =
    let gs : List Guarded = guarded_by (by_names profile) (before ++ line ∷ []) in
    record {
      exactly = λ n.
          has n ∙ ap₂ (λ (a b : Bool). a || b)
          (marked_at profile line gs n items (once_distinct (flat_map (guarded_in (by_names profile)) (before ++ line ∷ []))) are_places (slice_get gs n) refl)
          (named_at answers complete gs (resolution_in line) n are_complete);
    }

-- ---- what is due

same_due : (m : ℕ) (gs : List Guarded) (p q : ℕ × Guarded → Bool) → ((i : ℕ) (g : Guarded) → slice_get gs i ≡ Some g → p (m + i, g) ≡ q (m + i, g)) → filter p (enumerate_from m gs) ≡ filter q (enumerate_from m gs)
same_due m [] p q h = refl
same_due m (g ∷ gs) p q h =
    let here : m + 0 ≡ m = omega arith in
    let first : p (m, g) ≡ q (m, g) = subst (λ (k : ℕ). p (k, g) ≡ q (k, g)) here (h 0 g refl) in
    let rest : filter p (enumerate_from (m + 1) gs) ≡ filter q (enumerate_from (m + 1) gs) =
    same_due (m + 1) gs p q (λ i x k. let e : m + suc i ≡ m + 1 + i = omega arith in subst (λ (j : ℕ). p (j, x) ≡ q (j, x)) e (h (suc i) x k)) in
    λ j. cond (first j) ((m, g) ∷ rest j) (rest j)

touched_cause : (h c a : Bool) → ((h || (c && a)) && c) ≡ (c && ((false || h) || a))
touched_cause true true a = refl
touched_cause true false a = refl
touched_cause false true true = refl
touched_cause false true false = refl
touched_cause false false a = refl

all_cause : (c : Bool) → (c && c) ≡ (c && true)
all_cause true = refl
all_cause false = refl

-- what makes a look at a set find what is due
cause_at : (profile : Profile) (before : List Data) (line : Data) (answers : Answers) (complete : Complete) (touched : BTreeSet ℕ) (w : Bool) (n : ℕ) (g : Guarded) → AreAnswers answers (before ++ line ∷ [])
    → AreComplete answers (guarded_by (by_names profile) (before ++ line ∷ [])) complete → IsTouched profile before line complete.places touched → slice_get (guarded_by (by_names profile) (before ++ line ∷ [])) n ≡ Some g
    → is_sent w (contains nat_cmp touched) (contains nat_cmp complete.places) n ≡ (is_complete (before ++ line ∷ []) g.key && (not w || has_guarded profile line g.key || answers_name line g.key))
cause_at profile before line answers complete touched w n g are are_complete is_touched here =
    by w
  where
    gs : List Guarded
    gs = guarded_by (by_names profile) (before ++ line ∷ [])

    c : contains nat_cmp complete.places n ≡ is_complete (before ++ line ∷ []) g.key
    c = are_complete.places n ∙ complete_here answers (guarded_by (by_names profile) (before ++ line ∷ [])) n g here ∙ complete_as answers (before ++ line ∷ []) g.key are

    passes : (test : Guarded → Bool) → passes_at test (guarded_by (by_names profile) (before ++ line ∷ [])) n ≡ test g
    passes test = ap (λ (o : Option Guarded). unwrap_or (option_map test o) false) here

    by : (w : Bool) → is_sent w (contains nat_cmp touched) (contains nat_cmp complete.places) n ≡ (is_complete (before ++ line ∷ []) g.key && (not w || has_guarded profile line g.key || answers_name line g.key))
    by true =
        (λ i. (is_touched.exactly n i) && c i)
        ∙ (λ i. (passes (λ (x : Guarded). has_guarded profile line x.key) i || (c i && passes (λ (x : Guarded). answers_name line x.key) i)) && is_complete (before ++ line ∷ []) g.key)
        ∙ touched_cause (has_guarded profile line g.key) (is_complete (before ++ line ∷ []) g.key) (answers_name line g.key)
    by false = (λ i. c i && c i) ∙ all_cause (is_complete (before ++ line ∷ []) g.key)

abbrev due_with : (profile : Profile) (before : List Data) (line : Data) (s w : Bool) → ℕ × Guarded → Bool
due_with profile before line s w p = s && is_complete (before ++ line ∷ []) p.1.key && ((s && not w) || has_guarded profile line p.1.key || answers_name line p.1.key)

found_with : (profile : Profile) (before : List Data) (line : Data) (answers : Answers) (complete : Complete) (touched : BTreeSet ℕ) (s w : Bool) → AreAnswers answers (before ++ line ∷ [])
    → AreComplete answers (guarded_by (by_names profile) (before ++ line ∷ [])) complete → IsTouched profile before line complete.places touched
    → due_found answers (guarded_by (by_names profile) (before ++ line ∷ [])) s w (contains nat_cmp touched) (contains nat_cmp complete.places)
    ≡ map (λ (p : ℕ × Guarded). due_parts answers p.0 p.1.key) (filter (due_with profile before line s w) (enumerate_from 0 (guarded_by (by_names profile) (before ++ line ∷ []))))
found_with profile before line answers complete touched false w are are_complete is_touched =
    sym (ap (map (λ (p : ℕ × Guarded). due_parts answers p.0 p.1.key)) (none_left (due_with profile before line false w) (enumerate_from 0 (guarded_by (by_names profile) (before ++ line ∷ []))) (λ p. refl)))
found_with profile before line answers complete touched true w are are_complete is_touched =
    let zero_first : (i : ℕ) → 0 + i ≡ i = λ i. omega arith in
    let sent : ℕ → Bool = is_sent w (contains nat_cmp touched) (contains nat_cmp complete.places) in
    ap (map (λ (p : ℕ × Guarded). due_parts answers p.0 p.1.key))
    (same_due 0 (guarded_by (by_names profile) (before ++ line ∷ [])) (λ (p : ℕ × Guarded). sent p.0) (due_with profile before line true w)
    (λ i g h. ap sent (zero_first i) ∙ cause_at profile before line answers complete touched w i g are are_complete is_touched h))

-- a look finds what is due at the line
pub due_now : (profile : Profile) (before : List Data) (line : Data) (answers : Answers) (complete : Complete) (touched : BTreeSet ℕ) (s w : Bool) → s ≡ stream_at profile (before ++ line ∷ []) → w ≡ stream_at profile before
    → AreAnswers answers (before ++ line ∷ []) → AreComplete answers (guarded_by (by_names profile) (before ++ line ∷ [])) complete → IsTouched profile before line complete.places touched
    → due_found answers (guarded_by (by_names profile) (before ++ line ∷ [])) s w (contains nat_cmp touched) (contains nat_cmp complete.places) ≡ due_at (dns_rules profile) (front_of before line)
due_now profile before line answers complete touched s w now was are are_complete is_touched =
    found_with profile before line answers complete touched s w are are_complete is_touched
    ∙ (λ i. map (λ (p : ℕ × Guarded). record { place = p.0; endpoints = Some (endpoints_tree (hosts_with (λ name. are.addresses name i) p.1.key)) })
    (filter (due_with profile before line (now i) (was i)) (enumerate_from 0 (guarded_by (by_names profile) (before ++ line ∷ [])))))
