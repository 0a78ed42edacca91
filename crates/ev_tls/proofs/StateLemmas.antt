-- What is known after one line more.
use Rattle.std.proofs.Common.{◌≡◌, ℕ, suc, ◌+◌, ◌<◌, ◌≤◌, ◌⊎◌, inl, inr, Bool, true, false, not, cond, ◌&&◌, ◌||◌, List, [], ◌∷◌, ◌++◌, length, map, filter, filter_map, flat_map, Option, Some, None, option_map, option_and_then, unwrap_or, nat_eq, refl, sym, ap, ap₂, ◌∙◌, subst, arith, length-append}
use Rattle.std.specs.Prelude.{slice_get}
use Rattle.std.specs.List.{list_any, list_all, last_or, enumerate_from, cons_option}
use Rattle.std.proofs.Math.Bool.{or-true}
use Rattle.std.proofs.lemmas.Bool.{cases_lt}
use Rattle.std.proofs.lemmas.Bool.Decides.{same_from_decides}
use Rattle.std.proofs.lemmas.List.{append-nil}
use Rattle.std.proofs.lemmas.List.Elements.{filter_map-append}
use Rattle.std.proofs.lemmas.List.Folds.{list_any-append}
use Rattle.std.proofs.lemmas.Grind.{flat_map-append}
use Rattle.std.proofs.lemmas.Option.{slice_get_past}
use Rattle.serde_json.specs.Data.{Data}
use Rattle.ev_types.specs.Same.{numbers_decide}
use Rattle.ev_types.specs.declared.clusters.Discovery.{Discovery}
use Rattle.ev_types.specs.declared.clusters.Discovery.TheVariants.{Static, Eds, Elsewhere}
use Rattle.ev_types.specs.declared.events.Event.{Event}
use Rattle.ev_types.specs.declared.events.Profile.{Profile}
use Rattle.ev_expand.specs.declared.keys.Key.{Key}
use Rattle.ev_expand.specs.Keys.{key_same, key_decides}
use Rattle.ev_expand.specs.Expanding.{due_at}
use Rattle.ev_expand.specs.Fronts.{event_of, stream_said, stream_at, opens, heard}
use Rattle.ev_expand.specs.Growing.{front_of}
use Rattle.ev_expand.specs.Guarding.{Guard, Guarded, guarded_same, guarded_of, guarded_in, guarded_by, each_once, clusters_in, place_in, place_at}
use Rattle.ev_expand.proofs.FrontLemmas.{heard-push}
use Rattle.ev_expand.proofs.NumberLemmas.{guarded-push}
use Rattle.ev_expand.proofs.DistinctLemmas.{AreDistinct, IsExtended, once_distinct, once_extends, own_place, place_has, first_get, behind_get}
use Rattle.ev_tls.specs.declared.awaited.Awaited.{Awaited}
use Rattle.ev_tls.specs.declared.known.Told.{Told}
use Rattle.ev_tls.specs.declared.known.Values.{Values}
use Rattle.ev_tls.specs.declared.secrets.Secrets.{Secrets}
use Rattle.ev_tls.specs.Awaited.{awaited_same, awaited_by, services_of}
use Rattle.ev_tls.specs.Known.{has_told, shown_value, later_value, gives_to, AddsAll}
use Rattle.ev_tls.specs.Hearing.{heard_now, open_after}
use Rattle.ev_tls.specs.Looking.{Marks, due_among, due_by, due_parts, endpoints_with, is_awake}
use Rattle.ev_tls.specs.Marking.{is_place, is_marked}
use Rattle.ev_tls.specs.References.{by_secrets}
use Rattle.ev_tls.specs.State.{HasHeard}
use Rattle.ev_tls.specs.Sealing.{tls_rules, is_due, endpoints_by, has_guarded, gives_name, gives_endpoints}
use Rattle.ev_tls.specs.Told.{told_by, is_told, is_complete, values_in, value_of}
use Rattle.ev_tls.specs.Waiting.{completed, complete_at, Grows}
use Rattle.ev_tls.proofs.KnownLemmas.{last-append, later-append}

-- ---- the stream

stream_step : (l o : Option Bool) → unwrap_or o (unwrap_or l false) ≡ unwrap_or (last_or l (cons_option o [])) false
stream_step l None = refl
stream_step l (Some v) = refl

pub stream_now : (profile : Profile) (before : List Data) (line : Data) → open_after (stream_at profile before) (event_of profile line) ≡ stream_at profile (before ++ line ∷ [])
stream_now profile before line =
    let said : Data → Option Bool = λ l. option_and_then stream_said (event_of profile l) in
    stream_step (last_or None (filter_map said before)) (said line)
    ∙ sym (ap (λ (o : Option Bool). unwrap_or o false) (ap (last_or None) (filter_map-append said before (line ∷ [])) ∙ last-append None (filter_map said before) (cons_option (said line) [])))

-- ---- what was reported, and values

pub told_now : (profile : Profile) (before : List Data) (line : Data) (a : Awaited)
    → is_told profile (before ++ line ∷ []) a ≡ (is_told profile before a || list_any (awaited_same a) (flat_map (told_by profile) (heard_now (stream_at profile (before ++ line ∷ [])) line)))
told_now profile before line a =
    ap (λ (ls : List Data). list_any (awaited_same a) (flat_map (told_by profile) ls)) (heard-push profile before line)
    ∙ ap (list_any (awaited_same a)) (flat_map-append (told_by profile) (heard profile before) (heard_now (stream_at profile (before ++ line ∷ [])) line))
    ∙ list_any-append (awaited_same a) (flat_map (told_by profile) (heard profile before)) (flat_map (told_by profile) (heard_now (stream_at profile (before ++ line ∷ [])) line))

pub value_now : (profile : Profile) (before : List Data) (line : Data) (name : List ℕ)
    → value_of profile (before ++ line ∷ []) name ≡ later_value name (value_of profile before name) (flat_map (values_in profile) (heard_now (stream_at profile (before ++ line ∷ [])) line))
value_now profile before line name =
    ap (λ (ls : List Data). later_value name None (flat_map (values_in profile) ls)) (heard-push profile before line)
    ∙ ap (later_value name None) (flat_map-append (values_in profile) (heard profile before) (heard_now (stream_at profile (before ++ line ∷ [])) line))
    ∙ later-append name None (flat_map (values_in profile) (heard profile before)) (flat_map (values_in profile) (heard_now (stream_at profile (before ++ line ∷ [])) line))

-- ---- what is complete

pub all_same : {A : Type 0} (p q : A → Bool) (xs : List A) → ((x : A) → p x ≡ q x) → list_all p xs ≡ list_all q xs
all_same p q [] h = refl
all_same p q (x ∷ xs) h = ap₂ (λ (a b : Bool). a && b) (h x) (all_same p q xs h)

pub any_same : {A : Type 0} (p q : A → Bool) (xs : List A) → ((x : A) → p x ≡ q x) → list_any p xs ≡ list_any q xs
any_same p q [] h = refl
any_same p q (x ∷ xs) h = ap₂ (λ (a b : Bool). a || b) (h x) (any_same p q xs h)

pub map_same : {A B : Type 0} (f g : A → B) (xs : List A) → ((x : A) → f x ≡ g x) → map f xs ≡ map g xs
map_same f g [] h = refl
map_same f g (x ∷ xs) h = ap₂ (λ y ys. y ∷ ys) (h x) (map_same f g xs h)

pub completed_as : (profile : Profile) (lines : List Data) (told : Told) (g : Guarded) → ((a : Awaited) → has_told told a ≡ is_told profile lines a) → completed told g ≡ is_complete profile lines g.key
completed_as profile lines told g h = all_same (has_told told) (is_told profile lines) (awaited_by g.key) h

-- ---- what is due

place_as : (gs : List Guarded) (n : ℕ) (g : Guarded) (key : Key) (own : Data) → AreDistinct gs → slice_get gs n ≡ Some g
    → nat_eq (place_in gs key) n ≡ guarded_same g (record { key = key; own = own })
place_as gs n g key own distinct h =
    same_from_decides (nat_eq (place_in gs key) n) (key_same g.key key) (numbers_decide (place_in gs key) n) (
      λ same. let e : g.key ≡ key = (key_decides g.key key).0 same in ap (place_in gs) (sym e) ∙ own_place gs n g distinct h,
      λ at. (key_decides g.key key).1 (sym ((key_decides key g.key).0 (place_has gs key n g at h))),
    )

entry_marked : (guard : Guard) (gs : List Guarded) (n : ℕ) (g : Guarded) (entry : Data) (key : Option Key) (rest : List Guarded) → AreDistinct gs → slice_get gs n ≡ Some g
    → (is_place (option_map (place_in gs) key) n || list_any (guarded_same g) rest) ≡ list_any (guarded_same g) (cons_option (option_map (λ k. record { key = k; own = guard.own_of entry }) key) rest)
entry_marked guard gs n g entry None rest distinct h = refl
entry_marked guard gs n g entry (Some key) rest distinct h = ap (λ (t : Bool). t || list_any (guarded_same g) rest) (place_as gs n g key (guard.own_of entry) distinct h)

-- a place is marked exactly where its key is that of a guarded resource
marked_as : (guard : Guard) (gs : List Guarded) (n : ℕ) (g : Guarded) (entries : List Data) → AreDistinct gs → slice_get gs n ≡ Some g
    → is_marked (map (place_at guard gs) entries) n ≡ list_any (guarded_same g) (filter_map (guarded_of guard) entries)
marked_as guard gs n g [] distinct h = refl
marked_as guard gs n g (entry ∷ entries) distinct h =
    ap (λ (t : Bool). is_place (place_at guard gs entry) n || t) (marked_as guard gs n g entries distinct h)
    ∙ entry_marked guard gs n g entry (guard.key_of entry) (filter_map (guarded_of guard) entries) distinct h

joined : (o i w v h k e : Bool) → (i || w) ≡ (h || k) → v ≡ e → (o || i || w || v) ≡ (o || h || k || e)
joined true i w v h k e same last = refl
joined false i w v h k e same last = ap₂ (λ (a b : Bool). a || b) same last

both_sides : (s c x y : Bool) → (s ≡ true → x ≡ y) → (s && c && x) ≡ (s && c && y)
both_sides true c x y h = ap (λ (t : Bool). c && t) (h refl)
both_sides false c x y h = refl

-- what was complete before, by a test
abbrev was_by : (Guarded → Bool) → List Guarded → ℕ → Bool
was_by f old n = unwrap_or (option_map f (slice_get old n)) false

was_at : (old : List Guarded) (n : ℕ) (f : Guarded → Bool) (o : Option Guarded) → slice_get old n ≡ o → was_by f old n ≡ unwrap_or (option_map f o) false
was_at old n f o h = ap (λ (x : Option Guarded). unwrap_or (option_map f x) false) h

either_place : (old more new : List Guarded) (n : ℕ) (g : Guarded) (f : Guarded → Bool) (m : Bool) → m ≡ list_any (guarded_same g) new → slice_get (old ++ more) n ≡ Some g
    → ((i : ℕ) (x : Guarded) → slice_get more i ≡ Some x → list_any (guarded_same x) new ≡ true) → (n < length old) ⊎ (length old ≤ n)
    → (m || not (was_by f old n)) ≡ (list_any (guarded_same g) new || not (f g))
either_place old more new n g f m marked here among (inl within) =
    ap₂ (λ (a b : Bool). a || not b) marked (was_at old n f (Some g) (sym (first_get old more n within) ∙ here))
either_place old more new n g f m marked here among (inr past) =
    let there = behind_get old more n g past here in
    let fresh : list_any (guarded_same g) new ≡ true = among there.0 g there.1 in
    ap (λ (b : Bool). m || not b) (was_at old n f None (slice_get_past old n past)) ∙ or-true m ∙ sym (ap (λ (b : Bool). b || not (f g)) fresh)

-- a cause by a resource or by what was not complete before
cause_as : (profile : Profile) (before : List Data) (line : Data) (n : ℕ) (g : Guarded) → slice_get (guarded_by (by_secrets profile) (before ++ line ∷ [])) n ≡ Some g
    → (is_marked (map (place_at (by_secrets profile) (guarded_by (by_secrets profile) (before ++ line ∷ []))) (clusters_in profile line)) n
    || not (was_by (λ (g : Guarded). is_complete profile before g.key) (guarded_by (by_secrets profile) before) n))
    ≡ (has_guarded profile line g.key || not (is_complete profile before g.key))
cause_as profile before line n g h =
    let old : List Guarded = guarded_by (by_secrets profile) before in
    let all : List Guarded = guarded_by (by_secrets profile) (before ++ line ∷ []) in
    let f : Guarded → Bool = λ (x : Guarded). is_complete profile before x.key in
    let extended : IsExtended old (each_once (flat_map (guarded_in (by_secrets profile)) before ++ guarded_in (by_secrets profile) line)) (guarded_in (by_secrets profile) line) = once_extends (flat_map (guarded_in (by_secrets profile)) before) (guarded_in (by_secrets profile) line) in
    let grown : all ≡ old ++ extended.more = guarded-push (by_secrets profile) before line ∙ extended.grown in
    let distinct : AreDistinct all = once_distinct (flat_map (guarded_in (by_secrets profile)) (before ++ line ∷ [])) in
    let marked : is_marked (map (place_at (by_secrets profile) all) (clusters_in profile line)) n ≡ has_guarded profile line g.key = marked_as (by_secrets profile) all n g (clusters_in profile line) distinct h in
    let here : slice_get (old ++ extended.more) n ≡ Some g = subst (λ (gs : List Guarded). slice_get gs n ≡ Some g) grown h in
    either_place old extended.more (guarded_in (by_secrets profile) line) n g f _ marked here extended.among (cases_lt n (length old))

given_true : (profile : Profile) (b : Bool) (line : Data) (name : List ℕ) → b ≡ true → gives_to name (flat_map (values_in profile) (heard_now b line)) ≡ gives_name profile line name
given_true profile true line name h = ap (gives_to name) (append-nil (values_in profile line))
given_true profile false line name h = absurd (cc)

-- what makes the marks of a look those of a line
pub record AreMarksOf (profile : Profile) (before : List Data) (line : Data) (marks : Marks) : Type 0 where
  pub stream : marks.connected ≡ stream_at profile (before ++ line ∷ [])
  pub opening : marks.opened ≡ opens profile (front_of before line)
  pub had : (n : ℕ) → marks.was n ≡ was_by (λ (g : Guarded). is_complete profile before g.key) (guarded_by (by_secrets profile) before) n
  pub now : (n : ℕ) (g : Guarded) → slice_get (guarded_by (by_secrets profile) (before ++ line ∷ [])) n ≡ Some g → marks.now n ≡ is_complete profile (before ++ line ∷ []) g.key
  pub marked : (n : ℕ) → marks.items n ≡ is_marked (map (place_at (by_secrets profile) (guarded_by (by_secrets profile) (before ++ line ∷ []))) (clusters_in profile line)) n
  pub values : (name : List ℕ) → marks.given name ≡ gives_to name (flat_map (values_in profile) (heard_now (stream_at profile (before ++ line ∷ [])) line))

due_as : (profile : Profile) (before : List Data) (line : Data) (marks : Marks) (n : ℕ) (g : Guarded) → AreMarksOf profile before line marks
    → slice_get (guarded_by (by_secrets profile) (before ++ line ∷ [])) n ≡ Some g → due_by marks (n, g) ≡ is_due profile (front_of before line) g
due_as profile before line marks n g are at =
    ap₂ (λ (s c : Bool). s && c && is_awake marks n g.key) are.stream (are.now n g at)
    ∙ both_sides (stream_at profile (before ++ line ∷ [])) (is_complete profile (before ++ line ∷ []) g.key) _ _
    (λ connected.
    let cause = ap₂ (λ (i w : Bool). i || not w) (are.marked n) (are.had n) ∙ cause_as profile before line n g at in
    ap (λ (o : Bool). o || marks.items n || not (marks.was n) || list_any marks.given (services_of g.key.cluster.discovery)) are.opening
    ∙ joined (opens profile (front_of before line)) (marks.items n) (not (marks.was n)) _ (has_guarded profile line g.key) (not (is_complete profile before g.key)) (gives_endpoints profile line g.key) cause
    (any_same marks.given (gives_name profile line) (services_of g.key.cluster.discovery) (λ name. are.values name ∙ given_true profile (stream_at profile (before ++ line ∷ [])) line name connected)))

same_due : (m : ℕ) (gs : List Guarded) (p q : ℕ × Guarded → Bool) → ((i : ℕ) (g : Guarded) → slice_get gs i ≡ Some g → p (m + i, g) ≡ q (m + i, g)) → filter p (enumerate_from m gs) ≡ filter q (enumerate_from m gs)
same_due m [] p q h = refl
same_due m (g ∷ gs) p q h =
    let here : m + 0 ≡ m = omega arith in
    let first : p (m, g) ≡ q (m, g) = subst (λ (k : ℕ). p (k, g) ≡ q (k, g)) here (h 0 g refl) in
    let rest : filter p (enumerate_from (m + 1) gs) ≡ filter q (enumerate_from (m + 1) gs) =
    same_due (m + 1) gs p q (λ i x k. let e : m + suc i ≡ m + 1 + i = omega arith in subst (λ (j : ℕ). p (j, x) ≡ q (j, x)) e (h (suc i) x k)) in
    λ j. cond (first j) ((m, g) ∷ rest j) (rest j)

endpoints_as : (profile : Profile) (lines : List Data) (values : Values) (discovery : Discovery) (g : Guarded) → ((name : List ℕ) → shown_value values name ≡ value_of profile lines name)
    → endpoints_with values discovery g.own ≡ endpoints_by profile discovery lines g
endpoints_as profile lines values (Static rows) g h = refl
endpoints_as profile lines values (Eds service limited fresh) g h = h service
endpoints_as profile lines values Elsewhere g h = refl

-- a look finds what is due at the line
pub due_found : (profile : Profile) (before : List Data) (line : Data) (values : Values) (marks : Marks) (gs : List Guarded) → ((name : List ℕ) → shown_value values name ≡ value_of profile (before ++ line ∷ []) name)
    → AreMarksOf profile before line marks → gs ≡ guarded_by (by_secrets profile) (before ++ line ∷ []) → due_among marks values (enumerate_from 0 gs) ≡ due_at (tls_rules profile) (front_of before line)
due_found profile before line values marks gs k are kept =
    let all : List Guarded = guarded_by (by_secrets profile) (before ++ line ∷ []) in
    let P : ℕ × Guarded → Bool = λ (p : ℕ × Guarded). is_due profile (front_of before line) p.1 in
    ap (λ (xs : List Guarded). due_among marks values (enumerate_from 0 xs)) kept
    ∙ map_same (due_parts values) (λ (p : ℕ × Guarded). record { place = p.0; endpoints = endpoints_by profile p.1.key.cluster.discovery (before ++ line ∷ []) p.1 }) (filter (due_by marks) (enumerate_from 0 all))
    (λ p. ap (λ (e : Option Data). record { place = p.0; endpoints = e }) (endpoints_as profile (before ++ line ∷ []) values p.1.key.cluster.discovery p.1 k))
    ∙ ap (map (λ (p : ℕ × Guarded). record { place = p.0; endpoints = endpoints_by profile p.1.key.cluster.discovery (before ++ line ∷ []) p.1 }))
    (same_due 0 all (due_by marks) P (λ i g at. let e : 0 + i ≡ i = omega arith in subst (λ (n : ℕ). due_by marks (n, g) ≡ is_due profile (front_of before line) g) (sym e) (due_as profile before line marks i g are at)))

-- what a test of what is complete says of a place, by what was reported
pub was_as : (profile : Profile) (lines : List Data) (told : Told) (gs : List Guarded) (n : ℕ) → ((a : Awaited) → has_told told a ≡ is_told profile lines a)
    → complete_at told gs n ≡ was_by (λ (g : Guarded). is_complete profile lines g.key) gs n
was_as profile lines told gs n h = by (slice_get gs n)
  where
    by : (o : Option Guarded) → unwrap_or (option_map (completed told) o) false ≡ unwrap_or (option_map (λ (g : Guarded). is_complete profile lines g.key) o) false
    by None = refl
    by (Some g) = completed_as profile lines told g h

-- what is guarded after one line more comes after the others
pub guarded_grows : (profile : Profile) (before : List Data) (line : Data) (all : List Guarded) → all ≡ guarded_by (by_secrets profile) (before ++ line ∷ []) → Grows (guarded_by (by_secrets profile) before) all
guarded_grows profile before line all kept =
    let old : List Guarded = guarded_by (by_secrets profile) before in
    let extended : IsExtended old (each_once (flat_map (guarded_in (by_secrets profile)) before ++ guarded_in (by_secrets profile) line)) (guarded_in (by_secrets profile) line) = once_extends (flat_map (guarded_in (by_secrets profile)) before) (guarded_in (by_secrets profile) line) in
    let grown : all ≡ old ++ extended.more = kept ∙ guarded-push (by_secrets profile) before line ∙ extended.grown in
    record {
      longer = let l : length all ≡ length old + length extended.more = ap length grown ∙ length-append old extended.more in omega (arith, l);
      first = λ n within. ap (λ (xs : List Guarded). slice_get xs n) grown ∙ first_get old extended.more n within;
    }

-- what is known after one line more, by what it reported and gave
pub record Hears (profile : Profile) (before : List Data) (line : Data) (connected : Bool) (gave : List (List ℕ × Data)) (told : Told) (values : Values) : Type 0 where
  pub stream : connected ≡ stream_at profile (before ++ line ∷ [])
  pub given : gave ≡ flat_map (values_in profile) (heard_now (stream_at profile (before ++ line ∷ [])) line)
  pub tells : (a : Awaited) → has_told told a ≡ is_told profile (before ++ line ∷ []) a
  pub shows : (name : List ℕ) → shown_value values name ≡ value_of profile (before ++ line ∷ []) name

pub hears : (profile : Profile) (before : List Data) (line : Data) (s : Secrets) (event : Option Event) (connected : Bool) (heard : List Awaited) (gave : List (List ℕ × Data)) (told : Told) (values : Values)
    → HasHeard profile s before → event ≡ event_of profile line → connected ≡ open_after s.connected event → heard ≡ flat_map (told_by profile) (heard_now connected line) → gave ≡ flat_map (values_in profile) (heard_now connected line)
    → AddsAll s.told told heard → ((name : List ℕ) → shown_value values name ≡ later_value name (shown_value s.values name) gave) → Hears profile before line connected gave told values
hears profile before line s event connected heard gave told values behind read opened telling giving adds later =
    let stream : connected ≡ stream_at profile (before ++ line ∷ []) = opened ∙ (λ i. open_after (behind.stream i) (read i)) ∙ stream_now profile before line in
    let said : heard ≡ flat_map (told_by profile) (heard_now (stream_at profile (before ++ line ∷ [])) line) = telling ∙ ap (λ (b : Bool). flat_map (told_by profile) (heard_now b line)) stream in
    let given : gave ≡ flat_map (values_in profile) (heard_now (stream_at profile (before ++ line ∷ [])) line) = giving ∙ ap (λ (b : Bool). flat_map (values_in profile) (heard_now b line)) stream in
    record {
      stream = stream;
      given = given;
      tells = λ a. adds a ∙ (λ i. behind.told a i || list_any (awaited_same a) (said i)) ∙ sym (told_now profile before line a);
      shows = λ name. later name ∙ (λ i. later_value name (behind.values name i) (given i)) ∙ sym (value_now profile before line name);
    }
