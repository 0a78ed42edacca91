-- The verdicts by look-ups are the verdicts over what is live:
-- what is live after some resources follows from what was known before the response and from what the response made.
use Rattle.std.proofs.Common.{◌≡◌, ℕ, ◌+◌, ◌≤◌, Bool, true, false, ◌&&◌, ◌||◌, not, cond, List, [], ◌∷◌, ◌++◌, append-nil, append_assoc, filter, map, length, length-append, Option, Some, None, Result, Ok, Err, refl, ap, sym, subst, ◌∙◌, arith}
use Rattle.std.specs.Prelude.{nat_le}
use Rattle.std.specs.List.{list_any}
use Rattle.std.specs.Option.{unwrap_or}
use Rattle.std.specs.Result.{IfOk}
use Rattle.std.specs.Str.{bytes_eq}
use Rattle.std.proofs.lemmas.Grind.{common_steps}
use Rattle.std.proofs.lemmas.Bool.{false≢true}
use Rattle.std.proofs.lemmas.Cmp.{nat_list_eq_equiv}
use Rattle.std.proofs.lemmas.List.{map-append}
use Rattle.std.proofs.lemmas.List.Elements.{filter-append}
use Rattle.std.proofs.lemmas.List.Folds.{list_any-append}
use Rattle.std.proofs.lemmas.Slice.Eq.{bytes_eq-Decides}
use Rattle.ev_types.specs.Items.{ItemParts, ResponseParts}
use Rattle.ev_types.specs.Kinds.{kind_same, is_by_name}
use Rattle.ev_types.specs.declared.contents.Kind.{Kind}
use Rattle.ev_types.specs.declared.contents.Kind.TheVariants.{Cds, Eds, Lds, Rds, Sds, Ecds}
use Rattle.ev_types.specs.declared.contents.Body.{Body}
use Rattle.ev_types.specs.declared.contents.Body.TheVariants.{Good, Bad, Beat}
use Rattle.ev_types.specs.declared.contents.Content.{Content}
use Rattle.ev_types.specs.declared.events.Verdict.{Verdict}
use Rattle.ev_types.specs.declared.events.Verdict.TheVariants.{New, InPlace, Back, Same, Kept, Unasked, Renewed, Refused}
use Rattle.ev_types.specs.declared.hosts.SocketAddress.{SocketAddress}
use Rattle.ev_types.specs.declared.rows.KeptVersion.{KeptVersion}
use Rattle.ev_types.specs.declared.rows.Live.{Live}
use Rattle.ev_model.specs.Live.{is_named, latest, newest_of}
use Rattle.ev_model.specs.Verdicts.{against, body_verdict, good_verdict, is_among, is_heard, is_removed, items_named, lesser, lives_after, lives_left, listening_address, number_after, removed_rule, form_rule, rule_of, shares_address, stale_rule, twice_rule, verdict_by, verdict_of, verdicts_by, verdicts_for, verdicts_from, verdicts_of, with_new, without_warming, serving_of, listener_verdict, value_verdict}
use Rattle.ev_model.specs.Watching.{is_watched}
use Rattle.ev_lookups.specs.Lives.{is_at}
use Rattle.ev_verdicts.specs.Known.{Answers, Tells, answers_of}
use Rattle.ev_verdicts.specs.Judged.{MadeKept, all_judged, body_by, good_by, is_heard_by, is_made, is_taken_by, judged, made_by, names_at, rule_by, ruled, stale_by, stays, with_made}
use Rattle.ev_verdicts.proofs.ListLemmas.{any_filter, any_same, any_of_none, filter_within, find_within, find_before, all_kept}

-- what is live now, by what was known before the response and what it made
record Follows (answers : Answers) (kind : Kind) (response : ResponseParts) (made : MadeKept) (now : List Live) : Type 0 where
  pub newest : (name : List ℕ) → is_made made name ≡ false → is_removed response name ≡ false → newest_of now kind name ≡ answers.newest kind name
  pub serving : (name : List ℕ) → is_removed response name ≡ false → serving_of now kind name ≡ answers.serving kind name
  pub holders : (address : SocketAddress) (test : Kind → List ℕ → Bool → Bool)
      → list_any (λ (live : Live). is_at address live && test live.kind live.name live.warming) now
      ≡ (list_any (λ (live : Live). stays kind response made live && test live.kind live.name live.warming) (answers.holders address)
      || list_any (λ name. test kind name true) (names_at address made))
  pub watched : is_by_name kind ≡ true → (name : List ℕ) → is_watched now kind name ≡ answers.watched kind name

and_right : (a b : Bool) → a && b ≡ true → b ≡ true
and_right true b both = both
and_right false b both = absurd (false≢true both)

and_left : (a b : Bool) → a && b ≡ true → a ≡ true
and_left true b both = refl
and_left false b both = absurd (false≢true both)

or_left : (a b : Bool) → a || b ≡ false → a ≡ false
or_left true b none = none
or_left false b none = refl

or_right : (a b : Bool) → a || b ≡ false → b ≡ false
or_right true true none = none
or_right true false none = refl
or_right false b none = none

or_none : (a : Bool) → a || false ≡ a
or_none true = refl
or_none false = refl

and_none : (a : Bool) → a && false ≡ false
and_none true = refl
and_none false = refl

-- it serves the name
abbrev serves : Kind → List ℕ → Live → Bool
serves kind name live = is_named kind name live && not live.warming

-- a name that is equal to another isn't equal to a third that the other isn't equal to
other_name : (x q name : List ℕ) → bytes_eq x q ≡ true → bytes_eq name q ≡ false → bytes_eq x name ≡ false
other_name x q name is isnt = nat_list_eq_equiv.congr x q name is ∙ nat_list_eq_equiv.symm q name ∙ isnt

-- a generation of a name that the response doesn't remove stays
not_removed : (kind : Kind) (response : ResponseParts) (name : List ℕ) (live : Live) → is_removed response name ≡ false
    → is_named kind name live ≡ true → not (kind_same live.kind kind && is_removed response live.name) ≡ true
not_removed kind response name live kept named =
    let is : live.name ≡ name = (bytes_eq-Decides live.name name).0 (and_right (kind_same live.kind kind) (bytes_eq live.name name) named) in
    ap (λ b. not (kind_same live.kind kind && b)) (ap (is_removed response) is ∙ kept)
    ∙ ap not (and_none (kind_same live.kind kind))

left_pointwise : (at k r w t : Bool) → not (k && r) && (at && t) ≡ (at && (not (k && (r || (w && false))) && t))
left_pointwise true true true w t = refl
left_pointwise true true false true t = refl
left_pointwise true true false false t = refl
left_pointwise true false r w t = refl
left_pointwise false true true w t = refl
left_pointwise false true false w t = refl
left_pointwise false false r w t = refl

apart_stays : (kind : Kind) (response : ResponseParts) (live : Live) → kind_same live.kind kind ≡ false → not (kind_same live.kind kind && is_removed response live.name) ≡ true
apart_stays kind response live apart = ap (λ b. not (b && is_removed response live.name)) apart

-- before the first resource
follows_first : (answers : Answers) (kind : Kind) (response : ResponseParts) (lives : List Live) (versions : List KeptVersion)
    → Tells answers kind lives versions → Follows answers kind response [] (lives_left kind response lives)
follows_first answers kind response lives versions tells = record {
  newest = λ name made removed.
      ap latest (filter_within (is_named kind name) (λ (live : Live). not (kind_same live.kind kind && is_removed response live.name))
      (λ live. not_removed kind response name live removed) lives)
      ∙ sym (tells.newest kind name);
  serving = λ name removed.
      find_within (serves kind name) (λ (live : Live). not (kind_same live.kind kind && is_removed response live.name))
      (λ live passes. not_removed kind response name live removed (and_left (is_named kind name live) (not live.warming) passes)) lives
      ∙ sym (tells.serving kind name);
  holders = λ address test.
      any_filter (λ (live : Live). is_at address live && test live.kind live.name live.warming) (λ (live : Live). not (kind_same live.kind kind && is_removed response live.name)) lives
      ∙ any_same (λ (live : Live). not (kind_same live.kind kind && is_removed response live.name) && (is_at address live && test live.kind live.name live.warming))
      (λ (live : Live). is_at address live && (stays kind response [] live && test live.kind live.name live.warming))
      (λ live. left_pointwise (is_at address live) (kind_same live.kind kind) (is_removed response live.name) live.warming (test live.kind live.name live.warming)) lives
      ∙ sym (any_filter (λ (live : Live). stays kind response [] live && test live.kind live.name live.warming) (is_at address) lives)
      ∙ ap (list_any (λ (live : Live). stays kind response [] live && test live.kind live.name live.warming)) (sym (tells.holders address))
      ∙ sym (or_none (list_any (λ (live : Live). stays kind response [] live && test live.kind live.name live.warming) (answers.holders address)));
  watched = λ by_name name.
      ap (λ ls. is_watched ls kind name)
      (all_kept (λ (live : Live). not (kind_same live.kind kind && is_removed response live.name)) (λ (live : Live). kind_same live.kind kind ≡ false)
      (apart_stays kind response) lives (tells.apart by_name))
      ∙ sym (tells.watched kind name);
}

-- what a new generation leaves of those that were live
abbrev leaves : Kind → List ℕ → Live → Bool
leaves kind name live = not (is_named kind name live && live.warming)

left_by : (n w : Bool) → n ≡ false → not (n && w) ≡ true
left_by n w isnt = ap (λ b. not (b && w)) isnt

-- a generation of another name stays
leaves_other : (kind : Kind) (name q : List ℕ) (live : Live) → bytes_eq name q ≡ false → is_named kind q live ≡ true → leaves kind name live ≡ true
leaves_other kind name q live isnt named =
    left_by (is_named kind name live) live.warming
    (ap (λ b. kind_same live.kind kind && b) (other_name live.name q name (and_right (kind_same live.kind kind) (bytes_eq live.name q) named) isnt)
    ∙ and_none (kind_same live.kind kind))

named_new : (kind : Kind) (name q : List ℕ) (content : Content) (number : ℕ) → bytes_eq name q ≡ false
    → filter (is_named kind q) (record { kind = kind; number = number; name = name; content = content; warming = true } ∷ []) ≡ []
named_new kind name q content number isnt =
    let is : kind_same kind kind && bytes_eq name q ≡ false = ap (λ b. kind_same kind kind && b) isnt ∙ and_none (kind_same kind kind) in
    simp (is) refl

-- the newest generation of another name is as before
newest_with : (kind : Kind) (name q : List ℕ) (content : Content) (now : List Live) → bytes_eq name q ≡ false
    → newest_of (with_new kind name content now) kind q ≡ newest_of now kind q
newest_with kind name q content now isnt =
    let new : Live = record { kind = kind; number = number_after (latest now); name = name; content = content; warming = true } in
    ap latest
    (filter-append (is_named kind q) (filter (leaves kind name) now) (new ∷ [])
    ∙ (λ i. filter_within (is_named kind q) (leaves kind name) (λ live. leaves_other kind name q live isnt) now i ++ named_new kind name q content (number_after (latest now)) isnt i)
    ∙ append-nil (filter (is_named kind q) now))

-- what serves doesn't warm, so it stays
serves_left : (n w s : Bool) → s && not w ≡ true → not (n && w) ≡ true
serves_left n true true is = absurd (false≢true is)
serves_left n true false is = absurd (false≢true is)
serves_left true false s is = refl
serves_left false false s is = refl

-- who serves a name is as before, once what warms under a name is removed
serving_left : (kind : Kind) (name q : List ℕ) (now : List Live) → serving_of (without_warming kind name now) kind q ≡ serving_of now kind q
serving_left kind name q now =
    find_within (serves kind q) (leaves kind name)
    (λ live. serves_left (is_named kind name live) live.warming (is_named kind q live)) now

never_serves : (n : Bool) → n && false ≡ false
never_serves true = refl
never_serves false = refl

-- and with a new generation
serving_with : (kind : Kind) (name q : List ℕ) (content : Content) (now : List Live)
    → serving_of (with_new kind name content now) kind q ≡ serving_of now kind q
serving_with kind name q content now =
    let new : Live = record { kind = kind; number = number_after (latest now); name = name; content = content; warming = true } in
    find_before (serves kind q) new (never_serves (is_named kind q new)) (without_warming kind name now)
    ∙ serving_left kind name q now

untouched : (k t : Bool) → t && not ((k && false) && true) ≡ t
untouched true true = refl
untouched true false = refl
untouched false true = refl
untouched false false = refl

-- the test, for what a new generation of the name leaves
abbrev left_test : Kind → List ℕ → (Kind → List ℕ → Bool → Bool) → Kind → List ℕ → Bool → Bool
left_test kind name test k n w = test k n w && not ((kind_same k kind && bytes_eq n name) && w)

swap_pointwise : (l at t : Bool) → l && (at && t) ≡ (at && (t && l))
swap_pointwise true true true = refl
swap_pointwise true true false = refl
swap_pointwise true false t = refl
swap_pointwise false true true = refl
swap_pointwise false true false = refl
swap_pointwise false false t = refl

stays_pointwise : (k r w m n t : Bool) → (not (k && (r || (w && m))) && (t && not ((k && n) && w))) ≡ (not (k && (r || (w && (m || n)))) && t)
stays_pointwise k r w m n t = grind (arith, common_steps)

made_names_by : (kind : Kind) (name : List ℕ) (test : Kind → List ℕ → Bool → Bool) (address : SocketAddress) (m : List ℕ × Option SocketAddress) (made : MadeKept) (at : Bool)
    → shares_address m.1 (Some address) ≡ at → bytes_eq m.0 name ≡ false
    → list_any (λ n. left_test kind name test kind n true) (names_at address made) ≡ list_any (λ n. test kind n true) (names_at address made)
    → list_any (λ n. left_test kind name test kind n true) (names_at address (m ∷ made)) ≡ list_any (λ n. test kind n true) (names_at address (m ∷ made))
made_names_by kind name test address m made true is isnt more =
    let one : left_test kind name test kind m.0 true ≡ test kind m.0 true = ap (λ b. test kind m.0 true && not ((kind_same kind kind && b) && true)) isnt ∙ untouched (kind_same kind kind) (test kind m.0 true) in
    simp (is) (λ i. one i || more i)
made_names_by kind name test address m made false is isnt more = simp (is) more

-- of those that the response made none has the name
made_names : (kind : Kind) (name : List ℕ) (test : Kind → List ℕ → Bool → Bool) (address : SocketAddress) (made : MadeKept) → is_made made name ≡ false
    → list_any (λ n. left_test kind name test kind n true) (names_at address made) ≡ list_any (λ n. test kind n true) (names_at address made)
made_names kind name test address [] none = refl
made_names kind name test address (m ∷ made) none =
    made_names_by kind name test address m made (shares_address m.1 (Some address)) refl (or_left (bytes_eq m.0 name) (is_made made name) none)
    (made_names kind name test address made (or_right (bytes_eq m.0 name) (is_made made name) none))

names_one : (test : List ℕ → Bool) (address : SocketAddress) (name : List ℕ) (place : Option SocketAddress) (at : Bool) → shares_address place (Some address) ≡ at
    → list_any test (names_at address ((name, place) ∷ [])) ≡ (at && test name)
names_one test address name place true is = simp (is) (or_none (test name))
names_one test address name place false is = simp (is) refl

-- the names at an address, with one more
names_with : (test : List ℕ → Bool) (address : SocketAddress) (made : MadeKept) (name : List ℕ) (place : Option SocketAddress)
    → list_any test (names_at address (made ++ (name, place) ∷ [])) ≡ (list_any test (names_at address made) || (shares_address place (Some address) && test name))
names_with test address made name place =
    let at = λ (m : List ℕ × Option SocketAddress). shares_address m.1 (Some address) in
    let first = λ (m : List ℕ × Option SocketAddress). m.0 in
    ap (λ ms. list_any test (map first ms)) (filter-append at made ((name, place) ∷ []))
    ∙ ap (list_any test) (map-append first (filter at made) (filter at ((name, place) ∷ [])))
    ∙ list_any-append test (names_at address made) (names_at address ((name, place) ∷ []))
    ∙ ap (λ b. list_any test (names_at address made) || b) (names_one test address name place (shares_address place (Some address)) refl)

-- the response made these, and one of the name
made_more : (made : MadeKept) (name : List ℕ) (place : Option SocketAddress) (q : List ℕ) → is_made (made ++ (name, place) ∷ []) q ≡ (is_made made q || bytes_eq name q)
made_more made name place q =
    list_any-append (λ (m : List ℕ × Option SocketAddress). bytes_eq m.0 q) made ((name, place) ∷ [])
    ∙ ap (λ b. is_made made q || b) (or_none (bytes_eq name q))

stays_more : (kind : Kind) (response : ResponseParts) (made : MadeKept) (name : List ℕ) (place : Option SocketAddress) (test : Kind → List ℕ → Bool → Bool) (live : Live)
    → (stays kind response made live && left_test kind name test live.kind live.name live.warming)
    ≡ (stays kind response (made ++ (name, place) ∷ []) live && test live.kind live.name live.warming)
stays_more kind response made name place test live =
    stays_pointwise (kind_same live.kind kind) (is_removed response live.name) live.warming (is_made made live.name) (bytes_eq live.name name) (test live.kind live.name live.warming)
    ∙ ap (λ m. not (kind_same live.kind kind && (is_removed response live.name || (live.warming && m))) && test live.kind live.name live.warming)
    (ap (λ b. is_made made live.name || b) (nat_list_eq_equiv.symm live.name name) ∙ sym (made_more made name place live.name))

or_assoc : (a b c : Bool) → ((a || b) || (c || false)) ≡ (a || (b || c))
or_assoc true b c = refl
or_assoc false true c = refl
or_assoc false false true = refl
or_assoc false false false = refl

-- who holds an address, once what warms under the name is removed
holders_left : (answers : Answers) (kind : Kind) (response : ResponseParts) (made : MadeKept) (name : List ℕ) (place : Option SocketAddress) (now : List Live)
    → is_made made name ≡ false → Follows answers kind response made now → (address : SocketAddress) (test : Kind → List ℕ → Bool → Bool)
    → list_any (λ (live : Live). is_at address live && test live.kind live.name live.warming) (without_warming kind name now)
    ≡ (list_any (λ (live : Live). stays kind response (made ++ (name, place) ∷ []) live && test live.kind live.name live.warming) (answers.holders address)
    || list_any (λ n. test kind n true) (names_at address made))
holders_left answers kind response made name place now none was address test =
    let passes = λ (live : Live). is_at address live && test live.kind live.name live.warming in
    any_filter passes (leaves kind name) now
    ∙ any_same (λ (live : Live). leaves kind name live && passes live) (λ (live : Live). is_at address live && left_test kind name test live.kind live.name live.warming)
    (λ live. swap_pointwise (leaves kind name live) (is_at address live) (test live.kind live.name live.warming)) now
    ∙ was.holders address (left_test kind name test)
    ∙ (λ i. any_same (λ (live : Live). stays kind response made live && left_test kind name test live.kind live.name live.warming)
    (λ (live : Live). stays kind response (made ++ (name, place) ∷ []) live && test live.kind live.name live.warming)
    (stays_more kind response made name place test) (answers.holders address) i
    || made_names kind name test address made none i)

-- and with a new generation
holders_with : (answers : Answers) (kind : Kind) (response : ResponseParts) (made : MadeKept) (name : List ℕ) (content : Content) (now : List Live)
    → is_made made name ≡ false → Follows answers kind response made now → (address : SocketAddress) (test : Kind → List ℕ → Bool → Bool)
    → list_any (λ (live : Live). is_at address live && test live.kind live.name live.warming) (with_new kind name content now)
    ≡ (list_any (λ (live : Live). stays kind response (made ++ (name, listening_address content) ∷ []) live && test live.kind live.name live.warming) (answers.holders address)
    || list_any (λ n. test kind n true) (names_at address (made ++ (name, listening_address content) ∷ [])))
holders_with answers kind response made name content now none was address test =
    let new : Live = record { kind = kind; number = number_after (latest now); name = name; content = content; warming = true } in
    let passes = λ (live : Live). is_at address live && test live.kind live.name live.warming in
    let place = listening_address content in
    list_any-append passes (filter (leaves kind name) now) (new ∷ [])
    ∙ ap (λ b. b || (passes new || false)) (holders_left answers kind response made name place now none was address test)
    ∙ or_assoc (list_any (λ (live : Live). stays kind response (made ++ (name, place) ∷ []) live && test live.kind live.name live.warming) (answers.holders address))
    (list_any (λ n. test kind n true) (names_at address made)) (passes new)
    ∙ ap (λ b. list_any (λ (live : Live). stays kind response (made ++ (name, place) ∷ []) live && test live.kind live.name live.warming) (answers.holders address) || b)
    (sym (names_with (λ n. test kind n true) address made name place))

-- after a new generation of a name under which nothing was made yet
follows_new : (answers : Answers) (kind : Kind) (response : ResponseParts) (made : MadeKept) (name : List ℕ) (content : Content) (now : List Live)
    → is_made made name ≡ false → is_by_name kind ≡ false → Follows answers kind response made now
    → Follows answers kind response (made ++ (name, listening_address content) ∷ []) (with_new kind name content now)
follows_new answers kind response made name content now none whole was = record {
  newest = λ q isnt kept.
      let parts : (is_made made q || bytes_eq name q) ≡ false = sym (made_more made name (listening_address content) q) ∙ isnt in
      newest_with kind name q content now (or_right (is_made made q) (bytes_eq name q) parts)
      ∙ was.newest q (or_left (is_made made q) (bytes_eq name q) parts) kept;
  serving = λ q kept. serving_with kind name q content now ∙ was.serving q kept;
  holders = holders_with answers kind response made name content now none was;
  watched = λ by_name. absurd (false≢true (sym whole ∙ by_name));
}

-- after it went back to the generation that serves
follows_back : (answers : Answers) (kind : Kind) (response : ResponseParts) (made : MadeKept) (name : List ℕ) (now : List Live)
    → is_made made name ≡ false → is_by_name kind ≡ false → Follows answers kind response made now
    → Follows answers kind response (made ++ (name, None) ∷ []) (without_warming kind name now)
follows_back answers kind response made name now none whole was = record {
  newest = λ q isnt kept.
      let parts : (is_made made q || bytes_eq name q) ≡ false = sym (made_more made name None q) ∙ isnt in
      ap latest
      (filter_within (is_named kind q) (leaves kind name) (λ live. leaves_other kind name q live (or_right (is_made made q) (bytes_eq name q) parts)) now)
      ∙ was.newest q (or_left (is_made made q) (bytes_eq name q) parts) kept;
  serving = λ q kept. serving_left kind name q now ∙ was.serving q kept;
  holders = λ address test.
      holders_left answers kind response made name None now none was address test
      ∙ ap (λ b. list_any (λ (live : Live). stays kind response (made ++ (name, None) ∷ []) live && test live.kind live.name live.warming) (answers.holders address) || b)
      (sym (names_with (λ n. test kind n true) address made name None ∙ or_none (list_any (λ n. test kind n true) (names_at address made))));
  watched = λ by_name. absurd (false≢true (sym whole ∙ by_name));
}

-- what the response made so far has names of the resources that were looked at
abbrev Among : MadeKept → List ItemParts → Type 0
Among made before = (name : List ℕ) → is_made made name ≡ true → 1 ≤ length (items_named name before)

lesser_some : (a b : ℕ) (first : Bool) → cond first (Some a) (Some b) ≡ None → Some b ≡ None
lesser_some a b true none = cc
lesser_some a b false none = none

lesser_some_left : (a b : ℕ) (first : Bool) → cond first (Some a) (Some b) ≡ None → Some a ≡ None
lesser_some_left a b true none = none
lesser_some_left a b false none = cc

lesser_right : (a b : Option ℕ) → lesser a b ≡ None → b ≡ None
lesser_right None b none = none
lesser_right (Some a) None none = refl
lesser_right (Some a) (Some b) none = lesser_some a b (nat_le a b) none

lesser_left : (a b : Option ℕ) → lesser a b ≡ None → a ≡ None
lesser_left None b none = refl
lesser_left (Some a) None none = none
lesser_left (Some a) (Some b) none = lesser_some_left a b (nat_le a b) none

not_twice_by : (twice : Bool) → cond {A = Option ℕ} twice (Some 4) None ≡ None → twice ≡ false
not_twice_by true none = cc
not_twice_by false none = refl

named_parts : (name : List ℕ) (before rest : List ItemParts) (item : ItemParts)
    → length (items_named name (before ++ item ∷ rest)) ≡ length (items_named name before) + length (items_named name (item ∷ rest))
named_parts name before rest item =
    let named = λ (item : ItemParts). bytes_eq item.name name in
    ap length (filter-append named before (item ∷ rest)) ∙ length-append (filter named before) (filter named (item ∷ rest))

named_itself : (rest : List ItemParts) (item : ItemParts) → 1 ≤ length (items_named item.name (item ∷ rest))
named_itself rest item =
    let is : bytes_eq item.name item.name ≡ true = nat_list_eq_equiv.refl item.name in
    simp (is) (grind arith)

-- no resource of the name was looked at before, where the name doesn't occur twice
fresh_never : (b n all : ℕ) → all ≡ b + n → 1 ≤ n → 1 ≤ b → nat_le 2 all ≡ false → ⊥
fresh_never b n all parts one before once = grind (arith, common_steps)

fresh_by : (made : Bool) (b n all : ℕ) → all ≡ b + n → 1 ≤ n → (made ≡ true → 1 ≤ b) → nat_le 2 all ≡ false → made ≡ false
fresh_by true b n all parts one among once = absurd (fresh_never b n all parts one (among refl) once)
fresh_by false b n all parts one among once = refl

fresh : (kind : Kind) (response : ResponseParts) (versions : List KeptVersion) (now : List Live) (made : MadeKept) (before rest : List ItemParts) (item : ItemParts)
    → response.items ≡ before ++ item ∷ rest → Among made before → rule_of kind response now versions item ≡ None → is_made made item.name ≡ false
fresh kind response versions now made before rest item all among none =
    let later = lesser_right (stale_rule kind now versions item item.body) (lesser (twice_rule response item) (lesser (removed_rule response item) (form_rule item.body))) none in
    let once = not_twice_by (nat_le 2 (length (items_named item.name response.items))) (lesser_left (twice_rule response item) (lesser (removed_rule response item) (form_rule item.body)) later) in
    fresh_by (is_made made item.name) (length (items_named item.name before)) (length (items_named item.name (item ∷ rest))) (length (items_named item.name response.items))
    (ap (λ items. length (items_named item.name items)) all ∙ named_parts item.name before rest item) (named_itself rest item) (among item.name) once

kept_by : (among : Bool) (b n all : ℕ) → all ≡ b + n → 1 ≤ n → among && not (nat_le 1 all) ≡ false
kept_by among b n all parts one = grind (arith, common_steps)

-- the name of a resource isn't removed
item_kept : (response : ResponseParts) (before rest : List ItemParts) (item : ItemParts) → response.items ≡ before ++ item ∷ rest → is_removed response item.name ≡ false
item_kept response before rest item all =
    kept_by (is_among item.name response.removed) (length (items_named item.name before)) (length (items_named item.name (item ∷ rest))) (length (items_named item.name response.items))
    (ap (λ items. length (items_named item.name items)) all ∙ named_parts item.name before rest item) (named_itself rest item)

heard_same : (answers : Answers) (kind : Kind) (response : ResponseParts) (made : MadeKept) (now : List Live) (name : List ℕ) → Follows answers kind response made now
    → is_heard_by answers kind name ≡ is_heard kind now name
heard_same answers Cds response made now name was = refl
heard_same answers Lds response made now name was = refl
heard_same answers Eds response made now name was = sym (was.watched refl name)
heard_same answers Rds response made now name was = sym (was.watched refl name)
heard_same answers Sds response made now name was = sym (was.watched refl name)
heard_same answers Ecds response made now name was = sym (was.watched refl name)

stale_same : (answers : Answers) (kind : Kind) (response : ResponseParts) (lives : List Live) (versions : List KeptVersion) (made : MadeKept) (now : List Live) (item : ItemParts) (body : Body)
    → Tells answers kind lives versions → Follows answers kind response made now → stale_by answers kind item body ≡ stale_rule kind now versions item body
stale_same answers kind response lives versions made now item (Good content) tells was = refl
stale_same answers kind response lives versions made now item (Bad rule) tells was = refl
stale_same answers kind response lives versions made now item Beat tells was =
    λ i. cond (not (tells.kept kind item.name item.version i) && heard_same answers kind response made now item.name was i) (Some 1) None

nobody_at : (place : Option SocketAddress) (other : Bool) → shares_address place None && other ≡ false
nobody_at None other = refl
nobody_at (Some address) other = refl

taken_same_by : (answers : Answers) (response : ResponseParts) (made : MadeKept) (now : List Live) (name : List ℕ) (place : Option SocketAddress) → Follows answers Lds response made now
    → is_taken_by Lds response answers made name place ≡ list_any (λ (live : Live). shares_address (listening_address live.content) place && not (bytes_eq live.name name)) now
taken_same_by answers response made now name None was =
    sym (any_of_none (λ (live : Live). shares_address (listening_address live.content) None && not (bytes_eq live.name name))
    (λ live. nobody_at (listening_address live.content) (not (bytes_eq live.name name))) now)
taken_same_by answers response made now name (Some address) was = sym (was.holders address (λ k n w. not (bytes_eq n name)))

good_same : (answers : Answers) (kind : Kind) (response : ResponseParts) (made : MadeKept) (now : List Live) (name : List ℕ) (content : Content)
    → is_made made name ≡ false → is_removed response name ≡ false → Follows answers kind response made now
    → good_by answers response made name content kind ≡ good_verdict kind now name content
good_same answers Cds response made now name content none kept was = ap (λ newest. against newest content) (sym (was.newest name none kept))
good_same answers Lds response made now name content none kept was =
    λ i. cond (taken_same_by answers response made now name (listening_address content) was i) (Refused 15)
    (listener_verdict (sym (was.newest name none kept) i) (sym (was.serving name kept) i) content)
good_same answers Eds response made now name content none kept was = ap value_verdict (sym (was.watched refl name))
good_same answers Rds response made now name content none kept was = ap value_verdict (sym (was.watched refl name))
good_same answers Sds response made now name content none kept was = ap value_verdict (sym (was.watched refl name))
good_same answers Ecds response made now name content none kept was = ap value_verdict (sym (was.watched refl name))

body_same : (answers : Answers) (kind : Kind) (response : ResponseParts) (lives : List Live) (versions : List KeptVersion) (made : MadeKept) (now : List Live) (item : ItemParts) (body : Body)
    → is_made made item.name ≡ false → is_removed response item.name ≡ false → Tells answers kind lives versions → Follows answers kind response made now
    → body_by answers kind response made item body ≡ body_verdict kind now versions item body
body_same answers kind response lives versions made now item (Good content) none kept tells was = good_same answers kind response made now item.name content none kept was
body_same answers kind response lives versions made now item (Bad rule) none kept tells was = refl
body_same answers kind response lives versions made now item Beat none kept tells was = ap (λ b. cond b Renewed Unasked) (tells.kept kind item.name item.version)

ruled_same : (answers : Answers) (kind : Kind) (response : ResponseParts) (lives : List Live) (versions : List KeptVersion) (made : MadeKept) (now : List Live) (item : ItemParts) (rule : Option ℕ)
    → (rule ≡ None → is_made made item.name ≡ false) → is_removed response item.name ≡ false → Tells answers kind lives versions → Follows answers kind response made now
    → ruled answers kind response made item rule ≡ verdict_by rule kind now versions item
ruled_same answers kind response lives versions made now item (Some rule) none kept tells was = refl
ruled_same answers kind response lives versions made now item None none kept tells was =
    body_same answers kind response lives versions made now item item.body (none refl) kept tells was

-- the verdict on one resource
verdict_same : (answers : Answers) (kind : Kind) (response : ResponseParts) (lives : List Live) (versions : List KeptVersion) (made : MadeKept) (now : List Live) (before rest : List ItemParts) (item : ItemParts)
    → response.items ≡ before ++ item ∷ rest → Among made before → Tells answers kind lives versions → Follows answers kind response made now
    → judged answers kind response made item ≡ verdict_of kind response now versions item
verdict_same answers kind response lives versions made now before rest item all among tells was =
    ap (λ stale. ruled answers kind response made item (lesser stale (lesser (twice_rule response item) (lesser (removed_rule response item) (form_rule item.body)))))
    (stale_same answers kind response lives versions made now item item.body tells was)
    ∙ ruled_same answers kind response lives versions made now item (rule_of kind response now versions item)
    (fresh kind response versions now made before rest item all among) (item_kept response before rest item all) tells was

-- by this verdict what warms under the name is removed
abbrev replaces : Verdict → Bool
replaces New = true
replaces InPlace = true
replaces Back = true
replaces verdict = false

watched_stays : (watched : Bool) → replaces (value_verdict watched) ≡ false
watched_stays true = refl
watched_stays false = refl

beat_stays : (renewed : Bool) → replaces (cond renewed Renewed Unasked) ≡ false
beat_stays true = refl
beat_stays false = refl

-- a resource that is asked for by name replaces nothing
value_stays : (answers : Answers) (kind : Kind) (response : ResponseParts) (made : MadeKept) (item : ItemParts) (body : Body) (watched : Bool)
    → ((content : Content) → good_by answers response made item.name content kind ≡ value_verdict watched)
    → replaces (body_by answers kind response made item body) ≡ false
value_stays answers kind response made item (Good content) watched is = ap replaces (is content) ∙ watched_stays watched
value_stays answers kind response made item (Bad rule) watched is = refl
value_stays answers kind response made item Beat watched is = beat_stays (answers.kept kind item.name item.version)

replacing_body : (answers : Answers) (kind : Kind) (response : ResponseParts) (made : MadeKept) (item : ItemParts) (body : Body)
    → replaces (body_by answers kind response made item body) ≡ true → is_by_name kind ≡ false
replacing_body answers Cds response made item body is = refl
replacing_body answers Lds response made item body is = refl
replacing_body answers Eds response made item body is =
    absurd (false≢true (sym (value_stays answers Eds response made item body (answers.watched Eds item.name) (λ content. refl)) ∙ is))
replacing_body answers Rds response made item body is =
    absurd (false≢true (sym (value_stays answers Rds response made item body (answers.watched Rds item.name) (λ content. refl)) ∙ is))
replacing_body answers Sds response made item body is =
    absurd (false≢true (sym (value_stays answers Sds response made item body (answers.watched Sds item.name) (λ content. refl)) ∙ is))
replacing_body answers Ecds response made item body is =
    absurd (false≢true (sym (value_stays answers Ecds response made item body (answers.watched Ecds item.name) (λ content. refl)) ∙ is))

-- a resource that replaces what warms breaks no rule, and is asked for without a name
replacing_facts : (answers : Answers) (kind : Kind) (response : ResponseParts) (made : MadeKept) (item : ItemParts) (rule : Option ℕ)
    → replaces (ruled answers kind response made item rule) ≡ true → (rule ≡ None) × (is_by_name kind ≡ false)
replacing_facts answers kind response made item (Some rule) is = absurd (false≢true is)
replacing_facts answers kind response made item None is = (refl, replacing_body answers kind response made item item.body is)

-- a name that isn't among those so far is put behind them
with_name : {A : Type 0} (P : MadeKept → A → Type 0) (made : MadeKept) (name : List ℕ) (address : Option SocketAddress) (after : A)
    → is_made made name ≡ false → P (made ++ (name, address) ∷ []) after → P (with_made name address made) after
with_name P made name address after none is =
    subst (λ b. P (cond b made (made ++ (name, address) ∷ [])) after) (sym none) is

-- after a verdict
follows_step : (answers : Answers) (kind : Kind) (response : ResponseParts) (made : MadeKept) (name : List ℕ) (body : Body) (verdict : Verdict) (now : List Live)
    → (replaces verdict ≡ true → is_made made name ≡ false) → (replaces verdict ≡ true → is_by_name kind ≡ false) → Follows answers kind response made now
    → Follows answers kind response (made_by verdict name body made) (lives_after kind verdict name body now)
follows_step answers kind response made name (Good content) New now none whole was =
    with_name (Follows answers kind response) made name (listening_address content) (with_new kind name content now) (none refl)
    (follows_new answers kind response made name content now (none refl) (whole refl) was)
follows_step answers kind response made name (Bad rule) New now none whole was = was
follows_step answers kind response made name Beat New now none whole was = was
follows_step answers kind response made name (Good content) InPlace now none whole was =
    with_name (Follows answers kind response) made name (listening_address content) (with_new kind name content now) (none refl)
    (follows_new answers kind response made name content now (none refl) (whole refl) was)
follows_step answers kind response made name (Bad rule) InPlace now none whole was = was
follows_step answers kind response made name Beat InPlace now none whole was = was
follows_step answers kind response made name (Good content) Back now none whole was =
    with_name (Follows answers kind response) made name None (without_warming kind name now) (none refl)
    (follows_back answers kind response made name now (none refl) (whole refl) was)
follows_step answers kind response made name (Bad rule) Back now none whole was = was
follows_step answers kind response made name Beat Back now none whole was = was
follows_step answers kind response made name body Same now none whole was = was
follows_step answers kind response made name body Kept now none whole was = was
follows_step answers kind response made name body Unasked now none whole was = was
follows_step answers kind response made name body Renewed now none whole was = was
follows_step answers kind response made name body (Refused rule) now none whole was = was

among_by : (made same : Bool) (b n : ℕ) → (made || same) ≡ true → (made ≡ true → 1 ≤ b) → (same ≡ true → 1 ≤ n) → 1 ≤ b + n
among_by true same b n is old new = omega (arith, old refl)
among_by false same b n is old new = omega (arith, new is)

named_one : (item : ItemParts) (q : List ℕ) → bytes_eq item.name q ≡ true → 1 ≤ length (items_named q (item ∷ []))
named_one item q is = simp (is) (grind arith)

more_named : (made : MadeKept) (before : List ItemParts) (item : ItemParts) → Among made before → Among made (before ++ item ∷ [])
more_named made before item among name is =
    subst (λ n. 1 ≤ n) (sym (named_parts name before [] item)) (omega (arith, among name is))

with_made_among : (made : MadeKept) (before : List ItemParts) (item : ItemParts) (address : Option SocketAddress) (has : Bool) → Among made before
    → Among (cond has made (made ++ (item.name, address) ∷ [])) (before ++ item ∷ [])
with_made_among made before item address true among = more_named made before item among
with_made_among made before item address false among = λ name is.
    subst (λ n. 1 ≤ n) (sym (named_parts name before [] item))
    (among_by (is_made made name) (bytes_eq item.name name) (length (items_named name before)) (length (items_named name (item ∷ [])))
    (sym (made_more made item.name address name) ∙ is) (among name) (named_one item name))

-- what was made is among the resources that were looked at
among_step : (made : MadeKept) (before : List ItemParts) (item : ItemParts) (body : Body) (verdict : Verdict) → Among made before
    → Among (made_by verdict item.name body made) (before ++ item ∷ [])
among_step made before item (Good content) New among =
    with_made_among made before item (listening_address content) (is_made made item.name) among
among_step made before item (Bad rule) New among = more_named made before item among
among_step made before item Beat New among = more_named made before item among
among_step made before item (Good content) InPlace among =
    with_made_among made before item (listening_address content) (is_made made item.name) among
among_step made before item (Bad rule) InPlace among = more_named made before item among
among_step made before item Beat InPlace among = more_named made before item among
among_step made before item (Good content) Back among = with_made_among made before item None (is_made made item.name) among
among_step made before item (Bad rule) Back among = more_named made before item among
among_step made before item Beat Back among = more_named made before item among
among_step made before item body Same among = more_named made before item among
among_step made before item body Kept among = more_named made before item among
among_step made before item body Unasked among = more_named made before item among
among_step made before item body Renewed among = more_named made before item among
among_step made before item body (Refused rule) among = more_named made before item among

judged_from : (answers : Answers) (kind : Kind) (response : ResponseParts) (lives : List Live) (versions : List KeptVersion) (made : MadeKept) (now : List Live) (before items : List ItemParts)
    → response.items ≡ before ++ items → Among made before → Tells answers kind lives versions → Follows answers kind response made now
    → all_judged answers kind response made items ≡ verdicts_from kind response versions now items
judged_from answers kind response lives versions made now before [] all among tells was = refl
judged_from answers kind response lives versions made now before (item ∷ items) all among tells was =
    let verdict = judged answers kind response made item in
    let same : verdict ≡ verdict_of kind response now versions item = verdict_same answers kind response lives versions made now before items item all among tells was in
    let stale = stale_same answers kind response lives versions made now item item.body tells was in
    let ruled_alike : rule_by answers kind response item ≡ rule_of kind response now versions item = ap (λ s. lesser s (lesser (twice_rule response item) (lesser (removed_rule response item) (form_rule item.body)))) stale in
    let next : Follows answers kind response (made_by verdict item.name item.body made) (lives_after kind verdict item.name item.body now) =
    follows_step answers kind response made item.name item.body verdict now
    (λ new. fresh kind response versions now made before items item all among (sym ruled_alike ∙ (replacing_facts answers kind response made item (rule_by answers kind response item) new).0))
    (λ new. (replacing_facts answers kind response made item (rule_by answers kind response item) new).1) was in
    ap (λ vs. verdict ∷ vs)
    (judged_from answers kind response lives versions (made_by verdict item.name item.body made) (lives_after kind verdict item.name item.body now) (before ++ item ∷ []) items
    (all ∙ sym (append_assoc before (item ∷ []) items)) (among_step made before item item.body verdict among) tells next)
    ∙ ap (λ v. v ∷ verdicts_from kind response versions (lives_after kind v item.name item.body now) items) same

none_among : Among [] []
none_among name is = absurd (false≢true is)

-- the verdicts by look-ups are those over the live rows and the versions
pub judged_all : (answers : Answers) (kind : Kind) (response : ResponseParts) (lives : List Live) (versions : List KeptVersion)
    → Tells answers kind lives versions → all_judged answers kind response [] response.items ≡ verdicts_for kind lives versions response
judged_all answers kind response lives versions tells =
    judged_from answers kind response lives versions [] (lives_left kind response lives) [] response.items refl none_among tells
    (follows_first answers kind response lives versions tells)

-- lists that are searched say what they hold, of what is asked for without a name
pub listed_tells : (kind : Kind) (lives : List Live) (versions : List KeptVersion) → is_by_name kind ≡ false → Tells (answers_of lives versions) kind lives versions
listed_tells kind lives versions whole = record {
  newest = λ k name. refl;
  serving = λ k name. refl;
  holders = λ address. refl;
  watched = λ k name. refl;
  kept = λ k name version. refl;
  apart = λ by_name. absurd (false≢true (sym whole ∙ by_name));
}

-- the verdicts by look-ups are those of whatever lists they speak of
pub judged_told : (answers : Answers) (k : Kind) (response : ResponseParts) (verdicts : List Verdict)
    → verdicts ≡ all_judged answers k response [] response.items → response.kind ≡ Some k
    → (kind : Kind) (lives : List Live) (versions : List KeptVersion) → response.kind ≡ Some kind → Tells answers kind lives versions
    → verdicts ≡ verdicts_of lives versions response
judged_told answers k response verdicts are of_k kind lives versions of_kind tells =
    let same : kind ≡ k = ap (λ o. unwrap_or o k) (sym of_kind ∙ of_k) in
    are
    ∙ judged_all answers k response lives versions (subst (λ kd. Tells answers kd lives versions) same tells)
    ∙ sym (ap (λ o. verdicts_by o lives versions response) of_k)

if_ok_by : {V E : Type 0} (P Q : V → Type 0) (result : Result V E) → ((v : V) → P v → Q v) → IfOk result P → IfOk result Q
if_ok_by P Q (Ok v) so p = so v p
if_ok_by P Q (Err e) so p = p

-- it is so of the verdicts where there are some
pub told_where_ok : {E : Type 0} (answers : Answers) (k : Kind) (response : ResponseParts) (result : Result (List Verdict) E) → response.kind ≡ Some k
    → IfOk result (λ verdicts. verdicts ≡ all_judged answers k response [] response.items)
    → IfOk result (λ verdicts. (kind : Kind) (lives : List Live) (versions : List KeptVersion) → response.kind ≡ Some kind → Tells answers kind lives versions → verdicts ≡ verdicts_of lives versions response)
told_where_ok answers k response result of_k are =
    if_ok_by (λ verdicts. verdicts ≡ all_judged answers k response [] response.items)
    (λ verdicts. (kind : Kind) (lives : List Live) (versions : List KeptVersion) → response.kind ≡ Some kind → Tells answers kind lives versions → verdicts ≡ verdicts_of lives versions response)
    result (λ verdicts so. judged_told answers k response verdicts so of_k) are
