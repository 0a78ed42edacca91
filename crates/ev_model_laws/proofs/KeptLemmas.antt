-- A resource that is kept stands once in its response, so it is the last that came for its name.
use Rattle.std.proofs.Common.{◌≡◌, ℕ, zero, suc, ◌+◌, ◌≤◌, Bool, true, false, cond, List, [], ◌∷◌, ◌++◌, length, map, filter, filter_map, nat_le, Option, None, Some, inl, inr, refl, sym, ap, ap₂, subst, ◌∙◌, arith}
use Rattle.std.specs.Prelude.{slice_get}
use Rattle.std.specs.List.{list_any, last_or, fold, zip, AllByRecursion as ByRecursion}
use Rattle.std.specs.Str.{bytes_eq}
use Rattle.std.proofs.lemmas.Bool.{false≢true, both_ways, and_from, cases_Bool, leb-false}
use Rattle.std.proofs.lemmas.List.Elements.{filter-append, filter_map-append}
use Rattle.std.proofs.lemmas.List.{map-append}
use Rattle.ev_types.specs.Items.{ItemParts, ResponseParts}
use Rattle.ev_types.specs.Kinds.{kind_same, kind_decides, is_by_name}
use Rattle.ev_types.specs.Same.{bytes_decide}
use Rattle.ev_types.specs.declared.contents.Kind.{Kind}
use Rattle.ev_types.specs.declared.contents.Body.{Body}
use Rattle.ev_types.specs.declared.contents.Body.TheVariants.{Good}
use Rattle.ev_types.specs.declared.contents.Content.{Content}
use Rattle.ev_types.specs.declared.events.Answer.TheVariants.{Ignored}
use Rattle.ev_types.specs.declared.events.Event.TheVariants.{Response}
use Rattle.ev_types.specs.declared.events.Verdict.{Verdict}
use Rattle.ev_types.specs.declared.events.Verdict.TheVariants.{New, InPlace, Back, Same, Kept, Unasked, Renewed, Refused}
use Rattle.ev_types.specs.declared.rows.Arrival.{Arrival}
use Rattle.ev_types.specs.declared.rows.Arrival.TheVariants.{Value}
use Rattle.ev_types.specs.declared.rows.KeptVersion.{KeptVersion}
use Rattle.ev_types.specs.declared.rows.Live.{Live}
use Rattle.ev_model.specs.World.{World, Arrived}
use Rattle.ev_model.specs.Live.{lives_of}
use Rattle.ev_model.specs.Watching.{is_watched}
use Rattle.ev_model.specs.Warming.{is_for, content_in, is_word, value_of, is_told, last_told}
use Rattle.ev_model.specs.Verdicts.{items_named, stale_rule, twice_rule, removed_rule, form_rule, lesser, rule_of, verdict_by, verdict_of, lives_left, verdicts_by, verdicts_for}
use Rattle.ev_model.specs.Rows.{arrived, with_removals, keep_value, with_content, add_item, add_items, made_names, with_first}
use Rattle.ev_model.specs.Tidy.{tidy}
use Rattle.ev_model.specs.Entries.{is_word_on}
use Rattle.ev_model.specs.Step.{step, respond_by, responded}
use Rattle.ev_model_laws.proofs.AnyLemmas.{any_second}
use Rattle.ev_model_laws.proofs.VerdictLemmas.{fits, judged_by, verdict_fits}
use Rattle.ev_model_laws.proofs.CameLemmas.{item_drawn, removals_drawn}
use Rattle.ev_model_laws.specs.Told.{KeptIsValue}
use Rattle.ev_model_laws.proofs.ToldLemmas.{came, came-append, last_word, told_is, Hush, items_came, first_came, tidied_came}

-- ---- a resource that is kept occurs once

lesser_none : (a b : Option ℕ) → lesser a b ≡ None → (a ≡ None) × (b ≡ None)
lesser_none None b h = (refl, h)
lesser_none (Some m) None h = absurd (cc)
lesser_none (Some m) (Some n) h = by_test (nat_le m n) h
  where
    by_test : (test : Bool) → cond test (Some m) (Some n) ≡ None → (Some m ≡ None) × (Some n ≡ None)
    by_test true e = absurd (cc)
    by_test false e = absurd (cc)

no_rule : (rule : Option ℕ) (kind : Kind) (lives : List Live) (versions : List KeptVersion) (item : ItemParts) → verdict_by rule kind lives versions item ≡ Kept → rule ≡ None
no_rule None kind lives versions item h = refl
no_rule (Some rule) kind lives versions item h = absurd (cc)

untold : (test : Bool) → cond {A = Option ℕ} test (Some 4) None ≡ None → test ≡ false
untold true h = absurd (cc)
untold false h = refl

-- its name doesn't occur twice
abbrev StandsOnce : ResponseParts → Verdict × ItemParts → Type 0
StandsOnce response one = one.0 ≡ Kept → nat_le 2 (length (items_named one.1.name response.items)) ≡ false

kept_once : (kind : Kind) (response : ResponseParts) (versions : List KeptVersion) (lives : List Live) (item : ItemParts)
    → StandsOnce response (verdict_of kind response lives versions item, item)
kept_once kind response versions lives item kept =
    let none = no_rule (rule_of kind response lives versions item) kind lives versions item kept in
    let others = lesser_none (stale_rule kind lives versions item item.body) (lesser (twice_rule response item) (lesser (removed_rule response item) (form_rule item.body))) none in
    let twice = lesser_none (twice_rule response item) (lesser (removed_rule response item) (form_rule item.body)) others.1 in
    untold (nat_le 2 (length (items_named item.name response.items))) twice.0

at_place : (P : Verdict × ItemParts → Type 0) (verdicts : List Verdict) (items : List ItemParts) (place : ℕ) (verdict : Verdict) (item : ItemParts)
    → ByRecursion P (zip verdicts items) → slice_get verdicts place ≡ Some verdict → slice_get items place ≡ Some item → P (verdict, item)
at_place P [] items place verdict item each judged there = absurd (cc)
at_place P (v ∷ verdicts) [] place verdict item each judged there = absurd (cc)
at_place P (v ∷ verdicts) (first ∷ items) zero verdict item each judged there =
    let this : v ≡ verdict = cc in
    let that : first ≡ item = cc in
    subst (λ (i : ItemParts). P (verdict, i)) that (subst (λ (w : Verdict). P (w, first)) this each.0)
at_place P (v ∷ verdicts) (first ∷ items) (suc place) verdict item each judged there = at_place P verdicts items place verdict item each.1 judged there

named_count : (name : List ℕ) (item : ItemParts) (items : List ItemParts) (named : Bool) → bytes_eq item.name name ≡ named
    → length (items_named name (item ∷ items)) ≡ cond named (length (items_named name items) + 1) (length (items_named name items))
named_count name item items true is = simp is (omega arith)
named_count name item items false is = simp is refl

word_named : (name : List ℕ) (verdict : Verdict) (item : ItemParts) → is_word_on name verdict item ≡ true → bytes_eq item.name name ≡ true
word_named name New item h = absurd (false≢true h)
word_named name InPlace item h = absurd (false≢true h)
word_named name Back item h = absurd (false≢true h)
word_named name Same item h = absurd (false≢true h)
word_named name Kept item h = h
word_named name Unasked item h = absurd (false≢true h)
word_named name Renewed item h = absurd (false≢true h)
word_named name (Refused rule) item h = h

module _ (kind : Kind) (name : List ℕ) where
  -- resources of other names say nothing of it
  none_hush : (world : World) (verdicts : List Verdict) (items : List ItemParts) → length (items_named name items) ≤ 0 → ByRecursion (Hush kind name world kind) (zip verdicts items)
  none_hush world [] items none = tt
  none_hush world (verdict ∷ verdicts) [] none = tt
  none_hush world (verdict ∷ verdicts) (item ∷ items) none =
      elim (cases_Bool (bytes_eq item.name name)) [
        | inl here ↦ absurd (omega (arith, none, named_count name item items true here))
        | inr other ↦ (
          λ word. absurd (both_ways (bytes_eq item.name name) other (word_named name verdict item word)),
          none_hush world verdicts items (omega (arith, none, named_count name item items false other)),
        )
      ]

  -- the last that came for the name is this content, when so many numbers were allocated
  record IsLast (made : ℕ) (content : Content) (after : World) : Type 0 where
    pub before : List Arrived
    pub is : came kind name after.arrivals ≡ before ++ arrived made kind (Value content) name ∷ []

  value_put : (made : ℕ) (item : ItemParts) (body : Body) (content : Content) (world : World)
      → world.made ≡ made → item.name ≡ name → body ≡ Good content
      → IsLast made content (with_content (keep_value kind item) body world)
  value_put made item body content world same named good =
      let own : is_for kind name (arrived world.made kind (Value content) item.name) ≡ true =
      and_from (kind_same kind kind) (bytes_eq item.name name) ((kind_decides kind kind).1 refl) ((bytes_decide item.name name).1 named) in
      let before : List Arrived = came kind name world.arrivals in
      subst (λ (b : Body). IsLast made content (with_content (keep_value kind item) b world)) (sym good) (record {
        before = before;
        is = came-append kind name world.arrivals (arrived world.made kind (Value content) item.name ∷ [])
            ∙ ap (λ (b : Bool). before ++ cond b (arrived world.made kind (Value content) item.name ∷ []) []) own
            ∙ ap₂ (λ (n : ℕ) (of : List ℕ). before ++ arrived n kind (Value content) of ∷ []) same named;
      })

  value_after : (made : ℕ) (verdicts : List Verdict) (items : List ItemParts) (place : ℕ) (item : ItemParts) (content : Content)
      (world : World)
      → is_by_name kind ≡ true → world.made ≡ made
      → ByRecursion (λ (one : Verdict × ItemParts). fits kind one.0 ≡ true) (zip verdicts items)
      → length (items_named name items) ≤ 1 → slice_get verdicts place ≡ Some Kept → slice_get items place ≡ Some item
      → item.name ≡ name → item.body ≡ Good content
      → IsLast made content (fold (λ (w : World) (one : Verdict × ItemParts). add_item kind one.0 one.1 w) world (zip verdicts items))
  value_after made [] items place item content world by_name same fit one judged there named good = absurd (cc)
  value_after made (verdict ∷ verdicts) [] place item content world by_name same fit one judged there named good = absurd (cc)
  value_after made (verdict ∷ verdicts) (first ∷ items) zero item content world by_name same fit one judged there named good =
      let this : first ≡ item = cc in
      let kept : verdict ≡ Kept = cc in
      let own : first.name ≡ name = ap (λ (i : ItemParts). i.name) this ∙ named in
      let here : bytes_eq first.name name ≡ true = (bytes_decide first.name name).1 own in
      let put : World = add_item kind Kept first world in
      let last : IsLast made content put =
      value_put made first first.body content world same own (ap (λ (i : ItemParts). i.body) this ∙ good) in
      subst
      (λ (v : Verdict).
      IsLast made content
      (fold (λ (w : World) (one : Verdict × ItemParts). add_item kind one.0 one.1 w) (add_item kind v first world) (zip verdicts items)))
      (sym kept)
      (record {
        before = last.before;
        is = items_came kind name put kind (zip verdicts items) put
            (none_hush put verdicts items (omega (arith, one, named_count name first items true here))) refl
            ∙ last.is;
      })
  value_after made (verdict ∷ verdicts) (first ∷ items) (suc place) item content world by_name same fit one judged there named good =
      let after : World = add_item kind verdict first world in
      let drawn : after.made ≡ made = item_drawn kind verdict first world fit.0 by_name ∙ same in
      elim (cases_Bool (bytes_eq first.name name)) [
        | inl here ↦ value_after made verdicts items place item content after by_name drawn fit.1
            (omega (arith, one, named_count name first items true here)) judged there named good
        | inr other ↦ value_after made verdicts items place item content after by_name drawn fit.1
            (omega (arith, one, named_count name first items false other)) judged there named good
      ]

last_after : {X : Type 0} (first : Option X) (xs : List X) (x : X) → last_or first (xs ++ x ∷ []) ≡ Some x
last_after first [] x = refl
last_after first (y ∷ xs) x = last_after (Some y) xs x

pub kept_value : KeptIsValue
kept_value format world actor response kind place item content streams typed judged there good watched =
    let verdicts : List Verdict = verdicts_for kind (lives_of world) world.versions response in
    let left : World = with_removals kind response world in
    let items : World = add_items kind verdicts response.items left in
    let firsts : World = with_first kind (made_names verdicts response.items) items in
    let lives : List Live = lives_left kind response (lives_of world) in
    let here : slice_get verdicts place ≡ Some Kept =
    sym (ap (λ (of : Option Kind). slice_get (verdicts_by of (lives_of world) world.versions response) place) typed) ∙ judged in
    let once : nat_le 2 (length (items_named item.name response.items)) ≡ false =
    at_place (StandsOnce response) verdicts response.items place Kept item
    (judged_by (StandsOnce response) kind response world.versions (kept_once kind response world.versions) lives response.items)
    here there refl in
    let fit : ByRecursion (λ (one : Verdict × ItemParts). fits kind one.0 ≡ true) (zip verdicts response.items) =
    judged_by (λ (one : Verdict × ItemParts). fits kind one.0 ≡ true) kind response world.versions
    (λ lives (other : ItemParts). verdict_fits kind response lives world.versions other) lives response.items in
    let by_name : is_by_name kind ≡ true =
    (at_place (λ (one : Verdict × ItemParts). fits kind one.0 ≡ true) verdicts response.items place Kept item fit here there) in
    let last : IsLast kind item.name world.made content items =
    value_after kind item.name world.made verdicts response.items place item content left by_name (removals_drawn kind response world) fit
    (omega (arith, leb-false 2 (length (items_named item.name response.items)) once)) here there refl good in
    let after : (step format world actor (Response response)).0 ≡ responded kind response verdicts world =
    ap (λ (b : Bool). (cond b (respond_by response.kind response world) (world, Ignored)).0) streams
    ∙ ap (λ (of : Option Kind). (respond_by of response world).0) typed
    ∙ ap (λ (of : Option Kind). responded kind response (verdicts_by of (lives_of world) world.versions response) world) typed in
    let one : Arrived = arrived world.made kind (Value content) item.name in
    let arrival : Arrived → Arrival = λ (a : Arrived). a.arrival in
    let number : Arrived → ℕ = λ (a : Arrived). a.made in
    let word : Arrived → Bool = λ (a : Arrived). is_word a.arrival in
    let all : came kind item.name (tidy firsts).arrivals ≡ last.before ++ one ∷ [] =
    tidied_came kind item.name firsts (subst (λ (w : World). is_watched (lives_of w) kind item.name ≡ true) after watched)
    ∙ first_came kind item.name items kind (made_names verdicts response.items) items refl
    ∙ last.is in
    let arrivals : map arrival (came kind item.name (tidy firsts).arrivals) ≡ map arrival last.before ++ Value content ∷ [] =
    ap (map arrival) all ∙ map-append arrival last.before (one ∷ []) in (
      ap (λ (w : World). value_of w kind item.name) after
          ∙ ap (λ (xs : List Arrival). last_or None (filter_map content_in xs)) arrivals
          ∙ ap (λ (xs : List Content). last_or None xs) (filter_map-append content_in (map arrival last.before) (Value content ∷ []))
          ∙ last_after None (filter_map content_in (map arrival last.before)) content,
      ap (λ (w : World). is_told w kind item.name) after
          ∙ ap (λ (xs : List Arrival). list_any is_word xs) arrivals
          ∙ any_second is_word (map arrival last.before) (Value content ∷ []) refl,
      ap (λ (w : World). last_told w.arrivals kind item.name) after
          ∙ told_is kind item.name (tidy firsts).arrivals
          ∙ ap (last_word kind item.name) all
          ∙ ap (λ (xs : List Arrived). last_or None (map number xs)) (filter-append word last.before (one ∷ []))
          ∙ ap (λ (ns : List ℕ). last_or None ns) (map-append number (filter word last.before) (one ∷ []))
          ∙ last_after None (map number (filter word last.before)) world.made,
    )
