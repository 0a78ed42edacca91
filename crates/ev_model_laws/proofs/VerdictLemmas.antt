-- What verdicts are given: which fit a kind, and that the resources of a name that occurs twice are all refused.
use Rattle.std.proofs.Common.{◌≡◌, ℕ, ◌≤◌, ◌+◌, inl, inr, zero, suc, Bool, true, false, not, cond, List, [], ◌∷◌, length, Option, Some, None, refl, ap, ◌∙◌, arith}
use Rattle.std.specs.Prelude.{nat_le, slice_get}
use Rattle.std.specs.List.{AllByRecursion as ByRecursion, zip}
use Rattle.std.specs.Str.{bytes_eq}
use Rattle.std.proofs.lemmas.Bool.{both_ways, cond_both, cases_Bool, le-leb, leb-false, and_right}
use Rattle.ev_types.specs.Items.{ItemParts, ResponseParts}
use Rattle.ev_types.specs.Same.{bytes_decide}
use Rattle.ev_types.specs.declared.contents.Kind.{Kind}
use Rattle.ev_types.specs.declared.contents.Kind.TheVariants.{Cds, Eds, Lds, Rds, Sds, Ecds}
use Rattle.ev_types.specs.declared.contents.Body.{Body}
use Rattle.ev_types.specs.declared.contents.Body.TheVariants.{Good, Bad, Beat}
use Rattle.ev_types.specs.declared.contents.Content.{Content}
use Rattle.ev_types.specs.declared.events.Verdict.{Verdict}
use Rattle.ev_types.specs.declared.events.Verdict.TheVariants.{New, InPlace, Back, Same, Kept, Unasked, Renewed, Refused}
use Rattle.ev_types.specs.declared.rows.Live.{Live}
use Rattle.ev_types.specs.declared.rows.KeptVersion.{KeptVersion}
use Rattle.ev_types.specs.SameContents.{content_same}
use Rattle.ev_model.specs.Live.{newest_of}
use Rattle.ev_model.specs.Versions.{is_kept}
use Rattle.ev_model.specs.Watching.{is_watched}
use Rattle.ev_model.specs.Verdicts.{items_named, is_among, is_removed, lesser, twice_rule, stale_rule, removed_rule, form_rule, rule_of, is_taken, against, good_verdict, body_verdict, verdict_by, verdict_of, verdicts_from, lives_after, returns_to, changes_chains, update_verdict, content_verdict, serving_of, serving_verdict, listener_verdict}
use Rattle.ev_model_laws.specs.Acknowledging.{is_refused}
use Rattle.ev_types.specs.Kinds.{kind_same, kind_decides, is_by_name}
use Rattle.ev_types.specs.declared.listeners.Listener.{Listener}
use Rattle.ev_types.specs.declared.contents.Content.TheVariants.{Listener as a_listener}

-- the verdict may be given on a resource of the kind: clusters and listeners make generations,
-- listeners alone in place of one that serves, and what is asked for by name is a value
abbrev pub fits : Kind → Verdict → Bool
fits kind New = not (is_by_name kind)
fits kind InPlace = kind_same kind Lds
fits kind Back = kind_same kind Lds
fits kind Same = not (is_by_name kind)
fits kind Kept = is_by_name kind
fits kind Unasked = true
fits kind Renewed = true
fits kind (Refused rule) = true

-- a listener isn't asked for by name
pub listener_not : (kind : Kind) → kind_same kind Lds ≡ true → is_by_name kind ≡ false
listener_not kind is = ap is_by_name ((kind_decides kind Lds).0 is)

-- what holds of what each verdict is
module _ (P : Verdict → Type 0) (kind : Kind) (response : ResponseParts) (lives : List Live) (versions : List KeptVersion) (item : ItemParts)
    (refused : (rule : ℕ) → P (Refused rule)) (renewed : P Renewed) (unasked : P Unasked)
    (good : (content : Content) → item.body ≡ Good content → P (good_verdict kind lives item.name content)) where
  body_each : (body : Body) → item.body ≡ body → P (body_verdict kind lives versions item body)
  body_each (Good content) is = good content is
  body_each (Bad rule) is = refused rule
  body_each Beat is = cond_both (is_kept versions kind item.name item.version) Renewed Unasked P (λ kept. renewed) (λ other. unasked)

  rule_each : (rule : Option ℕ) → P (verdict_by rule kind lives versions item)
  rule_each None = body_each item.body refl
  rule_each (Some rule) = refused rule

  -- holds of the verdict on a resource
  pub verdict_each : P (verdict_of kind response lives versions item)
  verdict_each = rule_each (rule_of kind response lives versions item)

-- what holds of each verdict on a good listener whose address is free holds of the one that it is given
module _ (P : Verdict → Type 0) (new : P New) (in_place : P InPlace) (back : P Back) (same : P Same) where
  update_each : (active update : Listener) → P (update_verdict active update)
  update_each active update =
      cond_both (returns_to active update) Back (cond (changes_chains active update) InPlace New) P (λ is. back)
      (λ other. cond_both (changes_chains active update) InPlace New P (λ is. in_place) (λ isnt. new))

  content_each : (active update : Content) → P (content_verdict active update)
  content_each (a_listener active) (a_listener update) = update_each active update
  content_each active update = new

  serving_each : (serving : Option Live) (content : Content) → P (serving_verdict serving content)
  serving_each None content = new
  serving_each (Some live) content = content_each live.content content

  pub listener_each : (newest serving : Option Live) (content : Content) → P (listener_verdict newest serving content)
  listener_each None serving content = new
  listener_each (Some newest) serving content =
      cond_both (content_same newest.content content) Same (serving_verdict serving content) P (λ is. same) (λ other. serving_each serving content)

against_fits : (kind : Kind) (live : Option Live) (content : Content) → fits kind New ≡ true → fits kind Same ≡ true
    → fits kind (against live content) ≡ true
against_fits kind None content new same = new
against_fits kind (Some live) content new same =
    cond_both (content_same live.content content) Same New (λ (v : Verdict). fits kind v ≡ true) (λ is. same) (λ other. new)

watched_fits : (kind : Kind) (watched : Bool) → fits kind Kept ≡ true → fits kind Unasked ≡ true → fits kind (cond watched Kept Unasked) ≡ true
watched_fits kind true kept unasked = kept
watched_fits kind false kept unasked = unasked

good_fits : (kind : Kind) (lives : List Live) (name : List ℕ) (content : Content) → fits kind (good_verdict kind lives name content) ≡ true
good_fits Cds lives name content = against_fits Cds (newest_of lives Cds name) content refl refl
good_fits Eds lives name content = watched_fits Eds (is_watched lives Eds name) refl refl
good_fits Lds lives name content =
    cond_both (is_taken lives name content) (Refused 15) (listener_verdict (newest_of lives Lds name) (serving_of lives Lds name) content)
    (λ (v : Verdict). fits Lds v ≡ true)
    (λ taken. refl)
    (λ free. listener_each (λ (v : Verdict). fits Lds v ≡ true) refl refl refl refl (newest_of lives Lds name) (serving_of lives Lds name) content)
good_fits Rds lives name content = watched_fits Rds (is_watched lives Rds name) refl refl
good_fits Sds lives name content = watched_fits Sds (is_watched lives Sds name) refl refl
good_fits Ecds lives name content = watched_fits Ecds (is_watched lives Ecds name) refl refl

-- a verdict fits its kind
pub verdict_fits : (kind : Kind) (response : ResponseParts) (lives : List Live) (versions : List KeptVersion) (item : ItemParts)
    → fits kind (verdict_of kind response lives versions item) ≡ true
verdict_fits kind response lives versions item =
    verdict_each (λ (v : Verdict). fits kind v ≡ true) kind response lives versions item
    (λ rule. refl) refl refl (λ content is. good_fits kind lives item.name content)

-- what holds of each verdict with its resource holds of all that a response is given
pub judged_by : (P : Verdict × ItemParts → Type 0) (kind : Kind) (response : ResponseParts) (versions : List KeptVersion)
    → ((lives : List Live) (item : ItemParts) → P (verdict_of kind response lives versions item, item))
    → (lives : List Live) (items : List ItemParts) → ByRecursion P (zip (verdicts_from kind response versions lives items) items)
judged_by P kind response versions each lives [] = tt
judged_by P kind response versions each lives (item ∷ items) =
    let verdict : Verdict = verdict_of kind response lives versions item in
    (each lives item, judged_by P kind response versions each (lives_after kind verdict item.name item.body lives) items)

-- the resource is refused, where it is of this name
abbrev pub IsRefusedOf : List ℕ → Verdict × ItemParts → Type 0
IsRefusedOf name judged = bytes_eq judged.1.name name ≡ true → is_refused judged.0 ≡ true

rule_refuses : (rule : Option ℕ) (kind : Kind) (lives : List Live) (versions : List KeptVersion) (item : ItemParts) (twice : Option ℕ) (stale others : Option ℕ) (n : ℕ)
    → twice ≡ Some n → rule ≡ lesser stale (lesser twice others) → is_refused (verdict_by rule kind lives versions item) ≡ true
rule_refuses (Some rule) kind lives versions item twice stale others n is of = refl
rule_refuses None kind lives versions item None stale others n is of = absurd (cc)
rule_refuses None kind lives versions item (Some m) None None n is of = absurd (cc)
rule_refuses None kind lives versions item (Some m) None (Some o) n is of =
    absurd (cond_both (nat_le m o) (Some m) (Some o) (λ (r : Option ℕ). None ≡ r → ⊥) (λ le e. cc) (λ gt e. cc) of)
rule_refuses None kind lives versions item (Some m) (Some s) None n is of =
    absurd (cond_both (nat_le s m) (Some s) (Some m) (λ (r : Option ℕ). None ≡ r → ⊥) (λ le e. cc) (λ gt e. cc) of)
rule_refuses None kind lives versions item (Some m) (Some s) (Some o) n is of =
    absurd (cond_both (nat_le m o) (Some m) (Some o) (λ (r : Option ℕ). None ≡ lesser (Some s) r → ⊥)
    (λ le. cond_both (nat_le s m) (Some s) (Some m) (λ (r : Option ℕ). None ≡ r → ⊥) (λ le e. cc) (λ gt e. cc))
    (λ gt. cond_both (nat_le s o) (Some s) (Some o) (λ (r : Option ℕ). None ≡ r → ⊥) (λ le e. cc) (λ gt e. cc)) of)

-- where a name occurs twice in a response, its resources are refused
twice_refused : (kind : Kind) (response : ResponseParts) (versions : List KeptVersion) (name : List ℕ)
    → nat_le 2 (length (items_named name response.items)) ≡ true
    → (lives : List Live) (item : ItemParts) → IsRefusedOf name (verdict_of kind response lives versions item, item)
twice_refused kind response versions name twice lives item named =
    let same : item.name ≡ name = (bytes_decide item.name name).0 named in
    rule_refuses (rule_of kind response lives versions item) kind lives versions item (twice_rule response item)
    (stale_rule kind lives versions item item.body) (lesser (removed_rule response item) (form_rule item.body)) 4
    (ap (λ b. cond b (Some 4) None) (ap (λ n. nat_le 2 (length (items_named n response.items))) same ∙ twice))
    refl

-- how many of the resources are of the name
named_count : (name : List ℕ) (item : ItemParts) (items : List ItemParts) (named : Bool) → bytes_eq item.name name ≡ named
    → length (items_named name (item ∷ items)) ≡ cond named (length (items_named name items) + 1) (length (items_named name items))
named_count name item items true is = simp is (omega arith)
named_count name item items false is = simp is refl

named_at : (name : List ℕ) (items : List ItemParts) (place : ℕ) (item : ItemParts) → slice_get items place ≡ Some item → item.name ≡ name
    → 1 ≤ length (items_named name items)
named_at name [] place item there is = absurd (cc)
named_at name (first ∷ items) zero item there is =
    let same : first ≡ item = cc in
    let named : bytes_eq first.name name ≡ true = (bytes_decide first.name name).1 (ap (λ (i : ItemParts). i.name) same ∙ is) in
    omega (arith, named_count name first items true named)
named_at name (first ∷ items) (suc place) item there is =
    let more : 1 ≤ length (items_named name items) = named_at name items place item there is in
    elim (cases_Bool (bytes_eq first.name name)) [
      | inl here ↦ omega (arith, more, named_count name first items true here)
      | inr other ↦ omega (arith, more, named_count name first items false other)
    ]

-- a name that a resource has isn't removed
pub stands_unremoved : (response : ResponseParts) (place : ℕ) (item : ItemParts) → slice_get response.items place ≡ Some item
    → is_removed response item.name ≡ false
stands_unremoved response place item there =
    and_right (is_among item.name response.removed) (not (nat_le 1 (length (items_named item.name response.items))))
    (ap not (le-leb 1 (length (items_named item.name response.items)) (named_at item.name response.items place item there refl)))

none_named : (name : List ℕ) (verdicts : List Verdict) (items : List ItemParts) → length (items_named name items) ≤ 0
    → ByRecursion (IsRefusedOf name) (zip verdicts items)
none_named name [] items none = tt
none_named name (verdict ∷ verdicts) [] none = tt
none_named name (verdict ∷ verdicts) (item ∷ items) none =
    elim (cases_Bool (bytes_eq item.name name)) [
      | inl here ↦ absurd (omega (arith, none, named_count name item items true here))
      | inr other ↦ (λ h. absurd (both_ways (bytes_eq item.name name) other h), none_named name verdicts items (omega (arith, none, named_count name item items false other)))
    ]

-- where a name occurs once, and its resource is refused, each of its resources is
once_refused : (name : List ℕ) (verdicts : List Verdict) (items : List ItemParts) (place rule : ℕ) (item : ItemParts)
    → length (items_named name items) ≤ 1 → slice_get verdicts place ≡ Some (Refused rule) → slice_get items place ≡ Some item → item.name ≡ name
    → ByRecursion (IsRefusedOf name) (zip verdicts items)
once_refused name [] items place rule item one judged there is = tt
once_refused name (verdict ∷ verdicts) [] place rule item one judged there is = tt
once_refused name (verdict ∷ verdicts) (first ∷ items) zero rule item one judged there is =
    let same : first ≡ item = cc in
    let refused : verdict ≡ Refused rule = cc in
    let named : bytes_eq first.name name ≡ true = (bytes_decide first.name name).1 (ap (λ (i : ItemParts). i.name) same ∙ is) in
    (λ h. ap is_refused refused, none_named name verdicts items (omega (arith, one, named_count name first items true named)))
once_refused name (verdict ∷ verdicts) (first ∷ items) (suc place) rule item one judged there is =
    let more : 1 ≤ length (items_named name items) = named_at name items place item there is in
    elim (cases_Bool (bytes_eq first.name name)) [
      | inl here ↦ absurd (omega (arith, one, more, named_count name first items true here))
      | inr other ↦ (
        λ h. absurd (both_ways (bytes_eq first.name name) other h),
        once_refused name verdicts items place rule item (omega (arith, one, named_count name first items false other)) judged there is,
      )
    ]

-- where a resource of a response is refused, each resource of its name is
pub name_refused : (kind : Kind) (response : ResponseParts) (versions : List KeptVersion) (lives : List Live) (place rule : ℕ) (item : ItemParts)
    → slice_get (verdicts_from kind response versions lives response.items) place ≡ Some (Refused rule)
    → slice_get response.items place ≡ Some item
    → ByRecursion (IsRefusedOf item.name) (zip (verdicts_from kind response versions lives response.items) response.items)
name_refused kind response versions lives place rule item judged there =
    elim (cases_Bool (nat_le 2 (length (items_named item.name response.items)))) [
      | inl twice ↦ judged_by (IsRefusedOf item.name) kind response versions (twice_refused kind response versions item.name twice) lives response.items
      | inr once ↦ once_refused item.name (verdicts_from kind response versions lives response.items) response.items place rule item
          (omega (arith, leb-false 2 (length (items_named item.name response.items)) once)) judged there refl
    ]
