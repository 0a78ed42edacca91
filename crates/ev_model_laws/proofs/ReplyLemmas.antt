-- The reply to a response that was answered, by the written rules that its resources break.
use Rattle.std.proofs.Common.{◌≡◌, ◌↔◌, ℕ, Bool, true, false, cond, List, [], ◌∷◌, length, map, Option, Some, None, refl, ap, sym, ◌∙◌, arith}
use Rattle.std.specs.Prelude.{All, nat_le, slice_get}
use Rattle.std.specs.Option.{option_or}
use Rattle.std.proofs.lemmas.Bool.{cond_both, cond-true}
use Rattle.std.proofs.lemmas.List.Elements.{All-nil, All-cons, All-head, All-tail}
use Rattle.ev_types.specs.Items.{ItemParts, ResponseParts}
use Rattle.ev_types.specs.SameContents.{content_same}
use Rattle.ev_types.specs.declared.contents.Kind.{Kind}
use Rattle.ev_types.specs.declared.contents.Kind.TheVariants.{Cds, Eds, Lds, Rds, Sds, Ecds}
use Rattle.ev_types.specs.declared.contents.Body.{Body}
use Rattle.ev_types.specs.declared.contents.Body.TheVariants.{Good, Bad, Beat}
use Rattle.ev_types.specs.declared.contents.Content.{Content}
use Rattle.ev_types.specs.declared.contents.Request.{Request}
use Rattle.ev_types.specs.declared.events.Answer.{Answer}
use Rattle.ev_types.specs.declared.events.Answer.TheVariants.{Ignored, Replied}
use Rattle.ev_types.specs.declared.events.Entry.{Entry}
use Rattle.ev_types.specs.declared.events.Event.{Event}
use Rattle.ev_types.specs.declared.events.Verdict.{Verdict}
use Rattle.ev_types.specs.declared.events.Verdict.TheVariants.{New, InPlace, Back, Same, Kept, Unasked, Renewed, Refused}
use Rattle.ev_types.specs.declared.rows.KeptVersion.{KeptVersion}
use Rattle.ev_types.specs.declared.rows.Live.{Live}
use Rattle.ev_model.specs.World.{World}
use Rattle.ev_model.specs.Live.{lives_of, newest_of}
use Rattle.ev_model.specs.Versions.{is_kept}
use Rattle.ev_model.specs.Watching.{is_watched}
use Rattle.ev_model.specs.Verdicts.{stale_rule, twice_rule, removed_rule, form_rule, lesser, rule_of, is_taken, against, good_verdict, body_verdict, verdict_by, verdict_of, lives_after, lives_left, verdicts_from, verdicts_for, verdicts_by, verdicts_of, serving_of, listener_verdict}
use Rattle.ev_model.specs.Requests.{refusals, refusal_text, message_of, reply_of, requests_of}
use Rattle.ev_model.specs.Step.{responded, respond, respond_by, step}
use Rattle.ev_model.specs.Laws.{Told, world_told, taken_rule, broken_rule, rules_from, rules_broken, complaints, refused_by, IsRepliedByRules, Acknowledged}
use Rattle.ev_model_laws.proofs.PlaceLemmas.{IsAnswered, Runs, entry_answered}
use Rattle.ev_model_laws.proofs.RefusedLemmas.{was_replied}
use Rattle.ev_model_laws.proofs.VerdictLemmas.{listener_each}

against_accepts : (live : Option Live) (content : Content) → refused_by (against live content) ≡ None
against_accepts None content = refl
against_accepts (Some live) content =
    cond_both (content_same live.content content) Same New (λ (v : Verdict). refused_by v ≡ None) (λ is. refl) (λ other. refl)

watched_accepts : (watched : Bool) → refused_by (cond watched Kept Unasked) ≡ None
watched_accepts true = refl
watched_accepts false = refl

taken_refused : (taken : Bool) (free : Verdict) → refused_by free ≡ None → refused_by (cond taken (Refused 15) free) ≡ cond taken (Some 15) None
taken_refused true free accepts = refl
taken_refused false free accepts = accepts

good_refused : (kind : Kind) (lives : List Live) (name : List ℕ) (content : Content)
    → refused_by (good_verdict kind lives name content) ≡ taken_rule kind lives name (Good content)
good_refused Cds lives name content = against_accepts (newest_of lives Cds name) content
good_refused Eds lives name content = watched_accepts (is_watched lives Eds name)
good_refused Lds lives name content =
    taken_refused (is_taken lives name content) (listener_verdict (newest_of lives Lds name) (serving_of lives Lds name) content)
    (listener_each (λ (v : Verdict). refused_by v ≡ None) refl refl refl refl (newest_of lives Lds name) (serving_of lives Lds name) content)
good_refused Rds lives name content = watched_accepts (is_watched lives Rds name)
good_refused Sds lives name content = watched_accepts (is_watched lives Sds name)
good_refused Ecds lives name content = watched_accepts (is_watched lives Ecds name)

beat_free : (kind : Kind) (lives : List Live) (name : List ℕ) → taken_rule kind lives name Beat ≡ None
beat_free Cds lives name = refl
beat_free Eds lives name = refl
beat_free Lds lives name = refl
beat_free Rds lives name = refl
beat_free Sds lives name = refl
beat_free Ecds lives name = refl

lesser_some : (first : Option ℕ) (rule : ℕ) → lesser first (Some rule) ≡ None → ⊥
lesser_some None rule none = cc
lesser_some (Some other) rule none =
    cond_both (nat_le other rule) (Some other) (Some rule) (λ (r : Option ℕ). r ≡ None → ⊥) (λ is e. cc) (λ isnt e. cc) none

-- where one part is a rule, the least isn't none
lesser_right : (first second : Option ℕ) → (second ≡ None → ⊥) → lesser first second ≡ None → ⊥
lesser_right first None some none = some refl
lesser_right first (Some rule) some none = lesser_some first rule none

module _ (kind : Kind) (response : ResponseParts) (lives : List Live) (versions : List KeptVersion) (item : ItemParts) where
  bad_breaks : (rule : ℕ) → item.body ≡ Bad rule → rule_of kind response lives versions item ≡ None → ⊥
  bad_breaks rule is =
      lesser_right (stale_rule kind lives versions item item.body) (lesser (twice_rule response item) (lesser (removed_rule response item) (form_rule item.body)))
      (lesser_right (twice_rule response item) (lesser (removed_rule response item) (form_rule item.body))
      (lesser_right (removed_rule response item) (form_rule item.body)
      (λ none. let never : Some rule ≡ None = sym (ap form_rule is) ∙ none in cc)))

  refused_body : (body : Body) → item.body ≡ body → rule_of kind response lives versions item ≡ None
      → refused_by (body_verdict kind lives versions item body) ≡ taken_rule kind lives item.name body
  refused_body (Good content) is none = good_refused kind lives item.name content
  refused_body (Bad rule) is none = absurd (bad_breaks rule is none)
  refused_body Beat is none =
      cond_both (is_kept versions kind item.name item.version) Renewed Unasked (λ (v : Verdict). refused_by v ≡ None) (λ kept. refl) (λ other. refl)
      ∙ sym (beat_free kind lives item.name)

  refused_rule : (rule : Option ℕ) → rule_of kind response lives versions item ≡ rule
      → refused_by (verdict_by rule kind lives versions item) ≡ option_or rule (taken_rule kind lives item.name item.body)
  refused_rule None is = refused_body item.body refl is
  refused_rule (Some rule) is = refl

  -- a resource is refused by the written rule that it breaks
  refused_breaks : refused_by (verdict_of kind response lives versions item) ≡ broken_rule kind response versions lives item
  refused_breaks = refused_rule (rule_of kind response lives versions item) refl

refused_from : (kind : Kind) (response : ResponseParts) (versions : List KeptVersion) (lives : List Live) (items : List ItemParts)
    → map refused_by (verdicts_from kind response versions lives items) ≡ rules_from kind response versions lives items
refused_from kind response versions lives [] = refl
refused_from kind response versions lives (item ∷ items) =
    let left : List Live = lives_after kind (verdict_of kind response lives versions item) item.name item.body lives in
    let first : refused_by (verdict_of kind response lives versions item) ≡ broken_rule kind response versions lives item =
    refused_breaks kind response lives versions item in
    let rest : map refused_by (verdicts_from kind response versions left items) ≡ rules_from kind response versions left items =
    refused_from kind response versions left items in
    ap (λ (rule : Option ℕ). rule ∷ map refused_by (verdicts_from kind response versions left items)) first
    ∙ ap (λ (rules : List (Option ℕ)). broken_rule kind response versions lives item ∷ rules) rest

length-rules_from : (kind : Kind) (response : ResponseParts) (versions : List KeptVersion) (lives : List Live) (items : List ItemParts)
    → length (rules_from kind response versions lives items) ≡ length items
length-rules_from kind response versions lives [] = refl
length-rules_from kind response versions lives (item ∷ items) =
    let rest : length (rules_from kind response versions (lives_after kind (verdict_of kind response lives versions item) item.name item.body lives) items) ≡ length items =
    length-rules_from kind response versions (lives_after kind (verdict_of kind response lives versions item) item.name item.body lives) items in
    omega (arith, rest)

told_alike : (verdicts : List Verdict) (items : List ItemParts) → refusals verdicts items ≡ complaints (map refused_by verdicts) items
told_alike [] items = refl
told_alike (verdict ∷ verdicts) [] = refl
told_alike (New ∷ verdicts) (item ∷ items) = told_alike verdicts items
told_alike (InPlace ∷ verdicts) (item ∷ items) = told_alike verdicts items
told_alike (Back ∷ verdicts) (item ∷ items) = told_alike verdicts items
told_alike (Same ∷ verdicts) (item ∷ items) = told_alike verdicts items
told_alike (Kept ∷ verdicts) (item ∷ items) = told_alike verdicts items
told_alike (Unasked ∷ verdicts) (item ∷ items) = told_alike verdicts items
told_alike (Renewed ∷ verdicts) (item ∷ items) = told_alike verdicts items
told_alike (Refused rule ∷ verdicts) (item ∷ items) = ap (λ (texts : List (List ℕ)). refusal_text item.name rule ∷ texts) (told_alike verdicts items)

none_broken : (rules : List (Option ℕ)) (items : List ItemParts) → length rules ≡ length items
    → (message_of (complaints rules items) ≡ None) ↔ All (λ (rule : Option ℕ). rule ≡ None) rules
none_broken [] [] same = (λ e. All-nil (λ (rule : Option ℕ). rule ≡ None), λ h. refl)
none_broken [] (item ∷ items) same = absurd (omega arith)
none_broken (rule ∷ rules) [] same = absurd (omega arith)
none_broken (None ∷ rules) (item ∷ items) same =
    let rest : (message_of (complaints rules items) ≡ None) ↔ All (λ (rule : Option ℕ). rule ≡ None) rules = none_broken rules items (omega arith) in
    (λ e. All-cons (λ (rule : Option ℕ). rule ≡ None) None rules refl (rest.0 e), λ h. rest.1 (All-tail (λ (rule : Option ℕ). rule ≡ None) None rules h))
none_broken (Some rule ∷ rules) (item ∷ items) same =
    (λ e. absurd (cc), λ h. absurd (let never : Some rule ≡ None = All-head (λ (r : Option ℕ). r ≡ None) (Some rule) rules h in cc))

-- the reply comes first
reply_first : (kind : Kind) (response : ResponseParts) (world : World) (requests : List Request) (verdicts : List Verdict)
    → (respond_by (Some kind) response world).1 ≡ Replied requests verdicts → slice_get requests 0 ≡ Some (reply_of kind response verdicts)
reply_first kind response world requests verdicts h =
    let vs : List Verdict = verdicts_of (lives_of world) world.versions response in
    let asked : requests_of world (responded kind response vs world) (Some (reply_of kind response vs)) ≡ requests = cc in
    let judged : vs ≡ verdicts = cc in
    ap (λ (rs : List Request). slice_get rs 0) (sym asked) ∙ ap (λ (given : List Verdict). Some (reply_of kind response given)) judged

-- a response of a kind with the verdicts on it is replied to by the written rules
replied_by_rules : (kind : Kind) (response : ResponseParts) (world : World) (requests : List Request) (verdicts : List Verdict)
    → slice_get requests 0 ≡ Some (reply_of kind response verdicts) → verdicts ≡ verdicts_for kind (lives_of world) world.versions response
    → IsRepliedByRules world kind response requests verdicts
replied_by_rules kind response world requests verdicts first judged =
    let lives : List Live = lives_left kind response (lives_of world) in
    let broken : map refused_by verdicts ≡ rules_broken world kind response =
    ap (map refused_by) judged ∙ refused_from kind response world.versions lives response.items in
    let error : (reply_of kind response verdicts).error ≡ message_of (complaints (rules_broken world kind response) response.items) =
    ap message_of (told_alike verdicts response.items ∙ ap (λ (rules : List (Option ℕ)). complaints rules response.items) broken) in
    let none : (message_of (complaints (rules_broken world kind response) response.items) ≡ None) ↔ All (λ (rule : Option ℕ). rule ≡ None) (rules_broken world kind response) =
    none_broken (rules_broken world kind response) response.items (length-rules_from kind response world.versions lives response.items) in
    record {
      reply = reply_of kind response verdicts;
      first = first;
      typed = refl;
      nonce = refl;
      acknowledged = (λ e. none.0 (sym error ∙ e), λ h. error ∙ none.1 h);
      named = error;
      refused = broken;
    }

-- a response is acknowledged exactly where all its resources meet the written rules
pub runs_acknowledge : (told : Told) → Runs told → Acknowledged told
runs_acknowledge told run k kind response verdicts replied =
    let world : World = world_told told k in
    let entry : Entry = replied.entry in
    let answered : IsAnswered told k entry = entry_answered told k entry run replied.there in
    let answer : (respond response world).1 ≡ Replied replied.requests verdicts =
    sym (ap (λ (event : Event). (step told.format world entry.actor event).1) replied.event) ∙ sym answered.answer ∙ replied.answer in
    let was : (world.stream ≡ true) × (verdicts ≡ verdicts_of (lives_of world) world.versions response) =
    was_replied world.stream response world replied.requests verdicts refl answer in
    let by_kind : (respond_by (Some kind) response world).1 ≡ Replied replied.requests verdicts =
    ap (λ (typed : Option Kind). (respond_by typed response world).1) (sym replied.typed)
    ∙ ap (λ (d : World × Answer). d.1) (sym (cond-true world.stream (respond_by response.kind response world) (world, Ignored) was.0))
    ∙ answer in
    replied_by_rules kind response world replied.requests verdicts (reply_first kind response world replied.requests verdicts by_kind)
    (was.1 ∙ ap (λ (typed : Option Kind). verdicts_by typed (lives_of world) world.versions response) replied.typed)
