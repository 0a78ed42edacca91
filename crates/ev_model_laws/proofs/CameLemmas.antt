-- What was received for names was said by the control plane, timed out, or is the end of what it has said,
-- and a version of endpoints or routes is kept only of a name that was told of.
use Rattle.std.proofs.Common.{◌≡◌, ℕ, ◌+◌, Bool, true, false, ◌&&◌, ◌||◌, cond, List, [], ◌∷◌, ◌++◌, take, map, filter, length, Option, Some, refl, arith, sym, ap, ap₂, ◌∙◌, subst, subst₂}
use Rattle.std.specs.Prelude.{unwrap_or, option_map}
use Rattle.std.specs.List.{All, Contains, AllByRecursion as ByRecursion, fold, zip}
use Rattle.std.specs.Str.{bytes_eq}
use Rattle.std.specs.Cmp.{first_so, second_so}
use Rattle.std.proofs.lemmas.Bool.{both_ways, cond_both, and_from, or_left, or_right, not-true}
use Rattle.std.proofs.lemmas.List.Elements.{All-nil, All-append, All-map, All-weaker, All-filter, All-push, All-contains, All-from_recursion, recursion_from_All}
use Rattle.ev_types.specs.Items.{ItemParts, ResponseParts}
use Rattle.ev_types.specs.Kinds.{kind_same, kind_decides, is_by_name}
use Rattle.ev_types.specs.Same.{bytes_decide}
use Rattle.ev_types.specs.Timeouts.{TimeoutParts}
use Rattle.ev_types.specs.declared.contents.Kind.{Kind}
use Rattle.ev_types.specs.declared.contents.Kind.TheVariants.{Cds, Eds, Lds, Rds, Sds, Ecds}
use Rattle.ev_types.specs.declared.contents.Body.{Body}
use Rattle.ev_types.specs.declared.contents.Body.TheVariants.{Good, Bad, Beat}
use Rattle.ev_types.specs.declared.contents.Request.{Request}
use Rattle.ev_types.specs.declared.events.Answer.{Answer}
use Rattle.ev_types.specs.declared.events.Answer.TheVariants.{Ignored, Replied, Moved}
use Rattle.ev_types.specs.declared.events.Entry.{Entry}
use Rattle.ev_types.specs.declared.events.Event.{Event}
use Rattle.ev_types.specs.declared.events.Event.TheVariants.{Response, FetchTimeout}
use Rattle.ev_types.specs.declared.events.Verdict.{Verdict}
use Rattle.ev_types.specs.declared.events.Verdict.TheVariants.{New, InPlace, Back, Same, Kept, Unasked, Renewed, Refused}
use Rattle.ev_types.specs.declared.journals.Format.{Format}
use Rattle.ev_types.specs.declared.rows.Arrival.TheVariants.{Value, Absent, Bad as bad, TimedOut, Ended}
use Rattle.ev_types.specs.declared.rows.KeptVersion.{KeptVersion}
use Rattle.ev_model.specs.World.{World, Arrived, opening}
use Rattle.ev_model.specs.Live.{lives_of}
use Rattle.ev_model.specs.Versions.{is_version_of, is_bounded, bounded_as, with_version}
use Rattle.ev_model.specs.Verdicts.{is_removed, lives_left, verdicts_for}
use Rattle.ev_model.specs.Watching.{is_watched}
use Rattle.ev_model.specs.Warming.{is_word, is_timeout}
use Rattle.ev_model.specs.Rows.{is_version_left, arrived, absent_names, with_absences, with_removals, version_in, keep_version, add_row, keep_value, with_content, told_of_refusal, refuse, renew, add_item, add_items, made_names, with_first, add_in_place, go_back, serving_row}
use Rattle.ev_model.specs.Tidy.{promoted, is_version_due, tidy}
use Rattle.ev_model.specs.Signals.{no_hosts, no_routes, with_end, forget_version}
use Rattle.ev_model.specs.Step.{step, answered}
use Rattle.ev_model.specs.Entries.{made_rows, is_word_on, has_word_on, is_response_of, tells_of_name, times_out, tells_of_removal}
use Rattle.ev_model.specs.Laws.{Told, world_told, IsEntryAt}
use Rattle.ev_model_laws.specs.Kept.{entries_after, was_told, was_timed, has_come_by, AreMade, ComesByEntries}
use Rattle.ev_model_laws.proofs.TidyLists.{all_of, any_at}
use Rattle.ev_model_laws.proofs.AnyLemmas.{any_first, any_found}
use Rattle.ev_model_laws.proofs.SinceLemmas.{after_any, after_more, after_new}
use Rattle.ev_model_laws.proofs.VersionLemmas.{all_with}
use Rattle.ev_model_laws.proofs.ExpiredLemmas.{passed}
use Rattle.ev_model_laws.proofs.VerdictLemmas.{fits, judged_by, verdict_fits, listener_not}
use Rattle.ev_model_laws.proofs.EventLemmas.{step-leads}
use Rattle.ev_model_laws.proofs.PlaceLemmas.{take_one, IsAnswered, world_next}
use Rattle.ev_types.specs.declared.origins.KeptChain.{KeptChain}
use Rattle.ev_model.specs.Origins.{kept_from}
use Rattle.ev_model_laws.proofs.KeepLemmas.{with_content-holds}
use Rattle.ev_types.specs.declared.contents.Content.{Content}

-- it is one of endpoints or routes of a name that was reported, or one of clusters or listeners
abbrev IsVersionTold : List Entry → KeptVersion → Type 0
IsVersionTold entries kept = is_by_name kept.kind ≡ true → was_told entries kept.kind kept.name ≡ true

module _ (entries : List Entry) where
  version_told : (new : KeptVersion) (world : World) → IsVersionTold entries new → ComesByEntries world entries
      → ComesByEntries (record world { versions = with_version new world.versions }) entries
  version_told new world told come = record {
    arrivals = come.arrivals;
    versions = All-from_recursion (IsVersionTold entries) (with_version new world.versions)
        (all_with (IsVersionTold entries) new world.versions told (recursion_from_All (IsVersionTold entries) world.versions come.versions));
  }

  versions_filtered : (test : KeptVersion → Bool) (world : World) → ComesByEntries world entries
      → ComesByEntries (record world { versions = filter test world.versions }) entries
  versions_filtered test world come = record { arrivals = come.arrivals; versions = All-filter test (IsVersionTold entries) world.versions come.versions }

  marked_told : (marks : Bool) (kept : KeptVersion) → IsVersionTold entries kept → IsVersionTold entries (cond marks (record kept { bounded = true }) kept)
  marked_told true kept told = told
  marked_told false kept told = told

  versions_renewed : (kind : Kind) (name : List ℕ) (world : World) → ComesByEntries world entries → ComesByEntries (renew kind name world) entries
  versions_renewed kind name world come = record {
    arrivals = come.arrivals;
    versions = All-map (IsVersionTold entries) (bounded_as kind name) world.versions
        (All-weaker (IsVersionTold entries) (λ (kept : KeptVersion). IsVersionTold entries (bounded_as kind name kept))
        (λ (kept : KeptVersion). marked_told (is_version_of kind name kept) kept) world.versions come.versions);
  }

  one_came : (a : Arrived) (world : World) → has_come_by entries a ≡ true → ComesByEntries world entries
      → ComesByEntries (record world { arrivals = world.arrivals ++ a ∷ [] }) entries
  one_came a world by come = record {
    arrivals = All-push (λ (b : Arrived). has_come_by entries b ≡ true) world.arrivals a come.arrivals by;
    versions = come.versions;
  }

  tidied_come : (world : World) → ComesByEntries world entries → ComesByEntries (tidy world) entries
  tidied_come world come = record {
    arrivals = All-filter (λ (a : Arrived). is_watched (lives_of (promoted world)) a.kind a.name) (λ (a : Arrived). has_come_by entries a ≡ true) world.arrivals come.arrivals;
    versions = All-filter (is_version_due (lives_of (promoted world))) (IsVersionTold entries) world.versions come.versions;
  }

  -- what a response does, whose words and removals the entries have told when so many numbers were allocated
  module _ (made : ℕ) (kind : Kind) (told : List ℕ → Bool)
      (so : (name : List ℕ) → told name ≡ true → was_told (entries_after made entries) kind name ≡ true) where
    told_of : (name : List ℕ) → told name ≡ true → was_told entries kind name ≡ true
    told_of name h = after_any (λ (e : Entry). tells_of_name kind name e.event e.answer) made entries (so name h)

    told_at : (drawn : ℕ) → drawn ≡ made → (name : List ℕ) → told name ≡ true → was_told (entries_after drawn entries) kind name ≡ true
    told_at drawn same name h = ap (λ n. was_told (entries_after n entries) kind name) same ∙ so name h

    absences_come : (drawn : ℕ) → drawn ≡ made → (names : List (List ℕ)) → ByRecursion (λ name. told name ≡ true) names
        → ByRecursion (λ (a : Arrived). has_come_by entries a ≡ true) (map (arrived drawn kind Absent) names)
    absences_come drawn same [] each = tt
    absences_come drawn same (name ∷ names) each = (told_at drawn same name each.0, absences_come drawn same names each.1)

    absent_come : (response : ResponseParts) (world : World) → world.made ≡ made
        → ((name : List ℕ) → is_removed response name ≡ true → told name ≡ true)
        → ComesByEntries world entries → ComesByEntries (with_absences kind response world) entries
    absent_come response world same removed come =
        let names : List (List ℕ) = absent_names kind response world in
        let test : List ℕ → Bool = λ name. is_removed response name && is_watched (lives_of world) kind name in
        let each : All (λ name. told name ≡ true) names =
        all_of (λ name. told name ≡ true) names
        (λ name there. removed name (first_so (is_removed response name) (is_watched (lives_of world) kind name) (passed test response.removed name there))) in
        record {
          arrivals = All-append (λ (a : Arrived). has_come_by entries a ≡ true) world.arrivals
              (map (arrived world.made kind Absent) names) come.arrivals
              (All-from_recursion (λ (a : Arrived). has_come_by entries a ≡ true) (map (arrived world.made kind Absent) names)
              (absences_come world.made same names (recursion_from_All (λ name. told name ≡ true) names each)));
          versions = All-filter (is_version_left kind response) (IsVersionTold entries) world.versions come.versions;
        }

    row_come : (item : ItemParts) (content : Content) (chains : List KeptChain) (world : World) → is_by_name kind ≡ false → ComesByEntries world entries
        → ComesByEntries (add_row kind item content chains world) entries
    row_come item content chains world isnt come =
        version_told (version_in kind item) _ (λ is. absurd (both_ways (is_by_name kind) isnt is)) (record { arrivals = come.arrivals; versions = come.versions })

    back_come : (item : ItemParts) (world : World) → is_by_name kind ≡ false → ComesByEntries world entries
        → ComesByEntries (go_back kind item world) entries
    back_come item world isnt come =
        version_told (version_in kind item) _ (λ is. absurd (both_ways (is_by_name kind) isnt is)) (record { arrivals = come.arrivals; versions = come.versions })

    same_come : (item : ItemParts) (world : World) → is_by_name kind ≡ false → ComesByEntries world entries
        → ComesByEntries (keep_version kind item world) entries
    same_come item world isnt come =
        version_told (version_in kind item) world (λ is. absurd (both_ways (is_by_name kind) isnt is)) come

    value_come : (item : ItemParts) (body : Body) (world : World) → world.made ≡ made → told item.name ≡ true → ComesByEntries world entries
        → ComesByEntries (with_content (keep_value kind item) body world) entries
    value_come item (Good content) world same is come =
        version_told (version_in kind item)
        (record world { arrivals = world.arrivals ++ arrived world.made kind (Value content) item.name ∷ [] })
        (λ by_name. told_of item.name is)
        (one_came (arrived world.made kind (Value content) item.name) world (told_at world.made same item.name is) come)
    value_come item (Bad rule) world same is come = come
    value_come item Beat world same is come = come

    refusal_come : (name : List ℕ) (world : World) → world.made ≡ made → told name ≡ true → ComesByEntries world entries
        → ComesByEntries (told_of_refusal kind name world) entries
    refusal_come name world same is come =
        cond_both (is_watched (lives_of world) kind name)
        (record world { arrivals = world.arrivals ++ arrived world.made kind bad name ∷ [] }) world
        (λ (w : World). ComesByEntries w entries)
        (λ watched. one_came (arrived world.made kind bad name) world (told_at world.made same name is) come) (λ unwatched. come)

-- a kind that makes generations isn't asked for by name
pub by_name_not : (kind : Kind) → fits kind New ≡ true → is_by_name kind ≡ false
by_name_not kind fit = not-true (is_by_name kind) fit

own_name : (name : List ℕ) → bytes_eq name name ≡ true
own_name name = (bytes_decide name name).1 refl

-- a response of endpoints or routes draws no number
told_drawn : (kind : Kind) (name : List ℕ) (world : World) → (told_of_refusal kind name world).made ≡ world.made
told_drawn kind name world =
    cond_both (is_watched (lives_of world) kind name)
    (record world { arrivals = world.arrivals ++ arrived world.made kind bad name ∷ [] }) world
    (λ (w : World). w.made ≡ world.made) (λ watched. refl) (λ unwatched. refl)

refuse_drawn : (kind : Kind) (name : List ℕ) (world : World) → (refuse kind name world).made ≡ world.made
refuse_drawn Cds name world = refl
refuse_drawn Eds name world = told_drawn Eds name world
refuse_drawn Lds name world = refl
refuse_drawn Rds name world = told_drawn Rds name world
refuse_drawn Sds name world = told_drawn Sds name world
refuse_drawn Ecds name world = told_drawn Ecds name world

pub item_drawn : (kind : Kind) (verdict : Verdict) (item : ItemParts) (world : World) → fits kind verdict ≡ true → is_by_name kind ≡ true
    → (add_item kind verdict item world).made ≡ world.made
item_drawn kind New item world fit by_name = absurd (both_ways (is_by_name kind) (by_name_not kind fit) by_name)
item_drawn kind InPlace item world fit by_name = absurd (both_ways (is_by_name kind) (listener_not kind fit) by_name)
item_drawn kind Back item world fit by_name = absurd (both_ways (is_by_name kind) (listener_not kind fit) by_name)
item_drawn kind Same item world fit by_name = absurd (both_ways (is_by_name kind) (by_name_not kind fit) by_name)
item_drawn kind Kept item world fit by_name =
    with_content-holds (λ (w : World). w.made ≡ world.made) (keep_value kind item) item.body world (λ content. refl) refl
item_drawn kind Unasked item world fit by_name = refl
item_drawn kind Renewed item world fit by_name = refl
item_drawn kind (Refused rule) item world fit by_name = refuse_drawn kind item.name world

pub removals_drawn : (kind : Kind) (response : ResponseParts) (world : World) → (with_removals kind response world).made ≡ world.made
removals_drawn Cds response world = refl
removals_drawn Eds response world = refl
removals_drawn Lds response world = refl
removals_drawn Rds response world = refl
removals_drawn Sds response world = refl
removals_drawn Ecds response world = refl

module _ (entries : List Entry) (made : ℕ) (kind : Kind) (told : List ℕ → Bool)
    (so : (name : List ℕ) → told name ≡ true → was_told (entries_after made entries) kind name ≡ true) where
  refuse_come : (of : Kind) → kind ≡ of → (name : List ℕ) (world : World) → (is_by_name kind ≡ true → world.made ≡ made) → told name ≡ true
      → ComesByEntries world entries → ComesByEntries (refuse of name world) entries
  refuse_come Cds is name world same h come = come
  refuse_come Eds is name world same h come =
      refusal_come entries made Eds told
      (λ n t. subst (λ (k : Kind). was_told (entries_after made entries) k n ≡ true) is (so n t)) name world
      (same (ap is_by_name is)) h come
  refuse_come Lds is name world same h come = come
  refuse_come Rds is name world same h come =
      refusal_come entries made Rds told
      (λ n t. subst (λ (k : Kind). was_told (entries_after made entries) k n ≡ true) is (so n t)) name world
      (same (ap is_by_name is)) h come
  refuse_come Sds is name world same h come =
      refusal_come entries made Sds told
      (λ n t. subst (λ (k : Kind). was_told (entries_after made entries) k n ≡ true) is (so n t)) name world
      (same (ap is_by_name is)) h come
  refuse_come Ecds is name world same h come =
      refusal_come entries made Ecds told
      (λ n t. subst (λ (k : Kind). was_told (entries_after made entries) k n ≡ true) is (so n t)) name world
      (same (ap is_by_name is)) h come

  item_come : (verdict : Verdict) (item : ItemParts) (world : World) → (is_by_name kind ≡ true → world.made ≡ made)
      → fits kind verdict ≡ true
      → ((name : List ℕ) → is_word_on name verdict item ≡ true → told name ≡ true)
      → ComesByEntries world entries → ComesByEntries (add_item kind verdict item world) entries
  item_come New item world same fit word come =
      with_content-holds (λ (w : World). ComesByEntries w entries) (λ content. add_row kind item content []) item.body world
      (λ content. row_come entries made kind told so item content [] world (by_name_not kind fit) come) come
  item_come InPlace item world same fit word come =
      with_content-holds (λ (w : World). ComesByEntries w entries) (add_in_place kind item) item.body world
      (λ content.
      row_come entries made kind told so item content (kept_from (serving_row kind item.name world.rows) content) world (listener_not kind fit) come)
      come
  item_come Back item world same fit word come =
      with_content-holds (λ (w : World). ComesByEntries w entries) (λ content. go_back kind item) item.body world
      (λ content. back_come entries made kind told so item world (listener_not kind fit) come) come
  item_come Same item world same fit word come =
      with_content-holds (λ (w : World). ComesByEntries w entries) (λ content. keep_version kind item) item.body world
      (λ content. same_come entries made kind told so item world (by_name_not kind fit) come) come
  item_come Kept item world same fit word come =
      value_come entries made kind told so item item.body world (same fit) (word item.name (own_name item.name)) come
  item_come Unasked item world same fit word come = come
  item_come Renewed item world same fit word come = versions_renewed entries kind item.name world come
  item_come (Refused rule) item world same fit word come =
      refuse_come kind refl item.name world same (word item.name (own_name item.name)) come

  items_come : (judged : List (Verdict × ItemParts)) (world : World) → (is_by_name kind ≡ true → world.made ≡ made)
      → ByRecursion (λ (one : Verdict × ItemParts). fits kind one.0 ≡ true) judged
      → ByRecursion (λ (one : Verdict × ItemParts). (name : List ℕ) → is_word_on name one.0 one.1 ≡ true → told name ≡ true) judged
      → ComesByEntries world entries
      → ComesByEntries (fold (λ (w : World) (one : Verdict × ItemParts). add_item kind one.0 one.1 w) world judged) entries
  items_come [] world same fit word come = come
  items_come (one ∷ judged) world same fit word come =
      items_come judged (add_item kind one.0 one.1 world)
      (λ by_name. item_drawn kind one.0 one.1 world fit.0 by_name ∙ same by_name) fit.1 word.1
      (item_come one.0 one.1 world same fit.0 word.0 come)

removals_come : (entries : List Entry) (kind : Kind) (told : List ℕ → Bool) (response : ResponseParts) (world : World)
    → ((name : List ℕ) → told name ≡ true → was_told (entries_after world.made entries) kind name ≡ true)
    → ((name : List ℕ) → tells_of_removal kind name response ≡ true → told name ≡ true)
    → ComesByEntries world entries → ComesByEntries (with_removals kind response world) entries
removals_come entries Cds told response world so removed come =
    record { arrivals = come.arrivals; versions = All-filter (is_version_left Cds response) (IsVersionTold entries) world.versions come.versions }
removals_come entries Eds told response world so removed come = absent_come entries world.made Eds told so response world refl removed come
removals_come entries Lds told response world so removed come =
    record { arrivals = come.arrivals; versions = All-filter (is_version_left Lds response) (IsVersionTold entries) world.versions come.versions }
removals_come entries Rds told response world so removed come = absent_come entries world.made Rds told so response world refl removed come
removals_come entries Sds told response world so removed come =
    record { arrivals = come.arrivals; versions = All-filter (is_version_left Sds response) (IsVersionTold entries) world.versions come.versions }
removals_come entries Ecds told response world so removed come = absent_come entries world.made Ecds told so response world refl removed come

first_come : (entries : List Entry) (kind : Kind) (names : List (List ℕ)) (world : World) → ComesByEntries world entries
    → ComesByEntries (with_first kind names world) entries
first_come entries Cds names world come = record { arrivals = come.arrivals; versions = come.versions }
first_come entries Eds names world come = come
first_come entries Lds names world come = record { arrivals = come.arrivals; versions = come.versions }
first_come entries Rds names world come = come
first_come entries Sds names world come = come
first_come entries Ecds names world come = come

-- a name that a response of this kind has a word on, or says to be removed
abbrev tells : Kind → ResponseParts → List Verdict → List ℕ → Bool
tells kind response verdicts name = has_word_on name verdicts response.items || tells_of_removal kind name response

answered_come : (entries : List Entry) (kind : Kind) (response : ResponseParts) (world : World)
    → ((name : List ℕ) → tells kind response (verdicts_for kind (lives_of world) world.versions response) name ≡ true
    → was_told (entries_after world.made entries) kind name ≡ true)
    → ComesByEntries world entries
    → ComesByEntries (answered kind response (verdicts_for kind (lives_of world) world.versions response) world).0 entries
answered_come entries kind response world so come =
    let verdicts : List Verdict = verdicts_for kind (lives_of world) world.versions response in
    let judged : List (Verdict × ItemParts) = zip verdicts response.items in
    let told : List ℕ → Bool = tells kind response verdicts in
    let left : World = with_removals kind response world in
    let words : All (λ (one : Verdict × ItemParts). (name : List ℕ) → is_word_on name one.0 one.1 ≡ true → told name ≡ true) judged =
    all_of (λ (one : Verdict × ItemParts). (name : List ℕ) → is_word_on name one.0 one.1 ≡ true → told name ≡ true) judged
    (λ (one : Verdict × ItemParts) there name is.
    or_left (has_word_on name verdicts response.items) (tells_of_removal kind name response)
    (any_at (λ (other : Verdict × ItemParts). is_word_on name other.0 other.1) judged one there is)) in
    tidied_come entries (with_first kind (made_names verdicts response.items) (add_items kind verdicts response.items left))
    (first_come entries kind (made_names verdicts response.items) (add_items kind verdicts response.items left)
    (items_come entries world.made kind told so judged left (λ by_name. removals_drawn kind response world)
    (judged_by (λ (one : Verdict × ItemParts). fits kind one.0 ≡ true) kind response world.versions
    (λ lives (item : ItemParts). verdict_fits kind response lives world.versions item) (lives_left kind response (lives_of world)) response.items)
    (recursion_from_All (λ (one : Verdict × ItemParts). (name : List ℕ) → is_word_on name one.0 one.1 ≡ true → told name ≡ true) judged words)
    (removals_come entries kind told response world so (λ name is. or_right (has_word_on name verdicts response.items) (tells_of_removal kind name response) is) come)))

-- a bounded life is that of a version that is kept, so its name was reported
bounded_told : (entries : List Entry) (kind : Kind) (name : List ℕ) (world : World) → is_by_name kind ≡ true → is_bounded world.versions kind name ≡ true
    → ComesByEntries world entries → was_told entries kind name ≡ true
bounded_told entries kind name world by_name bounded come =
    let found : (kept : KeptVersion) × Contains world.versions kept × ((is_version_of kind name kept && kept.bounded) ≡ true) =
    any_found (λ (kept : KeptVersion). is_version_of kind name kept && kept.bounded) world.versions bounded in
    let kept : KeptVersion = found.0 in
    let is : is_version_of kind name kept ≡ true = first_so (is_version_of kind name kept) kept.bounded found.2 in
    let of : kept.kind ≡ kind = (kind_decides kept.kind kind).0 (first_so (kind_same kept.kind kind) (bytes_eq kept.name name) is) in
    let named : kept.name ≡ name = (bytes_decide kept.name name).0 (second_so (kind_same kept.kind kind) (bytes_eq kept.name name) is) in
    sym (ap₂ (was_told entries) of named)
    ∙ All-contains (IsVersionTold entries) world.versions kept come.versions found.1 (ap is_by_name of ∙ by_name)

end_come : (entries : List Entry) (kind : Kind) (name : List ℕ) (world : World) → (is_by_name kind ≡ true → was_told entries kind name ≡ true)
    → ComesByEntries world entries → ComesByEntries (with_end kind name world) entries
end_come entries Cds name world told come = record { arrivals = come.arrivals; versions = come.versions }
end_come entries Eds name world told come = one_came entries (arrived world.made Eds (Ended no_hosts) name) world (told refl) come
end_come entries Lds name world told come = record { arrivals = come.arrivals; versions = come.versions }
end_come entries Rds name world told come = one_came entries (arrived world.made Rds (Ended no_routes) name) world (told refl) come
end_come entries Sds name world told come = come
end_come entries Ecds name world told come = come

own_kind : (kind : Kind) (response : ResponseParts) → response.kind ≡ Some kind → is_response_of kind response ≡ true
own_kind kind response typed =
    ap (λ (of : Option Kind). unwrap_or (option_map (kind_same kind) of) false) typed ∙ (kind_decides kind kind).1 refl

by_answer : (word timeout told timed heard more late yet : Bool) → (told ≡ true → more ≡ true) → (timed ≡ true → late ≡ true)
    → (heard ≡ true → yet ≡ true)
    → cond word told (cond timeout timed heard) ≡ true → cond word more (cond timeout late yet) ≡ true
by_answer true timeout told timed heard more late yet first second third h = first h
by_answer false true told timed heard more late yet first second third h = second h
by_answer false false told timed heard more late yet first second third h = third h

module _ (before : List Entry) (entry : Entry) (format : Format) (world : World) (drawn : length (made_rows before) ≡ world.made)
    (come : ComesByEntries world before) where
  -- the entries with one more, which is answered so
  abbrev with_answer : Answer → List Entry
  with_answer answer = before ++ record entry { answer = answer } ∷ []

  -- what came before came by the entries with one more
  still_come : (answer : Answer) → ComesByEntries world (with_answer answer)
  still_come answer = record {
    arrivals = All-weaker (λ (a : Arrived). has_come_by before a ≡ true) (λ (a : Arrived). has_come_by (with_answer answer) a ≡ true)
        (λ (a : Arrived).
        by_answer (is_word a.arrival) (is_timeout a.arrival)
        (was_told (entries_after a.made before) a.kind a.name) (was_timed (entries_after a.made before) a.kind a.name)
        (was_told before a.kind a.name)
        (was_told (entries_after a.made (with_answer answer)) a.kind a.name)
        (was_timed (entries_after a.made (with_answer answer)) a.kind a.name)
        (was_told (with_answer answer) a.kind a.name)
        (after_more (λ (e : Entry). tells_of_name a.kind a.name e.event e.answer) a.made before (record entry { answer = answer } ∷ []))
        (after_more (λ (e : Entry). times_out a.kind a.name e.event e.answer) a.made before (record entry { answer = answer } ∷ []))
        (any_first (λ (e : Entry). tells_of_name a.kind a.name e.event e.answer) before (record entry { answer = answer } ∷ [])))
        world.arrivals come.arrivals;
    versions = All-weaker (IsVersionTold before) (IsVersionTold (with_answer answer))
        (λ (kept : KeptVersion) told by_name.
        any_first (λ (e : Entry). tells_of_name kept.kind kept.name e.event e.answer) before (record entry { answer = answer } ∷ []) (told by_name))
        world.versions come.versions;
  }

  abbrev ComesBy : World × Answer → Type 0
  ComesBy did = ComesByEntries did.0 (with_answer did.1)

  told_now : (kind : Kind) (response : ResponseParts) (requests : List Request) (verdicts : List Verdict) (name : List ℕ) → entry.event ≡ Response response
      → response.kind ≡ Some kind → tells kind response verdicts name ≡ true
      → was_told (entries_after world.made (with_answer (Replied requests verdicts))) kind name ≡ true
  told_now kind response requests verdicts name is typed told =
      after_new (λ (e : Entry). tells_of_name kind name e.event e.answer) world.made before
      (record entry { answer = Replied requests verdicts })
      (omega (arith, drawn))
      (ap (λ (e : Event). tells_of_name kind name e (Replied requests verdicts)) is
      ∙ and_from (is_response_of kind response) (tells kind response verdicts name) (own_kind kind response typed) told)

  timed_now : (timeout : TimeoutParts) (name : List ℕ) (requests : List Request) → entry.event ≡ FetchTimeout timeout → timeout.name ≡ Some name
      → was_timed (entries_after world.made (with_answer (Moved requests))) timeout.kind name ≡ true
  timed_now timeout name requests is named =
      after_new (λ (e : Entry). times_out timeout.kind name e.event e.answer) world.made before (record entry { answer = Moved requests })
      (omega (arith, drawn))
      (ap (λ (e : Event). times_out timeout.kind name e (Moved requests)) is
      ∙ and_from (kind_same timeout.kind timeout.kind) (unwrap_or (option_map (bytes_eq name) timeout.name) false)
      ((kind_decides timeout.kind timeout.kind).1 refl)
      (ap (λ (o : Option (List ℕ)). unwrap_or (option_map (bytes_eq name) o) false) named ∙ own_name name))

  -- an event keeps it
  step-come : ComesBy (step format world entry.actor entry.event)
  step-come = step-leads ComesBy format world entry.actor entry.event (record {
    ignored = still_come Ignored;
    connected = λ is. tidied_come _ _ (record { arrivals = (still_come _).arrivals; versions = (still_come _).versions });
    disconnected = λ is. tidied_come _ _ (record { arrivals = (still_come _).arrivals; versions = (still_come _).versions });
    replied = λ kind response is typed.
        answered_come _ kind response world
        (λ name. told_now kind response _ (verdicts_for kind (lives_of world) world.versions response) name is typed) (still_come _);
    resulted = λ cluster host healthy rows is. tidied_come _ _ (record { arrivals = (still_come _).arrivals; versions = (still_come _).versions });
    timed = λ timeout name is named.
        tidied_come _ _
        (one_came _ (arrived world.made timeout.kind TimedOut name) world (timed_now timeout name _ is named) (still_come _));
    clusters_late = λ timeout is. tidied_come _ _ (record { arrivals = (still_come _).arrivals; versions = (still_come _).versions });
    listeners_late = λ timeout is. tidied_come _ _ (record { arrivals = (still_come _).arrivals; versions = (still_come _).versions });
    expired = λ name numbers is. tidied_come _ _ (record { arrivals = (still_come _).arrivals; versions = (still_come _).versions });
    ended = λ kind name is bounded.
        tidied_come _ _
        (end_come _ kind name (forget_version kind name world) (λ by_name. bounded_told _ kind name world by_name bounded (still_come _))
        (versions_filtered _ _ world (still_come _)));
    unchanged = λ is. still_come _;
    published = λ is. record { arrivals = (still_come _).arrivals; versions = (still_come _).versions };
    reaped = λ is. record { arrivals = (still_come _).arrivals; versions = (still_come _).versions };
    accepted = λ ask worker is by. record { arrivals = (still_come _).arrivals; versions = (still_come _).versions };
    closed = λ connection worker is by. record { arrivals = (still_come _).arrivals; versions = (still_come _).versions };
    settled = λ worker is by. record { arrivals = (still_come _).arrivals; versions = (still_come _).versions };
  })

-- an entry keeps it
pub come_next : (told : Told) (k : ℕ) (entry : Entry) → IsEntryAt told k entry → IsAnswered told k entry
    → AreMade (world_told told k) (take k told.journal)
    → ComesByEntries (world_told told k) (take k told.journal) → ComesByEntries (world_told told (k + 1)) (take (k + 1) told.journal)
come_next told k entry there answered made come =
    let world : World = world_told told k in
    let before : List Entry = take k told.journal in
    subst₂ ComesByEntries (sym (world_next told k entry there))
    (ap (λ (answer : Answer). before ++ record entry { answer = answer } ∷ []) (sym answered.answer) ∙ sym (take_one told.journal k entry there))
    (step-come before entry told.format world made.drawn come)

pub opens_come : (workers : ℕ) (node : List ℕ) → ComesByEntries (opening workers node) []
opens_come workers node = record { arrivals = All-nil _; versions = All-nil _ }
