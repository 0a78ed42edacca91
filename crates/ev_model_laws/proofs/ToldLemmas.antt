-- What was received for a name stays while the name is watched and nothing is said of it.
use Rattle.std.proofs.Common.{◌≡◌, ℕ, Bool, true, false, cond, ◌&&◌, ◌||◌, List, [], ◌∷◌, ◌++◌, map, filter, filter_map, Option, None, Some, option_map, refl, sym, ap, ◌∙◌, subst}
use Rattle.std.specs.Prelude.{unwrap_or}
use Rattle.std.specs.List.{list_any, last_or, fold, zip, AllByRecursion as ByRecursion}
use Rattle.std.specs.Str.{bytes_eq}
use Rattle.std.specs.Cmp.{first_so, second_so}
use Rattle.std.proofs.lemmas.Bool.{both_ways, and_from, or_left, or_right}
use Rattle.std.proofs.lemmas.List.{append-nil, map-append}
use Rattle.std.proofs.lemmas.List.Elements.{filter-append, filter_map-append, recursion_from_All}
use Rattle.ev_types.specs.Items.{ItemParts, ResponseParts}
use Rattle.ev_types.specs.Kinds.{kind_same, kind_decides}
use Rattle.ev_types.specs.Same.{bytes_decide}
use Rattle.ev_types.specs.declared.contents.Kind.{Kind}
use Rattle.ev_types.specs.declared.contents.Kind.TheVariants.{Cds, Eds, Lds, Rds, Sds, Ecds}
use Rattle.ev_types.specs.declared.contents.Content.{Content}
use Rattle.ev_types.specs.declared.events.Actor.{Actor}
use Rattle.ev_types.specs.declared.events.Answer.{Answer}
use Rattle.ev_types.specs.declared.events.Event.{Event}
use Rattle.ev_types.specs.declared.events.Event.TheVariants.{Response}
use Rattle.ev_types.specs.declared.events.Verdict.{Verdict}
use Rattle.ev_types.specs.declared.events.Verdict.TheVariants.{New, InPlace, Back, Same, Kept, Unasked, Renewed, Refused}
use Rattle.ev_types.specs.declared.journals.Format.{Format}
use Rattle.ev_types.specs.declared.rows.Arrival.{Arrival}
use Rattle.ev_types.specs.declared.rows.Arrival.TheVariants.{Value, Absent, Bad as bad, TimedOut, Ended}
use Rattle.ev_model.specs.World.{World, Arrived}
use Rattle.ev_model.specs.Live.{lives_of}
use Rattle.ev_model.specs.Watching.{is_watched}
use Rattle.ev_model.specs.Warming.{is_for, content_in, is_word, last_told}
use Rattle.ev_model.specs.Verdicts.{is_removed, verdicts_for}
use Rattle.ev_model.specs.Rows.{arrived, absent_names, with_absences, with_removals, keep_version, add_row, keep_value, refuse, add_item, add_items, made_names, with_first, add_in_place, go_back}
use Rattle.ev_model.specs.Tidy.{promoted, tidy}
use Rattle.ev_model.specs.Signals.{no_hosts, no_routes, with_end, forget_version}
use Rattle.ev_model.specs.Entries.{is_word_on, has_word_on, is_response_of, tells_of_name, tells_of_removal}
use Rattle.ev_model.specs.Step.{step, answered}
use Rattle.ev_model_laws.proofs.AnyLemmas.{any_behind, any_first}
use Rattle.ev_model_laws.proofs.OperationLists.{filter_filter}
use Rattle.ev_model_laws.proofs.TidyLists.{all_of, any_at}
use Rattle.ev_model_laws.proofs.TidyLemmas.{for_same}
use Rattle.ev_model_laws.proofs.ExpiredLemmas.{passed}
use Rattle.ev_model_laws.proofs.EventLemmas.{step-leads}
use Rattle.ev_model_laws.specs.Told.{ends_name, HasSameValue, ToldStays}
use Rattle.ev_model_laws.proofs.KeepLemmas.{with_content-holds}

not_so : (b : Bool) → (b ≡ true → ⊥) → b ≡ false
not_so true h = absurd (h refl)
not_so false h = refl

same_false : (a b : Bool) → (a ≡ true → b ≡ true) → (b ≡ true → a ≡ true) → a ≡ b
same_false true b h k = sym (h refl)
same_false false true h k = k refl
same_false false false h k = refl

module _ (kind : Kind) (name : List ℕ) where
  -- what was received for the name
  abbrev pub came : List Arrived → List Arrived
  came arrivals = filter (is_for kind name) arrivals

  pub came-append : (xs ys : List Arrived) → came (xs ++ ys) ≡ came xs ++ came ys
  came-append xs ys = filter-append (is_for kind name) xs ys

  -- how many numbers were allocated at the last word among these
  abbrev pub last_word : List Arrived → Option ℕ
  last_word arrivals = last_or None (map (λ (a : Arrived). a.made) (filter (λ (a : Arrived). is_word a.arrival) arrivals))

  pub told_is : (arrivals : List Arrived) → last_told arrivals kind name ≡ last_word (came arrivals)
  told_is arrivals =
      sym (ap (λ (xs : List Arrived). last_or None (map (λ (a : Arrived). a.made) xs))
      (filter_filter (λ (a : Arrived). is_word a.arrival) (is_for kind name) arrivals))

  other_alone : (a : Arrived) → is_for kind name a ≡ false → came (a ∷ []) ≡ []
  other_alone a e = ap (λ (b : Bool). cond b (a ∷ []) []) e

  -- what was received for another name says nothing
  other_came : (arrivals : List Arrived) (a : Arrived) → is_for kind name a ≡ false → came (arrivals ++ a ∷ []) ≡ came arrivals
  other_came arrivals a e =
      came-append arrivals (a ∷ []) ∙ ap (λ (xs : List Arrived). came arrivals ++ xs) (other_alone a e) ∙ append-nil (came arrivals)

  others_alone : (made : ℕ) (of : Kind) (names : List (List ℕ)) → ByRecursion (λ n. (kind_same of kind && bytes_eq n name) ≡ false) names
      → came (map (arrived made of Absent) names) ≡ []
  others_alone made of [] each = refl
  others_alone made of (n ∷ names) each =
      came-append (arrived made of Absent n ∷ []) (map (arrived made of Absent) names)
      ∙ ap (λ (xs : List Arrived). xs ++ came (map (arrived made of Absent) names)) (other_alone (arrived made of Absent n) each.0)
      ∙ others_alone made of names each.1

  others_came : (arrivals : List Arrived) (made : ℕ) (of : Kind) (names : List (List ℕ))
      → ByRecursion (λ n. (kind_same of kind && bytes_eq n name) ≡ false) names
      → came (arrivals ++ map (arrived made of Absent) names) ≡ came arrivals
  others_came arrivals made of names each =
      came-append arrivals (map (arrived made of Absent) names)
      ∙ ap (λ (xs : List Arrived). came arrivals ++ xs) (others_alone made of names each)
      ∙ append-nil (came arrivals)

  pub tidied_came : (world : World) → is_watched (lives_of (tidy world)) kind name ≡ true → came (tidy world).arrivals ≡ came world.arrivals
  tidied_came world watched = for_same (lives_of (promoted world)) world.arrivals kind name watched

  module _ (world : World) where
    -- what was received for the name is what had come
    abbrev pub Came : World → Type 0
    Came after = came after.arrivals ≡ came world.arrivals

    same_by : (after : World) → Came after → HasSameValue kind name world after
    same_by after is = record {
      value = ap (λ (xs : List Arrived). last_or None (filter_map content_in (map (λ (a : Arrived). a.arrival) xs))) is;
      told = ap (λ (xs : List Arrived). list_any is_word (map (λ (a : Arrived). a.arrival) xs)) is;
      last = told_is after.arrivals ∙ ap last_word is ∙ sym (told_is world.arrivals);
    }

    -- ---- a response

    module _ (of : Kind) where
      abbrev pub Other : List ℕ → Type 0
      Other n = (kind_same of kind && bytes_eq n name) ≡ false

      -- a resource that says nothing of the name
      abbrev pub Hush : Verdict × ItemParts → Type 0
      Hush one = is_word_on name one.0 one.1 ≡ true → kind_same of kind ≡ false

      hushed : (n : List ℕ) → (bytes_eq n name ≡ true → kind_same of kind ≡ false) → Other n
      hushed n so = not_so (kind_same of kind && bytes_eq n name) (λ h.
          both_ways (kind_same of kind) (so (second_so (kind_same of kind) (bytes_eq n name) h)) (first_so (kind_same of kind) (bytes_eq n name) h))

      value_came : (item : ItemParts) (content : Content) (after : World) → Other item.name → Came after → Came (keep_value of item content after)
      value_came item content after other is = other_came after.arrivals (arrived after.made of (Value content) item.name) other ∙ is

    told_came : (of : Kind) (n : List ℕ) (watched : Bool) (after : World) → Other of n → Came after
        → Came (cond watched (record after { arrivals = after.arrivals ++ arrived after.made of bad n ∷ [] }) after)
    told_came of n true after other is = other_came after.arrivals (arrived after.made of bad n) other ∙ is
    told_came of n false after other is = is

    refused_came : (of : Kind) (n : List ℕ) (after : World) → Other of n → Came after → Came (refuse of n after)
    refused_came Cds n after other is = is
    refused_came Eds n after other is = told_came Eds n (is_watched (lives_of after) Eds n) after other is
    refused_came Lds n after other is = is
    refused_came Rds n after other is = told_came Rds n (is_watched (lives_of after) Rds n) after other is
    refused_came Sds n after other is = told_came Sds n (is_watched (lives_of after) Sds n) after other is
    refused_came Ecds n after other is = told_came Ecds n (is_watched (lives_of after) Ecds n) after other is

    item_came : (of : Kind) (verdict : Verdict) (item : ItemParts) (after : World) → Hush of (verdict, item) → Came after → Came (add_item of verdict item after)
    item_came of New item after hush is =
        with_content-holds Came (λ content. add_row of item content []) item.body after (λ content. is) is
    item_came of InPlace item after hush is = with_content-holds Came (add_in_place of item) item.body after (λ content. is) is
    item_came of Back item after hush is = with_content-holds Came (λ content. go_back of item) item.body after (λ content. is) is
    item_came of Same item after hush is = with_content-holds Came (λ content. keep_version of item) item.body after (λ content. is) is
    item_came of Kept item after hush is =
        with_content-holds Came (keep_value of item) item.body after (λ content. value_came of item content after (hushed of item.name hush) is) is
    item_came of Unasked item after hush is = is
    item_came of Renewed item after hush is = is
    item_came of (Refused rule) item after hush is = refused_came of item.name after (hushed of item.name hush) is

    pub items_came : (of : Kind) (judged : List (Verdict × ItemParts)) (after : World) → ByRecursion (Hush of) judged → Came after
        → Came (fold (λ (w : World) (one : Verdict × ItemParts). add_item of one.0 one.1 w) after judged)
    items_came of [] after hush is = is
    items_came of (one ∷ judged) after hush is =
        items_came of judged (add_item of one.0 one.1 after) hush.1 (item_came of one.0 one.1 after hush.0 is)

    pub first_came : (of : Kind) (names : List (List ℕ)) (after : World) → Came after → Came (with_first of names after)
    first_came Cds names after is = is
    first_came Eds names after is = is
    first_came Lds names after is = is
    first_came Rds names after is = is
    first_came Sds names after is = is
    first_came Ecds names after is = is

    absent_came : (of : Kind) (response : ResponseParts) → (is_removed response name ≡ true → kind_same of kind ≡ false) → Came (with_absences of response world)
    absent_came of response hush =
        let names : List (List ℕ) = absent_names of response world in
        let test : List ℕ → Bool = λ n. is_removed response n && is_watched (lives_of world) of n in
        others_came world.arrivals world.made of names
        (recursion_from_All (Other of) names (all_of (Other of) names
        (λ n there. hushed of n (λ same.
        hush (ap (is_removed response) (sym ((bytes_decide n name).0 same)) ∙ first_so (is_removed response n) (is_watched (lives_of world) of n) (passed test response.removed n there))))))

    removed_came : (of : Kind) (response : ResponseParts) → (tells_of_removal of name response ≡ true → kind_same of kind ≡ false) → Came (with_removals of response world)
    removed_came Cds response hush = refl
    removed_came Eds response hush = absent_came Eds response hush
    removed_came Lds response hush = refl
    removed_came Rds response hush = absent_came Rds response hush
    removed_came Sds response hush = refl
    removed_came Ecds response hush = absent_came Ecds response hush

    ended_came : (of : Kind) (n : List ℕ) → Other of n → Came (with_end of n (forget_version of n world))
    ended_came Cds n other = refl
    ended_came Eds n other = other_came world.arrivals (arrived world.made Eds (Ended no_hosts) n) other
    ended_came Lds n other = refl
    ended_came Rds n other = other_came world.arrivals (arrived world.made Rds (Ended no_routes) n) other
    ended_came Sds n other = refl
    ended_came Ecds n other = refl

    -- ---- a timeout

    timed_same : (a : Arrived) (test : Bool) → a.arrival ≡ TimedOut → is_for kind name a ≡ test → (after : World)
        → came after.arrivals ≡ came (world.arrivals ++ a ∷ [])
        → HasSameValue kind name world after
    timed_same a false timed for after is = same_by after (is ∙ other_came world.arrivals a for)
    timed_same a true timed for after is =
        let one : came (a ∷ []) ≡ a ∷ [] = ap (λ (b : Bool). cond b (a ∷ []) []) for in
        let whole : came after.arrivals ≡ came world.arrivals ++ a ∷ [] =
        is ∙ came-append world.arrivals (a ∷ []) ∙ ap (λ (xs : List Arrived). came world.arrivals ++ xs) one in
        let before : List Arrival = map (λ (b : Arrived). b.arrival) (came world.arrivals) in
        let all : map (λ (b : Arrived). b.arrival) (came after.arrivals) ≡ before ++ TimedOut ∷ [] =
        ap (map (λ (b : Arrived). b.arrival)) whole
        ∙ map-append (λ (b : Arrived). b.arrival) (came world.arrivals) (a ∷ [])
        ∙ ap (λ (x : Arrival). before ++ x ∷ []) timed in
        let word : Arrived → Bool = λ (b : Arrived). is_word b.arrival in
        let words : filter word (came world.arrivals ++ a ∷ []) ≡ filter word (came world.arrivals) =
        filter-append word (came world.arrivals) (a ∷ [])
        ∙ ap (λ (b : Bool). filter word (came world.arrivals) ++ cond b (a ∷ []) []) (ap is_word timed)
        ∙ append-nil (filter word (came world.arrivals)) in
        record {
          value = ap (λ (xs : List Arrival). last_or None (filter_map content_in xs)) all
              ∙ ap (λ (xs : List Content). last_or None xs)
              (filter_map-append content_in before (TimedOut ∷ []) ∙ append-nil (filter_map content_in before));
          told = ap (λ (xs : List Arrival). list_any is_word xs) all
              ∙ same_false _ _
              (λ h. any_behind is_word before (TimedOut ∷ []) (λ here. here) (λ none. absurd (both_ways false refl none)) h)
              (λ h. any_first is_word before (TimedOut ∷ []) h);
          last = told_is after.arrivals
              ∙ ap last_word whole
              ∙ ap (λ (xs : List Arrived). last_or None (map (λ (b : Arrived). b.made) xs)) words
              ∙ sym (told_is world.arrivals);
        }

    -- ---- any event

    module _ (format : Format) (actor : Actor) (event : Event) (goes_on : ends_name kind name event ≡ false) where
      abbrev Stays : World × Answer → Type 0
      Stays did = is_watched (lives_of did.0) kind name ≡ true → tells_of_name kind name event did.1 ≡ false → HasSameValue kind name world did.0

      after_tidy : (after : World) (answer : Answer) → Came after → Stays (tidy after, answer)
      after_tidy after answer is = λ watched hush. same_by (tidy after) (tidied_came after watched ∙ is)

      alike : (after : World) (answer : Answer) → Came after → Stays (after, answer)
      alike after answer is = λ watched hush. same_by after is

      replied_stays : (of : Kind) (response : ResponseParts) → event ≡ Response response → response.kind ≡ Some of
          → Stays (answered of response (verdicts_for of (lives_of world) world.versions response) world)
      replied_stays of response is typed watched hush =
          let verdicts : List Verdict = verdicts_for of (lives_of world) world.versions response in
          let judged : List (Verdict × ItemParts) = zip verdicts response.items in
          let left : World = with_removals of response world in
          let after : World = with_first of (made_names verdicts response.items) (add_items of verdicts response.items left) in
          let answer : Answer = (answered of response verdicts world).1 in
          let quiet : (has_word_on name verdicts response.items || tells_of_removal of name response) ≡ true → kind_same of kind ≡ false =
          λ told. not_so (kind_same of kind) (λ same.
          let one : of ≡ kind = (kind_decides of kind).0 same in
          both_ways (tells_of_name kind name event answer) hush
          (ap (λ (e : Event). tells_of_name kind name e answer) is
          ∙ and_from (is_response_of kind response) (has_word_on name verdicts response.items || tells_of_removal kind name response)
          (ap (λ (o : Option Kind). unwrap_or (option_map (kind_same kind) o) false) typed ∙ (kind_decides kind of).1 (sym one))
          (subst (λ (k : Kind). (has_word_on name verdicts response.items || tells_of_removal k name response) ≡ true) one told))) in
          same_by (tidy after)
          (tidied_came after watched
          ∙ first_came of (made_names verdicts response.items) (add_items of verdicts response.items left)
          (items_came of judged left
          (recursion_from_All (Hush of) judged (all_of (Hush of) judged (λ one there word.
          quiet (or_left (has_word_on name verdicts response.items) (tells_of_removal of name response) (any_at (λ (other : Verdict × ItemParts). is_word_on name other.0 other.1) judged one there word)))))
          (removed_came of response (λ gone. quiet (or_right (has_word_on name verdicts response.items) (tells_of_removal of name response) gone)))))

      stays : Stays (step format world actor event)
      stays = step-leads Stays format world actor event (record {
        ignored = alike world _ refl;
        connected = λ is. after_tidy _ _ refl;
        disconnected = λ is. after_tidy _ _ refl;
        replied = replied_stays;
        resulted = λ cluster host healthy rows is. after_tidy _ _ refl;
        timed = λ timeout n is named watched hush.
            timed_same (arrived world.made timeout.kind TimedOut n)
            (is_for kind name (arrived world.made timeout.kind TimedOut n)) refl refl _
            (tidied_came (record world { arrivals = world.arrivals ++ arrived world.made timeout.kind TimedOut n ∷ [] }) watched);
        clusters_late = λ timeout is. after_tidy _ _ refl;
        listeners_late = λ timeout is. after_tidy _ _ refl;
        expired = λ n numbers is. after_tidy _ _ refl;
        ended = λ of n is bounded. after_tidy _ _ (ended_came of n (sym (ap (λ (e : Event). ends_name kind name e) is) ∙ goes_on));
        unchanged = λ is. alike world _ refl;
        published = λ is. alike _ _ refl;
        reaped = λ is. alike _ _ refl;
        accepted = λ ask worker is by. alike _ _ refl;
        closed = λ connection worker is by. alike _ _ refl;
        settled = λ worker is by. alike _ _ refl;
      })

pub told_stay : ToldStays
told_stay format world actor event kind name watched hush goes_on = stays kind name world format actor event goes_on watched hush
