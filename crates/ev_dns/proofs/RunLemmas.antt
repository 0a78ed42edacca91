-- In a run the endpoints of a watched place are reported by the line that follows the last one at which it was due.
use Rattle.std.proofs.Common.{◌≡◌, ◌∙◌, inl, inr, ℕ, zero, suc, ◌+◌, ◌<◌, ◌≤◌, ◌==◌, Bool, true, false, cond, ◌&&◌, ◌||◌, nat_lt, List, length, filter, take, Some, None, codes, refl, sym, ap, subst, arith}
use Rattle.std.specs.Prelude.{slice_get}
use Rattle.std.specs.List.{list_any}
use Rattle.std.specs.Str.{bytes_eq}
use Rattle.std.specs.Cmp.{first_so, second_so}
use Rattle.std.proofs.lemmas.Bool.{false≢true, or_left}
use Rattle.std.proofs.lemmas.Bool.Decides.{nat_tests}
use Rattle.std.proofs.lemmas.List.Elements.{recursion_from_All}
use Rattle.serde_json.specs.Data.{Data}
use Rattle.ev_types.specs.Events.{IsMainSide, MayMake}
use Rattle.ev_types.specs.Items.{ResponseParts}
use Rattle.ev_types.specs.Kinds.{kind_decides, kind_same}
use Rattle.ev_types.specs.Same.{bytes_decide}
use Rattle.ev_types.specs.Scripts.{IsScript}
use Rattle.ev_types.specs.declared.contents.Kind.{Kind}
use Rattle.ev_types.specs.declared.contents.Kind.TheVariants.{Eds}
use Rattle.ev_types.specs.declared.events.Actor.{Actor}
use Rattle.ev_types.specs.declared.events.Actor.TheVariants.{Stream}
use Rattle.ev_types.specs.declared.events.Answer.{Answer}
use Rattle.ev_types.specs.declared.events.Entry.{Entry}
use Rattle.ev_types.specs.declared.events.Event.{Event}
use Rattle.ev_types.specs.declared.events.Event.TheVariants.{Response, TtlExpired}
use Rattle.ev_types.specs.declared.events.Line.{Line}
use Rattle.ev_types.specs.declared.journals.Format.{Format}
use Rattle.ev_types.specs.declared.limits.TheConstants.{ITEM_LIMIT}
use Rattle.ev_types.specs.declared.events.Profile.{Profile}
use Rattle.ev_model.specs.World.{Arrived, World}
use Rattle.ev_model.specs.Entries.{entries_since, made_in, tells_of_name}
use Rattle.ev_model.specs.Laws.{Told, world_told}
use Rattle.ev_model.specs.Live.{lives_of}
use Rattle.ev_model.specs.Operations.{IsRunOf, Operation, entries_of, is_earlier, operation_of, operations_of}
use Rattle.ev_model.specs.Step.{step}
use Rattle.ev_model.specs.Warming.{came_for, is_timeout, is_told, is_word, last_told, value_of}
use Rattle.ev_model.specs.Watching.{is_watched}
use Rattle.ev_model_laws.specs.Kept.{ComesByEntries, entries_after, has_come_by, was_timed, was_told}
use Rattle.ev_model_laws.proofs.OperationLists.{any_at, at_in, in_filter}
use Rattle.ev_model_laws.proofs.PlaceLemmas.{IsAnswered, entry_answered, over_places, world_next}
use Rattle.ev_model_laws.proofs.RunParts.{parts_kept}
use Rattle.ev_model_laws.specs.Told.{HasSameValue, ends_name}
use Rattle.ev_model_laws.specs.Watches.{waits_for}
use Rattle.ev_model_laws.proofs.HoldLemmas.{side_holds}
use Rattle.ev_model_laws.proofs.LiveLemmas.{watches_begin}
use Rattle.ev_model_laws.proofs.ToldLemmas.{told_stay}
use Rattle.ev_script.specs.declared.trees.ScriptTrees.{ScriptTrees}
use Rattle.ev_expand.specs.Guarding.{Guarded, guarded_by}
use Rattle.ev_expand.specs.Private.{first_use}
use Rattle.ev_expand.specs.Said.{lines_in}
use Rattle.ev_expand.specs.Runs.{run_told}
use Rattle.ev_expand.proofs.DueLemmas.{named_due}
use Rattle.ev_expand.proofs.ListLemmas.{get_in, in_any, in_map, taken_get}
use Rattle.ev_expand.proofs.NamedLemmas.{NamesEndpoints, since_in, wait_named}
use Rattle.ev_expand.proofs.OrderLemmas.{is_behind}
use Rattle.ev_expand.proofs.SaidPlaceLemmas.{stream_is, timer_main}
use Rattle.ev_dns.specs.Resolving.{dns_rules, has_guarded, is_due}
use Rattle.ev_dns.specs.Templates.{by_names}
use Rattle.ev_dns.specs.LastAnswers.{answered_script, name_of_place}
use Rattle.ev_dns.proofs.EntryLemmas.{IsBy, entry_by}
use Rattle.ev_dns.proofs.MakerLemmas.{IsMaker, maker_of}
use Rattle.ev_dns.proofs.NameLemmas.{SpeaksDue, speaks_due}
use Rattle.ev_dns.proofs.RunOrderLemmas.{entries_rise}
use Rattle.ev_dns.proofs.TextLemmas.{follower_says}
use Rattle.ev_dns.proofs.WatchLemmas.{makes_guard}

-- ---- who speaks

stream_main : (actor : Actor) → actor ≡ Stream → IsMainSide actor
stream_main actor own = subst IsMainSide (sym own) tt

-- an event that reports a name is a response
told_response : (kind : Kind) (name : List ℕ) (event : Event) (answer : Answer) → tells_of_name kind name event answer ≡ true → (response : ResponseParts) × (event ≡ Response response)
told_response kind name (Response response) answer h = (response, refl)
told_response kind name event answer h = absurd (false≢true h)

-- and the end of a life is a timer's
ended_main : (workers : ℕ) (kind : Kind) (name : List ℕ) (actor : Actor) (event : Event) → ends_name kind name event ≡ true → MayMake workers actor event
    → IsMainSide actor × (is_behind event ≡ false)
ended_main workers kind name actor (TtlExpired of other) h may = (timer_main actor may, refl)
ended_main workers kind name actor event h may = absurd (false≢true h)

response_stream : (workers : ℕ) (actor : Actor) (event : Event) (response : ResponseParts) → event ≡ Response response → MayMake workers actor event → actor ≡ Stream
response_stream workers actor event response is may = stream_is actor (subst (MayMake workers actor) is may)

earlier_at : (a b : Operation) → is_earlier a b ≡ true → b.step ≡ 0 → a.at < b.at
earlier_at a b less none = by a.at b.at a.step b.step less none
  where
    by : (m n k l : ℕ) → (nat_lt m n || ((m == n) && nat_lt k l)) ≡ true → l ≡ 0 → m < n
    by m n k l h e = grind (arith, nat_tests)

-- what was told since a generation was made was told
after_told : (made : ℕ) (entries : List Entry) (kind : Kind) (name : List ℕ) → was_told (entries_after made entries) kind name ≡ true → was_told entries kind name ≡ true
after_told zero entries kind name h = h
after_told (suc place) entries kind name h =
    let tells : Entry → Bool = λ entry. tells_of_name kind name entry.event entry.answer in
    let one = in_any tells (entries_since (suc place) entries) h in
    any_at tells one.0 entries (since_in (suc place) entries one.0 one.1) one.2

module _ (trees : ScriptTrees) (format : Format) (journal : List Entry) (kept : IsScript (answered_script trees)) (run : IsRunOf format (answered_script trees) journal)
    (unused : first_use trees.header.profile (codes "dns/") (lines_in trees) ≡ None) (few : length (guarded_by (by_names trees.header.profile) (lines_in trees)) < ITEM_LIMIT)
    (place : ℕ) (g : Guarded) (there : slice_get (guarded_by (by_names trees.header.profile) (lines_in trees)) place ≡ Some g) where
  abbrev profile : Profile
  profile = trees.header.profile

  abbrev pub told : Told
  told = run_told format (answered_script trees) journal

  abbrev pub world : ℕ → World
  world k = world_told told k

  abbrev pub lines : List Data
  lines = lines_in trees

  abbrev pub name : List ℕ
  name = name_of_place place

  abbrev pub watched : ℕ → Bool
  watched k = is_watched (lives_of (world k)) Eds name

  abbrev pub At : ℕ → Entry → Type 0
  At k entry = slice_get journal k ≡ Some entry

  answered : (k : ℕ) (entry : Entry) → At k entry → IsAnswered told k entry
  answered k entry at = entry_answered told k entry run.run.answers at

  pub holds : entries_of journal Stream ≡ operations_of (answered_script trees) Stream
  holds = side_holds format (answered_script trees) journal Stream kept tt run

  -- ---- entries that say something of the place

  -- the entry is one of the stream, by a line that follows one at which the place is due
  pub record TellsDue (entry : Entry) : Type 0 where
    pub by : IsBy profile lines entry
    pub own : entry.actor ≡ Stream
    pub due : is_due profile by.front g ≡ true

  tells_due : (k : ℕ) (entry : Entry) → At k entry → tells_of_name Eds name entry.event entry.answer ≡ true → TellsDue entry
  tells_due k entry at h =
      let response = told_response Eds name entry.event entry.answer h in
      let own : entry.actor ≡ Stream = response_stream (answered_script trees).workers entry.actor entry.event response.0 response.1 (answered k entry at).may in
      let by : IsBy profile lines entry = entry_by trees format journal kept run k entry at (stream_main entry.actor own) (ap is_behind response.1) in
      let names : NamesEndpoints name entry.event = wait_named name false false entry (or_left (tells_of_name Eds name entry.event entry.answer) false h) in
      let speaks : SpeaksDue profile lines entry by name = speaks_due profile lines entry by place unused (inl names) in
      record { by = by; own = own; due = named_due (dns_rules profile) lines by.index place by.front g few by.there there speaks.names }

  -- no life of the place's endpoints ends
  never_ends : (k : ℕ) (entry : Entry) → At k entry → ends_name Eds name entry.event ≡ false
  never_ends k entry at = by (ends_name Eds name entry.event) refl
    where
      by : (b : Bool) → ends_name Eds name entry.event ≡ b → b ≡ false
      by false is = refl
      by true is =
          let main = ended_main (answered_script trees).workers Eds name entry.actor entry.event is (answered k entry at).may in
          let own : IsBy profile lines entry = entry_by trees format journal kept run k entry at main.0 main.1 in
          let speaks : SpeaksDue profile lines entry own name = speaks_due profile lines entry own place unused (inr is) in
          let said : entry.event ≡ _ =
          sym own.says ∙ ap (λ (l : Line). l.event) (follower_says profile own.front own.inner entry.at own.tree own.line speaks.follows own.is) in
          absurd (false≢true (sym (ap (ends_name Eds name) said) ∙ is))

  -- ---- entries at which a watch begins

  -- the entry is one of the stream, and is what a line with a guarded resource of the place's key becomes
  pub record Begins (entry : Entry) : Type 0 where
    pub by : IsBy profile lines entry
    pub own : entry.actor ≡ Stream
    pub maker : IsMaker name entry.event
    pub guarded : has_guarded profile by.front.line g.key ≡ true

  -- what makes a generation that depends on the place's endpoints is such an entry
  pub makes : (k : ℕ) (entry : Entry) → At k entry → (answer : Answer) → list_any (waits_for Eds name) (made_in entry.event answer) ≡ true → Begins entry
  makes k entry at answer made =
      let maker : IsMaker name entry.event = maker_of name entry.event answer made in
      let own : entry.actor ≡ Stream = response_stream (answered_script trees).workers entry.actor entry.event maker.response maker.is (answered k entry at).may in
      let by : IsBy profile lines entry = entry_by trees format journal kept run k entry at (stream_main entry.actor own) (ap is_behind maker.is) in
      record { by = by; own = own; maker = maker; guarded = (makes_guard profile lines unused few place g there entry by answer made).guarded }

  pub begins : (k : ℕ) (entry : Entry) → At k entry → watched k ≡ false → watched (k + 1) ≡ true → Begins entry
  begins k entry at before after =
      makes k entry at (step format (world k) entry.actor entry.event).1
      (watches_begin format (world k) entry.actor entry.event Eds name before
      (subst (λ (w : World). is_watched (lives_of w) Eds name ≡ true) (world_next told k entry at) after))

  -- a watch has begun by an entry before place k
  pub record Began (k : ℕ) : Type 0 where
    pub position : ℕ
    pub earlier : position < k
    pub entry : Entry
    pub at : At position entry
    pub begins : Begins entry

  abbrev HasBegun : ℕ → Type 0
  HasBegun k = watched k ≡ true → Began k

  begun_next : (k : ℕ) (entry : Entry) → At k entry → HasBegun k → HasBegun (k + 1)
  begun_next k entry at before after = by (watched k) refl
    where
      by : (b : Bool) → watched k ≡ b → Began (k + 1)
      by true is =
          let rest : Began k = before is in
          record { position = rest.position; earlier = omega (arith, rest.earlier); entry = rest.entry; at = rest.at; begins = rest.begins }
      by false is = record { position = k; earlier = omega arith; entry = entry; at = at; begins = begins k entry at is after }

  pub has_begun : (k : ℕ) → k ≤ length journal → HasBegun k
  has_begun k within =
      over_places told HasBegun 0 (λ h. absurd (false≢true h)) (λ j entry from at before. begun_next j entry at before) k (omega arith) within

  -- ---- what is reported

  -- an entry before place k has reported the place
  pub record WasTold (k : ℕ) : Type 0 where
    pub position : ℕ
    pub earlier : position < k
    pub entry : Entry
    pub at : At position entry
    pub due : TellsDue entry

  come_told : (entries : List Entry) (a : Arrived) → is_word a.arrival ≡ true → (kind_same a.kind Eds && bytes_eq a.name name) ≡ true → has_come_by entries a ≡ true
      → was_told entries Eds name ≡ true
  come_told entries a word same come =
      let kind : a.kind ≡ Eds = (kind_decides a.kind Eds).0 (first_so (kind_same a.kind Eds) (bytes_eq a.name name) same) in
      let own : a.name ≡ name = (bytes_decide a.name name).0 (second_so (kind_same a.kind Eds) (bytes_eq a.name name) same) in
      (λ i. was_told entries (sym kind i) (sym own i))
      ∙ after_told a.made entries a.kind a.name
      (sym (ap (λ b. cond b (was_told (entries_after a.made entries) a.kind a.name)
      (cond (is_timeout a.arrival) (was_timed (entries_after a.made entries) a.kind a.name) (was_told entries a.kind a.name))) word)
      ∙ come)

  pub was_told_by : (k : ℕ) → k ≤ length journal → is_told (world k) Eds name ≡ true → WasTold k
  was_told_by k within h =
      let come : ComesByEntries (world k) (take k journal) = (parts_kept told run.run.answers k within).come in
      let word = in_any is_word (came_for (world k).arrivals Eds name) h in
      let mine : Arrived → Bool = λ a. kind_same a.kind Eds && bytes_eq a.name name in
      let arrival = in_map (λ (a : Arrived). a.arrival) (filter mine (world k).arrivals) word.0 word.1 in
      let among = in_filter mine arrival.0 (world k).arrivals arrival.1 in
      let by : has_come_by (take k journal) arrival.0 ≡ true =
      at_in (λ (a : Arrived). has_come_by (take k journal) a ≡ true) arrival.0 (world k).arrivals
      (recursion_from_All (λ (a : Arrived). has_come_by (take k journal) a ≡ true) (world k).arrivals come.arrivals) among.0 in
      let told_so : was_told (take k journal) Eds name ≡ true = come_told (take k journal) arrival.0 (ap is_word arrival.2 ∙ word.2) among.1 by in
      let one = in_any (λ (entry : Entry). tells_of_name Eds name entry.event entry.answer) (take k journal) told_so in
      let found = get_in (take k journal) one.0 one.1 in
      let at = taken_get journal k found.0 one.0 found.1 in
      record { position = found.0; earlier = at.0; entry = one.0; at = at.1; due = tells_due found.0 one.0 at.1 one.2 }

  -- ---- what stays

  -- no entry after place q and not after place k reports the place, and none begins a watch of it
  pub record IsQuiet (q k : ℕ) : Type 0 where
    pub tells : (m : ℕ) (entry : Entry) → q < m → m ≤ k → At m entry → TellsDue entry → ⊥
    pub begins : (m : ℕ) (entry : Entry) → q < m → m ≤ k → At m entry → Begins entry → ⊥

  -- the place was watched there, and what was known of it is what is known now
  pub record Stays (from to : ℕ) : Type 0 where
    pub watches : watched from ≡ true
    pub same : HasSameValue Eds name (world from) (world to)

  abbrev StaysTo : ℕ → ℕ → ℕ → Type 0
  StaysTo from k m = m ≤ k + 1 → watched m ≡ true → Stays from m

  stays_next : (q k m : ℕ) (entry : Entry) → IsQuiet q k → q + 1 ≤ m → At m entry → StaysTo (q + 1) k m → StaysTo (q + 1) k (m + 1)
  stays_next q k m entry quiet from at before within after = by (watched m) refl
    where
      silent : (b : Bool) → tells_of_name Eds name entry.event entry.answer ≡ b → b ≡ false
      silent false is = refl
      silent true is = absurd (quiet.tells m entry (omega (arith, from)) (omega (arith, within)) at (tells_due m entry at is))

      by : (b : Bool) → watched m ≡ b → Stays (q + 1) (m + 1)
      by false is = absurd (quiet.begins m entry (omega (arith, from)) (omega (arith, within)) at (begins m entry at is after))
      by true is =
          let rest : Stays (q + 1) m = before (omega (arith, within)) is in
          let next : world (m + 1) ≡ (step format (world m) entry.actor entry.event).0 = world_next told m entry at in
          let same : HasSameValue Eds name (world m) (step format (world m) entry.actor entry.event).0 =
          told_stay format (world m) entry.actor entry.event Eds name
          (subst (λ (w : World). is_watched (lives_of w) Eds name ≡ true) next after)
          (ap (tells_of_name Eds name entry.event) (sym (answered m entry at).answer) ∙ silent (tells_of_name Eds name entry.event entry.answer) refl)
          (never_ends m entry at) in
          record {
            watches = rest.watches;
            same = record {
              value = ap (λ (w : World). value_of w Eds name) next ∙ same.value ∙ rest.same.value;
              told = ap (λ (w : World). is_told w Eds name) next ∙ same.told ∙ rest.same.told;
              last = ap (λ (w : World). last_told w.arrivals Eds name) next ∙ same.last ∙ rest.same.last;
            };
          }

  -- after such an entry the place stays as it is
  pub stays : (q k : ℕ) → IsQuiet q k → q ≤ k → k < length journal → watched (k + 1) ≡ true → Stays (q + 1) (k + 1)
  stays q k quiet order within after =
      over_places told (StaysTo (q + 1) k) (q + 1) (λ less is. record { watches = is; same = record { value = refl; told = refl; last = refl } })
      (λ m entry from at before. stays_next q k m entry quiet from at before) (k + 1) (omega (arith, order)) (omega (arith, within)) (omega arith) after

  -- ---- the order of the stream's entries

  -- of two entries of the stream the first is at a lesser number, where the second is by a line
  pub numbers_rise : (q m : ℕ) (first second : Entry) → At q first → At m second → first.actor ≡ Stream → second.actor ≡ Stream → second.step ≡ 0 → q < m → first.at < second.at
  numbers_rise q m first second at here own mine none less =
      earlier_at (operation_of first) (operation_of second)
      (entries_rise (answered_script trees) journal Stream kept holds q m first second at here own mine less) none
