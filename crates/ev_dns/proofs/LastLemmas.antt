-- After the last line that a line of the input gave, a watched place is reported exactly where its template is
-- complete.
use Rattle.std.proofs.Common.{◌≡◌, ◌∙◌, ◌⊎◌, inl, inr, ℕ, zero, suc, ◌+◌, ◌<◌, ◌≤◌, ◌==◌, Bool, true, false, cond, not, ◌&&◌, ◌||◌, nat_le, nat_lt, List, [], ◌∷◌, length, map, filter, flat_map, take, filter_map, decimal, Option, Some, None, codes, refl, sym, ap, subst, arith}
use Rattle.std.specs.Prelude.{slice_get, unwrap_or}
use Rattle.std.specs.List.{cons_option, last_or, list_any}
use Rattle.std.specs.Str.{bytes_eq}
use Rattle.std.specs.Cmp.{first_so, second_so}
use Rattle.std.proofs.lemmas.Bool.{both_ways, cases_lt, or_parts, or_right}
use Rattle.std.proofs.lemmas.Bool.Decides.{nat_tests}
use Rattle.std.proofs.lemmas.List.Elements.{recursion_from_All}
use Rattle.std.proofs.lemmas.Option.{slice_get_within}
use Rattle.serde_json.specs.Data.{Data}
use Rattle.ev_types.specs.Scripts.{IsScript}
use Rattle.ev_types.specs.Kinds.{kind_decides, kind_same}
use Rattle.ev_types.specs.Same.{bytes_decide}
use Rattle.ev_types.specs.Statuses.{is_live}
use Rattle.ev_types.specs.declared.contents.Kind.{Kind}
use Rattle.ev_types.specs.declared.contents.Kind.TheVariants.{Eds}
use Rattle.ev_types.specs.declared.contents.Body.TheVariants.{Good}
use Rattle.ev_types.specs.declared.contents.Content.{Content}
use Rattle.ev_types.specs.declared.contents.Content.TheVariants.{Assignment as an_assignment}
use Rattle.ev_types.specs.declared.events.Actor.TheVariants.{Stream}
use Rattle.ev_types.specs.declared.events.Entry.{Entry}
use Rattle.ev_types.specs.declared.events.Event.TheVariants.{Response}
use Rattle.ev_types.specs.declared.events.Line.{Line}
use Rattle.ev_types.specs.declared.journals.Format.{Format}
use Rattle.ev_types.specs.declared.limits.TheConstants.{ITEM_LIMIT}
use Rattle.ev_types.specs.declared.rows.GenRow.{GenRow}
use Rattle.ev_types.specs.declared.rows.Live.{Live}
use Rattle.ev_types.specs.declared.events.Profile.{Profile}
use Rattle.ev_model.specs.World.{Arrived, World}
use Rattle.ev_model.specs.Entries.{MadeRow, made_in, made_of}
use Rattle.ev_model.specs.Laws.{Told, world_told}
use Rattle.ev_model.specs.Live.{live_of, lives_of}
use Rattle.ev_model.specs.Operations.{IsRunOf, Operation, is_earlier, line_operation, operation_of}
use Rattle.ev_model.specs.Step.{step}
use Rattle.ev_model.specs.Warming.{counts_for, has_word, is_for, is_told, is_told_by, is_word, last_told, value_of}
use Rattle.ev_model.specs.Watching.{Dependency, dependencies_of, has_dependency, is_dependency, is_watched}
use Rattle.ev_model_laws.proofs.OperationLists.{IsIn, any_at, at_in, in_filter}
use Rattle.ev_model_laws.proofs.PlaceLemmas.{world_next}
use Rattle.ev_model_laws.proofs.RunParts.{parts_kept}
use Rattle.ev_model_laws.specs.Kept.{AreMade, made_as}
use Rattle.ev_model_laws.specs.Watches.{waits_for}
use Rattle.ev_model_laws.specs.MainSide.{stream_told}
use Rattle.ev_model_laws.proofs.KeptLemmas.{kept_value}
use Rattle.ev_model_laws.proofs.StreamLemmas.{stream_after}
use Rattle.ev_script.specs.Lines.{line_of}
use Rattle.ev_script.specs.declared.trees.ScriptTrees.{ScriptTrees}
use Rattle.ev_wire.specs.Responses.{item_of}
use Rattle.ev_expand.specs.Expanding.{due_at, guarded_at, place_of}
use Rattle.ev_expand.specs.Following.{endpoints_entry, entry_due}
use Rattle.ev_expand.specs.Fronts.{Front, fronts, stream_at, up_to}
use Rattle.ev_expand.specs.Guarding.{Guarded, guarded_by}
use Rattle.ev_expand.specs.Private.{first_use}
use Rattle.ev_expand.specs.Said.{given_lines, lines_in}
use Rattle.ev_expand.specs.Waiting.{stream_line}
use Rattle.ev_expand.proofs.ReadLemmas.{following_reads}
use Rattle.ev_expand.proofs.FrontLawLemmas.{front_at, given_at, given_before, up_to_at}
use Rattle.ev_expand.proofs.ListLemmas.{IsOfPiece, contains_in, fewer_pieces, in_get, in_map, of_piece, some_same, taken_get}
use Rattle.ev_expand.proofs.OrderLemmas.{line_in}
use Rattle.ev_expand.proofs.SaidPlaceLemmas.{said_in}
use Rattle.ev_dns.specs.Answers.{is_complete}
use Rattle.ev_dns.specs.Hosts.{endpoints_tree}
use Rattle.ev_dns.specs.Resolving.{dns_rules, has_guarded, is_due, resolved_hosts}
use Rattle.ev_dns.specs.Templates.{by_names}
use Rattle.ev_dns.specs.LastAnswers.{HasLastAnswers, IsLastEntry, answered_script, name_of_place}
use Rattle.ev_dns.proofs.AnsweredLemmas.{complete_later}
use Rattle.ev_dns.proofs.DueLemmas.{IsDueLast, due_last, due_parts, front_there, was_guarded}
use Rattle.ev_dns.proofs.EntryLemmas.{IsBy, IsWithin, given_grows, given_next, index_rises, within_own}
use Rattle.ev_dns.proofs.KeptLemmas.{Keeps, due_kept}
use Rattle.ev_dns.proofs.RunOrderLemmas.{IsDoneBy, done_by, entries_rise}
use Rattle.ev_dns.proofs.PlaceLemmas.{HasFollower, among_due, follower_there, guarded_early, guarded_fewer, parts_of}
use Rattle.ev_dns.proofs.RunLemmas.{Began, Begins, IsQuiet, Stays, WasTold, begins, has_begun, holds, makes, numbers_rise, stays, was_told_by}
use Rattle.ev_dns.proofs.StreamLemmas.{stream_agrees}
use Rattle.ev_dns.proofs.TextLemmas.{due_response}
use Rattle.ev_dns.proofs.WatchLemmas.{endpoints_ask}
use Rattle.ev_expand.specs.Runs.{run_told}
use Rattle.ev_dns.proofs.ListLemmas.{get_taken, taken_all, taken_twice}

-- ---- lists and numbers

-- a line that gives something is one of the input
gives_within : (profile : Profile) (lines : List Data) (index : ℕ) → given_before (dns_rules profile) lines index < given_before (dns_rules profile) lines (index + 1) → index < length lines
gives_within profile lines index more = by (cases_lt index (length lines))
  where
    by : (index < length lines) ⊎ (length lines ≤ index) → index < length lines
    by (inl less) = less
    by (inr past) =
        let same : take index lines ≡ take (index + 1) lines = taken_all index lines past ∙ sym (taken_all (index + 1) lines (omega (arith, past))) in
        absurd (omega (arith, more, ap (λ ls. length (given_lines (dns_rules profile) ls)) same))

number_rises : (a b : Operation) → is_earlier a b ≡ true → a.at ≤ b.at
number_rises a b less = by a.at b.at a.step b.step less
  where
    by : (m n k l : ℕ) → (nat_lt m n || ((m == n) && nat_lt k l)) ≡ true → m ≤ n
    by m n k l h = grind (arith, nat_tests)

not_before : (a b : Operation) → b.at ≤ a.at → b.step ≡ 0 → is_earlier a b ≡ false
not_before a b less none = by a.at b.at a.step b.step less none
  where
    by : (m n k l : ℕ) → n ≤ m → l ≡ 0 → (nat_lt m n || ((m == n) && nat_lt k l)) ≡ false
    by m n k l h e = grind (arith, nat_tests)

not_above : (m n : ℕ) → m ≤ n → nat_le m n ≡ true
not_above m n h = grind (arith, nat_tests)

-- what wasn't told of has no last word
none_told : (kind : Kind) (name : List ℕ) (arrivals : List Arrived) → is_told_by arrivals kind name ≡ false → last_told arrivals kind name ≡ None
none_told kind name arrivals h = ap (λ (rest : List Arrived). last_or None (map (λ (a : Arrived). a.made) rest)) (none_words arrivals h)
  where
    none_words : (rest : List Arrived) → list_any is_word (map (λ (a : Arrived). a.arrival) (filter (is_for kind name) rest)) ≡ false → filter (λ (a : Arrived). is_for kind name a && is_word a.arrival) rest ≡ []
    none_words [] e = refl
    none_words (a ∷ rest) e = by (is_for kind name a) (is_word a.arrival) refl e (λ none. none_words rest none)
      where
        by : (b c : Bool) → is_word a.arrival ≡ c → list_any is_word (map (λ (x : Arrived). x.arrival) (cond b (a ∷ filter (is_for kind name) rest) (filter (is_for kind name) rest))) ≡ false
            → (list_any is_word (map (λ (x : Arrived). x.arrival) (filter (is_for kind name) rest)) ≡ false → filter (λ (x : Arrived). is_for kind name x && is_word x.arrival) rest ≡ [])
            → cond (b && c) (a ∷ filter (λ (x : Arrived). is_for kind name x && is_word x.arrival) rest) (filter (λ (x : Arrived). is_for kind name x && is_word x.arrival) rest) ≡ []
        by true true word none more =
            let parts = or_parts (is_word a.arrival) (list_any is_word (map (λ (x : Arrived). x.arrival) (filter (is_for kind name) rest))) none in
            absurd (both_ways (is_word a.arrival) parts.0 word)
        by true false word none more = more (or_parts (is_word a.arrival) (list_any is_word (map (λ (x : Arrived). x.arrival) (filter (is_for kind name) rest))) none).1
        by false c word none more = more none

-- the endpoints that are written of a place are read as its hosts
abbrev pub ReadsHosts : Profile → List Data → ℕ → Guarded → Type 0
ReadsHosts profile lines place g =
    (index : ℕ) (front : Front) (version : List ℕ) → slice_get (fronts lines) index ≡ Some front → slice_get (guarded_at (dns_rules profile) front) place ≡ Some g
    → (item_of profile Eds (endpoints_entry version (name_of_place place) (endpoints_tree (resolved_hosts (up_to front) g.key)))).body ≡ Good (an_assignment (resolved_hosts (up_to front) g.key))

module _ (trees : ScriptTrees) (format : Format) (journal : List Entry) (kept : IsScript (answered_script trees)) (run : IsRunOf format (answered_script trees) journal)
    (unused : first_use trees.header.profile (codes "dns/") (lines_in trees) ≡ None) (few : length (guarded_by (by_names trees.header.profile) (lines_in trees)) < ITEM_LIMIT)
    (place : ℕ) (g : Guarded) (there : slice_get (guarded_by (by_names trees.header.profile) (lines_in trees)) place ≡ Some g) (reads : ReadsHosts trees.header.profile (lines_in trees) place g)
    (k index : ℕ) (last : IsLastEntry trees.header.profile journal k (lines_in trees) index) where
  abbrev profile : Profile
  profile = trees.header.profile

  abbrev told : Told
  told = run_told format (answered_script trees) journal

  abbrev world : ℕ → World
  world n = world_told told n

  abbrev lines : List Data
  lines = lines_in trees

  abbrev name : List ℕ
  name = name_of_place place

  abbrev watched : ℕ → Bool
  watched n = is_watched (lives_of (world n)) Eds name

  abbrev Found : Type 0
  Found = (front : Front) × (slice_get (fronts lines) index ≡ Some front)

  more : given_before (dns_rules profile) lines index < given_before (dns_rules profile) lines (index + 1)
  more = omega (arith, last.own, last.last)

  found : Found
  found = front_there lines index (gives_within profile lines index more)

  within : IsWithin profile lines index last.entry.at
  within = record { from = omega (arith, last.own); to = omega (arith, last.last) }

  short : k < length journal
  short = slice_get_within journal k last.entry last.there

  agrees : (world (k + 1)).stream ≡ stream_at profile (take (index + 1) lines)
  agrees = stream_agrees trees format journal kept run k last.entry index found.0 last.there last.by found.1 within

  -- an entry of the stream not after this one is by no later line
  no_later : (m : ℕ) (entry : Entry) → slice_get journal m ≡ Some entry → entry.actor ≡ Stream → m ≤ k → (by : IsBy profile lines entry) → by.index ≤ index
  no_later m entry at own less by =
      index_rises profile lines by.index index entry.at last.entry.at (within_own profile lines entry by) within (number (cases_lt m k))
    where
      number : (m < k) ⊎ (k ≤ m) → entry.at ≤ last.entry.at
      number (inl before) =
          number_rises (operation_of entry) (operation_of last.entry)
          (entries_rise (answered_script trees) journal Stream kept (holds trees format journal kept run unused few place g there) m k entry last.entry at last.there own last.by before)
      number (inr same) =
          let position : m ≡ k = omega (arith, same, less) in
          let one : entry ≡ last.entry = some_same (sym at ∙ ap (slice_get journal) position ∙ last.there) in
          omega (arith, ap (λ (e : Entry). e.at) one)

  -- ---- what is reported is complete

  told_complete : is_told (world (k + 1)) Eds name ≡ true → is_complete (take (index + 1) lines) g.key ≡ true
  told_complete h =
      let was : WasTold trees format journal kept run unused few place g there (k + 1) =
      was_told_by trees format journal kept run unused few place g there (k + 1) (omega (arith, short)) h in
      let by : IsBy profile lines was.entry = was.due.by in
      complete_later lines (by.index + 1) (index + 1) g.key (omega (arith, no_later was.position was.entry was.at was.due.own (omega (arith, was.earlier)) by))
      (subst (λ ls. is_complete ls g.key ≡ true) (up_to_at lines by.index by.front by.there) (due_parts profile by.front g was.due.due).1)

  -- ---- what is complete is reported

  -- a watched place was guarded in the lines so far
  watched_guarded : watched (k + 1) ≡ true → was_guarded profile (take (index + 1) lines) g.key ≡ true
  watched_guarded h =
      let began : Began trees format journal kept run unused few place g there (k + 1) =
      has_begun trees format journal kept run unused few place g there (k + 1) (omega (arith, short)) h in
      let by : IsBy profile lines began.entry = began.begins.by in
      let upto : by.index ≤ index = no_later began.position began.entry began.at began.begins.own (omega (arith, began.earlier)) by in
      any_at (λ line. has_guarded profile line g.key) by.front.line (take (index + 1) lines)
      (in_get (take (index + 1) lines) by.index by.front.line
      (get_taken lines (index + 1) by.index by.front.line (omega (arith, upto)) (front_at lines by.index by.front by.there).here))
      began.begins.guarded

  module _ (due : IsDueLast profile lines (index + 1) g) where
    early : slice_get (guarded_at (dns_rules profile) due.front) place ≡ Some g
    early =
        subst (λ ls. slice_get (guarded_by (by_names profile) ls) place ≡ Some g) (sym (up_to_at lines due.index due.front due.there))
        (guarded_early profile lines (due.index + 1) place g there due.guarded)

    fewer : length (guarded_at (dns_rules profile) due.front) ≤ ITEM_LIMIT
    fewer = omega (arith, ap (λ ls. length (guarded_by (by_names profile) ls)) (up_to_at lines due.index due.front due.there), guarded_fewer profile lines (due.index + 1), few)

    follower : HasFollower profile due.front
    follower = follower_there profile due.front (parts_of due.front (place, g)) (among_due profile due.front place g early due.due)

    -- the number of the line that follows
    abbrev number : ℕ
    number = 2 + (given_before (dns_rules profile) lines due.index + follower.inner)

    abbrev line : Line
    line = stream_line number (due_response profile due.front)

    line_is : line_of profile number follower.tree ≡ Some line
    line_is =
        ap (line_of profile number) follower.follows.is
        ∙ following_reads profile (codes "dns/") (codes "dns-") (decimal (place_of due.front)) (due_at (dns_rules profile) due.front) number (omega arith)

    among : IsIn line (answered_script trees).lines
    among =
        said_in profile 2 (given_lines (dns_rules profile) lines) (given_before (dns_rules profile) lines due.index + follower.inner) follower.tree line
        (given_at (dns_rules profile) lines due.index follower.inner due.front follower.tree due.there follower.among) line_is

    number_is : number ≡ given_before (dns_rules profile) lines (due.index + 1) + 1
    number_is = omega (arith, follower.follows.last, given_next (dns_rules profile) lines due.index due.front due.there)

    done : IsDoneBy (answered_script trees) journal Stream kept (holds trees format journal kept run unused few place g there) k (line_operation line)
    done =
        done_by (answered_script trees) journal Stream kept (holds trees format journal kept run unused few place g there) k last.entry (line_operation line) last.there last.by
        (line_in (answered_script trees) Stream line among refl)
        (not_before (operation_of last.entry) (line_operation line)
        (omega (arith, number_is, last.last, given_grows (dns_rules profile) lines (due.index + 1) (index + 1) (omega (arith, due.within)))) refl)

    own : done.entry.actor ≡ Stream
    own = ap (λ (o : Operation). o.actor) done.does

    at : done.entry.at ≡ number
    at = ap (λ (o : Operation). o.at) done.does

    says : done.entry.event ≡ Response (due_response profile due.front)
    says = ap (λ (o : Operation). o.event) done.does

    -- an entry of the stream after it is by a later line
    later : (m : ℕ) (entry : Entry) → slice_get journal m ≡ Some entry → entry.actor ≡ Stream → done.place < m → (by : IsBy profile lines entry) → due.index < by.index
    later m entry here mine less by = at_least (cases_lt due.index by.index)
      where
        rises : done.entry.at < entry.at
        rises = numbers_rise trees format journal kept run unused few place g there done.place m done.entry entry done.there here own mine by.own less

        at_least : (due.index < by.index) ⊎ (by.index ≤ due.index) → due.index < by.index
        at_least (inl ahead) = ahead
        at_least (inr back) =
            absurd (omega (arith, rises, at, number_is, (within_own profile lines entry by).to, given_grows (dns_rules profile) lines (by.index + 1) (due.index + 1) (omega (arith, back))))

    quiet : IsQuiet trees format journal kept run unused few place g there done.place k
    quiet = record {
      tells = λ m entry above below here tells.
          absurd (both_ways (is_due profile tells.by.front g)
          (due.quiet tells.by.index tells.by.front (later m entry here tells.own above tells.by)
          (omega (arith, no_later m entry here tells.own below tells.by)) tells.by.there).1 tells.due);
      begins = λ m entry above below here starts.
          absurd (both_ways (has_guarded profile starts.by.front.line g.key)
          (due.quiet starts.by.index starts.by.front (later m entry here starts.own above starts.by)
          (omega (arith, no_later m entry here starts.own below starts.by)) starts.by.there).0 starts.guarded);
    }

    after : watched (k + 1) ≡ true → Stays trees format journal kept run unused few place g there (done.place + 1) (k + 1)
    after h = stays trees format journal kept run unused few place g there done.place k quiet done.within short h

    next : world (done.place + 1) ≡ (step format (world done.place) done.entry.actor (Response (due_response profile due.front))).0
    next = world_next told done.place done.entry done.there ∙ ap (λ e. (step format (world done.place) done.entry.actor e).0) says

    streams : (world done.place).stream ≡ true
    streams =
        let behind : (world (done.place + 1)).stream ≡ stream_at profile (take (due.index + 1) lines) =
        stream_agrees trees format journal kept run done.place done.entry due.index due.front done.there own due.there
        (record { from = omega (arith, at, number_from); to = omega (arith, at, number_is) }) in
        let open_there : stream_at profile (take (due.index + 1) lines) ≡ true =
        sym (ap (stream_at profile) (up_to_at lines due.index due.front due.there)) ∙ (due_parts profile due.front g due.due).0 in
        let same : (world (done.place + 1)).stream ≡ (world done.place).stream =
        ap (λ (w : World). w.stream) (world_next told done.place done.entry done.there)
        ∙ stream_after format (world done.place) (done.entry ∷ [])
        ∙ ap (λ e. unwrap_or (last_or None (cons_option (stream_told e) [])) (world done.place).stream) says in
        sym same ∙ behind ∙ open_there
      where
        number_from : given_before (dns_rules profile) lines due.index + 2 ≤ number
        number_from = omega arith

    watched_before : watched (done.place + 1) ≡ true → watched done.place ≡ true
    watched_before h = by (watched done.place) refl
      where
        by : (b : Bool) → watched done.place ≡ b → b ≡ true
        by true is = refl
        by false is =
            let starts : Begins trees format journal kept run unused few place g there done.entry =
            begins trees format journal kept run unused few place g there done.place done.entry done.there is h in
            absurd (endpoints_ask profile lines unused few place g there (due_response profile due.front)
            (filter_map (entry_due (codes "dns/") (decimal (place_of due.front))) (due_at (dns_rules profile) due.front)) done.entry.event refl refl says starts.maker)

    -- after it the place has the hosts of the lines up to its line
    record HasHosts (n : ℕ) : Type 0 where
      value : value_of (world n) Eds name ≡ Some (an_assignment (resolved_hosts (up_to due.front) g.key))
      told_of : is_told (world n) Eds name ≡ true
      last_of : last_told (world n).arrivals Eds name ≡ Some (world done.place).made

    hosts_there : watched (done.place + 1) ≡ true → HasHosts (done.place + 1)
    hosts_there h =
        let content : Content = an_assignment (resolved_hosts (up_to due.front) g.key) in
        let before : World = world done.place in
        let keeps : Keeps (due_response profile due.front) (lives_of before) before.versions name content =
        due_kept profile due.front place g (lives_of before) before.versions content early due.due (omega (arith, slice_get_within (guarded_by (by_names profile) lines) place g there, few)) fewer
        (reads due.index due.front (decimal (place_of due.front)) due.there early) (watched_before h) in
        let behind : World = (step format before done.entry.actor (Response (due_response profile due.front))).0 in
        let both = kept_value format before done.entry.actor (due_response profile due.front) Eds keeps.place keeps.item content streams refl keeps.judged keeps.there keeps.good
        (ap (is_watched (lives_of behind) Eds) keeps.named ∙ subst (λ (w : World). is_watched (lives_of w) Eds name ≡ true) next h) in
        record {
          value = ap (λ (w : World). value_of w Eds name) next ∙ ap (value_of behind Eds) (sym keeps.named) ∙ both.0;
          told_of = ap (λ (w : World). is_told w Eds name) next ∙ ap (is_told behind Eds) (sym keeps.named) ∙ both.1;
          last_of = ap (λ (w : World). last_told w.arrivals Eds name) next ∙ ap (last_told behind.arrivals Eds) (sym keeps.named) ∙ both.2;
        }

    hosts_now : watched (k + 1) ≡ true → HasHosts (k + 1)
    hosts_now h =
        let stayed : Stays trees format journal kept run unused few place g there (done.place + 1) (k + 1) = after h in
        let first : HasHosts (done.place + 1) = hosts_there stayed.watches in
        record { value = stayed.same.value ∙ first.value; told_of = stayed.same.told ∙ first.told_of; last_of = stayed.same.last ∙ first.last_of }

    -- no entry from there on makes a generation that depends on the place's endpoints
    none_made : (m : ℕ) (entry : Entry) → slice_get journal m ≡ Some entry → done.place ≤ m → m ≤ k
        → list_any (waits_for Eds name) (made_in entry.event entry.answer) ≡ true → ⊥
    none_made m entry here from upto made = by (cases_lt done.place m)
      where
        by : (done.place < m) ⊎ (m ≤ done.place) → ⊥
        by (inl above) =
            quiet.begins m entry above upto here (makes trees format journal kept run unused few place g there m entry here entry.answer made)
        by (inr back) =
            let position : m ≡ done.place = omega (arith, from, back) in
            let one : entry ≡ done.entry = some_same (sym here ∙ ap (slice_get journal) position ∙ done.there) in
            let starts : Begins trees format journal kept run unused few place g there done.entry =
            makes trees format journal kept run unused few place g there done.place done.entry done.there done.entry.answer
            (subst (λ (e : Entry). list_any (waits_for Eds name) (made_in e.event e.answer) ≡ true) one made) in
            endpoints_ask profile lines unused few place g there (due_response profile due.front)
            (filter_map (entry_due (codes "dns/") (decimal (place_of due.front))) (due_at (dns_rules profile) due.front)) done.entry.event refl refl says starts.maker

    abbrev entries : List Entry
    entries = take (k + 1) journal

    abbrev makes_of : Entry → List MadeRow
    makes_of entry = made_in entry.event entry.answer

    -- so each that depends on them was made before
    made_before : (number : ℕ) (row : MadeRow) → made_of entries number ≡ Some row → has_dependency Eds name row.content ≡ true → number ≤ (world done.place).made
    made_before zero row made depends = omega arith
    made_before (suc p) row made depends = by (cases_lt p (world done.place).made)
      where
        drawn : length (flat_map makes_of (take done.place journal)) ≡ (world done.place).made
        drawn = (parts_kept told run.run.answers done.place (omega (arith, done.within, short))).made.drawn

        piece : IsOfPiece makes_of entries p row
        piece = of_piece makes_of entries p row made

        here : (piece.index < k + 1) × (slice_get journal piece.index ≡ Some piece.piece)
        here = taken_get journal (k + 1) piece.index piece.piece piece.here

        within_piece : piece.inner < length (makes_of piece.piece)
        within_piece = slice_get_within (makes_of piece.piece) piece.inner row piece.among

        depending : list_any (waits_for Eds name) (made_in piece.piece.event piece.piece.answer) ≡ true
        depending = any_at (waits_for Eds name) row (makes_of piece.piece) (in_get (makes_of piece.piece) piece.inner row piece.among) depends

        same_first : length (flat_map makes_of (take done.place entries)) ≡ (world done.place).made
        same_first = ap (λ (es : List Entry). length (flat_map makes_of es)) (taken_twice done.place (k + 1) journal (omega (arith, done.within))) ∙ drawn

        later_piece : (world done.place).made ≤ p → (piece.index < done.place) ⊎ (done.place ≤ piece.index) → ⊥
        later_piece past (inl before) =
            absurd (omega (arith, past, piece.at, within_piece, same_first, fewer_pieces makes_of entries piece.index done.place piece.piece before piece.here))
        later_piece past (inr after_done) = none_made piece.index piece.piece here.1 after_done (omega (arith, here.0)) depending

        by : (p < (world done.place).made) ⊎ ((world done.place).made ≤ p) → suc p ≤ (world done.place).made
        by (inl less) = omega (arith, less)
        by (inr past) = absurd (later_piece past (cases_lt piece.index done.place))

  -- ---- words

  -- what a live generation that depends on the place's endpoints was told of them
  word_of : (live : Live) (d : Dependency) (last : Option ℕ) → is_dependency Eds name d ≡ true → last_told (world (k + 1)).arrivals Eds name ≡ last
      → has_word (world (k + 1)).arrivals live.number d ≡ counts_for live.number d last
  word_of live d last is same =
      let kind : d.kind ≡ Eds = (kind_decides d.kind Eds).0 (first_so (kind_same d.kind Eds) (bytes_eq d.name name) is) in
      let own : d.name ≡ name = (bytes_decide d.name name).0 (second_so (kind_same d.kind Eds) (bytes_eq d.name name) is) in
      (λ i. counts_for live.number d (last_told (world (k + 1)).arrivals (kind i) (own i))) ∙ ap (counts_for live.number d) same

  -- it was made as such
  live_made : (live : Live) → IsIn live (lives_of (world (k + 1))) → (row : MadeRow) × (made_of (take (k + 1) journal) live.number ≡ Some row) × (row.content ≡ live.content)
  live_made live is =
      let rows : List GenRow = (world (k + 1)).rows in
      let row = in_map live_of (filter (λ (r : GenRow). is_live r.status) rows) live is in
      let among = in_filter (λ (r : GenRow). is_live r.status) row.0 rows row.1 in
      let made : AreMade (world (k + 1)) (take (k + 1) journal) = (parts_kept told run.run.answers (k + 1) (omega (arith, short))).made in
      let own : made_of (take (k + 1) journal) row.0.number ≡ Some (made_as row.0) =
      at_in (λ (r : GenRow). made_of (take (k + 1) journal) r.number ≡ Some (made_as r)) row.0 rows
      (recursion_from_All (λ (r : GenRow). made_of (take (k + 1) journal) r.number ≡ Some (made_as r)) rows made.rows) among.0 in
      (made_as row.0, ap (λ (l : Live). made_of (take (k + 1) journal) l.number) (sym row.2) ∙ own, ap (λ (l : Live). l.content) row.2)

  -- ---- both

  pub last_answers : (world (k + 1)).stream ≡ true → watched (k + 1) ≡ true → HasLastAnswers (world (k + 1)) (take (index + 1) lines) place g.key
  last_answers opened h = by (is_complete (take (index + 1) lines) g.key) refl
    where
      untold : (b : Bool) → is_told (world (k + 1)) Eds name ≡ b → is_complete (take (index + 1) lines) g.key ≡ false → b ≡ false
      untold false is none = refl
      untold true is none = absurd (both_ways (is_complete (take (index + 1) lines) g.key) none (told_complete is))

      by : (b : Bool) → is_complete (take (index + 1) lines) g.key ≡ b → HasLastAnswers (world (k + 1)) (take (index + 1) lines) place g.key
      by false none = record {
        told = untold (is_told (world (k + 1)) Eds name) refl none ∙ sym none;
        words = λ live d lives depends is.
            word_of live d None is (none_told Eds name (world (k + 1)).arrivals (untold (is_told (world (k + 1)) Eds name) refl none)) ∙ sym none;
        hosts = λ complete. absurd (both_ways (is_complete (take (index + 1) lines) g.key) none complete);
      }
      by true complete =
          let due : IsDueLast profile lines (index + 1) g =
          due_last profile lines g (index + 1) (omega (arith, gives_within profile lines index more)) (sym agrees ∙ opened) complete (watched_guarded h) in
          let now : HasHosts due (k + 1) = hosts_now due h in
          record {
            told = now.told_of ∙ sym complete;
            words = λ live d lives depends is.
                let made = live_made live (contains_in (lives_of (world (k + 1))) live lives) in
                let content : has_dependency Eds name made.0.content ≡ true =
                ap (has_dependency Eds name) made.2 ∙ any_at (is_dependency Eds name) d (dependencies_of live.content) (contains_in (dependencies_of live.content) d depends) is in
                let before : live.number ≤ (world (done due).place).made = made_before due live.number made.0 made.1 content in
                word_of live d (Some (world (done due).place).made) is now.last_of
                ∙ or_right (not d.fresh) (nat_le live.number (world (done due).place).made) (not_above live.number (world (done due).place).made before)
                ∙ sym complete;
            hosts = λ is.
                now.value ∙ ap (λ ls. Some (an_assignment (resolved_hosts ls g.key))) (up_to_at lines due.index due.front due.there)
                ∙ ap (λ rows. Some (an_assignment rows)) (sym due.hosts);
          }
