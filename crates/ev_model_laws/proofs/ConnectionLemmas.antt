-- A chain that stays keeps its connections, and a connection that moves stays on the chain that accepted it.
use Rattle.std.proofs.Common.{◌≡◌, ℕ, ◌≤◌, ◌+◌, inl, inr, Bool, true, false, not, ◌&&◌, ◌==◌, List, [], ◌∷◌, ◌++◌, length, take, drop, map, filter, Option, Some, None, refl, sym, ap, ◌∙◌, subst, arith, ◌||◌}
use Rattle.std.specs.Prelude.{find, nat_le, option_map, unwrap_or}
use Rattle.std.specs.Cmp.{first_so, second_so}
use Rattle.std.specs.List.{Contains, list_any}
use Rattle.std.specs.Option.{IfSome}
use Rattle.std.proofs.lemmas.Bool.{false≢true, both_ways, cond_both, cond-true, cases_lt, and_right, false_from_ne_true, not-true, not_from_false}
use Rattle.std.proofs.lemmas.List.{take-append-drop, take_all}
use Rattle.std.proofs.lemmas.List.Elements.{All-contains}
use Rattle.std.proofs.lemmas.Option.{slice_get_within}
use Rattle.ev_types.specs.Same.{numbers_decide}
use Rattle.ev_types.specs.declared.contents.Kind.{Kind}
use Rattle.ev_types.specs.declared.contents.Kind.TheVariants.{Cds, Lds}
use Rattle.ev_types.specs.declared.contents.Content.{Content}
use Rattle.ev_types.specs.declared.events.Actor.{Actor}
use Rattle.ev_types.specs.declared.events.Actor.TheVariants.{Worker}
use Rattle.ev_types.specs.declared.events.Answer.{Answer}
use Rattle.ev_types.specs.declared.events.Answer.TheVariants.{Ignored, Unchanged, Version, Settled}
use Rattle.ev_types.specs.declared.events.Entry.{Entry}
use Rattle.ev_types.specs.declared.events.Event.{Event}
use Rattle.ev_types.specs.declared.journals.Format.{Format}
use Rattle.ev_types.specs.declared.listeners.FilterChain.{FilterChain}
use Rattle.ev_types.specs.declared.origins.Origin.{Origin}
use Rattle.ev_types.specs.declared.rows.GenRow.{GenRow}
use Rattle.ev_model.specs.declared.pictures.ServedChain.{ServedChain}
use Rattle.ev_model.specs.declared.pictures.ServedCluster.{ServedCluster}
use Rattle.ev_model.specs.declared.pictures.ServedListener.{ServedListener}
use Rattle.ev_model.specs.declared.pictures.Shown.{Shown}
use Rattle.ev_model.specs.World.{World, OpenMember, last_version, opening}
use Rattle.ev_model.specs.Origins.{PlacedChain, placed_in, origin_at}
use Rattle.ev_model.specs.Picture.{has_number, is_shown, shown_of, shown_same}
use Rattle.ev_model.specs.Dead.{shown_at, picture_held, last_picture}
use Rattle.ev_model.specs.Publishing.{reap}
use Rattle.ev_model.specs.Connections.{shares_origin, chains_shown, shows_chain, is_chain_shown, listener_after, is_moving, is_closing, connections_where, left_open, moved_on, accept, close, settle}
use Rattle.ev_model.specs.Step.{step}
use Rattle.ev_model.specs.Entries.{MadeRow, made_of, version_settled}
use Rattle.ev_model.specs.Laws.{Told, world_told, SettlesWith, IsShownNow, KeepsConnections, HasChain, BodiesStay}
use Rattle.ev_model_laws.specs.Kept.{IsMadeAs, BeginsAs, BeginChains, IsListenerMade, IsShownMade, StaysUnderName, IsMemberMade, HasParts}
use Rattle.ev_model_laws.proofs.AnswerLemmas.{managed_answer, accepted_answer, closed_answer}
use Rattle.ev_model_laws.proofs.AnyLemmas.{any_behind, any_found, any_mapped, any_sorted, any_tells}
use Rattle.ev_model_laws.proofs.KeepLemmas.{step-holds}
use Rattle.ev_model_laws.proofs.MadeLemmas.{made_more}
use Rattle.ev_model_laws.proofs.MoveLemmas.{moved_member}
use Rattle.ev_model_laws.proofs.OriginLemmas.{MakesMore, begins_more, placed_once}
use Rattle.ev_model_laws.proofs.PlaceLemmas.{Runs, IsAnswered, entry_answered, world_next}
use Rattle.ev_model_laws.proofs.RunParts.{parts_kept}
use Rattle.ev_model_laws.proofs.SeenMadeLemmas.{picture_made}
use Rattle.ev_model_laws.proofs.SettledLemmas.{SettlesNothing, answers_settle}
use Rattle.ev_model_laws.proofs.TidyLists.{any_at, found_in, left_in, made_in, passing_in}
use Rattle.ev_model.specs.Runs.{world_after}

-- what is answered as a settle is a worker's settle
abbrev IsSettle : World → Actor → World × Answer → Type 0
IsSettle world actor did =
    (closed moved : List ℕ) (version : ℕ) → did.1 ≡ Settled closed moved version
    → (worker : ℕ) × (actor ≡ Worker worker) × (did ≡ settle worker world)

no_settle : (world : World) (actor : Actor) (did : World × Answer) → SettlesNothing did.1 → IsSettle world actor did
no_settle world actor did none closed moved version is =
    absurd (let never : None ≡ Some version = sym none ∙ ap version_settled is in cc)

step-settles : (format : Format) (world : World) (actor : Actor) (event : Event) → IsSettle world actor (step format world actor event)
step-settles format world actor event = step-holds (IsSettle world actor) format world actor event (record {
  ignored = no_settle world actor (world, Ignored) refl;
  managed = λ other for. no_settle world actor (step format world actor other) (managed_answer SettlesNothing answers_settle.managed format world actor other for);
  published = cond_both (shown_same (shown_of world) (shown_at world (last_version world))) (world, Unchanged)
      (record world { pictures = world.pictures ++ shown_of world ∷ [] }, Version (length world.pictures)) (IsSettle world actor)
      (λ same. no_settle world actor (world, Unchanged) refl)
      (λ new. no_settle world actor (record world { pictures = world.pictures ++ shown_of world ∷ [] }, Version (length world.pictures)) refl);
  reaped = no_settle world actor (reap format world) refl;
  accepted = λ ask worker is. no_settle world actor (accept ask worker world)
      (accepted_answer SettlesNothing answers_settle (picture_held world worker) ask worker world.opened);
  closed = λ connection worker is. no_settle world actor (close connection worker world)
      (closed_answer SettlesNothing answers_settle connection worker world.opened);
  settled = λ worker is closed moved version answer. (worker, is, refl);
})

-- what a settle of the member's worker has done
record HasSettled (told : Told) (k : ℕ) (m : OpenMember) (closed : List ℕ) : Type 0 where
  worker : ℕ
  by : m.worker ≡ worker
  closed_is : closed ≡ connections_where (is_closing (last_picture (world_told told k)).shown (world_told told k).expired worker) (world_told told k).opened
  next : world_told told (k + 1) ≡ (settle worker (world_told told k)).0

has_settled : (told : Told) (k : ℕ) (m : OpenMember) (closed moved : List ℕ) → Runs told → SettlesWith told k m closed moved → HasSettled told k m closed
has_settled told k m closed moved run settles =
    let world : World = world_told told k in
    let entry : Entry = settles.entry in
    let did : World × Answer = step told.format world entry.actor entry.event in
    let answered : IsAnswered told k entry = entry_answered told k entry run settles.there in
    let answer : did.1 ≡ Settled closed moved settles.version = sym answered.answer ∙ settles.answer in
    let by : (worker : ℕ) × (entry.actor ≡ Worker worker) × (did ≡ settle worker world) =
    step-settles told.format world entry.actor entry.event closed moved settles.version answer in
    let worker : ℕ = by.0 in
    let same : Worker m.worker ≡ Worker worker = sym settles.by ∙ by.1 in
    let closing : OpenMember → Bool = is_closing (last_picture world).shown world.expired worker in
    let moving : OpenMember → Bool = is_moving (last_picture world).shown worker in
    let both : Settled closed moved settles.version
    ≡ Settled (connections_where closing world.opened) (connections_where moving world.opened) (last_picture world).version =
    sym answer ∙ ap (λ (d : World × Answer). d.1) by.2 in
    record {
      worker = worker;
      by = let one : m.worker ≡ worker = cc in one;
      closed_is = let one : closed ≡ connections_where closing world.opened = cc in one;
      next = world_next told k entry settles.there ∙ ap (λ (d : World × Answer). d.0) by.2;
    }

module _ (told : Told) (k : ℕ) (m : OpenMember) (closed moved : List ℕ) (run : Runs told) (settles : SettlesWith told k m closed moved) where
  abbrev world_before : World
  world_before = world_told told k

  abbrev shown_last : Shown
  shown_last = (last_picture world_before).shown

  parts_before : HasParts told k
  parts_before = parts_kept told run k (omega (arith, slice_get_within told.journal k settles.entry settles.there))

  -- what it closes is a connection that the test names
  closes_it : (done : HasSettled told k m closed) → has_number m.connection closed ≡ true → is_closing shown_last world_before.expired done.worker m ≡ true
  closes_it done h =
      let closing : OpenMember → Bool = is_closing shown_last world_before.expired done.worker in
      let named : list_any (λ (o : OpenMember). o.connection == m.connection) (filter closing world_before.opened) ≡ true =
      sym (any_mapped (λ n. n == m.connection) (λ (o : OpenMember). o.connection) (filter closing world_before.opened))
      ∙ any_sorted (λ n. n == m.connection) nat_le (map (λ (o : OpenMember). o.connection) (filter closing world_before.opened))
      (sym (ap (has_number m.connection) done.closed_is) ∙ h) in
      let found : (o : OpenMember) × Contains (filter closing world_before.opened) o × ((o.connection == m.connection) ≡ true) =
      any_found (λ (o : OpenMember). o.connection == m.connection) (filter closing world_before.opened) named in
      let o : OpenMember = found.0 in
      let left : Contains world_before.opened o × (closing o ≡ true) = left_in closing world_before.opened o found.1 in
      let mine : o.worker ≡ done.worker =
      (numbers_decide o.worker done.worker).0
      (first_so (o.worker == done.worker) (has_number o.listener world_before.expired)
      (first_so ((o.worker == done.worker) && has_number o.listener world_before.expired) (not (is_chain_shown o.origin shown_last)) left.1)) in
      let same : o ≡ m =
      parts_before.once o m left.0 settles.among (mine ∙ sym done.by) ((numbers_decide o.connection m.connection).0 found.2) in
      subst (λ (x : OpenMember). closing x ≡ true) same left.1

  closes_drained : has_number m.connection closed ≡ true
      → (has_number m.listener world_before.expired ≡ true) × (is_chain_shown m.origin shown_last ≡ false)
  closes_drained h =
      let done : HasSettled told k m closed = has_settled told k m closed moved run settles in
      let closing : is_closing shown_last world_before.expired done.worker m ≡ true = closes_it done h in
      let mine : ((m.worker == done.worker) && has_number m.listener world_before.expired) ≡ true =
      first_so ((m.worker == done.worker) && has_number m.listener world_before.expired) (not (is_chain_shown m.origin shown_last)) closing in (
        second_so (m.worker == done.worker) (has_number m.listener world_before.expired) mine,
        not-true (is_chain_shown m.origin shown_last)
            (second_so ((m.worker == done.worker) && has_number m.listener world_before.expired) (not (is_chain_shown m.origin shown_last)) closing),
      )

-- what was made of a number was made once
one_made : (made : ℕ → Option MadeRow) (kind other_kind : Kind) (name other : List ℕ) (number : ℕ) → IsMadeAs made kind name number
    → IsMadeAs made other_kind other number → (kind ≡ other_kind) × (name ≡ other)
one_made made kind other_kind name other number first second =
    let both : Some first.row ≡ Some second.row = sym first.is ∙ second.is in
    let same : first.row ≡ second.row = cc in (
      sym first.of_kind ∙ ap (λ (row : MadeRow). row.kind) same ∙ second.of_kind,
      sym first.named ∙ ap (λ (row : MadeRow). row.name) same ∙ second.named,
    )

no_origin : (l : ServedListener) → shows_chain None l ≡ true → ⊥
no_origin l h =
    false≢true (any_tells (λ (c : ServedChain). shares_origin None c.origin) false (chains_shown l) (λ c is. is) h)

none_found : {X : Type 0} (test : X → Bool) (xs : List X) → find test xs ≡ None → list_any test xs ≡ false
none_found test [] none = refl
none_found {X = X} test (x ∷ xs) none =
    cond_both (test x) (Some x) (find test xs) (λ (o : Option X). o ≡ None → list_any test (x ∷ xs) ≡ false)
    (λ passes is. absurd (cc)) (λ fails is. ap (λ b. b || list_any test xs) fails ∙ none_found test xs is) none

-- under what is shown and made, the listener to which a connection belongs after a settle is the one that has its chain
module _ (made : ℕ → Option MadeRow) (shown : Shown) (is : IsShownMade made shown) (m : OpenMember) (under : IsMemberMade made m) where
  listener_is : (l : ServedListener) → Contains shown.listeners l → IsListenerMade made l
  listener_is l there = All-contains (IsListenerMade made) shown.listeners l is.listeners there

  -- two listeners that are shown with chains of one origin are one
  one_shows : (l other : ServedListener) (o : Origin) → Contains shown.listeners l → Contains shown.listeners other
      → shows_chain (Some o) l ≡ true → shows_chain (Some o) other ≡ true → other.number ≡ l.number
  one_shows l other o first second shows also =
      is.single other l second first
      (one_made made Lds Lds other.name l.name o.listener ((listener_is other second).chains o also) ((listener_is l first).chains o shows)).1

  -- a listener that is shown by the connection's own number
  own_shown : (l : ServedListener) (o : Origin) → m.origin ≡ Some o → Contains shown.listeners l → shows_chain (Some o) l ≡ true
      → is_shown m.listener shown ≡ true → m.listener ≡ l.number
  own_shown l o of there shows seen =
      let stays : StaysUnderName made m.listener o = under o of in
      let named : stays.name ≡ l.name = (one_made made Lds Lds stays.name l.name o.listener stays.first ((listener_is l there).chains o shows)).1 in
      any_behind (λ n. n == m.listener) (map (λ (c : ServedCluster). c.number) shown.clusters) (map (λ (s : ServedListener). s.number) shown.listeners)
      (λ clusters.
      let found : (c : ServedCluster) × Contains shown.clusters c × ((c.number == m.listener) ≡ true) =
      any_found (λ (c : ServedCluster). c.number == m.listener) shown.clusters
      (sym (any_mapped (λ n. n == m.listener) (λ (c : ServedCluster). c.number) shown.clusters) ∙ clusters) in
      let cluster : IsMadeAs made Cds found.0.name found.0.number =
      All-contains (λ (c : ServedCluster). IsMadeAs made Cds c.name c.number) shown.clusters found.0 is.clusters found.1 in
      let never : Cds ≡ Lds =
      (one_made made Cds Lds found.0.name stays.name m.listener
      (subst (IsMadeAs made Cds found.0.name) ((numbers_decide found.0.number m.listener).0 found.2) cluster) stays.own).0 in
      absurd (cc))
      (λ listeners.
      let found : (s : ServedListener) × Contains shown.listeners s × ((s.number == m.listener) ≡ true) =
      any_found (λ (s : ServedListener). s.number == m.listener) shown.listeners
      (sym (any_mapped (λ n. n == m.listener) (λ (s : ServedListener). s.number) shown.listeners) ∙ listeners) in
      let number : found.0.number ≡ m.listener = (numbers_decide found.0.number m.listener).0 found.2 in
      let same : found.0.name ≡ stays.name =
      (one_made made Lds Lds found.0.name stays.name m.listener (subst (IsMadeAs made Lds found.0.name) number (listener_is found.0 found.1).own) stays.own).1 in
      sym number ∙ is.single found.0 l found.1 there (same ∙ named))
      seen

  moves_to : (l : ServedListener) (o : Origin) → m.origin ≡ Some o → Contains shown.listeners l → shows_chain (Some o) l ≡ true
      → (next : Option ServedListener) → find (shows_chain m.origin) shown.listeners ≡ next
      → unwrap_or (option_map (λ (s : ServedListener). s.number) next) m.listener ≡ l.number
  moves_to l o of there shows None found =
      absurd (both_ways (list_any (shows_chain m.origin) shown.listeners) (none_found (shows_chain m.origin) shown.listeners found)
      (any_at (shows_chain m.origin) shown.listeners l there (ap (λ (origin : Option Origin). shows_chain origin l) of ∙ shows)))
  moves_to l o of there shows (Some s) found =
      let known : Contains shown.listeners s × (shows_chain m.origin s ≡ true) =
      subst (λ (x : Option ServedListener). IfSome x (λ (y : ServedListener). Contains shown.listeners y × (shows_chain m.origin y ≡ true))) found
      (found_in (shows_chain m.origin) shown.listeners) in
      one_shows l s o there known.0 shows (sym (ap (λ (origin : Option Origin). shows_chain origin s) of) ∙ known.1)

  after_is : (l : ServedListener) (o : Origin) → m.origin ≡ Some o → Contains shown.listeners l → shows_chain (Some o) l ≡ true
      → listener_after shown m ≡ l.number
  after_is l o of there shows =
      cond_both (is_shown m.listener shown) None (find (shows_chain m.origin) shown.listeners)
      (λ (next : Option ServedListener). unwrap_or (option_map (λ (s : ServedListener). s.number) next) m.listener ≡ l.number)
      (λ own. own_shown l o of there shows own)
      (λ other. moves_to l o of there shows (find (shows_chain m.origin) shown.listeners) refl)

  after_by : (l : ServedListener) (origin : Option Origin) → m.origin ≡ origin → Contains shown.listeners l → shows_chain origin l ≡ true
      → listener_after shown m ≡ l.number
  after_by l None of there shows = absurd (no_origin l shows)
  after_by l (Some o) of there shows = after_is l o of there shows

module _ (told : Told) (k : ℕ) (m : OpenMember) (closed moved : List ℕ) (run : Runs told) (settles : SettlesWith told k m closed moved)
    (l : ServedListener) (there : IsShownNow (world_told told k) l) (shows : shows_chain m.origin l ≡ true) where
  chain_shown : is_chain_shown m.origin (last_picture (world_told told k)).shown ≡ true
  chain_shown = any_at (shows_chain m.origin) (last_picture (world_told told k)).shown.listeners l there shows

  not_closed : has_number m.connection closed ≡ false
  not_closed =
      false_from_ne_true (has_number m.connection closed)
      (λ h. both_ways (is_chain_shown m.origin (last_picture (world_told told k)).shown) (closes_drained told k m closed moved run settles h).1 chain_shown)

  stays_open : Contains (world_told told (k + 1)).opened (record m { listener = l.number })
  stays_open =
      let world : World = world_told told k in
      let shown : Shown = (last_picture world).shown in
      let parts : HasParts told k = parts_before told k m closed moved run settles in
      let done : HasSettled told k m closed = has_settled told k m closed moved run settles in
      let worker : ℕ = done.worker in
      let closing : OpenMember → Bool = is_closing shown world.expired worker in
      let left : List OpenMember = left_open shown world.expired worker world.opened in
      let isnt : closing m ≡ false =
      and_right ((m.worker == worker) && has_number m.listener world.expired) (not (is_chain_shown m.origin shown)) (ap not chain_shown) in
      let among : Contains left m =
      All-contains (λ (o : OpenMember). not (closing o) ≡ true → Contains left o) world.opened m (passing_in (λ (o : OpenMember). not (closing o)) world.opened)
      settles.among (not_from_false (closing m) isnt) in
      let number : listener_after shown m ≡ l.number =
      after_by (made_of (take k told.journal)) shown (picture_made (made_of (take k told.journal)) world parts.sees (last_version world)) m
      (All-contains (IsMemberMade (made_of (take k told.journal))) world.opened m parts.sees.opened settles.among) l m.origin refl there shows in
      let moves : moved_member shown worker m ≡ record m { listener = l.number } =
      cond-true (m.worker == worker) (record m { listener = listener_after shown m }) m ((numbers_decide m.worker worker).1 done.by)
      ∙ ap (λ listener. record m { listener = listener }) number in
      subst (λ (w : World). Contains w.opened (record m { listener = l.number })) (sym done.next)
      (subst (Contains (moved_on shown worker left)) moves (made_in (moved_member shown worker) left m among))

-- a chain that stays keeps its connections
pub runs_keep_connections : (told : Told) → Runs told → KeepsConnections told
runs_keep_connections told run = record {
  closes = λ k m closed moved settles h. closes_drained told k m closed moved run settles h;
  stays = λ k m closed moved l settles there shows. (
    not_closed told k m closed moved run settles l there shows,
    stays_open told k m closed moved run settles l there shows,
  );
}

-- a chain of a generation began with one that the whole journal made
record BeginsIn (told : Told) (origin : Origin) (body : List ℕ) : Type 0 where
  kind : Kind
  name : List ℕ
  begins : BeginsAs (made_of told.journal) kind name origin body

begins_within : (told : Told) (k : ℕ) (origin : Origin) (chain : FilterChain) → Runs told → k ≤ length told.journal → HasChain told k origin chain
    → BeginsIn told origin chain.body_text
begins_within told k origin chain run le has =
    let world : World = world_told told k in
    let before : List Entry = take k told.journal in
    let row : GenRow = has.row in
    let parts : HasParts told k = parts_kept told run k le in
    let whole : before ++ drop k told.journal ≡ told.journal = take-append-drop k told.journal in
    let more : MakesMore (made_of before) (made_of told.journal) = record {
      is = λ number made is. ap (λ (journal : List Entry). made_of journal number) (sym whole) ∙ made_more before (drop k told.journal) number made is;
    } in
    let begins : BeginsAs (made_of before) row.kind row.name (origin_at row.number row.kept has.placed.place) has.placed.chain.body_text =
    All-contains (BeginChains (made_of before)) world.rows row parts.made.chains has.among has.placed has.there in
    record {
      kind = row.kind;
      name = row.name;
      begins = begins_more (made_of before) (made_of told.journal) row.kind row.name origin chain.body_text more
          (subst (λ (body : List ℕ). BeginsAs (made_of before) row.kind row.name origin body) (ap (λ (c : FilterChain). c.body_text) has.same)
          (subst (λ (o : Origin). BeginsAs (made_of before) row.kind row.name o has.placed.chain.body_text) has.begins begins));
    }

-- after more entries than there are, it is as after all
begins_in : (told : Told) (k : ℕ) (origin : Origin) (chain : FilterChain) → Runs told → HasChain told k origin chain → BeginsIn told origin chain.body_text
begins_in told k origin chain run has =
    elim (cases_lt (length told.journal) k) [
      | inl beyond ↦
          let all : world_told told k ≡ world_told told (length told.journal) =
          ap (world_after told.format (opening told.workers told.node))
          (take_all k told.journal (omega arith) ∙ sym (take_all (length told.journal) told.journal (omega arith))) in
          begins_within told (length told.journal) origin chain run (omega arith) (record {
            row = has.row;
            among = subst (λ (w : World). Contains w.rows has.row) all has.among;
            placed = has.placed;
            there = has.there;
            begins = has.begins;
            same = has.same;
          })
      | inr within ↦ begins_within told k origin chain run within has
    ]

-- two chains of one origin have equal bodies
pub runs_keep_bodies : (told : Told) → Runs told → BodiesStay told
runs_keep_bodies told run j k origin chain other first second =
    let one : BeginsIn told origin chain.body_text = begins_in told j origin chain run first in
    let two : BeginsIn told origin other.body_text = begins_in told k origin other run second in
    let both : Some one.begins.generation.row ≡ Some two.begins.generation.row = sym one.begins.generation.is ∙ two.begins.generation.is in
    let row : one.begins.generation.row ≡ two.begins.generation.row = cc in
    let content : Content = two.begins.generation.row.content in
    let same : one.begins.placed ≡ two.begins.placed =
    placed_once content one.begins.placed two.begins.placed
    (subst (λ (made : MadeRow). Contains (placed_in made.content) one.begins.placed) row one.begins.there) two.begins.there
    (one.begins.at ∙ sym two.begins.at) in
    sym one.begins.same ∙ ap (λ (p : PlacedChain). p.chain.body_text) same ∙ two.begins.same
