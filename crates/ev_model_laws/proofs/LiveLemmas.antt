-- A generation that lives after an event lived before it, or was made by it.
use Rattle.std.proofs.Common.{◌≡◌, ℕ, ◌⊎◌, inl, inr, Bool, true, false, cond, ◌&&◌, List, [], ◌∷◌, ◌++◌, Option, Some, refl, sym, ap, ◌∙◌, subst}
use Rattle.std.specs.List.{Contains, list_any, fold, zip, AllByRecursion as ByRecursion}
use Rattle.std.specs.Str.{bytes_eq}
use Rattle.std.specs.Cmp.{first_so, second_so}
use Rattle.std.proofs.lemmas.Bool.{false≢true, both_ways, and_from, or_left, or_right}
use Rattle.std.proofs.lemmas.List.Elements.{recursion_from_All}
use Rattle.ev_types.specs.Items.{ItemParts, ResponseParts}
use Rattle.ev_types.specs.Kinds.{kind_same, is_by_name}
use Rattle.ev_types.specs.Same.{bytes_decide}
use Rattle.ev_types.specs.Statuses.{is_live}
use Rattle.ev_types.specs.declared.contents.Kind.{Kind}
use Rattle.ev_types.specs.declared.contents.Kind.TheVariants.{Cds, Eds, Lds, Rds, Sds, Ecds}
use Rattle.ev_types.specs.declared.contents.Content.{Content}
use Rattle.ev_types.specs.declared.contents.Body.{Body}
use Rattle.ev_types.specs.declared.contents.Body.TheVariants.{Good, Bad, Beat}
use Rattle.ev_types.specs.declared.events.Actor.{Actor}
use Rattle.ev_types.specs.declared.events.Answer.{Answer}
use Rattle.ev_types.specs.declared.events.Answer.TheVariants.{Ignored}
use Rattle.ev_types.specs.declared.events.Event.{Event}
use Rattle.ev_types.specs.declared.events.Event.TheVariants.{Response}
use Rattle.ev_types.specs.declared.events.Verdict.{Verdict}
use Rattle.ev_types.specs.declared.events.Verdict.TheVariants.{New, InPlace, Back, Same, Kept, Unasked, Renewed, Refused}
use Rattle.ev_types.specs.declared.journals.Format.{Format}
use Rattle.ev_types.specs.declared.rows.Arrival.TheVariants.{TimedOut}
use Rattle.ev_types.specs.declared.rows.GenRow.{GenRow}
use Rattle.ev_types.specs.declared.rows.Live.{Live}
use Rattle.ev_types.specs.declared.rows.RowStatus.{RowStatus}
use Rattle.ev_types.specs.declared.rows.RowStatus.TheVariants.{Warming, Active, Draining, Dropped}
use Rattle.ev_model.specs.World.{World}
use Rattle.ev_model.specs.Live.{lives_of, live_of, is_named}
use Rattle.ev_model.specs.Watching.{has_dependency, is_watched}
use Rattle.ev_model.specs.Verdicts.{is_removed, verdicts_by, verdicts_for}
use Rattle.ev_model.specs.Rows.{arrived, is_row_of, removed_status, with_statuses, status_left, rows_left, with_removals, replaced_status, new_row, keep_version, add_row, keep_value, with_content, refuse, add_item, add_items, made_names, with_first, rows_replaced, add_in_place, go_back, serving_row}
use Rattle.ev_model.specs.Tidy.{has_successor, status_by, promoted_status, tidy}
use Rattle.ev_model.specs.Warming.{is_ready_by}
use Rattle.ev_model.specs.Signals.{with_results, with_end, forget_version, ended_status}
use Rattle.ev_model.specs.Picture.{shown_of}
use Rattle.ev_model.specs.Publishing.{reap}
use Rattle.ev_model.specs.Connections.{accept, close, settle}
use Rattle.ev_model.specs.Entries.{made_by, made_in, made_in_response}
use Rattle.ev_model.specs.Step.{step, respond_by, responded, answered}
use Rattle.ev_model_laws.proofs.AnyLemmas.{or_so, any_so, any_behind, any_only, any_left, any_mapped, any_flat, any_found}
use Rattle.ev_model_laws.proofs.TidyLists.{all_of, any_at, any_of_map}
use Rattle.ev_model_laws.proofs.EventLemmas.{step-leads}
use Rattle.ev_model_laws.specs.Watches.{waits_for, has_item, WatchesBeginWithNew, LiveAreNamed}
use Rattle.ev_types.specs.declared.origins.KeptChain.{KeptChain}
use Rattle.ev_model.specs.Origins.{kept_from}
use Rattle.ev_model_laws.proofs.KeepLemmas.{with_content-holds}

-- ---- statuses

removed_dead : (status : RowStatus) → is_live (removed_status status) ≡ false
removed_dead Warming = refl
removed_dead Active = refl
removed_dead Draining = refl
removed_dead Dropped = refl

-- a row that lives was neither removed nor dead before
removed_not : (goes : Bool) (status : RowStatus) → is_live (cond goes (removed_status status) status) ≡ true → (goes ≡ false) × (is_live status ≡ true)
removed_not true status h = absurd (both_ways (is_live (removed_status status)) (removed_dead status) h)
removed_not false status h = (refl, h)

dropped_not : (goes : Bool) (status : RowStatus) → is_live (cond goes Dropped status) ≡ true → is_live status ≡ true
dropped_not true status h = absurd (false≢true h)
dropped_not false status h = h

promoted_before : (succeeded ready : Bool) (status : RowStatus) → is_live (status_by succeeded ready status) ≡ true → is_live status ≡ true
promoted_before succeeded ready Warming h = refl
promoted_before succeeded ready Active h = refl
promoted_before succeeded ready Draining h = h
promoted_before succeeded ready Dropped h = h

-- ---- rows that pass a test which says nothing of their status

module _ (test : GenRow → Bool) (blind : (row : GenRow) (status : RowStatus) → test (record row { status = status }) ≡ test row) where
  -- one of them lives
  abbrev pub lives : GenRow → Bool
  lives row = is_live row.status && test row

  abbrev pub has_one : List GenRow → Bool
  has_one rows = list_any lives rows

  before : (f : GenRow → RowStatus) (row : GenRow) → (is_live (f row) ≡ true → is_live row.status ≡ true)
      → lives (record row { status = f row }) ≡ true → lives row ≡ true
  before f row so here =
      and_from (is_live row.status) (test row) (so (first_so (is_live (f row)) (test (record row { status = f row })) here))
      (sym (blind row (f row)) ∙ second_so (is_live (f row)) (test (record row { status = f row })) here)

  fewer : (f : GenRow → RowStatus) → ((row : GenRow) → is_live (f row) ≡ true → is_live row.status ≡ true) → (rows : List GenRow)
      → has_one (with_statuses f rows) ≡ true → has_one rows ≡ true
  fewer f so rows h =
      any_so (λ (row : GenRow). lives (record row { status = f row })) lives rows (λ row here. before f row (so row) here)
      (sym (any_mapped lives (λ (row : GenRow). record row { status = f row }) rows) ∙ h)

  pub tidied : (world : World) → has_one (tidy world).rows ≡ true → has_one world.rows ≡ true
  tidied world h =
      fewer (promoted_status world.arrivals world.results world.rows)
      (λ row. promoted_before (has_successor world.arrivals world.results world.rows row) (is_ready_by world.arrivals world.results row) row.status)
      world.rows h

  removed : (kind : Kind) (response : ResponseParts) (rows : List GenRow) → has_one (rows_left kind response rows) ≡ true → has_one rows ≡ true
  removed kind response rows h =
      fewer (status_left kind response)
      (λ row here. (removed_not (kind_same row.kind kind && is_removed response row.name) row.status here).1) rows h

  pub left_by : (kind : Kind) (response : ResponseParts) (world : World) → has_one (with_removals kind response world).rows ≡ true → has_one world.rows ≡ true
  left_by Cds response world h = removed Cds response world.rows h
  left_by Eds response world h = h
  left_by Lds response world h = removed Lds response world.rows h
  left_by Rds response world h = h
  left_by Sds response world h = h
  left_by Ecds response world h = h

  pub ended_by : (kind : Kind) (name : List ℕ) (world : World) → has_one (with_end kind name world).rows ≡ true → has_one world.rows ≡ true
  ended_by Cds name world h = fewer (ended_status Cds name) (λ row here. (removed_not (is_row_of Cds name row) row.status here).1) world.rows h
  ended_by Eds name world h = h
  ended_by Lds name world h = fewer (ended_status Lds name) (λ row here. (removed_not (is_row_of Lds name row) row.status here).1) world.rows h
  ended_by Rds name world h = h
  ended_by Sds name world h = h
  ended_by Ecds name world h = h

  -- what follows where one of them lives: it is kept by resources that say it of what they make
  module _ (Q : Type 0) (kind : Kind) where
    abbrev Follows : World → Type 0
    Follows world = has_one world.rows ≡ true → Q

    -- the resource says it of the generation that it makes
    abbrev Says : Verdict × ItemParts → Type 0
    Says one =
        (number : ℕ) (content : Content) (chains : List KeptChain)
        → made_by kind one.0 one.1.name one.1.body ≡ record { kind = kind; name = one.1.name; content = content } ∷ []
        → test (new_row kind number one.1.name content chains) ≡ true → Q

    replaced_follows : (name : List ℕ) (world : World) → Follows world → Follows (record world { rows = rows_replaced kind name world.rows })
    replaced_follows name world follows = λ old.
        follows (fewer (replaced_status kind name) (λ row here. dropped_not _ row.status here) world.rows old)

    row_follows : (item : ItemParts) (content : Content) (chains : List KeptChain) (world : World)
        → (test (new_row kind world.made item.name content chains) ≡ true → Q) → Follows world → Follows (add_row kind item content chains world)
    row_follows item content chains world says follows = λ h.
        any_behind lives (rows_replaced kind item.name world.rows) (new_row kind world.made item.name content chains ∷ [])
        (replaced_follows item.name world follows)
        (λ new. says (any_only lives (new_row kind world.made item.name content chains) new)) h

    new_follows : (item : ItemParts) (body : Body) (world : World)
        → ((content : Content) → made_by kind New item.name body ≡ record { kind = kind; name = item.name; content = content } ∷ []
        → test (new_row kind world.made item.name content []) ≡ true → Q)
        → Follows world → Follows (with_content (λ content. add_row kind item content []) body world)
    new_follows item (Good content) world says follows = row_follows item content [] world (says content refl) follows
    new_follows item (Bad rule) world says follows = follows
    new_follows item Beat world says follows = follows

    in_place_follows : (item : ItemParts) (body : Body) (world : World)
        → ((content : Content) (chains : List KeptChain) → made_by kind InPlace item.name body ≡ record { kind = kind; name = item.name; content = content } ∷ []
        → test (new_row kind world.made item.name content chains) ≡ true → Q)
        → Follows world → Follows (with_content (add_in_place kind item) body world)
    in_place_follows item (Good content) world says follows =
        row_follows item content (kept_from (serving_row kind item.name world.rows) content) world (says content _ refl) follows
    in_place_follows item (Bad rule) world says follows = follows
    in_place_follows item Beat world says follows = follows

    told_follows : (watched : Bool) (this that : World) → Follows this → Follows that → Follows (cond watched this that)
    told_follows true this that first second = first
    told_follows false this that first second = second

    refused_follows : (of : Kind) (name : List ℕ) (world : World) → Follows world → Follows (refuse of name world)
    refused_follows Cds name world follows = follows
    refused_follows Eds name world follows = told_follows (is_watched (lives_of world) Eds name) _ world follows follows
    refused_follows Lds name world follows = follows
    refused_follows Rds name world follows = told_follows (is_watched (lives_of world) Rds name) _ world follows follows
    refused_follows Sds name world follows = told_follows (is_watched (lives_of world) Sds name) _ world follows follows
    refused_follows Ecds name world follows = told_follows (is_watched (lives_of world) Ecds name) _ world follows follows

    item_follows : (verdict : Verdict) (item : ItemParts) (world : World) → Says (verdict, item) → Follows world → Follows (add_item kind verdict item world)
    item_follows New item world says follows = new_follows item item.body world (λ content. says world.made content []) follows
    item_follows InPlace item world says follows = in_place_follows item item.body world (says world.made) follows
    item_follows Back item world says follows =
        with_content-holds Follows (λ content. go_back kind item) item.body world (λ content. replaced_follows item.name world follows) follows
    item_follows Same item world says follows =
        with_content-holds Follows (λ content. keep_version kind item) item.body world (λ content. follows) follows
    item_follows Kept item world says follows =
        with_content-holds Follows (keep_value kind item) item.body world (λ content. follows) follows
    item_follows Unasked item world says follows = follows
    item_follows Renewed item world says follows = follows
    item_follows (Refused rule) item world says follows = refused_follows kind item.name world follows

    items_follow : (judged : List (Verdict × ItemParts)) (world : World) → ByRecursion Says judged → Follows world
        → Follows (fold (λ (w : World) (one : Verdict × ItemParts). add_item kind one.0 one.1 w) world judged)
    items_follow [] world says follows = follows
    items_follow (one ∷ judged) world says follows =
        items_follow judged (add_item kind one.0 one.1 world) says.1 (item_follows one.0 one.1 world says.0 follows)

    first_follows : (of : Kind) (names : List (List ℕ)) (world : World) → Follows world → Follows (with_first of names world)
    first_follows Cds names world follows = follows
    first_follows Eds names world follows = follows
    first_follows Lds names world follows = follows
    first_follows Rds names world follows = follows
    first_follows Sds names world follows = follows
    first_follows Ecds names world follows = follows

    -- a response
    pub responded_follows : (response : ResponseParts) (verdicts : List Verdict) (world : World)
        → ((one : Verdict × ItemParts) → Contains (zip verdicts response.items) one → Says one)
        → Follows (with_removals kind response world) → Follows (responded kind response verdicts world)
    responded_follows response verdicts world says follows =
        let left : World = with_removals kind response world in
        let judged : List (Verdict × ItemParts) = zip verdicts response.items in
        let after : World = add_items kind verdicts response.items left in
        let firsts : World = with_first kind (made_names verdicts response.items) after in
        λ h. first_follows kind (made_names verdicts response.items) after
        (items_follow judged left (recursion_from_All Says judged (all_of Says judged says)) follows)
        (tidied firsts h)

-- ---- a watch begins

module _ (kind : Kind) (name : List ℕ) where
  abbrev awaits : GenRow → Bool
  awaits row = has_dependency kind name row.content

  awaits_blind : (row : GenRow) (status : RowStatus) → awaits (record row { status = status }) ≡ awaits row
  awaits_blind row status = refl

  watched_is : (world : World) → is_watched (lives_of world) kind name ≡ has_one awaits awaits_blind world.rows
  watched_is world = any_of_map (λ (l : Live). has_dependency kind name l.content) live_of (λ (r : GenRow). is_live r.status) world.rows

  module _ (format : Format) (world : World) (actor : Actor) (event : Event) (none : has_one awaits awaits_blind world.rows ≡ false) where
    -- what an event did has made a generation that waits for the name, where the name is watched after it
    abbrev Begins : World × Answer → Type 0
    Begins did = has_one awaits awaits_blind did.0.rows ≡ true → list_any (waits_for kind name) (made_in event did.1) ≡ true

    lived : (after : World) (answer : Answer) → (has_one awaits awaits_blind after.rows ≡ true → has_one awaits awaits_blind world.rows ≡ true) → Begins (after, answer)
    lived after answer so = λ h. absurd (both_ways (has_one awaits awaits_blind world.rows) none (so h))

    quiet : (after : World) (answer : Answer) → (has_one awaits awaits_blind after.rows ≡ true → has_one awaits awaits_blind world.rows ≡ true) → Begins (tidy after, answer)
    quiet after answer so = λ h. absurd (both_ways (has_one awaits awaits_blind world.rows) none (so (tidied awaits awaits_blind after h)))

    replied_begins : (of : Kind) (response : ResponseParts) → event ≡ Response response → response.kind ≡ Some of
        → Begins (answered of response (verdicts_for of (lives_of world) world.versions response) world)
    replied_begins of response is typed =
        let verdicts : List Verdict = verdicts_for of (lives_of world) world.versions response in
        let judged : List (Verdict × ItemParts) = zip verdicts response.items in
        let made = λ (one : Verdict × ItemParts). made_by of one.0 one.1.name one.1.body in
        responded_follows awaits awaits_blind (list_any (waits_for kind name) (made_in event (answered of response verdicts world).1) ≡ true) of response verdicts world
        (λ one there number content chains makes waits.
        ap (λ (e : Event). list_any (waits_for kind name) (made_in e (answered of response verdicts world).1)) is
        ∙ ap (λ (of : Option Kind). list_any (waits_for kind name) (made_in_response of response verdicts)) typed
        ∙ any_flat (waits_for kind name) made judged
        ∙ any_at (λ (other : Verdict × ItemParts). list_any (waits_for kind name) (made other)) judged one there
        (ap (list_any (waits_for kind name)) makes
        ∙ or_left (has_dependency kind name content) false waits))
        (λ h. absurd (both_ways (has_one awaits awaits_blind world.rows) none (left_by awaits awaits_blind of response world h)))

    begins : Begins (step format world actor event)
    begins = step-leads Begins format world actor event (record {
      ignored = lived world _ (λ h. h);
      connected = λ is. quiet (record world { stream = true }) _ (λ h. h);
      disconnected = λ is. quiet (record world { stream = false }) _ (λ h. h);
      replied = replied_begins;
      resulted = λ cluster host healthy rows is. quiet (with_results host healthy rows world) _ (λ h. h);
      timed = λ timeout of is named.
          quiet (record world { arrivals = world.arrivals ++ arrived world.made timeout.kind TimedOut of ∷ [] }) _ (λ h. h);
      clusters_late = λ timeout is. quiet (record world { late_clusters = true }) _ (λ h. h);
      listeners_late = λ timeout is. quiet (record world { late_listeners = true }) _ (λ h. h);
      expired = λ of numbers is. quiet (record world { expired = world.expired ++ numbers }) _ (λ h. h);
      ended = λ of ends is bounded.
          quiet (with_end of ends (forget_version of ends world)) _ (λ h. ended_by awaits awaits_blind of ends (forget_version of ends world) h);
      unchanged = λ is. lived world _ (λ h. h);
      published = λ is. lived (record world { pictures = world.pictures ++ shown_of world ∷ [] }) _ (λ h. h);
      reaped = λ is. lived (reap format world).0 _ (λ h. any_left (lives awaits awaits_blind) _ world.rows h);
      accepted = λ ask worker is by. lived (accept ask worker world).0 _ (λ h. h);
      closed = λ connection worker is by. lived (close connection worker world).0 _ (λ h. h);
      settled = λ worker is by. lived (settle worker world).0 _ (λ h. h);
    })

pub watches_begin : WatchesBeginWithNew
watches_begin format world actor event kind name none h =
    begins kind name format world actor event (sym (watched_is kind name world) ∙ none) (sym (watched_is kind name (step format world actor event).0) ∙ h)

-- ---- what lives is named

zipped : (p : ItemParts → Bool) (vs : List Verdict) (items : List ItemParts) → list_any (λ (one : Verdict × ItemParts). p one.1) (zip vs items) ≡ true → list_any p items ≡ true
zipped p [] items h = absurd (false≢true h)
zipped p (v ∷ vs) [] h = absurd (false≢true h)
zipped p (v ∷ vs) (item ∷ items) h =
    or_so (p item) (list_any (λ (one : Verdict × ItemParts). p one.1) (zip vs items)) (λ here. or_left (p item) (list_any p items) here)
    (λ more. or_right (p item) (list_any p items) (zipped p vs items more)) h

module _ (kind : Kind) (name : List ℕ) where
  pub named_blind : (row : GenRow) (status : RowStatus) → is_row_of kind name (record row { status = status }) ≡ is_row_of kind name row
  named_blind row status = refl

  pub live_is : (world : World) → list_any (is_named kind name) (lives_of world) ≡ has_one (is_row_of kind name) named_blind world.rows
  live_is world = any_of_map (is_named kind name) live_of (λ (r : GenRow). is_live r.status) world.rows

  -- what lives after the removals lived before, and isn't removed
  abbrev Stays : ResponseParts → World → Type 0
  Stays response world = (list_any (is_named kind name) (lives_of world) ≡ true) × (is_removed response name ≡ false)

  row_stays : (response : ResponseParts) (world : World) (row : GenRow) → Contains world.rows row
      → lives (is_row_of kind name) named_blind (record row { status = status_left kind response row }) ≡ true → Stays response world
  row_stays response world row there here =
      let lived = removed_not (kind_same row.kind kind && is_removed response row.name) row.status (first_so (is_live (status_left kind response row)) (is_row_of kind name row) here) in
      let is : is_row_of kind name row ≡ true = second_so (is_live (status_left kind response row)) (is_row_of kind name row) here in
      let same : kind_same row.kind kind ≡ true = first_so (kind_same row.kind kind) (bytes_eq row.name name) is in
      let named : row.name ≡ name = (bytes_decide row.name name).0 (second_so (kind_same row.kind kind) (bytes_eq row.name name) is) in (
        live_is world ∙ any_at (lives (is_row_of kind name) named_blind) world.rows row there (and_from (is_live row.status) (is_row_of kind name row) lived.1 is),
        ap (is_removed response) (sym named) ∙ ap (λ (b : Bool). b && is_removed response row.name) (sym same) ∙ lived.0,
      )

  rows_stay : (response : ResponseParts) (world : World) → has_one (is_row_of kind name) named_blind (rows_left kind response world.rows) ≡ true → Stays response world
  rows_stay response world h =
      let found = any_found (λ (row : GenRow). lives (is_row_of kind name) named_blind (record row { status = status_left kind response row })) world.rows
      (sym (any_mapped (lives (is_row_of kind name) named_blind) (λ (row : GenRow). record row { status = status_left kind response row }) world.rows) ∙ h) in
      row_stays response world found.0 found.1 found.2

stays_by : (of : Kind) (name : List ℕ) (response : ResponseParts) (world : World) → is_by_name of ≡ false
    → has_one (is_row_of of name) (named_blind of name) (with_removals of response world).rows ≡ true → Stays of name response world
stays_by Cds name response world isnt h = rows_stay Cds name response world h
stays_by Eds name response world isnt h = absurd (false≢true (sym isnt))
stays_by Lds name response world isnt h = rows_stay Lds name response world h
stays_by Rds name response world isnt h = absurd (false≢true (sym isnt))
stays_by Sds name response world isnt h = absurd (false≢true (sym isnt))
stays_by Ecds name response world isnt h = absurd (false≢true (sym isnt))

pub live_named : LiveAreNamed
live_named format world actor response kind name streams typed isnt h =
    let verdicts : List Verdict = verdicts_for kind (lives_of world) world.versions response in
    let after : (step format world actor (Response response)).0 ≡ responded kind response verdicts world =
    ap (λ (b : Bool). (cond b (respond_by response.kind response world) (world, Ignored)).0) streams
    ∙ ap (λ (of : Option Kind). (respond_by of response world).0) typed
    ∙ ap (λ (of : Option Kind). responded kind response (verdicts_by of (lives_of world) world.versions response) world) typed in
    let behind : has_one (is_row_of kind name) (named_blind kind name) (responded kind response verdicts world).rows ≡ true =
    sym (live_is kind name (responded kind response verdicts world)) ∙ subst (λ (w : World). list_any (is_named kind name) (lives_of w) ≡ true) after h in
    responded_follows (is_row_of kind name) (named_blind kind name) ((has_item response name ≡ true) ⊎ Stays kind name response world) kind response verdicts world
    (λ one there number content chains makes is.
    inl (zipped (λ (item : ItemParts). bytes_eq item.name name) verdicts response.items
    (any_at (λ (other : Verdict × ItemParts). bytes_eq other.1.name name) (zip verdicts response.items) one there (second_so (kind_same kind kind) (bytes_eq one.1.name name) is))))
    (λ left. inr (stays_by kind name response world isnt left)) behind
