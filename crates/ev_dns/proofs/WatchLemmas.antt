-- A watch of a place's endpoints begins at what a line with a guarded resource of the place's key becomes.
use Rattle.std.proofs.Common.{◌≡◌, ◌∙◌, ◌⊎◌, inl, inr, ℕ, ◌+◌, ◌<◌, true, false, List, [], ◌++◌, length, map, filter_map, decimal, Option, Some, None, codes, refl, sym, ap, subst, arith}
use Rattle.std.specs.Prelude.{slice_get}
use Rattle.std.specs.List.{list_any}
use Rattle.std.proofs.lemmas.Bool.{or_left}
use Rattle.std.proofs.lemmas.Option.{slice_get_within}
use Rattle.serde_json.specs.Data.{Data}
use Rattle.ev_types.specs.Items.{ItemParts, ResponseParts}
use Rattle.ev_types.specs.declared.clusters.Cluster.{Cluster}
use Rattle.ev_types.specs.declared.clusters.Discovery.{Discovery}
use Rattle.ev_types.specs.declared.clusters.Discovery.TheVariants.{Eds as by_name}
use Rattle.ev_types.specs.declared.contents.Kind.{Kind}
use Rattle.ev_types.specs.declared.contents.Kind.TheVariants.{Cds, Eds}
use Rattle.ev_types.specs.declared.contents.Content.{Content}
use Rattle.ev_types.specs.declared.contents.Content.TheVariants.{Cluster as a_cluster}
use Rattle.ev_types.specs.declared.contents.Body.TheVariants.{Good}
use Rattle.ev_types.specs.declared.events.Answer.{Answer}
use Rattle.ev_types.specs.declared.events.Entry.{Entry}
use Rattle.ev_types.specs.declared.events.Event.{Event}
use Rattle.ev_types.specs.declared.events.Event.TheVariants.{Response}
use Rattle.ev_types.specs.declared.events.Line.{Line}
use Rattle.ev_types.specs.declared.limits.TheConstants.{ITEM_LIMIT}
use Rattle.ev_types.specs.declared.events.Profile.{Profile}
use Rattle.ev_types.specs.Profiles.{is_envoy}
use Rattle.ev_model.specs.Entries.{made_in}
use Rattle.ev_model_laws.proofs.OperationLists.{IsIn, any_at}
use Rattle.ev_model_laws.specs.Watches.{waits_for}
use Rattle.ev_script.specs.Lines.{line_of}
use Rattle.ev_wire.specs.Responses.{entries_of, item_of}
use Rattle.ev_expand.specs.declared.keys.Key.{Key}
use Rattle.ev_expand.specs.Expanding.{due_at, guarded_at, place_of}
use Rattle.ev_expand.specs.Following.{entry_due}
use Rattle.ev_expand.specs.Fronts.{Front, event_of, fronts, message_of}
use Rattle.ev_expand.specs.Guarding.{Guarded, body_in, clusters_by, clusters_in, guarded_by, items_as, place_at, place_in, waiting_entries, waiting_entry}
use Rattle.ev_expand.specs.Private.{body_uses, event_uses, first_use, item_uses, named_uses, response_uses}
use Rattle.ev_expand.proofs.EventLemmas.{cluster_items_read, items_read}
use Rattle.ev_expand.specs.Waiting.{waiting_cluster, waiting_item}
use Rattle.ev_expand.proofs.ReadLemmas.{guarded_item, other_item}
use Rattle.ev_expand.proofs.CountLemmas.{places_same}
use Rattle.ev_expand.proofs.FrontLawLemmas.{front_at}
use Rattle.ev_expand.proofs.GuardLemmas.{IsGuardedAt, guarded_at_place}
use Rattle.ev_expand.proofs.ListLemmas.{in_map, map_in, some_same}
use Rattle.ev_expand.proofs.UsedLemmas.{event_unused, private_begins}
use Rattle.ev_dns.specs.Resolving.{dns_rules, has_guarded}
use Rattle.ev_dns.specs.Templates.{by_names}
use Rattle.ev_dns.specs.LastAnswers.{name_of_place}
use Rattle.ev_dns.proofs.EntryLemmas.{IsBy}
use Rattle.ev_dns.proofs.GuardLemmas.{guards_clusters, line_guards}
use Rattle.ev_dns.proofs.MakerLemmas.{IsAsking, IsMaker, asking_kind, maker_of}
use Rattle.ev_dns.proofs.TextLemmas.{IsFollower, IsOwn, IsWaiting, due_response, follower_says, given_is, own_says}

-- ---- a line that uses a private name

-- a cluster that asks by a private name uses it
item_used : (prefix rest : List ℕ) (item : ItemParts) (content : Content) → item.body ≡ Good content → IsAsking (prefix ++ rest) content → item_uses prefix Cds item ≡ true
item_used prefix rest item content good asks =
    ap (body_uses prefix) (good ∙ ap (λ c. Good c) asks.is)
    ∙ ap (λ (d : Discovery). body_uses prefix (Good (a_cluster (record asks.cluster { discovery = d })))) asks.asks
    ∙ private_begins prefix rest

response_used : (prefix rest : List ℕ) (response : ResponseParts) (item : ItemParts) (content : Content) → response.kind ≡ Some Cds → IsIn item response.items
    → item.body ≡ Good content → IsAsking (prefix ++ rest) content → event_uses prefix (Response response) ≡ true
response_used prefix rest response item content typed among good asks =
    ap (λ kind. response_uses prefix kind response) typed
    ∙ or_left (list_any (item_uses prefix Cds) response.items) (list_any (named_uses prefix Cds) response.removed)
    (any_at (item_uses prefix Cds) item response.items among (item_used prefix rest item content good asks))

-- ---- the resource that begins it

-- the names by which two clusters ask are the same
asked_same : (profile : Profile) (name other : List ℕ) (body : Data) (cluster : Cluster) (content : Content) → content ≡ a_cluster (waiting_cluster profile other body cluster)
    → IsAsking name content → other ≡ name
asked_same profile name other body cluster content is asks =
    let same : a_cluster (waiting_cluster profile other body cluster) ≡ a_cluster asks.cluster = sym is ∙ asks.is in
    let one : waiting_cluster profile other body cluster ≡ asks.cluster = cc in
    let found : by_name other false (is_envoy profile) ≡ by_name name asks.limited asks.fresh = ap (λ (c : Cluster). c.discovery) one ∙ asks.asks in
    cc

module _ (profile : Profile) (lines : List Data) (unused : first_use profile (codes "dns/") lines ≡ None) (few : length (guarded_by (by_names profile) lines) < ITEM_LIMIT)
    (place : ℕ) (g : Guarded) (there : slice_get (guarded_by (by_names profile) lines) place ≡ Some g) where
  abbrev name : List ℕ
  name = name_of_place place

  -- no line of the input itself asks
  input_asks : (index : ℕ) (front : Front) → slice_get (fronts lines) index ≡ Some front → (response : ResponseParts) → event_of profile front.line ≡ Some (Response response)
      → (kind : Kind) (item : ItemParts) (content : Content) → response.kind ≡ Some kind → IsIn item response.items → item.body ≡ Good content → IsAsking name content → ⊥
  input_asks index front at response event kind item content typed among good asks =
      let entry = in_map (item_of profile kind) (entries_of (message_of front.line)) item (subst (IsIn item) (items_read profile front.line response kind event typed) among) in
      let clusters : kind ≡ Cds = asking_kind profile name kind entry.0 content (ap (λ (i : ItemParts). i.body) entry.2 ∙ good) asks in
      event_unused profile (codes "dns/") lines index front.line (Response response) unused (front_at lines index front at).here event
      (response_used (codes "dns/") (decimal (place + 1)) response item content (typed ∙ ap (λ k. Some k) clusters) among good asks)

  -- a guarded resource asks by the number of its key
  guarded_asks : (index : ℕ) (front : Front) → slice_get (fronts lines) index ≡ Some front → (entry : Data) (key : Key) → (by_names profile).key_of entry ≡ Some key
      → IsIn entry (clusters_in profile front.line) → (content : Content)
      → (item_of profile Cds (waiting_entry (codes "dns/") (place_at (by_names profile) (guarded_at (dns_rules profile) front) entry) entry)).body ≡ Good content → IsAsking name content
      → has_guarded profile front.line g.key ≡ true
  guarded_asks index front at entry key is among content good asks =
      let gs : List Guarded = guarded_at (dns_rules profile) front in
      let own : IsGuardedAt (by_names profile) lines (place_in gs key) key = guarded_at_place (by_names profile) lines index front entry key at among is in
      let reads : item_of profile Cds (waiting_entry (codes "dns/") (place_at (by_names profile) gs entry) entry) ≡ waiting_item profile (codes "dns/") (place_in gs key) key.cluster entry =
      guarded_item (by_names profile) (codes "dns/") gs entry key (guards_clusters profile) (omega arith) is in
      let made : Good (a_cluster (waiting_cluster profile (name_of_place (place_in gs key)) (body_in entry) key.cluster)) ≡ Good content = sym (ap (λ (i : ItemParts). i.body) reads) ∙ good in
      let content_is : a_cluster (waiting_cluster profile (name_of_place (place_in gs key)) (body_in entry) key.cluster) ≡ content = cc in
      let same : place_in gs key ≡ place =
      places_same (codes "dns/") (place_in gs key) place
      (omega (arith, slice_get_within (guarded_by (by_names profile) lines) (place_in gs key) own.guarded own.there, few))
      (omega (arith, slice_get_within (guarded_by (by_names profile) lines) place g there, few))
      (asked_same profile name (name_of_place (place_in gs key)) (body_in entry) key.cluster content (sym content_is) asks) in
      let one : own.guarded ≡ g = some_same (sym own.there ∙ ap (slice_get (guarded_by (by_names profile) lines)) same ∙ there) in
      ap (has_guarded profile front.line) (sym (own.same ∙ ap (λ (h : Guarded). h.key) one)) ∙ line_guards profile front.line entry key among is

  clusters_are : (front : Front) (response : ResponseParts) → event_of profile front.line ≡ Some (Response response) → response.kind ≡ Some Cds
      → response.items ≡ map (item_of profile Cds) (clusters_in profile front.line)
  clusters_are front response event typed =
      sym (ap (λ (kind : Option Kind). items_as kind response.items) typed)
      ∙ cluster_items_read profile front.line (Some (Response response)) (sym event)
      ∙ ap (λ (e : Option Event). map (item_of profile Cds) (clusters_by e front.line)) (sym event)

  waiting_asks : (index : ℕ) (front : Front) → slice_get (fronts lines) index ≡ Some front → (event : Event) → IsWaiting profile front event → (maker : IsMaker name event)
      → has_guarded profile front.line g.key ≡ true
  waiting_asks index front at event waiting maker =
      let gs : List Guarded = guarded_at (dns_rules profile) front in
      let same : Response maker.response ≡ Response (record waiting.said.response { items = map (item_of profile Cds) (waiting_entries (codes "dns/") (by_names profile) gs front.line) }) =
      sym maker.is ∙ waiting.is in
      let items : maker.response.items ≡ map (item_of profile Cds) (waiting_entries (codes "dns/") (by_names profile) gs front.line) = ap items_of_event same in
      let outer = in_map (item_of profile Cds) (waiting_entries (codes "dns/") (by_names profile) gs front.line) maker.item (subst (IsIn maker.item) items maker.among) in
      let inner = in_map (λ (entry : Data). waiting_entry (codes "dns/") (place_at (by_names profile) gs entry) entry) (clusters_in profile front.line) outer.0 outer.1 in
      let good : (item_of profile Cds (waiting_entry (codes "dns/") (place_at (by_names profile) gs inner.0) inner.0)).body ≡ Good maker.content =
      ap (λ (d : Data). (item_of profile Cds d).body) inner.2 ∙ ap (λ (i : ItemParts). i.body) outer.2 ∙ maker.good in
      by inner.0 ((by_names profile).key_of inner.0) refl inner.1 good
    where
      items_of_event : Event → List ItemParts
      items_of_event (Response response) = response.items
      items_of_event event = []

      by : (entry : Data) (key : Option Key) → (by_names profile).key_of entry ≡ key → IsIn entry (clusters_in profile front.line)
          → (item_of profile Cds (waiting_entry (codes "dns/") (place_at (by_names profile) (guarded_at (dns_rules profile) front) entry) entry)).body ≡ Good maker.content → has_guarded profile front.line g.key ≡ true
      by entry None is among good =
          let itself : waiting_entry (codes "dns/") (place_at (by_names profile) (guarded_at (dns_rules profile) front) entry) entry ≡ entry =
          other_item (by_names profile) (codes "dns/") (guarded_at (dns_rules profile) front) entry is in
          let response : ResponseParts = waiting.said.response in
          absurd (input_asks index front at response waiting.said.event Cds (item_of profile Cds entry) maker.content waiting.said.kind
          (subst (IsIn (item_of profile Cds entry)) (sym (clusters_are front response waiting.said.event waiting.said.kind)) (map_in (item_of profile Cds) (clusters_in profile front.line) entry among))
          (sym (ap (λ (d : Data). (item_of profile Cds d).body) itself) ∙ good) maker.asks)
      by entry (Some key) is among good = guarded_asks index front at entry key is among maker.content good maker.asks

  -- a response of endpoints makes no such generation
  pub endpoints_ask : (response : ResponseParts) (entries : List Data) (event : Event) → response.kind ≡ Some Eds → response.items ≡ map (item_of profile Eds) entries
      → event ≡ Response response → IsMaker name event → ⊥
  endpoints_ask response entries event typed items is maker =
      let same : Response maker.response ≡ Response response = sym maker.is ∙ is in
      let one : maker.response ≡ response = cc in
      let found : maker.response.items ≡ response.items = ap (λ (r : ResponseParts). r.items) one in
      let among : IsIn maker.item (map (item_of profile Eds) entries) = subst (IsIn maker.item) items (subst (IsIn maker.item) found maker.among) in
      let entry = in_map (item_of profile Eds) entries maker.item among in
      by entry.0 entry.2
    where
      differ : Eds ≡ Cds → ⊥
      differ e = cc

      by : (entry : Data) → item_of profile Eds entry ≡ maker.item → ⊥
      by entry reads = differ (asking_kind profile name Eds entry maker.content (ap (λ (i : ItemParts). i.body) reads ∙ maker.good) maker.asks)

  -- an entry that makes a generation which depends on the place's endpoints is what a line with a guarded resource of
  -- its key becomes
  pub record Guards (entry : Entry) (by : IsBy profile lines entry) : Type 0 where
    pub own : IsOwn profile by.front by.inner by.tree
    pub guarded : has_guarded profile by.front.line g.key ≡ true

  pub makes_guard : (entry : Entry) (by : IsBy profile lines entry) (answer : Answer) → list_any (waits_for Eds name) (made_in entry.event answer) ≡ true → Guards entry by
  makes_guard entry by answer h = at (given_is profile by.front by.inner by.tree by.among)
    where
      maker : IsMaker name entry.event
      maker = maker_of name entry.event answer h

      own_guards : IsOwn profile by.front by.inner by.tree → (event_of profile by.front.line ≡ Some by.line.event) ⊎ IsWaiting profile by.front by.line.event → Guards entry by
      own_guards own (inl same) =
          absurd (input_asks by.index by.front by.there maker.response (same ∙ ap (λ e. Some e) (by.says ∙ maker.is)) maker.kind maker.item maker.content maker.typed
          maker.among maker.good maker.asks)
      own_guards own (inr waiting) = record {
        own = own;
        guarded = waiting_asks by.index by.front by.there entry.event (subst (IsWaiting profile by.front) by.says waiting) maker;
      }

      at : IsOwn profile by.front by.inner by.tree ⊎ IsFollower profile by.front by.inner by.tree → Guards entry by
      at (inl own) = own_guards own (own_says profile by.front entry.at by.line (sym (ap (line_of profile entry.at) own.is) ∙ by.is))
      at (inr follows) =
          absurd (endpoints_ask (due_response profile by.front) (filter_map (entry_due (codes "dns/") (decimal (place_of by.front))) (due_at (dns_rules profile) by.front)) entry.event refl refl
          (sym by.says ∙ ap (λ (l : Line). l.event) (follower_says profile by.front by.inner entry.at by.tree by.line follows by.is)) maker)
