-- What is accepted is accepted after the report of each secret that the resource names which made it.
use Rattle.std.proofs.Common.{◌≡◌, ◌∙◌, inl, ℕ, ◌+◌, ◌==◌, Bool, true, false, cond, List, [], length, map, Option, Some, None, is_some, codes, refl, sym, ap, subst, arith, ne_eqb}
use Rattle.std.specs.Prelude.{Contains, slice_get, option_map}
use Rattle.std.proofs.lemmas.Bool.{both_ways, false≢true}
use Rattle.std.proofs.lemmas.Option.{slice_get-map}
use Rattle.serde_json.specs.Data.{Data}
use Rattle.ev_types.specs.Items.{ItemParts, ResponseParts}
use Rattle.ev_types.specs.Scripts.{IsScript}
use Rattle.ev_types.specs.declared.clusters.Cluster.{Cluster}
use Rattle.ev_types.specs.declared.contents.Kind.{Kind}
use Rattle.ev_types.specs.declared.contents.Kind.TheVariants.{Cds}
use Rattle.ev_types.specs.declared.contents.Content.{Content}
use Rattle.ev_types.specs.declared.contents.Content.TheVariants.{Cluster as a_cluster}
use Rattle.ev_types.specs.declared.contents.Body.{Body}
use Rattle.ev_types.specs.declared.contents.Body.TheVariants.{Good, Bad, Beat}
use Rattle.ev_types.specs.declared.events.Actor.TheVariants.{Stream}
use Rattle.ev_types.specs.declared.events.Entry.{Entry}
use Rattle.ev_types.specs.declared.events.Event.{Event}
use Rattle.ev_types.specs.declared.events.Event.TheVariants.{Response}
use Rattle.ev_types.specs.declared.events.Line.{Line}
use Rattle.ev_types.specs.declared.events.Profile.{Profile}
use Rattle.ev_types.specs.declared.events.Profile.TheVariants.{Own, Envoy}
use Rattle.ev_types.specs.Profiles.{is_envoy}
use Rattle.ev_types.specs.declared.journals.Format.{Format}
use Rattle.ev_model.specs.Entries.{MadeRow, made_of}
use Rattle.ev_model.specs.Operations.{IsRunOf, Operation, operation_of}
use Rattle.ev_model_laws.proofs.OperationLists.{any_at}
use Rattle.ev_model_laws.proofs.HoldLemmas.{side_holds}
use Rattle.ev_script.specs.Lines.{line_of}
use Rattle.ev_script.specs.declared.trees.ScriptTrees.{ScriptTrees}
use Rattle.ev_wire.specs.Responses.{item_of}
use Rattle.ev_cluster_json.specs.Clusters.{has_custom_type}
use Rattle.ev_expand.specs.declared.keys.Key.{Key}
use Rattle.ev_expand.specs.Keys.{key_with, typed_cluster}
use Rattle.ev_expand.specs.Expanding.{guarded_at}
use Rattle.ev_expand.specs.Fronts.{Front, event_of, fronts, message_of}
use Rattle.ev_expand.specs.Guarding.{Guarded, body_in, clusters_by, clusters_in, items_as, kind_of, listed_as, place_at, place_in, private_name, waiting_entry}
use Rattle.ev_expand.proofs.EventLemmas.{cluster_items_read}
use Rattle.ev_expand.specs.Said.{given_lines, lines_in}
use Rattle.ev_expand.specs.Waiting.{GuardsClusters, WaitsAsSaid, has_guarded, stream_line, waiting_cluster, waiting_item, waiting_response}
use Rattle.ev_expand.proofs.FrontLawLemmas.{front_at, front_there, given_at, given_before}
use Rattle.ev_expand.proofs.GuardLemmas.{IsGuardedAt, guarded_at_place}
use Rattle.ev_expand.proofs.ItemLemmas.{good_reads, item_cluster, item_good}
use Rattle.ev_expand.proofs.ListLemmas.{in_get, some_same}
use Rattle.ev_expand.proofs.OrderLemmas.{IsOfLine, entry_in, is_behind, of_line}
use Rattle.ev_expand.proofs.ReadLemmas.{guarded_item, other_item, waiting_reads, waiting_stays}
use Rattle.ev_expand.proofs.SaidPlaceLemmas.{IsSaid, line_event, line_place, said_is}
use Rattle.ev_expand.proofs.WaitLemmas.{own_types}
use Rattle.ev_tls.specs.References.{body_key, by_secrets, content_key, references_of}
use Rattle.ev_tls.specs.Sealing.{tls_rules}
use Rattle.ev_tls.specs.Sealed.{IsByLine, IsMadeOf, NamesSecret, Sealed, sealed_script}
use Rattle.ev_tls.proofs.KeyLemmas.{AsksFor, KeyNames, sealed_by_key}
use Rattle.ev_tls.proofs.MadeLemmas.{MakesAt, made_there, makes_at}
use Rattle.ev_tls.proofs.TextLemmas.{own_line}

-- ---- guarded resources

-- the key of a good cluster is it without the text of its body and its own references, and the secrets that it names
record IsKeyOf (body : Body) (names : List (List ℕ)) (key : Key) : Type 0 where
  own : Cluster
  good : body ≡ Good (a_cluster own)
  same : typed_cluster own ≡ key.cluster
  named : key.names ≡ names

cluster_keyed : (cluster : Cluster) (names : List (List ℕ)) (key : Key) (b : Bool) → cond b None (Some (key_with cluster names)) ≡ Some key
    → IsKeyOf (Good (a_cluster cluster)) names key
cluster_keyed cluster names key true h = absurd (cc)
cluster_keyed cluster names key false h =
    let same : key_with cluster names ≡ key = some_same h in
    record {
      own = cluster;
      good = refl;
      same = ap (λ (k : Key). k.cluster) same;
      named = sym (ap (λ (k : Key). k.names) same);
    }

key_is : (body : Body) (names : List (List ℕ)) (key : Key) → body_key body names ≡ Some key → IsKeyOf body names key
key_is (Good (a_cluster cluster)) names key h = cluster_keyed cluster names key (length names == 0) h
key_is (Good content) names key h = absurd (cc)
key_is (Bad rule) names key h = absurd (cc)
key_is Beat names key h = absurd (cc)

-- what is guarded is read by this project's own rules
guarded_unless : (envoy : Bool) (found : Option Key) (key : Key) → cond envoy None found ≡ Some key → (envoy ≡ false) × (found ≡ Some key)
guarded_unless true found key h = absurd (cc)
guarded_unless false found key h = (refl, h)

guarded_key : (profile : Profile) (entry : Data) (key : Key) → (by_secrets profile).key_of entry ≡ Some key
    → (is_envoy profile ≡ false) × (body_key (item_of profile Cds entry).body (references_of (body_in entry)) ≡ Some key)
guarded_key profile entry key h =
    guarded_unless (is_envoy profile) (body_key (item_of profile Cds entry).body (references_of (body_in entry))) key h

-- by these rules a good cluster has no custom type
own_typed : (profile : Profile) (entry : Data) (cluster : Cluster) → is_envoy profile ≡ false → (item_of profile Cds entry).body ≡ Good (a_cluster cluster)
    → has_custom_type (body_in entry) ≡ false
own_typed Own entry cluster own good = (own_types (body_in entry) cluster (good_reads Own entry cluster (item_good Own entry (a_cluster cluster) good))).1
own_typed Envoy entry cluster own good = absurd (false≢true (sym own))

guards_clusters : (profile : Profile) → GuardsClusters (by_secrets profile)
guards_clusters profile entry key h =
    let guarded = guarded_key profile entry key h in
    let is : IsKeyOf (item_of profile Cds entry).body (references_of (body_in entry)) key =
    key_is (item_of profile Cds entry).body (references_of (body_in entry)) key guarded.1 in
    record {
      typed = own_typed profile entry is.own guarded.0 is.good;
      reads = inl (record { own = is.own; reads = item_good profile entry (a_cluster is.own) is.good; same = is.same });
    }

no_key : (key : Key) → None ≡ Some key → ⊥
no_key key e = cc

-- a good resource that names a secret is guarded
good_is_guarded : (profile : Profile) (entry : Data) (content : Content) (secret : List ℕ) → (item_of profile Cds entry).body ≡ Good content
    → Contains (references_of (body_in entry)) secret → is_envoy profile ≡ false → (key : Key) × ((by_secrets profile).key_of entry ≡ Some key)
good_is_guarded profile entry content secret good named own =
    let names : List (List ℕ) = references_of (body_in entry) in
    let cluster = item_cluster profile entry content good in
    let key : Key = key_with cluster.0 names in
    let some : (length names == 0) ≡ false = ne_eqb (length names) 0 (λ e. omega (arith, named.1, e)) in (
      key,
      (λ i. cond (own i) None (body_key (good i) names)) ∙ ap (λ (c : Content). content_key c names) cluster.1
          ∙ ap (λ (b : Bool). cond b None (Some key)) some,
    )

-- ---- what a line with such a resource becomes

-- a line has clusters only where it is a response of them
of_clusters : (kind : Option Kind) (message : Data) (item : ℕ) (entry : Data) → slice_get (listed_as kind message) item ≡ Some entry → kind ≡ Some Cds
of_clusters None message item entry h = absurd (cc)
of_clusters (Some Cds) message item entry h = refl
of_clusters (Some kind) message item entry h = absurd (cc)

mapped_at : {X Y : Type 0} (f : X → Y) (xs : List X) (n : ℕ) (x : X) → slice_get xs n ≡ Some x → slice_get (map f xs) n ≡ Some (f x)
mapped_at f xs n x there = slice_get-map f xs n ∙ ap (option_map f) there

abbrev items_of : Event → List ItemParts
items_of (Response response) = response.items
items_of event = []

module _ (profile : Profile) (front : Front) (at : ℕ) (line : Line) (makes : ResponseParts) (item : ℕ) (entry : Data) (parts : ItemParts)
    (is : line_of profile at (own_line profile front) ≡ Some line) (says : line.event ≡ Response makes) (there : slice_get makes.items item ≡ Some parts)
    (stands : slice_get (clusters_in profile front.line) item ≡ Some entry) where
  abbrev guarded_so_far : List Guarded
  guarded_so_far = guarded_at (tls_rules profile) front

  abbrev waits : Data → Data
  waits e = waiting_entry (codes "tls/") (place_at (by_secrets profile) guarded_so_far e) e

  some_waits : has_guarded (by_secrets profile) front.line ≡ true → parts ≡ item_of profile Cds (waits entry)
  some_waits some =
      let reads : WaitsAsSaid (codes "tls/") (by_secrets profile) guarded_so_far front.line = waiting_reads (codes "tls/") (by_secrets profile) guarded_so_far front.line some in
      let response : ResponseParts = waiting_response (codes "tls/") (by_secrets profile) guarded_so_far front.line reads.response in
      let made : stream_line at response ≡ line = some_same (sym (reads.reads at) ∙ is) in
      let event : Response response ≡ Response makes = ap (λ (l : Line). l.event) made ∙ says in
      let items : map (item_of profile Cds) (map waits (clusters_in profile front.line)) ≡ makes.items = ap items_of event in
      some_same (sym there ∙ sym (ap (λ (is : List ItemParts). slice_get is item) items)
      ∙ mapped_at (item_of profile Cds) (map waits (clusters_in profile front.line)) item (waits entry) (mapped_at waits (clusters_in profile front.line) item entry stands))

  none_waits : has_guarded (by_secrets profile) front.line ≡ false → parts ≡ item_of profile Cds (waits entry)
  none_waits none =
      let stays : own_line profile front ≡ front.line = waiting_stays (codes "tls/") (by_secrets profile) guarded_so_far front.line none in
      let event : event_of profile front.line ≡ Some (Response makes) =
      line_event profile at front.line line (ap (line_of profile at) (sym stays) ∙ is) ∙ ap (λ (e : Event). Some e) says in
      let typed : makes.kind ≡ Some Cds = sym (ap kind_of event) ∙ of_clusters (kind_of (event_of profile front.line)) (message_of front.line) item entry stands in
      let items : makes.items ≡ map (item_of profile Cds) (clusters_in profile front.line) =
      sym (ap (λ (kind : Option Kind). items_as kind makes.items) typed)
      ∙ cluster_items_read profile front.line (Some (Response makes)) (sym event)
      ∙ ap (λ (e : Option Event). map (item_of profile Cds) (clusters_by e front.line)) (sym event) in
      let itself : waits entry ≡ entry = unkeyed ((by_secrets profile).key_of entry) refl in
      some_same (sym there ∙ ap (λ (is : List ItemParts). slice_get is item) items ∙ mapped_at (item_of profile Cds) (clusters_in profile front.line) item entry stands)
      ∙ sym (ap (item_of profile Cds) itself)
    where
      unkeyed : (key : Option Key) → (by_secrets profile).key_of entry ≡ key → waits entry ≡ entry
      unkeyed None keyed = other_item (by_secrets profile) (codes "tls/") guarded_so_far entry keyed
      unkeyed (Some key) keyed =
          absurd (both_ways (has_guarded (by_secrets profile) front.line) none
          (any_at (λ (e : Data). is_some ((by_secrets profile).key_of e)) entry (clusters_in profile front.line) (in_get (clusters_in profile front.line) item entry stands) (ap is_some keyed)))

  -- at the place of a resource of clusters the line's own line has it as it waits
  pub waits_at : parts ≡ item_of profile Cds (waits entry)
  waits_at = by (has_guarded (by_secrets profile) front.line) refl
    where
      by : (b : Bool) → has_guarded (by_secrets profile) front.line ≡ b → parts ≡ item_of profile Cds (waits entry)
      by true some = some_waits some
      by false none = none_waits none

-- ---- in a run

module _ (trees : ScriptTrees) (format : Format) (journal : List Entry) (kept : IsScript (sealed_script trees)) (run : IsRunOf format (sealed_script trees) journal) where
  abbrev profile : Profile
  profile = trees.header.profile

  -- an entry by what a line became does the line's own line of the text
  record IsOwnEntry (entry : Entry) (index : ℕ) : Type 0 where
    front : Front
    there : slice_get (fronts (lines_in trees)) index ≡ Some front
    at : ℕ
    line : Line
    is : line_of profile at (own_line profile front) ≡ Some line
    event : line.event ≡ entry.event

  own_entry : (place index : ℕ) (tree : Data) (by : IsByLine profile journal place (lines_in trees) index) (response : ResponseParts) → by.entry.event ≡ Response response
      → slice_get (lines_in trees) index ≡ Some tree → IsOwnEntry by.entry index
  own_entry place index tree by response event there =
      let lines : List Data = lines_in trees in
      let entry : Entry = by.entry in
      let own : IsOfLine (sealed_script trees) (operation_of entry) =
      of_line (sealed_script trees) (operation_of entry)
      (entry_in (sealed_script trees) journal Stream place entry (side_holds format (sealed_script trees) journal Stream kept tt run) by.there by.by)
      (ap is_behind event) in
      let said : IsSaid profile 2 (given_lines (tls_rules profile) lines) own.line = said_is profile 2 (given_lines (tls_rules profile) lines) own.line own.among in
      let front = front_there lines index tree there in
      let numbered : own.line.at ≡ 2 + said.index = line_place profile (2 + said.index) said.tree own.line said.is in
      let same_at : own.line.at ≡ entry.at = ap (λ (o : Operation). o.at) own.is in
      let index_is : said.index ≡ given_before (tls_rules profile) lines index + 0 = omega (arith, numbered, same_at, by.at) in
      let tree_is : said.tree ≡ own_line profile front.0 =
      some_same (sym said.there ∙ ap (slice_get (given_lines (tls_rules profile) lines)) index_is ∙ given_at (tls_rules profile) lines index 0 front.0 (own_line profile front.0) front.1 refl) in
      record {
        front = front.0;
        there = front.1;
        at = 2 + said.index;
        line = own.line;
        is = ap (line_of profile (2 + said.index)) (sym tree_is) ∙ said.is;
        event = ap (λ (o : Operation). o.event) own.is;
      }

  -- a generation that a resource made which names a secret asks for its endpoints by a private name, whose place's
  -- key names it
  record AsksByKey (number : ℕ) (secret : List ℕ) : Type 0 where
    place : ℕ
    asks : AsksFor journal number place
    names : KeyNames profile (lines_in trees) place secret

  keyed_asks : (number index : ℕ) (secret : List ℕ) (front : Front) (entry : Data) (row : MadeRow) (key : Key) → slice_get (fronts (lines_in trees)) index ≡ Some front
      → (item : ℕ) → slice_get (clusters_in profile front.line) item ≡ Some entry → made_of journal number ≡ Some row
      → (item_of profile Cds (waiting_entry (codes "tls/") (place_at (by_secrets profile) (guarded_at (tls_rules profile) front) entry) entry)).body ≡ Good row.content
      → Contains (references_of (body_in entry)) secret → (by_secrets profile).key_of entry ≡ Some key → AsksByKey number secret
  keyed_asks number index secret front entry row key there item stands made good named keyed =
      let gs : List Guarded = guarded_at (tls_rules profile) front in
      let place : ℕ = place_in gs key in
      let reads : item_of profile Cds (waiting_entry (codes "tls/") (place_at (by_secrets profile) gs entry) entry) ≡ waiting_item profile (codes "tls/") place key.cluster entry =
      guarded_item (by_secrets profile) (codes "tls/") gs entry key (guards_clusters profile) (omega arith) keyed in
      let body : Good (a_cluster (waiting_cluster profile (private_name (codes "tls/") place) (body_in entry) key.cluster)) ≡ Good row.content =
      sym (ap (λ (i : ItemParts). i.body) reads) ∙ good in
      let guarded : IsGuardedAt (by_secrets profile) (lines_in trees) place key =
      guarded_at_place (by_secrets profile) (lines_in trees) index front entry key there (in_get (clusters_in profile front.line) item entry stands) keyed in
      let names : key.names ≡ references_of (body_in entry) = (key_is (item_of profile Cds entry).body (references_of (body_in entry)) key (guarded_key profile entry key keyed).1).named in
      record {
        place = place;
        asks = record {
          row = row;
          made = made;
          cluster = waiting_cluster profile (private_name (codes "tls/") place) (body_in entry) key.cluster;
          content = sym (good_same body);
          limited = false;
          fresh = is_envoy profile;
          asks = refl;
        };
        names = record {
          guarded = guarded.guarded;
          there = guarded.there;
          named = subst (λ (ns : List (List ℕ)). Contains ns secret) (sym names ∙ ap (λ (k : Key). k.names) guarded.same) named;
        };
      }
    where
      good_same : {a b : Content} → Good a ≡ Good b → a ≡ b
      good_same e = cc

  resource_asks : (number index item : ℕ) (secret : List ℕ) → IsMadeOf profile journal number (lines_in trees) index item → NamesSecret profile (lines_in trees) index item secret
      → AsksByKey number secret
  resource_asks number index item secret made names =
      let makes : MakesAt made.by.entry.event made.by.entry.answer item made.row = makes_at made.by.entry.event made.by.entry.answer item made.row made.made in
      let own : IsOwnEntry made.by.entry index = own_entry made.place index names.line made.by makes.response makes.is names.there in
      let line_is : names.line ≡ own.front.line = some_same (sym names.there ∙ (front_at (lines_in trees) index own.front own.there).here) in
      let stands : slice_get (clusters_in profile own.front.line) item ≡ Some names.resource = ap (λ (l : Data). slice_get (clusters_in profile l) item) (sym line_is) ∙ names.stands in
      let parts : makes.parts ≡ item_of profile Cds (waiting_entry (codes "tls/") (place_at (by_secrets profile) (guarded_at (tls_rules profile) own.front) names.resource) names.resource) =
      waits_at profile own.front own.at own.line makes.response item names.resource makes.parts own.is (own.event ∙ makes.is) makes.stands stands in
      let good : (item_of profile Cds (waiting_entry (codes "tls/") (place_at (by_secrets profile) (guarded_at (tls_rules profile) own.front) names.resource) names.resource)).body ≡ Good made.row.content =
      sym (ap (λ (i : ItemParts). i.body) parts) ∙ makes.good in
      let numbered : made_of journal number ≡ Some made.row =
      made_there journal number made.place made.by.entry item made.row made.by.there makes.there made.numbered in
      by own.front own.there stands good numbered ((by_secrets profile).key_of names.resource) refl
    where
      by : (front : Front) → slice_get (fronts (lines_in trees)) index ≡ Some front → slice_get (clusters_in profile front.line) item ≡ Some names.resource
          → (item_of profile Cds (waiting_entry (codes "tls/") (place_at (by_secrets profile) (guarded_at (tls_rules profile) front) names.resource) names.resource)).body ≡ Good made.row.content
          → made_of journal number ≡ Some made.row → (key : Option Key) → (by_secrets profile).key_of names.resource ≡ key → AsksByKey number secret
      by front there stands good numbered None keyed =
          let itself : waiting_entry (codes "tls/") (place_at (by_secrets profile) (guarded_at (tls_rules profile) front) names.resource) names.resource ≡ names.resource =
          other_item (by_secrets profile) (codes "tls/") (guarded_at (tls_rules profile) front) names.resource keyed in
          let other = good_is_guarded profile names.resource made.row.content secret (sym (ap (λ (e : Data). (item_of profile Cds e).body) itself) ∙ good) names.named names.guarded in
          absurd (no_key other.0 (sym keyed ∙ other.1))
      by front there stands good numbered (Some key) keyed =
          keyed_asks number index secret front names.resource made.row key there item stands numbered good names.named keyed

pub sealed : Sealed
sealed trees format journal unused kept run k worker number index item secret accepts made names =
    let asks = resource_asks trees format journal kept run number index item secret made names in
    sealed_by_key trees format journal kept run unused k worker number asks.place secret accepts asks.asks asks.names
