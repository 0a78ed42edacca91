-- What is shown of a state that represents a world is what the machine shows of the world.
use Rattle.std.proofs.Common.{◌≡◌, ◌∙◌, ℕ, ◌≤◌, Bool, true, false, cond, not, ◌&&◌, ◌||◌, List, [], ◌∷◌, ◌++◌, Option, None, Some, IsSome, is_some, option_map, option_to_list, map, filter, length, refl, sym, ap, subst, true≢false, arith}
use Rattle.std.specs.List.{IsDistinct, AllByRecursion, list_any}
use Rattle.std.specs.Str.{bytes_eq}
use Rattle.std.proofs.lemmas.Bool.{cond_both}
use Rattle.std.specs.Cmp.{both_ways}
use Rattle.ev_types.specs.Hosts.{HostRowParts}
use Rattle.ev_types.specs.Kinds.{kind_same}
use Rattle.ev_types.specs.Same.{bytes_decide}
use Rattle.ev_types.specs.Statuses.{is_active}
use Rattle.ev_types.specs.declared.contents.Kind.{Kind}
use Rattle.ev_types.specs.declared.contents.Kind.TheVariants.{Rds, Sds}
use Rattle.ev_types.specs.declared.contents.Content.{Content}
use Rattle.ev_types.specs.declared.contents.Content.TheVariants.{Cluster as a_cluster, Assignment as an_assignment, Listener as a_listener, Routes as routes, Secret as a_secret, Extension as an_extension}
use Rattle.ev_types.specs.declared.listeners.FilterChain.{FilterChain}
use Rattle.ev_types.specs.declared.listeners.Serve.{Serve}
use Rattle.ev_types.specs.declared.listeners.Serve.TheVariants.{Rds as by_rds, Inline, Tcp as by_tcp, Other as by_other}
use Rattle.ev_types.specs.declared.rows.GenRow.{GenRow}
use Rattle.ev_model.specs.declared.pictures.Routing.TheVariants.{Table}
use Rattle.ev_model.specs.World.{World}
use Rattle.ev_model.specs.Picture.{is_elsewhere, served_chain, served_cluster, served_listener, routing_of, table_in, lacks_one, secrets_by, secrets_with, where_given}
use Rattle.ev_model.specs.Origins.{PlacedChain, placed_from, placed_default, origin_at}
use Rattle.ev_model.specs.declared.pictures.Secrets.TheVariants.{There, Missing, Unknown}
use Rattle.ev_types.specs.declared.references.Reference.{Reference}
use Rattle.ev_model.specs.Warming.{is_checked}
use Rattle.ev_indexes.specs.Tables.{row_in, numbers_of}
use Rattle.ev_lookups.specs.Keys.{named}
use Rattle.ev_lookups.specs.declared.kind_keys.Key.{Key}
use Rattle.ev_indexes.specs.declared.state.State.{State}
use Rattle.ev_indexes.specs.Standings.{standing_in}
use Rattle.ev_indexes.specs.Indexes.{IsIndexed, serves, numbers_where}
use Rattle.ev_indexes.specs.Reads.{chain_in, cluster_in, cluster_secrets_in, lacks_in, listener_in, routing_in, secrets_in}
use Rattle.ev_indexes.specs.Worlds.{HasRows}
use Rattle.ev_indexes.proofs.WorldLemmas.{hosts}

pub all_left : (P : GenRow → Type 0) (q : GenRow → Bool) (rows : List GenRow) → AllByRecursion P rows → AllByRecursion P (filter q rows)
all_left P q [] all = tt
all_left P q (row ∷ rows) all = cond_both (q row) (row ∷ filter q rows) (filter q rows) (AllByRecursion P) (λ e. (all.0, all_left P q rows all.1)) (λ e. all_left P q rows all.1)

-- no row passes
none-pass : (test : GenRow → Bool) (rows : List GenRow) → length (numbers_where test rows) ≤ 0 → AllByRecursion (λ (r : GenRow). test r ≡ false) rows
none-pass test [] none = tt
none-pass test (row ∷ rows) none = by (test row) refl none (none-pass test rows)
  where
    by : (t : Bool) → test row ≡ t → length (numbers_of (cond t (row ∷ filter test rows) (filter test rows))) ≤ 0
        → (length (numbers_where test rows) ≤ 0 → AllByRecursion (λ (r : GenRow). test r ≡ false) rows) → (test row ≡ false) × AllByRecursion (λ (r : GenRow). test r ≡ false) rows
    by true e h rest = absurd (omega arith)
    by false e h rest = (e, rest h)

fewer-served : (q : Key) (row : GenRow) (rows : List GenRow) (t : Bool) → length (numbers_of (cond t (row ∷ filter (serves q) rows) (filter (serves q) rows))) ≤ 1 → length (numbers_where (serves q) rows) ≤ 1
fewer-served q row rows true h = omega arith
fewer-served q row rows false h = h

-- the row is an active one of the kind
abbrev pub serves_kind : Kind → GenRow → Bool
serves_kind kind row = kind_same row.kind kind && is_active row.status

-- where at most one row serves a name of the kind, the names of those that serve differ
names-apart : (kind : Kind) (rows : List GenRow) → ((q : List ℕ) → length (numbers_where (serves (named kind q)) rows) ≤ 1) → IsDistinct bytes_eq (map (λ (r : GenRow). r.name) (filter (serves_kind kind) rows))
unfolding IsDistinct
names-apart kind [] single = tt
names-apart kind (row ∷ rows) single =
    by (names-apart kind rows (λ q. fewer-served (named kind q) row rows (serves (named kind q) row) (single q))) (serves_kind kind row) refl
  where
    own : serves_kind kind row ≡ true → length (numbers_where (serves (named kind row.name)) rows) ≤ 0
    own e = over (serves (named kind row.name) row) (here (kind_same row.kind kind) (is_active row.status) e) (single row.name)
      where
        here : (k a : Bool) → (k && a) ≡ true → (a && (k && bytes_eq row.name row.name)) ≡ true
        here true true h = (bytes_decide row.name row.name).1 refl
        here true false h = absurd (true≢false (sym h))
        here false a h = absurd (true≢false (sym h))

        over : (t : Bool) → t ≡ true → length (numbers_of (cond t (row ∷ filter (serves (named kind row.name)) rows) (filter (serves (named kind row.name)) rows))) ≤ 1
            → length (numbers_where (serves (named kind row.name)) rows) ≤ 0
        over true h k = omega arith
        over false h k = absurd (true≢false (sym h))

    turned : (a b : List ℕ) → bytes_eq a b ≡ bytes_eq b a
    turned a b = both_ways (bytes_eq a b) (bytes_eq b a) (λ h. (bytes_decide b a).1 (sym ((bytes_decide a b).0 h))) (λ h. (bytes_decide a b).1 (sym ((bytes_decide b a).0 h)))

    far : (rs : List GenRow) → AllByRecursion (λ (r : GenRow). serves (named kind row.name) r ≡ false) rs
        → AllByRecursion (λ k. bytes_eq row.name k ≡ false) (map (λ (r : GenRow). r.name) (filter (serves_kind kind) rs))
    far [] all = tt
    far (r ∷ rs) all = over (kind_same r.kind kind) (is_active r.status) all.0 (far rs all.1)
      where
        over : (k a : Bool) → (a && (k && bytes_eq r.name row.name)) ≡ false
            → AllByRecursion (λ n. bytes_eq row.name n ≡ false) (map (λ (r : GenRow). r.name) (filter (serves_kind kind) rs))
            → AllByRecursion (λ n. bytes_eq row.name n ≡ false) (map (λ (r : GenRow). r.name) (cond (k && a) (r ∷ filter (serves_kind kind) rs) (filter (serves_kind kind) rs)))
        over true true e rest = (turned row.name r.name ∙ e, rest)
        over true false e rest = rest
        over false a e rest = rest

    by : IsDistinct bytes_eq (map (λ (r : GenRow). r.name) (filter (serves_kind kind) rows)) → (t : Bool) → serves_kind kind row ≡ t
        → IsDistinct bytes_eq (map (λ (r : GenRow). r.name) (cond t (row ∷ filter (serves_kind kind) rows) (filter (serves_kind kind) rows)))
    by rest true e = (far rows (none-pass (serves (named kind row.name)) rows (own e)), rest)
    by rest false e = rest

pub names-differ : (s : State) → IsIndexed s → (kind : Kind) → IsDistinct bytes_eq (map (λ (r : GenRow). r.name) (filter (serves_kind kind) s.table.rows))
names-differ s x kind = names-apart kind s.table.rows (λ q. subst (λ ns. length ns ≤ 1) (x.active (named kind q)) (few (standing_in s.names (named kind q)).active))
  where
    few : (o : Option ℕ) → length (option_to_list o) ≤ 1
    few None = omega arith
    few (Some n) = omega arith

module _ (s : State) (world : World) (stands : HasRows s world) where
  lacks-world : (references : List Reference) → lacks_in s.watches references ≡ lacks_one world.arrivals references
  lacks-world references = λ i. list_any (λ (r : Reference). not (is_some (stands.value (named Sds r.name) i))) references

  secret_world : (content : Content) → secrets_in s.watches content ≡ secrets_by world.arrivals content
  secret_world (a_cluster cluster) = of cluster.secrets_by_match
    where
      of : (by_match : Option (List Reference)) → cluster_secrets_in s.watches cluster.secrets by_match ≡ secrets_with world.arrivals cluster.secrets by_match
      of None = λ i. cond (lacks-world cluster.secrets i) Missing There
      of (Some by_match) = λ i. cond (lacks-world (cluster.secrets ++ by_match) i) Unknown There
  secret_world (an_assignment rows) = refl
  secret_world (a_listener listener) = refl
  secret_world (routes table) = refl
  secret_world a_secret = refl
  secret_world an_extension = refl

  pub cluster-world : (r : GenRow) → IsSome (row_in r.number s.table.rows) → cluster_in s.watches s.results r ≡ served_cluster world.arrivals world.results r
  cluster-world r there = λ i. record {
    number = r.number;
    name = r.name;
    hosts = filter (λ (h : HostRowParts). h.usable && (not (is_checked r.content) || stands.healthy r.number h.host there i)) (hosts s world stands r.content i);
    elsewhere = is_elsewhere r.content;
    secrets = secret_world r.content i;
  }

  pub listener-world : (r : GenRow) → listener_in s.watches r r.content ≡ served_listener world.arrivals r r.content
  listener-world r = by r.content
    where
      routed : (v : Serve) → routing_in s.watches v ≡ routing_of world.arrivals v
      routed (by_rds name limited) = λ i. Table (table_in (stands.value (named Rds name) i))
      routed (Inline table) = refl
      routed (by_tcp target) = refl
      routed by_other = refl

      one : (p : PlacedChain) → chain_in s.watches r p ≡ served_chain world.arrivals r p
      one p = λ i. record {
        place = where_given p.chain p.place;
        origin = where_given p.chain (origin_at r.number r.kept p.place);
        criteria = p.chain.criteria;
        routing = routed p.chain.serve i;
        lacks_secret = lacks-world p.chain.secrets i;
      }

      chained : (chains : List PlacedChain) → map (chain_in s.watches r) chains ≡ map (served_chain world.arrivals r) chains
      chained [] = refl
      chained (c ∷ chains) = λ i. one c i ∷ chained chains i

      other : (o : Option FilterChain) → option_map (λ (c : FilterChain). chain_in s.watches r (placed_default c)) o
          ≡ option_map (λ (c : FilterChain). served_chain world.arrivals r (placed_default c)) o
      other None = refl
      other (Some c) = ap Some (one (placed_default c))

      by : (content : Content) → listener_in s.watches r content ≡ served_listener world.arrivals r content
      by (a_cluster cluster) = refl
      by (an_assignment rows) = refl
      by (a_listener listener) = λ i. record {
        number = r.number;
        name = r.name;
        address = listener.address.host;
        takes_every_address = listener.takes_every_address;
        udp = listener.address.udp;
        restores = listener.restores;
        hands_over = listener.hands_over;
        filter_chains = chained (placed_from 0 listener.filter_chains) i;
        default_filter_chain = other listener.default_filter_chain i;
      } ∷ []
      by (routes table) = refl
      by a_secret = refl
      by an_extension = refl
