-- A choice goes to a host that its cluster shows, of the lowest priority there.
use Rattle.std.proofs.Common.{◌≡◌, ℕ, ◌+◌, ◌/◌, ◌%◌, ◌<◌, ◌≤◌, ◌==◌, min, Bool, true, false, cond, List, [], ◌∷◌, length, map, take, sum, find, Option, Some, None, All, Contains, zero, suc, refl, sym, ◌∙◌, subst, inl, inr, arith, get_or}
use Rattle.std.proofs.lemmas.Bool.{cases_lt}
use Rattle.std.proofs.lemmas.Bool.Decides.{nat_tests}
use Rattle.std.proofs.lemmas.List.Elements.{All-cons, All-nil, All-weaker}
use Rattle.std.proofs.lemmas.Option.{slice_get-get_or}
use Rattle.std.specs.Str.{bytes_eq}
use Rattle.ev_types.specs.Hosts.{HostRowParts}
use Rattle.ev_types.specs.Weights.{weight_sum}
use Rattle.ev_types.specs.declared.events.Ask.{Ask}
use Rattle.ev_types.specs.declared.routes.Action.{Action}
use Rattle.ev_types.specs.declared.routes.Action.TheVariants.{Forward, Redirect as redirect, Local as local, Elsewhere as by_filter}
use Rattle.ev_types.specs.declared.routes.Route.{Route}
use Rattle.ev_types.specs.declared.routes.Target.{Target}
use Rattle.ev_types.specs.declared.routes.Target.TheVariants.{One, Weighted, Elsewhere as elsewhere}
use Rattle.ev_types.specs.declared.routes.VirtualHost.{VirtualHost}
use Rattle.ev_types.specs.declared.ways.Way.TheVariants.{Undecided, Elsewhere, NoEndpoint, NoSecret}
use Rattle.ev_model.specs.Choice.{Reached, acted, by_chain, by_chains, by_host, by_listener, by_reached, by_route, by_routing, by_secrets, by_word, chain_left, choice_of, cluster_named, counted_weights, course_in, course_of, delivered_of, forwarded, has_no_host, host_place, in_cluster, incoming_of, listener_for, lowest_priority, name_picked, reached_by, requested_of, route_for, served_at, to_host, virtual_host_for, weight_at}
use Rattle.ev_model.specs.Conditions.{match_says}
use Rattle.ev_model.specs.Narrowing.{Incoming, chains_left, lacks_source}
use Rattle.ev_model.specs.declared.pictures.Choice.TheVariants.{On}
use Rattle.ev_model.specs.declared.pictures.Picture.{Picture}
use Rattle.ev_model.specs.declared.pictures.Shown.{Shown}
use Rattle.ev_model.specs.declared.pictures.Routing.{Routing}
use Rattle.ev_model.specs.declared.pictures.Routing.TheVariants.{Table, Tcp, Other}
use Rattle.ev_model.specs.declared.pictures.Secrets.{Secrets}
use Rattle.ev_model.specs.declared.pictures.Secrets.TheVariants.{There, Missing, Unknown}
use Rattle.ev_model.specs.declared.pictures.ServedChain.{ServedChain}
use Rattle.ev_model.specs.declared.pictures.Taken.{Taken}
use Rattle.ev_model.specs.declared.pictures.Taken.TheVariants.{No, Yes, Undecided as undecided}
use Rattle.ev_model.specs.declared.pictures.ServedCluster.{ServedCluster}
use Rattle.ev_model.specs.declared.pictures.ServedListener.{ServedListener}
use Rattle.ev_snapshot.specs.Chosen.{GoesLowest, IsLowestAt, TakesLowest}
use Rattle.ev_snapshot.proofs.Places.{place_from, from_start, passed, reached, none_left, sum_more}

-- what is at the place that a search by running sums finds has some weight
found_weighs : {X : Type 0} (weight : X → ℕ) (xs : List X) (n x : ℕ) (d : X) (left i : ℕ) → length xs ≤ i + left → sum (take i (map weight xs)) ≤ n
    → place_from weight xs n i ≡ Some x → (x < length xs) × (0 < weight (get_or xs x d))
found_weighs weight xs n x d zero i all below found =
    let none : place_from weight xs n i ≡ None = none_left weight xs n i (omega arith) in absurd (cc)
found_weighs weight xs n x d (suc left) i all below found =
    elim (cases_lt i (length xs)) [
      | inl less ↦ elim (cases_lt n (sum (take (i + 1) (map weight xs)))) [
        | inl above ↦
            let here : place_from weight xs n i ≡ Some i = reached weight xs n i less above in
            let same : i ≡ x = cc in
            let P : ℕ → Type 0 = λ k. (k < length xs) × (0 < weight (get_or xs k d)) in
            subst P same (less, omega (arith, sum_more weight xs i d less))
        | inr le ↦ found_weighs weight xs n x d left (i + 1) (omega arith) le (sym (passed weight xs n i less le) ∙ found)
      ]
      | inr past ↦ let none : place_from weight xs n i ≡ None = none_left weight xs n i past in absurd (cc)
    ]

-- only a host of this priority weighs anything
weighs_only : (priority : ℕ) (h : HostRowParts) → 0 < weight_at priority h → h.priority ≡ priority
weighs_only priority h weighs = by (h.priority == priority) refl weighs
  where
    by : (b : Bool) → (h.priority == priority) ≡ b → 0 < cond b h.weight 0 → h.priority ≡ priority
    by true same weighs = grind (arith, nat_tests)
    by false other weighs = absurd (omega arith)

-- the lowest priority is above none
lowest_below : (hosts : List HostRowParts) → All (λ (h : HostRowParts). lowest_priority hosts ≤ h.priority) hosts
lowest_below [] = All-nil (λ (h : HostRowParts). 0 ≤ h.priority)
lowest_below (h ∷ []) =
    let P : HostRowParts → Type 0 = λ (x : HostRowParts). h.priority ≤ x.priority in
    All-cons P h [] (omega arith) (All-nil P)
lowest_below (h ∷ next ∷ hosts) =
    let P : HostRowParts → Type 0 = λ (x : HostRowParts). lowest_priority (next ∷ hosts) ≤ x.priority in
    let Q : HostRowParts → Type 0 = λ (x : HostRowParts). min h.priority (lowest_priority (next ∷ hosts)) ≤ x.priority in
    All-cons Q h (next ∷ hosts) (omega arith) (All-weaker P Q (λ x le. omega arith) (next ∷ hosts) (lowest_below (next ∷ hosts)))

-- a host that is picked is of the lowest priority
chosen_lowest : (hosts : List HostRowParts) (pick place : ℕ) → host_place hosts pick ≡ Some place → (host : HostRowParts) × IsLowestAt hosts place host
chosen_lowest [] pick place found = absurd (cc)
chosen_lowest (h ∷ hs) pick place found =
    let weight : HostRowParts → ℕ = weight_at (lowest_priority (h ∷ hs)) in
    let n : ℕ = pick % sum (counted_weights (h ∷ hs)) in
    let first : place_from weight (h ∷ hs) n 0 ≡ Some place = sym (from_start weight (h ∷ hs) n) ∙ found in
    let weighs : (place < length (h ∷ hs)) × (0 < weight (get_or (h ∷ hs) place h)) =
    found_weighs weight (h ∷ hs) n place h (length (h ∷ hs)) 0 (omega arith) (omega arith) first in
    let same : (get_or (h ∷ hs) place h).priority ≡ lowest_priority (h ∷ hs) =
    weighs_only (lowest_priority (h ∷ hs)) (get_or (h ∷ hs) place h) weighs.1 in
    let P : ℕ → Type 0 = λ p. All (λ (x : HostRowParts). p ≤ x.priority) (h ∷ hs) in (
      get_or (h ∷ hs) place h,
      record {
        there = slice_get-get_or (h ∷ hs) place h weighs.0;
        lowest = subst P (sym same) (lowest_below (h ∷ hs));
      },
    )

-- what a search finds is in the list
pub found_contained : {X : Type 0} (p : X → Bool) (xs : List X) (x : X) → find p xs ≡ Some x → Contains xs x
found_contained p [] x found = absurd (cc)
found_contained {X} p (y ∷ ys) x found = by (p y) found (found_contained p ys x)
  where
    by : (b : Bool) → cond b (Some y) (find p ys) ≡ Some x → (find p ys ≡ Some x → Contains ys x) → Contains (y ∷ ys) x
    by true here rest = let same : y ≡ x = cc in (0, omega arith, same)
    by false later rest = let among : Contains ys x = rest later in (suc among.0, omega (arith, among.1), among.2)

served_takes : (shown : Shown) (cluster : ServedCluster) (pick : ℕ) (place : Option ℕ) → Contains shown.clusters cluster
    → host_place cluster.hosts pick ≡ place → GoesLowest shown (served_at cluster.number place)
served_takes shown cluster pick None among is = tt
served_takes shown cluster pick (Some place) among is =
    let chosen : (host : HostRowParts) × IsLowestAt cluster.hosts place host = chosen_lowest cluster.hosts pick place is in
    (cluster, chosen.0, among, refl, chosen.1)

to_host_takes : (shown : Shown) (cluster : ServedCluster) (pick : ℕ) → Contains shown.clusters cluster → GoesLowest shown (to_host cluster pick)
to_host_takes shown cluster pick among = by cluster.elsewhere
  where
    by : (b : Bool) → GoesLowest shown (cond b (Elsewhere (Some cluster.number)) (served_at cluster.number (host_place cluster.hosts pick)))
    by true = tt
    by false = served_takes shown cluster pick (host_place cluster.hosts pick) among refl

by_secrets_takes : (shown : Shown) (secrets : Secrets) (cluster : ServedCluster) (pick : ℕ) → Contains shown.clusters cluster
    → GoesLowest shown (by_secrets secrets cluster pick)
by_secrets_takes shown There cluster pick among = to_host_takes shown cluster pick among
by_secrets_takes shown Missing cluster pick among = tt
by_secrets_takes shown Unknown cluster pick among = tt

in_cluster_takes : (shown : Shown) (cluster : ServedCluster) (pick : ℕ) → Contains shown.clusters cluster → GoesLowest shown (in_cluster cluster pick)
in_cluster_takes shown cluster pick among = by (has_no_host cluster)
  where
    by : (b : Bool) → GoesLowest shown (cond b NoEndpoint (by_secrets cluster.secrets cluster pick))
    by true = tt
    by false = by_secrets_takes shown cluster.secrets cluster pick among

course_in_takes : (shown : Shown) (found : Option ServedCluster) (pick : ℕ)
    → ((c : ServedCluster) → found ≡ Some c → Contains shown.clusters c) → GoesLowest shown (course_in found pick)
course_in_takes shown None pick among = tt
course_in_takes shown (Some cluster) pick among = in_cluster_takes shown cluster pick (among cluster refl)

named_takes : (picture : Picture) (pick : ℕ) (name : List ℕ) → GoesLowest picture.shown (course_in (cluster_named picture.shown.clusters name) pick)
named_takes picture pick name =
    course_in_takes picture.shown (cluster_named picture.shown.clusters name) pick
    (found_contained (λ (c : ServedCluster). bytes_eq c.name name) picture.shown.clusters)

forwarded_takes : (picture : Picture) (pick : ℕ) (target : Target) → GoesLowest picture.shown (forwarded picture pick target)
forwarded_takes picture pick (One name) = named_takes picture pick name
forwarded_takes picture pick (Weighted clusters) = named_takes picture (pick / weight_sum clusters) (name_picked clusters pick)
forwarded_takes picture pick elsewhere = tt

acted_takes : (picture : Picture) (pick : ℕ) (action : Action) → GoesLowest picture.shown (acted picture pick action)
acted_takes picture pick (Forward target) = forwarded_takes picture pick target
acted_takes picture pick redirect = tt
acted_takes picture pick (local status) = tt
acted_takes picture pick by_filter = tt

by_word_takes : (picture : Picture) (pick : ℕ) (action : Action) (said : Taken) → GoesLowest picture.shown (by_word picture pick action said)
by_word_takes picture pick action No = tt
by_word_takes picture pick action Yes = acted_takes picture pick action
by_word_takes picture pick action undecided = tt

by_route_takes : (picture : Picture) (ask : Ask) (route : Option Route) → GoesLowest picture.shown (by_route picture ask route)
by_route_takes picture ask None = tt
by_route_takes picture ask (Some route) = by_word_takes picture ask.pick route.action (match_says (requested_of ask) route.route_match)

by_host_takes : (picture : Picture) (ask : Ask) (host : Option VirtualHost) → GoesLowest picture.shown (by_host picture ask host)
by_host_takes picture ask None = tt
by_host_takes picture ask (Some host) = by_route_takes picture ask (route_for host (requested_of ask))

by_routing_takes : (picture : Picture) (ask : Ask) (routing : Routing) → GoesLowest picture.shown (by_routing picture ask routing)
by_routing_takes picture ask (Table table) = by_host_takes picture ask (virtual_host_for table ask.host)
by_routing_takes picture ask (Tcp target) = forwarded_takes picture ask.pick target
by_routing_takes picture ask Other = tt

course_takes : (picture : Picture) (ask : Ask) (chain : ServedChain) → GoesLowest picture.shown (course_of picture ask chain)
course_takes picture ask chain = by chain.lacks_secret
  where
    by : (b : Bool) → GoesLowest picture.shown (cond b (NoSecret None) (by_routing picture ask chain.routing))
    by true = tt
    by false = by_routing_takes picture ask chain.routing

by_chain_takes : (picture : Picture) (ask : Ask) (listener : ℕ) (chain : Option ServedChain) → TakesLowest picture.shown (by_chain picture ask listener chain)
by_chain_takes picture ask listener None = tt
by_chain_takes picture ask listener (Some chain) = course_takes picture ask chain

by_chains_takes : (picture : Picture) (ask : Ask) (listener : ServedListener) (incoming : Incoming) (chains : List ServedChain)
    → TakesLowest picture.shown (by_chains picture ask listener incoming chains)
by_chains_takes picture ask listener incoming chains = by (lacks_source incoming chains)
  where
    chain : Option ServedChain
    chain = chain_left chains listener.default_filter_chain

    by : (b : Bool) → TakesLowest picture.shown (cond b (On listener.number None None Undecided) (by_chain picture ask listener.number chain))
    by true = tt
    by false = by_chain_takes picture ask listener.number chain

by_reached_takes : (picture : Picture) (ask : Ask) (reached : Reached) → TakesLowest picture.shown (by_reached picture ask reached)
by_reached_takes picture ask reached =
    let incoming = incoming_of ask reached.local_end in
    by_chains_takes picture ask reached.listener incoming (chains_left incoming reached.listener.filter_chains)

by_listener_takes : (picture : Picture) (ask : Ask) (found : Option ServedListener) → TakesLowest picture.shown (by_listener picture ask found)
by_listener_takes picture ask None = tt
by_listener_takes picture ask (Some listener) = by_reached_takes picture ask (reached_by picture.shown.listeners ask listener)

pub choice_takes_lowest : (picture : Picture) (ask : Ask) → TakesLowest picture.shown (choice_of picture ask)
choice_takes_lowest picture ask = by_listener_takes picture ask (listener_for picture.shown.listeners (delivered_of ask))
