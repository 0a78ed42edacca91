-- A choice names only generations that the picture shows.
use Rattle.std.proofs.Common.{◌≡◌, ℕ, ◌&&◌, ◌||◌, ◌==◌, ◌/◌, Bool, true, false, cond, List, [], ◌∷◌, codes, Option, Some, None, filter, find, map, not, option_to_list, unwrap_or, refl, sym, ap, ◌∙◌, arith}
use Rattle.std.specs.List.{list_all, list_any}
use Rattle.std.specs.Option.{option_or}
use Rattle.std.proofs.lemmas.Grind.{common_steps}
use Rattle.std.proofs.lemmas.List.Folds.{list_any-append}
use Rattle.std.specs.Str.{bytes_eq}
use Rattle.ev_types.specs.SameHosts.{host_same}
use Rattle.ev_types.specs.Weights.{weight_sum}
use Rattle.ev_types.specs.declared.events.Ask.{Ask}
use Rattle.ev_types.specs.declared.events.Peer.{Peer}
use Rattle.ev_types.specs.declared.ips.Ip.{Ip}
use Rattle.ev_types.specs.declared.ips.Ip.TheVariants.{V4, V6}
use Rattle.ev_types.specs.declared.routes.Action.{Action}
use Rattle.ev_types.specs.declared.routes.Action.TheVariants.{Forward, Redirect as redirect, Local as local, Elsewhere as by_filter}
use Rattle.ev_types.specs.declared.routes.Route.{Route}
use Rattle.ev_types.specs.declared.routes.Target.{Target}
use Rattle.ev_types.specs.declared.routes.Target.TheVariants.{One, Weighted, Elsewhere as elsewhere}
use Rattle.ev_types.specs.declared.routes.VirtualHost.{VirtualHost}
use Rattle.ev_types.specs.declared.ways.Way.TheVariants.{Undecided, Elsewhere, NoEndpoint, NoSecret}
use Rattle.ev_model.specs.Choice.{Course, Reached, acted, by_chain, by_chains, by_host, by_listener, by_reached, by_route, by_routing, by_secrets, by_word, chain_left, choice_of, cluster_named, course_in, course_of, delivered_of, forwarded, has_no_host, host_place, in_cluster, incoming_of, listener_at, listener_for, listener_for_every, listener_of_any, meant_of, name_picked, reached_by, requested_of, route_for, served_at, streams, to_host, virtual_host_for}
use Rattle.ev_model.specs.Conditions.{match_says}
use Rattle.ev_model.specs.Connections.{cluster_on}
use Rattle.ev_model.specs.Narrowing.{Incoming, chains_left, lacks_source}
use Rattle.ev_model.specs.Picture.{is_shown}
use Rattle.ev_model.specs.declared.pictures.Choice.TheVariants.{On}
use Rattle.ev_model.specs.declared.pictures.Picture.{Picture}
use Rattle.ev_model.specs.declared.pictures.Routing.{Routing}
use Rattle.ev_model.specs.declared.pictures.Routing.TheVariants.{Table, Tcp, Other}
use Rattle.ev_model.specs.declared.pictures.Secrets.{Secrets}
use Rattle.ev_model.specs.declared.pictures.Secrets.TheVariants.{There, Missing, Unknown}
use Rattle.ev_model.specs.declared.pictures.ServedChain.{ServedChain}
use Rattle.ev_model.specs.declared.pictures.ServedCluster.{ServedCluster}
use Rattle.ev_model.specs.declared.pictures.ServedListener.{ServedListener}
use Rattle.ev_model.specs.declared.pictures.Shown.{Shown}
use Rattle.ev_model.specs.declared.pictures.Taken.{Taken}
use Rattle.ev_model.specs.declared.pictures.Taken.TheVariants.{No, Yes, Undecided as undecided}
use Rattle.ev_snapshot.specs.Chosen.{names_shown}

both : (a b : Bool) → a ≡ true → b ≡ true → a && b ≡ true
both true b ta tb = tb
both false b ta tb = ta

or_left : (a b : Bool) → a ≡ true → a || b ≡ true
or_left true b t = refl
or_left false true t = refl
or_left false false t = t

or_right : (a b : Bool) → b ≡ true → a || b ≡ true
or_right true b t = refl
or_right false b t = t

-- the number of what a search finds is among the numbers
found_by : {X : Type 0} (number : X → ℕ) (b : Bool) (y x : X) (rest : Option X) (among : Bool)
    → cond b (Some y) rest ≡ Some x → (rest ≡ Some x → among ≡ true) → (number y == number x) || among ≡ true
found_by number true y x rest among found later = grind (arith, common_steps)
found_by number false y x rest among found later = or_right (number y == number x) among (later found)

found_among : {X : Type 0} (number : X → ℕ) (p : X → Bool) (xs : List X) (x : X) → find p xs ≡ Some x → list_any (λ n. n == number x) (map number xs) ≡ true
found_among number p [] x found = grind (arith, common_steps)
found_among number p (y ∷ ys) x found = found_by number (p y) y x (find p ys) (list_any (λ n. n == number x) (map number ys)) found (found_among number p ys x)

cluster_shown : (picture : Picture) (name : List ℕ) (c : ServedCluster) → cluster_named picture.shown.clusters name ≡ Some c → is_shown c.number picture.shown ≡ true
cluster_shown picture name c found =
    let numbers = map (λ (x : ServedCluster). x.number) picture.shown.clusters in
    let others = map (λ (x : ServedListener). x.number) picture.shown.listeners in
    list_any-append (λ n. n == c.number) numbers others
    ∙ or_left (list_any (λ n. n == c.number) numbers) (list_any (λ n. n == c.number) others)
    (found_among (λ (x : ServedCluster). x.number) (λ (x : ServedCluster). bytes_eq x.name name) picture.shown.clusters c found)

-- a listener of a picture is shown
abbrev IsAmong : Picture → Option ServedListener → Type 0
IsAmong picture found = (l : ServedListener) → found ≡ Some l → is_shown l.number picture.shown ≡ true

at_shown : (picture : Picture) (p : ServedListener → Bool) → IsAmong picture (find p picture.shown.listeners)
at_shown picture p l found =
    let others = map (λ (x : ServedCluster). x.number) picture.shown.clusters in
    let numbers = map (λ (x : ServedListener). x.number) picture.shown.listeners in
    list_any-append (λ n. n == l.number) others numbers
    ∙ or_right (list_any (λ n. n == l.number) others) (list_any (λ n. n == l.number) numbers)
    (found_among (λ (x : ServedListener). x.number) p picture.shown.listeners l found)

-- a search of what a filter leaves is one search
find_both : {X : Type 0} (p q : X → Bool) (xs : List X) → find p (filter q xs) ≡ find (λ x. q x && p x) xs
find_both p q [] = refl
find_both p q (x ∷ xs) = by (q x) (find_both p q xs)
  where
    by : (b : Bool) → find p (filter q xs) ≡ find (λ y. q y && p y) xs
        → find p (cond b (x ∷ filter q xs) (filter q xs)) ≡ cond (b && p x) (Some x) (find (λ y. q y && p y) xs)
    by true rest = ap (λ o. cond (p x) (Some x) o) rest
    by false rest = rest

-- a listener by TCP that passes a test
stream_shown : (picture : Picture) (p : ServedListener → Bool) → IsAmong picture (find p (streams picture.shown.listeners))
stream_shown picture p l found =
    at_shown picture (λ (x : ServedListener). not x.udp && p x) l
    (sym (find_both p (λ (x : ServedListener). not x.udp) picture.shown.listeners) ∙ found)

every_shown : (picture : Picture) (port : ℕ) (address : List ℕ) → IsAmong picture (listener_for_every (streams picture.shown.listeners) port address)
every_shown picture port address l found =
    let at : ServedListener → Bool = λ x. host_same x.address (record { address = address; port = port }) in
    stream_shown picture (λ (x : ServedListener). x.takes_every_address && at x) l
    (sym (find_both at (λ (x : ServedListener). x.takes_every_address) (streams picture.shown.listeners)) ∙ found)

either_shown : (picture : Picture) (one other : Option ServedListener) → IsAmong picture one → IsAmong picture other → IsAmong picture (option_or one other)
either_shown picture None other first second = second
either_shown picture (Some l) other first second = first

any_shown : (picture : Picture) (port : ℕ) (ip : Option Ip) → IsAmong picture (listener_of_any (streams picture.shown.listeners) port ip)
any_shown picture port None = λ l found. absurd (cc)
any_shown picture port (Some (V4 bits)) =
    either_shown picture (listener_for_every (streams picture.shown.listeners) port (codes "0.0.0.0")) (listener_for_every (streams picture.shown.listeners) port (codes "::"))
    (every_shown picture port (codes "0.0.0.0")) (every_shown picture port (codes "::"))
any_shown picture port (Some (V6 bits)) = every_shown picture port (codes "::")

listener_shown : (picture : Picture) (end : Peer) → IsAmong picture (listener_for picture.shown.listeners end)
listener_shown picture end =
    either_shown picture (listener_at (streams picture.shown.listeners) end.host) (listener_of_any (streams picture.shown.listeners) end.host.port end.ip)
    (stream_shown picture (λ (x : ServedListener). host_same x.address end.host)) (any_shown picture end.host.port end.ip)

-- whoever takes a connection is shown where the listener is that it came to
reached_shown : (picture : Picture) (ask : Ask) (listener : ServedListener) → is_shown listener.number picture.shown ≡ true
    → is_shown (reached_by picture.shown.listeners ask listener).listener.number picture.shown ≡ true
reached_shown picture ask listener l = by listener.restores listener.hands_over
  where
    taker : (found : Option ServedListener) → IsAmong picture found → is_shown (unwrap_or found listener).number picture.shown ≡ true
    taker None among = l
    taker (Some other) among = among other refl

    other_taker : Bool → ServedListener
    other_taker hands_over = cond hands_over (unwrap_or (listener_for picture.shown.listeners (meant_of ask)) listener) listener

    by : (restores hands_over : Bool) → is_shown (cond {A = Reached} restores (record { listener = other_taker hands_over; local_end = meant_of ask })
        (record { listener = listener; local_end = delivered_of ask })).listener.number picture.shown ≡ true
    by true true = taker (listener_for picture.shown.listeners (meant_of ask)) (listener_shown picture (meant_of ask))
    by true false = l
    by false hands_over = l

-- the cluster that a course names, if it names one, is shown
abbrev IsCourseShown : Shown → Course → Type 0
IsCourseShown shown course = list_all (λ number. is_shown number shown) (option_to_list (cluster_on course)) ≡ true

one_shown : (shown : Shown) (number : ℕ) → is_shown number shown ≡ true → list_all (λ n. is_shown n shown) (number ∷ []) ≡ true
one_shown shown number so = both (is_shown number shown) true so refl

served_shown : (shown : Shown) (cluster : ℕ) (place : Option ℕ) → is_shown cluster shown ≡ true → IsCourseShown shown (served_at cluster place)
served_shown shown cluster None c = refl
served_shown shown cluster (Some place) c = one_shown shown cluster c

to_host_shown : (shown : Shown) (cluster : ServedCluster) (pick : ℕ) → is_shown cluster.number shown ≡ true → IsCourseShown shown (to_host cluster pick)
to_host_shown shown cluster pick c = by cluster.elsewhere
  where
    by : (b : Bool) → IsCourseShown shown (cond b (Elsewhere (Some cluster.number)) (served_at cluster.number (host_place cluster.hosts pick)))
    by true = one_shown shown cluster.number c
    by false = served_shown shown cluster.number (host_place cluster.hosts pick) c

by_secrets_shown : (shown : Shown) (secrets : Secrets) (cluster : ServedCluster) (pick : ℕ) → is_shown cluster.number shown ≡ true
    → IsCourseShown shown (by_secrets secrets cluster pick)
by_secrets_shown shown There cluster pick c = to_host_shown shown cluster pick c
by_secrets_shown shown Missing cluster pick c = one_shown shown cluster.number c
by_secrets_shown shown Unknown cluster pick c = one_shown shown cluster.number c

in_cluster_shown : (shown : Shown) (cluster : ServedCluster) (pick : ℕ) → is_shown cluster.number shown ≡ true → IsCourseShown shown (in_cluster cluster pick)
in_cluster_shown shown cluster pick c = by (has_no_host cluster)
  where
    by : (b : Bool) → IsCourseShown shown (cond b NoEndpoint (by_secrets cluster.secrets cluster pick))
    by true = refl
    by false = by_secrets_shown shown cluster.secrets cluster pick c

course_in_shown : (shown : Shown) (found : Option ServedCluster) (pick : ℕ)
    → ((c : ServedCluster) → found ≡ Some c → is_shown c.number shown ≡ true) → IsCourseShown shown (course_in found pick)
course_in_shown shown None pick c = refl
course_in_shown shown (Some cluster) pick c = in_cluster_shown shown cluster pick (c cluster refl)

forwarded_shown : (picture : Picture) (pick : ℕ) (target : Target) → IsCourseShown picture.shown (forwarded picture pick target)
forwarded_shown picture pick (One name) =
    course_in_shown picture.shown (cluster_named picture.shown.clusters name) pick (cluster_shown picture name)
forwarded_shown picture pick (Weighted clusters) =
    course_in_shown picture.shown (cluster_named picture.shown.clusters (name_picked clusters pick)) (pick / weight_sum clusters)
    (cluster_shown picture (name_picked clusters pick))
forwarded_shown picture pick elsewhere = refl

acted_shown : (picture : Picture) (pick : ℕ) (action : Action) → IsCourseShown picture.shown (acted picture pick action)
acted_shown picture pick (Forward target) = forwarded_shown picture pick target
acted_shown picture pick redirect = refl
acted_shown picture pick (local status) = refl
acted_shown picture pick by_filter = refl

by_word_shown : (picture : Picture) (pick : ℕ) (action : Action) (said : Taken) → IsCourseShown picture.shown (by_word picture pick action said)
by_word_shown picture pick action No = refl
by_word_shown picture pick action Yes = acted_shown picture pick action
by_word_shown picture pick action undecided = refl

by_route_shown : (picture : Picture) (ask : Ask) (route : Option Route) → IsCourseShown picture.shown (by_route picture ask route)
by_route_shown picture ask None = refl
by_route_shown picture ask (Some route) = by_word_shown picture ask.pick route.action (match_says (requested_of ask) route.route_match)

by_host_shown : (picture : Picture) (ask : Ask) (host : Option VirtualHost) → IsCourseShown picture.shown (by_host picture ask host)
by_host_shown picture ask None = refl
by_host_shown picture ask (Some host) = by_route_shown picture ask (route_for host (requested_of ask))

by_routing_shown : (picture : Picture) (ask : Ask) (routing : Routing) → IsCourseShown picture.shown (by_routing picture ask routing)
by_routing_shown picture ask (Table table) = by_host_shown picture ask (virtual_host_for table ask.host)
by_routing_shown picture ask (Tcp target) = forwarded_shown picture ask.pick target
by_routing_shown picture ask Other = refl

course_shown : (picture : Picture) (ask : Ask) (chain : ServedChain) → IsCourseShown picture.shown (course_of picture ask chain)
course_shown picture ask chain = by chain.lacks_secret
  where
    by : (b : Bool) → IsCourseShown picture.shown (cond b (NoSecret None) (by_routing picture ask chain.routing))
    by true = refl
    by false = by_routing_shown picture ask chain.routing

by_chain_shown : (picture : Picture) (ask : Ask) (listener : ℕ) (chain : Option ServedChain) → is_shown listener picture.shown ≡ true
    → names_shown picture.shown (by_chain picture ask listener chain) ≡ true
by_chain_shown picture ask listener None l = refl
by_chain_shown picture ask listener (Some chain) l =
    both (is_shown listener picture.shown) (list_all (λ number. is_shown number picture.shown) (option_to_list (cluster_on (course_of picture ask chain)))) l
    (course_shown picture ask chain)

by_chains_shown : (picture : Picture) (ask : Ask) (listener : ServedListener) (incoming : Incoming) (chains : List ServedChain)
    → is_shown listener.number picture.shown ≡ true → names_shown picture.shown (by_chains picture ask listener incoming chains) ≡ true
by_chains_shown picture ask listener incoming chains l = by (lacks_source incoming chains)
  where
    chain : Option ServedChain
    chain = chain_left chains listener.default_filter_chain

    by : (b : Bool) → names_shown picture.shown (cond b (On listener.number None None Undecided) (by_chain picture ask listener.number chain)) ≡ true
    by true = one_shown picture.shown listener.number l
    by false = by_chain_shown picture ask listener.number chain l

by_reached_shown : (picture : Picture) (ask : Ask) (reached : Reached) → is_shown reached.listener.number picture.shown ≡ true
    → names_shown picture.shown (by_reached picture ask reached) ≡ true
by_reached_shown picture ask reached l =
    let incoming = incoming_of ask reached.local_end in
    by_chains_shown picture ask reached.listener incoming (chains_left incoming reached.listener.filter_chains) l

by_listener_shown : (picture : Picture) (ask : Ask) (found : Option ServedListener)
    → ((l : ServedListener) → found ≡ Some l → is_shown l.number picture.shown ≡ true) → names_shown picture.shown (by_listener picture ask found) ≡ true
by_listener_shown picture ask None l = refl
by_listener_shown picture ask (Some listener) l =
    by_reached_shown picture ask (reached_by picture.shown.listeners ask listener) (reached_shown picture ask listener (l listener refl))

pub choice_shown : (picture : Picture) (ask : Ask) → names_shown picture.shown (choice_of picture ask) ≡ true
choice_shown picture ask =
    by_listener_shown picture ask (listener_for picture.shown.listeners (delivered_of ask)) (listener_shown picture (delivered_of ask))
