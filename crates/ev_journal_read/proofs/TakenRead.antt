-- A connection that a listener takes, and a settle, read back as what was written.
use Rattle.std.proofs.Common.{◌≡◌, ℕ, ◌^◌, ◌<◌, List, [], ◌∷◌, Option, None, Some, option_map, option_and_then, codes, refl, ap, ◌∙◌}
use Rattle.std.specs.Prelude.{IfSome}
use Rattle.serde_json.specs.Data.{Data}
use Rattle.serde_json.specs.Find.{as_str}
use Rattle.ev_types.specs.declared.events.Answer.TheVariants.{On, Settled}
use Rattle.ev_types.specs.declared.hosts.Host.{Host}
use Rattle.ev_types.specs.declared.origins.ChainPlace.{ChainPlace}
use Rattle.ev_types.specs.declared.origins.ChainPlace.TheVariants.{At, Default}
use Rattle.ev_types.specs.declared.ways.Way.{Way}
use Rattle.ev_types.specs.declared.ways.Way.TheVariants.{Undecided, Elsewhere, NoRoute, Redirect, NoCluster, NoEndpoint, NoSecret, Local, Served}
use Rattle.ev_journal.specs.Rendering.{number_tree, numbers_tree, place_tree, going_tree, local_tree, served_tree, taken_tree, settled_tree}
use Rattle.ev_journal.specs.Rows.{IsGeneration, IsPlace, IsHost, IsWay, AreConnections}
use Rattle.ev_journal_read.specs.Trees.{number64, generation_of, list_of, host_with, way_of, place_by, cluster_at, chain_at, taken_answer, settled_with, answer_of}
use Rattle.ev_journal_read.proofs.PartLemmas.{number16-tree, number32-tree, number64-tree, generation_of-tree, name_of-string, list_of-same}

-- ---- a connection

place_read : (place : ChainPlace) → IsPlace place → place_by (as_str (place_tree place)) (place_tree place) ≡ Some place
place_read (At place) h = ap (option_map (λ place. At place)) (number32-tree place h)
place_read Default h = refl

given_read : (place : ChainPlace) → IsPlace place → option_map (λ (place : ChainPlace). Some place) (place_by (as_str (place_tree place)) (place_tree place)) ≡ Some (Some place)
given_read place h = ap (option_map (λ (place : ChainPlace). Some place)) (place_read place h)

on_from : (listener : ℕ) (chain : Option ChainPlace) (way : Way Host) (found : Option (Option ChainPlace)) (becomes : Option (Way Host)) → found ≡ Some chain → becomes ≡ Some way
    → option_and_then (λ chain. option_map (λ way. On listener chain way) becomes) found ≡ Some (On listener chain way)
on_from listener chain way found becomes p q = rw (p, q) refl

-- with the chain and the way known, the listener's number is read
on_read : (word : List ℕ) (listener : ℕ) (chain : Option ChainPlace) (way : Way Host) (tree : Data) → IsGeneration listener → chain_at tree ≡ Some chain → way_of word tree ≡ Some way
    → option_and_then (λ taken. taken_answer word taken tree) (generation_of (number_tree listener)) ≡ Some (On listener chain way)
on_read word listener chain way tree h p q =
    ap (option_and_then (λ taken. taken_answer word taken tree)) (generation_of-tree listener h) ∙ on_from listener chain way (chain_at tree) (way_of word tree) p q

going_read : (word : List ℕ) (listener : ℕ) (chain : Option ChainPlace) (cluster : Option ℕ) (way : Way Host) → IsGeneration listener → IfSome chain IsPlace
    → way_of word (going_tree word listener chain cluster) ≡ Some way → answer_of (going_tree word listener chain cluster) ≡ Some (On listener chain way)
unfolding answer_of
going_read word listener None None way h k is = on_read word listener None way (going_tree word listener None None) h refl is
going_read word listener None (Some cluster) way h k is = on_read word listener None way (going_tree word listener None (Some cluster)) h refl is
going_read word listener (Some place) None way h k is = on_read word listener (Some place) way (going_tree word listener (Some place) None) h (given_read place k) is
going_read word listener (Some place) (Some cluster) way h k is =
    on_read word listener (Some place) way (going_tree word listener (Some place) (Some cluster)) h (given_read place k) is

number_given : (number : ℕ) → IsGeneration number → option_map (λ (number : ℕ). Some number) (generation_of (number_tree number)) ≡ Some (Some number)
number_given number h = ap (option_map (λ (number : ℕ). Some number)) (generation_of-tree number h)

cluster_read : (word : List ℕ) (listener : ℕ) (chain : Option ChainPlace) (cluster : Option ℕ) → IfSome cluster IsGeneration
    → cluster_at (going_tree word listener chain cluster) ≡ Some cluster
cluster_read word listener None None h = refl
cluster_read word listener None (Some cluster) h = number_given cluster h
cluster_read word listener (Some place) None h = refl
cluster_read word listener (Some place) (Some cluster) h = number_given cluster h

local_read : (listener : ℕ) (chain : Option ChainPlace) (status : ℕ) → IsGeneration listener → IfSome chain IsPlace → status < 2 ^ 16
    → answer_of (local_tree listener chain status) ≡ Some (On listener chain (Local status))
unfolding answer_of
local_read listener None status h k l =
    on_read (codes "local") listener None (Local status) (local_tree listener None status) h refl (ap (option_map (λ status. Local status)) (number16-tree status l))
local_read listener (Some place) status h k l =
    on_read (codes "local") listener (Some place) (Local status) (local_tree listener (Some place) status) h (given_read place k)
    (ap (option_map (λ status. Local status)) (number16-tree status l))

served_from : (cluster : ℕ) (host : Host) (found : Option ℕ) (address : Option (List ℕ)) (port : Option ℕ) → found ≡ Some cluster → address ≡ Some host.address → port ≡ Some host.port
    → option_and_then (λ cluster. option_map (λ host. Served cluster host) (option_and_then (λ address. option_map (λ port. host_with address port) port) address)) found
    ≡ Some (Served cluster host)
served_from cluster host found address port p q r = rw (p, q, r) refl

served_read : (listener : ℕ) (chain : Option ChainPlace) (cluster : ℕ) (host : Host) → IsGeneration listener → IfSome chain IsPlace → IsGeneration cluster → IsHost host
    → answer_of (served_tree listener chain cluster host) ≡ Some (On listener chain (Served cluster host))
unfolding answer_of
served_read listener None cluster host h k l at =
    on_read (codes "served") listener None (Served cluster host) (served_tree listener None cluster host) h refl
    (served_from cluster host _ _ _ (generation_of-tree cluster l) (name_of-string host.address at.address) (number16-tree host.port at.port))
served_read listener (Some place) cluster host h k l at =
    on_read (codes "served") listener (Some place) (Served cluster host) (served_tree listener (Some place) cluster host) h (given_read place k)
    (served_from cluster host _ _ _ (generation_of-tree cluster l) (name_of-string host.address at.address) (number16-tree host.port at.port))

-- a connection that a listener takes
pub taken_read : (listener : ℕ) (chain : Option ChainPlace) (way : Way Host) → IsGeneration listener → IfSome chain IsPlace → IsWay way
    → answer_of (taken_tree listener chain way) ≡ Some (On listener chain way)
taken_read listener chain Undecided h k l = going_read (codes "undecided") listener chain None Undecided h k refl
taken_read listener chain (Elsewhere cluster) h k l =
    going_read (codes "elsewhere") listener chain cluster (Elsewhere cluster) h k
    (ap (option_map (λ cluster. Elsewhere cluster)) (cluster_read (codes "elsewhere") listener chain cluster l))
taken_read listener chain NoRoute h k l = going_read (codes "noRoute") listener chain None NoRoute h k refl
taken_read listener chain Redirect h k l = going_read (codes "redirect") listener chain None Redirect h k refl
taken_read listener chain NoCluster h k l = going_read (codes "noCluster") listener chain None NoCluster h k refl
taken_read listener chain NoEndpoint h k l = going_read (codes "noEndpoint") listener chain None NoEndpoint h k refl
taken_read listener chain (NoSecret cluster) h k l =
    going_read (codes "noSecret") listener chain cluster (NoSecret cluster) h k
    (ap (option_map (λ cluster. NoSecret cluster)) (cluster_read (codes "noSecret") listener chain cluster l))
taken_read listener chain (Local status) h k l = local_read listener chain status h k l
taken_read listener chain (Served cluster host) h k l = served_read listener chain cluster host h k l.0 l.1

-- ---- a settle

numbers_read : (numbers : List ℕ) → AreConnections numbers → list_of number64 (numbers_tree numbers) ≡ Some numbers
numbers_read numbers h = list_of-same (λ (n : ℕ). n < 2 ^ 64) number64 number_tree number64-tree numbers h

settled_from : (closed moved : List ℕ) (version : ℕ) (number : Option ℕ) (ones others : Option (List ℕ)) → number ≡ Some version → ones ≡ Some closed → others ≡ Some moved
    → option_and_then (λ number. option_and_then (λ closed. option_map (λ moved. settled_with closed moved number) others) ones) number ≡ Some (Settled closed moved version)
settled_from closed moved version number ones others p q r = rw (p, q, r) refl

pub settled_read : (closed moved : List ℕ) (version : ℕ) → AreConnections closed → AreConnections moved → version < 2 ^ 64
    → answer_of (settled_tree closed moved version) ≡ Some (Settled closed moved version)
unfolding answer_of
settled_read closed [] version h k l = settled_from closed [] version _ _ _ (number64-tree version l) (numbers_read closed h) refl
settled_read closed (first ∷ others) version h k l =
    settled_from closed (first ∷ others) version _ _ _ (number64-tree version l) (numbers_read closed h) (numbers_read (first ∷ others) k)
