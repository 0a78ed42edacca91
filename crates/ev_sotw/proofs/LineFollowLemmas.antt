-- What is kept of the lines so far follows them.
use Rattle.std.proofs.Common.{◌≡◌, ◌∙◌, ℕ, Bool, true, false, cond, List, [], ◌∷◌, ◌++◌, codes, Option, None, Some, option_and_then, refl, sym, ap}
use Rattle.std.specs.Str.{bytes_eq}
use Rattle.std.proofs.lemmas.Bool.{false≢true}
use Rattle.serde_json.specs.Data.{Data}
use Rattle.serde_json.specs.Find.{as_str}
use Rattle.ev_types.specs.Same.{bytes_decide}
use Rattle.ev_script.specs.Members.{member_of, is_word, is_op}
use Rattle.ev_script.specs.LineForms.{with_only}
use Rattle.ev_types.specs.declared.contents.Kind.{Kind}
use Rattle.ev_types.specs.declared.contents.Kind.TheVariants.{Cds, Eds, Lds, Rds, Sds, Ecds}
use Rattle.ev_types.specs.declared.events.Profile.{Profile}
use Rattle.ev_model.specs.Requests.{other_than}
use Rattle.ev_sotw.specs.Discovery.{DiscoveryParts, discovery_of, names_in}
use Rattle.ev_sotw.specs.declared.names_so_far.NamesSoFar.{NamesSoFar}
use Rattle.ev_sotw.specs.Lines.{response_in}
use Rattle.ev_sotw.specs.Deltas.{stream_said, is_open_after, is_of_kind, names_for, names_brought, last_names, removed_of_kind, removed_at}
use Rattle.ev_sotw.specs.LineFollows.{FollowsLines, removed_by_kind, removed_by, after_kind, after_response, after_other}
use Rattle.ev_sotw.proofs.SearchLemmas.{or_last, open_more, names_more}

-- a response says nothing of the stream
said_word : (found : Option (List ℕ)) → is_word (codes "response") found ≡ true
    → (is_word (codes "connect") found ≡ false) × (is_word (codes "disconnect") found ≡ false)
said_word None is = absurd (false≢true is)
said_word (Some op) is =
    let e : op ≡ codes "response" = (bytes_decide op (codes "response")).0 is in
    (ap (λ o. bytes_eq o (codes "connect")) e, ap (λ o. bytes_eq o (codes "disconnect")) e)

response_op : (profile : Profile) (line : Data) (response : DiscoveryParts) → response_in profile line ≡ Some response → is_op (codes "response") line ≡ true
response_op profile line response is = by (is_op (codes "response") line) (with_only (codes "message" ∷ []) line (member_of (discovery_of profile) (codes "message") line)) is
  where
    by : (b : Bool) (found : Option DiscoveryParts) → cond b found None ≡ Some response → b ≡ true
    by true found h = refl
    by false found h = absurd (cc)

pub response_says_nothing : (profile : Profile) (line : Data) (response : DiscoveryParts) → response_in profile line ≡ Some response → stream_said line ≡ None
response_says_nothing profile line response is =
    let words = said_word (member_of as_str (codes "op") line) (response_op profile line response is) in
    (λ i. cond (words.0 i) (Some true) (cond (words.1 i) (Some false) None))

-- ---- after a response

cond_same : {A : Type 0} (b : Bool) (x : A) → cond b x x ≡ x
cond_same true x = refl
cond_same false x = refl

cond_last : {A : Type 0} (b : Bool) (x y : A) → cond b x y ≡ or_last (cond b (Some x) None) y
cond_last true x y = refl
cond_last false x y = refl

-- what a response brings, by its kind
abbrev brought_by : Kind → Option Kind → Bool → DiscoveryParts → Option (List (List ℕ))
brought_by kind found connected response = cond connected (cond (is_of_kind kind found) (Some (names_in kind response)) None) None

nothing_brought : (connected : Bool) (old : List (List ℕ)) → old ≡ or_last (cond connected None None) old
nothing_brought true old = refl
nothing_brought false old = refl

clusters_after : (found : Option Kind) (response : DiscoveryParts) (names : NamesSoFar)
    → (after_kind found response names).clusters ≡ or_last (brought_by Cds found names.connected response) names.clusters
clusters_after None response names = nothing_brought names.connected names.clusters
clusters_after (Some Cds) response names = cond_last names.connected (names_in Cds response) names.clusters
clusters_after (Some Eds) response names = nothing_brought names.connected names.clusters
clusters_after (Some Lds) response names = nothing_brought names.connected names.clusters
clusters_after (Some Rds) response names = nothing_brought names.connected names.clusters
clusters_after (Some Sds) response names = nothing_brought names.connected names.clusters
clusters_after (Some Ecds) response names = nothing_brought names.connected names.clusters

listeners_after : (found : Option Kind) (response : DiscoveryParts) (names : NamesSoFar)
    → (after_kind found response names).listeners ≡ or_last (brought_by Lds found names.connected response) names.listeners
listeners_after None response names = nothing_brought names.connected names.listeners
listeners_after (Some Cds) response names = nothing_brought names.connected names.listeners
listeners_after (Some Eds) response names = nothing_brought names.connected names.listeners
listeners_after (Some Lds) response names = cond_last names.connected (names_in Lds response) names.listeners
listeners_after (Some Rds) response names = nothing_brought names.connected names.listeners
listeners_after (Some Sds) response names = nothing_brought names.connected names.listeners
listeners_after (Some Ecds) response names = nothing_brought names.connected names.listeners

connected_after : (found : Option Kind) (response : DiscoveryParts) (names : NamesSoFar) → (after_kind found response names).connected ≡ names.connected
connected_after None response names = refl
connected_after (Some Cds) response names = refl
connected_after (Some Eds) response names = refl
connected_after (Some Lds) response names = refl
connected_after (Some Rds) response names = refl
connected_after (Some Sds) response names = refl
connected_after (Some Ecds) response names = refl

brought_at : (profile : Profile) (kind : Kind) (lines : List Data) (line : Data) (response : DiscoveryParts) → response_in profile line ≡ Some response
    → names_brought profile kind (lines, line) ≡ brought_by kind response.kind (is_open_after lines) response
brought_at profile kind lines line response is = ap (λ found. cond (is_open_after lines) (option_and_then (names_for kind) found) None) is

pub follows_response : (profile : Profile) (lines : List Data) (line : Data) (response : DiscoveryParts) (names : NamesSoFar) → response_in profile line ≡ Some response
    → FollowsLines profile lines names → FollowsLines profile (lines ++ line ∷ []) (after_response response names)
follows_response profile lines line response names is follows = record {
  connected = connected_after response.kind response names ∙ follows.connected
      ∙ sym (open_more lines line ∙ ap (λ said. or_last said (is_open_after lines)) (response_says_nothing profile line response is));
  clusters = clusters_after response.kind response names
      ∙ (λ i. or_last (brought_by Cds response.kind (follows.connected i) response) (follows.clusters i))
      ∙ sym (names_more profile Cds lines line ∙ ap (λ found. or_last found (last_names profile Cds lines)) (brought_at profile Cds lines line response is));
  listeners = listeners_after response.kind response names
      ∙ (λ i. or_last (brought_by Lds response.kind (follows.connected i) response) (follows.listeners i))
      ∙ sym (names_more profile Lds lines line ∙ ap (λ found. or_last found (last_names profile Lds lines)) (brought_at profile Lds lines line response is));
}

-- ---- after another line

other_connected : (first second : Bool) (names : NamesSoFar)
    → (cond first (record names { connected = true }) (cond second (record names { connected = false }) names)).connected
    ≡ or_last (cond first (Some true) (cond second (Some false) None)) names.connected
other_connected true second names = refl
other_connected false true names = refl
other_connected false false names = refl

other_clusters : (first second : Bool) (names : NamesSoFar)
    → (cond first (record names { connected = true }) (cond second (record names { connected = false }) names)).clusters ≡ names.clusters
other_clusters true second names = refl
other_clusters false true names = refl
other_clusters false false names = refl

other_listeners : (first second : Bool) (names : NamesSoFar)
    → (cond first (record names { connected = true }) (cond second (record names { connected = false }) names)).listeners ≡ names.listeners
other_listeners true second names = refl
other_listeners false true names = refl
other_listeners false false names = refl

none_brought : (profile : Profile) (kind : Kind) (lines : List Data) (line : Data) → response_in profile line ≡ None → names_brought profile kind (lines, line) ≡ None
none_brought profile kind lines line is = ap (λ found. cond (is_open_after lines) (option_and_then (names_for kind) found) None) is ∙ cond_same (is_open_after lines) None

pub follows_other : (profile : Profile) (lines : List Data) (line : Data) (names : NamesSoFar) → response_in profile line ≡ None
    → FollowsLines profile lines names → FollowsLines profile (lines ++ line ∷ []) (after_other line names)
follows_other profile lines line names is follows = record {
  connected = other_connected (is_op (codes "connect") line) (is_op (codes "disconnect") line) names
      ∙ ap (or_last (stream_said line)) follows.connected ∙ sym (open_more lines line);
  clusters = other_clusters (is_op (codes "connect") line) (is_op (codes "disconnect") line) names ∙ follows.clusters
      ∙ sym (names_more profile Cds lines line ∙ ap (λ found. or_last found (last_names profile Cds lines)) (none_brought profile Cds lines line is));
  listeners = other_listeners (is_op (codes "connect") line) (is_op (codes "disconnect") line) names ∙ follows.listeners
      ∙ sym (names_more profile Lds lines line ∙ ap (λ found. or_last found (last_names profile Lds lines)) (none_brought profile Lds lines line is));
}

-- ---- what a response removes

removed_kind : (profile : Profile) (found : Option Kind) (lines : List Data) (response : DiscoveryParts) (names : NamesSoFar) → FollowsLines profile lines names
    → removed_by_kind found names response ≡ removed_of_kind profile found lines response
removed_kind profile None lines response names follows = refl
removed_kind profile (Some Cds) lines response names follows = ap (other_than (names_in Cds response)) follows.clusters
removed_kind profile (Some Eds) lines response names follows = refl
removed_kind profile (Some Lds) lines response names follows = ap (other_than (names_in Lds response)) follows.listeners
removed_kind profile (Some Rds) lines response names follows = refl
removed_kind profile (Some Sds) lines response names follows = refl
removed_kind profile (Some Ecds) lines response names follows = refl

pub removed_follows : (profile : Profile) (lines : List Data) (response : DiscoveryParts) (names : NamesSoFar) → FollowsLines profile lines names
    → removed_by names response ≡ removed_at profile lines response
removed_follows profile lines response names follows = removed_kind profile response.kind lines response names follows
