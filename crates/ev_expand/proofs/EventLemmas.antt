-- What the event of a line says of the line.
use Rattle.std.proofs.Common.{◌≡◌, ℕ, Bool, true, false, cond, List, [], ◌∷◌, codes, IfSome, Option, None, Some, option_map, option_and_then, unwrap_or, map, refl, sym, ap, ◌∙◌, subst}
use Rattle.std.specs.Str.{bytes_eq}
use Rattle.serde_json.specs.Data.{Data, null}
use Rattle.serde_json.specs.Find.{get, as_str, as_bool}
use Rattle.ev_types.specs.Items.{ResponseParts}
use Rattle.ev_types.specs.Kinds.{is_by_name}
use Rattle.ev_types.specs.declared.contents.Kind.{Kind}
use Rattle.ev_types.specs.declared.contents.Kind.TheVariants.{Cds}
use Rattle.ev_types.specs.declared.events.Actor.{Actor}
use Rattle.ev_types.specs.declared.events.Actor.TheVariants.{Stream, Health as health, Timer, Main, Worker}
use Rattle.ev_types.specs.declared.events.Event.{Event}
use Rattle.ev_types.specs.declared.events.Event.TheVariants.{Connect, Disconnect, Response, Health, FetchTimeout, DrainTimeout, TtlExpired, Publish, Reap, Accept, Close, Settle}
use Rattle.ev_types.specs.declared.events.Line.{Line}
use Rattle.ev_types.specs.declared.events.Profile.{Profile}
use Rattle.ev_wire.specs.Responses.{response_of, parts_of, item_of, entries_of, response_kind, nonce_of, is_response}
use Rattle.ev_script.specs.Members.{has_only, name_of, member_of}
use Rattle.ev_script.specs.LineForms.{line_at, host_in, kind_in}
use Rattle.ev_script.specs.StreamLines.{connect_line, disconnect_line, response_line}
use Rattle.ev_script.specs.HealthLines.{health_line}
use Rattle.ev_script.specs.TimerLines.{named_timeout, whole_timeout, timeout_of, timeout_line, drain_line, expired_line}
use Rattle.ev_script.specs.MainLines.{publish_line, reap_line}
use Rattle.ev_script.specs.Asks.{conn_in, ask_in}
use Rattle.ev_script.specs.WorkerLines.{worker_in, worker_line, accept_line, close_line, settle_line}
use Rattle.ev_script.specs.Lines.{line_of, line_by, main_side_line}
use Rattle.ev_expand.specs.Fronts.{event_of, message_of}
use Rattle.ev_expand.specs.Guarding.{items_as, items_by, listed_as, clusters_by}

-- a response is what its line's message is read as
abbrev pub AsSaid : Profile → Data → Event → Type 0
AsSaid profile tree (Response response) = response_of profile (message_of tree) ≡ Some response
AsSaid profile tree event = Unit {0}

abbrev pub LineAsSaid : Profile → Data → Line → Type 0
LineAsSaid profile tree line = AsSaid profile tree line.event

chained : {A B : Type 0} (P : B → Type 0) (f : A → Option B) (o : Option A) → ((x : A) → IfSome (f x) P) → IfSome (option_and_then f o) P
chained P f None k = tt
chained P f (Some x) k = k x

mapped : {A B : Type 0} (P : B → Type 0) (f : A → B) (o : Option A) → ((x : A) → P (f x)) → IfSome (option_map f o) P
mapped P f None k = tt
mapped P f (Some x) k = k x

tested : {A : Type 0} (P : A → Type 0) (b : Bool) (o : Option A) → IfSome o P → IfSome (cond b o None) P
tested P true o h = h
tested P false o h = tt

either : {A : Type 0} (P : A → Type 0) (b : Bool) (o q : Option A) → IfSome o P → IfSome q P → IfSome (cond b o q) P
either P true o q h k = h
either P false o q h k = k

said_at : (profile : Profile) (at : ℕ) (tree : Data) (actor : Actor) (event : Option Event) → IfSome event (AsSaid profile tree) → IfSome (line_at at actor event) (LineAsSaid profile tree)
said_at profile at tree actor None h = tt
said_at profile at tree actor (Some e) h = h

worker_said : (profile : Profile) (at : ℕ) (tree : Data) (event : Option Event) → IfSome event (AsSaid profile tree) → IfSome (worker_line at event tree) (LineAsSaid profile tree)
worker_said profile at tree event h = chained (LineAsSaid profile tree) _ (worker_in tree) (λ worker. said_at profile at tree (Worker worker) event h)

response_said : (profile : Profile) (tree message : Data) (found : Option ResponseParts) → get (codes "message") tree ≡ Some message → response_of profile message ≡ found
    → IfSome (option_map (λ response. Response response) found) (AsSaid profile tree)
response_said profile tree message None is e = tt
response_said profile tree message (Some response) is e = ap (λ (o : Option Data). response_of profile (unwrap_or o null)) is ∙ e

message_said : (profile : Profile) (tree : Data) (found : Option Data) → get (codes "message") tree ≡ found
    → IfSome (option_map (λ response. Response response) (option_and_then (response_of profile) found)) (AsSaid profile tree)
message_said profile tree None is = tt
message_said profile tree (Some message) is = response_said profile tree message (response_of profile message) is refl

timeout_said : (profile : Profile) (kind : Kind) (tree : Data) → IfSome (timeout_of kind tree) (AsSaid profile tree)
timeout_said profile kind tree =
    let P : Event → Type 0 = AsSaid profile tree in
    either P (is_by_name kind) (named_timeout kind tree) (whole_timeout kind tree)
    (tested P _ _ (mapped P (λ name. FetchTimeout (record { kind = kind; name = Some name })) (member_of name_of (codes "name") tree) (λ name. tt)))
    (tested P _ (Some (FetchTimeout (record { kind = kind; name = None }))) tt)

main_side_said : (profile : Profile) (op : List ℕ) (at : ℕ) (tree : Data) → IfSome (main_side_line profile op at tree) (LineAsSaid profile tree)
main_side_said profile op at tree =
    let P : Line → Type 0 = LineAsSaid profile tree in
    let Q : Event → Type 0 = AsSaid profile tree in
    either P (bytes_eq op (codes "connect")) (connect_line at tree) _ (tested P (has_only (codes "op" ∷ []) tree) _ (said_at profile at tree Stream (Some Connect) tt))
    (either P (bytes_eq op (codes "disconnect")) (disconnect_line at tree) _ (tested P (has_only (codes "op" ∷ []) tree) _ (said_at profile at tree Stream (Some Disconnect) tt))
    (either P (bytes_eq op (codes "response")) (response_line profile at tree) _ (tested P _ _ (said_at profile at tree Stream _ (message_said profile tree (get (codes "message") tree) refl)))
    (either P (bytes_eq op (codes "health")) (health_line at tree) _
    (tested P _ _ (said_at profile at tree health _
    (chained Q _ (member_of name_of (codes "cluster") tree) (λ cluster. chained Q _ (host_in tree) (λ host. mapped Q (λ healthy. Health cluster host healthy) (member_of as_bool (codes "healthy") tree) (λ healthy. tt))))))
    (either P (bytes_eq op (codes "fetchTimeout")) (timeout_line profile at tree) _ (said_at profile at tree Timer _ (chained Q (λ kind. timeout_of kind tree) (kind_in profile tree) (λ kind. timeout_said profile kind tree)))
    (either P (bytes_eq op (codes "drainTimeout")) (drain_line at tree) _
    (tested P _ _ (said_at profile at tree Timer _ (mapped Q (λ name. DrainTimeout name) (member_of name_of (codes "listener") tree) (λ name. tt))))
    (either P (bytes_eq op (codes "ttlExpired")) (expired_line profile at tree) _
    (tested P _ _ (said_at profile at tree Timer _ (chained Q _ (kind_in profile tree) (λ kind. mapped Q (λ name. TtlExpired kind name) (member_of name_of (codes "name") tree) (λ name. tt)))))
    (either P (bytes_eq op (codes "publish")) (publish_line at tree) _ (tested P (has_only (codes "op" ∷ []) tree) _ (said_at profile at tree Main (Some Publish) tt))
    (either P (bytes_eq op (codes "reap")) (reap_line at tree) None (tested P (has_only (codes "op" ∷ []) tree) _ (said_at profile at tree Main (Some Reap) tt)) tt))))))))

by_said : (profile : Profile) (op : List ℕ) (at : ℕ) (tree : Data) → IfSome (line_by profile op at tree) (LineAsSaid profile tree)
by_said profile op at tree =
    let P : Line → Type 0 = LineAsSaid profile tree in
    let Q : Event → Type 0 = AsSaid profile tree in
    either P (bytes_eq op (codes "accept")) (accept_line profile at tree) _ (tested P _ _ (worker_said profile at tree _ (mapped Q (λ ask. Accept ask) (ask_in tree) (λ ask. tt))))
    (either P (bytes_eq op (codes "close")) (close_line at tree) _ (tested P _ _ (worker_said profile at tree _ (mapped Q (λ conn. Close conn) (conn_in tree) (λ conn. tt))))
    (either P (bytes_eq op (codes "settle")) (settle_line at tree) _ (tested P _ _ (worker_said profile at tree (Some Settle) tt)) (main_side_said profile op at tree)))

line_said : (profile : Profile) (at : ℕ) (tree : Data) → IfSome (line_of profile at tree) (LineAsSaid profile tree)
line_said profile at tree = chained (LineAsSaid profile tree) (λ op. line_by profile op at tree) (member_of as_str (codes "op") tree) (λ op. by_said profile op at tree)

taken : (profile : Profile) (tree : Data) (line : Option Line) → IfSome line (LineAsSaid profile tree) → IfSome (option_map (λ (l : Line). l.event) line) (AsSaid profile tree)
taken profile tree None h = tt
taken profile tree (Some line) h = h

-- the event of a line says what the line says
pub event_said : (profile : Profile) (tree : Data) → IfSome (event_of profile tree) (AsSaid profile tree)
event_said profile tree = taken profile tree (line_of profile 0 tree) (line_said profile 0 tree)

when_some : (profile : Profile) (tree : Data) (response : ResponseParts) (event : Option Event) → event ≡ Some (Response response) → IfSome event (AsSaid profile tree) → response_of profile (message_of tree) ≡ Some response
when_some profile tree response None e h = absurd (cc)
when_some profile tree response (Some other) e h = subst (λ (o : Option Event). IfSome o (AsSaid profile tree)) e h

-- the response of a line is what its message is read as
pub response_read : (profile : Profile) (tree : Data) (response : ResponseParts) → event_of profile tree ≡ Some (Response response) → response_of profile (message_of tree) ≡ Some response
response_read profile tree response e = when_some profile tree response (event_of profile tree) e (event_said profile tree)

-- ---- the resources of a response

given : {A : Type 0} (b : Bool) (v r : A) → cond b (Some v) None ≡ Some r → r ≡ v
given true v r h = cc
given false v r h = absurd (cc)

parts_items : (profile : Profile) (o : Option Kind) (nonce : List ℕ) (message : Data) (response : ResponseParts) (kind : Kind) → response ≡ parts_of profile o nonce message → response.kind ≡ Some kind
    → response.items ≡ map (item_of profile kind) (entries_of message)
parts_items profile None nonce message response kind e h = absurd (cc (ap (λ (r : ResponseParts). r.kind) e))
parts_items profile (Some other) nonce message response kind e h =
    let same : Some other ≡ Some kind = sym (ap (λ (r : ResponseParts). r.kind) e) ∙ h in
    let kinds : other ≡ kind = cc in
    ap (λ (r : ResponseParts). r.items) e ∙ ap (λ (k : Kind). map (item_of profile k) (entries_of message)) kinds

read_items : (profile : Profile) (message : Data) (response : ResponseParts) (kind : Kind) → response_of profile message ≡ Some response → response.kind ≡ Some kind → response.items ≡ map (item_of profile kind) (entries_of message)
unfolding response_of
read_items profile message response kind e h = parts_items profile (response_kind profile message) (nonce_of message) message response kind (given (is_response profile message) _ response e) h

-- the items of a response are what its resources are read as
pub items_read : (profile : Profile) (line : Data) (response : ResponseParts) (kind : Kind) → event_of profile line ≡ Some (Response response) → response.kind ≡ Some kind
    → response.items ≡ map (item_of profile kind) (entries_of (message_of line))
items_read profile line response kind e h = read_items profile (message_of line) response kind (response_read profile line response e) h

-- ---- the resources of clusters

as_listed : (profile : Profile) (line : Data) (response : ResponseParts) (kind : Option Kind) → kind ≡ response.kind → event_of profile line ≡ Some (Response response)
    → items_as kind response.items ≡ map (item_of profile Cds) (listed_as kind (message_of line))
as_listed profile line response None is e = refl
as_listed profile line response (Some Cds) is e = items_read profile line response Cds e (sym is)
as_listed profile line response (Some kind) is e = refl

-- the items of clusters of a line's event are what its resources of clusters are read as
pub cluster_items_read : (profile : Profile) (line : Data) (event : Option Event) → event ≡ event_of profile line → items_by event ≡ map (item_of profile Cds) (clusters_by event line)
cluster_items_read profile line None is = refl
cluster_items_read profile line (Some (Response response)) is = as_listed profile line response response.kind refl (sym is)
cluster_items_read profile line (Some event) is = refl
