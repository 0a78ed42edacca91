-- The endpoints that are sent were in a line that was read, at least as deep as in the line that sends them.
use Rattle.std.proofs.Common.{ℕ, ◌+◌, ◌≤◌, not, Bool, true, false, cond, List, [], ◌∷◌, map, filter, filter_map, flat_map, Option, None, Some, option_map, codes, arith}
use Rattle.std.specs.Prelude.{All, IfSome}
use Rattle.std.specs.List.{cons_option, last_or}
use Rattle.std.specs.Str.{bytes_eq}
use Rattle.std.proofs.lemmas.List.Elements.{All-nil, All-cons, All-head, All-tail, All-map, All-weaker, All-filter}
use Rattle.serde_json.specs.Data.{Data, array, no_items, depth}
use Rattle.ev_types.specs.Items.{ResponseParts}
use Rattle.ev_types.specs.declared.clusters.Discovery.{Discovery}
use Rattle.ev_types.specs.declared.clusters.Discovery.TheVariants.{Static, Eds as by_name, Elsewhere}
use Rattle.ev_types.specs.declared.contents.Kind.{Kind}
use Rattle.ev_types.specs.declared.contents.Kind.TheVariants.{Eds}
use Rattle.ev_types.specs.declared.events.Event.{Event}
use Rattle.ev_types.specs.declared.events.Event.TheVariants.{Response}
use Rattle.ev_types.specs.declared.events.Profile.{Profile}
use Rattle.ev_tree.specs.declared.outcome.Found.{Found}
use Rattle.ev_tree.specs.declared.outcome.Found.TheVariants.{Absent, Wrong, Given}
use Rattle.ev_tree.specs.Forms.{given_or, field_of}
use Rattle.ev_cluster_json.specs.Clusters.{load_assignment_of}
use Rattle.ev_trees.specs.Trees.{IsReadable}
use Rattle.ev_wire.specs.Responses.{entries_of, item_of}
use Rattle.ev_expand.specs.declared.keys.Key.{Key}
use Rattle.ev_expand.specs.Fronts.{Front, event_of, message_of, up_to, fronts, behind, stream_at, heard}
use Rattle.ev_expand.specs.Guarding.{Guarded, guarded_same, clusters_in, body_in, guarded_in, each_once, guarded_by}
use Rattle.ev_expand.specs.Scripts.{IsShallow, AreShallowAt}
use Rattle.ev_expand.proofs.DepthLemmas.{IsWithin, field_within, object_within, entries_within, message_within, body_within, clusters_within}
use Rattle.ev_expand.proofs.GivenLemmas.{all_given, all_fronts}
use Rattle.ev_tls.specs.References.{endpoints_in, by_secrets}
use Rattle.ev_tls.specs.Told.{gives_value, value_given, given_as, given_with, values_in, value_of}
use Rattle.ev_tls.specs.Sealing.{endpoints_by, tls_rules}

-- ---- endpoints in a line

default_within : (n : ℕ) (found : Found Data) → 1 ≤ n → IsWithin n found → depth (given_or (array no_items) found) ≤ n
default_within n Absent some h = omega arith
default_within n Wrong some h = omega arith
default_within n (Given tree) some h = h

endpoints_within : (assignment : Data) (n : ℕ) → 1 ≤ n → depth assignment ≤ n + 1 → depth (endpoints_in assignment) ≤ n
endpoints_within assignment n some h = default_within n (field_of (codes "endpoints") assignment) some (field_within (codes "endpoints") assignment n h)

assignment_within : (body : Data) (n : ℕ) → depth body ≤ n + 1 → depth (load_assignment_of body) ≤ n
unfolding load_assignment_of
assignment_within body n h = object_within (codes "load_assignment") body n h

-- those of the first resource of a key
own_shallow : (profile : Profile) (entry : Data) → depth entry ≤ 124 → IsShallow ((by_secrets profile).own_of entry)
own_shallow profile entry h =
    omega (arith, endpoints_within (load_assignment_of (body_in entry)) 121 (omega arith) (assignment_within (body_in entry) 122 (body_within entry 123 h)))

-- those of a resource of endpoints
value_shallow : (entry : Data) → depth entry ≤ 124 → IsShallow (endpoints_in (body_in entry))
value_shallow entry h = omega (arith, endpoints_within (body_in entry) 122 (omega arith) (body_within entry 123 h))

-- ---- what is guarded

some_put : {Y : Type 0} (P : Y → Type 0) (found : Option Y) (ys : List Y) → IfSome found P → All P ys → All P (cons_option found ys)
some_put P None ys h all = all
some_put P (Some y) ys h all = All-cons P y ys h all

all_found : {X Y : Type 0} (P : X → Type 0) (Q : Y → Type 0) (f : X → Option Y) (xs : List X) → ((x : X) → P x → IfSome (f x) Q) → All P xs → All Q (filter_map f xs)
all_found P Q f [] so all = All-nil Q
all_found P Q f (x ∷ xs) so all = some_put Q (f x) (filter_map f xs) (so x (All-head P x xs all)) (all_found P Q f xs so (All-tail P x xs all))

-- its own endpoints are shallow
abbrev OwnIsShallow : Guarded → Type 0
OwnIsShallow g = IsShallow g.own

guarded_own : (key : Option Key) (own : Data) → IsShallow own → IfSome (option_map (λ (k : Key). record { key = k; own = own }) key) OwnIsShallow
guarded_own None own h = tt
guarded_own (Some key) own h = h

line_own : (profile : Profile) (line : Data) → IsReadable line → All OwnIsShallow (guarded_in (by_secrets profile) line)
line_own profile line readable =
    all_found (λ (entry : Data). depth entry ≤ 124) OwnIsShallow _ (clusters_in profile line)
    (λ entry h. guarded_own ((by_secrets profile).key_of entry) ((by_secrets profile).own_of entry) (own_shallow profile entry h)) (clusters_within profile line 124 readable)

all_once : (P : Guarded → Type 0) (gs : List Guarded) → All P gs → All P (each_once gs)
all_once P [] all = All-nil P
all_once P (g ∷ gs) all =
    All-cons P g _ (All-head P g gs all) (All-filter (λ (other : Guarded). not (guarded_same other g)) P (each_once gs) (all_once P gs (All-tail P g gs all)))

lines_own : (profile : Profile) (lines : List Data) → All IsReadable lines → All OwnIsShallow (guarded_by (by_secrets profile) lines)
lines_own profile lines readable =
    all_once OwnIsShallow (flat_map (guarded_in (by_secrets profile)) lines)
    (all_given OwnIsShallow (guarded_in (by_secrets profile)) lines (All-weaker IsReadable (λ (line : Data). All OwnIsShallow (guarded_in (by_secrets profile) line)) (line_own profile) lines readable))

-- ---- values

-- the value is shallow
abbrev ValueIsShallow : List ℕ × Data → Type 0
ValueIsShallow value = IsShallow value.1

value_by : (b : Bool) (name : List ℕ) (value : Data) → IsShallow value → IfSome (cond b (Some (name, value)) None) ValueIsShallow
value_by true name value h = h
value_by false name value h = tt

listed_values : (profile : Profile) (kind : Option Kind) (response : ResponseParts) (message : Data) → depth message ≤ 126 → All ValueIsShallow (given_as profile kind response message)
listed_values profile None response message h = All-nil ValueIsShallow
listed_values profile (Some Eds) response message h =
    all_found (λ (entry : Data). depth entry ≤ 124) ValueIsShallow (value_given profile response) (entries_of message)
    (λ entry k. value_by (gives_value response (item_of profile Eds entry)) (item_of profile Eds entry).name (endpoints_in (body_in entry)) (value_shallow entry k))
    (entries_within message 124 h)
listed_values profile (Some kind) response message h = All-nil ValueIsShallow

event_values : (profile : Profile) (event : Option Event) (message : Data) → depth message ≤ 126 → All ValueIsShallow (given_with profile event message)
event_values profile None message h = All-nil ValueIsShallow
event_values profile (Some (Response response)) message h = listed_values profile response.kind response message h
event_values profile (Some event) message h = All-nil ValueIsShallow

line_values : (profile : Profile) (line : Data) → IsReadable line → All ValueIsShallow (values_in profile line)
line_values profile line readable = event_values profile (event_of profile line) (message_of line) (message_within line 126 readable)

last_so : (P : Data → Type 0) (found : Option Data) (values : List Data) → IfSome found P → All P values → IfSome (last_or found values) P
last_so P found [] h all = h
last_so P found (value ∷ values) h all = last_so P (Some value) values (All-head P value values all) (All-tail P value values all)

value_of_shallow : (profile : Profile) (lines : List Data) (name : List ℕ) → All IsReadable lines → IfSome (value_of profile lines name) IsShallow
value_of_shallow profile lines name readable =
    let values : List (List ℕ × Data) = flat_map (values_in profile) (heard profile lines) in
    let named : List (List ℕ × Data) = filter (λ (v : List ℕ × Data). bytes_eq v.0 name) values in
    let told : All IsReadable (heard profile lines) =
    All-map IsReadable (λ (front : Front). front.line) (filter (λ (front : Front). stream_at profile (up_to front)) (fronts lines))
    (All-filter (λ (front : Front). stream_at profile (up_to front)) (λ (front : Front). IsReadable front.line) (fronts lines) (all_fronts IsReadable lines readable)) in
    let each : All ValueIsShallow values =
    all_given ValueIsShallow (values_in profile) (heard profile lines) (All-weaker IsReadable (λ (line : Data). All ValueIsShallow (values_in profile line)) (line_values profile) (heard profile lines) told) in
    last_so IsShallow None (map (λ (v : List ℕ × Data). v.1) named) tt
    (All-map IsShallow (λ (v : List ℕ × Data). v.1) named (All-filter (λ (v : List ℕ × Data). bytes_eq v.0 name) ValueIsShallow values each))

-- ---- each line

endpoints_shallow : (profile : Profile) (discovery : Discovery) (lines : List Data) (g : Guarded) → All IsReadable lines → OwnIsShallow g → IfSome (endpoints_by profile discovery lines g) IsShallow
endpoints_shallow profile (Static rows) lines g readable own = own
endpoints_shallow profile (by_name service limited fresh) lines g readable own = value_of_shallow profile lines service readable
endpoints_shallow profile Elsewhere lines g readable own = tt

front_shallow : (profile : Profile) (front : Front) → All IsReadable (up_to front) → AreShallowAt (tls_rules profile) front
front_shallow profile front readable =
    All-weaker OwnIsShallow (λ (g : Guarded). IfSome ((tls_rules profile).endpoints_of (up_to front) g) IsShallow)
    (λ g own. endpoints_shallow profile g.key.cluster.discovery (up_to front) g readable own) (guarded_by (by_secrets profile) (up_to front)) (lines_own profile (up_to front) readable)

all_up_to : (P : Data → Type 0) (lines : List Data) → All P lines → All (λ (front : Front). All P (up_to front)) (fronts lines)
all_up_to P [] all = All-nil (λ (front : Front). All P (up_to front))
all_up_to P (first ∷ lines) all =
    let Q : Front → Type 0 = λ front. All P (up_to front) in
    let here : P first = All-head P first lines all in
    All-cons Q (record { before = []; line = first }) (map (behind first) (fronts lines)) (All-cons P first [] here (All-nil P))
    (All-map Q (behind first) (fronts lines)
    (All-weaker Q (λ (front : Front). Q (behind first front)) (λ front h. All-cons P first (up_to front) here h) (fronts lines) (all_up_to P lines (All-tail P first lines all))))

-- the endpoints of all that is guarded in lines that were read are shallow
pub lines_shallow : (profile : Profile) (lines : List Data) → All IsReadable lines → All (AreShallowAt (tls_rules profile)) (fronts lines)
lines_shallow profile lines readable =
    All-weaker (λ (front : Front). All IsReadable (up_to front)) (AreShallowAt (tls_rules profile)) (front_shallow profile) (fronts lines) (all_up_to IsReadable lines readable)
