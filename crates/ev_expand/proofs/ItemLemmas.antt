-- A resource whose body waits is read as the cluster that waits.
use Rattle.std.proofs.Common.{◌≡◌, ◌∙◌, ℕ, zero, suc, ◌+◌, ◌≤◌, Bool, true, false, true≢false, not, ◌&&◌, nat_lt, ◌==◌, ◌/◌, ◌%◌, cond, List, [], ◌∷◌, length, Option, Some, None, Result, Ok, Err, codes, decimal, refl, sym, ap, subst, arith, length-append}
use Rattle.std.specs.Prelude.{unwrap_or}
use Rattle.std.specs.Str.{bytes_eq}
use Rattle.std.proofs.lemmas.Bool.Decides.{nat_tests}
use Rattle.std.specs.Fmt.{digits, digits_onto, digit_glyph}
use Rattle.serde_json.specs.Data.{Data, null, boolean, number, string, array, object}
use Rattle.serde_json.specs.Find.{get}
use Rattle.ev_types.specs.declared.clusters.Cluster.{Cluster}
use Rattle.ev_types.specs.declared.contents.Kind.TheVariants.{Cds}
use Rattle.ev_types.specs.declared.contents.Content.{Content}
use Rattle.ev_types.specs.declared.contents.Content.TheVariants.{Cluster as a_cluster}
use Rattle.ev_types.specs.declared.contents.Body.{Body}
use Rattle.ev_types.specs.declared.contents.Body.TheVariants.{Good, Bad, Beat}
use Rattle.ev_types.specs.declared.events.Profile.{Profile}
use Rattle.ev_tree.specs.declared.limits.TheConstants.{MAX_NAME_BYTES}
use Rattle.ev_tree.specs.declared.outcome.Found.{Found}
use Rattle.ev_tree.specs.declared.outcome.Found.TheVariants.{Given}
use Rattle.ev_tree.specs.declared.span.Span.{Span}
use Rattle.ev_tree.specs.Spelling.{camel_of}
use Rattle.ev_tree.specs.Forms.{is_object, is_wrong, given_or, inside, present_member, value_or_absent, field_of, text_of}
use Rattle.ev_tree.specs.Spans.{is_not_positive}
use Rattle.ev_tree.specs.Broken.{none_broken, least_of}
use Rattle.ev_cluster_json.specs.Clusters.{cluster_reading, has_custom_type}
use Rattle.ev_cluster_json.proofs.RowsMade.{not_false}
use Rattle.ev_types.specs.Kinds.{type_url}
use Rattle.ev_wire.specs.Bodies.{is_heartbeat, is_positive, is_of_type, breaks_v1, breaks_v2, differs, breaks_v3, own_broken, content_with, content_of, body_with, resource_of, body_of}
use Rattle.ev_wire.specs.Responses.{entry_name, ttl_of, item_of}
use Rattle.ev_expand.specs.Editing.{with_value}
use Rattle.ev_expand.specs.Guarding.{private_name, body_in, waiting_body, waiting_entry}
use Rattle.ev_expand.specs.Waiting.{waiting_cluster, waiting_item, body_read, IsShortPrefix, IsClusterWith}
use Rattle.ev_expand.proofs.FieldLemmas.{IsOther, field_with, field_with_other, text_by, duration_by}
use Rattle.ev_expand.proofs.WaitLemmas.{KeepsFields, waiting_keeps, keeps_both, keeps_name, keeps_own_type, kept_custom, waits_read}

-- ---- what a good body says

-- the body of an item of this name and time to live is good, and is this cluster
record IsGood (profile : Profile) (name : List ℕ) (ttl : Found Span) (body : Data) (cluster : Cluster) : Type 0 where
  typed : is_of_type Cds body ≡ true
  own : least_of (own_broken Cds name ttl body) ≡ None
  reads : cluster_reading profile body ≡ Ok cluster

content_ok : (reading : Result Cluster ℕ) (cluster : Cluster) → content_with a_cluster reading ≡ Ok (a_cluster cluster) → reading ≡ Ok cluster
content_ok (Ok other) cluster h = cc
content_ok (Err rule) cluster h = absurd (cc)

body_good : (least : Option ℕ) (content : Result Content ℕ) (found : Content) → body_with least content ≡ Good found → (least ≡ None) × (content ≡ Ok found)
body_good None (Ok content) found h = (refl, cc)
body_good None (Err rule) found h = absurd (cc)
body_good (Some rule) (Ok content) found h = absurd (cc)
body_good (Some rule) (Err other) found h = absurd (cc)

cond_good : (b : Bool) (body : Body) (found : Content) → cond b (Bad 1) body ≡ Good found → (b ≡ false) × (body ≡ Good found)
cond_good true body found h = absurd (cc)
cond_good false body found h = (refl, h)

good_by : (profile : Profile) (name : List ℕ) (ttl : Found Span) (body : Data) (cluster : Cluster) → resource_of profile Cds name ttl body ≡ Good (a_cluster cluster) → IsGood profile name ttl body cluster
unfolding resource_of content_of
good_by profile name ttl body cluster h =
    let outer = cond_good (breaks_v1 Cds body) (body_with (least_of (own_broken Cds name ttl body)) (content_of profile Cds body)) (a_cluster cluster) h in
    let inner = body_good (least_of (own_broken Cds name ttl body)) (content_of profile Cds body) (a_cluster cluster) outer.1 in
    record { typed = not_false (is_of_type Cds body) outer.0; own = inner.0; reads = content_ok (cluster_reading profile body) cluster inner.1 }

by_good : (profile : Profile) (name : List ℕ) (ttl : Found Span) (body : Data) (cluster : Cluster) → IsGood profile name ttl body cluster → resource_of profile Cds name ttl body ≡ Good (a_cluster cluster)
unfolding resource_of content_of
by_good profile name ttl body cluster is = λ i. cond (not (is.typed i)) (Bad 1) (body_with (is.own i) (content_with a_cluster (is.reads i)))

-- what is good of clusters is a cluster
with_cluster : (reading : Result Cluster ℕ) (content : Content) → content_with a_cluster reading ≡ Ok content → (cluster : Cluster) × (content ≡ a_cluster cluster)
with_cluster (Ok cluster) content h = (cluster, cc)
with_cluster (Err rule) content h = absurd (cc)

good_cluster : (profile : Profile) (name : List ℕ) (ttl : Found Span) (body : Data) (content : Content) → resource_of profile Cds name ttl body ≡ Good content → (cluster : Cluster) × (content ≡ a_cluster cluster)
unfolding resource_of content_of
good_cluster profile name ttl body content h =
    let outer = cond_good (breaks_v1 Cds body) (body_with (least_of (own_broken Cds name ttl body)) (content_of profile Cds body)) content h in
    let inner = body_good (least_of (own_broken Cds name ttl body)) (content_of profile Cds body) content outer.1 in
    with_cluster (cluster_reading profile body) content inner.1

typed_object : (body : Data) → is_of_type Cds body ≡ true → is_object body ≡ true
unfolding is_of_type
typed_object body h = first (is_object body) _ h
  where
    first : (a b : Bool) → (a && b) ≡ true → a ≡ true
    first true b h = refl
    first false b h = h

-- ---- a body with the same fields

kept_typed : (tree made : Data) → KeepsFields tree made → is_of_type Cds made ≡ is_of_type Cds tree
unfolding is_of_type
kept_typed tree made keeps = λ i. keeps.object i && bytes_eq (given_or [] (text_by (codes "@type") tree made (keeps.fields (codes "@type") keeps_own_type) i)) (type_url Cds)

kept_named : (name : List ℕ) (tree made : Data) → KeepsFields tree made → breaks_v3 Cds name made ≡ breaks_v3 Cds name tree
unfolding breaks_v3
kept_named name tree made keeps = ap (differs name) (text_by (codes "name") tree made (keeps.fields (codes "name") keeps_name))

kept_own : (name : List ℕ) (ttl : Found Span) (tree made : Data) → KeepsFields tree made → own_broken Cds name ttl made ≡ own_broken Cds name ttl tree
kept_own name ttl tree made keeps = λ i. record none_broken {
  v1 = not (kept_typed tree made keeps i);
  v2 = breaks_v2 name;
  v3 = kept_named name tree made keeps i;
  v6 = is_wrong ttl;
  v25 = is_not_positive ttl;
}

-- a body that waits, of a cluster that a tree of the same fields is
waits_good : (profile : Profile) (name service : List ℕ) (ttl : Found Span) (body tree : Data) (cluster : Cluster) → KeepsFields tree (waiting_body service body) → is_object body ≡ true
    → has_custom_type tree ≡ false → 1 ≤ length service → nat_lt MAX_NAME_BYTES (length service) ≡ false → IsGood profile name ttl tree cluster
    → IsGood profile name ttl (waiting_body service body) (waiting_cluster profile service body cluster)
waits_good profile name service ttl body tree cluster keeps is none some short good = record {
  typed = kept_typed tree (waiting_body service body) keeps ∙ good.typed;
  own = ap least_of (kept_own name ttl tree (waiting_body service body) keeps) ∙ good.own;
  reads = waits_read profile service body tree cluster is keeps none some short good.reads;
}

-- ---- private names

some_by : (b : Bool) (d : ℕ) (acc more : List ℕ) → 1 ≤ length more → 1 ≤ length (cond b (d ∷ acc) more)
some_by true d acc more some = omega arith
some_by false d acc more some = some

some_digits : (k base n : ℕ) (upper : Bool) (acc : List ℕ) → 1 ≤ length acc → 1 ≤ length (digits_onto k base upper n acc)
some_digits zero base n upper acc some = some
some_digits (suc k) base n upper acc some =
    some_by (n / base == 0) (digit_glyph upper (n % base)) acc _ (some_digits k base (n / base) upper (digit_glyph upper (n % base) ∷ acc) (omega arith))

first_digit : (k base n : ℕ) (upper : Bool) → 1 ≤ length (digits_onto (suc k) base upper n [])
first_digit k base n upper = some_by (n / base == 0) (digit_glyph upper (n % base)) [] _ (some_digits k base (n / base) upper (digit_glyph upper (n % base) ∷ []) (omega arith))

few_by : (b : Bool) (k d : ℕ) (acc more : List ℕ) → length more ≤ k + suc (length acc) → length (cond b (d ∷ acc) more) ≤ suc k + length acc
few_by true k d acc more few = omega arith
few_by false k d acc more few = omega arith

few_digits : (k base n : ℕ) (upper : Bool) (acc : List ℕ) → length (digits_onto k base upper n acc) ≤ k + length acc
few_digits zero base n upper acc = omega arith
few_digits (suc k) base n upper acc =
    few_by (n / base == 0) k (digit_glyph upper (n % base)) acc _ (few_digits k base (n / base) upper (digit_glyph upper (n % base) ∷ acc))

some_decimal : (n : ℕ) → 1 ≤ length (decimal n)
unfolding digits
some_decimal n = first_digit 63 10 n false

few_decimal : (n : ℕ) → length (decimal n) ≤ 64
unfolding digits
few_decimal n = few_digits 64 10 n false []

pub some_name : (prefix : List ℕ) (place : ℕ) → 1 ≤ length (private_name prefix place)
some_name prefix place = omega (arith, length-append prefix (decimal (place + 1)), some_decimal (place + 1))

short_name : (prefix : List ℕ) (place : ℕ) → IsShortPrefix prefix → nat_lt MAX_NAME_BYTES (length (private_name prefix place)) ≡ false
short_name prefix place short = by_le (omega (arith, length-append prefix (decimal (place + 1)), few_decimal (place + 1), short))
  where
    by_le : length (private_name prefix place) ≤ MAX_NAME_BYTES → nat_lt MAX_NAME_BYTES (length (private_name prefix place)) ≡ false
    by_le h = grind (arith, nat_tests)

-- ---- the resource

-- a resource with another body
other_entry : (field : List ℕ) (body entry : Data) → IsOther field (codes "resource") → field_of field (with_value (codes "resource") body entry) ≡ field_of field entry
other_entry field body entry is = field_with_other field (codes "resource") body entry is

entry_object : (entry : Data) → is_object (body_in entry) ≡ true → is_object entry ≡ true
entry_object null h = h
entry_object (boolean b) h = h
entry_object (number n) h = h
entry_object (string s) h = h
entry_object (array ds) h = h
entry_object (object ms) h = refl

object_there : (value : Data) → is_object value ≡ true → value_or_absent (present_member (Some value)) ≡ Given value
object_there null h = absurd (true≢false (sym h))
object_there (boolean b) h = absurd (true≢false (sym h))
object_there (number n) h = absurd (true≢false (sym h))
object_there (string s) h = absurd (true≢false (sym h))
object_there (array ds) h = absurd (true≢false (sym h))
object_there (object ms) h = refl

one_spelling : bytes_eq (camel_of (codes "resource")) (codes "resource") ≡ true
unfolding camel_of
one_spelling = refl

keeps_entry_name : IsOther (codes "name") (codes "resource")
unfolding camel_of
keeps_entry_name = record { plain = refl; camel = refl }

keeps_version : IsOther (codes "version") (codes "resource")
unfolding camel_of
keeps_version = record { plain = refl; camel = refl }

keeps_ttl : IsOther (codes "ttl") (codes "resource")
unfolding camel_of
keeps_ttl = record { plain = refl; camel = refl }

pub kept_entry_name : (body entry : Data) → entry_name (with_value (codes "resource") body entry) ≡ entry_name entry
kept_entry_name body entry = ap (given_or []) (text_by (codes "name") entry (with_value (codes "resource") body entry) (field_with_other (codes "name") (codes "resource") body entry keeps_entry_name))

kept_ttl : (body entry : Data) → ttl_of (with_value (codes "resource") body entry) ≡ ttl_of entry
unfolding ttl_of
kept_ttl body entry = duration_by (codes "ttl") entry (with_value (codes "resource") body entry) (field_with_other (codes "ttl") (codes "resource") body entry keeps_ttl)

-- an item with another body
item_with : (profile : Profile) (body entry : Data) (content : Content) → is_object entry ≡ true → is_object body ≡ true → resource_of profile Cds (entry_name entry) (ttl_of entry) body ≡ Good content
    → item_of profile Cds (with_value (codes "resource") body entry) ≡ record (item_of profile Cds entry) { body = Good content }
unfolding item_of body_of
item_with profile body entry content holds is good =
    let made : Data = with_value (codes "resource") body entry in
    let name : entry_name made ≡ entry_name entry = kept_entry_name body entry in
    let ttl : ttl_of made ≡ ttl_of entry = kept_ttl body entry in
    let version : given_or [] (text_of (codes "version") made) ≡ given_or [] (text_of (codes "version") entry) =
    ap (given_or []) (text_by (codes "version") entry made (field_with_other (codes "version") (codes "resource") body entry keeps_version)) in
    let there : field_of (codes "resource") made ≡ Given body = field_with (codes "resource") body entry one_spelling holds ∙ object_there body is in
    let read : body_of profile Cds (entry_name made) (ttl_of made) (field_of (codes "resource") made) ≡ Good content =
    (λ i. body_of profile Cds (name i) (ttl i) (there i)) ∙ good in
    λ i. record { name = name i; version = version i; ttl = is_positive (ttl i); body = read i }

-- the body of a good item is that of its resource
read_inside : (found : Option Data) → inside (value_or_absent (present_member found)) ≡ unwrap_or found null
read_inside None = refl
read_inside (Some null) = refl
read_inside (Some (boolean b)) = refl
read_inside (Some (number n)) = refl
read_inside (Some (string s)) = refl
read_inside (Some (array ds)) = refl
read_inside (Some (object ms)) = refl

field_inside : (entry : Data) → inside (field_of (codes "resource") entry) ≡ body_in entry
unfolding field_of camel_of
field_inside entry = read_inside (get (codes "resource") entry)

not_beat : (b : Bool) (body : Body) (content : Content) → cond b Beat body ≡ Good content → body ≡ Good content
not_beat true body content h = absurd (cc)
not_beat false body content h = h

pub item_good : (profile : Profile) (entry : Data) (content : Content) → (item_of profile Cds entry).body ≡ Good content → body_read profile entry (body_in entry) ≡ Good content
unfolding item_of body_of
item_good profile entry content h =
    let resource : Found Data = field_of (codes "resource") entry in
    ap (λ (body : Data). resource_of profile Cds (entry_name entry) (ttl_of entry) body) (sym (field_inside entry))
    ∙ not_beat (is_heartbeat (entry_name entry) (ttl_of entry) resource) (resource_of profile Cds (entry_name entry) (ttl_of entry) (inside resource)) content h

-- a good body reads as its cluster
pub good_reads : (profile : Profile) (entry : Data) (cluster : Cluster) → body_read profile entry (body_in entry) ≡ Good (a_cluster cluster)
    → cluster_reading profile (body_in entry) ≡ Ok cluster
good_reads profile entry cluster good = (good_by profile (entry_name entry) (ttl_of entry) (body_in entry) cluster good).reads

-- it is a cluster
pub item_cluster : (profile : Profile) (entry : Data) (content : Content) → (item_of profile Cds entry).body ≡ Good content → (cluster : Cluster) × (content ≡ a_cluster cluster)
item_cluster profile entry content h = good_cluster profile (entry_name entry) (ttl_of entry) (body_in entry) content (item_good profile entry content h)

pub keeps_itself : (tree : Data) → KeepsFields tree tree
keeps_itself tree = record { object = refl; fields = λ field is. refl }

-- the item of a resource whose body waits, where a body of the same fields is a good cluster
pub item_waits : (profile : Profile) (prefix : List ℕ) (place : ℕ) (entry tree : Data) (cluster : Cluster) → IsShortPrefix prefix → KeepsFields (body_in entry) tree
    → has_custom_type (body_in entry) ≡ false → IsClusterWith profile entry cluster tree
    → item_of profile Cds (waiting_entry prefix (Some place) entry) ≡ waiting_item profile prefix place cluster entry
item_waits profile prefix place entry tree cluster short keeps none good =
    let service : List ℕ = private_name prefix place in
    let body : Data = body_in entry in
    let own : Cluster = good.own in
    let is : IsGood profile (entry_name entry) (ttl_of entry) tree own = good_by profile (entry_name entry) (ttl_of entry) tree own good.reads in
    let object : is_object body ≡ true = sym keeps.object ∙ typed_object tree is.typed in
    let waits : KeepsFields tree (waiting_body service body) = keeps_both body tree (waiting_body service body) keeps (waiting_keeps service body) in
    let made : IsGood profile (entry_name entry) (ttl_of entry) (waiting_body service body) (waiting_cluster profile service body cluster) =
    subst (λ (c : Cluster). IsGood profile (entry_name entry) (ttl_of entry) (waiting_body service body) (waiting_cluster profile service body c)) good.same
    (waits_good profile (entry_name entry) service (ttl_of entry) body tree own waits object (kept_custom body tree keeps ∙ none) (some_name prefix place)
    (short_name prefix place short) is) in
    item_with profile (waiting_body service body) entry (a_cluster (waiting_cluster profile service body cluster)) (entry_object entry object)
    ((waiting_keeps service body).object ∙ object)
    (by_good profile (entry_name entry) (ttl_of entry) (waiting_body service body) (waiting_cluster profile service body cluster) made)
