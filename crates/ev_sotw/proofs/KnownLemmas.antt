-- What requests change of what is known of a type, one after another.
use Rattle.std.proofs.Common.{◌≡◌, ◌∙◌, ℕ, ◌+◌, ◌<◌, false, cond, List, [], ◌∷◌, ◌++◌, length, take, get_or, sym, ap}
use Rattle.std.specs.List.{flat_map}
use Rattle.std.proofs.lemmas.List.{append-nil, take_more}
use Rattle.std.proofs.lemmas.Grind.{flat_map-append}
use Rattle.ev_types.specs.Kinds.{kind_same}
use Rattle.ev_types.specs.declared.contents.Kind.{Kind}
use Rattle.ev_types.specs.declared.contents.Request.{Request}
use Rattle.ev_model.specs.Requests.{other_than}
use Rattle.ev_sotw.specs.Names.{IsInOrder, with_names}
use Rattle.ev_sotw.proofs.NameSetLemmas.{sorted_same, with_more, other_none, other_more}
use Rattle.ev_sotw.specs.Stated.{Known, asked_by, given_up_by}
use Rattle.ev_sotw.specs.Follows.{without_given_up_by, without_given_up, with_asked_by, with_asked}

abbrev with : Known → List (List ℕ) → Known
with known names = record known { names = names }

pub drop_none : (known : Known) → known ≡ with known (other_than [] known.names)
drop_none known = λ i. record { version = known.version; nonce = known.nonce; names = sym (other_none known.names) i }

pub put_none : (known : Known) → IsInOrder known.names → known ≡ with known (with_names [] known.names)
put_none known ordered = λ i. record { version = known.version; nonce = known.nonce; names = sym (sorted_same known.names ordered) i }

pub drop_other : (kind : Kind) (request : Request) (known : Known) → kind_same request.kind kind ≡ false → known ≡ without_given_up_by kind request known
drop_other kind request known other =
    drop_none known ∙ (λ i. with known (other_than (cond (sym other i) request.unsubscribe []) known.names))

pub put_other : (kind : Kind) (request : Request) (known : Known) → kind_same request.kind kind ≡ false → IsInOrder known.names → known ≡ with_asked_by kind request known
put_other kind request known other ordered =
    put_none known ordered ∙ (λ i. with known (with_names (cond (sym other i) request.subscribe []) known.names))

-- what is gathered of the requests up to the next
gathered_more : (f : Request → List (List ℕ)) (requests : List Request) (i : ℕ) (request : Request) → i < length requests → request ≡ get_or requests i request
    → flat_map f (take i requests) ++ f request ≡ flat_map f (take (i + 1) requests)
gathered_more f requests i request within is =
    ap (λ r. flat_map f (take i requests) ++ f r) is
    ∙ ap (λ ns. flat_map f (take i requests) ++ ns) (sym (append-nil (f (get_or requests i request))))
    ∙ sym (flat_map-append f (take i requests) (get_or requests i request ∷ []))
    ∙ ap (flat_map f) (sym (take_more requests i request within))

pub drop_next : (kind : Kind) (requests : List Request) (known : Known) (i : ℕ) (request : Request) → i < length requests → request ≡ get_or requests i request
    → without_given_up_by kind request (without_given_up kind (take i requests) known) ≡ without_given_up kind (take (i + 1) requests) known
drop_next kind requests known i request within is =
    ap (with known)
    (other_more (given_up_by kind request) (flat_map (given_up_by kind) (take i requests)) known.names
    ∙ ap (λ gone. other_than gone known.names) (gathered_more (given_up_by kind) requests i request within is))

pub put_next : (kind : Kind) (requests : List Request) (known : Known) (i : ℕ) (request : Request) → i < length requests → request ≡ get_or requests i request
    → with_asked_by kind request (with_asked kind (take i requests) known) ≡ with_asked kind (take (i + 1) requests) known
put_next kind requests known i request within is =
    ap (with known)
    (with_more (asked_by kind request) (flat_map (asked_by kind) (take i requests)) known.names
    ∙ ap (λ new. with_names new known.names) (gathered_more (asked_by kind) requests i request within is))
