-- Without a head there is no response; with it the type says whether the lists are looked at.
use Rattle.std.proofs.Common.{◌∙◌, sym, ap, Option}
use Rattle.serde_json.specs.View.{view}
use Rattle.ev_types.specs.declared.contents.Kind.{Kind}
use Rattle.ev_wire.specs.Responses.{has_lists_of, parts_of, given_if, response_of}
use Rattle.ev_wire.proofs.ResponseLemmas.{reads_same, given_if-some, given_if-none, no_head, head_answerable, known_head, unread_response}
use Rattle.ev_wire.proofs.responses.read_response.Goals as goal

pub returns-in_default : goal.returns-in_default
returns-in_default c = no_head c.args.profile (view c.args.value.now) (given_if-none _ _ (sym c.in_ok-head.ensures ∙ c.in_default.is))

pub returns-in-Some-kind : goal.returns-in-Some-kind
returns-in-Some-kind c =
    let tree = view c.args.value.now in
    let found = given_if-some _ _ c.in-Some.head (sym c.in_ok-head.ensures ∙ c.in-Some.is) in
    reads_same c.read_lists.result _ (response_of c.args.profile tree)
    (known_head c.args.profile tree c.in-Some.head found.0 found.1
    ∙ ap (λ (kind : Option Kind). given_if (has_lists_of kind tree) (parts_of c.args.profile kind c.in-Some.head.nonce tree)) c.in-Some-kind.is)
    c.read_lists.ensures

pub read_lists-requires : goal.read_lists-requires
read_lists-requires c =
    let found = given_if-some _ _ c.in-Some.head (sym c.in_ok-head.ensures ∙ c.in-Some.is) in
    head_answerable c.args.profile (view c.args.value.now) c.in-Some.head found.0 found.1

pub invariant_of-result : goal.invariant_of-result
invariant_of-result c =
    let found = given_if-some _ _ c.in-Some.head (sym c.in_ok-head.ensures ∙ c.in-Some.is) in
    record {
      typed = (c.new.ensures.empty, c.new-in-None.ensures.empty);
      answerable = head_answerable c.args.profile (view c.args.value.now) c.in-Some.head found.0 found.1;
    }

pub returns-in-None : goal.returns-in-None
returns-in-None c =
    let tree = view c.args.value.now in
    let found = given_if-some _ _ c.in-Some.head (sym c.in_ok-head.ensures ∙ c.in-Some.is) in
    known_head c.args.profile tree c.in-Some.head found.0 found.1
    ∙ ap (λ (kind : Option Kind). given_if (has_lists_of kind tree) (parts_of c.args.profile kind c.in-Some.head.nonce tree)) c.in-None.is
    ∙ unread_response c.in-Some.head.nonce c.new.result c.new-in-None.result c.new.ensures.empty c.new-in-None.ensures.empty
