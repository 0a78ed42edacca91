-- A message is a response of the state of the world where its head is one's, and its parts are those of its type.
use Rattle.std.proofs.Common.{◌==◌, ◌∙◌, [], length, not, ap}
use Rattle.serde_json.specs.View.{view}
use Rattle.ev_tree.specs.Forms.{given_or}
use Rattle.ev_tree.proofs.Outcomes.{and_same, not_same}
use Rattle.ev_wire.specs.Kinds.{kind_with}
use Rattle.ev_wire.specs.Responses.{has_head, response_kind, nonce_of}
use Rattle.ev_sotw.specs.Discovery.{has_parts_of}
use Rattle.ev_sotw.proofs.discovery.is_discovery.Goals as goal

pub returns : goal.returns
unfolding has_head response_kind nonce_of
returns c =
    let tree = view c.args.message.now in
    let url = c.text_or_empty.ensures ∙ ap (given_or []) c.in_ok-url.ensures.value in
    let kind = c.kind_with-kind.ensures ∙ ap (kind_with c.args.profile) url in
    let head = and_same (and_same c.is_object.ensures (not_same (c.is_wrong.ensures ∙ c.in_ok-url.ensures.wrong))) (ap (λ s. not (length s == 0)) c.in_ok-nonce.ensures) in
    and_same head (c.in_ok-has_parts.ensures ∙ ap (λ kind. has_parts_of kind tree) kind)
