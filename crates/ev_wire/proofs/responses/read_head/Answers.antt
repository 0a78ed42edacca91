use Rattle.std.proofs.Common.{◌≡◌, ◌∙◌, ◌==◌, true, not, Some, [], length, ap, sym}
use Rattle.serde_json.specs.View.{view}
use Rattle.ev_tree.specs.Forms.{given_or}
use Rattle.ev_tree.proofs.Outcomes.{and_same, not_same}
use Rattle.ev_wire.specs.Kinds.{kind_with}
use Rattle.ev_wire.specs.Responses.{given_if, has_head, response_kind, nonce_of}
use Rattle.ev_wire.proofs.responses.read_head.Goals as goal

pub returns : goal.returns
unfolding has_head response_kind nonce_of
returns c =
    let tree = view c.args.value.now in
    let url = c.text_or_empty.ensures ∙ ap (given_or []) c.in_ok-url.ensures.value in
    let nonce = c.text_or_empty-nonce.ensures ∙ ap (given_or []) c.in_ok-nonce.ensures.value in
    let same = and_same (and_same c.is_object.ensures (not_same (c.is_wrong.ensures ∙ c.in_ok-url.ensures.wrong))) (ap (λ s. not (length s == 0)) nonce) in
    let head : has_head tree ≡ true = sym same ∙ c.if-not-is_object-is_wrong.false in
    (λ i. Some (record { kind = (c.kind_with.ensures ∙ ap (kind_with c.args.profile) url) i; nonce = (c.in_ok-new.ensures.bytes ∙ nonce) i }))
    ∙ ap (λ b. given_if b (record { kind = response_kind c.args.profile tree; nonce = nonce_of tree })) (sym head)
