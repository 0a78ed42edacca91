use Rattle.std.proofs.Common.{◌≡◌, ◌∙◌, true, Some, sym, ap, arith}
use Rattle.serde_json.specs.View.{view}
use Rattle.ev_tree.specs.Forms.{listed}
use Rattle.ev_wire.specs.Kinds.{kind_with}
use Rattle.ev_wire.specs.Responses.{given_if, response_kind, nonce_of}
use Rattle.ev_sotw.specs.Discovery.{is_discovery, parts_in}
use Rattle.ev_sotw.proofs.discovery.read_discovery.Goals as goal

pub returns : goal.returns
unfolding response_kind nonce_of
returns c =
    let tree = view c.args.message.now in
    let is : is_discovery c.args.profile tree ≡ true = grind (arith, c.in_ok-is_discovery.ensures, c.if-not-branch.false) in
    let list = c.elements.ensures ∙ ap listed c.in_ok-resources.ensures.value in
    (λ i. Some (record {
      kind = (c.kind_with.ensures ∙ ap (kind_with c.args.profile) c.in_ok-url.ensures) i;
      url = c.in_ok-url.ensures i;
      nonce = c.in_ok-nonce.ensures i;
      version = c.in_ok-version.ensures i;
      resources = list i;
    }))
    ∙ sym (ap (λ b. given_if b (parts_in c.args.profile tree)) is)
