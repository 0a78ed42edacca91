use Rattle.std.proofs.Common.{◌≡◌, IfOk, codes, ap, ◌∙◌, subst}
use Rattle.serde_json.specs.Data.{Data, string}
use Rattle.serde_json.specs.View.{view}
use Rattle.serde_json.specs.declared.value.Value.{Value}
use Rattle.ev_expand.specs.Editing.{with_value}
use Rattle.ev_expand.specs.Guarding.{waiting_config, stripped_body, waiting_body}
use Rattle.ev_expand.proofs.guarding.waiting_body.Goals as goal

pub returns : goal.returns
returns c =
    let config : view c.in_ok-waiting_config.field-0 ≡ waiting_config c.args.name.now = c.in_ok-waiting_config.ensures in
    let typed : view c.in_ok-body.body ≡ with_value (codes "type") (string (codes "EDS")) (stripped_body (view c.args.body.now)) =
    c.in_ok-body.ensures ∙ ap (with_value (codes "type") (string (codes "EDS"))) c.in_ok-stripped_body.ensures in
    let made : with_value (codes "edsClusterConfig") (view c.in_ok-waiting_config.field-0) (view c.in_ok-body.body) ≡ waiting_body c.args.name.now (view c.args.body.now) =
    λ i. with_value (codes "edsClusterConfig") (config i) (typed i) in
    subst (λ (d : Data). IfOk c.with_value.result (λ (v : Value). view v ≡ d)) made c.with_value.ensures
