use Rattle.std.proofs.Common.{◌≡◌, IfOk, subst}
use Rattle.serde_json.specs.Data.{Data}
use Rattle.serde_json.specs.View.{view}
use Rattle.serde_json.specs.declared.value.Value.{Value}
use Rattle.ev_tls.specs.References.{endpoints_in}
use Rattle.ev_tls.proofs.references.own_endpoints.Goals as goal

pub returns : goal.returns
returns c = subst (λ (d : Data). IfOk c.endpoints_in.result (λ (v : Value). view v ≡ endpoints_in d)) c.in_ok-load_assignment.ensures c.endpoints_in.ensures
