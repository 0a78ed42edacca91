use Rattle.std.proofs.Common.{◌++◌, List, ℕ, map, sym, ap, ◌∙◌}
use Rattle.std.proofs.lemmas.Result.{IfOk-weaker}
use Rattle.std.proofs.lemmas.List.{append-nil}
use Rattle.ev_types.specs.declared.routes.VirtualHost.{VirtualHost}
use Rattle.ev_model.specs.Choice.{HostDomain}
use Rattle.ev_routes.specs.Domains.{lower_domain}
use Rattle.ev_routes.proofs.domain_lists.with_host.Goals as goal

pub returns : goal.returns
returns c =
    let made : VirtualHost → List HostDomain = λ host. map (λ (text : List ℕ). lower_domain text host) host.domains in
    let host = c.in_ok-host.ensures in
    IfOk-weaker c.with_domains.result _ _
    (λ new is. is ∙ ap (λ h. c.args.domains ++ made h) host ∙ ap (λ ds. c.args.domains ++ ds) (sym (append-nil (made _))))
    c.with_domains.ensures
