use Rattle.std.proofs.Common.{◌∙◌, ap, [], map, length, nat_eq}
use Rattle.ev_tree.specs.Forms.{given_or, listed, text_in}
use Rattle.ev_tree.specs.Broken.{either_broken, any_broken}
use Rattle.ev_tree.proofs.Outcomes.{or_same}
use Rattle.ev_route_json.specs.Routes.{route_of, route_broken}
use Rattle.ev_route_json.specs.Tables.{virtual_host_of, virtual_host_name, domains_of, routes_of, virtual_host_broken}
use Rattle.ev_route_json.proofs.tables.inspect_virtual_host.Goals as goal

pub returns-clause-value : goal.returns-clause-value
unfolding virtual_host_of virtual_host_name domains_of routes_of
returns-clause-value c =
    let text = c.text_or_empty-text.ensures ∙ ap (given_or []) c.in_ok-name.ensures.value in
    let domains = c.from_vec-domain_texts.ensures.elements ∙ c.in_ok-copy_texts.ensures ∙ ap (map text_in) (c.elements.ensures ∙ ap listed c.in_ok-domains.ensures.value) in
    let routes = c.elements-2.ensures ∙ ap listed c.in_ok-routes.ensures.value in
    λ i. record {
      name = (c.in_ok-new.ensures.bytes ∙ text) i;
      domains = domains i;
      routes = (c.from_vec.ensures.elements ∙ c.in_ok-below.ensures.values ∙ ap (map (route_of c.args.profile)) routes) i;
    }

pub returns-clause-broken : goal.returns-clause-broken
unfolding virtual_host_name domains_of routes_of virtual_host_broken
returns-clause-broken c =
    let text = c.text_or_empty-text.ensures ∙ ap (given_or []) c.in_ok-name.ensures.value in
    let domains = c.from_vec-domain_texts.ensures.elements ∙ c.in_ok-copy_texts.ensures ∙ ap (map text_in) (c.elements.ensures ∙ ap listed c.in_ok-domains.ensures.value) in
    let routes = c.elements-2.ensures ∙ ap listed c.in_ok-routes.ensures.value in
    let below = c.in_ok-below.ensures.broken ∙ ap (any_broken (route_broken c.args.profile)) routes in
    c.or.ensures ∙ (λ i. either_broken (below i) (record (c.none.ensures i) {
      v6 = or_same (or_same
          (c.is_wrong.ensures ∙ c.in_ok-name.ensures.wrong)
          (c.is_wrong-2.ensures ∙ c.in_ok-domains.ensures.wrong))
          (c.is_wrong-3.ensures ∙ c.in_ok-routes.ensures.wrong) i;
      v19 = or_same
          (c.is_empty.ensures ∙ ap (λ s. nat_eq (length s) 0) text)
          (ap (λ n. nat_eq n 0) (c.len.ensures.count ∙ ap length domains)) i;
    }))
