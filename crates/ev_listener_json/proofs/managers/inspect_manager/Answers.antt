use Rattle.std.proofs.Common.{◌∙◌, ap, [], codes, Some}
use Rattle.ev_tree.specs.Forms.{is_wrong, given_or, inside, text_of, object_of}
use Rattle.ev_tree.specs.Rules.{is_name}
use Rattle.ev_tree.specs.Broken.{either_broken, broken_where}
use Rattle.ev_tree.specs.Sources.{source_broken_in, source_is_limited}
use Rattle.ev_tree.proofs.Outcomes.{or_same, and_same, not_same}
use Rattle.ev_route_json.specs.Tables.{table_of, table_broken}
use Rattle.ev_listener_json.specs.Managers.{rds_of, rds_source_of, route_name_of, inline_of, ways_are_bad, manager_serve, serve_with, manager_broken}
use Rattle.ev_listener_json.proofs.managers.inspect_manager.Goals as goal

pub returns-clause-value : goal.returns-clause-value
unfolding rds_of rds_source_of route_name_of inline_of manager_serve
returns-clause-value c =
    let asks = c.is_given-asks.ensures ∙ c.in_ok-rds.ensures.given in
    let rds = c.inner.ensures ∙ ap inside c.in_ok-rds.ensures.value in
    let rds_again = c.inner-3.ensures ∙ ap inside c.in_ok-rds.ensures.value in
    let source = c.inner-2.ensures ∙ ap inside (c.in_ok-source.ensures.value ∙ ap (object_of (codes "config_source")) rds) in
    let text = c.text_or_empty-text.ensures ∙ ap (given_or []) (c.in_ok-name.ensures.value ∙ ap (text_of (codes "route_config_name")) rds_again) in
    let limited = c.in_ok-from.ensures.limited ∙ ap source_is_limited source in
    let table = c.in_ok-table.ensures.value ∙ ap (table_of c.args.profile) (c.inner-4.ensures ∙ ap inside c.in_ok-inline.ensures.value) in
    let scoped = and_same c.is_envoy.ensures c.in_ok-scopes.ensures.given in
    ap Some (c.in_ok-serve.ensures ∙ (λ i. serve_with (asks i) (text i) (limited i) (scoped i) (table i)))

pub returns-clause-broken : goal.returns-clause-broken
unfolding rds_of rds_source_of route_name_of inline_of manager_broken
returns-clause-broken c =
    let asks = c.is_given-asks.ensures ∙ c.in_ok-rds.ensures.given in
    let rds = c.inner.ensures ∙ ap inside c.in_ok-rds.ensures.value in
    let rds_again = c.inner-3.ensures ∙ ap inside c.in_ok-rds.ensures.value in
    let source = c.inner-2.ensures ∙ ap inside (c.in_ok-source.ensures.value ∙ ap (object_of (codes "config_source")) rds) in
    let text = c.text_or_empty-text.ensures ∙ ap (given_or []) (c.in_ok-name.ensures.value ∙ ap (text_of (codes "route_config_name")) rds_again) in
    let wrong = c.in_ok-name.ensures.wrong ∙ ap (λ t. is_wrong (text_of (codes "route_config_name") t)) rds_again in
    let table = c.in_ok-table.ensures.broken ∙ ap (table_broken c.args.profile) (c.inner-4.ensures ∙ ap inside c.in_ok-inline.ensures.value) in
    let from = c.only_if.ensures ∙ (λ i. broken_where (asks i) ((c.in_ok-from.ensures.broken ∙ ap (source_broken_in c.args.profile) source) i)) in
    c.or-2.ensures ∙ (λ i. either_broken (table i) ((c.or.ensures ∙ (λ j. either_broken (from j) (record (c.none.ensures j) {
      v2 = and_same (and_same asks (not_same (c.is_wrong.ensures ∙ wrong))) (not_same (c.is_name.ensures ∙ ap is_name text)) j;
      v6 = or_same (or_same (or_same (or_same
          (c.is_wrong-2.ensures ∙ c.in_ok-rds.ensures.wrong)
          (c.is_wrong-3.ensures ∙ c.in_ok-source.ensures.wrong ∙ ap (λ t. is_wrong (object_of (codes "config_source") t)) rds))
          (c.is_wrong-4.ensures ∙ wrong))
          (c.is_wrong-5.ensures ∙ c.in_ok-inline.ensures.wrong))
          c.in_ok-scopes.ensures.wrong j;
      v18 = (c.are_ways_bad.ensures ∙ (λ k. ways_are_bad c.args.profile (asks k) ((c.is_given.ensures ∙ c.in_ok-inline.ensures.given) k) (c.in_ok-scopes.ensures.given k))) j;
    }))) i))
