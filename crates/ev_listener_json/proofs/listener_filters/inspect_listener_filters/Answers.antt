use Rattle.std.proofs.Common.{◌∙◌, ◌||◌, ap, sym, take}
use Rattle.std.specs.List.{list_any}
use Rattle.std.proofs.lemmas.List.{take_all}
use Rattle.std.proofs.lemmas.List.Folds.{list_any_more}
use Rattle.serde_json.specs.View.{view}
use Rattle.ev_tree.proofs.Unions.{broken_more, broken_all}
use Rattle.ev_listener_json.specs.ListenerFilters.{is_original_dst, listener_filter_broken}
use Rattle.ev_listener_json.proofs.Overlaps.{any_map}
use Rattle.ev_listener_json.proofs.listener_filters.inspect_listener_filters.Goals as goal

pub loop-filter-preserved : goal.loop-filter-preserved
loop-filter-preserved c =
    let filters = c.args.filters.now in
    let place = c.loop-filter.filter-index in
    record {
      restores = (λ i. c.loop-filter.invariant.restores i || c.in_ok-found.ensures.value i)
          ∙ sym (list_any_more (λ v. is_original_dst (view v)) filters place c.filter-item.result c.loop-filter-test.true
          ∙ ap (λ v. list_any (λ w. is_original_dst (view w)) (take place filters) || is_original_dst (view v)) (sym c.filter-item.is));
      broken = broken_more view listener_filter_broken filters place c.filter-item.result c.loop-filter.broken c.in_ok-found.found.broken c.or-broken.result
          c.loop-filter-test.true c.filter-item.is c.loop-filter.invariant.broken c.in_ok-found.ensures.broken c.or-broken.ensures;
    }

pub returns-clause-value : goal.returns-clause-value
returns-clause-value c =
    c.loop-filter.invariant.restores
    ∙ ap (list_any (λ v. is_original_dst (view v))) (take_all c.loop-filter.filter-index c.args.filters.now c.loop-filter-test.false)
    ∙ sym (any_map is_original_dst view c.args.filters.now)

pub returns-clause-broken : goal.returns-clause-broken
returns-clause-broken c =
    broken_all view listener_filter_broken c.args.filters.now c.loop-filter.filter-index c.loop-filter.broken c.loop-filter-test.false c.loop-filter.invariant.broken
