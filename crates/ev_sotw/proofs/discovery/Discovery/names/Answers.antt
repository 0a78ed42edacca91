use Rattle.std.proofs.Common.{◌∙◌, List, ℕ, map, take, sym, ap}
use Rattle.serde_json.specs.View.{view}
use Rattle.ev_model.specs.Watching.{sorted_names}
use Rattle.ev_sotw.specs.Names.{with_name}
use Rattle.ev_sotw.specs.Discovery.{resource_name}
use Rattle.ev_sotw.proofs.NameLemmas.{sorted_push, mapped_more}
use Rattle.ev_sotw.proofs.discovery.Discovery.names.Goals as goal

pub loop-resource-preserved : goal.loop-resource-preserved
loop-resource-preserved c =
    let resources = c.args.self.now.resources.now in
    let i : ℕ = c.loop-resource.resource-index in
    let front : List (List ℕ) = map (resource_name c.args.kind) (map view (take i resources)) in
    c.in_ok-insert.ensures.ok
    ∙ (λ j. with_name (c.in_ok-resource_name.ensures j) (c.loop-resource.invariant j))
    ∙ sorted_push (resource_name c.args.kind (view c.resource-item.result)) front
    ∙ ap sorted_names (sym (mapped_more (resource_name c.args.kind) view resources i c.resource-item.result c.loop-resource-test.true c.resource-item.is))
