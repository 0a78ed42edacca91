use Rattle.std.proofs.Common.{◌∙◌, ap, pos, w64}
use Rattle.std.proofs.lemmas.Int.{to_z-of_z}
use Rattle.ev_types.specs.declared.matchers.HeaderTest.TheVariants.{Range}
use Rattle.ev_tree.specs.Forms.{is_wrong, given_or}
use Rattle.ev_tree.proofs.Outcomes.{or_same}
use Rattle.ev_route_json.specs.Conditions.{range_of, range_broken}
use Rattle.ev_route_json.proofs.header_matchers.inspect_range.Goals as goal

pub returns-clause-value : goal.returns-clause-value
unfolding range_of
returns-clause-value c =
    let start = to_z-of_z w64 c.given_or.result (record { sfits = c.given_or.type_inv }) ∙ c.given_or.ensures ∙ ap (given_or (pos 0)) c.in_ok-start.ensures in
    let end = to_z-of_z w64 c.given_or-2.result (record { sfits = c.given_or-2.type_inv }) ∙ c.given_or-2.ensures ∙ ap (given_or (pos 0)) c.in_ok-end.ensures in
    λ i. Range (start i) (end i)

pub returns-clause-broken : goal.returns-clause-broken
unfolding range_broken
returns-clause-broken c = λ i. record (c.none.ensures i) {
  v6 = or_same (c.is_wrong.ensures ∙ ap is_wrong c.in_ok-start.ensures) (c.is_wrong-2.ensures ∙ ap is_wrong c.in_ok-end.ensures) i;
}
