-- Where both lists have their forms, the elements decide; the items that were read are those of the elements.
use Rattle.std.proofs.Common.{◌∙◌, sym, ap, subst, map, List}
use Rattle.std.specs.List.{All, list_all}
use Rattle.serde_json.specs.View.{view}
use Rattle.ev_types.specs.Items.{ItemParts, IsBodyOf}
use Rattle.ev_tree.specs.Forms.{listed, text_in}
use Rattle.ev_wire.specs.Responses.{has_lists, is_entry, item_of, entries_of, removed_of}
use Rattle.ev_wire.proofs.ResponseLemmas.{reads_passed, given_if-some, known_lists, known_response, items-kind}
use Rattle.ev_wire.proofs.responses.read_lists.Goals as goal

pub returns-in_err-items : goal.returns-in_err-items
unfolding entries_of
returns-in_err-items c =
    let tree = view c.args.value.now in
    let elements = c.elements.ensures ∙ ap listed c.in_ok-resources.ensures.value in
    let decided = known_lists tree c.is_wrong.result c.is_wrong-2.result
    (c.is_wrong.ensures ∙ c.in_ok-resources.ensures.wrong) (c.is_wrong-2.ensures ∙ c.in_ok-removed.ensures.wrong) c.if-is_wrong.false in
    reads_passed c.from_residual-in_err-items.result c.in_err-items.field-0.0 _ (has_lists tree) _ _ c.from_residual-in_err-items.ensures.1
    (decided ∙ ap (list_all is_entry) (sym elements)) c.in_err-items.ensures

pub invariant_of-result : goal.invariant_of-result
invariant_of-result c =
    let found = given_if-some _ _ c.in_ok-items.items c.in_ok-items.ensures in
    let P : List ItemParts → Type 0 = All (λ (item : ItemParts). IsBodyOf c.args.kind item.body) in
    record { typed = subst P found.1 (items-kind c.args.profile c.args.kind _); answerable = c.requires }

pub returns : goal.returns
unfolding entries_of removed_of
returns c =
    let tree = view c.args.value.now in
    let elements = c.elements.ensures ∙ ap listed c.in_ok-resources.ensures.value in
    let gone = c.elements-2.ensures ∙ ap listed c.in_ok-removed.ensures.value in
    let decided = known_lists tree c.is_wrong.result c.is_wrong-2.result
    (c.is_wrong.ensures ∙ c.in_ok-resources.ensures.wrong) (c.is_wrong-2.ensures ∙ c.in_ok-removed.ensures.wrong) c.if-is_wrong.false in
    let found = given_if-some _ _ c.in_ok-items.items c.in_ok-items.ensures in
    known_response c.args.profile c.args.kind c.args.nonce tree c.in_ok-items.items c.in_ok-removed-2.removed
    (decided ∙ ap (list_all is_entry) (sym elements) ∙ found.0)
    (ap (map (item_of c.args.profile c.args.kind)) (sym elements) ∙ found.1)
    (ap (map text_in) (sym gone) ∙ sym c.in_ok-removed-2.ensures)
