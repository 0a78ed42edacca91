use Rattle.std.proofs.Common.{◌≡◌, ◌∙◌, ◌-◌, length, sym, ap}
use Rattle.std.proofs.lemmas.List.{length-map}
use lib.Dec.{leb}
use Rattle.serde_json.specs.View.{view}
use Rattle.ev_tree.specs.Forms.{listed}
use Rattle.ev_listener_json.specs.Chains.{chains_of}
use Rattle.ev_chain_lines.proofs.TextLemmas.{room_is}
use Rattle.ev_chain_lines.proofs.texts.has_room.Goals as goal

pub returns : goal.returns
unfolding chains_of
returns c =
    let count : length c.elements-count.result.now ≡ length (chains_of (view c.args.message.now)) =
    sym (length-map c.elements-count.result.now view) ∙ ap length (c.elements-count.ensures ∙ ap listed c.in_ok-chains.ensures.value) in
    let is = room_is (length (chains_of (view c.args.message.now))) c.args.made c.ranges.made.fits in
    (λ h. is.0 (ap (λ n. leb n (4294967295 - c.args.made)) (sym count) ∙ h), λ lt. ap (λ n. leb n (4294967295 - c.args.made)) count ∙ is.1 lt)
