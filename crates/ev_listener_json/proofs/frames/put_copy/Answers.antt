use Rattle.std.proofs.Common.{◌≡◌, ◌∙◌, Bool, cond, false, ap, sym, string_bytes}
use Rattle.serde_json.specs.Data.{put}
use Rattle.serde_json.specs.View.{view, members_view}
use Rattle.serde_json.proofs.Views.{members_view-insert_entry}
use Rattle.ev_tree.specs.Floats.{whole}
use Rattle.ev_listener_json.specs.Frames.{is_of_chains}
use Rattle.ev_listener_json.proofs.frames.put_copy.Goals as goal

pub returns : goal.returns
returns c =
    let old = members_view c.args.copies.now.entries in
    let name = string_bytes c.args.key.now in
    let named : string_bytes c.in_ok-name.name ≡ name = c.in_ok-name.ensures.cases in
    let kept : is_of_chains name ≡ false = sym (c.is_of_chains.ensures ∙ ap is_of_chains c.as_str.ensures.value) ∙ c.if-is_of_chains.false in
    ap members_view c.in_ok-insert.ensures.entries
    ∙ members_view-insert_entry c.args.copies.now.entries c.in_ok-name.name c.in_ok-whole_copy.field-0
    ∙ (λ i. put (named i) (c.in_ok-whole_copy.ensures i) old)
    ∙ ap (λ (b : Bool). cond b old (put name (whole (view c.args.member.now)) old)) (sym kept)
