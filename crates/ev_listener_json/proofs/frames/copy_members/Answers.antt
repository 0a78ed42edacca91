use Rattle.std.proofs.Common.{◌≡◌, [], ◌∷◌, ◌++◌, cond, string_bytes, sym, ap, ◌∙◌, subst, append_assoc}
use Rattle.std.specs.List.Sorted.{IsStrictlySortedBy}
use Rattle.std.specs.Map.{keys_of}
use Rattle.std.specs.String.{string_cmp}
use Rattle.serde_json.specs.Data.{Members, put}
use Rattle.serde_json.specs.View.{view}
use Rattle.serde_json.proofs.Views.{Entry}
use Rattle.ev_tree.specs.Floats.{whole}
use Rattle.ev_listener_json.specs.Frames.{is_of_chains}
use Rattle.ev_listener_json.proofs.FrameLemmas.{frame_last}
use Rattle.ev_listener_json.proofs.frames.copy_members.Goals as goal

pub loop-key-preserved : goal.loop-key-preserved
loop-key-preserved c =
    let l = c.loop-key in
    let done = l.invariant.0 in
    let e : Entry = (c.in-Some.key.now, c.in-Some.member.now) in
    let left = c.next.new.self in
    let all : c.args.members.now.entries ≡ done ++ e ∷ left = l.invariant.1 ∙ ap (λ es. done ++ es) c.in-Some.ensures.steps in
    let last = frame_last done e left (subst (λ es. IsStrictlySortedBy string_cmp (keys_of es)) all c.iter-key-items.ensures.ordered) in
    let put_here = λ (ms : Members). cond (is_of_chains (string_bytes e.0)) ms (put (string_bytes e.0) (whole (view e.1)) ms) in
    (done ++ e ∷ [], all ∙ sym (append_assoc done (e ∷ []) left), c.in_ok-put_copy.ensures ∙ ap put_here l.invariant.2 ∙ last)
