-- The members of a frame, one after another.
use Rattle.std.proofs.Common.{◌≡◌, ℕ, List, [], ◌∷◌, ◌++◌, Bool, true, false, cond, Less, Greater, string_bytes, string_cmp, nat_cmp, refl, ap, ◌∙◌}
use Rattle.std.proofs.lemmas.Cmp.{nat_list_cmp_total}
use Rattle.std.specs.Cmp.Lexicographic.{slice_cmp}
use Rattle.std.specs.List.{AllByRecursion}
use Rattle.std.specs.List.Sorted.{IsStrictlySortedBy}
use Rattle.std.specs.Map.{keys_of}
use Rattle.std.specs.Ordering.{ordering_reverse}
use Rattle.serde_json.specs.Data.{Data, Members, no_members, member, put}
use Rattle.serde_json.specs.View.{view, members_view}
use Rattle.serde_json.proofs.Views.{Entry}
use Rattle.ev_tree.specs.Floats.{whole, whole_members}
use Rattle.ev_listener_json.specs.Frames.{is_of_chains, frame_members}

below_middle : (first : Entry) (es : List Entry) (e : Entry) (more : List Entry) → AllByRecursion (λ y. string_cmp first.0 y ≡ Less) (keys_of (es ++ e ∷ more)) → string_cmp first.0 e.0 ≡ Less
below_middle first [] e more h = h.0
below_middle first (x ∷ es) e more h = below_middle first es e more h.1

at_first : (b : Bool) (k : List ℕ) (d : Data) → cond b no_members (put k (whole d) no_members) ≡ whole_members (cond b no_members (member k d no_members))
at_first true k d = refl
at_first false k d = refl

behind : (b skipped : Bool) (k l : List ℕ) (d e : Data) (ms ns : Members) → slice_cmp nat_cmp k l ≡ Greater
    → cond b (whole_members ms) (put k (whole d) (whole_members ms)) ≡ whole_members ns
    → cond b (whole_members (cond skipped ms (member l e ms))) (put k (whole d) (whole_members (cond skipped ms (member l e ms)))) ≡ whole_members (cond skipped ns (member l e ns))
behind b true k l d e ms ns above same = same
behind true false k l d e ms ns above same = ap (member l (whole e)) same
behind false false k l d e ms ns above same = rw above (ap (member l (whole e)) same)

-- a member whose name is above those before it
pub frame_last : (done : List Entry) (e : Entry) (more : List Entry) → IsStrictlySortedBy string_cmp (keys_of (done ++ e ∷ more))
    → cond (is_of_chains (string_bytes e.0)) (whole_members (frame_members (members_view done))) (put (string_bytes e.0) (whole (view e.1)) (whole_members (frame_members (members_view done))))
    ≡ whole_members (frame_members (members_view (done ++ e ∷ [])))
unfolding IsStrictlySortedBy
frame_last [] e more h = at_first (is_of_chains (string_bytes e.0)) (string_bytes e.0) (view e.1)
frame_last (first ∷ done) e more h =
    let above : slice_cmp nat_cmp (string_bytes e.0) (string_bytes first.0) ≡ Greater =
    nat_list_cmp_total.antisymm (string_bytes e.0) (string_bytes first.0) ∙ ap ordering_reverse (below_middle first done e more h.0) in
    behind (is_of_chains (string_bytes e.0)) (is_of_chains (string_bytes first.0)) (string_bytes e.0) (string_bytes first.0) (view e.1) (view first.1)
    (frame_members (members_view done)) (frame_members (members_view (done ++ e ∷ []))) above (frame_last done e more h.1)
