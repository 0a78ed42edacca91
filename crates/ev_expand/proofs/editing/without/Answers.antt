use Rattle.std.proofs.Common.{◌≡◌, ℕ, Bool, List, None, String, Global, string_bytes, is_eq, nat_cmp, sym, ap, ◌∙◌}
use Rattle.std.proofs.lemmas.Map.Text.{is_eq-slice_cmp}
use Rattle.std.specs.Cmp.Lexicographic.{slice_cmp}
use Rattle.std.specs.Map.{lookup, remove_entry}
use Rattle.serde_json.specs.Data.{object}
use Rattle.serde_json.specs.View.{view, members_view}
use Rattle.serde_json.proofs.Views.{Entry, view-Object}
use Rattle.ev_expand.specs.Editing.{without}
use Rattle.ev_expand.proofs.EditLemmas.{left_out}
use Rattle.ev_expand.proofs.editing.without.Goals as goal

pub returns-in-Object : goal.returns-in-Object
returns-in-Object c =
    let name : List ℕ = c.args.name.now in
    let es : List Entry = c.in-Object.members.entries in
    let test : String Global → Bool = λ k. is_eq (slice_cmp nat_cmp name (string_bytes k)) in
    let left : lookup test (remove_entry test es) ≡ None = ap (lookup test) (sym c.remove.ensures.entries) ∙ c.remove.ensures.updates.1 in
    view-Object _
    ∙ ap (λ (entries : List Entry). object (members_view entries)) c.remove.ensures.entries
    ∙ ap object (left_out name test (λ k. is_eq-slice_cmp name (string_bytes k)) es left)
    ∙ sym (ap (without name) (ap view c.in-Object.is ∙ view-Object c.in-Object.members))
