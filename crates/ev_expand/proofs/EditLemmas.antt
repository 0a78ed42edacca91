-- Members that are left out.
use Rattle.std.proofs.Common.{◌≡◌, ℕ, Bool, true, false, cond, List, [], ◌∷◌, Option, Some, None, String, Global, string_bytes, refl, sym, ap}
use Rattle.std.specs.Map.{lookup, remove_entry}
use Rattle.std.specs.Str.{bytes_eq}
use Rattle.serde_json.specs.Data.{Data, Members, member}
use Rattle.serde_json.specs.View.{view, members_view}
use Rattle.serde_json.specs.declared.value.Value.{Value}
use Rattle.serde_json.proofs.Views.{Entry}
use Rattle.ev_expand.specs.Editing.{members_without}

-- the test finds this name
abbrev pub Finds : List ℕ → (String Global → Bool) → Type 0
Finds name test = (key : String Global) → test key ≡ bytes_eq name (string_bytes key)

none_step : (b : Bool) (key : List ℕ) (value : Data) (found : Value) (left all : Members) (o : Option Value) → cond b (Some found) o ≡ None → (o ≡ None → left ≡ all)
    → cond b left (member key value left) ≡ member key value all
none_step true key value found left all o h k = absurd (cc)
none_step false key value found left all o h k = ap (member key value) (k h)

-- none of these has the name
none_named : (name : List ℕ) (test : String Global → Bool) → Finds name test → (es : List Entry) → lookup test es ≡ None → members_without name (members_view es) ≡ members_view es
none_named name test finds [] h = refl
none_named name test finds (e ∷ es) h =
    rw (← finds e.0) (none_step (test e.0) (string_bytes e.0) (view e.1) e.1 _ _ (lookup test es) h (none_named name test finds es))

left_step : (b : Bool) (e : Entry) (es rest : List Entry) (test : String Global → Bool) (left : Members) → test e.0 ≡ b → lookup test (cond b es (e ∷ rest)) ≡ None
    → (lookup test es ≡ None → left ≡ members_view es) → (lookup test rest ≡ None → members_view rest ≡ left)
    → members_view (cond b es (e ∷ rest)) ≡ cond b left (member (string_bytes e.0) (view e.1) left)
left_step true e es rest test left is h all k = sym (all h)
left_step false e es rest test left is h all k = ap (member (string_bytes e.0) (view e.1)) (k (rw is at h))

-- the members that are left where the first of the name is taken out, and none of the name is left
pub left_out : (name : List ℕ) (test : String Global → Bool) → Finds name test → (es : List Entry) → lookup test (remove_entry test es) ≡ None
    → members_view (remove_entry test es) ≡ members_without name (members_view es)
left_out name test finds [] h = refl
left_out name test finds (e ∷ es) h =
    rw (← finds e.0)
    (left_step (test e.0) e es (remove_entry test es) test (members_without name (members_view es)) refl h (none_named name test finds es) (left_out name test finds es))
