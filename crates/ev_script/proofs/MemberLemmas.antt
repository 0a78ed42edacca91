-- What a read of bytes says of the value that they are, and the names of an object's members.
use Rattle.std.proofs.Common.{◌≡◌, ℕ, List, [], ◌∷◌, map, Bool, true, false, cond, ◌&&◌, ◌||◌, None, Some, refl, sym, ap, ◌∙◌}
use Rattle.std.specs.Str.{IsUtf8, is_utf8, bytes_eq}
use Rattle.std.specs.List.{list_all, list_any}
use Rattle.std.specs.Prelude.{String, string_bytes}
use Rattle.std.specs.declared.alloc.Global.{Global}
use Rattle.std.proofs.lemmas.Str.{is_utf8-from_IsUtf8, IsUtf8-from_is_utf8}
use Rattle.serde_json.specs.Data.{Data, null, boolean, number, string, array, object, Members}
use Rattle.serde_json.specs.Find.{as_object}
use Rattle.serde_json.specs.Read.{read}
use Rattle.serde_json.specs.View.{members_view}
use Rattle.serde_json.specs.declared.value.Value.{Value}
use Rattle.ev_script.specs.Members.{tree_of, names_only, has_only}

-- bytes that are text and were read
pub tree_read : (bytes : List ℕ) (tree : Data) → IsUtf8 bytes → read bytes ≡ Some tree → Some tree ≡ tree_of bytes
tree_read bytes tree text e = sym (ap (λ b. cond b (read bytes) None) (is_utf8-from_IsUtf8 bytes text) ∙ e)

-- bytes that are no text, or can't be read
pub tree_none : (bytes : List ℕ) → (IsUtf8 bytes → read bytes ≡ None) → None ≡ tree_of bytes
tree_none bytes h = by_test (is_utf8 bytes) refl
  where
    by_test : (b : Bool) → is_utf8 bytes ≡ b → None ≡ tree_of bytes
    by_test true e = sym (ap (λ b. cond b (read bytes) None) e ∙ h (IsUtf8-from_is_utf8 bytes e))
    by_test false e = sym (ap (λ b. cond b (read bytes) None) e)

-- a test of mapped elements
list_any-map : {X Y : Type 0} (test : Y → Bool) (f : X → Y) (xs : List X) → list_any test (map f xs) ≡ list_any (λ x. test (f x)) xs
list_any-map test f [] = refl
list_any-map test f (x ∷ xs) = ap (λ b. test (f x) || b) (list_any-map test f xs)

-- the names of the members, by the keys of their map
pub names_only-members_view : {X : Type 0} (f : X → List ℕ) (names : List X) (members : List (String Global × Value)) → names_only (map f names) (members_view members) ≡ list_all (λ key. list_any (λ name. bytes_eq (string_bytes key) (f name)) names) (map (λ m. m.0) members)
names_only-members_view f names [] = refl
names_only-members_view f names (m ∷ members) =
    ap (λ b. b && names_only (map f names) (members_view members)) (list_any-map (bytes_eq (string_bytes m.0)) f names)
    ∙ ap (λ b. list_any (λ name. bytes_eq (string_bytes m.0) (f name)) names && b) (names_only-members_view f names members)

-- an object has only what its members are
pub has_only-object : (names : List (List ℕ)) (tree : Data) (ms : Members) → Some ms ≡ as_object tree → has_only names tree ≡ names_only names ms
has_only-object names null ms e = absurd (cc)
has_only-object names (boolean b) ms e = absurd (cc)
has_only-object names (number n) ms e = absurd (cc)
has_only-object names (string s) ms e = absurd (cc)
has_only-object names (array ds) ms e = absurd (cc)
has_only-object names (object others) ms e = let same : others ≡ ms = cc in ap (names_only names) same
