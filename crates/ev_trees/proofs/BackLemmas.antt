-- What is written of a tree is read as it.
use Rattle.std.proofs.Common.{◌≡◌, ℕ, ◌≤◌, List, false, Vec, Some, Result, Ok, Err, IfOk, OnOk, sym, subst, arith}
use Rattle.std.specs.declared.alloc.Global.{Global}
use Rattle.std.specs.Str.{IsUtf8}
use Rattle.serde_json.specs.Data.{Data, depth}
use Rattle.serde_json.specs.Read.{read, max_depth}
use Rattle.serde_json.specs.Written.{has_float, compact_text}
use Rattle.ev_script.specs.Members.{tree_of}
use Rattle.ev_script.proofs.MemberLemmas.{tree_read}
use Rattle.ev_tree.specs.Floats.{whole}
use Rattle.ev_trees.specs.Trees.{ReadsBack, IsReadable}
use Rattle.ev_tree.proofs.FloatLemmas.{made_whole}

reads_back : (bytes : List ℕ) (tree : Data) → bytes ≡ compact_text tree → IsUtf8 bytes → read bytes ≡ Some tree → ReadsBack tree
reads_back bytes tree is text back = subst (λ (xs : List ℕ). tree_of xs ≡ Some tree) is (sym (tree_read bytes tree text back))

-- the text that was written
pub written_back : {E : Type 0} (r : Result (Vec ℕ Global) E) (tree : Data) → has_float tree ≡ false → IfOk r (λ b. has_float tree ≡ false → b.items ≡ compact_text tree)
    → IfOk r (λ b. IsUtf8 b.items) → IfOk r (λ b. depth tree ≤ max_depth → read b.items ≡ Some tree) → IfOk r (λ b. IsReadable tree → ReadsBack tree)
written_back (Ok b) tree none text utf8 back = λ readable. reads_back b.items tree (text none) utf8 (back readable)
written_back (Err e) tree none text utf8 back = tt

-- the text of a tree that a reader goes through
pub text_back : {E : Type 0} (r : Result (Vec ℕ Global) E) (tree : Data) → IsReadable tree → IfOk r (λ b. IsUtf8 b.items) → IfOk r (λ b. depth tree ≤ max_depth → read b.items ≡ Some tree)
    → IfOk r (λ b. tree_of b.items ≡ Some tree)
text_back (Ok b) tree readable utf8 back = sym (tree_read b.items tree utf8 (back readable))
text_back (Err e) tree readable utf8 back = tt

-- a fact that is known whatever the result
pub on_ok : {A E : Type 0} {P : Type 0} (r : Result A E) → P → OnOk r P
on_ok (Ok x) p = p
on_ok (Err e) p = tt

-- a tree that was made of another
pub whole_back : {A E : Type 0} (r : Result A E) (made tree : Data) → made ≡ whole tree → OnOk r (IsReadable made → ReadsBack made) → OnOk r (IsReadable tree → ReadsBack (whole tree))
whole_back (Ok x) made tree is back = λ readable.
    let deep : depth (whole tree) ≡ depth tree = (made_whole tree).deep in
    let readable : IsReadable (whole tree) = omega (arith, deep) in
    subst (λ (d : Data). ReadsBack d) is (back (subst (λ (d : Data). IsReadable d) (sym is) readable))
whole_back (Err e) made tree is back = tt
