-- The frame of a listener.
use Rattle.std.proofs.Common.{◌≡◌, ◌∙◌, ap, refl}
use Rattle.std.specs.Prelude.{ℕ, Bool, true, false, cond, List}
use Rattle.serde_json.specs.Data.{Data, null, boolean, number, string, array, object, Members, no_members, member}
use Rattle.serde_json.specs.Written.{compact_text}
use Rattle.ev_tree.specs.Floats.{whole, whole_members, plain_text}
use Rattle.ev_listener_json.specs.Frames.{is_of_chains, frame_members, frame_of, frame_text_of}
use Rattle.ev_whole_laws.proofs.Texts.{whole-twice}

kept : (b : Bool) (name : List ℕ) (tree : Data) (ms ns : Members) → ms ≡ whole_members ns → cond b ms (member name (whole tree) ms) ≡ whole_members (cond b ns (member name tree ns))
kept true name tree ms ns same = same
kept false name tree ms ns same = ap (member name (whole tree)) same

frame_members-whole : (ms : Members) → frame_members (whole_members ms) ≡ whole_members (frame_members ms)
frame_members-whole no_members = refl
frame_members-whole (member name tree ms) = kept (is_of_chains name) name tree (frame_members (whole_members ms)) (frame_members ms) (frame_members-whole ms)

frame_of-whole : (tree : Data) → frame_of (whole tree) ≡ whole (frame_of tree)
frame_of-whole null = refl
frame_of-whole (boolean b) = refl
frame_of-whole (number n) = refl
frame_of-whole (string s) = refl
frame_of-whole (array items) = refl
frame_of-whole (object ms) = ap object (frame_members-whole ms)

pub frame_text_of-whole : (tree : Data) → frame_text_of (whole tree) ≡ frame_text_of tree
unfolding frame_text_of
frame_text_of-whole tree = ap plain_text (frame_of-whole tree) ∙ ap compact_text (whole-twice (frame_of tree))
