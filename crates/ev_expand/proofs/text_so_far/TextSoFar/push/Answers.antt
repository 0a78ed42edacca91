use Rattle.std.proofs.Common.{◌≡◌, ℕ, ◌+◌, List, ◌++◌, length, refl, ap, ◌∙◌, arith}
use Rattle.std.proofs.lemmas.Bool.{false≢true}
use Rattle.serde_json.specs.Data.{Data}
use Rattle.serde_json.specs.View.{view}
use Rattle.ev_journal.specs.Rendering.{line_text}
use Rattle.ev_tree.specs.Floats.{whole}
use Rattle.ev_expand.specs.Room.{HasRoom}
use Rattle.ev_expand.proofs.RoomLemmas.{room_for, room_had}
use Rattle.ev_expand.proofs.text_so_far.TextSoFar.push.Goals as goal

pub returns-then-not-has_room-clause-full : goal.returns-then-not-has_room-clause-full
returns-then-not-has_room-clause-full c = λ trees is _ within.
    let tree : Data = whole (view c.args.tree.now) in
    let text : c.push_whole.new.text.items ≡ line_text tree = c.in_ok-push_whole.ensures.line ∙ ap (λ (xs : List ℕ). xs ++ line_text tree) c.new-line.ensures.items in
    let room : HasRoom (length c.args.self.now.bytes.items) c.args.self.now.lines (length (line_text tree)) = room_had trees tree c.args.self.now is within in
    let bytes : c.len.result ≡ length c.args.self.now.bytes.items = omega (arith, c.len.ensures) in
    let line : c.len-2.result ≡ length (line_text tree) = omega (arith, c.len-2.ensures, ap length text) in
    false≢true (c.if-not-has_room.ensures.1 (record { short = omega (arith, room.short); few = room.few; small = omega (arith, room.small) }))

pub returns-clause-pushed : goal.returns-clause-pushed
returns-clause-pushed c = λ trees is _.
    let tree : Data = whole (view c.args.tree.now) in
    let text : c.push_whole.new.text.items ≡ line_text tree = c.in_ok-push_whole.ensures.line ∙ ap (λ (xs : List ℕ). xs ++ line_text tree) c.new-line.ensures.items in
    let found : HasRoom c.len.result c.args.self.now.lines c.len-2.result = c.if-not-has_room.ensures.0 refl in
    let bytes : c.len.result ≡ length c.args.self.now.bytes.items = omega (arith, c.len.ensures) in
    let line : c.len-2.result ≡ length (line_text tree) = omega (arith, c.len-2.ensures, ap length text) in
    room_for trees tree c.args.self.now (record { bytes = c.extend_from_slice.new.self; lines = c.args.self.now.lines + 1 }) is
    (record { short = omega (arith, found.short); few = found.few; small = omega (arith, found.small) })
    (c.in_ok-extend_from_slice.ensures.items ∙ ap (λ (xs : List ℕ). c.args.self.now.bytes.items ++ xs) (c.as_slice.ensures.value ∙ text)) refl
