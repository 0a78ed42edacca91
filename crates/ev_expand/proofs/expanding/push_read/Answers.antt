use Rattle.std.proofs.Common.{◌≡◌, List, ◌++◌, map, Bool, false, Ok, ap, ◌∙◌, subst}
use Rattle.serde_json.specs.Data.{Data}
use Rattle.serde_json.specs.View.{view}
use Rattle.ev_expand.specs.Following.{due_shown}
use Rattle.ev_expand.specs.Growing.{Pushes, front_of}
use Rattle.ev_expand.specs.Guarding.{Guarded}
use Rattle.ev_expand.specs.Numbers.{guarded_so_far}
use Rattle.ev_expand.specs.Placing.{placed_lines}
use Rattle.ev_expand.specs.Expanding.{Rules, gives, guarded_at, written_line, due_at, lines_due, place_of}
use Rattle.ev_expand.proofs.GrowthLemmas.{pushes_first, pushes_then}
use Rattle.ev_expand.proofs.PlaceLemmas.{lines_as}
use Rattle.ev_expand.proofs.expanding.push_read.Goals as goal

pub returns-then-not-has_room-clause-text : goal.returns-then-not-has_room-clause-text
returns-then-not-has_room-clause-text g c = λ before behind kept at.
    let rules : Rules = g.E.Expansion.rules c.args.profile in
    let line : Data = view c.args.line.now in
    let guarded : guarded_so_far c.places_in.new.numbers ≡ guarded_at rules (front_of before line) = c.in_ok-places.ensures.numbers before kept in
    let written : placed_lines rules line c.as_slice-2.result.now ≡ written_line rules (guarded_at rules (front_of before line)) line =
    ap (placed_lines rules line) c.as_slice-2.ensures.value
    ∙ lines_as rules (guarded_so_far c.places_in.new.numbers) line c.in_ok-places.places.items c.in_ok-places.ensures.places.each
    ∙ ap (λ (gs : List Guarded). written_line rules gs line) guarded in
    let rest : List Data = lines_due rules.prefix rules.nonce (place_of (front_of before line)) (due_at rules (front_of before line)) in
    subst (λ (xs : List Data). Pushes c.args.text.now c.push_written.new.text (Ok false) (xs ++ rest)) written
    (pushes_first c.args.text.now c.push_written.new.text c.push_written.result (placed_lines rules line c.as_slice-2.result.now) rest c.push_written.ensures
    (c.in_ok-has_room.was ∙ ap (λ (b : Bool). Ok b) c.if-not-has_room.true))

pub returns-clause-text : goal.returns-clause-text
returns-clause-text g c = λ before behind kept at.
    let rules : Rules = g.E.Expansion.rules c.args.profile in
    let line : Data = view c.args.line.now in
    let guarded : guarded_so_far c.places_in.new.numbers ≡ guarded_at rules (front_of before line) = c.in_ok-places.ensures.numbers before kept in
    let written : placed_lines rules line c.as_slice-2.result.now ≡ written_line rules (guarded_at rules (front_of before line)) line =
    ap (placed_lines rules line) c.as_slice-2.ensures.value
    ∙ lines_as rules (guarded_so_far c.places_in.new.numbers) line c.in_ok-places.places.items c.in_ok-places.ensures.places.each
    ∙ ap (λ (gs : List Guarded). written_line rules gs line) guarded in
    let due : map due_shown c.in_ok-due.due.items ≡ due_at rules (front_of before line) = c.in_ok-due.ensures.due before behind guarded in
    let last : lines_due c.prefix.result.now c.nonce.result.now c.args.at (map due_shown c.in_ok-due.due.items) ≡ lines_due rules.prefix rules.nonce (place_of (front_of before line)) (due_at rules (front_of before line)) =
    λ i. lines_due (c.prefix.ensures c.args.profile i) (c.nonce.ensures c.args.profile i) (at i) (due i) in
    let both : placed_lines rules line c.as_slice-2.result.now ++ lines_due c.prefix.result.now c.nonce.result.now c.args.at (map due_shown c.in_ok-due.due.items) ≡ gives rules (front_of before line) =
    λ i. written i ++ last i in
    subst (Pushes c.args.text.now c.push_due.new.text c.push_due.result) both
    (pushes_then c.args.text.now c.push_written.new.text c.push_due.new.text c.push_written.result c.push_due.result _ _ c.push_written.ensures
    (c.in_ok-has_room.was ∙ ap (λ (b : Bool). Ok b) c.if-not-has_room.false) c.push_due.ensures)
