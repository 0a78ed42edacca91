use Rattle.std.proofs.Common.{◌≡◌, ◌+◌, ◌<◌, ◌||◌, ◌∙◌, Bool, true, false, List, ℕ, drop, length, sym, ap, arith}
use Rattle.ev_model.specs.Conditions.{has_part, in_case}
use Rattle.ev_model.specs.Paths.{begins_with}
use Rattle.ev_routes.proofs.InCase.{drop_cased, length_cased, part_first}
use Rattle.ev_routes.proofs.texts_in_case.has_part_in_case.Goals as goal

-- what is left of the text begins with the part, or it has the part further on
step : (ignore : Bool) (text rest part : List ℕ) (place : ℕ) (begins said : Bool) → place < length text → rest ≡ drop place text
    → begins ≡ begins_with (in_case ignore rest) (in_case ignore part) → begins ≡ said
    → has_part (drop place (in_case ignore text)) (in_case ignore part) ≡ said || has_part (drop (place + 1) (in_case ignore text)) (in_case ignore part)
step ignore text rest part place begins said less is at so =
    let within : place < length (in_case ignore text) = omega (arith, length_cased ignore text) in
    let here : begins_with (drop place (in_case ignore text)) (in_case ignore part) ≡ said =
    ap (λ (xs : List ℕ). begins_with xs (in_case ignore part)) (drop_cased ignore place text ∙ ap (in_case ignore) (sym is)) ∙ sym at ∙ so in
    part_first place (in_case ignore text) (in_case ignore part) within
    ∙ ap (λ b. b || has_part (drop (place + 1) (in_case ignore text)) (in_case ignore part)) here

pub returns-then-begins_in_case : goal.returns-then-begins_in_case
returns-then-begins_in_case c =
    sym (step c.args.ignore c.args.text.now c.split_at.result.1.now c.args.part.now c.loop-place.place c.begins_in_case.result true (omega arith)
    c.split_at.ensures.back c.begins_in_case.ensures c.if-begins_in_case.true)
    ∙ c.loop-place.invariant

pub loop-place-preserved : goal.loop-place-preserved
loop-place-preserved c =
    sym (step c.args.ignore c.args.text.now c.split_at.result.1.now c.args.part.now c.loop-place.place c.begins_in_case.result false (omega arith)
    c.split_at.ensures.back c.begins_in_case.ensures c.if-begins_in_case.false)
    ∙ c.loop-place.invariant
