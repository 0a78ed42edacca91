use Rattle.std.proofs.Common.{◌≡◌, ℕ, ◌+◌, ◌<◌, Bool, List, [], ◌∷◌, ◌++◌, length, map, take, Ok, sym, ap, ◌∙◌, subst, arith, length-take}
use Rattle.std.proofs.lemmas.List.{length-map, take_all}
use Rattle.serde_json.specs.Data.{Data}
use Rattle.serde_json.specs.View.{view}
use Rattle.ev_script.specs.Members.{tree_told}
use Rattle.ev_expand.specs.Expanding.{Rules, gives}
use Rattle.ev_expand.specs.Growing.{IsGrown, Pushes, front_of}
use Rattle.ev_expand.specs.Guarding.{guarded_by}
use Rattle.ev_expand.specs.Numbers.{guarded_so_far}
use Rattle.ev_expand.proofs.GrowthLemmas.{read_one, grown_first, grown_more, large_at, all_grown}
use Rattle.ev_expand.proofs.NumberLemmas.{viewed_more}
use Rattle.ev_expand.proofs.expanding.grown_text.Goals as goal

place_is : (ls : List (List ℕ)) (i : ℕ) → i < length ls → i + 2 ≡ length (map tree_told (take i ls)) + 2
place_is ls i h = omega (arith, h, length-map (take i ls) tree_told, length-take i ls)

pub loop-index-init : goal.loop-index-init
loop-index-init g c = record {
  grown = grown_first (g.E.Expansion.rules c.args.profile) (view c.args.head.now) c.new-text.result c.push.new.self c.push.result _ c.new-text.ensures.empty
      (record { pushed = c.push.ensures.pushed; full = c.push.ensures.full; read_back = λ h. read_one (view c.args.head.now) (c.push.ensures.reads_back h) })
      (c.in_ok-push.was ∙ ap (λ (b : Bool). Ok b) c.if-not-branch.false) c.new-numbers.ensures;
  behind = c.requires.behind;
}

pub returns-then-not-has_room : goal.returns-then-not-has_room
returns-then-not-has_room g c =
    let rules : Rules = g.E.Expansion.rules c.args.profile in
    let before : List Data = map tree_told (take c.loop-index.index c.args.lines.now) in
    let pushes : Pushes c.loop-index.text c.push_line.new.text c.push_line.result (gives rules (front_of before (tree_told c.index-lines-index.result))) =
    c.push_line.ensures.text before c.loop-index.invariant.behind c.loop-index.invariant.grown.kept (place_is c.args.lines.now c.loop-index.index c.loop-index-test.true) in (
      c.requires.unused,
      large_at rules (view c.args.head.now) c.args.lines.now c.loop-index.index c.index-lines-index.result _ _ _ c.push_line.result c.loop-index-test.true c.index-lines-index.is c.loop-index.invariant.grown pushes
          (c.in_ok-has_room.was ∙ ap (λ (b : Bool). Ok b) c.if-not-has_room.true),
    )

pub loop-index-preserved : goal.loop-index-preserved
loop-index-preserved g c =
    let rules : Rules = g.E.Expansion.rules c.args.profile in
    let before : List Data = map tree_told (take c.loop-index.index c.args.lines.now) in
    let line : Data = tree_told c.index-lines-index.result in
    let pushes : Pushes c.loop-index.text c.push_line.new.text c.push_line.result (gives rules (front_of before line)) =
    c.push_line.ensures.text before c.loop-index.invariant.behind c.loop-index.invariant.grown.kept (place_is c.args.lines.now c.loop-index.index c.loop-index-test.true) in
    let after = viewed_more tree_told c.args.lines.now c.loop-index.index c.index-lines-index.result c.index-lines-index.is c.loop-index-test.true in
    let kept : guarded_so_far c.push_line.new.numbers ≡ guarded_by rules.guard (before ++ line ∷ []) = c.in_ok-has_room.ensures.numbers before c.loop-index.invariant.grown.kept in
    record {
      grown = subst (λ (xs : List Data). IsGrown rules (view c.args.head.now) xs c.push_line.new.text (guarded_so_far c.push_line.new.numbers)) (sym after)
          (grown_more rules (view c.args.head.now) before line _ _ _ _ c.push_line.result c.loop-index.invariant.grown pushes
          (c.in_ok-has_room.was ∙ ap (λ (b : Bool). Ok b) c.if-not-has_room.false) kept);
      behind = subst (λ (xs : List Data). g.E.Expansion.is_behind c.args.profile c.push_line.new.expansion xs) (sym after)
          (c.in_ok-has_room.ensures.behind before c.loop-index.invariant.behind c.loop-index.invariant.grown.kept);
    }

pub returns : goal.returns
returns g c =
    let rules : Rules = g.E.Expansion.rules c.args.profile in
    let lines : List Data = map tree_told c.args.lines.now in
    let all : map tree_told (take c.loop-index.index c.args.lines.now) ≡ lines = ap (map tree_told) (take_all c.loop-index.index c.args.lines.now (omega arith)) in
    all_grown rules (view c.args.head.now) lines c.loop-index.text (guarded_so_far c.loop-index.numbers) c.requires.unused
    (subst (λ (xs : List Data). IsGrown rules (view c.args.head.now) xs c.loop-index.text (guarded_so_far c.loop-index.numbers)) all c.loop-index.invariant.grown)
