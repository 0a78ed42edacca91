use Rattle.std.proofs.Common.{rules, ◌≡◌, ◌∙◌, ℕ, List, [], ◌∷◌, ◌++◌, length, map, Err, IfErr, refl, sym, ap, ap₂, subst, append_assoc, arith}
use Rattle.std.proofs.lemmas.Result.{err_from_is_err_and}
use Rattle.std.proofs.lemmas.List.{map-append, append-nil}
use Rattle.std.specs.Vec.Iter.{into_iter_items}
use Rattle.serde_json.specs.Data.{Data}
use Rattle.serde_json.specs.View.{view}
use Rattle.ev_script.specs.Members.{tree_told}
use Rattle.ev_script.specs.declared.trees.ScriptTrees.{ScriptTrees}
use Rattle.ev_tree.specs.Floats.{whole}
use Rattle.ev_sotw.specs.Searches.{with_before}
use Rattle.ev_sotw.specs.Deltas.{delta_of, deltas_of}
use Rattle.ev_sotw.specs.LineFollows.{FollowsLines}
use Rattle.ev_sotw.specs.Lines.{version_in}
use Rattle.ev_sotw.specs.Text.{versions_in}
use Rattle.ev_expand.specs.Said.{lines_in}
use Rattle.ev_sotw_delta.specs.DeltaText.{IsWritten, IsRefusal, written_of}
use Rattle.ev_sotw_delta.proofs.LimitLemmas.{refused, nothing_written}
use Rattle.ev_sotw_delta.proofs.DeltaLemmas.{placed_delta, written_lines, written_more, written_front}
use Rattle.ev_sotw_delta.proofs.ScriptLemmas.{text_is_script}
use Rattle.ev_sotw_delta.proofs.WorldLemmas.{same_world}
use Rattle.ev_sotw_delta.proofs.writing.to_delta.Goals as goal

pub returns-in_err-push_tree-clause-large : goal.returns-in_err-push_tree-clause-large
returns-in_err-push_tree-clause-large c =
    let p = err_from_is_err_and c.from_residual-in_err-push_tree.result c.from_residual-in_err-push_tree.ensures.1 in
    let trees : ScriptTrees = c.args.trees in
    let none = nothing_written c.new-text.result c.new-text.ensures.empty in
    subst (λ r. IfErr r (IsRefusal (written_of trees))) (sym (p.1 ∙ ap Err p.2))
    (refused c.in_err-push_tree.field-0.0 (written_of trees) [] (whole (view trees.head)) (map whole (deltas_of trees.header.profile (lines_in trees))) refl none.fits
    (c.in_err-push_tree.ensures.large [] none))

pub loop-line-init : goal.loop-line-init
loop-line-init c = record {
  parts = c.into_iter-line-iterator.ensures.into_iter_gives.0;
  count = search rules;
  follows = c.new-names.ensures c.args.trees.header.profile;
  written = c.in_ok-push_tree.ensures.pushed [] (nothing_written c.new-text.result c.new-text.ensures.empty);
  versions = c.in_ok-versions.ensures.items;
}

-- the next line's tree comes after those of the lines before it
told_more : (lines : List (List ℕ)) (line : List ℕ) (tree : Data) → tree ≡ tree_told line → map tree_told (lines ++ line ∷ []) ≡ map tree_told lines ++ tree ∷ []
told_more lines line tree told = map-append tree_told lines (line ∷ []) ∙ ap (λ t. map tree_told lines ++ t ∷ []) (sym told)

pub returns-in_err-push_delta-clause-large : goal.returns-in_err-push_delta-clause-large
returns-in_err-push_delta-clause-large c =
    let p = err_from_is_err_and c.from_residual-in_err-push_delta.result c.from_residual-in_err-push_delta.ensures.1 in
    let trees : ScriptTrees = c.args.trees in
    let head : Data = view trees.head in
    let lines : List Data = map tree_told c.loop-line.yielded in
    let line : Data = view c.in_ok-tree.tree in
    let more : List Data = map tree_told (into_iter_items c.next.new.self) in
    let same : lines_in trees ≡ (lines ++ line ∷ []) ++ more =
    ap (map tree_told) (sym c.loop-line.invariant.parts) ∙ map-append tree_told c.loop-line.yielded (into_iter_items c.loop-line.line-iterator)
    ∙ ap (λ ls. lines ++ map tree_told ls) c.in-Some.ensures.steps.0 ∙ ap (λ t. lines ++ t ∷ more) (sym c.in_ok-tree.ensures)
    ∙ sym (append_assoc lines (line ∷ []) more) in
    let all : written_of trees ≡ (written_lines c.args.trees.header.profile head lines ++ whole (delta_of c.args.trees.header.profile lines line) ∷ []) ++ map whole (map (placed_delta c.args.trees.header.profile) (with_before (lines ++ line ∷ []) more)) =
    ap (written_lines c.args.trees.header.profile head) same ∙ written_front c.args.trees.header.profile head (lines ++ line ∷ []) more
    ∙ ap (λ ts. ts ++ map whole (map (placed_delta c.args.trees.header.profile) (with_before (lines ++ line ∷ []) more))) (written_more c.args.trees.header.profile head lines line) in
    subst (λ r. IfErr r (IsRefusal (written_of trees))) (sym (p.1 ∙ ap Err p.2))
    (refused c.in_err-push_delta.field-0.0 (written_of trees) (written_lines c.args.trees.header.profile head lines) (whole (delta_of c.args.trees.header.profile lines line))
    (map whole (map (placed_delta c.args.trees.header.profile) (with_before (lines ++ line ∷ []) more))) all c.loop-line.invariant.written.fits
    (c.in_err-push_delta.ensures.large lines c.loop-line.invariant.follows (written_lines c.args.trees.header.profile head lines) c.loop-line.invariant.written))

pub loop-line-preserved : goal.loop-line-preserved
loop-line-preserved c =
    let head : Data = view c.args.trees.head in
    let lines : List Data = map tree_told c.loop-line.yielded in
    let line : Data = view c.in_ok-tree.tree in
    let next : map tree_told (c.loop-line.yielded ++ c.in-Some.line ∷ []) ≡ lines ++ line ∷ [] = told_more c.loop-line.yielded c.in-Some.line line c.in_ok-tree.ensures in
    record {
      parts = append_assoc c.loop-line.yielded (c.in-Some.line ∷ []) (into_iter_items c.next.new.self)
          ∙ ap (λ ls. c.loop-line.yielded ++ ls) (sym c.in-Some.ensures.steps.0) ∙ c.loop-line.invariant.parts;
      count = omega (arith, c.in-Some.ensures.steps.1, c.loop-line.invariant.count, ap length c.in-Some.ensures.steps.0);
      follows = subst (λ ls. FollowsLines c.args.trees.header.profile ls c.push_delta.new.names) (sym next) (c.in_ok-push_delta.ensures.follows lines c.loop-line.invariant.follows);
      written = subst (λ ts. IsWritten ts c.push_delta.new.text) (sym (ap (written_lines c.args.trees.header.profile head) next ∙ written_more c.args.trees.header.profile head lines line))
          (c.in_ok-push_delta.ensures.pushed lines c.loop-line.invariant.follows (written_lines c.args.trees.header.profile head lines) c.loop-line.invariant.written);
      versions = c.in_ok-push.ensures.items
          ∙ ap₂ (λ (vs : List (List ℕ)) (v : List ℕ). vs ++ v ∷ []) c.loop-line.invariant.versions (c.in_ok-new.ensures.bytes ∙ c.in_ok-version_in.ensures)
          ∙ sym (ap (versions_in c.args.trees.header.profile) next ∙ map-append (version_in c.args.trees.header.profile) lines (line ∷ []));
    }

nothing_left : (lines : List (List ℕ)) → length lines ≡ 0 → lines ≡ []
nothing_left [] e = refl
nothing_left (line ∷ lines) e = absurd (cc)

pub returns-clause-sound : goal.returns-clause-sound
returns-clause-sound c =
    let trees : ScriptTrees = c.args.trees in
    let none : into_iter_items c.loop-line.line-iterator ≡ [] = nothing_left (into_iter_items c.loop-line.line-iterator) (sym c.loop-line.invariant.count ∙ c.in-None.ensures.steps.0) in
    let all : c.loop-line.yielded ≡ trees.lines.items =
    sym (append-nil c.loop-line.yielded) ∙ ap (λ ls. c.loop-line.yielded ++ ls) (sym none) ∙ c.loop-line.invariant.parts in
    (text_is_script c.requires.read.0 trees c.loop-line.text c.requires.read.1
    (subst (λ vs. IsWritten (written_lines c.args.trees.header.profile (view trees.head) (map tree_told vs)) c.loop-line.text) all c.loop-line.invariant.written)).0

pub returns-clause-script : goal.returns-clause-script
returns-clause-script c =
    let trees : ScriptTrees = c.args.trees in
    let none : into_iter_items c.loop-line.line-iterator ≡ [] = nothing_left (into_iter_items c.loop-line.line-iterator) (sym c.loop-line.invariant.count ∙ c.in-None.ensures.steps.0) in
    let all : c.loop-line.yielded ≡ trees.lines.items =
    sym (append-nil c.loop-line.yielded) ∙ ap (λ ls. c.loop-line.yielded ++ ls) (sym none) ∙ c.loop-line.invariant.parts in
    (text_is_script c.requires.read.0 trees c.loop-line.text c.requires.read.1
    (subst (λ vs. IsWritten (written_lines c.args.trees.header.profile (view trees.head) (map tree_told vs)) c.loop-line.text) all c.loop-line.invariant.written)).1

pub returns-clause-same : goal.returns-clause-same
returns-clause-same c = λ format journal. same_world c.requires.read.0 c.args.trees format journal c.requires.read.1
