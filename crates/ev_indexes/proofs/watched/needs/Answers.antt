use Rattle.std.proofs.Common.{◌≡◌, ◌∙◌, ◌++◌, Bool, true, false, List, [], ◌∷◌, cond, append_assoc, append-nil, refl, sym, ap}
use Rattle.std.specs.List.{flat_map}
use Rattle.ev_types.specs.Statuses.{is_live}
use Rattle.ev_types.specs.declared.contents.Kind.{Kind}
use Rattle.ev_types.specs.declared.rows.GenRow.{GenRow}
use Rattle.ev_model.specs.Watching.{names_awaited}
use Rattle.ev_indexes.specs.Needs.{needs_of}
use Rattle.ev_indexes.specs.Reads.{live_rows, names_needed}
use Rattle.ev_indexes.proofs.watched.needs.Goals as goal

-- the names of one row and of those after it
needed-more : (kind : Kind) (row : GenRow) (rows : List GenRow) → names_needed kind (row ∷ rows) ≡ names_needed kind (row ∷ []) ++ names_needed kind rows
needed-more kind row rows = by (is_live row.status)
  where
    by : (b : Bool) → flat_map (λ (r : GenRow). names_awaited kind (needs_of r.content)) (cond b (row ∷ live_rows rows) (live_rows rows))
        ≡ flat_map (λ (r : GenRow). names_awaited kind (needs_of r.content)) (cond b (row ∷ []) []) ++ names_needed kind rows
    by true = ap (λ ns. ns ++ names_needed kind rows) (sym (append-nil (names_awaited kind (needs_of row.content))))
    by false = refl

pub loop-row-preserved : goal.loop-row-preserved
loop-row-preserved c =
    let names = c.loop-row.names.items in
    let row = c.in-Some.row.now in
    let rest = c.next.new.self in
    (λ i. c.in_ok-push_needs_of.ensures i ++ names_needed c.args.kind rest)
    ∙ append_assoc names (names_needed c.args.kind (row ∷ [])) (names_needed c.args.kind rest)
    ∙ ap (λ ns. names ++ ns) (sym (needed-more c.args.kind row rest))
    ∙ (λ i. names ++ names_needed c.args.kind (sym c.in-Some.ensures.steps i))
    ∙ c.loop-row.invariant
