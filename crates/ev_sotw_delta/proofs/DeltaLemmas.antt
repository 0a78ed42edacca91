-- What lines become, as they come one after another.
use Rattle.std.proofs.Common.{◌≡◌, ◌∙◌, List, [], ◌∷◌, ◌++◌, map, sym, ap, append_assoc}
use Rattle.std.proofs.lemmas.List.{map-append, append-nil}
use Rattle.serde_json.specs.Data.{Data}
use Rattle.ev_tree.specs.Floats.{whole}
use Rattle.ev_types.specs.declared.events.Profile.{Profile}
use Rattle.ev_sotw.specs.Searches.{with_before}
use Rattle.ev_sotw.specs.Deltas.{delta_of, deltas_of}
use Rattle.ev_sotw.proofs.SearchLemmas.{with_before_more}

abbrev pub placed_delta : Profile → List Data × Data → Data
placed_delta profile placed = delta_of profile placed.0 placed.1

pub deltas_more : (profile : Profile) (lines : List Data) (line : Data) → deltas_of profile (lines ++ line ∷ []) ≡ deltas_of profile lines ++ delta_of profile lines line ∷ []
deltas_more profile lines line = ap (map (placed_delta profile)) (with_before_more [] lines line) ∙ map-append (placed_delta profile) (with_before [] lines) ((lines, line) ∷ [])

with_before_append : {A : Type 0} (before xs ys : List A) → with_before before (xs ++ ys) ≡ with_before before xs ++ with_before (before ++ xs) ys
with_before_append before [] ys = ap (λ (zs : List _). with_before zs ys) (sym (append-nil before))
with_before_append before (x ∷ xs) ys =
    ap (λ ps. (before, x) ∷ ps)
    (with_before_append (before ++ x ∷ []) xs ys ∙ ap (λ (zs : List _). with_before (before ++ x ∷ []) xs ++ with_before zs ys) (append_assoc before (x ∷ []) xs))

deltas_front : (profile : Profile) (lines more : List Data) → deltas_of profile (lines ++ more) ≡ deltas_of profile lines ++ map (placed_delta profile) (with_before lines more)
deltas_front profile lines more =
    ap (map (placed_delta profile)) (with_before_append [] lines more) ∙ map-append (placed_delta profile) (with_before [] lines) (with_before lines more)

-- what is written of the header and these lines
abbrev pub written_lines : Profile → Data → List Data → List Data
written_lines profile head lines = map whole (head ∷ deltas_of profile lines)

pub written_more : (profile : Profile) (head : Data) (lines : List Data) (line : Data)
    → written_lines profile head (lines ++ line ∷ []) ≡ written_lines profile head lines ++ whole (delta_of profile lines line) ∷ []
written_more profile head lines line =
    ap (λ ds. map whole (head ∷ ds)) (deltas_more profile lines line) ∙ map-append whole (head ∷ deltas_of profile lines) (delta_of profile lines line ∷ [])

pub written_front : (profile : Profile) (head : Data) (lines more : List Data)
    → written_lines profile head (lines ++ more) ≡ written_lines profile head lines ++ map whole (map (placed_delta profile) (with_before lines more))
written_front profile head lines more =
    ap (λ ds. map whole (head ∷ ds)) (deltas_front profile lines more) ∙ map-append whole (head ∷ deltas_of profile lines) (map (placed_delta profile) (with_before lines more))
