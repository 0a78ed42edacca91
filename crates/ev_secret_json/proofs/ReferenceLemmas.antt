-- References of one element of a list more.
use Rattle.std.proofs.Common.{◌≡◌, ℕ, ◌+◌, ◌<◌, ◌≤◌, ◌++◌, List, [], ◌∷◌, length, take, get_or, map, sym, ap, ◌∙◌}
use Rattle.std.proofs.lemmas.List.{take_more, take_all, flat_map_more, map-append}
use Rattle.serde_json.specs.Data.{Data}
use Rattle.serde_json.specs.View.{view}
use Rattle.serde_json.specs.declared.value.Value.{Value}
use Rattle.ev_tree.proofs.Unions.{any_push}
use Rattle.ev_secret_json.specs.declared.referring.References.{References}
use Rattle.ev_secret_json.specs.References.{joined, each_joined}

-- one part more
each_push : (found : Data → References) (parts : List Data) (part : Data) → each_joined found (parts ++ part ∷ []) ≡ joined (each_joined found parts) (found part)
each_push found parts part = λ i. record {
  list = sym (flat_map_more (λ (p : Data). (found p).list) [] parts part) i;
  broken = any_push (λ (p : Data). (found p).broken) parts part i;
}

-- one element of a list more
pub each_more : (found : Data → References) (vs : List Value) (i : ℕ) (v : Value) (done here next : References) → i < length vs → v ≡ get_or vs i v
    → done ≡ each_joined found (map view (take i vs)) → here ≡ found (view v) → next ≡ joined done here → next ≡ each_joined found (map view (take (i + 1) vs))
each_more found vs i v done here next lt at so is join =
    join ∙ (λ j. joined (so j) ((is ∙ ap (λ w. found (view w)) at) j)) ∙ sym (each_push found (map view (take i vs)) (view (get_or vs i v)))
    ∙ ap (each_joined found) (sym (map-append view (take i vs) (get_or vs i v ∷ [])) ∙ sym (ap (map view) (take_more vs i v lt)))

-- all elements
pub each_all : (found : Data → References) (vs : List Value) (i : ℕ) (done : References) → length vs ≤ i → done ≡ each_joined found (map view (take i vs)) → done ≡ each_joined found (map view vs)
each_all found vs i done end so = so ∙ ap (λ ws. each_joined found (map view ws)) (take_all i vs end)
