-- A table has nothing under what is no key of it.
use Rattle.std.proofs.Common.{◌≡◌, ◌∙◌, ◌||◌, Bool, true, false, cond, List, [], ◌∷◌, Some, None, refl, sym}
use Rattle.std.specs.Arc.{arc_value}
use Rattle.std.specs.List.{list_any}
use Rattle.std.specs.Map.{lookup, keys_of}
use Rattle.std.specs.Option.{option_or}
use Rattle.std.proofs.lemmas.List.Folds.{list_any-append}
use Rattle.indexmap.specs.IndexMap.{IndexMap, keys}
use Rattle.ev_layers.specs.Layers.{entry_in, found_by, keys_in, keys_of_layers, over_base}
use Rattle.ev_layers.specs.declared.table.Table.{Table}

absent : {K V : Type 0} (test : K → Bool) (es : List (K × V)) → list_any test (keys_of es) ≡ false → lookup test es ≡ None
absent test [] none = refl
absent test (e ∷ es) none = by (test e.0) none (absent test es)
  where
    by : (b : Bool) → b || list_any test (keys_of es) ≡ false → (list_any test (keys_of es) ≡ false → lookup test es ≡ None) → cond b (Some e.1) (lookup test es) ≡ None
    by true h rest = absurd cc
    by false h rest = rest h

neither : (a b : Bool) → a || b ≡ false → (a ≡ false) × (b ≡ false)
neither true b h = absurd cc
neither false b h = (refl, h)

layers_cover : {K V S : Type 0} (test : K → Bool) (layers : List (IndexMap K V S)) → list_any test (keys_of_layers layers) ≡ false → entry_in test layers ≡ None
layers_cover test [] none = refl
layers_cover test (layer ∷ layers) none =
    let parts = neither (list_any test (keys layer)) (list_any test (keys_of_layers layers)) (sym (list_any-append test (keys layer) (keys_of_layers layers)) ∙ none) in
    λ i. option_or (absent test layer.entries parts.0 i) (layers_cover test layers parts.1 i)

pub table_covers : {K V : Type 0} (test : K → Bool) (table : Table K V) → list_any test (keys_in table) ≡ false → found_by test table ≡ None
table_covers test table none =
    let over = keys_of_layers (table.over ∷ table.layers) in
    let parts = neither (list_any test over) (list_any test (keys (arc_value table.base))) (sym (list_any-append test over (keys (arc_value table.base))) ∙ none) in
    λ i. over_base (layers_cover test (table.over ∷ table.layers) parts.0 i) (absent test (arc_value table.base).entries parts.1 i)
