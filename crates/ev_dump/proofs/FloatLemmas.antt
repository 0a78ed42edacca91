-- No tree of a dump has a float, so its text is that of its digits.
use Rattle.std.proofs.Common.{◌≡◌, Bool, false, ◌||◌, List, [], ◌∷◌, map, refl, ap, ◌∙◌}
use Rattle.serde_json.specs.Data.{Data}
use Rattle.serde_json.specs.View.{items_of}
use Rattle.serde_json.specs.Written.{has_float, items_have_float}
use Rattle.ev_types.specs.declared.contents.Kind.TheVariants.{Cds, Lds}
use Rattle.ev_types.specs.declared.events.Entry.{Entry}
use Rattle.ev_registry.specs.declared.views.View.{View}
use Rattle.ev_registry.specs.declared.views.ViewRow.{ViewRow}
use Rattle.ev_dump.specs.Texts.{dump_tree, of_kind, row_tree}

neither : (a b : Bool) → a ≡ false → b ≡ false → (a || b) ≡ false
neither a b h k = ap (λ c. c || b) h ∙ k

rows_whole : (rows : List ViewRow) → items_have_float (items_of (map row_tree rows)) ≡ false
rows_whole [] = refl
rows_whole (row ∷ rows) = neither _ _ refl (rows_whole rows)

tree_whole : (shown : View) (entries : List Entry) → has_float (dump_tree shown entries) ≡ false
tree_whole shown entries =
    neither _ _ (rows_whole (of_kind Cds shown.rows)) (neither _ _ refl (neither _ _ refl (neither _ _ (rows_whole (of_kind Lds shown.rows)) refl)))

-- the same of what is equal to a dump's tree
pub dump_whole : (shown : View) (entries : List Entry) (d : Data) → d ≡ dump_tree shown entries → has_float d ≡ false
dump_whole shown entries d e = ap has_float e ∙ tree_whole shown entries
