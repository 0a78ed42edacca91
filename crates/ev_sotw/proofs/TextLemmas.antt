-- The text, as entries come one after another.
use Rattle.std.proofs.Common.{◌≡◌, ◌∙◌, ℕ, ◌+◌, ◌<◌, List, [], ◌∷◌, ◌++◌, length, map, take, get_or, sym, ap, append_assoc}
use Rattle.std.specs.List.{flat_map}
use Rattle.std.proofs.lemmas.List.{append-nil, map-append, take_more}
use Rattle.std.proofs.lemmas.Grind.{flat_map-append}
use Rattle.ev_types.specs.declared.events.Entry.{Entry}
use Rattle.ev_sotw.specs.Searches.{with_before}
use Rattle.ev_sotw.proofs.SearchLemmas.{with_before_more}
use Rattle.ev_sotw.specs.Stated.{Stated, sotw_line}
use Rattle.ev_sotw.specs.Text.{stated_by, lines_told}

pub stated_more : (versions : List (List ℕ)) (journal : List Entry) (i : ℕ) (entry : Entry) → i < length journal → entry ≡ get_or journal i entry
    → map (stated_by versions) (take (i + 1) journal) ≡ map (stated_by versions) (take i journal) ++ stated_by versions entry ∷ []
stated_more versions journal i entry within is =
    ap (map (stated_by versions)) (take_more journal i entry within) ∙ map-append (stated_by versions) (take i journal) (get_or journal i entry ∷ [])
    ∙ ap (λ e. map (stated_by versions) (take i journal) ++ stated_by versions e ∷ []) (sym is)

abbrev placed_line : List Stated × Stated → List ℕ
placed_line placed = sotw_line placed.0 placed.1

told_more : (entries : List Stated) (stated : Stated) → lines_told (entries ++ stated ∷ []) ≡ lines_told entries ++ sotw_line entries stated
told_more entries stated =
    ap (flat_map placed_line) (with_before_more [] entries stated)
    ∙ flat_map-append placed_line (with_before [] entries) ((entries, stated) ∷ [])
    ∙ ap (λ xs. lines_told entries ++ xs) (append-nil (sotw_line entries stated))

-- a line more after the first line and the lines so far
pub lines_more : (first : List ℕ) (entries : List Stated) (stated : Stated) (text : List ℕ) → text ≡ first ++ lines_told entries
    → text ++ sotw_line entries stated ≡ first ++ lines_told (entries ++ stated ∷ [])
lines_more first entries stated text is =
    ap (λ xs. xs ++ sotw_line entries stated) is ∙ append_assoc first (lines_told entries) (sotw_line entries stated)
    ∙ ap (λ xs. first ++ xs) (sym (told_more entries stated))
