-- What the searches of the lines so far find after one line more.
use Rattle.std.proofs.Common.{◌≡◌, ◌∙◌, false, List, [], ◌∷◌, ◌++◌, Option, None, Some, option_to_list, refl, sym, ap, append_assoc, arith}
use Rattle.std.specs.Prelude.{filter_map, unwrap_or}
use Rattle.std.specs.List.{last_or}
use Rattle.std.proofs.lemmas.List.{append-nil}
use Rattle.std.proofs.lemmas.List.Elements.{filter_map-append}
use Rattle.serde_json.specs.Data.{Data}
use Rattle.ev_types.specs.declared.contents.Kind.{Kind}
use Rattle.ev_types.specs.declared.events.Profile.{Profile}
use Rattle.ev_sotw.specs.Searches.{with_before}
use Rattle.ev_sotw.specs.Deltas.{stream_said, is_open_after, names_brought, last_names}

-- the last of a search, where one element more may be found
abbrev pub or_last : {A : Type 0} → Option A → A → A
or_last None before = before
or_last (Some found) before = found

last_more : {A : Type 0} (o : Option A) (xs : List A) (x : A) → last_or o (xs ++ x ∷ []) ≡ Some x
last_more o [] x = refl
last_more o (y ∷ xs) x = last_more (Some y) xs x

single : {A B : Type 0} (f : A → Option B) (x : A) → filter_map f (x ∷ []) ≡ option_to_list (f x)
single f x = by (f x) refl
  where
    by : (found : Option _) → f x ≡ found → filter_map f (x ∷ []) ≡ option_to_list found
    by None is = grind (arith, is)
    by (Some y) is = grind (arith, is)

last_found : {A : Type 0} (xs : List A) (found : Option A) (default : A)
    → unwrap_or (last_or None (xs ++ option_to_list found)) default ≡ or_last found (unwrap_or (last_or None xs) default)
last_found xs None default = ap (λ ys. unwrap_or (last_or None ys) default) (append-nil xs)
last_found xs (Some x) default = ap (λ o. unwrap_or o default) (last_more None xs x)

-- the last that a test finds, with an element more
pub search_more : {A B : Type 0} (f : A → Option B) (xs : List A) (x : A) (default : B)
    → unwrap_or (last_or None (filter_map f (xs ++ x ∷ []))) default ≡ or_last (f x) (unwrap_or (last_or None (filter_map f xs)) default)
search_more f xs x default =
    ap (λ ys. unwrap_or (last_or None ys) default) (filter_map-append f xs (x ∷ []) ∙ ap (λ ys. filter_map f xs ++ ys) (single f x))
    ∙ last_found (filter_map f xs) (f x) default

-- a line more, with all before it
pub with_before_more : {A : Type 0} (before lines : List A) (line : A) → with_before before (lines ++ line ∷ []) ≡ with_before before lines ++ (before ++ lines, line) ∷ []
with_before_more before [] line = ap (λ (ls : List _). (ls, line) ∷ []) (sym (append-nil before))
with_before_more before (first ∷ lines) line =
    ap (λ ps. (before, first) ∷ ps)
    (with_before_more (before ++ first ∷ []) lines line
    ∙ ap (λ (ls : List _). with_before (before ++ first ∷ []) lines ++ (ls, line) ∷ []) (append_assoc before (first ∷ []) lines))

pub open_more : (lines : List Data) (line : Data) → is_open_after (lines ++ line ∷ []) ≡ or_last (stream_said line) (is_open_after lines)
open_more lines line = search_more stream_said lines line false

pub names_more : (profile : Profile) (kind : Kind) (lines : List Data) (line : Data)
    → last_names profile kind (lines ++ line ∷ []) ≡ or_last (names_brought profile kind (lines, line)) (last_names profile kind lines)
names_more profile kind lines line =
    ap (λ ps. unwrap_or (last_or None (filter_map (names_brought profile kind) ps)) []) (with_before_more [] lines line)
    ∙ search_more (names_brought profile kind) (with_before [] lines) (lines, line) []
