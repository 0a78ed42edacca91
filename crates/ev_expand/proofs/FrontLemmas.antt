-- One more line after others.
use Rattle.std.proofs.Common.{◌≡◌, Bool, true, false, cond, List, [], ◌∷◌, ◌++◌, map, filter, flat_map, refl, ap, ◌∙◌}
use Rattle.std.proofs.lemmas.List.{map-append, append-nil}
use Rattle.std.proofs.lemmas.List.Elements.{filter-append}
use Rattle.std.proofs.lemmas.Grind.{flat_map-append}
use Rattle.serde_json.specs.Data.{Data}
use Rattle.ev_types.specs.declared.events.Profile.{Profile}
use Rattle.ev_expand.specs.Fronts.{Front, up_to, fronts, behind, stream_at, heard}
use Rattle.ev_expand.specs.Growing.{front_of}

-- the prefixes of some lines and one more
pub fronts-push : (lines : List Data) (line : Data) → fronts (lines ++ line ∷ []) ≡ fronts lines ++ front_of lines line ∷ []
fronts-push [] line = refl
fronts-push (first ∷ lines) line =
    ap (λ (fs : List Front). front_of [] first ∷ map (behind first) fs) (fronts-push lines line)
    ∙ ap (λ (fs : List Front). front_of [] first ∷ fs) (map-append (behind first) (fronts lines) (front_of lines line ∷ []))

-- what each prefix gives, with one more line
pub flat-push : {A : Type 0} (f : Front → List A) (lines : List Data) (line : Data) → flat_map f (fronts (lines ++ line ∷ [])) ≡ flat_map f (fronts lines) ++ f (front_of lines line)
flat-push f lines line =
    ap (flat_map f) (fronts-push lines line) ∙ flat_map-append f (fronts lines) (front_of lines line ∷ [])
    ∙ ap (λ xs. flat_map f (fronts lines) ++ xs) (append-nil (f (front_of lines line)))

heard_last : (b : Bool) (line : Data) (fs : List Front) (f : Front) → f.line ≡ line → map (λ (front : Front). front.line) (cond b (f ∷ []) []) ≡ cond b (line ∷ []) []
heard_last true line fs f e = ap (λ (l : Data). l ∷ []) e
heard_last false line fs f e = refl

-- the line is heard too, where a stream is open after it
pub heard-push : (profile : Profile) (lines : List Data) (line : Data) → heard profile (lines ++ line ∷ []) ≡ heard profile lines ++ cond (stream_at profile (lines ++ line ∷ [])) (line ∷ []) []
heard-push profile lines line =
    ap (λ (fs : List Front). map (λ (front : Front). front.line) (filter (λ front. stream_at profile (up_to front)) fs)) (fronts-push lines line)
    ∙ ap (map (λ (front : Front). front.line)) (filter-append (λ front. stream_at profile (up_to front)) (fronts lines) (front_of lines line ∷ []))
    ∙ map-append (λ (front : Front). front.line) (filter (λ front. stream_at profile (up_to front)) (fronts lines)) (filter (λ front. stream_at profile (up_to front)) (front_of lines line ∷ []))
    ∙ ap (λ xs. heard profile lines ++ xs) (heard_last (stream_at profile (lines ++ line ∷ [])) line (fronts lines) (front_of lines line) refl)
