-- What filters and chains serve, one after another.
use Rattle.std.proofs.Common.{◌≡◌, ℕ, ◌+◌, ◌<◌, ◌≤◌, ◌++◌, List, [], ◌∷◌, length, get_or, take, map, Option, Some, None, refl, ap, ◌∙◌, sym}
use Rattle.std.specs.Option.{option_or}
use Rattle.std.proofs.lemmas.List.{map_more, map-append, take_all}
use Rattle.ev_types.specs.declared.listeners.Serve.{Serve}
use Rattle.ev_listener_json.specs.Parts.{first_of}

first_push : (serves : List (Option Serve)) (serve : Option Serve) → first_of (serves ++ (serve ∷ [])) ≡ option_or (first_of serves) serve
first_push [] None = refl
first_push [] (Some serve) = refl
first_push (None ∷ serves) last = first_push serves last
first_push (Some serve ∷ serves) last = refl

-- one more part of a list
pub serve_more : {X D : Type 0} (f : X → D) (g : D → Option Serve) (xs : List X) (i : ℕ) (x : X) (done here next : Option Serve) → i < length xs → x ≡ get_or xs i x → done ≡ first_of (map g (map f (take i xs))) → here ≡ g (f x) → next ≡ option_or done here → next ≡ first_of (map g (map f (take (i + 1) xs)))
serve_more f g xs i x done here next lt at so is joined =
    joined ∙ (λ j. option_or (so j) ((is ∙ ap (λ e. g (f e)) at) j))
    ∙ sym (first_push (map g (map f (take i xs))) (g (f (get_or xs i x))))
    ∙ ap first_of (sym (map-append g (map f (take i xs)) (f (get_or xs i x) ∷ [])))
    ∙ ap (λ l. first_of (map g l)) (sym (map_more f xs i x lt))

-- all parts
pub serve_all : {X D : Type 0} (f : X → D) (g : D → Option Serve) (xs : List X) (i : ℕ) (done : Option Serve) → length xs ≤ i → done ≡ first_of (map g (map f (take i xs))) → done ≡ first_of (map g (map f xs))
serve_all f g xs i done end so = so ∙ ap (λ l. first_of (map g (map f l))) (take_all i xs end)
