-- One more chain that is kept, at its place.
use Rattle.std.proofs.Common.{◌≡◌, ◌∙◌, Bool, true, false, cond, List, [], ◌∷◌, ◌++◌, find, Option, None, Some, is_some, option_map, refl, sym, ap, true≢false}
use Rattle.std.specs.Option.{option_or}
use Rattle.std.proofs.lemmas.List.Folds.{find-append}
use Rattle.ev_types.specs.Origins.{chain_place_same, chain_place_decides}
use Rattle.ev_types.specs.declared.origins.ChainPlace.{ChainPlace}
use Rattle.ev_types.specs.declared.origins.KeptChain.{KeptChain}
use Rattle.ev_types.specs.declared.origins.Origin.{Origin}
use Rattle.ev_model.specs.Origins.{kept_at}

-- what is found at a place with one chain more
kept-more : (kept : List KeptChain) (chain : KeptChain) (place : ChainPlace)
    → kept_at (kept ++ chain ∷ []) place ≡ option_or (kept_at kept place) (cond (chain_place_same chain.place place) (Some chain.origin) None)
kept-more kept chain place =
    let at = λ (k : KeptChain). chain_place_same k.place place in
    ap (option_map (λ (k : KeptChain). k.origin)) (find-append at kept (chain ∷ []))
    ∙ by (find at kept) (chain_place_same chain.place place)
  where
    by : (found : Option KeptChain) (same : Bool)
        → option_map (λ (k : KeptChain). k.origin) (option_or found (cond same (Some chain) None))
        ≡ option_or (option_map (λ (k : KeptChain). k.origin) found) (cond same (Some chain.origin) None)
    by None true = refl
    by None false = refl
    by (Some k) true = refl
    by (Some k) false = refl

module _ (old : ChainPlace → Option Origin) (chain : KeptChain) (kept : List KeptChain) (are : (place : ChainPlace) → old place ≡ kept_at kept place) where
  -- the chain is put in, where none is at its place
  pub keeps-new : (new : ChainPlace → Option Origin) → is_some (old chain.place) ≡ false
      → ((place : ChainPlace) → new place ≡ cond (chain_place_same chain.place place) (Some chain.origin) (old place))
      → (place : ChainPlace) → new place ≡ kept_at (kept ++ chain ∷ []) place
  keeps-new new none is place =
      is place ∙ by (chain_place_same chain.place place) refl ∙ sym (kept-more kept chain place)
    where
      by : (same : Bool) → chain_place_same chain.place place ≡ same
          → cond same (Some chain.origin) (old place) ≡ option_or (kept_at kept place) (cond same (Some chain.origin) None)
      by true same =
          let there : chain.place ≡ place = (chain_place_decides chain.place place).0 same in
          ap (λ (o : Option Origin). option_or o (Some chain.origin)) (sym (nothing (old chain.place) none) ∙ ap old there ∙ are place)
        where
          nothing : (o : Option Origin) → is_some o ≡ false → o ≡ None
          nothing None h = refl
          nothing (Some origin) h = absurd (true≢false h)
      by false same = are place ∙ or_none (kept_at kept place)
        where
          or_none : (o : Option Origin) → o ≡ option_or o None
          or_none None = refl
          or_none (Some origin) = refl

  -- nothing is put in, where one is
  pub keeps-old : is_some (old chain.place) ≡ true → (place : ChainPlace) → old place ≡ kept_at (kept ++ chain ∷ []) place
  keeps-old some place =
      are place ∙ by (chain_place_same chain.place place) refl ∙ sym (kept-more kept chain place)
    where
      by : (same : Bool) → chain_place_same chain.place place ≡ same
          → kept_at kept place ≡ option_or (kept_at kept place) (cond same (Some chain.origin) None)
      by true same =
          let there : chain.place ≡ place = (chain_place_decides chain.place place).0 same in
          found (kept_at kept place) (ap is_some (sym (are place) ∙ sym (ap old there)) ∙ some)
        where
          found : (o : Option Origin) → is_some o ≡ true → o ≡ option_or o (Some chain.origin)
          found None h = absurd (true≢false (sym h))
          found (Some origin) h = refl
      by false same = or_none (kept_at kept place)
        where
          or_none : (o : Option Origin) → o ≡ option_or o None
          or_none None = refl
          or_none (Some origin) = refl
