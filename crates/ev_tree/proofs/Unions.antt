-- What parts break, joined.
use Rattle.std.proofs.Common.{◌≡◌, ℕ, ◌+◌, ◌<◌, ◌≤◌, ◌++◌, ◌||◌, Bool, true, false, List, [], ◌∷◌, length, take, get_or, map, None, refl, sym, ap, ◌∙◌}
use Rattle.std.specs.List.{list_any}
use Rattle.std.proofs.lemmas.List.{map_more, take_all, map-append}
use Rattle.std.proofs.lemmas.List.Folds.{list_any-append}
use Rattle.ev_tree.specs.declared.broken.BrokenRules.{BrokenRules}
use Rattle.ev_tree.specs.Broken.{none_broken, either_broken, any_broken, rules_of, least_of}
use Rattle.ev_tree.proofs.Leasts.{all_kept}

pub or_assoc : (a b d : Bool) → ((a || b) || d) ≡ (a || (b || d))
or_assoc true b d = refl
or_assoc false b d = refl

pub or_false : (a : Bool) → (a || false) ≡ a
or_false true = refl
or_false false = refl

list_any_push : {A : Type 0} (test : A → Bool) (xs : List A) (x : A) → list_any test (xs ++ (x ∷ [])) ≡ (list_any test xs || test x)
list_any_push test xs x = list_any-append test xs (x ∷ []) ∙ ap (λ b. list_any test xs || b) (or_false (test x))

pub either_assoc : (a b d : BrokenRules) → either_broken (either_broken a b) d ≡ either_broken a (either_broken b d)
either_assoc a b d = λ i. record {
  v1 = or_assoc a.v1 b.v1 d.v1 i;
  v2 = or_assoc a.v2 b.v2 d.v2 i;
  v3 = or_assoc a.v3 b.v3 d.v3 i;
  v6 = or_assoc a.v6 b.v6 d.v6 i;
  v7 = or_assoc a.v7 b.v7 d.v7 i;
  v8 = or_assoc a.v8 b.v8 d.v8 i;
  v9 = or_assoc a.v9 b.v9 d.v9 i;
  v10 = or_assoc a.v10 b.v10 d.v10 i;
  v11 = or_assoc a.v11 b.v11 d.v11 i;
  v12 = or_assoc a.v12 b.v12 d.v12 i;
  v13 = or_assoc a.v13 b.v13 d.v13 i;
  v14 = or_assoc a.v14 b.v14 d.v14 i;
  v16 = or_assoc a.v16 b.v16 d.v16 i;
  v17 = or_assoc a.v17 b.v17 d.v17 i;
  v18 = or_assoc a.v18 b.v18 d.v18 i;
  v19 = or_assoc a.v19 b.v19 d.v19 i;
  v20 = or_assoc a.v20 b.v20 d.v20 i;
  v21 = or_assoc a.v21 b.v21 d.v21 i;
  v22 = or_assoc a.v22 b.v22 d.v22 i;
  v23 = or_assoc a.v23 b.v23 d.v23 i;
  v24 = or_assoc a.v24 b.v24 d.v24 i;
  v25 = or_assoc a.v25 b.v25 d.v25 i;
  v26 = or_assoc a.v26 b.v26 d.v26 i;
  v27 = or_assoc a.v27 b.v27 d.v27 i;
  v28 = or_assoc a.v28 b.v28 d.v28 i;
  v29 = or_assoc a.v29 b.v29 d.v29 i;
}

pub either_none : (a : BrokenRules) → either_broken a none_broken ≡ a
either_none a = λ i. record {
  v1 = or_false a.v1 i;
  v2 = or_false a.v2 i;
  v3 = or_false a.v3 i;
  v6 = or_false a.v6 i;
  v7 = or_false a.v7 i;
  v8 = or_false a.v8 i;
  v9 = or_false a.v9 i;
  v10 = or_false a.v10 i;
  v11 = or_false a.v11 i;
  v12 = or_false a.v12 i;
  v13 = or_false a.v13 i;
  v14 = or_false a.v14 i;
  v16 = or_false a.v16 i;
  v17 = or_false a.v17 i;
  v18 = or_false a.v18 i;
  v19 = or_false a.v19 i;
  v20 = or_false a.v20 i;
  v21 = or_false a.v21 i;
  v22 = or_false a.v22 i;
  v23 = or_false a.v23 i;
  v24 = or_false a.v24 i;
  v25 = or_false a.v25 i;
  v26 = or_false a.v26 i;
  v27 = or_false a.v27 i;
  v28 = or_false a.v28 i;
  v29 = or_false a.v29 i;
}

-- one part more
pub any_push : {A : Type 0} (broken : A → BrokenRules) (xs : List A) (x : A) → any_broken broken (xs ++ (x ∷ [])) ≡ either_broken (any_broken broken xs) (broken x)
any_push broken xs x = λ i. record {
  v1 = list_any_push (λ part. (broken part).v1) xs x i;
  v2 = list_any_push (λ part. (broken part).v2) xs x i;
  v3 = list_any_push (λ part. (broken part).v3) xs x i;
  v6 = list_any_push (λ part. (broken part).v6) xs x i;
  v7 = list_any_push (λ part. (broken part).v7) xs x i;
  v8 = list_any_push (λ part. (broken part).v8) xs x i;
  v9 = list_any_push (λ part. (broken part).v9) xs x i;
  v10 = list_any_push (λ part. (broken part).v10) xs x i;
  v11 = list_any_push (λ part. (broken part).v11) xs x i;
  v12 = list_any_push (λ part. (broken part).v12) xs x i;
  v13 = list_any_push (λ part. (broken part).v13) xs x i;
  v14 = list_any_push (λ part. (broken part).v14) xs x i;
  v16 = list_any_push (λ part. (broken part).v16) xs x i;
  v17 = list_any_push (λ part. (broken part).v17) xs x i;
  v18 = list_any_push (λ part. (broken part).v18) xs x i;
  v19 = list_any_push (λ part. (broken part).v19) xs x i;
  v20 = list_any_push (λ part. (broken part).v20) xs x i;
  v21 = list_any_push (λ part. (broken part).v21) xs x i;
  v22 = list_any_push (λ part. (broken part).v22) xs x i;
  v23 = list_any_push (λ part. (broken part).v23) xs x i;
  v24 = list_any_push (λ part. (broken part).v24) xs x i;
  v25 = list_any_push (λ part. (broken part).v25) xs x i;
  v26 = list_any_push (λ part. (broken part).v26) xs x i;
  v27 = list_any_push (λ part. (broken part).v27) xs x i;
  v28 = list_any_push (λ part. (broken part).v28) xs x i;
  v29 = list_any_push (λ part. (broken part).v29) xs x i;
}

-- where no rule is the least, none is broken
pub least_none : (a : BrokenRules) → least_of a ≡ None → a ≡ none_broken
least_none a none =
    let kept = all_kept (rules_of a) none in
    λ i. record {
      v1 = kept.0 i;
      v2 = kept.1.0 i;
      v3 = kept.1.1.0 i;
      v6 = kept.1.1.1.0 i;
      v7 = kept.1.1.1.1.0 i;
      v8 = kept.1.1.1.1.1.0 i;
      v9 = kept.1.1.1.1.1.1.0 i;
      v10 = kept.1.1.1.1.1.1.1.0 i;
      v11 = kept.1.1.1.1.1.1.1.1.0 i;
      v12 = kept.1.1.1.1.1.1.1.1.1.0 i;
      v13 = kept.1.1.1.1.1.1.1.1.1.1.0 i;
      v14 = kept.1.1.1.1.1.1.1.1.1.1.1.0 i;
      v16 = kept.1.1.1.1.1.1.1.1.1.1.1.1.0 i;
      v17 = kept.1.1.1.1.1.1.1.1.1.1.1.1.1.0 i;
      v18 = kept.1.1.1.1.1.1.1.1.1.1.1.1.1.1.0 i;
      v19 = kept.1.1.1.1.1.1.1.1.1.1.1.1.1.1.1.0 i;
      v20 = kept.1.1.1.1.1.1.1.1.1.1.1.1.1.1.1.1.0 i;
      v21 = kept.1.1.1.1.1.1.1.1.1.1.1.1.1.1.1.1.1.0 i;
      v22 = kept.1.1.1.1.1.1.1.1.1.1.1.1.1.1.1.1.1.1.0 i;
      v23 = kept.1.1.1.1.1.1.1.1.1.1.1.1.1.1.1.1.1.1.1.0 i;
      v24 = kept.1.1.1.1.1.1.1.1.1.1.1.1.1.1.1.1.1.1.1.1.0 i;
      v25 = kept.1.1.1.1.1.1.1.1.1.1.1.1.1.1.1.1.1.1.1.1.1.0 i;
      v26 = kept.1.1.1.1.1.1.1.1.1.1.1.1.1.1.1.1.1.1.1.1.1.1.0 i;
      v27 = kept.1.1.1.1.1.1.1.1.1.1.1.1.1.1.1.1.1.1.1.1.1.1.1.0 i;
      v28 = kept.1.1.1.1.1.1.1.1.1.1.1.1.1.1.1.1.1.1.1.1.1.1.1.1.0 i;
      v29 = kept.1.1.1.1.1.1.1.1.1.1.1.1.1.1.1.1.1.1.1.1.1.1.1.1.1.0 i;
    }

-- one element of a list more, made into what it is worth
pub made_more : {X D Y : Type 0} (f : X → D) (g : D → Y) (xs : List X) (i : ℕ) (x : X) (y : Y) (ys zs : List Y) → i < length xs → x ≡ get_or xs i x → ys ≡ map g (map f (take i xs)) → y ≡ g (f x) → zs ≡ ys ++ y ∷ [] → zs ≡ map g (map f (take (i + 1) xs))
made_more f g xs i x y ys zs lt at so here next =
    next ∙ ap (λ l. l ++ y ∷ []) so ∙ ap (λ e. map g (map f (take i xs)) ++ e ∷ []) (here ∙ ap (λ e. g (f e)) at)
    ∙ sym (ap (map g) (map_more f xs i x lt) ∙ map-append g (map f (take i xs)) (f (get_or xs i x) ∷ []))

-- the same of what it breaks
pub broken_more : {X D : Type 0} (f : X → D) (broken : D → BrokenRules) (xs : List X) (i : ℕ) (x : X) (done here next : BrokenRules) → i < length xs → x ≡ get_or xs i x → done ≡ any_broken broken (map f (take i xs)) → here ≡ broken (f x) → next ≡ either_broken done here → next ≡ any_broken broken (map f (take (i + 1) xs))
broken_more f broken xs i x done here next lt at so is joined =
    joined ∙ (λ j. either_broken (so j) ((is ∙ ap (λ e. broken (f e)) at) j)) ∙ sym (any_push broken (map f (take i xs)) (f (get_or xs i x)))
    ∙ ap (any_broken broken) (sym (map_more f xs i x lt))

-- all elements
pub broken_all : {X D : Type 0} (f : X → D) (broken : D → BrokenRules) (xs : List X) (i : ℕ) (done : BrokenRules) → length xs ≤ i → done ≡ any_broken broken (map f (take i xs)) → done ≡ any_broken broken (map f xs)
broken_all f broken xs i done end so = so ∙ ap (λ l. any_broken broken (map f l)) (take_all i xs end)
