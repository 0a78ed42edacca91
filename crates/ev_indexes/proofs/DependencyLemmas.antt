-- Tests of what a content depends on.
use Rattle.std.proofs.Common.{◌≡◌, ◌∙◌, Bool, true, false, ◌&&◌, ◌||◌, List, [], ◌∷◌, refl, sym, ap, true≢false}
use Rattle.std.specs.List.{list_any, list_all, AllByRecursion}
use Rattle.ev_model.specs.Watching.{Dependency}

-- tests that agree
pub any-same : (p q : Dependency → Bool) → ((d : Dependency) → p d ≡ q d) → (ds : List Dependency) → list_any p ds ≡ list_any q ds
any-same p q same [] = refl
any-same p q same (d ∷ ds) = λ i. same d i || any-same p q same ds i

pub all-same : (p q : Dependency → Bool) → ((d : Dependency) → p d ≡ q d) → (ds : List Dependency) → list_all p ds ≡ list_all q ds
all-same p q same [] = refl
all-same p q same (d ∷ ds) = λ i. same d i && all-same p q same ds i

-- tests that agree on each of these
pub all-each : (P : Dependency → Type 0) (p q : Dependency → Bool) → ((d : Dependency) → P d → p d ≡ q d) → (ds : List Dependency) → AllByRecursion P ds → list_all p ds ≡ list_all q ds
all-each P p q same [] all = refl
all-each P p q same (d ∷ ds) all = λ i. same d all.0 i && all-each P p q same ds all.1 i

-- where one passes the narrower test, one passes the wider one
pub any-wider : (p q : Dependency → Bool) → ((d : Dependency) → p d ≡ true → q d ≡ true) → (ds : List Dependency) → list_any p ds ≡ true → list_any q ds ≡ true
any-wider p q wider [] h = absurd (true≢false (sym h))
any-wider p q wider (d ∷ ds) h = by (p d) refl h (any-wider p q wider ds)
  where
    late : (b : Bool) → (b || true) ≡ true
    late true = refl
    late false = refl

    by : (b : Bool) → p d ≡ b → (b || list_any p ds) ≡ true → (list_any p ds ≡ true → list_any q ds ≡ true) → (q d || list_any q ds) ≡ true
    by true e h rest = ap (λ b. b || list_any q ds) (wider d e)
    by false e h rest = (λ i. q d || rest h i) ∙ late (q d)
