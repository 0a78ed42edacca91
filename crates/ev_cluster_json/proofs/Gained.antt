-- What a tally gains over a list, one element after another.
use Rattle.std.proofs.Common.{◌≡◌, ℕ, ◌+◌, ◌<◌, ◌≤◌, ◌++◌, List, [], ◌∷◌, length, take, get_or, map, min, nat_lt, sym, ap, subst, ◌∙◌, rules, arith, append_assoc}
use Rattle.std.specs.List.{flat_map, sum_by}
use Rattle.std.proofs.lemmas.Bool.Decides.{nat_tests}
use Rattle.std.proofs.lemmas.List.{take_more, take_all, flat_map_more, map-append}
use Rattle.std.proofs.lemmas.List.Sums.{sum_by-append}
use Rattle.serde_json.specs.Data.{Data}
use Rattle.serde_json.specs.View.{view}
use Rattle.serde_json.specs.declared.value.Value.{Value}
use Rattle.ev_types.specs.Hosts.{HostRowParts}
use Rattle.ev_tree.specs.declared.broken.BrokenRules.{BrokenRules}
use Rattle.ev_tree.specs.Broken.{none_broken, either_broken, any_broken}
use Rattle.ev_tree.proofs.Unions.{either_assoc, either_none, any_push}
use Rattle.ev_cluster_json.specs.declared.tally.Tally.{Tally}
use Rattle.ev_cluster_json.specs.Tallies.{Gains, GainsOne, GainsAll}

-- the trees of one element more
pub seen_more : (vs : List Value) (i : ℕ) (v : Value) → i < length vs → v ≡ get_or vs i v → map view (take (i + 1) vs) ≡ map view (take i vs) ++ (view v ∷ [])
seen_more vs i v h is =
    ap (map view) (take_more vs i v h) ∙ map-append view (take i vs) (get_or vs i v ∷ []) ∙ ap (λ w. map view (take i vs) ++ (view w ∷ [])) (sym is)

flat_map_push : (f : Data → List HostRowParts) (xs : List Data) (x : Data) → flat_map f (xs ++ (x ∷ [])) ≡ flat_map f xs ++ f x
flat_map_push f xs x = sym (flat_map_more f [] xs x)

pub sum_push : (f : Data → ℕ) (xs : List Data) (x : Data) → sum_by f (xs ++ (x ∷ [])) ≡ sum_by f xs + f x
sum_push f xs x = sum_by-append f xs (x ∷ []) ∙ ap (λ n. sum_by f xs + n) (omega arith)

-- nothing is gained over nothing
pub gains_nothing : (t : Tally) → Gains t t none_broken []
gains_nothing t = record {
  broken = sym (either_none t.broken);
  rows = search rules;
}

-- over one element more
pub gains_more : (f : Data → BrokenRules) (rows : Data → List HostRowParts) (a b d : Tally) (xs ys : List Data) (x : Data)
    → ys ≡ xs ++ (x ∷ []) → GainsAll f rows a b xs → GainsOne f rows b d x → GainsAll f rows a d ys
gains_more f rows a b d xs ys x is so_far here = record {
  broken =
      here.broken ∙ ap (λ t. either_broken t (f x)) so_far.broken ∙ either_assoc a.broken (any_broken f xs) (f x)
      ∙ ap (either_broken a.broken) (sym (any_push f xs x) ∙ ap (any_broken f) (sym is));
  rows = here.rows ∙ ap (λ t. t ++ rows x) so_far.rows ∙ append_assoc a.rows.items (flat_map rows xs) (rows x) ∙ ap (λ t. a.rows.items ++ t) (sym (flat_map_push rows xs x) ∙ ap (flat_map rows) (sym is));
}

-- over all elements
pub gains_all : (f : Data → BrokenRules) (rows : Data → List HostRowParts) (a b : Tally) (vs : List Value) (n : ℕ) → length vs ≤ n
    → GainsAll f rows a b (map view (take n vs)) → GainsAll f rows a b (map view vs)
gains_all f rows a b vs n h so_far =
    let P : List Value → Type 0 = λ ws. GainsAll f rows a b (map view ws) in
    subst P (take_all n vs h) so_far

-- a capped sum of one weight more
pub cap_more : (sum total weight cap : ℕ) → total ≡ min sum cap → min (total + weight) cap ≡ min (sum + weight) cap
cap_more sum total weight cap is = omega arith

-- a cap above the limit doesn't show
pub cap_over : (sum : ℕ) → nat_lt 4294967295 (min sum 18446744073709551615) ≡ nat_lt 4294967295 sum
cap_over sum = grind (arith, nat_tests)
