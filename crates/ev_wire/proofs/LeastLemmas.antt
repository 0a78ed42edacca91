-- The rule that refuses a resource is the least of all that it breaks.
use Rattle.std.proofs.Common.{ℕ, ◌≤◌, ◌⊎◌, inl, inr, Bool, true, false, min, if◌then◌else◌, List, [], ◌∷◌, ◌||◌, ◌∙◌, ◌≡◌, Option, Some, None, refl, sym, subst, arith, rules}
use Rattle.std.proofs.Math.Nat.{min-le_left, min-le_right, min-eq_left, min-eq_right}
use Rattle.std.proofs.lemmas.Bool.Decides.{leb_tells}
use Rattle.serde_json.specs.Data.{Data}
use Rattle.ev_types.specs.declared.events.Profile.{Profile}
use Rattle.ev_types.specs.declared.contents.Kind.{Kind}
use Rattle.ev_types.specs.declared.contents.Kind.TheVariants.{Cds, Eds, Lds, Rds, Sds, Ecds}
use Rattle.ev_types.specs.declared.contents.Content.{Content}
use Rattle.ev_types.specs.declared.contents.Content.TheVariants.{Cluster, Assignment, Listener, Routes, Secret, Extension}
use Rattle.ev_types.specs.declared.contents.Body.{Body}
use Rattle.ev_types.specs.declared.contents.Body.TheVariants.{Bad, Beat}
use Rattle.ev_tree.specs.declared.outcome.Found.{Found}
use Rattle.ev_tree.specs.declared.span.Span.{Span}
use Rattle.ev_tree.specs.Forms.{inside}
use Rattle.ev_tree.specs.declared.broken.BrokenRules.{BrokenRules}
use Rattle.ev_tree.specs.Rules.{judged, IsBroken, IsLeast, AllAbove, IsAscending}
use Rattle.ev_tree.specs.Broken.{none_broken, either_broken, rules_of, least_of}
use Rattle.ev_tree.proofs.Leasts.{least_is_least}
use Rattle.ev_cluster_json.specs.Clusters.{cluster_broken, cluster_of}
use Rattle.ev_cluster_json.specs.Assignments.{assignment_broken, rows_of}
use Rattle.ev_route_json.specs.Tables.{table_broken, table_of}
use Rattle.ev_listener_json.specs.Listeners.{listener_broken, listener_of}
use Rattle.ev_secret_json.specs.Resources.{secret_broken, config_broken}
use Rattle.ev_wire.specs.Bodies.{is_heartbeat, breaks_v1, own_broken, resource_of, body_of, body_with, content_of, content_with, content_broken, item_broken, rule_in}

-- ---- a rule that one of two parts breaks

-- the same rules, each broken where one of two says so
abbrev joined : List (ℕ × Bool) → List (ℕ × Bool) → List (ℕ × Bool)
joined [] others = []
joined (rule ∷ own) [] = []
joined (rule ∷ own) (other ∷ others) = (rule.0, rule.1 || other.1) ∷ joined own others

-- two lists of the same rules in the same order
abbrev AreSame : List (ℕ × Bool) → List (ℕ × Bool) → Type 0
AreSame [] [] = Unit {0}
AreSame [] (other ∷ others) = ⊥
AreSame (rule ∷ own) [] = ⊥
AreSame (rule ∷ own) (other ∷ others) = (rule.0 ≡ other.0) × AreSame own others

either : (a b : Bool) → (a || b) ≡ true → (a ≡ true) ⊎ (b ≡ true)
either true b h = inl refl
either false b h = inr h

or_left : (a b : Bool) → a ≡ true → (a || b) ≡ true
or_left true b h = refl
or_left false b h = cc

or_right : (a b : Bool) → b ≡ true → (a || b) ≡ true
or_right true b h = refl
or_right false b h = h

split : (m : ℕ) (own others : List (ℕ × Bool)) → AreSame own others → IsBroken m (joined own others) → IsBroken m own ⊎ IsBroken m others
split m [] others same broken = absurd broken
split m (rule ∷ own) [] same broken = absurd broken
split m (rule ∷ own) (other ∷ others) same (inl here) = of_one (either rule.1 other.1 here.1)
  where
    of_one : (rule.1 ≡ true) ⊎ (other.1 ≡ true) → IsBroken m (rule ∷ own) ⊎ IsBroken m (other ∷ others)
    of_one (inl h) = inl (inl (here.0, h))
    of_one (inr h) = inr (inl (sym same.0 ∙ here.0, h))
split m (rule ∷ own) (other ∷ others) same (inr later) = passed (split m own others same.1 later)
  where
    passed : IsBroken m own ⊎ IsBroken m others → IsBroken m (rule ∷ own) ⊎ IsBroken m (other ∷ others)
    passed (inl h) = inl (inr h)
    passed (inr h) = inr (inr h)

of_own : (m : ℕ) (own others : List (ℕ × Bool)) → AreSame own others → IsBroken m own → IsBroken m (joined own others)
of_own m [] others same broken = absurd broken
of_own m (rule ∷ own) [] same broken = absurd same
of_own m (rule ∷ own) (other ∷ others) same (inl here) = inl (here.0, or_left rule.1 other.1 here.1)
of_own m (rule ∷ own) (other ∷ others) same (inr later) = inr (of_own m own others same.1 later)

of_others : (m : ℕ) (own others : List (ℕ × Bool)) → AreSame own others → IsBroken m others → IsBroken m (joined own others)
of_others m [] [] same broken = absurd broken
of_others m [] (other ∷ others) same broken = absurd same
of_others m (rule ∷ own) [] same broken = absurd broken
of_others m (rule ∷ own) (other ∷ others) same (inl here) = inl (same.0 ∙ here.0, or_right rule.1 other.1 here.1)
of_others m (rule ∷ own) (other ∷ others) same (inr later) = inr (of_others m own others same.1 later)

same_rules : (a b : BrokenRules) → AreSame (rules_of a) (rules_of b)
same_rules a b = (refl, (refl, (refl, (refl, (refl, (refl, (refl, (refl, (refl, (refl, (refl, (refl, (refl, (refl, (refl, (refl, (refl, (refl, (refl, (refl, (refl, (refl, (refl, (refl, (refl, (refl, tt))))))))))))))))))))))))))

-- ---- the lesser of two

min_broken : (k n : ℕ) (rules : List (ℕ × Bool)) → IsBroken k rules → IsBroken n rules → IsBroken (min k n) rules
min_broken k n rules first second =
    let P : ℕ → Type 0 = λ m. IsBroken m rules in
    elim (leb_tells k n) [ inl h ↦ subst P (sym (min-eq_left h.1)) first | inr h ↦ subst P (sym (min-eq_right (omega (arith, h.1)))) second ]

lesser : {A : Type 0} (a b : BrokenRules) (content : A → Content) (value : A) (x y : Option ℕ) → IsLeast (rules_of a) x → IsLeast (rules_of b) y
    → IsLeast (rules_of (either_broken a b)) (rule_in (body_with x (content_with content (judged y value))))
lesser a b content value None None first second =
    λ m broken. elim (split m (rules_of a) (rules_of b) (same_rules a b) broken) [ inl h ↦ first m h | inr h ↦ second m h ]
lesser a b content value None (Some n) first second = (
  of_others n (rules_of a) (rules_of b) (same_rules a b) second.0,
  λ m broken. elim (split m (rules_of a) (rules_of b) (same_rules a b) broken) [ inl h ↦ absurd (first m h) | inr h ↦ second.1 m h ],
)
lesser a b content value (Some k) None first second = (
  of_own k (rules_of a) (rules_of b) (same_rules a b) first.0,
  λ m broken. elim (split m (rules_of a) (rules_of b) (same_rules a b) broken) [ inl h ↦ first.1 m h | inr h ↦ absurd (second m h) ],
)
lesser a b content value (Some k) (Some n) first second = (
  min_broken k n (rules_of (either_broken a b)) (of_own k (rules_of a) (rules_of b) (same_rules a b) first.0)
      (of_others n (rules_of a) (rules_of b) (same_rules a b) second.0),
  λ m broken. elim (split m (rules_of a) (rules_of b) (same_rules a b) broken)
      [ inl h ↦ omega (arith, min-le_left k n, first.1 m h) | inr h ↦ omega (arith, min-le_right k n, second.1 m h) ],
)

ascending : (a : BrokenRules) → IsAscending (rules_of a)
ascending a = search rules

least_broken : (a : BrokenRules) → IsLeast (rules_of a) (least_of a)
least_broken a = least_is_least (rules_of a) (ascending a)

of_own_and_content : (profile : Profile) (kind : Kind) (name : List ℕ) (ttl : Found Span) (body : Data)
    → IsLeast (rules_of (either_broken (own_broken kind name ttl body) (content_broken profile kind body)))
    (rule_in (body_with (least_of (own_broken kind name ttl body)) (content_of profile kind body)))
unfolding content_of
of_own_and_content profile Cds name ttl body =
    lesser (own_broken Cds name ttl body) (cluster_broken profile body) Cluster (cluster_of profile body) _ _ (least_broken (own_broken Cds name ttl body)) (least_broken (cluster_broken profile body))
of_own_and_content profile Eds name ttl body =
    lesser (own_broken Eds name ttl body) (assignment_broken profile body) Assignment (rows_of profile body) _ _ (least_broken (own_broken Eds name ttl body)) (least_broken (assignment_broken profile body))
of_own_and_content profile Lds name ttl body =
    lesser (own_broken Lds name ttl body) (listener_broken profile body) Listener (listener_of profile body) _ _ (least_broken (own_broken Lds name ttl body)) (least_broken (listener_broken profile body))
of_own_and_content profile Rds name ttl body =
    lesser (own_broken Rds name ttl body) (table_broken profile body) Routes (table_of profile body) _ _ (least_broken (own_broken Rds name ttl body)) (least_broken (table_broken profile body))
of_own_and_content profile Sds name ttl body =
    lesser (own_broken Sds name ttl body) (secret_broken body) (λ good. Secret) tt _ _ (least_broken (own_broken Sds name ttl body)) (least_broken (secret_broken body))
of_own_and_content profile Ecds name ttl body =
    lesser (own_broken Ecds name ttl body) (config_broken body) (λ good. Extension) tt _ _ (least_broken (own_broken Ecds name ttl body)) (least_broken (config_broken body))

-- ---- V1 before all others

above_broken : (n m : ℕ) (rules : List (ℕ × Bool)) → AllAbove n rules → IsBroken m rules → n ≤ m
above_broken n m [] above broken = absurd broken
above_broken n m (rule ∷ rules) above (inl here) = omega (arith, here.0, above.0)
above_broken n m (rule ∷ rules) above (inr later) = above_broken n m rules above.1 later

-- V1 comes first, and is broken
abbrev IsFirstBroken : List (ℕ × Bool) → Type 0
IsFirstBroken [] = ⊥
IsFirstBroken (rule ∷ rules) = (rule.0 ≡ 1) × (rule.1 ≡ true)

first_broken : (rules : List (ℕ × Bool)) → IsAscending rules → IsFirstBroken rules → IsLeast rules (Some 1)
first_broken [] ascending first = absurd first
first_broken (rule ∷ rules) ascending first = (inl first, bounded)
  where
    bounded : (m : ℕ) → IsBroken m (rule ∷ rules) → 1 ≤ m
    bounded m (inl here) = omega (arith, here.0, first.0)
    bounded m (inr later) = omega (arith, first.0, above_broken rule.0 m rules ascending.0 later)

first_of_all : (a : BrokenRules) → a.v1 ≡ true → IsLeast (rules_of a) (Some 1)
first_of_all a is = first_broken (rules_of a) (ascending a) (refl, is)

by_type : (b : Bool) (own content : BrokenRules) (body : Body) → own.v1 ≡ b → IsLeast (rules_of (either_broken own content)) (rule_in body)
    → IsLeast (rules_of (either_broken own content)) (rule_in (if b then Bad 1 else body))
by_type true own content body is others = first_of_all (either_broken own content) (or_left own.v1 content.v1 is)
by_type false own content body is others = others

resource_least : (profile : Profile) (kind : Kind) (name : List ℕ) (ttl : Found Span) (body : Data)
    → IsLeast (rules_of (either_broken (own_broken kind name ttl body) (content_broken profile kind body))) (rule_in (resource_of profile kind name ttl body))
unfolding resource_of
resource_least profile kind name ttl body =
    by_type (breaks_v1 kind body) (own_broken kind name ttl body) (content_broken profile kind body) _ refl (of_own_and_content profile kind name ttl body)

by_heartbeat : (b : Bool) (broken : BrokenRules) (body : Body) → IsLeast (rules_of broken) (rule_in body)
    → IsLeast (rules_of (if b then none_broken else broken)) (rule_in (if b then Beat else body))
by_heartbeat true broken body others = least_broken none_broken
by_heartbeat false broken body others = others

-- the rule that refuses an item is the least that is broken; a good one and a heartbeat break none
pub body_least : (profile : Profile) (kind : Kind) (name : List ℕ) (ttl : Found Span) (resource : Found Data)
    → IsLeast (rules_of (item_broken profile kind name ttl resource)) (rule_in (body_of profile kind name ttl resource))
unfolding body_of
body_least profile kind name ttl resource =
    by_heartbeat (is_heartbeat name ttl resource) _ _ (resource_least profile kind name ttl (inside resource))
