-- What a content depends on, one after the other and each once:
-- a test that one of them passes, or all of them, is the same of both.
use Rattle.std.proofs.Common.{◌≡◌, ◌∙◌, ◌<◌, Bool, true, false, cond, not, ◌&&◌, ◌||◌, List, [], ◌∷◌, ◌++◌, None, Some, map, filter, length, drop, refl, sym, ap, subst, arith}
use Rattle.std.specs.Prelude.{slice_get}
use Rattle.std.specs.List.{list_any, list_all, AllByRecursion}
use Rattle.std.specs.Str.{bytes_eq}
use Rattle.std.proofs.lemmas.Bool.{and_parts}
use Rattle.std.proofs.lemmas.List.{map-append}
use Rattle.std.proofs.lemmas.List.Elements.{filter-append}
use Rattle.ev_types.specs.Kinds.{kind_same, kind_decides}
use Rattle.ev_types.specs.Same.{bool_same, bool_decides, bytes_decide}
use Rattle.ev_types.specs.declared.contents.Content.{Content}
use Rattle.ev_types.specs.declared.contents.Content.TheVariants.{Cluster as a_cluster, Assignment as an_assignment, Listener as a_listener, Routes as routes, Secret as a_secret, Extension as an_extension}
use Rattle.ev_types.specs.declared.contents.Kind.{Kind}
use Rattle.ev_model.specs.Watching.{Dependency, dependency_same, each_once, dependencies_of, names_awaited}
use Rattle.ev_indexes.specs.Needs.{needs_of}

-- a list with a first element
pub first-rest : {X : Type 0} (xs : List X) (x : X) → slice_get xs 0 ≡ Some x → xs ≡ x ∷ drop 1 xs
first-rest [] x is = absurd (let never : None ≡ Some x = is in cc)
first-rest (y ∷ xs) x is = ap (λ z. z ∷ xs) (let same : Some y ≡ Some x = is in cc)

-- a list without one
pub first-none : {X : Type 0} (xs : List X) → slice_get xs 0 ≡ None → xs ≡ []
first-none [] none = refl
first-none (x ∷ xs) none = absurd (let never : Some x ≡ None = none in cc)

-- what is left is shorter
pub rest-shorter : {X : Type 0} (xs : List X) (x : X) → slice_get xs 0 ≡ Some x → length (drop 1 xs) < length xs
rest-shorter [] x is = absurd (let never : None ≡ Some x = is in cc)
rest-shorter (y ∷ xs) x is = omega arith

-- what is the same is one
same-is : (a b : Dependency) → dependency_same a b ≡ true → a ≡ b
same-is a b h =
    let f = and_parts ((kind_same a.kind b.kind && bytes_eq a.name b.name) && bool_same a.limited b.limited) (bool_same a.fresh b.fresh) h in
    let l = and_parts (kind_same a.kind b.kind && bytes_eq a.name b.name) (bool_same a.limited b.limited) f.0 in
    let k = and_parts (kind_same a.kind b.kind) (bytes_eq a.name b.name) l.0 in
    λ i. record {
      kind = (kind_decides a.kind b.kind).0 k.0 i;
      name = (bytes_decide a.name b.name).0 k.1 i;
      limited = (bool_decides a.limited b.limited).0 l.1 i;
      fresh = (bool_decides a.fresh b.fresh).0 f.1 i;
    }

abbrev without : Dependency → List Dependency → List Dependency
without d ds = filter (λ (other : Dependency). not (dependency_same d other)) ds

-- without one that fails, some pass as before
any-without : (p : Dependency → Bool) (d : Dependency) → p d ≡ false → (ds : List Dependency) → list_any p (without d ds) ≡ list_any p ds
any-without p d fails [] = refl
any-without p d fails (x ∷ ds) = by (dependency_same d x) refl (any-without p d fails ds)
  where
    by : (b : Bool) → dependency_same d x ≡ b → list_any p (without d ds) ≡ list_any p ds → list_any p (cond (not b) (x ∷ without d ds) (without d ds)) ≡ (p x || list_any p ds)
    by true e rest = rest ∙ (λ i. (sym fails ∙ ap p (same-is d x e)) i || list_any p ds)
    by false e rest = ap (λ b. p x || b) rest

pub any-each_once : (p : Dependency → Bool) (ds : List Dependency) → list_any p (each_once ds) ≡ list_any p ds
any-each_once p [] = refl
any-each_once p (d ∷ ds) = by (p d) refl (any-each_once p ds)
  where
    by : (b : Bool) → p d ≡ b → list_any p (each_once ds) ≡ list_any p ds → (b || list_any p (without d (each_once ds))) ≡ (b || list_any p ds)
    by true e rest = refl
    by false e rest = any-without p d e (each_once ds) ∙ rest

-- without one that passes, all pass as before
all-without : (p : Dependency → Bool) (d : Dependency) → p d ≡ true → (ds : List Dependency) → list_all p (without d ds) ≡ list_all p ds
all-without p d passes [] = refl
all-without p d passes (x ∷ ds) = by (dependency_same d x) refl (all-without p d passes ds)
  where
    by : (b : Bool) → dependency_same d x ≡ b → list_all p (without d ds) ≡ list_all p ds → list_all p (cond (not b) (x ∷ without d ds) (without d ds)) ≡ (p x && list_all p ds)
    by true e rest = rest ∙ (λ i. (sym passes ∙ ap p (same-is d x e)) i && list_all p ds)
    by false e rest = ap (λ b. p x && b) rest

all-each_once : (p : Dependency → Bool) (ds : List Dependency) → list_all p (each_once ds) ≡ list_all p ds
all-each_once p [] = refl
all-each_once p (d ∷ ds) = by (p d) refl (all-each_once p ds)
  where
    by : (b : Bool) → p d ≡ b → list_all p (each_once ds) ≡ list_all p ds → (b && list_all p (without d (each_once ds))) ≡ (b && list_all p ds)
    by true e rest = all-without p d e (each_once ds) ∙ rest
    by false e rest = refl

-- what holds of each holds of those that are left
without-all : (P : Dependency → Type 0) (d : Dependency) (ds : List Dependency) → AllByRecursion P ds → AllByRecursion P (without d ds)
without-all P d [] all = tt
without-all P d (x ∷ ds) all = by (dependency_same d x) (without-all P d ds all.1)
  where
    by : (b : Bool) → AllByRecursion P (without d ds) → AllByRecursion P (cond (not b) (x ∷ without d ds) (without d ds))
    by true rest = rest
    by false rest = (all.0, rest)

each_once-all : (P : Dependency → Type 0) (ds : List Dependency) → AllByRecursion P ds → AllByRecursion P (each_once ds)
each_once-all P [] all = tt
each_once-all P (d ∷ ds) all = (all.0, without-all P d (each_once ds) (each_once-all P ds all.1))

-- a content depends on these, each once
once-needs : (content : Content) → dependencies_of content ≡ each_once (needs_of content)
once-needs (a_cluster cluster) = refl
once-needs (an_assignment rows) = refl
once-needs (a_listener listener) = refl
once-needs (routes table) = refl
once-needs a_secret = refl
once-needs an_extension = refl

-- so one of those passes where one of these does
pub any_needs : (p : Dependency → Bool) (content : Content) → list_any p (needs_of content) ≡ list_any p (dependencies_of content)
any_needs p content = sym (ap (list_any p) (once-needs content) ∙ any-each_once p (needs_of content))

-- and all of those pass where all of these do
pub all_needs : (p : Dependency → Bool) (content : Content) → list_all p (needs_of content) ≡ list_all p (dependencies_of content)
all_needs p content = sym (ap (list_all p) (once-needs content) ∙ all-each_once p (needs_of content))

-- what holds of each of those holds of each of these
pub each_needs : (P : Dependency → Type 0) (content : Content) → AllByRecursion P (needs_of content) → AllByRecursion P (dependencies_of content)
each_needs P content all = subst (AllByRecursion P) (sym (once-needs content)) (each_once-all P (needs_of content) all)

-- one that passes settles that one does
pub any_first : (p : Dependency → Bool) (ds : List Dependency) (d : Dependency) → slice_get ds 0 ≡ Some d → p d ≡ true → list_any p ds ≡ true
any_first p ds d is passes = ap (list_any p) (first-rest ds d is) ∙ ap (λ b. b || list_any p (drop 1 ds)) passes

-- where the first doesn't, one of the others has to
pub any_rest : (p : Dependency → Bool) (ds : List Dependency) (d : Dependency) → slice_get ds 0 ≡ Some d → p d ≡ false
    → list_any p (drop 1 ds) ≡ list_any p ds
any_rest p ds d is fails = sym (ap (list_any p) (first-rest ds d is) ∙ ap (λ b. b || list_any p (drop 1 ds)) fails)

-- of none, none passes
pub any_none : (p : Dependency → Bool) (ds : List Dependency) → slice_get ds 0 ≡ None → list_any p ds ≡ false
any_none p ds none = ap (list_any p) (first-none ds none)

-- one that fails settles that not all pass
pub all_first : (p : Dependency → Bool) (ds : List Dependency) (d : Dependency) → slice_get ds 0 ≡ Some d → p d ≡ false → list_all p ds ≡ false
all_first p ds d is fails = ap (list_all p) (first-rest ds d is) ∙ ap (λ b. b && list_all p (drop 1 ds)) fails

pub all_rest : (p : Dependency → Bool) (ds : List Dependency) (d : Dependency) → slice_get ds 0 ≡ Some d → p d ≡ true
    → list_all p (drop 1 ds) ≡ list_all p ds
all_rest p ds d is passes = sym (ap (list_all p) (first-rest ds d is) ∙ ap (λ b. b && list_all p (drop 1 ds)) passes)

pub all_none : (p : Dependency → Bool) (ds : List Dependency) → slice_get ds 0 ≡ None → list_all p ds ≡ true
all_none p ds none = ap (list_all p) (first-none ds none)

-- the names of a kind among these are that of the first, where it is of the kind, and those of the others
pub awaited-append : (kind : Kind) (ds es : List Dependency) → names_awaited kind (ds ++ es) ≡ names_awaited kind ds ++ names_awaited kind es
awaited-append kind ds es =
    ap (map (λ (d : Dependency). d.name)) (filter-append (λ (d : Dependency). kind_same d.kind kind) ds es)
    ∙ map-append (λ (d : Dependency). d.name) (filter (λ (d : Dependency). kind_same d.kind kind) ds) (filter (λ (d : Dependency). kind_same d.kind kind) es)

pub awaited_first : (kind : Kind) (ds : List Dependency) (d : Dependency) → slice_get ds 0 ≡ Some d
    → names_awaited kind (d ∷ []) ++ names_awaited kind (drop 1 ds) ≡ names_awaited kind ds
awaited_first kind ds d is = sym (ap (names_awaited kind) (first-rest ds d is) ∙ awaited-append kind (d ∷ []) (drop 1 ds))
