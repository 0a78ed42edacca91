-- The groups of listeners by where their chains began, when a listener goes out or comes in.
use Rattle.std.proofs.Common.{◌≡◌, ◌∙◌, ℕ, ◌==◌, ◌||◌, not, Bool, true, false, cond, List, [], ◌∷◌, filter, find, slice_get, Some, None, refl, sym, ap, true≢false}
use Rattle.std.specs.List.{AllByRecursion, list_any}
use Rattle.ev_types.specs.Origins.{origin_decides, origin_same}
use Rattle.ev_types.specs.Same.{numbers_decide}
use Rattle.ev_types.specs.declared.origins.Origin.{Origin}
use Rattle.ev_model.specs.Connections.{chains_shown, shares_origin, shows_chain}
use Rattle.ev_model.specs.Versions.{is_before}
use Rattle.ev_model.specs.declared.pictures.ServedChain.{ServedChain}
use Rattle.ev_model.specs.declared.pictures.ServedListener.{ServedListener}
use Rattle.ev_layers.specs.Rows.{IsInOrder, numbered, put_before}
use Rattle.ev_layers.proofs.Steps.{number_absent}
use Rattle.ev_listeners.specs.Groups.{with_listener, without_listener}
use Rattle.ev_listeners.specs.Origins.{group_after, those_with}
use Rattle.ev_listeners.proofs.Grouped.{filter_blind, filters_turn, first_found, group_put, put_blind}

-- ---- a change that is made twice
itself : (p : ServedListener → Bool) (xs : List ServedListener) → AllByRecursion (λ x. p x ≡ false → p x ≡ false) xs
itself p [] = tt
itself p (x ∷ xs) = ((λ h. h), itself p xs)

without_twice : (n : ℕ) (group : List ServedListener) → without_listener n (without_listener n group) ≡ without_listener n group
without_twice n group = let p : ServedListener → Bool = λ l. not (l.number == n) in filter_blind p p group (itself p group)

without_put : (l : ServedListener) (group : List ServedListener) → without_listener l.number (with_listener l group) ≡ without_listener l.number group
without_put l group =
    put_blind (λ (other : ServedListener). not (other.number == l.number)) (λ (one other : ServedListener). is_before one.name other.name) l group
    (ap not ((numbers_decide l.number l.number).1 refl))

pub after_twice : (serves : Bool) (l : ServedListener) (group : List ServedListener) → group_after serves l (group_after serves l group) ≡ group_after serves l group
after_twice true l group =
    ap (with_listener l) (without_put l (without_listener l.number group) ∙ without_twice l.number group)
after_twice false l group = without_twice l.number group

-- a change where one test or another is true, made for one after the other
pub either : {G : Type 0} (f : G → G) (one other : Bool) (group : G) → f (f group) ≡ f group
    → cond other (f (cond one (f group) group)) (cond one (f group) group) ≡ cond (one || other) (f group) group
either f true true group twice = twice
either f true false group twice = refl
either f false other group twice = refl

pub alone : (test : Bool) → test ≡ test || false
alone true = refl
alone false = refl

-- ---- origins that are the same
pub either_way : (a b : Origin) → origin_same a b ≡ origin_same b a
either_way a b = by (origin_same a b) (origin_same b a) refl refl
  where
    by : (s t : Bool) → origin_same a b ≡ s → origin_same b a ≡ t → s ≡ t
    by true true e f = refl
    by true false e f = absurd (true≢false (sym ((origin_decides b a).1 (sym ((origin_decides a b).0 e))) ∙ f))
    by false true e f = absurd (true≢false (sym ((origin_decides a b).1 (sym ((origin_decides b a).0 f))) ∙ e))
    by false false e f = refl

pub same_origin : {A : Type 0} (f : Origin → A) (a b : Origin) (rest : A) → cond (origin_same a b) (f a) rest ≡ cond (origin_same a b) (f b) rest
same_origin f a b rest = by (origin_same a b) refl
  where
    by : (t : Bool) → origin_same a b ≡ t → cond t (f a) rest ≡ cond t (f b) rest
    by true e = ap f ((origin_decides a b).0 e)
    by false e = refl

-- ---- the listeners with a chain that began there
-- a listener that comes in, of whose number there is none
pub entered : (origin : Origin) (l : ServedListener) (ls : List ServedListener) → IsInOrder (λ (l : ServedListener). l.number) (λ (l : ServedListener). l.name) ls
    → numbered (λ (l : ServedListener). l.number) ls l.number ≡ None
    → cond (shows_chain (Some origin) l) (group_after true l (those_with origin ls)) (those_with origin ls)
    ≡ those_with origin (put_before (λ (l : ServedListener). l.name) l ls)
entered origin l ls o none =
    let at = shows_chain (Some origin) in
    let absent : without_listener l.number (those_with origin ls) ≡ those_with origin ls =
    sym (filters_turn at (λ (other : ServedListener). not (other.number == l.number)) ls)
    ∙ ap (filter at) (sym (number_absent (λ (l : ServedListener). l.number) (λ (l : ServedListener). l.name) ls l.number none)) in
    (λ i. cond (at l) (with_listener l (absent i)) (those_with origin ls)) ∙ group_put at l ls o

none_began : (chains : List ServedChain) → list_any (λ (c : ServedChain). shares_origin None c.origin) chains ≡ false
none_began [] = refl
none_began (c ∷ chains) = none_began chains

-- where nothing is known of an origin there is no listener
pub none_found : (listeners : List ServedListener) → None ≡ find (shows_chain None) listeners
none_found [] = refl
none_found (l ∷ listeners) = none_found listeners ∙ (λ i. cond (sym (none_began (chains_shown l)) i) (Some l) (find (shows_chain None) listeners))

-- the first of a group is the first with a chain that began there
pub first_with : (origin : Origin) (listeners : List ServedListener) → slice_get (those_with origin listeners) 0 ≡ find (shows_chain (Some origin)) listeners
first_with origin listeners = first_found (shows_chain (Some origin)) listeners
