-- The order of a replay takes each actor's operations in their order:
-- each operation that is no accept or close, with its batch before it, are all.
use Rattle.std.proofs.Common.{◌≡◌, ◌⊎◌, inl, inr, ℕ, ◌<◌, Bool, true, false, not, ◌&&◌, if◌then◌else◌, List, [], ◌∷◌, ◌++◌, filter, refl, ap, sym, ◌∙◌, subst, append-nil, append_assoc}
use Rattle.std.specs.List.{flat_map, list_any}
use Rattle.std.specs.Cmp.{first_so, second_so}
use Rattle.std.proofs.lemmas.List.Elements.{filter-append, recursion_from_All}
use Rattle.std.proofs.lemmas.Bool.{both_ways}
use Rattle.ev_types.specs.Events.{IsWorkerOf, MayMake}
use Rattle.ev_types.specs.Scripts.{ScriptParts, IsScript}
use Rattle.ev_types.specs.declared.events.Actor.{Actor}
use Rattle.ev_types.specs.declared.events.Actor.TheVariants.{Stream, Health, Timer, Main, Worker}
use Rattle.ev_types.specs.declared.events.Event.{Event}
use Rattle.ev_types.specs.declared.events.Event.TheVariants.{Connect, Disconnect, Response, Health as health, FetchTimeout, DrainTimeout, TtlExpired, Publish, Reap, Accept, Close, Settle}
use Rattle.ev_model.specs.Runs.{is_batched}
use Rattle.ev_model.specs.Operations.{Operation, actor_same, actor_decides, is_settle, is_earlier, is_settle_between, is_in_batch, with_batch, all_operations, operations_of, replay_operations}
use Rattle.ev_model_laws.proofs.OperationLists.{IsIn, at_in, in_front, in_back, in_parts, in_filter, filter_all, filter_none, filter_alike, filter_through, any_through, any_at, any_none, pairs_front, pairs_back, filter_filter}
use Rattle.ev_model_laws.proofs.ScriptOperations.{IsAllowed, all_allowed, of_worker, made_by, worker_settles, ends_batched, ends_append}
use Rattle.ev_model_laws.proofs.RisingOperations.{Earlier, IsRising, not_back, not_itself, operations_rise}

third_fails : (a b c d : Bool) → c ≡ false → (a && b && c && d) ≡ false
third_fails true true c d h = ap (λ e. e && d) h
third_fails true false c d h = refl
third_fails false b c d h = refl

fourth_fails : (a b c d : Bool) → d ≡ false → (a && b && c && d) ≡ false
fourth_fails true true true d h = h
fourth_fails true true false d h = refl
fourth_fails true false c d h = refl
fourth_fails false b c d h = refl

all_four : (a b c d : Bool) → a ≡ true → b ≡ true → c ≡ true → d ≡ true → (a && b && c && d) ≡ true
all_four a b c d p q r s = simp (p, q, r, s) refl

-- an operation is in no batch but that of its actor
pub batch_actor : (os : List Operation) (last o : Operation) → is_in_batch os last o ≡ true → actor_same o.actor last.actor ≡ true
batch_actor os last o h =
    second_so (is_batched o.event) (actor_same o.actor last.actor)
    (first_so (is_batched o.event && actor_same o.actor last.actor) (is_earlier o last)
    (first_so (is_batched o.event && actor_same o.actor last.actor && is_earlier o last) (not (list_any (is_settle_between o last) os)) h))

between_actor : (first last o : Operation) → is_settle_between first last o ≡ true → actor_same o.actor last.actor ≡ true
between_actor first last o h =
    second_so (is_settle o.event) (actor_same o.actor last.actor)
    (first_so (is_settle o.event && actor_same o.actor last.actor) (is_earlier first o)
    (first_so (is_settle o.event && actor_same o.actor last.actor && is_earlier first o) (is_earlier o last) h))

-- a batch depends on its actor's operations alone
pub batch_of_own : (os : List Operation) (last : Operation) → with_batch os last ≡ with_batch (made_by last.actor os) last
batch_of_own os last =
    ap (λ batch. batch ++ last ∷ [])
    (filter_through (is_in_batch os last) (λ (o : Operation). actor_same o.actor last.actor) (λ o h. batch_actor os last o h) os
    ∙ filter_alike (is_in_batch os last) (is_in_batch (made_by last.actor os) last) (made_by last.actor os)
    (λ o is.
    ap (λ b. is_batched o.event && actor_same o.actor last.actor && is_earlier o last && not b)
    (any_through (is_settle_between o last) (λ (p : Operation). actor_same p.actor last.actor) (λ p h. between_actor o last p h) os)))

-- each accept or close has a settle after it
abbrev AreSettled : List Operation → Type 0
AreSettled before =
    (o : Operation) → IsIn o before → is_batched o.event ≡ true
    → (settle : Operation) × IsIn settle before × (is_settle settle.event ≡ true) × (is_earlier o settle ≡ true)

-- what is in the group of an actor's operations: these, the batch that is open, and those after it
record IsGrouped (actor : Actor) (os before pending rest : List Operation) : Type 0 where
  all : before ++ (pending ++ rest) ≡ os
  rising : IsRising os
  own : (o : Operation) → IsIn o os → o.actor ≡ actor
  settling : (o : Operation) → IsIn o os → is_batched o.event ≡ false → is_settle o.event ≡ true
  settled : AreSettled before
  batched : (o : Operation) → IsIn o pending → is_batched o.event ≡ true

pub settle_not_batched : (event : Event) → is_settle event ≡ true → is_batched event ≡ false
settle_not_batched Connect h = refl
settle_not_batched Disconnect h = refl
settle_not_batched (Response response) h = refl
settle_not_batched (health cluster host healthy) h = refl
settle_not_batched (FetchTimeout timeout) h = refl
settle_not_batched (DrainTimeout listener) h = refl
settle_not_batched (TtlExpired kind name) h = refl
settle_not_batched Publish h = refl
settle_not_batched Reap h = refl
settle_not_batched (Accept ask) h = sym h
settle_not_batched (Close connection) h = sym h
settle_not_batched Settle h = refl

pub false_if : (b : Bool) → (b ≡ true → ⊥) → b ≡ false
false_if true h = absurd (h refl)
false_if false h = refl

-- what comes before the open batch is in no batch that ends after it
before_out : (actor : Actor) (os before pending rest : List Operation) (o : Operation) → IsGrouped actor os before pending (o ∷ rest)
    → (x : Operation) → IsIn x before → is_in_batch os o x ≡ false
before_out actor os before pending rest o g x is = by_test (is_batched x.event) refl
  where
    by_test : (b : Bool) → is_batched x.event ≡ b → is_in_batch os o x ≡ false
    by_test true h =
        let some : (settle : Operation) × IsIn settle before × (is_settle settle.event ≡ true) × (is_earlier x settle ≡ true) = g.settled x is h in
        let last_in : IsIn o os = subst (IsIn o) g.all (in_back o before (pending ++ o ∷ rest) (in_back o pending (o ∷ rest) (inl refl))) in
        let there : IsIn some.0 os = subst (IsIn some.0) g.all (in_front some.0 before (pending ++ o ∷ rest) some.1) in
        let same : actor_same some.0.actor o.actor ≡ true = (actor_decides some.0.actor o.actor).1 (g.own some.0 there ∙ sym (g.own o last_in)) in
        let first : is_earlier some.0 o ≡ true =
        pairs_front Earlier before (pending ++ o ∷ rest) (subst IsRising (sym g.all) g.rising) some.0 o some.1 (in_back o pending (o ∷ rest) (inl refl)) in
        let between : is_settle_between x o some.0 ≡ true =
        all_four (is_settle some.0.event) (actor_same some.0.actor o.actor) (is_earlier x some.0) (is_earlier some.0 o) some.2 same some.3 first in
        fourth_fails (is_batched x.event) (actor_same x.actor o.actor) (is_earlier x o) (not (list_any (is_settle_between x o) os))
        (ap not (any_at (is_settle_between x o) some.0 os there between))
    by_test false h = ap (λ b. b && actor_same x.actor o.actor && is_earlier x o && not (list_any (is_settle_between x o) os)) h

-- what comes after isn't earlier
pub not_before : (o : Operation) (rest : List Operation) → IsRising (o ∷ rest) → (x : Operation) → IsIn x (o ∷ rest) → is_earlier x o ≡ false
not_before o rest rising x (inl e) = subst (λ y. is_earlier y o ≡ false) e (not_itself o)
not_before o rest rising x (inr is) = not_back o x (at_in (Earlier o) x rest rising.0 is)

-- nor is what comes after
behind_out : (os : List Operation) (o : Operation) (rest : List Operation) → IsRising (o ∷ rest)
    → (x : Operation) → IsIn x (o ∷ rest) → is_in_batch os o x ≡ false
behind_out os o rest rising x is =
    third_fails (is_batched x.event) (actor_same x.actor o.actor) (is_earlier x o) (not (list_any (is_settle_between x o) os)) (not_before o rest rising x is)

-- the open batch is the batch of the settle that ends it
pending_in : (actor : Actor) (os before pending rest : List Operation) (o : Operation) → IsGrouped actor os before pending (o ∷ rest)
    → (x : Operation) → IsIn x pending → is_in_batch os o x ≡ true
pending_in actor os before pending rest o g x is =
    let rising : IsRising (before ++ (pending ++ o ∷ rest)) = subst IsRising (sym g.all) g.rising in
    let behind : IsRising (pending ++ o ∷ rest) = pairs_back Earlier before (pending ++ o ∷ rest) rising in
    let here : IsIn x os = subst (IsIn x) g.all (in_back x before (pending ++ o ∷ rest) (in_front x pending (o ∷ rest) is)) in
    let last_in : IsIn o os = subst (IsIn o) g.all (in_back o before (pending ++ o ∷ rest) (in_back o pending (o ∷ rest) (inl refl))) in
    all_four (is_batched x.event) (actor_same x.actor o.actor) (is_earlier x o) (not (list_any (is_settle_between x o) os))
    (g.batched x is)
    ((actor_decides x.actor o.actor).1 (g.own x here ∙ sym (g.own o last_in)))
    (pairs_front Earlier pending (o ∷ rest) behind x o is (inl refl))
    (ap not
    (any_none (is_settle_between x o) os
    (λ y there.
    at_part y rising (subst (IsIn y) (sym g.all) there))))
  where
    at_later : (y : Operation) → IsRising (pending ++ o ∷ rest) → IsIn y pending ⊎ IsIn y (o ∷ rest) → is_settle_between x o y ≡ false
    at_later y behind (inl pends) =
        false_if (is_settle_between x o y)
        (λ h.
        let settle : is_settle y.event ≡ true =
        first_so (is_settle y.event) (actor_same y.actor o.actor)
        (first_so (is_settle y.event && actor_same y.actor o.actor) (is_earlier x y)
        (first_so (is_settle y.event && actor_same y.actor o.actor && is_earlier x y) (is_earlier y o) h)) in
        both_ways (is_batched y.event) (settle_not_batched y.event settle) (g.batched y pends))
    at_later y behind (inr later) =
        fourth_fails (is_settle y.event) (actor_same y.actor o.actor) (is_earlier x y) (is_earlier y o)
        (not_before o rest (pairs_back Earlier pending (o ∷ rest) behind) y later)

    by_part : (y : Operation) → IsRising (before ++ (pending ++ o ∷ rest)) → IsIn y before ⊎ IsIn y (pending ++ o ∷ rest) → is_settle_between x o y ≡ false
    by_part y rising (inl earlier) =
        third_fails (is_settle y.event) (actor_same y.actor o.actor) (is_earlier x y) (is_earlier y o)
        (not_back y x (pairs_front Earlier before (pending ++ o ∷ rest) rising y x earlier (in_front x pending (o ∷ rest) is)))
    by_part y rising (inr later) =
        at_later y (pairs_back Earlier before (pending ++ o ∷ rest) rising) (in_parts y pending (o ∷ rest) later)

    at_part : (y : Operation) → IsRising (before ++ (pending ++ o ∷ rest)) → IsIn y (before ++ (pending ++ o ∷ rest)) → is_settle_between x o y ≡ false
    at_part y rising there = by_part y rising (in_parts y before (pending ++ o ∷ rest) there)

batch_is : (actor : Actor) (os before pending rest : List Operation) (o : Operation) → IsGrouped actor os before pending (o ∷ rest)
    → with_batch os o ≡ pending ++ o ∷ []
batch_is actor os before pending rest o g =
    ap (λ batch. batch ++ o ∷ [])
    (ap (filter (is_in_batch os o)) (sym g.all)
    ∙ filter-append (is_in_batch os o) before (pending ++ o ∷ rest)
    ∙ ap (λ front. front ++ filter (is_in_batch os o) (pending ++ o ∷ rest)) (filter_none (is_in_batch os o) before (before_out actor os before pending rest o g))
    ∙ filter-append (is_in_batch os o) pending (o ∷ rest)
    ∙ ap (λ back. filter (is_in_batch os o) pending ++ back)
    (filter_none (is_in_batch os o) (o ∷ rest)
    (behind_out os o rest
    (pairs_back Earlier pending (o ∷ rest) (pairs_back Earlier before (pending ++ o ∷ rest) (subst IsRising (sym g.all) g.rising)))))
    ∙ append-nil (filter (is_in_batch os o) pending)
    ∙ filter_all (is_in_batch os o) pending (pending_in actor os before pending rest o g))

-- one more of the batch
grown : (actor : Actor) (os before pending rest : List Operation) (o : Operation) → IsGrouped actor os before pending (o ∷ rest)
    → is_batched o.event ≡ true → IsGrouped actor os before (pending ++ o ∷ []) rest
grown actor os before pending rest o g h = record {
  all = ap (λ back. before ++ back) (append_assoc pending (o ∷ []) rest) ∙ g.all;
  rising = g.rising;
  own = g.own;
  settling = g.settling;
  settled = g.settled;
  batched = λ x is. by_part x (in_parts x pending (o ∷ []) is);
}
  where
    by_part : (x : Operation) → IsIn x pending ⊎ IsIn x (o ∷ []) → is_batched x.event ≡ true
    by_part x (inl there) = g.batched x there
    by_part x (inr (inl e)) = subst (λ (y : Operation). is_batched y.event ≡ true) e h
    by_part x (inr (inr is)) = absurd is

-- a settle ends the batch
ended : (actor : Actor) (os before pending rest : List Operation) (o : Operation) → IsGrouped actor os before pending (o ∷ rest)
    → is_batched o.event ≡ false → IsGrouped actor os (before ++ (pending ++ o ∷ [])) [] rest
ended actor os before pending rest o g h = record {
  all = append_assoc before (pending ++ o ∷ []) rest ∙ ap (λ back. before ++ back) (append_assoc pending (o ∷ []) rest) ∙ g.all;
  rising = g.rising;
  own = g.own;
  settling = g.settling;
  settled = λ x is batch. by_part x batch (in_parts x before (pending ++ o ∷ []) is);
  batched = λ x is. absurd is;
}
  where
    behind : (x : Operation) → IsIn x pending → is_earlier x o ≡ true
    behind x is =
        pairs_front Earlier pending (o ∷ rest) (pairs_back Earlier before (pending ++ o ∷ rest) (subst IsRising (sym g.all) g.rising)) x o is (inl refl)

    at_later : (x : Operation) → is_batched x.event ≡ true → IsIn x pending ⊎ IsIn x (o ∷ [])
        → (settle : Operation) × IsIn settle (before ++ (pending ++ o ∷ [])) × (is_settle settle.event ≡ true) × (is_earlier x settle ≡ true)
    at_later x batch (inl pends) = (
      o,
      in_back o before (pending ++ o ∷ []) (in_back o pending (o ∷ []) (inl refl)),
      g.settling o (subst (IsIn o) g.all (in_back o before (pending ++ o ∷ rest) (in_back o pending (o ∷ rest) (inl refl)))) h,
      behind x pends,
    )
    at_later x batch (inr (inl e)) = absurd (both_ways (is_batched x.event) (subst (λ (y : Operation). is_batched y.event ≡ false) e h) batch)
    at_later x batch (inr (inr is)) = absurd is

    by_part : (x : Operation) → is_batched x.event ≡ true → IsIn x before ⊎ IsIn x (pending ++ o ∷ [])
        → (settle : Operation) × IsIn settle (before ++ (pending ++ o ∷ [])) × (is_settle settle.event ≡ true) × (is_earlier x settle ≡ true)
    by_part x batch (inl there) =
        let some : (settle : Operation) × IsIn settle before × (is_settle settle.event ≡ true) × (is_earlier x settle ≡ true) = g.settled x there batch in
        (some.0, in_front some.0 before (pending ++ o ∷ []) some.1, some.2, some.3)
    by_part x batch (inr later) = at_later x batch (in_parts x pending (o ∷ []) later)

-- where the last operation of all is no accept or close, the groups after it are what is left
grouped_by : (actor : Actor) (os before pending rest : List Operation) (o : Operation) (batched : Bool) → is_batched o.event ≡ batched
    → IsGrouped actor os before pending (o ∷ rest)
    → (IsGrouped actor os before (pending ++ o ∷ []) rest → flat_map (with_batch os) (filter (λ (p : Operation). not (is_batched p.event)) rest) ≡ (pending ++ o ∷ []) ++ rest)
    → (IsGrouped actor os (before ++ (pending ++ o ∷ [])) [] rest → flat_map (with_batch os) (filter (λ (p : Operation). not (is_batched p.event)) rest) ≡ rest)
    → flat_map (with_batch os) (if not batched then o ∷ filter (λ (p : Operation). not (is_batched p.event)) rest else filter (λ (p : Operation). not (is_batched p.event)) rest) ≡ pending ++ o ∷ rest
grouped_by actor os before pending rest o true h g more done =
    more (grown actor os before pending rest o g h) ∙ append_assoc pending (o ∷ []) rest
grouped_by actor os before pending rest o false h g more done =
    ap (λ batch. batch ++ flat_map (with_batch os) (filter (λ (p : Operation). not (is_batched p.event)) rest)) (batch_is actor os before pending rest o g)
    ∙ ap (λ back. (pending ++ o ∷ []) ++ back) (done (ended actor os before pending rest o g h))
    ∙ append_assoc pending (o ∷ []) rest

no_pending : (actor : Actor) (os before pending : List Operation) → IsGrouped actor os before pending [] → ends_batched false pending ≡ false → [] ≡ pending
no_pending actor os before [] g ends = refl
no_pending actor os before (o ∷ pending) g ends = absurd (all_batched (is_batched o.event) pending (g.batched o (inl refl)) (λ x is. g.batched x (inr is)) ends)
  where
    all_batched : (batched : Bool) (ps : List Operation) → batched ≡ true → ((x : Operation) → IsIn x ps → is_batched x.event ≡ true) → ends_batched batched ps ≡ false → ⊥
    all_batched batched [] is each h = cc
    all_batched batched (p ∷ ps) is each h = all_batched (is_batched p.event) ps (each p (inl refl)) (λ x there. each x (inr there)) h

ends_behind : (o : Operation) (os : List Operation) (b : Bool) → ends_batched b (o ∷ os) ≡ false → ends_batched false os ≡ false
ends_behind o [] b h = refl
ends_behind o (p ∷ os) b h = h

grouped : (actor : Actor) (os before pending rest : List Operation) → IsGrouped actor os before pending rest → ends_batched false (pending ++ rest) ≡ false
    → flat_map (with_batch os) (filter (λ (p : Operation). not (is_batched p.event)) rest) ≡ pending ++ rest
grouped actor os before pending [] g ends =
    no_pending actor os before pending g (ap (ends_batched false) (sym (append-nil pending)) ∙ ends) ∙ sym (append-nil pending)
grouped actor os before pending (o ∷ rest) g ends =
    grouped_by actor os before pending rest o (is_batched o.event) refl g
    (λ more. grouped actor os before (pending ++ o ∷ []) rest more (ap (ends_batched false) (append_assoc pending (o ∷ []) rest) ∙ ends))
    (λ more. grouped actor os (before ++ (pending ++ o ∷ [])) [] rest more
    (ends_behind o rest (ends_batched false pending) (sym (ends_append false pending (o ∷ rest)) ∙ ends)))

-- operations of which none is an accept or close are alone, each of them
pub alone : (os some : List Operation) → ((o : Operation) → IsIn o os → is_batched o.event ≡ false) → ((o : Operation) → IsIn o some → is_batched o.event ≡ false)
    → flat_map (with_batch os) (filter (λ (p : Operation). not (is_batched p.event)) some) ≡ some
alone os [] none isnt = refl
alone os (o ∷ some) none isnt =
    ap (λ b. flat_map (with_batch os) (if not b then o ∷ filter (λ (p : Operation). not (is_batched p.event)) some else filter (λ (p : Operation). not (is_batched p.event)) some)) (isnt o (inl refl))
    ∙ ap (λ batch. (batch ++ o ∷ []) ++ flat_map (with_batch os) (filter (λ (p : Operation). not (is_batched p.event)) some))
    (filter_none (is_in_batch os o) os
    (λ x is. ap (λ b. b && actor_same x.actor o.actor && is_earlier x o && not (list_any (is_settle_between x o) os)) (none x is)))
    ∙ ap (λ back. o ∷ back) (alone os some none (λ x is. isnt x (inr is)))

worker_does : (workers worker : ℕ) (event : Event) → MayMake workers (Worker worker) event → is_batched event ≡ false → is_settle event ≡ true
worker_does workers worker Connect may h = absurd may
worker_does workers worker Disconnect may h = absurd may
worker_does workers worker (Response response) may h = absurd may
worker_does workers worker (health cluster host healthy) may h = absurd may
worker_does workers worker (FetchTimeout timeout) may h = absurd may
worker_does workers worker (DrainTimeout listener) may h = absurd may
worker_does workers worker (TtlExpired kind name) may h = absurd may
worker_does workers worker Publish may h = absurd may
worker_does workers worker Reap may h = absurd may
worker_does workers worker (Accept ask) may h = sym h
worker_does workers worker (Close connection) may h = sym h
worker_does workers worker Settle may h = refl

-- what each operation of an actor is
record IsOwn (workers : ℕ) (actor : Actor) (os : List Operation) : Type 0 where
  own : (o : Operation) → IsIn o os → o.actor ≡ actor
  may : (o : Operation) → IsIn o os → MayMake workers actor o.event

main_alone : (workers : ℕ) (actor : Actor) (os : List Operation) → IsOwn workers actor os → (IsWorkerOf workers actor → ⊥)
    → flat_map (with_batch os) (filter (λ (p : Operation). not (is_batched p.event)) os) ≡ os
main_alone workers actor os is isnt =
    let none : (o : Operation) → IsIn o os → is_batched o.event ≡ false =
    λ o there. false_if (is_batched o.event) (λ h. isnt (of_worker workers actor o.event (is.may o there) h)) in
    alone os os none none

worker_in : (workers worker : ℕ) (event : Event) → MayMake workers (Worker worker) event → worker < workers
worker_in workers worker Connect may = absurd may
worker_in workers worker Disconnect may = absurd may
worker_in workers worker (Response response) may = absurd may
worker_in workers worker (health cluster host healthy) may = absurd may
worker_in workers worker (FetchTimeout timeout) may = absurd may
worker_in workers worker (DrainTimeout listener) may = absurd may
worker_in workers worker (TtlExpired kind name) may = absurd may
worker_in workers worker Publish may = absurd may
worker_in workers worker Reap may = absurd may
worker_in workers worker (Accept ask) may = may
worker_in workers worker (Close connection) may = may
worker_in workers worker Settle may = may

own_groups : (workers : ℕ) (actor : Actor) (os : List Operation) → IsOwn workers actor os → IsRising os
    → (IsWorkerOf workers actor → ends_batched false os ≡ false)
    → flat_map (with_batch os) (filter (λ (p : Operation). not (is_batched p.event)) os) ≡ os
own_groups workers Stream os is rising ends = main_alone workers Stream os is (λ h. h)
own_groups workers Health os is rising ends = main_alone workers Health os is (λ h. h)
own_groups workers Timer os is rising ends = main_alone workers Timer os is (λ h. h)
own_groups workers Main os is rising ends = main_alone workers Main os is (λ h. h)
own_groups workers (Worker worker) [] is rising ends = refl
own_groups workers (Worker worker) (o ∷ os) is rising ends =
    grouped (Worker worker) (o ∷ os) [] [] (o ∷ os)
    (record {
      all = refl;
      rising = rising;
      own = is.own;
      settling = λ p there h. worker_does workers worker p.event (is.may p there) h;
      settled = λ p there. absurd there;
      batched = λ p there. absurd there;
    })
    (ends (worker_in workers worker o.event (is.may o (inl refl))))

and_turned : (a b : Bool) → (a && b) ≡ (b && a)
and_turned true true = refl
and_turned true false = refl
and_turned false true = refl
and_turned false false = refl

flat_alike : {X Y : Type 0} (f g : X → List Y) (xs : List X) → ((x : X) → IsIn x xs → f x ≡ g x) → flat_map f xs ≡ flat_map g xs
flat_alike f g [] each = refl
flat_alike f g (x ∷ xs) each =
    ap (λ ys. ys ++ flat_map f xs) (each x (inl refl)) ∙ ap (λ ys. g x ++ ys) (flat_alike f g xs (λ y is. each y (inr is)))

-- each operation of a batch is of its actor
pub batch_own : (os : List Operation) (last x : Operation) → IsIn x (with_batch os last) → x.actor ≡ last.actor
batch_own os last x is = by_part (in_parts x (filter (is_in_batch os last) os) (last ∷ []) is)
  where
    by_part : IsIn x (filter (is_in_batch os last) os) ⊎ IsIn x (last ∷ []) → x.actor ≡ last.actor
    by_part (inl there) = (actor_decides x.actor last.actor).0 (batch_actor os last x (in_filter (is_in_batch os last) x os there).1)
    by_part (inr (inl e)) = ap (λ (o : Operation). o.actor) (sym e)
    by_part (inr (inr none)) = absurd none

made_batch : (actor : Actor) (os : List Operation) (last : Operation) (rest : List Operation) (same : Bool) → actor_same last.actor actor ≡ same
    → made_by actor (with_batch os last) ++ flat_map (with_batch os) rest ≡ flat_map (with_batch os) (if same then last ∷ rest else rest)
made_batch actor os last rest true h =
    ap (λ batch. batch ++ flat_map (with_batch os) rest)
    (filter_all (λ (o : Operation). actor_same o.actor actor) (with_batch os last)
    (λ x is. ap (λ a. actor_same a actor) (batch_own os last x is) ∙ h))
made_batch actor os last rest false h =
    ap (λ batch. batch ++ flat_map (with_batch os) rest)
    (filter_none (λ (o : Operation). actor_same o.actor actor) (with_batch os last)
    (λ x is. ap (λ a. actor_same a actor) (batch_own os last x is) ∙ h))

-- what batches hold for an actor are the actor's batches
made_flat : (actor : Actor) (os some : List Operation) → made_by actor (flat_map (with_batch os) some) ≡ flat_map (with_batch os) (made_by actor some)
made_flat actor os [] = refl
made_flat actor os (last ∷ some) =
    filter-append (λ (o : Operation). actor_same o.actor actor) (with_batch os last) (flat_map (with_batch os) some)
    ∙ ap (λ back. made_by actor (with_batch os last) ++ back) (made_flat actor os some)
    ∙ made_batch actor os last (made_by actor some) (actor_same last.actor actor) refl

-- a replay takes each actor's operations, in their order
pub replay_keeps : (script : ScriptParts) → IsScript script → (actor : Actor) → made_by actor (replay_operations script) ≡ operations_of script actor
replay_keeps script kept actor =
    let os : List Operation = all_operations script in
    made_flat actor os (filter (λ (o : Operation). not (is_batched o.event)) os)
    ∙ ap (flat_map (with_batch os))
    (filter_filter (λ (o : Operation). actor_same o.actor actor) (λ (o : Operation). not (is_batched o.event)) os
    ∙ filter_alike (λ (o : Operation). not (is_batched o.event) && actor_same o.actor actor) (λ (o : Operation). actor_same o.actor actor && not (is_batched o.event)) os
    (λ o is. and_turned (not (is_batched o.event)) (actor_same o.actor actor))
    ∙ sym (filter_filter (λ (o : Operation). not (is_batched o.event)) (λ (o : Operation). actor_same o.actor actor) os))
    ∙ flat_alike (with_batch os) (with_batch (made_by actor os)) (filter (λ (o : Operation). not (is_batched o.event)) (made_by actor os))
    (λ o is.
    batch_of_own os o
    ∙ ap (λ a. with_batch (made_by a os) o)
    (own o (in_filter (λ (p : Operation). not (is_batched p.event)) o (made_by actor os) is).0))
    ∙ own_groups script.workers actor (made_by actor os)
    (record {
      own = own;
      may = λ o is.
          subst (λ a. MayMake script.workers a o.event) (own o is)
          (at_in (IsAllowed script.workers) o os (recursion_from_All (IsAllowed script.workers) os (all_allowed script kept)) (in_filter (λ (p : Operation). actor_same p.actor actor) o os is).0);
    })
    (operations_rise script actor kept)
    (λ worker. worker_settles script actor false worker)
  where
    own : (o : Operation) → IsIn o (made_by actor (all_operations script)) → o.actor ≡ actor
    own o is = (actor_decides o.actor actor).0 (in_filter (λ (p : Operation). actor_same p.actor actor) o (all_operations script) is).1
