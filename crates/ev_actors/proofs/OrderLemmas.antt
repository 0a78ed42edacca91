-- A replay takes each operation that is no accept or close with those of its actor that wait:
-- the accepts and closes before it with no settle of the actor's after them.
use Rattle.std.proofs.Common.{◌≡◌, inl, inr, Bool, true, false, not, ◌&&◌, if◌then◌else◌, List, [], ◌∷◌, ◌++◌, filter, refl, ap, sym, ◌∙◌, subst, append_assoc, append-nil}
use Rattle.std.specs.List.{list_any, flat_map}
use Rattle.std.proofs.lemmas.List.Elements.{filter-append}
use Rattle.std.specs.Cmp.{second_so}
use Rattle.ev_types.specs.declared.events.Actor.{Actor}
use Rattle.ev_model.specs.Runs.{is_batched}
use Rattle.ev_model.specs.Operations.{Operation, actor_same, actor_decides, is_settle, is_earlier, is_settle_between, is_in_batch, with_batch}
use Rattle.ev_model_laws.proofs.OperationLists.{IsIn, in_front, in_back, filter_none, any_none, pairs_front}
use Rattle.ev_model_laws.proofs.ScriptOperations.{made_by}
use Rattle.ev_model_laws.proofs.RisingOperations.{Earlier, IsRising, not_back, not_itself}
use Rattle.ev_actors.proofs.SinceLemmas.{last_run, run_is, any_third, any_alike, in_kept, last_two, third_if, fourth_if, first_two}

-- an accept or close of the actor
abbrev pub joins_of : Actor → Operation → Bool
joins_of actor o = is_batched o.event && actor_same o.actor actor

-- a settle of the actor
abbrev pub ends_of : Actor → Operation → Bool
ends_of actor o = is_settle o.event && actor_same o.actor actor

-- the accepts and closes of the actor with no settle of the actor's after them
abbrev pub since : Actor → List Operation → List Operation
since actor os = last_run (joins_of actor) (ends_of actor) os

-- the operations of each actor rise
abbrev pub RiseEach : List Operation → Type 0
RiseEach os = (actor : Actor) → IsRising (made_by actor os)

-- of one actor's operations the one that comes first is the earlier one
earlier_in : (os front back : List Operation) (x y : Operation) → RiseEach os → front ++ back ≡ os → IsIn x front → IsIn y back
    → x.actor ≡ y.actor → is_earlier x y ≡ true
earlier_in os front back x y rise is in_one in_other same =
    pairs_front Earlier (made_by y.actor front) (made_by y.actor back)
    (subst IsRising (ap (made_by y.actor) (sym is) ∙ filter-append (λ (o : Operation). actor_same o.actor y.actor) front back) (rise y.actor))
    x y
    (in_kept (λ (o : Operation). actor_same o.actor y.actor) x front in_one ((actor_decides x.actor y.actor).1 same))
    (in_kept (λ (o : Operation). actor_same o.actor y.actor) y back in_other ((actor_decides y.actor y.actor).1 refl))

module _ (os before rest : List Operation) (o : Operation) (rise : RiseEach os) (all : before ++ o ∷ rest ≡ os) where
  -- after the operation comes none of its actor's that is earlier
  not_earlier : (x : Operation) → IsIn x (o ∷ rest) → x.actor ≡ o.actor → is_earlier x o ≡ false
  not_earlier x (inl e) same = subst (λ (y : Operation). is_earlier y o ≡ false) e (not_itself o)
  not_earlier x (inr is) same =
      not_back o x
      (earlier_in os (before ++ o ∷ []) rest o x rise (append_assoc before (o ∷ []) rest ∙ all) (in_back o before (o ∷ []) (inl refl)) is (sym same))

  behind_out : (x : Operation) → IsIn x (o ∷ rest) → is_in_batch os o x ≡ false
  behind_out x is =
      third_if (is_batched x.event) (actor_same x.actor o.actor) (is_earlier x o) (not (list_any (is_settle_between x o) os))
      (λ same. not_earlier x is ((actor_decides x.actor o.actor).0 same))

  module _ (front back : List Operation) (x : Operation) (parts : front ++ x ∷ back ≡ before) (same : x.actor ≡ o.actor) where
    whole : front ++ x ∷ (back ++ o ∷ rest) ≡ os
    whole = sym (append_assoc front (x ∷ back) (o ∷ rest)) ∙ ap (λ us. us ++ o ∷ rest) parts ∙ all

    whole_behind : (front ++ x ∷ []) ++ (back ++ o ∷ rest) ≡ os
    whole_behind = append_assoc front (x ∷ []) (back ++ o ∷ rest) ∙ whole

    in_before : (y : Operation) → IsIn y back → IsIn y before
    in_before y is = subst (IsIn y) parts (in_back y front (x ∷ back) (inr is))

    front_out : (y : Operation) → IsIn y front → is_settle_between x o y ≡ false
    front_out y is =
        third_if (is_settle y.event) (actor_same y.actor o.actor) (is_earlier x y) (is_earlier y o)
        (λ own.
        not_back y x (earlier_in os front (x ∷ (back ++ o ∷ rest)) y x rise whole is (inl refl) ((actor_decides y.actor o.actor).0 own ∙ sym same)))

    itself_out : is_settle_between x o x ≡ false
    itself_out = third_if (is_settle x.event) (actor_same x.actor o.actor) (is_earlier x x) (is_earlier x o) (λ own. not_itself x)

    between : (y : Operation) → IsIn y back → is_settle_between x o y ≡ ends_of o.actor y
    between y is =
        first_two (is_settle y.event) (actor_same y.actor o.actor) (is_earlier x y) (is_earlier y o)
        (λ own.
        earlier_in os (front ++ x ∷ []) (back ++ o ∷ rest) x y rise whole_behind (in_back x front (x ∷ []) (inl refl)) (in_front y back (o ∷ rest) is)
        (same ∙ sym ((actor_decides y.actor o.actor).0 own)))
        (λ own. earlier_in os before (o ∷ rest) y o rise all (in_before y is) (inl refl) ((actor_decides y.actor o.actor).0 own))

    last_out : (y : Operation) → IsIn y (o ∷ rest) → is_settle_between x o y ≡ false
    last_out y is =
        fourth_if (is_settle y.event) (actor_same y.actor o.actor) (is_earlier x y) (is_earlier y o)
        (λ own. not_earlier y is ((actor_decides y.actor o.actor).0 own))

    settles : list_any (is_settle_between x o) os ≡ list_any (ends_of o.actor) back
    settles =
        ap (list_any (is_settle_between x o)) (sym whole)
        ∙ any_third (is_settle_between x o) (ends_of o.actor) front x back (o ∷ rest)
        (any_none (is_settle_between x o) front front_out)
        itself_out
        (any_alike (is_settle_between x o) (ends_of o.actor) back between)
        (any_none (is_settle_between x o) (o ∷ rest) last_out)

    is_before : is_earlier x o ≡ true
    is_before = earlier_in os before (o ∷ rest) x o rise all (subst (IsIn x) parts (in_back x front (x ∷ back) (inl refl))) (inl refl) same

  waits : (front back : List Operation) (x : Operation) → front ++ x ∷ back ≡ before
      → is_in_batch os o x ≡ (joins_of o.actor x && not (list_any (ends_of o.actor) back))
  waits front back x parts =
      last_two (joins_of o.actor x) (is_earlier x o) (not (list_any (is_settle_between x o) os)) (not (list_any (ends_of o.actor) back))
      (λ h. is_before front back x parts ((actor_decides x.actor o.actor).0 (second_so (is_batched x.event) (actor_same x.actor o.actor) h)))
      (λ h. ap not (settles front back x parts ((actor_decides x.actor o.actor).0 (second_so (is_batched x.event) (actor_same x.actor o.actor) h))))

  -- the batch of an operation is what waits of its actor
  pub batch_waits : with_batch os o ≡ since o.actor before ++ o ∷ []
  batch_waits =
      ap (λ batch. batch ++ o ∷ [])
      (ap (filter (is_in_batch os o)) (sym all)
      ∙ filter-append (is_in_batch os o) before (o ∷ rest)
      ∙ ap (λ back. filter (is_in_batch os o) before ++ back) (filter_none (is_in_batch os o) (o ∷ rest) behind_out)
      ∙ append-nil (filter (is_in_batch os o) before)
      ∙ run_is (joins_of o.actor) (ends_of o.actor) (is_in_batch os o) before waits)

-- each operation that is no accept or close, with what waits of its actor after these operations and those before it
abbrev pub stream : List Operation → List Operation → List Operation
stream before [] = []
stream before (o ∷ os) = (if is_batched o.event then [] else since o.actor before ++ o ∷ []) ++ stream (before ++ o ∷ []) os

ordered_by : (f : Operation → List Operation) (o : Operation) (os batch rest : List Operation) (b : Bool)
    → f o ≡ batch → flat_map f os ≡ rest → flat_map f (if not b then o ∷ os else os) ≡ (if b then [] else batch) ++ rest
ordered_by f o os batch rest true one others = others
ordered_by f o os batch rest false one others = ap (λ us. us ++ flat_map f os) one ∙ ap (λ us. batch ++ us) others

-- so a replay takes them
pub ordered : (os before rest : List Operation) → RiseEach os → before ++ rest ≡ os
    → flat_map (with_batch os) (filter (λ (o : Operation). not (is_batched o.event)) rest) ≡ stream before rest
ordered os before [] rise all = refl
ordered os before (o ∷ rest) rise all =
    ordered_by (with_batch os) o (filter (λ (p : Operation). not (is_batched p.event)) rest) (since o.actor before ++ o ∷ []) (stream (before ++ o ∷ []) rest)
    (is_batched o.event)
    (batch_waits os before rest o rise all)
    (ordered os (before ++ o ∷ []) rest rise (append_assoc before (o ∷ []) rest ∙ all))
