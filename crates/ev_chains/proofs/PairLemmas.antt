-- Which connections are open on which chains, event by event.
use Rattle.std.proofs.Common.{◌≡◌, ℕ, suc, zero, ◌<◌, ◌≤◌, ◌==◌, Bool, true, false, not, ◌&&◌, ◌||◌, cond, nat_lt, List, [], ◌∷◌, filter, length, Option, Some, None, refl, sym, ap, ◌∙◌, subst, arith, inl, inr}
use Rattle.std.specs.Prelude.{◌⊎◌, ◌↔◌}
use Rattle.std.specs.List.{list_any}
use Rattle.std.proofs.lemmas.Bool.{false≢true}
use Rattle.std.proofs.lemmas.Bool.Decides.{nat_tests}
use Rattle.serde_json.specs.Data.{Data}
use Rattle.ev_model.specs.World.{OpenMember}
use Rattle.ev_model.specs.Picture.{has_number}
use Rattle.ev_model.specs.Connections.{closed, is_member, is_open}
use Rattle.ev_ledger.specs.Members.{is_open_at, member_before, member_on, with_member}
use Rattle.ev_chains.specs.Closing.{is_closing, left_open, on_chain}
use Rattle.ev_ledger.proofs.OrderLemmas.{any_put}
use Rattle.ev_ledger.proofs.PlaceLemmas.{closed_leaves}
use Rattle.ev_chains.specs.declared.chains.ChainAnswer.{ChainAnswer}
use Rattle.ev_chains.specs.declared.chains.ChainAnswer.TheVariants as taken
use Rattle.ev_chains.specs.Rows.{chosen}
use Rattle.ev_chains.specs.Listed.{number_in}
use Rattle.ev_chains.specs.Listeners.{rule_told}
use Rattle.ev_chains.specs.State.{ChainState}
use Rattle.ev_chains.specs.Steps.{Event, Update, Accept, Close, DrainTimeout, Reap, accept, accept_by, listener_by, chain_step}
use Rattle.ev_chains.specs.Laws.{event_at, state_at, is_on, TakesAt, ClosesAt, HasStayed}
use Rattle.ev_chains.proofs.PlaceLemmas.{there, state_next}

-- ---- tests of lists

any_same : {X : Type 0} (p q : X → Bool) → ((x : X) → p x ≡ q x) → (xs : List X) → list_any p xs ≡ list_any q xs
any_same p q same [] = refl
any_same p q same (x ∷ xs) = λ i. same x i || any_same p q same xs i

any_left : {X : Type 0} (p q : X → Bool) (xs : List X) → list_any p (filter q xs) ≡ list_any (λ x. q x && p x) xs
any_left p q [] = refl
any_left p q (x ∷ xs) = by (q x) (any_left p q xs)
  where
    by : (t : Bool) → list_any p (filter q xs) ≡ list_any (λ y. q y && p y) xs
        → list_any p (cond t (x ∷ filter q xs) (filter q xs)) ≡ ((t && p x) || list_any (λ y. q y && p y) xs)
    by true rest = ap (λ b. p x || b) rest
    by false rest = rest

any_and : {X : Type 0} (p : X → Bool) (b : Bool) (xs : List X) → list_any (λ x. p x && b) xs ≡ (list_any p xs && b)
any_and p b [] = refl
any_and p b (x ∷ xs) = ap (λ t. (p x && b) || t) (any_and p b xs) ∙ by (p x) b (list_any p xs)
  where
    by : (s t u : Bool) → ((s && t) || (u && t)) ≡ ((s || u) && t)
    by true true u = refl
    by true false true = refl
    by true false false = refl
    by false t u = refl

-- ---- what an event does to a pair

-- the answer is this chain
abbrev pub is_taken : ℕ → ChainAnswer → Bool
is_taken number taken.InUse = false
is_taken number taken.NoChain = false
is_taken number (taken.Chain other) = other == number

-- the chain takes the connection by this event
abbrev pub takes : ChainState → Event → ℕ → ℕ → Bool
takes state (Update tree) conn number = false
takes state (Accept other port server) conn number = (other == conn) && is_taken number (accept other server port state).1
takes state (Close other) conn number = false
takes state DrainTimeout conn number = false
takes state Reap conn number = false

-- the event closes the connection on the chain
abbrev pub shuts : ChainState → Event → ℕ → ℕ → Bool
shuts state (Update tree) conn number = false
shuts state (Accept other port server) conn number = false
shuts state (Close other) conn number = other == conn
shuts state DrainTimeout conn number = has_number number state.draining
shuts state Reap conn number = false

same_on : (b : Bool) → b ≡ (false || (b && true))
same_on true = refl
same_on false = refl

same_taken : (b : Bool) (c : Bool) → b ≡ ((c && false) || (b && true))
same_taken true true = refl
same_taken true false = refl
same_taken false true = refl
same_taken false false = refl

own_member : (conn number other chain : ℕ) → (((0 == 0) && (other == conn)) && (chain == number)) ≡ ((other == conn) && (chain == number))
own_member conn number other chain = refl

with_on : (state : ChainState) (conn number other chain : ℕ)
    → is_open_at number 0 conn (with_member (member_on 0 other (on_chain chain)) state.opened) ≡ (((other == conn) && (chain == number)) || (is_open_at number 0 conn state.opened && true))
with_on state conn number other chain =
    any_put member_before (λ (m : OpenMember). is_member 0 conn m && (m.listener == number)) (member_on 0 other (on_chain chain)) state.opened
    ∙ by (is_open_at number 0 conn state.opened)
  where
    by : (b : Bool) → (((other == conn) && (chain == number)) || b) ≡ (((other == conn) && (chain == number)) || (b && true))
    by true = refl
    by false = refl

accept_on : (state : ChainState) (conn number other : ℕ) (found : Option ℕ)
    → is_on conn number (accept_by found other state).0 ≡ (((other == conn) && is_taken number (accept_by found other state).1) || (is_on conn number state && true))
accept_on state conn number other None = same_taken (is_on conn number state) (other == conn)
accept_on state conn number other (Some chain) = with_on state conn number other chain

not_member : (w c l other conn number : ℕ) → (not ((w == 0) && (c == other)) && (((w == 0) && (c == conn)) && (l == number))) ≡ ((((w == 0) && (c == conn)) && (l == number)) && not (other == conn))
not_member w c l other conn number = grind (arith, nat_tests)

closed_on : (state : ChainState) (conn number other : ℕ) → is_open_at number 0 conn (closed other 0 state.opened).opened ≡ (is_open_at number 0 conn state.opened && not (other == conn))
closed_on state conn number other =
    ap (is_open_at number 0 conn) (closed_leaves 0 other state.opened)
    ∙ any_left (λ (m : OpenMember). is_member 0 conn m && (m.listener == number)) (λ (m : OpenMember). not (is_member 0 other m)) state.opened
    ∙ any_same (λ (m : OpenMember). not (is_member 0 other m) && (is_member 0 conn m && (m.listener == number))) (λ (m : OpenMember). (is_member 0 conn m && (m.listener == number)) && not (other == conn))
    (λ m. not_member m.worker m.connection m.listener other conn number) state.opened
    ∙ any_and (λ (m : OpenMember). is_member 0 conn m && (m.listener == number)) (not (other == conn)) state.opened

not_closing : (draining : List ℕ) (w c l conn number : ℕ)
    → (not ((w == 0) && has_number l draining) && (((w == 0) && (c == conn)) && (l == number))) ≡ ((((w == 0) && (c == conn)) && (l == number)) && not (has_number number draining))
not_closing draining w c l conn number = by (w == 0) (c == conn) (l == number) refl
  where
    by : (a b d : Bool) → (l == number) ≡ d → (not (a && has_number l draining) && ((a && b) && d)) ≡ (((a && b) && d) && not (has_number number draining))
    by true true true h = let same : l ≡ number = grind (arith, nat_tests) in swap (has_number l draining) (has_number number draining) (ap (λ k. has_number k draining) same)
      where
        swap : (s t : Bool) → s ≡ t → (not s && true) ≡ not t
        swap true t e = ap not e
        swap false t e = ap not e
    by true true false h = zero_and (not (has_number l draining))
      where
        zero_and : (t : Bool) → (t && false) ≡ false
        zero_and true = refl
        zero_and false = refl
    by true false d h = zero_and (not (has_number l draining))
      where
        zero_and : (t : Bool) → (t && false) ≡ false
        zero_and true = refl
        zero_and false = refl
    by false b d h = refl

drained_on : (state : ChainState) (conn number : ℕ) → is_open_at number 0 conn (left_open state.draining 0 state.opened) ≡ (is_open_at number 0 conn state.opened && not (has_number number state.draining))
drained_on state conn number =
    any_left (λ (m : OpenMember). is_member 0 conn m && (m.listener == number)) (λ (m : OpenMember). not (is_closing state.draining 0 m)) state.opened
    ∙ any_same (λ (m : OpenMember). not (is_closing state.draining 0 m) && (is_member 0 conn m && (m.listener == number))) (λ (m : OpenMember). (is_member 0 conn m && (m.listener == number)) && not (has_number number state.draining))
    (λ m. not_closing state.draining m.worker m.connection m.listener conn number) state.opened
    ∙ any_and (λ (m : OpenMember). is_member 0 conn m && (m.listener == number)) (not (has_number number state.draining)) state.opened

listener_on : (state : ChainState) (conn number : ℕ) (tree : Data) (told : Option ℕ) → is_on conn number (listener_by told tree state).0 ≡ is_on conn number state
listener_on state conn number tree None = refl
listener_on state conn number tree (Some rule) = refl

pub step_on : (state : ChainState) (event : Event) (conn number : ℕ) → is_on conn number (chain_step state event).0 ≡ (takes state event conn number || (is_on conn number state && not (shuts state event conn number)))
step_on state (Update tree) conn number = listener_on state conn number tree (rule_told tree) ∙ same_on (is_on conn number state)
step_on state (Accept other port server) conn number = by (is_open state.opened 0 other)
  where
    by : (used : Bool)
        → is_on conn number (cond used (state, taken.InUse) (accept_by (number_in (chosen server port state.serving)) other state)).0
        ≡ (((other == conn) && is_taken number (cond used (state, taken.InUse) (accept_by (number_in (chosen server port state.serving)) other state)).1) || (is_on conn number state && true))
    by true = same_taken (is_on conn number state) (other == conn)
    by false = accept_on state conn number other (number_in (chosen server port state.serving))
step_on state (Close other) conn number = closed_on state conn number other
step_on state DrainTimeout conn number = drained_on state conn number
step_on state Reap conn number = same_on (is_on conn number state)

-- ---- what is at a place

and_parts : (a b : Bool) → (a && b) ≡ true → (a ≡ true) × (b ≡ true)
and_parts true b h = (refl, h)
and_parts false b h = absurd (false≢true h)

same_number : (a b : ℕ) → (a == b) ≡ true → a ≡ b
same_number a b h = grind (arith, nat_tests)

own_number : (a b : ℕ) → a ≡ b → (a == b) ≡ true
own_number a b h = grind (arith, nat_tests)

taken_is : (number : ℕ) (answer : ChainAnswer) → is_taken number answer ≡ true → answer ≡ taken.Chain number
taken_is number taken.InUse h = absurd (false≢true h)
taken_is number taken.NoChain h = absurd (false≢true h)
taken_is number (taken.Chain other) h = ap taken.Chain (same_number other number h)

is_taken_own : (number : ℕ) (answer : ChainAnswer) → answer ≡ taken.Chain number → is_taken number answer ≡ true
is_taken_own number answer h = ap (is_taken number) h ∙ own_number number number refl

takes_at : (events : List Event) (k conn number : ℕ) (event : Event) → event_at events k ≡ Some event → takes (state_at events k) event conn number ≡ true → TakesAt events k conn number
takes_at events k conn number (Update tree) at h = absurd (false≢true h)
takes_at events k conn number (Accept other port server) at h =
    let parts = and_parts (other == conn) (is_taken number (accept other server port (state_at events k)).1) h in
    let same : other ≡ conn = same_number other conn parts.0 in
    record {
      port = port;
      server = server;
      at = at ∙ ap (λ c. Some (Accept c port server)) same;
      answer = ap (λ c. (accept c server port (state_at events k)).1) (sym same) ∙ taken_is number (accept other server port (state_at events k)).1 parts.1;
    }
takes_at events k conn number (Close other) at h = absurd (false≢true h)
takes_at events k conn number DrainTimeout at h = absurd (false≢true h)
takes_at events k conn number Reap at h = absurd (false≢true h)

both_true : (a b : Bool) → a ≡ true → b ≡ true → (a && b) ≡ true
both_true a b h k = ap (λ t. t && b) h ∙ k

some_same : {A : Type 0} (x y : A) (o : Option A) → o ≡ Some x → o ≡ Some y → x ≡ y
some_same x y o e f = cc

at_takes : (events : List Event) (k conn number : ℕ) (event : Event) → event_at events k ≡ Some event → TakesAt events k conn number → takes (state_at events k) event conn number ≡ true
at_takes events k conn number event at t =
    let same : Accept conn t.port t.server ≡ event = some_same (Accept conn t.port t.server) event (event_at events k) t.at at in
    ap (λ e. takes (state_at events k) e conn number) (sym same)
    ∙ both_true (conn == conn) (is_taken number (accept conn t.server t.port (state_at events k)).1) (own_number conn conn refl) (is_taken_own number (accept conn t.server t.port (state_at events k)).1 t.answer)

shuts_at : (events : List Event) (k conn number : ℕ) (event : Event) → event_at events k ≡ Some event → ClosesAt events k conn number → shuts (state_at events k) event conn number ≡ true
shuts_at events k conn number event at closes = elim closes [
  | inl close ↦ ap (λ e. shuts (state_at events k) e conn number) (some_same event (Close conn) (event_at events k) at close) ∙ own_number conn conn refl
  | inr drained ↦ ap (λ e. shuts (state_at events k) e conn number) (some_same event DrainTimeout (event_at events k) at drained.0) ∙ drained.1
]

at_shuts : (events : List Event) (k conn number : ℕ) (event : Event) → event_at events k ≡ Some event → shuts (state_at events k) event conn number ≡ true → ClosesAt events k conn number
at_shuts events k conn number (Update tree) at h = absurd (false≢true h)
at_shuts events k conn number (Accept other port server) at h = absurd (false≢true h)
at_shuts events k conn number (Close other) at h = inl (at ∙ ap (λ c. Some (Close c)) (same_number other conn h))
at_shuts events k conn number DrainTimeout at h = inr (at, h)
at_shuts events k conn number Reap at h = absurd (false≢true h)

-- ---- every list of events

pub order : (a b : ℕ) → (a < b) ⊎ (b ≤ a)
order a b = by_test (nat_lt a b) refl
  where
    by_test : (t : Bool) → nat_lt a b ≡ t → (a < b) ⊎ (b ≤ a)
    by_test true h = inl (grind (arith, nat_tests))
    by_test false h = inr (grind (arith, nat_tests))

-- a connection that stayed up to a place and isn't closed there stays on, and one that is taken there
stayed_more : (events : List Event) (k conn number : ℕ) → HasStayed events k conn number → ¬ (ClosesAt events k conn number) → HasStayed events (suc k) conn number
stayed_more events k conn number had open_still = record {
  start = had.start;
  before = let lt = had.before in omega (arith, lt);
  takes = had.takes;
  stays = λ other after before closes. by other after before closes (order other k);
}
  where
    by : (other : ℕ) → had.start < other → other < suc k → ClosesAt events other conn number → (other < k) ⊎ (k ≤ other) → ⊥
    by other after before closes (inl less) = had.stays other after less closes
    by other after before closes (inr more) = let same : other ≡ k = omega (arith, before, more) in open_still (subst (λ j. ClosesAt events j conn number) same closes)

stayed_new : (events : List Event) (k conn number : ℕ) → TakesAt events k conn number → HasStayed events (suc k) conn number
stayed_new events k conn number takes_here = record {
  start = k;
  before = omega arith;
  takes = takes_here;
  stays = λ other after before closes. absurd (omega (arith, after, before));
}

stays_so : (t o s : Bool) → o ≡ true → (s ≡ true → ⊥) → (t || (o && not s)) ≡ true
stays_so true o s here open_still = refl
stays_so false true true here open_still = absurd (open_still refl)
stays_so false true false here open_still = refl
stays_so false false s here open_still = absurd (false≢true here)

module _ (events : List Event) (conn number : ℕ) where
  abbrev Holds : ℕ → Type 0
  Holds k = (is_on conn number (state_at events k) ≡ true) ↔ HasStayed events k conn number

  more : (k : ℕ) (event : Event) → event_at events k ≡ Some event → Holds k → Holds (suc k)
  more k event at had = (to (takes (state_at events k) event conn number) (shuts (state_at events k) event conn number) refl refl, from)
    where
      is : is_on conn number (state_at events (suc k)) ≡ (takes (state_at events k) event conn number || (is_on conn number (state_at events k) && not (shuts (state_at events k) event conn number)))
      is = ap (is_on conn number) (state_next events k event at) ∙ step_on (state_at events k) event conn number

      to : (t s : Bool) → takes (state_at events k) event conn number ≡ t → shuts (state_at events k) event conn number ≡ s
          → is_on conn number (state_at events (suc k)) ≡ true → HasStayed events (suc k) conn number
      to true s first second open_now = stayed_new events k conn number (takes_at events k conn number event at first)
      to false true first second open_now =
          absurd (false≢true (sym (is ∙ (λ i. first i || (is_on conn number (state_at events k) && not (second i))) ∙ none (is_on conn number (state_at events k))) ∙ open_now))
        where
          none : (b : Bool) → (false || (b && false)) ≡ false
          none true = refl
          none false = refl
      to false false first second open_now =
          let here : is_on conn number (state_at events k) ≡ true = same (is_on conn number (state_at events k)) (sym (is ∙ (λ i. first i || (is_on conn number (state_at events k) && not (second i)))) ∙ open_now) in
          stayed_more events k conn number (had.0 here) (λ closes. false≢true (sym second ∙ shuts_at events k conn number event at closes))
        where
          same : (b : Bool) → (false || (b && true)) ≡ true → b ≡ true
          same true h = refl
          same false h = h

      from : HasStayed events (suc k) conn number → is_on conn number (state_at events (suc k)) ≡ true
      from stayed = is ∙ by (order stayed.start k)
        where
          by : (stayed.start < k) ⊎ (k ≤ stayed.start)
              → (takes (state_at events k) event conn number || (is_on conn number (state_at events k) && not (shuts (state_at events k) event conn number))) ≡ true
          by (inl less) =
              let had_stayed : HasStayed events k conn number = record {
                start = stayed.start;
                before = less;
                takes = stayed.takes;
                stays = λ other after before. stayed.stays other after (omega (arith, before));
              } in
              stays_so (takes (state_at events k) event conn number) (is_on conn number (state_at events k)) (shuts (state_at events k) event conn number) (had.1 had_stayed)
              (λ shut. stayed.stays k less (omega arith) (at_shuts events k conn number event at shut))
          by (inr more) =
              let lt = stayed.before in
              let same : stayed.start ≡ k = omega (arith, lt, more) in
              ap (λ t. t || (is_on conn number (state_at events k) && not (shuts (state_at events k) event conn number)))
              (at_takes events k conn number event at (subst (λ j. TakesAt events j conn number) same stayed.takes))

  pub pairs : (k : ℕ) → k ≤ length events → Holds k
  pairs zero within = (λ open_now. absurd (false≢true open_now), λ stayed. absurd (omega (arith, stayed.before)))
  pairs (suc k) within = let t = there events k (omega arith) in more k t.event t.at (pairs k (omega arith))
