-- Which chains serve, event by event.
use Rattle.std.proofs.Common.{◌≡◌, ℕ, suc, zero, ◌<◌, ◌≤◌, ◌==◌, Bool, true, false, cond, List, [], ◌∷◌, length, Option, Some, None, refl, sym, ap, ◌∙◌, subst, arith, inl, inr}
use Rattle.std.specs.Prelude.{◌⊎◌, ◌↔◌}
use Rattle.std.specs.List.{list_any}
use Rattle.std.proofs.lemmas.Bool.{true≢false, false≢true}
use Rattle.serde_json.specs.Data.{Data}
use Rattle.ev_model.specs.Connections.{is_open}
use Rattle.ev_chains.specs.declared.chains.ChainAnswer.TheVariants as taken
use Rattle.ev_chains.specs.declared.rows.Chain.{Chain}
use Rattle.ev_chains.specs.declared.rows.Row.{Row}
use Rattle.ev_chains.specs.Rows.{has_clash, chosen, chain_same, chain_decides}
use Rattle.ev_chains.specs.Listed.{number_in, number_for}
use Rattle.ev_chains.specs.Listeners.{matches_of, chains_in, parts_broken, chains_broken, rule_told}
use Rattle.ev_chains.specs.State.{ChainState, numbered, made_by}
use Rattle.ev_chains.specs.Steps.{Event, Update, Accept, Close, DrainTimeout, Reap, accept_by, listener_by, chain_step}
use Rattle.ev_chains.specs.Kept.{HasRow, Sound}
use Rattle.ev_chains.proofs.NextLemmas.{none_clash}
use Rattle.ev_chains.proofs.RowLemmas.{HasChain, same_number, and_parts, or_true, number_true, number_false, chain_has, chain_true, for_some, for_none, cases_for, GotNumber, made_more, row_chain, row_number, row_kept, sound_next}
use Rattle.ev_chains.specs.Laws.{event_at, state_at, serves, AcceptsAt, MadeAt, LacksSince, is_row}
use Rattle.ev_chains.proofs.PlaceLemmas.{there, state_next}
use Rattle.ev_chains.proofs.PairLemmas.{order}

-- a row that is there
pub row_has : (row : Row) (rows : List Row) → list_any (is_row row) rows ≡ true → HasRow row.number row.chain rows
row_has row [] h = absurd (false≢true h)
row_has row (other ∷ rows) h = elim (or_true (is_row row other) (list_any (is_row row) rows) h) [
  | inl here ↦
      let parts = and_parts (other.number == row.number) (chain_same other.chain row.chain) here in
      inl (same_number other.number row.number parts.0, (chain_decides other.chain row.chain).0 parts.1)
  | inr there ↦ inr (row_has row rows there)
]

-- ---- what an event does to the rows

-- nothing: it is no listener that is accepted
pub record SameRows (state : ChainState) (event : Event) : Type 0 where
  pub serving : (chain_step state event).0.serving ≡ state.serving
  pub made : (chain_step state event).0.made ≡ state.made
  pub none : (tree : Data) → event ≡ Update tree → rule_told tree ≡ None → ⊥

-- it is a listener that is accepted, and its chains serve
pub record NextRows (state : ChainState) (event : Event) : Type 0 where
  pub tree : Data
  pub is : event ≡ Update tree
  pub told : rule_told tree ≡ None
  pub serving : (chain_step state event).0.serving ≡ numbered state.made state.serving (chains_in tree)
  pub made : (chain_step state event).0.made ≡ made_by state.made state.serving (chains_in tree)

accept_serving : (found : Option ℕ) (conn : ℕ) (state : ChainState) → (accept_by found conn state).0.serving ≡ state.serving
accept_serving None conn state = refl
accept_serving (Some number) conn state = refl

accept_made : (found : Option ℕ) (conn : ℕ) (state : ChainState) → (accept_by found conn state).0.made ≡ state.made
accept_made None conn state = refl
accept_made (Some number) conn state = refl

pub cases_step : (state : ChainState) (event : Event) → SameRows state event ⊎ NextRows state event
cases_step state (Update tree) = by (rule_told tree) refl
  where
    by : (told : Option ℕ) → rule_told tree ≡ told → SameRows state (Update tree) ⊎ NextRows state (Update tree)
    by None is = inr record {
      tree = tree;
      is = refl;
      told = is;
      serving = ap (λ t. (listener_by t tree state).0.serving) is;
      made = ap (λ t. (listener_by t tree state).0.made) is;
    }
    by (Some rule) is = inl record {
      serving = ap (λ t. (listener_by t tree state).0.serving) is;
      made = ap (λ t. (listener_by t tree state).0.made) is;
      none = λ other same told. let one : tree ≡ other = cc in cc (sym is ∙ ap rule_told one ∙ told);
    }
cases_step state (Accept conn port server) = inl record {
  serving = by_serving (is_open state.opened 0 conn);
  made = by_made (is_open state.opened 0 conn);
  none = λ tree same told. cc same;
}
  where
    by_serving : (used : Bool) → (cond used (state, taken.InUse) (accept_by (number_in (chosen server port state.serving)) conn state)).0.serving ≡ state.serving
    by_serving true = refl
    by_serving false = accept_serving (number_in (chosen server port state.serving)) conn state

    by_made : (used : Bool) → (cond used (state, taken.InUse) (accept_by (number_in (chosen server port state.serving)) conn state)).0.made ≡ state.made
    by_made true = refl
    by_made false = accept_made (number_in (chosen server port state.serving)) conn state
cases_step state (Close conn) = inl record { serving = refl; made = refl; none = λ tree same told. cc same }
cases_step state DrainTimeout = inl record { serving = refl; made = refl; none = λ tree same told. cc same }
cases_step state Reap = inl record { serving = refl; made = refl; none = λ tree same told. cc same }

-- the chains of a listener that is accepted don't clash
clear : (tree : Data) → rule_told tree ≡ None → has_clash (matches_of (chains_in tree)) ≡ false
unfolding chains_broken
clear tree told = none_clash (parts_broken tree) (has_clash (matches_of (chains_in tree))) told

-- ---- numbers and chains are apart in every state

pub sound_at : (events : List Event) (k : ℕ) → k ≤ length events → Sound (state_at events k).made (state_at events k).serving
sound_at events zero le = record {
  one_chain = λ number one other has has'. elim has [ ];
  one_number = λ chain one other has has'. elim has [ ];
  below = λ number chain has. elim has [ ];
}
sound_at events (suc k) le =
    let t = there events k (omega arith) in
    by t.event t.at (sound_at events k (omega arith)) (cases_step (state_at events k) t.event)
  where
    by : (event : Event) → event_at events k ≡ Some event → Sound (state_at events k).made (state_at events k).serving
        → SameRows (state_at events k) event ⊎ NextRows (state_at events k) event → Sound (state_at events (suc k)).made (state_at events (suc k)).serving
    by event at sound (inl same) =
        subst (λ (s : ChainState). Sound s.made s.serving) (sym (state_next events k event at))
        (subst (λ (m : ℕ). Sound m (chain_step (state_at events k) event).0.serving) (sym same.made)
        (subst (λ (rs : List Row). Sound (state_at events k).made rs) (sym same.serving) sound))
    by event at sound (inr next) =
        subst (λ (s : ChainState). Sound s.made s.serving) (sym (state_next events k event at))
        (subst (λ (m : ℕ). Sound m (chain_step (state_at events k) event).0.serving) (sym next.made)
        (subst (λ (rs : List Row). Sound (made_by (state_at events k).made (state_at events k).serving (chains_in next.tree)) rs) (sym next.serving)
        (sound_next (state_at events k).serving (state_at events k).made (chains_in next.tree) (clear next.tree next.told) sound)))

-- ---- a chain that was made

some_same : {A : Type 0} (x y : A) (o : Option A) → o ≡ Some x → o ≡ Some y → x ≡ y
some_same x y o e f = cc

module _ (events : List Event) (start : ℕ) (row : Row) where
  -- it serves and no listener since lacks it, or it doesn't serve and one does
  abbrev Stands : ℕ → Type 0
  Stands k =
      (HasRow row.number row.chain (state_at events k).serving × (LacksSince events start k row.chain → ⊥))
      ⊎ (((chain : Chain) → HasRow row.number chain (state_at events k).serving → ⊥) × LacksSince events start k row.chain)

  -- and its number was allocated
  record Known (k : ℕ) : Type 0 where
    pub drawn : row.number ≤ (state_at events k).made
    pub stands : Stands k

  -- a listener that lacks the chain is one more
  lacks_more : (k : ℕ) → LacksSince events start k row.chain → LacksSince events start (suc k) row.chain
  lacks_more k lacks = record {
    at = lacks.at;
    behind = lacks.behind;
    before = let lt = lacks.before in omega (arith, lt);
    chains = lacks.chains;
    accepted = lacks.accepted;
    none = lacks.none;
  }

  -- one that lacks it comes before the place, or at it
  lacks_cases : (k : ℕ) (lacks : LacksSince events start (suc k) row.chain) → LacksSince events start k row.chain ⊎ (lacks.at ≡ k)
  lacks_cases k lacks = by (order lacks.at k)
    where
      by : (lacks.at < k) ⊎ (k ≤ lacks.at) → LacksSince events start k row.chain ⊎ (lacks.at ≡ k)
      by (inl less) = inl record { at = lacks.at; behind = lacks.behind; before = less; chains = lacks.chains; accepted = lacks.accepted; none = lacks.none }
      by (inr more) = let lt = lacks.before in inr (omega (arith, lt, more))

  -- an event that is no accepted listener changes nothing
  same_stands : (k : ℕ) (event : Event) → event_at events k ≡ Some event → SameRows (state_at events k) event → Stands k → Stands (suc k)
  same_stands k event at same stands = by stands
    where
      rows : (state_at events (suc k)).serving ≡ (state_at events k).serving
      rows = ap (λ (s : ChainState). s.serving) (state_next events k event at) ∙ same.serving

      not_here : (lacks : LacksSince events start (suc k) row.chain) → lacks.at ≡ k → ⊥
      not_here lacks here =
          same.none lacks.accepted.tree (some_same event (Update lacks.accepted.tree) (event_at events k) at (subst (λ j. event_at events j ≡ Some (Update lacks.accepted.tree)) here lacks.accepted.at)) lacks.accepted.told

      none_since : (LacksSince events start k row.chain → ⊥) → (lacks : LacksSince events start (suc k) row.chain) → LacksSince events start k row.chain ⊎ (lacks.at ≡ k) → ⊥
      none_since none lacks (inl before) = none before
      none_since none lacks (inr here) = not_here lacks here

      by : Stands k → Stands (suc k)
      by (inl (has, none)) =
          inl (subst (λ (rs : List Row). HasRow row.number row.chain rs) (sym rows) has, λ lacks. none_since none lacks (lacks_cases k lacks))
      by (inr (gone, lacks)) =
          inr (λ chain has. gone chain (subst (λ (rs : List Row). HasRow row.number chain rs) rows has), lacks_more k lacks)

  -- the number isn't got anew
  not_new : (k : ℕ) (chain : Chain) → row.number ≤ (state_at events k).made → GotNumber (state_at events k).made (state_at events k).serving chain row.number
      → HasRow row.number chain (state_at events k).serving
  not_new k chain drawn (inl found) = for_some chain (state_at events k).serving row.number found
  not_new k chain drawn (inr fresh) = let lt = fresh.1 in absurd (omega (arith, drawn, lt))

  -- a listener that is accepted keeps the chain where it has one that equals it
  next_stands : (k : ℕ) (event : Event) → start < k → event_at events k ≡ Some event → Sound (state_at events k).made (state_at events k).serving
      → row.number ≤ (state_at events k).made → NextRows (state_at events k) event → Stands k → Stands (suc k)
  next_stands k event after at sound drawn next stands = by stands (list_any (λ other. chain_same other row.chain) (chains_in next.tree)) refl
    where
      rows : (state_at events (suc k)).serving ≡ numbered (state_at events k).made (state_at events k).serving (chains_in next.tree)
      rows = ap (λ (s : ChainState). s.serving) (state_next events k event at) ∙ next.serving

      accepted : AcceptsAt events k (chains_in next.tree)
      accepted = record { tree = next.tree; at = at ∙ ap Some next.is; told = next.told; has = refl }

      -- the listener at the place is this one
      same_chains : (lacks : LacksSince events start (suc k) row.chain) → lacks.at ≡ k → lacks.chains ≡ chains_in next.tree
      same_chains lacks here =
          let one : Update lacks.accepted.tree ≡ Update next.tree =
          some_same (Update lacks.accepted.tree) (Update next.tree) (event_at events k) (subst (λ j. event_at events j ≡ Some (Update lacks.accepted.tree)) here lacks.accepted.at) (at ∙ ap Some next.is) in
          let tree : lacks.accepted.tree ≡ next.tree = cc in
          lacks.accepted.has ∙ ap chains_in tree

      from_old : (chain : Chain) → HasRow row.number chain (state_at events (suc k)).serving → HasRow row.number chain (state_at events k).serving
      from_old chain has =
          not_new k chain drawn
          (row_number (state_at events k).serving (state_at events k).made (chains_in next.tree) row.number chain (subst (λ (rs : List Row). HasRow row.number chain rs) rows has))

      in_chains : (chain : Chain) → HasRow row.number chain (state_at events (suc k)).serving → HasChain chain (chains_in next.tree)
      in_chains chain has = row_chain (state_at events k).serving (state_at events k).made (chains_in next.tree) row.number chain (subst (λ (rs : List Row). HasRow row.number chain rs) rows has)

      keeps : HasRow row.number row.chain (state_at events k).serving → HasChain row.chain (chains_in next.tree)
          → ((number : ℕ) × (number_for row.chain (state_at events k).serving ≡ Some number)) ⊎ (number_for row.chain (state_at events k).serving ≡ None)
          → HasRow row.number row.chain (state_at events (suc k)).serving
      keeps has chain (inl (number, found)) =
          let same : number ≡ row.number = sound.one_number row.chain number row.number (for_some row.chain (state_at events k).serving number found) has in
          subst (λ (rs : List Row). HasRow row.number row.chain rs) (sym rows)
          (row_kept (state_at events k).serving (state_at events k).made (chains_in next.tree) row.number row.chain chain (found ∙ ap Some same))
      keeps has chain (inr none) = absurd (for_none row.chain (state_at events k).serving row.number none has)

      none_since : list_any (λ other. chain_same other row.chain) (chains_in next.tree) ≡ true → (LacksSince events start k row.chain → ⊥)
          → (lacks : LacksSince events start (suc k) row.chain) → LacksSince events start k row.chain ⊎ (lacks.at ≡ k) → ⊥
      none_since has none lacks (inl before) = none before
      none_since has none lacks (inr here) =
          true≢false (sym has ∙ ap (list_any (λ other. chain_same other row.chain)) (sym (same_chains lacks here)) ∙ lacks.none)

      by : Stands k → (t : Bool) → list_any (λ other. chain_same other row.chain) (chains_in next.tree) ≡ t → Stands (suc k)
      by (inl (has, none)) true is =
          inl (keeps has (chain_has row.chain (chains_in next.tree) is) (cases_for row.chain (state_at events k).serving), λ lacks. none_since is none lacks (lacks_cases k lacks))
      by (inl (has, none)) false is =
          inr (
            λ chain now.
                let same : chain ≡ row.chain = sound.one_chain row.number chain row.chain (from_old chain now) has in
                true≢false (sym (chain_true row.chain (chains_in next.tree) (subst (λ x. HasChain x (chains_in next.tree)) same (in_chains chain now))) ∙ is),
            record { at = k; behind = after; before = omega arith; chains = chains_in next.tree; accepted = accepted; none = is },
          )
      by (inr (gone, lacks)) t is = inr (λ chain now. gone chain (from_old chain now), lacks_more k lacks)

  -- one event more
  more : (k : ℕ) → start < k → suc k ≤ length events → Known k → Known (suc k)
  more k after le known = let t = there events k (omega arith) in by t.event t.at (cases_step (state_at events k) t.event)
    where
      by : (event : Event) → event_at events k ≡ Some event → SameRows (state_at events k) event ⊎ NextRows (state_at events k) event → Known (suc k)
      by event at (inl same) =
          let drawn = known.drawn in
          let made : (state_at events (suc k)).made ≡ (state_at events k).made = ap (λ (s : ChainState). s.made) (state_next events k event at) ∙ same.made in
          record { drawn = omega (arith, drawn, made); stands = same_stands k event at same known.stands }
      by event at (inr next) =
          let drawn = known.drawn in
          let made : (state_at events (suc k)).made ≡ made_by (state_at events k).made (state_at events k).serving (chains_in next.tree) =
          ap (λ (s : ChainState). s.made) (state_next events k event at) ∙ next.made in
          let up = made_more (state_at events k).serving (state_at events k).made (chains_in next.tree) in
          record {
            drawn = omega (arith, drawn, made, up);
            stands = next_stands k event after at (sound_at events k (omega arith)) known.drawn next known.stands;
          }

  first : suc start ≤ length events → MadeAt events start row → Known (suc start)
  first le made =
      let has = row_has row (state_at events (suc start)).serving made.serving in
      record {
        drawn = (sound_at events (suc start) le).below row.number row.chain has;
        stands = inl (has, λ lacks. let low = lacks.behind in let high = lacks.before in absurd (omega (arith, low, high)));
      }

  known : (k : ℕ) → start < k → k ≤ length events → MadeAt events start row → Known k
  known zero after le made = absurd (omega arith)
  known (suc k) after le made = by (order start k) (λ less. known k less (omega arith) made)
    where
      by : (start < k) ⊎ (k ≤ start) → (start < k → Known k) → Known (suc k)
      by (inl less) rest = more k less le (rest less)
      by (inr here) rest = let same : start ≡ k = omega (arith, after, here) in subst (λ j. Known (suc j)) same (first (omega (arith, le, same)) made)

  pub stays : (k : ℕ) → start < k → k ≤ length events → MadeAt events start row → (serves row.number (state_at events k) ≡ false) ↔ LacksSince events start k row.chain
  stays k after le made = by (known k after le made).stands
    where
      by : Stands k → (serves row.number (state_at events k) ≡ false) ↔ LacksSince events start k row.chain
      by (inl (has, none)) = (λ no. absurd (true≢false (sym (number_true row.number row.chain (state_at events k).serving has) ∙ no)), λ lacks. absurd (none lacks))
      by (inr (gone, lacks)) = (λ no. lacks, λ since. number_false row.number (state_at events k).serving gone)
