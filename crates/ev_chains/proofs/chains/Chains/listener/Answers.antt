use Rattle.std.proofs.Common.{◌≡◌, ◌∙◌, ◌++◌, true, false, ap, sym, subst, List, ℕ}
use Rattle.std.specs.Prelude.{⊤}
use Rattle.std.proofs.lemmas.Result.{IfOk-from_err, MatchResult-from_err}
use Rattle.serde_json.specs.View.{view}
use Rattle.ev_model.specs.Picture.{has_number}
use Rattle.ev_model.specs.Publishing.{ascending}
use Rattle.ev_chains.specs.declared.next.Next.{Next}
use Rattle.ev_chains.specs.Kept.{AreKept, AreNumbered, Apart, draining_in}
use Rattle.ev_chains.specs.Listeners.{chains_in, rule_told}
use Rattle.ev_chains.specs.State.{ChainState, numbered, made_by, gone_in, kept_in, accepted, listener_reading}
use Rattle.ev_chains.proofs.NextLemmas.{judged_ok, changed_is, accepted_is}
use Rattle.ev_chains.proofs.NumberLemmas.{gone_apart, gone_new, numbered_then}
use Rattle.ev_chains.proofs.KeptLemmas.{placed_start, start_same}
use Rattle.ev_chains.proofs.chains.Chains.listener.Goals as goal

pub returns-clause-answer : goal.returns-clause-answer
returns-clause-answer c =
    let tree = view c.args.body.now in
    let self = c.self.inside in
    let chains = chains_in tree in
    let state : ChainState = record { made = self.made; serving = self.serving; draining = draining_in self.began.items self.draining.idle.items self.draining.busy.keys; opened = self.ledger } in
    let parts = judged_ok (rule_told tree) (record { rows = numbered self.made self.serving chains; made = made_by self.made self.serving chains }) c.in_ok-rows.field-0 c.in_ok-rows.ensures.reading in
    let rows = ap (λ (n : Next). n.rows) parts.1 in
    let made = ap (λ (n : Next). n.made) parts.1 in
    let gone = c.in_ok-parted.ensures.gone ∙ ap (gone_in c.in_ok-rows.field-0.rows) c.rows.ensures in
    sym (ap (listener_reading tree) c.self.view_is)
    ∙ changed_is tree state c.in_ok-rows.field-0.rows c.in_ok-rows.field-0.made c.in_ok-ascending.field-0 c.in_ok-ascending-2.field-0 c.in_ok-numbers_above.field-0
    parts.0 rows made
    (c.in_ok-ascending.ensures ∙ ap ascending (c.in_ok-plain_numbers.ensures ∙ c.as_slice.ensures.value ∙ gone))
    (c.in_ok-ascending-2.ensures ∙ ap ascending (c.in_ok-parted.ensures.kept ∙ ap (kept_in c.in_ok-rows.field-0.rows) c.rows.ensures))
    c.in_ok-numbers_above.ensures

pub invariant_of-self-2 : goal.invariant_of-self-2
invariant_of-self-2 c =
    let tree = view c.args.body.now in
    let self = c.self.inside in
    let kept = c.self.invariant in
    let chains = chains_in tree in
    let parts = judged_ok (rule_told tree) (record { rows = numbered self.made self.serving chains; made = made_by self.made self.serving chains }) c.in_ok-rows.field-0 c.in_ok-rows.ensures.reading in
    let rows = ap (λ (n : Next). n.rows) parts.1 in
    let made = ap (λ (n : Next). n.made) parts.1 in
    let next = c.in_ok-rows.field-0.rows in
    let now = c.as_slice-gone.result.now in
    let gone = c.as_slice-gone.ensures.value ∙ c.in_ok-parted.ensures.gone ∙ ap (gone_in next) c.rows.ensures in
    let began = c.push_all.ensures.items ∙ ap (λ (l : List ℕ). l ++ now) c.reserve.ensures.items in
    let apart = subst Apart (sym gone) (gone_apart self.made self.serving self.began.items kept.numbered next) in
    let new : (n : ℕ) → has_number n self.began.items ≡ true → has_number n now ≡ false = λ n has. ap (has_number n) gone ∙ gone_new self.made self.serving self.began.items kept.numbered next n has in
    subst (λ (all : List ℕ). AreKept c.in_ok-rows.field-0.made next all c.start.new.self.idle.items c.start.new.self.busy.keys self.ledger) (sym began)
    (subst (λ (idle : List ℕ). AreKept c.in_ok-rows.field-0.made next (self.began.items ++ now) idle c.start.new.self.busy.keys self.ledger) (sym c.in_ok-start.ensures.idle)
    (record {
      numbered = subst (λ (gs : List ℕ). AreNumbered c.in_ok-rows.field-0.made next (self.began.items ++ gs)) (sym gone)
          (numbered_then self.made self.serving self.began.items kept.numbered chains next c.in_ok-rows.field-0.made rows made c.in_ok-rows.ensures.apart);
      placed = placed_start self.began.items self.draining.idle.items self.draining.busy.keys self.ledger kept.placed now c.start.new.self.busy.keys apart new c.in_ok-start.ensures.busy;
    }))

pub returns-clause-state : goal.returns-clause-state
returns-clause-state c =
    let tree = view c.args.body.now in
    let self = c.self.inside in
    let kept = c.self.invariant in
    let chains = chains_in tree in
    let parts = judged_ok (rule_told tree) (record { rows = numbered self.made self.serving chains; made = made_by self.made self.serving chains }) c.in_ok-rows.field-0 c.in_ok-rows.ensures.reading in
    let rows = ap (λ (n : Next). n.rows) parts.1 in
    let made = ap (λ (n : Next). n.made) parts.1 in
    let next = c.in_ok-rows.field-0.rows in
    let now = c.as_slice-gone.result.now in
    let gone = c.as_slice-gone.ensures.value ∙ c.in_ok-parted.ensures.gone ∙ ap (gone_in next) c.rows.ensures in
    let began = c.push_all.ensures.items ∙ ap (λ (l : List ℕ). l ++ now) c.reserve.ensures.items in
    let apart = subst Apart (sym gone) (gone_apart self.made self.serving self.began.items kept.numbered next) in
    let new : (n : ℕ) → has_number n self.began.items ≡ true → has_number n now ≡ false = λ n has. ap (has_number n) gone ∙ gone_new self.made self.serving self.began.items kept.numbered next n has in
    let state : ChainState = record { made = self.made; serving = self.serving; draining = draining_in self.began.items self.draining.idle.items self.draining.busy.keys; opened = self.ledger } in
    let draining =
    (λ i. draining_in (began i) (c.in_ok-start.ensures.idle i) c.start.new.self.busy.keys)
    ∙ start_same self.began.items self.draining.idle.items self.draining.busy.keys self.ledger kept.placed now c.start.new.self.busy.keys apart new c.in_ok-start.ensures.busy
    ∙ ap (λ (gs : List ℕ). state.draining ++ gs) gone in
    accepted_is chains state next c.in_ok-rows.field-0.made (draining_in c.push_all.new.list.items c.start.new.self.idle.items c.start.new.self.busy.keys) rows made draining
    ∙ ap (accepted chains) c.self.view_is

-- out of memory, the lists are as before
pub invariant_of-self : goal.invariant_of-self
invariant_of-self c =
    let self = c.self.inside in
    subst (λ (all : List ℕ). AreKept self.made self.serving all self.draining.idle.items self.draining.busy.keys self.ledger) (sym c.reserve.ensures.items) c.self.invariant

pub returns-in_err-reserve-clause-err : goal.returns-in_err-reserve-clause-err
returns-in_err-reserve-clause-err c =
    let self = c.self.inside in
    let state : ChainState = record { made = self.made; serving = self.serving; draining = draining_in c.reserve.new.self.items self.draining.idle.items self.draining.busy.keys; opened = self.ledger } in
    let same : state ≡ c.args.self.now =
    (λ i. record { made = self.made; serving = self.serving; draining = draining_in (c.reserve.ensures.items i) self.draining.idle.items self.draining.busy.keys; opened = self.ledger })
    ∙ c.self.view_is in
    MatchResult-from_err c.from_residual-in_err-reserve.result (λ _. ⊤) (λ _. state ≡ c.args.self.now) c.from_residual-in_err-reserve.ensures.0 (λ _. same)

pub returns-in_err-start-clause-err : goal.returns-in_err-start-clause-err
returns-in_err-start-clause-err c =
    let self = c.self.inside in
    let state : ChainState = record { made = self.made; serving = self.serving; draining = draining_in c.reserve.new.self.items c.start.new.self.idle.items c.start.new.self.busy.keys; opened = self.ledger } in
    let same : state ≡ c.args.self.now =
    (λ i. record {
      made = self.made;
      serving = self.serving;
      draining = draining_in (c.reserve.ensures.items i) (c.in_err-start.ensures.same_idle i) (c.in_err-start.ensures.same_busy i);
      opened = self.ledger;
    })
    ∙ c.self.view_is in
    MatchResult-from_err c.from_residual-in_err-start.result (λ _. ⊤) (λ _. state ≡ c.args.self.now) c.from_residual-in_err-start.ensures.0 (λ _. same)

pub returns-in_err-start-clause-state : goal.returns-in_err-start-clause-state
returns-in_err-start-clause-state c =
    let self = c.self.inside in
    let state : ChainState = record { made = self.made; serving = self.serving; draining = draining_in c.reserve.new.self.items c.start.new.self.idle.items c.start.new.self.busy.keys; opened = self.ledger } in
    IfOk-from_err c.from_residual-in_err-start.result (λ _. state ≡ accepted (chains_in (view c.args.body.now)) c.args.self.now) c.from_residual-in_err-start.ensures.0
