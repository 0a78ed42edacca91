-- A state that represents a world represents it once a new generation warms in both.
use Rattle.std.proofs.Common.{◌≡◌, ◌∙◌, ℕ, ◌+◌, ◌<◌, ◌≤◌, Bool, true, false, cond, ◌||◌, List, [], ◌∷◌, Option, None, Some, IsSome, is_some, unwrap_or, map, filter, refl, sym, ap, subst, true≢false, arith, ⊎_elim, Result, Ok, Err, OnOk}
use Rattle.std.specs.List.{last_or}
use Rattle.std.specs.Option.{option_or}
use Rattle.std.proofs.lemmas.Bool.{ne_eqb, cases_lt}
use Rattle.std.proofs.lemmas.List.Folds.{find-append}
use Rattle.ev_types.specs.Items.{content_kind}
use Rattle.ev_types.specs.Texts.{IsName}
use Rattle.ev_types.specs.declared.contents.Kind.{Kind}
use Rattle.ev_types.specs.declared.contents.Content.{Content}
use Rattle.ev_types.specs.declared.hosts.Host.{Host}
use Rattle.ev_types.specs.declared.origins.KeptChain.{KeptChain}
use Rattle.ev_types.specs.declared.rows.GenRow.{GenRow}
use Rattle.ev_model.specs.World.{World, HealthResult}
use Rattle.ev_model.specs.Warming.{has_result, is_healthy, is_result_of}
use Rattle.ev_model.specs.Rows.{with_statuses, replaced_status, new_row, rows_with_new}
use Rattle.ev_indexes.specs.KeptEndpoints.{result_in}
use Rattle.ev_indexes.specs.Tables.{is_number, row_in}
use Rattle.ev_indexes.specs.declared.state.State.{State}
use Rattle.ev_indexes.specs.Indexes.{IsIndexed, SameMarks}
use Rattle.ev_indexes.specs.Worlds.{HasRows}
use Rattle.ev_indexes.proofs.SoundLemmas.{sound-added}
use Rattle.ev_warming.proofs.PromotedLemmas.{there_before}

-- without a result a host isn't healthy
pub unheard-healthy : (results : List HealthResult) (number : ℕ) (host : Host) → has_result results number host ≡ false → is_healthy results number host ≡ false
unheard-healthy [] number host none = refl
unheard-healthy (r ∷ results) number host none = by (is_result_of number host r) none (unheard-healthy results number host)
  where
    by : (b : Bool) → (b || has_result results number host) ≡ false → (has_result results number host ≡ false → is_healthy results number host ≡ false)
        → unwrap_or (last_or None (map (λ (r : HealthResult). r.healthy) (cond b (r ∷ filter (is_result_of number host) results) (filter (is_result_of number host) results)))) false ≡ false
    by true h rest = absurd (true≢false h)
    by false h rest = rest h

-- a row that isn't the new one was there before
there_early : (kind : Kind) (made : ℕ) (name : List ℕ) (content : Content) (kept : List KeptChain) (rows : List GenRow) (n : ℕ) → n ≤ made
    → IsSome (row_in n (rows_with_new kind made name content kept rows)) → IsSome (row_in n rows)
there_early kind made name content kept rows n below there =
    there_before n (replaced_status kind name) rows
    (by (row_in n (with_statuses (replaced_status kind name) rows))
    (subst IsSome
    (find-append (is_number n) (with_statuses (replaced_status kind name) rows) (new_row kind made name content kept ∷ [])
    ∙ (λ i. option_or (row_in n (with_statuses (replaced_status kind name) rows)) (cond (ne_eqb n (made + 1) (λ e. absurd (omega arith)) i) (Some (new_row kind made name content kept)) None)))
    there))
  where
    by : (o : Option GenRow) → IsSome (option_or o None) → IsSome o
    by None h = h
    by (Some row) h = h

pub added-stands : (s t : State) (world : World) (kind : Kind) (name : List ℕ) (content : Content) (kept : List KeptChain) → IsName name → content_kind content ≡ kind → IsIndexed s → HasRows s world
    → t.results ≡ s.results → t.table.made ≡ s.table.made + 1 → SameMarks s.watches t.watches
    → t.table.rows ≡ rows_with_new kind s.table.made name content kept s.table.rows
    → HasRows t (record world { rows = rows_with_new kind world.made name content kept world.rows; made = world.made + 1 })
added-stands s t world kind name content kept named typed x stands results made marks rows =
    let there : (n : ℕ) → n ≤ s.table.made → IsSome (row_in n t.table.rows) → IsSome (row_in n s.table.rows) =
    λ n below there. there_early kind s.table.made name content kept s.table.rows n below (subst (λ (rs : List GenRow). IsSome (row_in n rs)) rows there) in
    record {
      sound = sound-added world kind name content kept stands.sound named typed;
      rows = rows ∙ (λ i. rows_with_new kind (stands.made i) name content kept (stands.rows i));
      made = made ∙ (λ i. stands.made i + 1);
      told = λ q. (marks q).0 ∙ stands.told q;
      timed = λ q. (marks q).1 ∙ stands.timed q;
      value = λ q. (marks q).2 ∙ stands.value q;
      resulted = λ n h found. (λ i. is_some (result_in (results i) n h))
          ∙ ⊎_elim (λ above. ap is_some (x.drawn n h above) ∙ sym (stands.sound.heard n h (subst (λ m. m < n) stands.made above)))
          (λ below. stands.resulted n h (there n below found)) (cases_lt s.table.made n);
      healthy = λ n h found. (λ i. unwrap_or (result_in (results i) n h) false)
          ∙ ⊎_elim (λ above. (λ i. unwrap_or (x.drawn n h above i) false)
          ∙ sym (unheard-healthy world.results n h (stands.sound.heard n h (subst (λ m. m < n) stands.made above))))
          (λ below. stands.healthy n h (there n below found)) (cases_lt s.table.made n);
    }

-- what follows from four facts that a call ensures on success
pub on_ok4 : {A E P Q R S T : Type 0} (r : Result A E) → OnOk r P → OnOk r Q → OnOk r R → OnOk r S → (P → Q → R → S → T) → OnOk r T
on_ok4 (Ok v) p q r s f = f p q r s
on_ok4 (Err e) p q r s f = p
