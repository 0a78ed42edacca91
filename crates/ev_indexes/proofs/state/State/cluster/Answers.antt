use Rattle.std.proofs.Common.{◌≡◌, ◌∙◌, ℕ, true, true≢false, Some, IfSome, refl, sym, ap, subst}
use Rattle.std.proofs.lemmas.Result.{IfOk-weaker}
use Rattle.ev_types.specs.Statuses.{is_active, is_live}
use Rattle.ev_types.specs.declared.rows.RowStatus.{RowStatus}
use Rattle.ev_types.specs.declared.rows.RowStatus.TheVariants.{Warming, Active, Draining, Dropped}
use Rattle.ev_indexes.specs.KeptEndpoints.{marked_in}
use Rattle.ev_indexes.specs.Tables.{row_in}
use Rattle.ev_indexes.proofs.TableLemmas.{number-row_in}
use Rattle.ev_indexes.specs.Indexes.{IsAssignmentOf}
use Rattle.ev_indexes.specs.Shown.{cluster_shown_in}
use Rattle.ev_indexes.proofs.FoundLemmas.{cluster-found}
use Rattle.ev_indexes.proofs.state.State.cluster.Goals as goal

pub returns-in-Some-clause-world : goal.returns-in-Some-clause-world
returns-in-Some-clause-world c =
    let s = c.args.self.now in
    IfOk-weaker c.active_cluster.result _ _ (λ served e world stands.
    e ∙ ap (cluster_shown_in s.watches s.results) c.in-Some.ensures ∙ cluster-found s world stands c.args.number) c.active_cluster.ensures

pub returns-in-None-clause-world : goal.returns-in-None-clause-world
returns-in-None-clause-world c = λ world stands.
    let s = c.args.self.now in
    ap (cluster_shown_in s.watches s.results) c.in-None.ensures ∙ cluster-found s world stands c.args.number

live : (status : RowStatus) → is_active status ≡ true → is_live status ≡ true
live Warming active = refl
live Active active = refl
live Draining active = absurd (true≢false (sym active))
live Dropped active = absurd (true≢false (sym active))

pub active_cluster-requires : goal.active_cluster-requires
active_cluster-requires c =
    let s = c.args.self.now in
    let row = c.in-Some.row.now in
    let at : row_in c.args.number s.table.rows ≡ Some row = sym c.in-Some.ensures in
    record {
      marked = λ active.
          subst (λ (n : ℕ). IfSome (marked_in s.results n) (IsAssignmentOf s.watches row.content)) (sym (number-row_in c.args.number row s.table.rows at))
          (c.requires.marked row at (live row.status active));
    }
