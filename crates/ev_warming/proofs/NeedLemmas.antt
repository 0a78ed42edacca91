-- What rows depend on are names, whatever their statuses.
use Rattle.std.proofs.Common.{◌≡◌, ℕ, List, sym, subst}
use Rattle.std.specs.List.{AllByRecursion}
use Rattle.ev_types.specs.declared.contents.Kind.{Kind}
use Rattle.ev_types.specs.declared.contents.Content.{Content}
use Rattle.ev_types.specs.declared.origins.KeptChain.{KeptChain}
use Rattle.ev_types.specs.declared.rows.RowStatus.{RowStatus}
use Rattle.ev_types.specs.declared.rows.GenRow.{GenRow}
use Rattle.ev_model.specs.Rows.{with_statuses, replaced_status, new_row, rows_with_new}
use Rattle.ev_model.specs.Watching.{dependencies_of}
use Rattle.ev_indexes.proofs.SoundLemmas.{all-with_statuses, all-push}
use Rattle.ev_indexes.specs.Needs.{HaveNames}

pub needs-statused : (rows after : List GenRow) (f : GenRow → RowStatus) → after ≡ with_statuses f rows
    → AllByRecursion (λ (r : GenRow). HaveNames (dependencies_of r.content)) rows → AllByRecursion (λ (r : GenRow). HaveNames (dependencies_of r.content)) after
needs-statused rows after f e needs =
    subst (AllByRecursion (λ (r : GenRow). HaveNames (dependencies_of r.content))) (sym e)
    (all-with_statuses (λ (r : GenRow). HaveNames (dependencies_of r.content)) f (λ status r h. h) rows needs)

pub needs-added : (kind : Kind) (made : ℕ) (name : List ℕ) (content : Content) (kept : List KeptChain) (rows after : List GenRow) → after ≡ rows_with_new kind made name content kept rows
    → AllByRecursion (λ (r : GenRow). HaveNames (dependencies_of r.content)) rows → HaveNames (dependencies_of content) → AllByRecursion (λ (r : GenRow). HaveNames (dependencies_of r.content)) after
needs-added kind made name content kept rows after e needs new =
    subst (AllByRecursion (λ (r : GenRow). HaveNames (dependencies_of r.content))) (sym e)
    (all-push (λ (r : GenRow). HaveNames (dependencies_of r.content)) (with_statuses (replaced_status kind name) rows) (new_row kind made name content kept)
    (all-with_statuses (λ (r : GenRow). HaveNames (dependencies_of r.content)) (replaced_status kind name) (λ status r h. h) rows needs) new)
