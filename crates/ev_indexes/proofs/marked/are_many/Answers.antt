use Rattle.std.proofs.Common.{◌∙◌, ap, length}
use Rattle.std.proofs.lemmas.Bool.{eqb-true}
use Rattle.ev_indexes.proofs.MarkLemmas.{no_repeats}
use Rattle.ev_indexes.proofs.marked.are_many.Goals as goal

pub returns-then-count-gt0 : goal.returns-then-count-gt0
returns-then-count-gt0 c = λ same.
    no_repeats c.args.rows.now c.count_indexed-count.result c.count_indexed-count.ensures
    (eqb-true c.count_indexed-count.result (length c.rows.result.now) same ∙ ap length c.rows.ensures.rows)
