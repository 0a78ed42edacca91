use Rattle.std.proofs.Common.{◌<◌, sym, subst}
use Rattle.ev_indexes.proofs.RoundLemmas.{round_open}
use Rattle.ev_indexes.proofs.results.Results.first_round_done.Goals as goal

pub returns-then-count-count_indexed : goal.returns-then-count-count_indexed
returns-then-count-count_indexed c =
    let fewer = subst (λ n. n < c.count_indexed.result) c.count.ensures c.if-count-count_indexed.true in
    sym (round_open c.args.self.now c.args.number c.args.rows.now c.count_indexed.result c.count_indexed.ensures fewer)
