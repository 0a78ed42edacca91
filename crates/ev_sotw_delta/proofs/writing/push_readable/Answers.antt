use Rattle.std.proofs.Common.{◌≡◌, ◌<◌, true, false, arith}
use Rattle.std.specs.Prelude.{nat_le}
use Rattle.std.proofs.lemmas.Bool.{leb-true, leb-false}
use Rattle.std.proofs.lemmas.List.Elements.{All-push}
use Rattle.serde_json.specs.Data.{Data, depth}
use Rattle.serde_json.specs.View.{view}
use Rattle.ev_tree.specs.Floats.{whole}
use Rattle.ev_trees.specs.Trees.{ReadsBack, IsReadable}
use Rattle.ev_tree.proofs.FloatLemmas.{made_whole}
use Rattle.ev_sotw_delta.proofs.LimitLemmas.{all_last}
use Rattle.ev_sotw_delta.proofs.writing.push_readable.Goals as goal

pub returns-then-not-nests_within-clause-full : goal.returns-then-not-nests_within-clause-full
returns-then-not-nests_within-clause-full c = λ _ trees written fits.
    let tree : Data = view c.args.tree.now in
    let deep : depth (whole tree) ≡ depth tree = (made_whole tree).deep in
    let here : IsReadable (whole tree) = all_last IsReadable trees (whole tree) fits.readable in
    let far : nat_le (depth tree) 127 ≡ false = grind (arith, c.nests_within.ensures) in
    let beyond : 127 < depth tree = leb-false (depth tree) 127 far in
    omega (arith, deep, here, beyond)

pub returns-clause-pushed : goal.returns-clause-pushed
returns-clause-pushed c = λ is trees written.
    let tree : Data = view c.args.tree.now in
    let deep : depth (whole tree) ≡ depth tree = (made_whole tree).deep in
    let near : nat_le (depth tree) 127 ≡ true = grind (arith, c.nests_within.ensures) in
    let readable : IsReadable tree = leb-true (depth tree) 127 near in
    let here : IsReadable (whole tree) = omega (arith, deep, readable) in
    let pushed = c.push.ensures.pushed trees written.text_is is in
    record {
      text_is = pushed;
      fits = record { readable = All-push IsReadable trees (whole tree) written.fits.readable here; limits = pushed.limits };
      read_back = All-push ReadsBack trees (whole tree) written.read_back (c.push.ensures.reads_back is readable);
    }
