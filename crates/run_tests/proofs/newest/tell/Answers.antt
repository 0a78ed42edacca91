-- The passes of Main and of another, and all of them again.
use Rattle.std.proofs.Common.{◌≡◌, ◌∙◌, Some, sym, ap, arith}
use Rattle.std.specs.Prelude.{slice_get}
use Rattle.std.proofs.lemmas.Option.{slice_get_read}
use Rattle.ev_gate.specs.Words.{gate_id}
use Rattle.run_tests.proofs.Passes.{without, with_one}
use Rattle.run_tests.proofs.newest.tell.Goals as goal

pub publish-main-requires-clause-main : goal.publish-main-requires-clause-main
publish-main-requires-clause-main g c κs within =
    let new = c.in-Ok.ensures.passes in
    let pass = c.remove-main.result in
    let there : slice_get c.in-Ok.made.1.items 3 ≡ Some pass = slice_get_read c.in-Ok.made.1.items 5 3 pass (sym new.count_is) (omega arith) c.remove-main.ensures.value in
    (new.gate_is 3 pass there, ap (λ k. k.number) (new.knows 3 pass there))

pub publish-main-requires-clause-other : goal.publish-main-requires-clause-other
publish-main-requires-clause-other g c κs within =
    let new = c.in-Ok.ensures.passes in
    let pass = c.remove-other.result in
    let same = c.remove-main.ensures.by_index.0 in
    let there : slice_get c.in-Ok.made.1.items 0 ≡ Some pass =
    slice_get_read c.in-Ok.made.1.items 5 0 pass (sym new.count_is) (omega arith) (c.remove-other.ensures.value ∙ same 0 pass (omega arith)) in
    (new.gate_is 0 pass there, ap (λ k. k.number) (new.knows 0 pass there))

pub close-requires : goal.close-requires
close-requires g c =
    let new = c.in-Ok.ensures.passes in
    let gate = gate_id c.in-Ok.made.0 in
    let all = c.in-Ok.made.1.items in
    let others = c.remove-main.new.self.items in
    let rest = c.remove-other.new.self.items in
    let one = c.push_reserved.new.self.items in
    record {
      count_is = omega (arith, new.count_is, c.in-Ok.ensures.gate.1, c.remove-main.ensures.len, c.remove-other.ensures.len, c.push_reserved.ensures.len, c.push_reserved-2.ensures.len);
      gate_is = with_one gate one c.push_reserved-2.new.self.items c.publish-main.result.0 c.push_reserved-2.ensures.items c.publish-main.ensures.main.0
          (with_one gate rest one c.publish-main.result.1 c.push_reserved.ensures.items c.publish-main.ensures.other.0
          (without gate others rest 0 c.remove-other.ensures.items (without gate all others 3 c.remove-main.ensures.items new.gate_is)));
    }
