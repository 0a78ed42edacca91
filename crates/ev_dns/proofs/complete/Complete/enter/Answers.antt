use Rattle.std.proofs.Common.{◌≡◌, Some, sym}
use Rattle.std.specs.Prelude.{slice_get}
use Rattle.std.proofs.lemmas.Result.{on_ok_weaker}
use Rattle.ev_trees.specs.Kept.{kept_shown}
use Rattle.ev_expand.specs.Guarding.{Guarded}
use Rattle.ev_expand.specs.Numbers.{guarded_so_far}
use Rattle.ev_dns.proofs.WaitingLemmas.{enters_one}
use Rattle.ev_dns.proofs.complete.Complete.enter.Goals as goal

pub returns-in-Some : goal.returns-in-Some
returns-in-Some c =
    let g : Guarded = record { key = c.in-Some.key.now; own = kept_shown c.in-Some.field-0-1.now } in
    let at : slice_get (guarded_so_far c.args.numbers.now) c.args.place ≡ Some g = sym c.in-Some.ensures in
    on_ok_weaker c.put_all.result (enters_one (guarded_so_far c.args.numbers.now) c.args.place g c.args.self.now _ at c.in_ok-put_place.ensures) c.put_all.ensures
