use Rattle.std.proofs.Common.{nat_cmp, sym, ◌∙◌}
use Rattle.std.specs.BTreeSet.{contains}
use Rattle.std.proofs.lemmas.Result.{IfOk-weaker}
use Rattle.ev_expand.specs.Numbers.{guarded_so_far}
use Rattle.ev_dns.specs.Known.{due_found}
use Rattle.ev_dns.proofs.resolutions.Resolutions.find_due.Goals as goal

pub returns-then-was_open : goal.returns-then-was_open
returns-then-was_open c = record {
  due = IfOk-weaker c.due_among.result _ _
      (λ due h. h ∙ (λ i. due_found c.args.self.now.answers (guarded_so_far c.args.numbers.now) (sym c.if-not-self.false i) (sym c.if-was_open.true i) (contains nat_cmp c.args.touched.now) (contains nat_cmp c.args.self.now.complete.places)))
      c.due_among.ensures;
}

pub returns : goal.returns
returns c = record {
  due = IfOk-weaker c.due_among-2.result _ _
      (λ due h. h ∙ (λ i. due_found c.args.self.now.answers (guarded_so_far c.args.numbers.now) (sym c.if-not-self.false i) (sym c.if-was_open.false i) (contains nat_cmp c.args.touched.now) (contains nat_cmp c.args.self.now.complete.places)))
      c.due_among-2.ensures;
}
