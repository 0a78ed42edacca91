use Rattle.std.proofs.Common.{ℕ, ◌+◌, ◌≡◌, None, nat_eq, sym, ap, ◌∙◌, subst, arith}
use Rattle.std.specs.Option.{unwrap_or}
use Rattle.std.specs.Map.{lookup, values_of}
use Rattle.std.specs.BTreeMap.{is_at}
use Rattle.std.specs.List.{sum_by}
use Rattle.ev_model.specs.Sorted.{put_by}
use Rattle.ev_model.specs.Connections.{is_open}
use Rattle.ev_ledger.specs.Members.{member_before, member_on}
use Rattle.ev_ledger.specs.Entries.{AreIndexed, EntersUnder, LeavesUnder, began_at, key_order, listener_of, members_of, weight}
use Rattle.ev_ledger.proofs.EntryLemmas.{found_open, put_members, sum_put, sum_few}
use Rattle.ev_ledger.proofs.IndexLemmas.{entered, entered_left, none_there, same_indexed}
use Rattle.ev_ledger.proofs.PlaceLemmas.{open_stands}
use Rattle.ev_ledger.proofs.ledger.Ledger.open.Goals as goal

pub raise_on-requires-clause-fits : goal.raise_on-requires-clause-fits
raise_on-requires-clause-fits c number =
    let same = ap (λ es. unwrap_or (lookup (nat_eq number) es) 0) c.reserve.ensures.entries in
    let counts = c.self.invariant.counted number in
    let few = c.put.ensures.few in
    let sums = sum_few number c.self.inside.members.entries in
    omega (arith, same, counts, few, sums)

pub invariant_of-self-2 : goal.invariant_of-self-2
invariant_of-self-2 c =
    let place : ℕ × ℕ = (c.args.worker, c.args.conn) in
    let none = found_open c.args.worker c.args.conn c.self.inside.members.entries ∙ ap (λ ms. is_open ms c.args.worker c.args.conn) c.self.view_is ∙ c.requires.apart in
    record {
      counted = λ number. c.raise_on.ensures.counts number
          ∙ ap (λ es. unwrap_or (lookup (nat_eq number) es) 0 + weight number c.args.on) c.reserve.ensures.entries
          ∙ ap (λ n. n + weight number c.args.on) (c.self.invariant.counted number)
          ∙ sym (sum_put number place c.args.on c.self.inside.members.entries c.put.ensures.ordered none)
          ∙ ap (λ es. sum_by (weight number) (values_of es)) (sym c.in-Ok-put.ensures.entries);
      none_zero = c.raise_on.ensures.none_zero (λ number h. c.self.invariant.none_zero number (sym (ap (lookup (nat_eq number)) c.reserve.ensures.entries) ∙ h));
      indexed = entered listener_of c.self.inside.places c.enter_under.new.places place c.args.on c.self.inside.members.entries c.put.new.members.entries
          (none_there _ none)
          (subst (λ n. EntersUnder n place c.self.inside.places c.enter_under.new.places) c.listener_of-listener.ensures c.in-Ok-enter_under.ensures.entered)
          c.in-Ok-put.ensures.found c.self.invariant.indexed;
      begun_indexed = entered began_at c.self.inside.begun c.enter_under-2.new.places place c.args.on c.self.inside.members.entries c.put.new.members.entries
          (none_there _ none)
          (subst (λ n. EntersUnder n place c.self.inside.begun c.enter_under-2.new.places) c.began_at-began.ensures c.in-Ok-enter_under-2.ensures.entered)
          c.in-Ok-put.ensures.found c.self.invariant.begun_indexed;
    }

opened : goal.returns-clause-opened
opened c =
    let none = found_open c.args.worker c.args.conn c.self.inside.members.entries ∙ ap (λ ms. is_open ms c.args.worker c.args.conn) c.self.view_is ∙ c.requires.apart in
    ap members_of c.in-Ok-put.ensures.entries
    ∙ put_members (c.args.worker, c.args.conn) c.args.on c.self.inside.members.entries none
    ∙ ap (put_by member_before (member_on c.args.worker c.args.conn c.args.on)) c.self.view_is

pub returns-clause-opened : goal.returns-clause-opened
returns-clause-opened c = opened c

pub returns-clause-world : goal.returns-clause-world
returns-clause-world c world stands =
    opened c ∙ open_stands c.args.worker c.args.conn c.args.on c.args.self.now world c.requires.apart stands

pub invariant_of-self-in_default-put : goal.invariant_of-self-in_default-put
invariant_of-self-in_default-put c =
    let place : ℕ × ℕ = (c.args.worker, c.args.conn) in
    let none = found_open c.args.worker c.args.conn c.self.inside.members.entries ∙ ap (λ ms. is_open ms c.args.worker c.args.conn) c.self.view_is ∙ c.requires.apart in
    let absent : lookup (is_at (key_order place)) c.self.inside.members.entries ≡ None = none_there _ none in
    record {
      counted = λ number. ap (λ es. unwrap_or (lookup (nat_eq number) es) 0) c.reserve.ensures.entries ∙ c.self.invariant.counted number
          ∙ ap (λ es. sum_by (weight number) (values_of es)) (sym c.in_default-put.ensures.err);
      none_zero = λ number h. c.self.invariant.none_zero number (sym (ap (lookup (nat_eq number)) c.reserve.ensures.entries) ∙ h);
      indexed = subst (AreIndexed listener_of c.leave_under-in_default-put.new.places) (sym c.in_default-put.ensures.err)
          (entered_left listener_of c.self.inside.places c.enter_under.new.places c.leave_under-in_default-put.new.places place c.args.on c.self.inside.members.entries absent
          (subst (λ n. EntersUnder n place c.self.inside.places c.enter_under.new.places) c.listener_of-listener.ensures c.in-Ok-enter_under.ensures.entered)
          (subst (λ n. LeavesUnder n place c.enter_under.new.places c.leave_under-in_default-put.new.places) c.listener_of-listener.ensures c.leave_under-in_default-put.ensures)
          c.self.invariant.indexed);
      begun_indexed = subst (AreIndexed began_at c.leave_under-in_default-put-2.new.places) (sym c.in_default-put.ensures.err)
          (entered_left began_at c.self.inside.begun c.enter_under-2.new.places c.leave_under-in_default-put-2.new.places place c.args.on c.self.inside.members.entries absent
          (subst (λ n. EntersUnder n place c.self.inside.begun c.enter_under-2.new.places) c.began_at-began.ensures c.in-Ok-enter_under-2.ensures.entered)
          (subst (λ n. LeavesUnder n place c.enter_under-2.new.places c.leave_under-in_default-put-2.new.places) c.began_at-began.ensures c.leave_under-in_default-put-2.ensures)
          c.self.invariant.begun_indexed);
    }

pub invariant_of-self-in_default-enter_under-2 : goal.invariant_of-self-in_default-enter_under-2
invariant_of-self-in_default-enter_under-2 c =
    let place : ℕ × ℕ = (c.args.worker, c.args.conn) in
    let none = found_open c.args.worker c.args.conn c.self.inside.members.entries ∙ ap (λ ms. is_open ms c.args.worker c.args.conn) c.self.view_is ∙ c.requires.apart in
    record {
      counted = λ number. ap (λ es. unwrap_or (lookup (nat_eq number) es) 0) c.reserve.ensures.entries ∙ c.self.invariant.counted number;
      none_zero = λ number h. c.self.invariant.none_zero number (sym (ap (lookup (nat_eq number)) c.reserve.ensures.entries) ∙ h);
      indexed =
          entered_left listener_of c.self.inside.places c.enter_under.new.places c.leave_under.new.places place c.args.on c.self.inside.members.entries
          (none_there _ none)
          (subst (λ n. EntersUnder n place c.self.inside.places c.enter_under.new.places) c.listener_of-listener.ensures c.in-Ok-enter_under.ensures.entered)
          (subst (λ n. LeavesUnder n place c.enter_under.new.places c.leave_under.new.places) c.listener_of-listener.ensures c.leave_under.ensures)
          c.self.invariant.indexed;
      begun_indexed = same_indexed began_at c.self.inside.begun c.enter_under-2.new.places c.self.inside.members.entries c.in_default-enter_under-2.ensures.err c.self.invariant.begun_indexed;
    }
