use Rattle.std.proofs.Common.{ℕ, refl, ap, ◌∙◌}
use Rattle.std.specs.Option.{unwrap_or}
use Rattle.ev_ledger.specs.Members.{member_on}
use Rattle.ev_worker.proofs.members.next_on.Goals as goal

pub returns : goal.returns
returns c =
    ap (λ (listener : ℕ). record c.args.on.now { listener = listener })
    (c.unwrap_or.ensures ∙ ap (λ found. unwrap_or found c.args.on.now.listener) (c.next_listener.ensures (member_on 0 0 c.args.on.now) refl refl))
