use Rattle.std.proofs.Common.{◌≡◌, ◌∙◌, Option, None, Some, refl, ap}
use Rattle.std.specs.Option.{is_some, option_map}
use Rattle.ev_model.specs.Connections.{next_listener}
use Rattle.ev_model.specs.declared.pictures.ServedListener.{ServedListener}
use Rattle.ev_ledger.specs.Members.{member_on}
use Rattle.ev_retirement.proofs.closing.moves.Goals as goal

some_mapped : (found : Option ServedListener) → is_some (option_map (λ (l : ServedListener). l.number) found) ≡ is_some found
some_mapped None = refl
some_mapped (Some l) = refl

pub returns : goal.returns
returns c =
    c.is_some.ensures ∙ ap is_some (c.next_listener.ensures (member_on 0 0 c.args.on.now) refl refl)
    ∙ some_mapped (next_listener c.args.last.now.shown (member_on 0 0 c.args.on.now))
