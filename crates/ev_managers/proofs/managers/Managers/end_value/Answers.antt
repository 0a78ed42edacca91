use Rattle.std.proofs.Common.{◌≡◌, false, sym, ap, subst, ◌∙◌}
use Rattle.std.proofs.lemmas.Bool.{false≢true}
use Rattle.ev_managers.specs.Managers.{StandFor, is_watched_in}
use Rattle.ev_managers.proofs.EndLemmas.{value-end, value-stays}
use Rattle.ev_managers.proofs.managers.Managers.end_value.Goals as goal

pub returns-then-not-is_watched-clause-stands : goal.returns-then-not-is_watched-clause-stands
returns-then-not-is_watched-clause-stands g c = λ world stand watched.
    let none : is_watched_in c.args.self.now c.args.kind c.args.name.now ≡ false =
    ap (is_watched_in c.args.self.now c.args.kind) (sym c.as_str.ensures.bytes) ∙ sym c.is_watched.ensures.rows ∙ c.if-not-is_watched.true in
    absurd (false≢true (sym none ∙ watched c.requires.by_name))

pub arrive_last-requires-clause-watched : goal.arrive_last-requires-clause-watched
arrive_last-requires-clause-watched g c =
    ap (is_watched_in c.args.self.now c.args.kind) (sym c.as_str.ensures.bytes) ∙ sym c.is_watched.ensures.rows ∙ c.if-not-is_watched.false

pub returns-in_default-clause-stands : goal.returns-in_default-clause-stands
returns-in_default-clause-stands g c = λ world stand watched.
    subst (StandFor c.args.self.now) (value-stays c.args.kind c.args.name.now world c.requires.by_name (sym c.in_ok-value.ensures ∙ c.in_default.is)) stand

pub returns-clause-stands : goal.returns-clause-stands
returns-clause-stands g c = λ world stand watched.
    subst (StandFor c.arrive_last.new.self)
    (value-end c.args.kind c.args.name.now world c.in-Some.value (sym c.in_ok-value.ensures ∙ c.in-Some.is))
    (c.in_ok-arrive_last.ensures.stands world stand)
