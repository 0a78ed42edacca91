use Rattle.std.proofs.Common.{◌≡◌, sym, ap, ◌∙◌, subst}
use Rattle.ev_model.specs.Picture.{shown_of}
use Rattle.ev_model.specs.Publishing.{publish}
use Rattle.ev_retirement.specs.Pictures.{shown_after}
use Rattle.ev_state.proofs.FrameLemmas.{at-frame}
use Rattle.ev_proxy.specs.Changing.{IsShownBut, changes_at}
use Rattle.ev_proxy.proofs.ShownLemmas.{after_changes, published_shown}
use Rattle.ev_proxy.proofs.WorldLemmas.{publish_same}
use Rattle.ev_proxy.proofs.proxy.Proxy.publish.Goals as goal

pub returns-clause-at : goal.returns-clause-at
returns-clause-at g c =
    let made : shown_after c.in_ok-changes.changes c.args.self.now.holders.pictures ≡ shown_of g.here =
    after_changes c.args.self.now.state c.args.self.now.holders.pictures c.args.self.now.changed c.in_ok-changes.changes g.here
    c.requires.managed c.requires.held.pictures c.requires.shown c.in_ok-version.ensures.ordered (c.in_ok-changes.ensures ∙ ap (changes_at g.here) c.numbers.ensures) in
    record {
      managed = at-frame c.args.self.now.state g.here (publish g.here).0 (publish_same g.here) c.requires.managed;
      held = c.in_ok-version.ensures.world g.here c.requires.held made;
      shown = subst (λ ns. IsShownBut ns (publish g.here).0) (sym c.none.ensures) (published_shown c.args.self.now.state g.here c.requires.managed);
    }

pub returns-clause-answer : goal.returns-clause-answer
returns-clause-answer g c =
    let made : shown_after c.in_ok-changes.changes c.args.self.now.holders.pictures ≡ shown_of g.here =
    after_changes c.args.self.now.state c.args.self.now.holders.pictures c.args.self.now.changed c.in_ok-changes.changes g.here
    c.requires.managed c.requires.held.pictures c.requires.shown c.in_ok-version.ensures.ordered (c.in_ok-changes.ensures ∙ ap (changes_at g.here) c.numbers.ensures) in
    c.answer_to.ensures ∙ sym (c.in_ok-version.ensures.answer g.here c.requires.held made)
