use Rattle.std.proofs.Common.{◌≡◌, ℕ, zero, suc, ◌+◌, ◌<◌, List, length, Some, ap, sym, subst, ◌∙◌, arith}
use Rattle.ev_types.specs.Items.{ResponseParts}
use Rattle.ev_types.specs.declared.contents.Kind.{Kind}
use Rattle.ev_types.specs.declared.events.Verdict.{Verdict}
use Rattle.ev_types.specs.declared.events.Answer.{Answer}
use Rattle.ev_types.specs.declared.events.Answer.TheVariants.{Replied}
use Rattle.ev_model.specs.World.{World}
use Rattle.ev_model.specs.Live.{lives_of}
use Rattle.ev_model.specs.Verdicts.{verdicts_of}
use Rattle.ev_model.specs.Rows.{with_removals, add_items, made_names, with_first}
use Rattle.ev_model.specs.Step.{responded, answered}
use Rattle.ev_model.specs.Requests.{Watched, requests_by, requests_of, reply_of}
use Rattle.ev_model.specs.Watching.{kinds_before, kinds_behind, watched_of}
use Rattle.ev_managers.specs.Managers.{AreForgotten, AreManagersKept}
use Rattle.ev_subscription.specs.Asked.{changes_of}
use Rattle.ev_subscription.specs.Subscriptions.{HasVersions}
use Rattle.ev_managers.specs.declared.moved.Moved.{Moved}
use Rattle.ev_state.specs.declared.state.State.{State}
use Rattle.ev_state.specs.declared.asked.Asked.{Asked}
use Rattle.ev_state.specs.Moves.{IsOver}
use Rattle.ev_state.specs.States.{IsStep}
use Rattle.ev_state.proofs.state.State.take.Goals as goal

room_for : (made n : ℕ) → made < 4294967296 → (0 < n → made + n < 4294967296) → made + n < 4294967296
room_for made zero below room = omega (arith, below)
room_for made (suc n) below room = room (omega arith)

pub enter-requires : goal.enter-requires
enter-requires g c κs within =
    let at = c.requires.1.0 in
    let items = c.args.mentions.now.items in (
      within,
      (
        at,
        (
          c.requires.1.1.1.0,
          (
            room_for g.here.made (length items) (subst (λ n. n < 4294967296) (c.made-made.ensures g.here at) c.made-made.type_inv) c.requires.1.1.1.1,
            (
              ap length c.as_slice.ensures.elements ∙ c.in_ok-verdicts.ensures.one_each,
              c.as_slice.ensures.elements ∙ c.in_ok-verdicts.ensures.judged c.args.kind g.here c.requires.1.0 c.requires.1.1.1.0,
            ),
          ),
        ),
      ),
    )

pub reply-requires : goal.reply-requires
reply-requires g c = record {
  one_each = c.in_ok-verdicts.ensures.one_each ∙ ap (λ (r : ResponseParts). length r.items) c.requires.1.1.0;
}

replies : (s : State) (told : Answer) (verdicts given : List Verdict) (kind : Kind) (mentioned response : ResponseParts) (asked : Asked) (these : Moved) (here : World)
    → AreManagersKept s.managers → AreForgotten s.managers
    → mentioned ≡ response → given ≡ verdicts → given ≡ verdicts_of (lives_of here) here.versions response
    → IsOver s asked these here (responded kind mentioned given here)
    → ((world : World) (before after : Watched) → HasVersions s.subscription world
    → asked.before ≡ changes_of kinds_before before after → asked.behind ≡ changes_of kinds_behind before after
    → told ≡ Replied (requests_by world.stream before after asked.left world.versions (Some (reply_of kind response verdicts))) verdicts)
    → IsStep s told these here (answered kind response (verdicts_of (lives_of here) here.versions response) here)
replies s told verdicts given kind mentioned response asked these here kept forgotten same are judged over answers =
    let after : World = responded kind mentioned given here in
    let replied : reply_of kind response verdicts ≡ reply_of kind mentioned given = (λ i. reply_of kind (sym same i) (sym are i)) in
    let sent : requests_by after.stream (watched_of here) (watched_of after) asked.left after.versions (Some (reply_of kind response verdicts)) ≡ requests_of here after (Some (reply_of kind mentioned given)) =
    (λ i. requests_by after.stream (watched_of here) (watched_of after) (over.left i) after.versions (Some (replied i))) in
    let base : IsStep s told these here (answered kind mentioned given here) = record {
      kept = kept;
      forgotten = forgotten;
      follows = over.follows;
      later = over.later;
      answer = answers after (watched_of here) (watched_of after) over.follows.stands.subscription over.changed_before over.changed_behind
          ∙ (λ i. Replied (sent i) (sym are i));
      moved = over.moved;
    } in
    subst (λ (vs : List Verdict). IsStep s told these here (answered kind response vs here)) judged
    (subst (λ (r : ResponseParts). IsStep s told these here (answered kind r given here)) same base)

pub returns : goal.returns
returns g c =
    let kind = c.args.kind in
    let mentions = c.args.mentions.now in
    let given = c.as_slice.result.now in
    let at = c.requires.1.0 in
    let same : mentions ≡ c.args.response.now = c.requires.1.1.0 in
    let over = c.in_ok-asked.ensures.over g.here (with_first kind (made_names given mentions.items) (add_items kind given mentions.items (with_removals kind mentions g.here)))
    c.in_ok-moved.ensures.follows (c.made-made.ensures g.here at) c.in_ok-moved.ensures.moved in
    replies c.tidy.new.self c.in_ok-answer.answer c.in_ok-verdicts.verdicts given kind mentions c.args.response.now c.in_ok-asked.asked c.tidy.new.moved g.here
    c.in_ok-asked.ensures.kept c.in_ok-asked.ensures.forgotten same c.as_slice.ensures.elements
    (c.as_slice.ensures.elements ∙ c.in_ok-verdicts.ensures.judged c.args.kind g.here c.requires.1.0 c.requires.1.1.1.0 ∙ ap (verdicts_of (lives_of g.here) g.here.versions) same)
    over c.in_ok-answer.ensures
