use Rattle.std.proofs.Common.{List, Some, ap, ◌∙◌}
use Rattle.ev_types.specs.declared.events.Answer.TheVariants.{Replied}
use Rattle.ev_types.specs.declared.events.Verdict.{Verdict}
use Rattle.ev_model.specs.Requests.{requests_by, reply_of}
use Rattle.ev_state.proofs.state.State.reply.Goals as goal

pub returns : goal.returns
returns c = λ world before after has first last.
    let replied = c.in_ok-reply.ensures ∙ ap (λ (vs : List Verdict). reply_of c.args.kind c.args.response.now vs) c.as_slice.ensures.elements in
    let sent = c.in_ok-requests.ensures world before after has first last
    ∙ (λ i. requests_by world.stream before after c.args.asked.left world.versions (Some (replied i))) in
    λ i. Replied (sent i) c.args.verdicts
