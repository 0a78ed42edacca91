use Rattle.std.proofs.Common.{sym, ap, ◌∙◌}
use Rattle.std.proofs.lemmas.Result.{IfOk-weaker}
use Rattle.serde_json.specs.View.{view}
use Rattle.ev_dns.proofs.TemplateLemmas.{broken_key, whole_key, read_key}
use Rattle.ev_dns.proofs.templates.static_key.Goals as goal

pub returns-then-branch : goal.returns-then-branch
returns-then-branch c = sym (broken_key c.args.profile c.args.name.now c.args.ttl (view c.args.body.now) (sym c.in_ok-breaks_own.ensures ∙ c.if-branch.true))

pub returns-in-Ok : goal.returns-in-Ok
returns-in-Ok c =
    IfOk-weaker c.cluster_key.result _ _
    (λ key h. h ∙ ap read_key (sym c.in-Ok.ensures)
    ∙ sym (whole_key c.args.profile c.args.name.now c.args.ttl (view c.args.body.now) (sym c.in_ok-breaks_own.ensures ∙ c.if-branch.false)))
    c.cluster_key.ensures

pub returns-in-Err-Rule : goal.returns-in-Err-Rule
returns-in-Err-Rule c =
    let reads = rw c.in-Err-Rule.field-0-is at c.in-Err-Rule.ensures in
    ap read_key (sym reads)
    ∙ sym (whole_key c.args.profile c.args.name.now c.args.ttl (view c.args.body.now) (sym c.in_ok-breaks_own.ensures ∙ c.if-branch.false))
