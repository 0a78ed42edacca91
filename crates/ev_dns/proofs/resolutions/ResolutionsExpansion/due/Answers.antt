use Rattle.std.proofs.Common.{List, nat_cmp, ap, ◌∙◌}
use Rattle.std.specs.BTreeSet.{contains}
use Rattle.std.proofs.lemmas.Result.{IfOk-weaker}
use Rattle.serde_json.specs.View.{view}
use Rattle.ev_expand.specs.Guarding.{Guarded}
use Rattle.ev_dns.specs.Known.{due_found}
use Rattle.ev_dns.proofs.StateLemmas.{due_now}
use Rattle.ev_dns.proofs.resolutions.ResolutionsExpansion.due.Goals as goal

pub returns-clause-due : goal.returns-clause-due
returns-clause-due c = λ before behind kept.
    let touched = c.in_ok-touched.ensures.touched before behind kept in
    let now = c.in_ok-touched.ensures.behind before behind kept in
    let s = c.hear.new.self in
    IfOk-weaker c.find_due.result _ _
    (λ due h. h
    ∙ ap (λ (gs : List Guarded). due_found s.answers gs s.connected c.args.self.now.connected (contains nat_cmp c.in_ok-touched.touched) (contains nat_cmp s.complete.places)) kept
    ∙ due_now c.args.profile before (view c.args.line.now) s.answers s.complete c.in_ok-touched.touched s.connected c.args.self.now.connected now.stream behind.stream now.answers now.complete touched)
    c.find_due.ensures.due
