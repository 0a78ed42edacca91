use Rattle.std.proofs.Common.{Bool, cond, None, Option, unwrap_or, sym, ap, ◌∙◌}
use Rattle.serde_json.specs.Data.{Data, null}
use Rattle.serde_json.specs.View.{view}
use Rattle.ev_dns.specs.Templates.{body_key, is_template, read_static}
use Rattle.ev_dns.proofs.TemplateLemmas.{no_template}
use Rattle.ev_dns.proofs.templates.template_key.Goals as goal

pub returns-in-None : goal.returns-in-None
returns-in-None c =
    sym (ap (λ (b : Bool). cond b (body_key (read_static c.args.profile (view c.args.entry.now))) None)
    (ap (λ (o : Option Data). is_template (unwrap_or o null)) (sym c.in-None.ensures) ∙ no_template))
