use Rattle.std.proofs.Common.{ℕ, List, ap, ◌∙◌}
use Rattle.std.specs.Str.{bytes_eq}
use Rattle.indexmap.specs.IndexSet.{insert_all}
use Rattle.ev_dns.proofs.OnceLemmas.{once_all}
use Rattle.ev_dns.proofs.answers.each_once.Goals as goal

pub returns : goal.returns
returns c = c.in_ok-put_once.ensures ∙ ap (λ (names : List (List ℕ)). insert_all bytes_eq names c.args.names) c.with_hasher-set.ensures.empty ∙ once_all c.args.names
