use Rattle.std.specs.Str.{bytes_eq}
use Rattle.indexmap.specs.IndexSet.{contains}
use Rattle.std.proofs.Common.{sym, ◌∙◌}
use Rattle.ev_tls.proofs.KnownLemmas.{front_ends, front_whole}
use Rattle.ev_tls.proofs.known.Told.first_told.Goals as goal

pub returns-then-not-contains : goal.returns-then-not-contains
returns-then-not-contains c = λ told.
    front_ends (contains bytes_eq c.args.self.now.secrets) c.args.secrets.now c.loop-index.index c.index-secrets-index.result c.loop-index-test.true c.index-secrets-index.is
    (c.loop-index.invariant told) (sym c.contains.ensures ∙ c.if-not-contains.true)

pub returns : goal.returns
returns c = λ told.
    front_whole (contains bytes_eq c.args.self.now.secrets) c.args.secrets.now c.loop-index.index c.loop-index-test.false (c.loop-index.invariant told)
