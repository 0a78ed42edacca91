use Rattle.std.proofs.Common.{◌∙◌, ap, [], unwrap_or, false}
use Rattle.ev_types.specs.declared.listeners.Serve.TheVariants.{Inline}
use Rattle.ev_tree.specs.declared.broken.BrokenRules.{BrokenRules}
use Rattle.ev_tree.specs.Forms.{inside}
use Rattle.ev_tree.specs.Broken.{either_broken}
use Rattle.ev_chains.specs.Matches.{match_read, match_broken}
use Rattle.ev_chains.specs.Listeners.{match_tree, chain_of, one_broken}
use Rattle.ev_chains.proofs.listeners.inspect_one.Goals as goal

pub returns-clause-value : goal.returns-clause-value
unfolding match_tree chain_of
returns-clause-value c = λ i. record {
  listening = c.in_ok-share.ensures.value i;
  matches = (c.in_ok-found.ensures.value ∙ ap match_read (c.inner.ensures ∙ ap inside c.in_ok-matched.ensures.value)) i;
  serve = (c.in_ok-serve_or_none.ensures ∙ ap (λ s. unwrap_or s (Inline (record { hosts = [] }))) c.in_ok-below.ensures.value) i;
}

pub returns-clause-broken : goal.returns-clause-broken
unfolding match_tree one_broken
returns-clause-broken c =
    let matched = c.inner.ensures ∙ ap inside c.in_ok-matched.ensures.value in
    c.or.ensures ∙ (λ i. either_broken
    ((c.without_v16.ensures ∙ ap (λ (b : BrokenRules). record b { v16 = false }) c.in_ok-below.ensures.broken) i)
    ((c.in_ok-found.ensures.broken ∙ ap match_broken matched) i))
