use Rattle.std.proofs.Common.{◌∙◌, ap, sym}
use Rattle.ev_chains.specs.Listed.{any_named, named_keys}
use Rattle.ev_chains.proofs.KeyLemmas.{keys_given}
use Rattle.ev_chains.proofs.listed.has_any.Goals as goal

pub returns : goal.returns
returns c =
    c.in_ok-has.ensures
    ∙ ap (any_named c.args.places.now)
    (ap (named_keys c.args.matches.now.port) c.as_slice.ensures.elements
    ∙ sym (keys_given c.args.matches.now (λ h. c.if-len-eq0.false (c.len.ensures.count ∙ h))))
