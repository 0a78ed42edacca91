use Rattle.std.proofs.Common.{◌∙◌, ap, sym, Some, cond}
use Rattle.std.specs.List.{list_any}
use Rattle.indexmap.specs.IndexMap.{get}
use Rattle.ev_chains.specs.Keys.{key_same}
use Rattle.ev_chains.specs.Listed.{named_keys}
use Rattle.ev_chains.proofs.KeyLemmas.{keys_given}
use Rattle.ev_chains.proofs.listed.put_keys.Goals as goal

pub returns : goal.returns
returns c = λ key.
    c.in_ok-put_names.ensures key
    ∙ ap (λ keys. cond (list_any (λ own. key_same own key) keys) (Some c.args.place) (get key_same c.args.places.now key))
    (ap (named_keys c.args.matches.now.port) c.as_slice.ensures.elements
    ∙ sym (keys_given c.args.matches.now (λ h. c.if-len-eq0.false (c.len.ensures.count ∙ h))))
