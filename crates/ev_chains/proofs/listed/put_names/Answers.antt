use Rattle.std.proofs.Common.{◌∙◌, ap, sym, Some, cond, take, ◌++◌, ◌∷◌, []}
use Rattle.std.specs.List.{list_any}
use Rattle.std.proofs.lemmas.List.{map_more}
use Rattle.indexmap.specs.IndexMap.{get}
use Rattle.ev_chains.specs.Keys.{key_same}
use Rattle.ev_chains.specs.Listed.{key_with, named_keys}
use Rattle.ev_chains.proofs.KeyLemmas.{puts_more}
use Rattle.ev_chains.proofs.listed.put_names.Goals as goal

pub loop-name-preserved : goal.loop-name-preserved
loop-name-preserved c = λ key.
    let more = puts_more (named_keys c.args.port (take c.loop-name.name-index c.args.names.now)) c.in_ok-key_with.field-0 c.args.place
    (get key_same c.args.places.now) (get key_same c.loop-name.places) (get key_same c.put_key.new.places) c.loop-name.invariant c.in_ok-put_key.ensures key in
    let name = c.name-item.result in
    let own = c.in_ok-key_with.ensures ∙ ap (λ n. key_with c.args.port (Some n)) (c.as_str.ensures.bytes ∙ c.name-item.is) in
    more ∙ ap (λ keys. cond (list_any (λ own. key_same own key) keys) (Some c.args.place) (get key_same c.args.places.now key))
    (ap (λ k. named_keys c.args.port (take c.loop-name.name-index c.args.names.now) ++ k ∷ []) own
    ∙ sym (map_more (λ n. key_with c.args.port (Some n)) c.args.names.now c.loop-name.name-index name c.loop-name-test.true))
