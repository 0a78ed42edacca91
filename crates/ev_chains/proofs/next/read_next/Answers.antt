use Rattle.std.proofs.Common.{◌≡◌, ◌∙◌, ap, sym, length, Ok, arith}
use Rattle.std.proofs.lemmas.List.{length-map}
use Rattle.serde_json.specs.View.{view}
use Rattle.ev_listener_json.specs.Chains.{chains_of}
use Rattle.ev_chains.specs.Listeners.{chain_of, listening_of, chains_in, rule_told}
use Rattle.ev_chains.specs.State.{numbered, made_by}
use Rattle.ev_chains.proofs.NextLemmas.{judged_some, judged_none, told_is}
use Rattle.ev_chains.proofs.next.read_next.Goals as goal

pub number_chains-requires-clause-room : goal.number_chains-requires-clause-room
unfolding chains_in
number_chains-requires-clause-room c =
    let found : length c.in_ok-found.found.value.items ≡ length (chains_of (view c.args.body.now)) =
    ap length c.in_ok-found.ensures.value ∙ length-map (chains_of (view c.args.body.now)) (chain_of (listening_of (view c.args.body.now))) in
    omega (arith, found, c.requires.room)

pub returns-in-Some-clause-reading : goal.returns-in-Some-clause-reading
returns-in-Some-clause-reading c =
    let tree = view c.args.body.now in
    let told = told_is tree c.in_ok-found.found.broken c.with_v26.result c.has_clash.result c.in_ok-rows-2.rows c.in_ok-rows.field-0.rows.items c.args.made c.args.serving.now c.in_ok-found.found.value.items c.least.result
    c.in_ok-found.ensures.broken c.in_ok-found.ensures.value c.in_ok-rows.ensures.rows c.in_ok-rows-2.ensures c.has_clash.ensures c.with_v26.ensures c.least.ensures in
    judged_some (rule_told tree) c.in-Some.rule (record { rows = numbered c.args.made c.args.serving.now (chains_in tree); made = made_by c.args.made c.args.serving.now (chains_in tree) }) (sym told ∙ c.in-Some.is)

pub returns-in-None-clause-reading : goal.returns-in-None-clause-reading
returns-in-None-clause-reading c =
    let tree = view c.args.body.now in
    let told = told_is tree c.in_ok-found.found.broken c.with_v26.result c.has_clash.result c.in_ok-rows-2.rows c.in_ok-rows.field-0.rows.items c.args.made c.args.serving.now c.in_ok-found.found.value.items c.least.result
    c.in_ok-found.ensures.broken c.in_ok-found.ensures.value c.in_ok-rows.ensures.rows c.in_ok-rows-2.ensures c.has_clash.ensures c.with_v26.ensures c.least.ensures in
    judged_none (rule_told tree) (record { rows = numbered c.args.made c.args.serving.now (chains_in tree); made = made_by c.args.made c.args.serving.now (chains_in tree) }) (sym told ∙ c.in-None.is)
    ∙ (λ i. Ok (record {
      rows = sym (c.in_ok-rows-2.ensures ∙ c.in_ok-rows.ensures.rows ∙ ap (numbered c.args.made c.args.serving.now) c.in_ok-found.ensures.value) i;
      made = sym (c.in_ok-rows.ensures.made ∙ ap (made_by c.args.made c.args.serving.now) c.in_ok-found.ensures.value) i;
    }))
