use Rattle.std.proofs.Common.{◌≡◌, ◌∙◌, List, ℕ, sym, subst, arith, ⊎_elim, Err}
use Rattle.ev_types.specs.Texts.{IsName}
use Rattle.ev_model.specs.Verdicts.{is_removed}
use Rattle.ev_model.specs.Signals.{rows_ended}
use Rattle.ev_indexes.specs.Worlds.{HasRows}
use Rattle.ev_warming.proofs.IndexLemmas.{on_ok}
use Rattle.ev_warming.proofs.ResponseLemmas.{listed-stands, unnamed-stands, ended-stands, is_unlisted-listed}
use Rattle.ev_warming.proofs.manager.Manager.remove_name.Goals as goal
use Rattle.ev_warming.proofs.RetiredLemmas.{tells-none}

pub returns-then-not-is_removed-clause-stands : goal.returns-then-not-is_removed-clause-stands
returns-then-not-is_removed-clause-stands g c =
    let response = c.args.mentions.now in
    let name = c.args.name.now in
    let is : c.is_removed.result ≡ is_removed response name = c.is_removed.ensures ∙ (λ i. is_removed response (c.as_str.ensures.bytes i)) in
    λ world stands.
    listed-stands c.args.self.now.state world c.args.kind response name (is_unlisted-listed response name c.is_removed.result is c.requires.listed ∙ c.if-not-is_removed.true) stands

pub returns-in-Ok-clause-stands : goal.returns-in-Ok-clause-stands
returns-in-Ok-clause-stands g c =
    let response = c.args.mentions.now in
    let name = c.args.name.now in
    let kind = c.args.kind in
    let t = c.end_name.new.self.state in
    let is : c.is_removed.result ≡ is_removed response name = c.is_removed.ensures ∙ (λ i. is_removed response (c.as_str.ensures.bytes i)) in
    on_ok c.end_name.result c.end_name.ensures.stands (λ step world stands.
    ended-stands t world kind response name (is_unlisted-listed response name c.is_removed.result is c.requires.listed ∙ c.if-not-is_removed.false)
    (subst (λ (q : List ℕ). HasRows t (record world { rows = rows_ended kind q world.rows })) (c.in-Ok.ensures.bytes ∙ c.as_str-2.ensures.bytes) (step world stands)))

pub returns-in-Err-Length-clause-stands : goal.returns-in-Err-Length-clause-stands
returns-in-Err-Length-clause-stands g c =
    let name = c.args.name.now in
    let text = c.as_str-2.result.now in
    let bad : IsName text → ⊥ = λ named. ⊎_elim (λ none. absurd (omega (arith, named.given, none))) (λ long. absurd (omega (arith, named.short, long))) (c.in-Err-Length.ensures.length.0 (λ i. Err (c.in-Err-Length.field-0-is i))) in
    λ world stands.
    unnamed-stands c.args.self.now.state world c.args.kind c.args.mentions.now name (λ named. bad (subst IsName (sym c.as_str-2.ensures.bytes) named)) stands

pub returns-then-not-is_removed-clause-told : goal.returns-then-not-is_removed-clause-told
returns-then-not-is_removed-clause-told g c = tells-none c.args.self.now.state.table.rows c.args.retired.now

pub returns-in-Err-Length-clause-told : goal.returns-in-Err-Length-clause-told
returns-in-Err-Length-clause-told g c = tells-none c.args.self.now.state.table.rows c.args.retired.now
