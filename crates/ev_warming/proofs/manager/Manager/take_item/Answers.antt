use Rattle.std.proofs.Common.{◌∙◌, List, ℕ, [], arith, sym, subst}
use Rattle.ev_types.specs.declared.events.Verdict.{Verdict}
use Rattle.ev_types.specs.declared.origins.KeptChain.{KeptChain}
use Rattle.ev_model.specs.Origins.{kept_from}
use Rattle.ev_model.specs.Rows.{add_item, serving_row}
use Rattle.ev_warming.specs.Worlds.{Follows, with_generation, with_rows_replaced}
use Rattle.ev_warming.proofs.IndexLemmas.{on_ok}
use Rattle.ev_warming.proofs.ItemLemmas.{new-stands, in-place-stands, back-stands, bare-item-stays, other-stays}
use Rattle.ev_warming.proofs.RetiredLemmas.{tells-none}
use Rattle.ev_warming.proofs.manager.Manager.take_item.Goals as goal

pub returns-in_ok-name-in-New-clause-stands : goal.returns-in_ok-name-in-New-clause-stands
returns-in_ok-name-in-New-clause-stands g c =
    let s = c.args.self.now.state in
    let t = c.make.new.self.state in
    let item = c.args.item.now in
    let content = c.in-Good.content in
    on_ok c.make.result c.make.ensures.stands (λ step.
    subst (λ (verdict : Verdict). Follows s t (add_item c.args.kind verdict item)) (sym c.in-New.is)
    (new-stands s t c.args.kind item content ((λ i. (sym c.item.view_is i).body) ∙ c.in-Good.is)
    (subst (λ (name : List ℕ). Follows s t (with_generation c.args.kind name content [])) c.in_ok-name-in-New.ensures
    (subst (λ (chains : List KeptChain). Follows s t (with_generation c.args.kind c.in_ok-name-in-New.name content chains)) c.new.ensures.empty step))))

pub returns-in_ok-name-in-InPlace-clause-stands : goal.returns-in_ok-name-in-InPlace-clause-stands
returns-in_ok-name-in-InPlace-clause-stands g c =
    let s = c.args.self.now.state in
    let t = c.make_in_place.new.self.state in
    let item = c.args.item.now in
    let content = c.in-Good.content in
    on_ok c.make_in_place.result c.make_in_place.ensures.stands (λ step.
    subst (λ (verdict : Verdict). Follows s t (add_item c.args.kind verdict item)) (sym c.in-InPlace.is)
    (in-place-stands s t c.args.kind item content ((λ i. (sym c.item.view_is i).body) ∙ c.in-Good.is)
    (subst (λ (name : List ℕ). Follows s t (with_generation c.args.kind name content (kept_from (serving_row c.args.kind name s.table.rows) content))) c.in_ok-name-in-InPlace.ensures step)))

pub returns-in_ok-name-in-Back-clause-stands : goal.returns-in_ok-name-in-Back-clause-stands
returns-in_ok-name-in-Back-clause-stands g c =
    let s = c.args.self.now.state in
    let t = c.go_back.new.self.state in
    let item = c.args.item.now in
    let content = c.in-Good.content in
    on_ok c.go_back.result c.go_back.ensures.stands (λ step.
    subst (λ (verdict : Verdict). Follows s t (add_item c.args.kind verdict item)) (sym c.in-Back.is)
    (back-stands s t c.args.kind item content ((λ i. (sym c.item.view_is i).body) ∙ c.in-Good.is)
    (subst (λ (name : List ℕ). Follows s t (with_rows_replaced c.args.kind name)) c.in_ok-name-in-Back.ensures step)))

pub returns-in_default-verdict : goal.returns-in_default-verdict
returns-in_default-verdict g c =
    let s = c.args.self.now.state in
    record {
      kept = c.requires.kept;
      grows = omega arith;
      few = omega arith;
      told = tells-none s.table.rows c.args.retired.now;
      stands = λ world stands.
          other-stays s world c.args.kind c.args.verdict.now c.args.item.now c.requires.rows c.requires.on_row
          c.in_default-verdict.not-New c.in_default-verdict.not-InPlace c.in_default-verdict.not-Back stands;
    }

pub returns-in_default : goal.returns-in_default
returns-in_default g c =
    let s = c.args.self.now.state in
    record {
      kept = c.requires.kept;
      grows = omega arith;
      few = omega arith;
      told = tells-none s.table.rows c.args.retired.now;
      stands = λ world stands.
          bare-item-stays s world c.args.kind c.args.verdict.now c.args.item.now c.requires.rows c.requires.on_row
          (λ content is. c.in_default.not-Good content ((λ i. (c.item.view_is i).body) ∙ is)) stands;
    }
