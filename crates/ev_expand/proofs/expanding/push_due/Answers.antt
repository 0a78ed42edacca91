use Rattle.std.proofs.Common.{◌≡◌, List, [], ◌∷◌, map, length, sym, subst, arith}
use Rattle.std.proofs.lemmas.List.{length-map}
use Rattle.serde_json.specs.Data.{Data}
use Rattle.serde_json.specs.View.{view}
use Rattle.ev_expand.specs.Following.{DueParts, due_shown}
use Rattle.ev_expand.specs.Growing.{Pushes}
use Rattle.ev_expand.proofs.GrowthLemmas.{some_due, read_one}
use Rattle.ev_expand.proofs.expanding.push_due.Goals as goal

pub returns : goal.returns
returns c =
    let due : List DueParts = map due_shown c.args.due.items in
    let some : length due ≡ 0 → ⊥ = λ h. c.if-len-eq0.false (omega (arith, h, c.len.ensures, length-map c.args.due.items due_shown)) in
    let P : Data → Type 0 = λ tree. Pushes c.args.text.now c.push.new.self c.push.result (tree ∷ []) in
    subst (Pushes c.args.text.now c.push.new.self c.push.result) (sym (some_due c.args.prefix.now c.args.nonce.now c.args.at due some))
    (subst P c.in_ok-following.ensures
    (record {
      pushed = c.push.ensures.pushed;
      full = c.push.ensures.full;
      read_back = λ h. read_one (view c.in_ok-following.following) (c.push.ensures.reads_back h);
    }))
