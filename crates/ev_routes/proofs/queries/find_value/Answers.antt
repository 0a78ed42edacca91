use Rattle.std.proofs.Common.{ℕ, List, Some, option_map, ap, sym, ◌∙◌, lit<, rules, Bor}
use Rattle.std.proofs.lemmas.Iterator.Search.{find_from_yields_List}
use Rattle.std.proofs.lemmas.Iterator.Splits.{YieldsList-from_str_split}
use Rattle.ev_model.specs.Conditions.{is_piece_of, value_of}
use Rattle.ev_routes.proofs.queries.find_value.Goals as goal
use borrow.Author.Tests.{tests}

pub returns-in-Some : goal.returns-in-Some
returns-in-Some c =
    let found = find_from_yields_List (is_piece_of c.args.name.now) _ _ c.find.result c.find.ensures.ran
    (YieldsList-from_str_split 38 c.args.query.now (lit< tt) c.split.ensures.text c.split.ensures.has_more c.split.ensures.pattern)
    (λ x b q k. search (rules, tests)) in
    ap Some c.value_of.ensures ∙ ap (option_map value_of) (sym (ap (option_map (λ (piece : Bor (List ℕ)). piece.now)) c.in-Some.is) ∙ found)

pub returns-in-None : goal.returns-in-None
returns-in-None c =
    let found = find_from_yields_List (is_piece_of c.args.name.now) _ _ c.find.result c.find.ensures.ran
    (YieldsList-from_str_split 38 c.args.query.now (lit< tt) c.split.ensures.text c.split.ensures.has_more c.split.ensures.pattern)
    (λ x b q k. search (rules, tests)) in
    ap (option_map value_of) (sym (ap (option_map (λ (piece : Bor (List ℕ)). piece.now)) c.in-None.is) ∙ found)
