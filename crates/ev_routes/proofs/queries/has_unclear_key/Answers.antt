use Rattle.std.proofs.Common.{not, lit<, rules}
use Rattle.std.proofs.lemmas.Iterator.Consumers.{YieldsList-at}
use Rattle.std.proofs.lemmas.Iterator.Search.{any_from_yields_List, YieldsList-from_take_while}
use Rattle.std.proofs.lemmas.Iterator.Splits.{YieldsList-from_str_split}
use Rattle.ev_model.specs.Conditions.{is_piece_of, key_of, may_be_decoded}
use Rattle.ev_routes.proofs.queries.has_unclear_key.Goals as goal
use borrow.Author.Tests.{tests}

pub returns : goal.returns
returns c =
    any_from_yields_List (λ piece. may_be_decoded (key_of piece)) _ _ _ c.any.ensures.ran
    (YieldsList-from_take_while _ (λ piece. not (is_piece_of c.args.name.now piece))
    (YieldsList-at c.take_while.ensures.source
    (YieldsList-from_str_split 38 c.args.query.now (lit< tt) c.split.ensures.text c.split.ensures.has_more c.split.ensures.pattern))
    c.take_while.ensures.closure c.take_while.ensures.done (λ x b q k. search (rules, tests)))
    (λ x b q k. search (rules, tests))
