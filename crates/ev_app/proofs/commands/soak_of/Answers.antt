-- The words of a soak, by their places.
use Rattle.std.proofs.Common.{◌≡◌, ◌∙◌, rules, sym, codes, ◌<◌, ◌^◌}
use Rattle.ev_app.proofs.CommandLemmas.{three_words, soak_asked, none_asked_by}
use Rattle.ev_app.proofs.commands.soak_of.Goals as goal

pub returns-in_ok-number_of-in-len3-2-clause-some : goal.returns-in_ok-number_of-in-len3-2-clause-some
returns-in_ok-number_of-in-len3-2-clause-some c =
    let named : c.word-item.result ≡ codes "soak" = search rules in
    soak_asked c.args.arguments.now c.word-item.result c.seed-item.result c.count-item.result c.in_ok-number_of-in-len3.field-0 c.in_ok-number_of-in-len3-2.field-0 c.soak_with.result
    (three_words c.args.arguments.now c.word-item.result c.seed-item.result c.count-item.result c.in-len3.len_at_least c.in-len3.len_below c.word-item.is c.seed-item.is c.count-item.is)
    named
    (sym c.as_str-in-len3.ensures.bytes ∙ c.in_ok-number_of-in-len3.ensures.some)
    (sym c.as_str-in-len3-2.ensures.bytes ∙ c.in_ok-number_of-in-len3-2.ensures.some)
    c.soak_with.ensures.some

pub returns-in_ok-number_of-in-len3-2-clause-none : goal.returns-in_ok-number_of-in-len3-2-clause-none
returns-in_ok-number_of-in-len3-2-clause-none c = λ none seed count asks.
    let seed_fits : c.in_ok-number_of-in-len3.field-0 < 2 ^ 64 = search rules in
    let count_fits : c.in_ok-number_of-in-len3-2.field-0 < 2 ^ 64 = search rules in
    none_asked_by c.args.arguments.now c.word-item.result c.seed-item.result c.count-item.result c.in_ok-number_of-in-len3.field-0 c.in_ok-number_of-in-len3-2.field-0
    (three_words c.args.arguments.now c.word-item.result c.seed-item.result c.count-item.result c.in-len3.len_at_least c.in-len3.len_below c.word-item.is c.seed-item.is c.count-item.is)
    seed_fits count_fits
    (sym c.as_str-in-len3.ensures.bytes ∙ c.in_ok-number_of-in-len3.ensures.some)
    (sym c.as_str-in-len3-2.ensures.bytes ∙ c.in_ok-number_of-in-len3-2.ensures.some)
    (c.soak_with.ensures.none none) seed count asks
