-- The words of a dump, by their places.
use Rattle.std.proofs.Common.{◌≡◌, ◌∙◌, rules, sym, codes, ◌<◌, ◌^◌}
use Rattle.ev_app.proofs.CommandLemmas.{two_words, dump_asked, no_dump_asked}
use Rattle.ev_app.proofs.commands.dump_of.Goals as goal

pub returns-in_ok-number_of-in-len2-clause-some : goal.returns-in_ok-number_of-in-len2-clause-some
returns-in_ok-number_of-in-len2-clause-some c =
    let named : c.word-item.result ≡ codes "dump" = search rules in
    dump_asked c.args.arguments.now c.word-item.result c.entries-item.result c.in_ok-number_of-in-len2.field-0 c.dump_with.result
    (two_words c.args.arguments.now c.word-item.result c.entries-item.result c.in-len2.len_at_least c.in-len2.len_below c.word-item.is c.entries-item.is)
    named
    (sym c.as_str-in-len2.ensures.bytes ∙ c.in_ok-number_of-in-len2.ensures.some)
    c.dump_with.ensures.some

pub returns-in_ok-number_of-in-len2-clause-none : goal.returns-in_ok-number_of-in-len2-clause-none
returns-in_ok-number_of-in-len2-clause-none c = λ none entries asks.
    let fits : c.in_ok-number_of-in-len2.field-0 < 2 ^ 64 = search rules in
    no_dump_asked c.args.arguments.now c.word-item.result c.entries-item.result c.in_ok-number_of-in-len2.field-0
    (two_words c.args.arguments.now c.word-item.result c.entries-item.result c.in-len2.len_at_least c.in-len2.len_below c.word-item.is c.entries-item.is)
    fits
    (sym c.as_str-in-len2.ensures.bytes ∙ c.in_ok-number_of-in-len2.ensures.some)
    (c.dump_with.ensures.none none) entries asks
