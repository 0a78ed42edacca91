-- A word without the letter has no number after it.
use Rattle.std.proofs.Common.{ap, sym, ◌∙◌, ◌++◌}
use Rattle.std.proofs.lemmas.Str.{encode_ascii}
use Rattle.ev_journal_read.proofs.WordLemmas.{nothing_behind}
use Rattle.ev_journal_read.proofs.words.number_behind.Goals as goal

pub returns-in_err-strip_prefix : goal.returns-in_err-strip_prefix
returns-in_err-strip_prefix c =
    c.from_residual.ensures
    ∙ nothing_behind c.args.letter c.args.word.now
    (λ rest e. c.in_err-strip_prefix.ensures.cases rest (e ∙ ap (λ l. l ++ rest) (sym (encode_ascii c.args.letter c.requires))))
