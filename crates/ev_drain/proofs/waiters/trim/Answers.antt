use Rattle.std.proofs.Common.{◌≡◌, ◌∙◌, [], Some, sym, ap, unwrap_or}
use Rattle.std.specs.Map.{lookup}
use Rattle.std.specs.Option.{option_copied}
use Rattle.std.specs.Str.{bytes_eq}
use Rattle.ev_drain.specs.Waiters.{WaitersKept, numbers_under}
use Rattle.ev_drain.proofs.WaiterLemmas.{trimmed, none_of_none}
use Rattle.ev_drain.proofs.waiters.trim.Goals as goal

pub returns-then-is_empty-clause-same : goal.returns-then-is_empty-clause-same
returns-then-is_empty-clause-same c n =
    let old : WaitersKept = c.args.map.now.entries in
    let found : lookup (bytes_eq c.args.name.now) old ≡ Some c.in-Some.numbers.now = sym c.get.ensures.value ∙ ap option_copied c.in-Some.is in
    let empty : numbers_under old c.args.name.now ≡ [] = (λ i. unwrap_or (found i) []) ∙ none_of_none c.in-Some.numbers.now (c.is_empty.ensures.0 c.if-is_empty.true) in
    trimmed old c.take_out.new.map.entries c.args.name.now c.take_out.ensures empty n
