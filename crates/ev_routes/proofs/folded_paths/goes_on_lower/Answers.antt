use Rattle.std.proofs.Common.{◌&&◌, ◌<◌, ◌∙◌, length, nat_eq, slice_index_or, sym, ap, arith}
use Rattle.ev_routes.proofs.InCase.{goes_on_cased}
use Rattle.ev_routes.proofs.folded_paths.goes_on_lower.Goals as goal

pub returns-then-begins_in_case : goal.returns-then-begins_in_case
returns-then-begins_in_case c =
    let path = c.args.path.now in
    let front = c.args.front.now in
    let less : length front < length path = omega arith in
    sym (goes_on_cased path front less
    ∙ ap (λ b. b && nat_eq (slice_index_or path (length front) 0) 47) (sym c.begins_in_case.ensures ∙ c.if-begins_in_case.true))

pub returns-else-begins_in_case : goal.returns-else-begins_in_case
returns-else-begins_in_case c =
    let path = c.args.path.now in
    let front = c.args.front.now in
    let less : length front < length path = omega arith in
    c.if-begins_in_case.false
    ∙ sym (goes_on_cased path front less
    ∙ ap (λ b. b && nat_eq (slice_index_or path (length front) 0) 47) (sym c.begins_in_case.ensures ∙ c.if-begins_in_case.false))
