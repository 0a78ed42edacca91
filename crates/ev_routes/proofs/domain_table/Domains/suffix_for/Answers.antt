use Rattle.std.proofs.Common.{◌+◌, ◌-◌, sym, arith, subst}
use Rattle.std.specs.Char.{to_ascii_lowercase}
use Rattle.std.specs.Str.{str_to_ascii_lowercase}
use Rattle.std.proofs.lemmas.List.{length-map}
use Rattle.ev_model.specs.Choice.{has_suffix}
use Rattle.ev_routes.proofs.Patterns.{FitsWithin, fits_fewer, fits_none, fits_weaker, longest_found, suffix_more, suffix_short}
use Rattle.ev_routes.proofs.domain_table.Domains.suffix_for.Goals as goal

pub loop-beside-init : goal.loop-beside-init
loop-beside-init c =
    let host = str_to_ascii_lowercase c.args.host.now in
    subst (λ n. FitsWithin (has_suffix host) n c.args.self.now) (length-map c.args.host.now to_ascii_lowercase) (suffix_short host c.args.self.now)

pub returns-in-Some : goal.returns-in-Some
returns-in-Some c =
    let host = str_to_ascii_lowercase c.args.host.now in
    let beside = c.loop-beside.beside in
    sym (longest_found (has_suffix host) (beside - 1 + 1) c.args.self.now
    (fits_weaker (has_suffix host) beside (beside - 1 + 1) c.args.self.now (omega arith) c.loop-beside.invariant) c.in-Some.domain.now (sym c.in-Some.ensures))

pub loop-beside-preserved : goal.loop-beside-preserved
loop-beside-preserved c =
    let host = str_to_ascii_lowercase c.args.host.now in
    let beside = c.loop-beside.beside in
    fits_fewer (has_suffix host) (beside - 1) c.args.self.now
    (fits_weaker (has_suffix host) beside (beside - 1 + 1) c.args.self.now (omega arith) c.loop-beside.invariant) (sym c.in_default.ensures)

pub returns : goal.returns
returns c =
    let host = str_to_ascii_lowercase c.args.host.now in
    sym (fits_none (has_suffix host) (suffix_more host) c.args.self.now
    (fits_weaker (has_suffix host) c.loop-beside.beside 1 c.args.self.now (omega arith) c.loop-beside.invariant))
