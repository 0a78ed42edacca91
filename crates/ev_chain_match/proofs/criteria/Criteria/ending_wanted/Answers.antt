use Rattle.std.proofs.Common.{◌≡◌, ◌+◌, ◌<◌, ◌∙◌, List, ℕ, true, None, drop, length, sym, ap, arith}
use Rattle.std.specs.Option.{option_or}
use Rattle.std.specs.Str.{bytes_eq, str_to_ascii_lowercase}
use Rattle.ev_types.specs.FilterChains.{server_names}
use Rattle.ev_model.specs.Narrowing.{is_asked, wildcards}
use Rattle.ev_routes.proofs.InCase.{drop_cased, length_cased}
use Rattle.ev_chain_match.specs.Wanted.{first_name, left_by, wildcard_of}
use Rattle.ev_chain_match.proofs.Brought.{ending_first}
use Rattle.ev_chain_match.proofs.criteria.Criteria.ending_wanted.Goals as goal

pub loop-place-preserved : goal.loop-place-preserved
loop-place-preserved c =
    let self = c.args.self.now in
    let chains = c.args.chains.now in
    let name : List ℕ = str_to_ascii_lowercase c.args.name.now in
    let place = c.loop-place.place in
    let less : place < length name = omega (arith, length_cased true c.args.name.now) in
    let none : first_name self chains (wildcard_of (drop place name)) ≡ None =
    ap (λ (xs : List ℕ). first_name self chains (wildcard_of xs)) (drop_cased true place c.args.name.now ∙ ap str_to_ascii_lowercase (sym c.split_at.ensures.back))
    ∙ sym c.in_default.ensures in
    sym (ending_first (is_asked bytes_eq server_names (left_by self chains)) place name less
    ∙ ap (λ o. option_or o (first_name self chains (wildcards (drop (place + 1) name)))) none)
    ∙ c.loop-place.invariant
