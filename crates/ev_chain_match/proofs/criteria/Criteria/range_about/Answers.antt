use Rattle.std.proofs.Common.{◌≡◌, ◌+◌, ◌-◌, ◌∷◌, ◌∙◌, [], List, ℕ, Some, sym, ap, arith}
use Rattle.std.specs.Option.{option_or}
use Rattle.ev_types.specs.Ips.{cidr_range_same, range_about, ranges_about}
use Rattle.ev_types.specs.declared.ips.Ip.{Ip}
use Rattle.ev_model.specs.Narrowing.{is_asked}
use Rattle.ev_model.specs.declared.pictures.ServedChain.{ServedChain}
use Rattle.ev_chain_match.specs.RangeCriteria.{ranges_by}
use Rattle.ev_chain_match.specs.declared.criterion.RangeCriterion.{RangeCriterion}
use Rattle.ev_chain_match.specs.Wanted.{first_range, left_by, wanted_of}
use Rattle.ev_chain_match.specs.declared.criteria.Criteria.{Criteria}
use Rattle.ev_chain_match.proofs.Brought.{range_first, ranges_below}
use Rattle.ev_chain_match.proofs.criteria.Criteria.range_about.Goals as goal

-- the range of the last length, or else a shorter one
step : (by : RangeCriterion) (self : Criteria) (chains : List ServedChain) (ip : Ip) (n k : ℕ) → n + 1 ≡ k
    → first_range by self chains (ranges_below ip k) ≡ first_range by self chains (ranges_about (Some ip))
    → option_or (first_range by self chains (range_about ip n ∷ [])) (first_range by self chains (ranges_below ip n)) ≡ first_range by self chains (ranges_about (Some ip))
step by self chains ip n k at so =
    sym (range_first (is_asked cidr_range_same (ranges_by by) (left_by self chains)) ip n)
    ∙ ap (λ m. first_range by self chains (ranges_below ip m)) at
    ∙ so

pub returns-in-Some : goal.returns-in-Some
returns-in-Some c =
    let n = c.loop-length.length - 1 in
    let at : n + 1 ≡ c.loop-length.length = omega arith in
    ap wanted_of
    (ap (λ o. option_or o (first_range c.args.by c.args.self.now c.args.chains.now (ranges_below c.args.ip n))) c.in-Some.ensures
    ∙ step c.args.by c.args.self.now c.args.chains.now c.args.ip n c.loop-length.length at c.loop-length.invariant)

pub loop-length-preserved : goal.loop-length-preserved
loop-length-preserved c =
    let n = c.loop-length.length - 1 in
    let at : n + 1 ≡ c.loop-length.length = omega arith in
    ap (λ o. option_or o (first_range c.args.by c.args.self.now c.args.chains.now (ranges_below c.args.ip n))) c.in_default.ensures
    ∙ step c.args.by c.args.self.now c.args.chains.now c.args.ip n c.loop-length.length at c.loop-length.invariant
