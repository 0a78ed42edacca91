-- The criteria of filter chains by ranges of IP addresses.
use Rattle.std.specs.Prelude.{List}
use Rattle.ev_types.specs.declared.filter_chains.FilterChainMatch.{FilterChainMatch}
use Rattle.ev_types.specs.declared.ips.CidrRange.{CidrRange}
use Rattle.ev_chain_match.specs.declared.criterion.RangeCriterion.{RangeCriterion}
use Rattle.ev_chain_match.specs.declared.criterion.RangeCriterion.TheVariants.{Destination, DirectSource, Source}

-- the ranges that a match asks for by a criterion
abbrev pub ranges_by : RangeCriterion → FilterChainMatch → List CidrRange
ranges_by Destination m = m.prefix_ranges
ranges_by DirectSource m = m.direct_source_prefix_ranges
ranges_by Source m = m.source_prefix_ranges
