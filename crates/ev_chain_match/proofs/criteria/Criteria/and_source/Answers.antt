use Rattle.std.proofs.Common.{◌∷◌, ◌∙◌, [], ℕ, ap}
use Rattle.ev_types.specs.FilterChains.{nat_same, source_type_same, source_types, source_ports}
use Rattle.ev_types.specs.declared.filter_chains.SourceType.{SourceType}
use Rattle.ev_chain_match.specs.Wanted.{first_asked, left_by, wanted_of}
use Rattle.ev_chain_match.specs.declared.criteria.Criteria.{Criteria}
use Rattle.ev_chain_match.proofs.Left.{narrowed_by_source}
use Rattle.ev_chain_match.proofs.criteria.Criteria.and_source.Goals as goal

pub returns : goal.returns
returns c =
    let chains = c.args.chains.now in
    let criteria = c.args.self in
    let direct = c.range_wanted-criteria.result in
    let kind = c.wanted-criteria.result in
    let range = c.range_wanted-criteria-2.result in
    let one : Criteria = record criteria { direct_range = direct } in
    let three : Criteria = record criteria { direct_range = direct; source_type = kind; source_range = range } in
    narrowed_by_source chains criteria c.args.local_ip c.args.source.now direct kind range c.wanted-criteria-2.result c.requires
    c.range_wanted-criteria.ensures
    (c.wanted-criteria.ensures
    ∙ ap (λ (k : SourceType). wanted_of (first_asked source_type_same source_types (left_by one chains) (k ∷ []))) c.source_type_of.ensures)
    c.range_wanted-criteria-2.ensures
    (c.wanted-criteria-2.ensures
    ∙ ap (λ (n : ℕ). wanted_of (first_asked nat_same source_ports (left_by three chains) (n ∷ []))) c.new.ensures)
