-- Criteria before filter chains are narrowed by them.
use Rattle.std.specs.Prelude.{◌≡◌}
use Rattle.ev_chain_match.specs.declared.criteria.Criteria.{Criteria}
use Rattle.ev_chain_match.specs.declared.criteria.Wanted.TheVariants.{Anything}

-- nothing is asked of a chain
abbrev pub anything : Criteria
anything = record {
  port = Anything;
  range = Anything;
  server_name = Anything;
  transport = Anything;
  protocol = Anything;
  direct_range = Anything;
  source_type = Anything;
  source_range = Anything;
  source_port = Anything;
}

-- nothing is asked of where a connection comes from
abbrev pub ignores_source : Criteria → Type 0
ignores_source criteria =
    criteria ≡ record criteria { direct_range = Anything; source_type = Anything; source_range = Anything; source_port = Anything }
