-- Which kinds of resources a profile reads, and by which field of a resource its own name is found.
use Rattle.std.specs.Prelude.{ℕ, List, Bool, true, if◌then◌else◌, Option, Some, None, option_and_then, codes}
use Rattle.ev_types.specs.declared.events.Profile.{Profile}
use Rattle.ev_types.specs.declared.contents.Kind.{Kind}
use Rattle.ev_types.specs.declared.contents.Kind.TheVariants.{Cds, Eds, Lds, Rds, Sds, Ecds}
use Rattle.ev_types.specs.Kinds.{kind_of_url}
use Rattle.ev_types.specs.Profiles.{is_envoy}

-- the profile reads this kind: secrets and extensions are read as Envoy reads them alone
abbrev pub is_read : Profile → Kind → Bool
is_read profile Cds = true
is_read profile Eds = true
is_read profile Lds = true
is_read profile Rds = true
is_read profile Sds = is_envoy profile
is_read profile Ecds = is_envoy profile

-- a kind, where the profile reads it
abbrev pub read_in : Profile → Kind → Option Kind
read_in profile kind = if is_read profile kind then Some kind else None

-- the kind of resource that has this type URL: none for a type that the profile doesn't read
abbrev pub kind_with : Profile → List ℕ → Option Kind
kind_with profile url = option_and_then (read_in profile) (kind_of_url url)

-- the field with a resource's own name
abbrev pub name_field : Kind → List ℕ
name_field Cds = codes "name"
name_field Eds = codes "cluster_name"
name_field Lds = codes "name"
name_field Rds = codes "name"
name_field Sds = codes "name"
name_field Ecds = codes "name"
