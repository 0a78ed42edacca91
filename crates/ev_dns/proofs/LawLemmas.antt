-- In every run of the script that is written what is known of a template's endpoints is what the last answers say.
use Rattle.std.proofs.Common.{◌<◌, length, arith}
use Rattle.std.proofs.lemmas.Option.{slice_get_within}
use Rattle.ev_types.specs.declared.events.Profile.{Profile}
use Rattle.ev_types.specs.declared.limits.TheConstants.{ITEM_LIMIT}
use Rattle.ev_expand.specs.Guarding.{guarded_by}
use Rattle.ev_expand.specs.Said.{lines_in}
use Rattle.ev_expand.proofs.CountLemmas.{guarded_few}
use Rattle.ev_dns.specs.Resolving.{dns_rules}
use Rattle.ev_dns.specs.Templates.{by_names}
use Rattle.ev_dns.specs.LastAnswers.{LastAnswers}
use Rattle.ev_dns.proofs.CountLemmas.{guarded_written}
use Rattle.ev_dns.proofs.HostRunLemmas.{hosts_read}
use Rattle.ev_dns.proofs.LastLemmas.{last_answers}

pub last_answer : LastAnswers
last_answer trees format journal unused kept run k index place g last streams there watched =
    let profile : Profile = trees.header.profile in
    let few : length (guarded_by (by_names profile) (lines_in trees)) < ITEM_LIMIT = guarded_few (dns_rules profile) (guarded_written profile) (lines_in trees) kept.few_items in
    let small : place < ITEM_LIMIT = omega (arith, slice_get_within (guarded_by (by_names profile) (lines_in trees)) place g there, few) in
    last_answers trees format journal kept run unused few place g there (hosts_read profile (lines_in trees) place g small) k index last streams watched
