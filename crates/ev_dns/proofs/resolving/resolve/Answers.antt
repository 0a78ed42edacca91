use Rattle.std.proofs.Common.{map, subst}
use Rattle.serde_json.specs.View.{view}
use Rattle.ev_script.specs.Members.{tree_told}
use Rattle.ev_dns.specs.Resolving.{dns_rules}
use Rattle.ev_expand.specs.Expanding.{IsExpanded}
use Rattle.ev_dns.proofs.ResolveLemmas.{resolved_kept, resolved_sound, resolved_script}
use Rattle.ev_dns.proofs.resolving.resolve.Goals as goal

pub returns-clause-sound : goal.returns-clause-sound
returns-clause-sound c =
    resolved_sound c.requires.read.0 c.args.trees.now c.expand.result c.requires.read.1
    (subst (λ values. IsExpanded (dns_rules c.args.trees.now.header.profile) (view c.args.trees.now.head) (map tree_told values) c.expand.result) c.deref.ensures.value c.expand.ensures)

pub returns-clause-script : goal.returns-clause-script
returns-clause-script c =
    resolved_script c.requires.read.0 c.args.trees.now c.expand.result c.requires.read.1
    (subst (λ values. IsExpanded (dns_rules c.args.trees.now.header.profile) (view c.args.trees.now.head) (map tree_told values) c.expand.result) c.deref.ensures.value c.expand.ensures)

pub returns-clause-kept : goal.returns-clause-kept
returns-clause-kept c =
    resolved_kept c.requires.read.0 c.args.trees.now c.expand.result c.requires.read.1
    (subst (λ values. IsExpanded (dns_rules c.args.trees.now.header.profile) (view c.args.trees.now.head) (map tree_told values) c.expand.result) c.deref.ensures.value c.expand.ensures)
