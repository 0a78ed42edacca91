-- No number of a finding's line is a float.
use Rattle.std.proofs.Common.{◌≡◌, false, refl}
use Rattle.serde_json.specs.Written.{has_float}
use Rattle.ev_types.specs.declared.journals.Finding.{Finding}
use Rattle.ev_types.specs.declared.journals.Finding.TheVariants.{Legal, IllegalAt, NotTheScript}
use Rattle.ev_audit.specs.Texts.{finding_tree}

pub no_float : (finding : Finding) → has_float (finding_tree finding) ≡ false
no_float Legal = refl
no_float (IllegalAt entry) = refl
no_float (NotTheScript entry) = refl
