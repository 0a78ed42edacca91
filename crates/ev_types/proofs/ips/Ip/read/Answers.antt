use Rattle.std.proofs.Common.{◌∙◌, ap, Some, Ok}
use Rattle.ev_types.specs.declared.ips.Ip.TheVariants.{V4, V6}
use Rattle.ev_types.proofs.IpLemmas.{v4_is_read, v6_is_read}
use Rattle.ev_types.proofs.ips.Ip.read.Goals as goal

pub returns-in-Ok-V4 : goal.returns-in-Ok-V4
returns-in-Ok-V4 c = ap (λ b. Some (V4 b)) c.to_bits.ensures ∙ v4_is_read _ _ c.from_str.ensures _ (c.in-Ok-V4.is ∙ ap Ok c.in-Ok-V4.field-0-is)

pub returns-in-Ok-V6 : goal.returns-in-Ok-V6
returns-in-Ok-V6 c = ap (λ b. Some (V6 b)) c.to_bits-in-Ok-V6.ensures ∙ v6_is_read _ _ c.from_str.ensures _ (c.in-Ok-V6.is ∙ ap Ok c.in-Ok-V6.field-0-is)
