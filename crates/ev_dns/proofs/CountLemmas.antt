-- Each line with a template is written, so that fewer templates are guarded than the script may have resources.
use Rattle.std.proofs.Common.{◌≡◌, ◌∙◌, Bool, true, false, [], Some, None, refl, sym}
use Rattle.ev_types.specs.declared.events.Event.{Event}
use Rattle.ev_types.specs.declared.events.Event.TheVariants.{Response}
use Rattle.ev_types.specs.declared.events.Profile.{Profile}
use Rattle.serde_json.specs.Data.{Data}
use Rattle.ev_expand.specs.Waiting.{WaitsAsSaid, has_guarded}
use Rattle.ev_expand.proofs.ReadLemmas.{waiting_reads}
use Rattle.ev_dns.specs.Resolving.{is_written}
use Rattle.ev_dns.specs.Templates.{by_names}
use Rattle.ev_dns.proofs.StreamLemmas.{unwritten_none}

-- a line with something guarded is written
pub guarded_written : (profile : Profile) (line : Data) → has_guarded (by_names profile) line ≡ true → is_written line ≡ true
guarded_written profile line some = by (is_written line) refl
  where
    differ : {P : Type 0} (event : Event) → None ≡ Some event → P
    differ event e = absurd (cc)

    by : (b : Bool) → is_written line ≡ b → b ≡ true
    by true h = refl
    by false h =
        let waits : WaitsAsSaid [] (by_names profile) [] line = waiting_reads [] (by_names profile) [] line some in
        differ (Response waits.response) (sym (unwritten_none profile line h) ∙ waits.event)
