-- A line that is written is a line of a script at its place.
use Rattle.std.proofs.Common.{◌≡◌, ℕ, ◌+◌, Bool, true, false, not, cond, List, [], ◌∷◌, option_map, None, codes, refl, sym, ap, ◌∙◌}
use Rattle.serde_json.specs.Data.{Data}
use Rattle.ev_script.specs.declared.forms.Settings.{Settings}
use Rattle.ev_script.specs.Members.{is_op}
use Rattle.ev_script.specs.Faults.{plain_lines}
use Rattle.ev_dns.specs.declared.lines.Resolution.{Resolution}
use Rattle.ev_dns.specs.Lines.{resolution_in, dns_lines}
use Rattle.ev_dns.specs.Resolving.{is_written, dns_rules}
use Rattle.ev_expand.specs.Said.{AllAt}
use Rattle.ev_expand.specs.Scripts.{IsLineIfWritten}
use Rattle.ev_expand.proofs.FormLemmas.{HasForm, plain_line}

-- what is written isn't a resolution, and has the form of a script's line
plain_form : (settings : Settings) (at : ℕ) (tree : Data) → HasForm dns_lines settings at tree → is_written tree ≡ true → HasForm plain_lines settings at tree
plain_form settings at tree form written = by (is_op (codes "resolved") tree) refl
  where
    by : (b : Bool) → is_op (codes "resolved") tree ≡ b → HasForm plain_lines settings at tree
    by true is = let e : true ≡ false = sym written ∙ ap not is in absurd (cc)
    by false is = record {
      named = form.named;
      reads = sym (ap (λ (b : Bool). cond b (option_map (λ (r : Resolution). None) (resolution_in tree)) (plain_lines.lines settings.profile at tree)) is) ∙ form.reads;
      below = form.below;
    }

pub lines_written : (settings : Settings) (at : ℕ) (lines : List Data) → AllAt (HasForm dns_lines settings) at lines → AllAt (IsLineIfWritten (dns_rules settings.profile) settings) at lines
lines_written settings at [] all = tt
lines_written settings at (line ∷ lines) all =
    (λ written. plain_line settings at line (plain_form settings at line all.0 written), lines_written settings (at + 1) lines all.1)
