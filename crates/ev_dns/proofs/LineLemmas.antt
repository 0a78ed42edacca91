-- Which lines of an input are lines of a script.
use Rattle.std.proofs.Common.{◌≡◌, ℕ, Bool, true, false, not, cond, List, Option, Some, None, is_some, option_map, option_and_then, codes, refl, sym, ap, ◌∙◌}
use Rattle.serde_json.specs.Data.{Data}
use Rattle.serde_json.specs.Find.{as_str}
use Rattle.ev_types.specs.Same.{bytes_decide}
use Rattle.ev_types.specs.declared.events.Line.{Line}
use Rattle.ev_types.specs.declared.events.Profile.{Profile}
use Rattle.ev_script.specs.Members.{member_of, is_word, is_op}
use Rattle.ev_script.specs.Lines.{line_by}
use Rattle.ev_script.specs.Faults.{plain_lines, worker_of}
use Rattle.ev_dns.specs.declared.lines.Resolution.{Resolution}
use Rattle.ev_dns.specs.Lines.{resolution_in, dns_lines}
use Rattle.ev_dns.specs.Resolving.{is_written}

none_by : (profile : Profile) (at : ℕ) (tree : Data) (o : Option (List ℕ)) → is_word (codes "resolved") o ≡ true → option_and_then (λ op. line_by profile op at tree) o ≡ None
none_by profile at tree None h = absurd (cc)
none_by profile at tree (Some op) h = ap (λ (x : List ℕ). line_by profile x at tree) ((bytes_decide op (codes "resolved")).0 h)

no_line : (profile : Profile) (at : ℕ) (tree : Data) → is_op (codes "resolved") tree ≡ true → is_some (plain_lines.lines profile at tree) ≡ false
no_line profile at tree h = ap (λ (o : Option Line). is_some (option_map (λ (l : Line). worker_of l.actor) o)) (none_by profile at tree (member_of as_str (codes "op") tree) h)

-- a line of an input is written exactly where it is a line of a script
pub written_where_plain : (profile : Profile) (at : ℕ) (tree : Data) → is_some (dns_lines.lines profile at tree) ≡ true → is_written tree ≡ is_some (plain_lines.lines profile at tree)
written_where_plain profile at tree h = by (is_op (codes "resolved") tree) refl
  where
    by : (b : Bool) → is_op (codes "resolved") tree ≡ b → not (is_op (codes "resolved") tree) ≡ is_some (plain_lines.lines profile at tree)
    by true is = ap not is ∙ sym (no_line profile at tree is)
    by false is = ap not is ∙ sym (sym (ap (λ (b : Bool). is_some (cond b (option_map (λ (r : Resolution). None) (resolution_in tree)) (plain_lines.lines profile at tree))) is) ∙ h)
