-- The text of the command: each template waits until all of its host names were answered, and has the hosts of the last
-- answers.
use Rattle.std.specs.Prelude.{ℕ, Bool, false, not, ◌&&◌, ◌||◌, List, Option, Some, None, codes}
use Rattle.std.specs.List.{list_any}
use Rattle.serde_json.specs.Data.{Data}
use Rattle.ev_types.specs.Hosts.{HostRowParts}
use Rattle.ev_types.specs.declared.events.Profile.{Profile}
use Rattle.ev_script.specs.Members.{is_op}
use Rattle.ev_expand.specs.declared.keys.Key.{Key}
use Rattle.ev_expand.specs.Keys.{key_same}
use Rattle.ev_expand.specs.Fronts.{Front, up_to, stream_at, opens}
use Rattle.ev_expand.specs.Guarding.{Guarded, guarded_in}
use Rattle.ev_expand.specs.Expanding.{Rules, text_by}
use Rattle.ev_dns.specs.declared.lines.Resolution.{Resolution}
use Rattle.ev_dns.specs.Lines.{resolution_in}
use Rattle.ev_dns.specs.Templates.{by_names, has_name}
use Rattle.ev_dns.specs.Answers.{addresses_of, is_complete}
use Rattle.ev_dns.specs.Hosts.{hosts_with, endpoints_tree}

-- the hosts of a template after these lines
abbrev pub resolved_hosts : List Data → Key → List HostRowParts
resolved_hosts lines key = hosts_with (addresses_of lines) key

-- the line has a guarded resource of the key
abbrev pub has_guarded : Profile → Data → Key → Bool
has_guarded profile line key = list_any (λ (g : Guarded). key_same key g.key) (guarded_in (by_names profile) line)

-- there is a resolution, of a host name of the template
abbrev pub answers_one : Option Resolution → Key → Bool
answers_one None key = false
answers_one (Some resolution) key = has_name resolution.name key

-- the line answers a host name of the template
abbrev pub answers_name : Data → Key → Bool
answers_name line key = answers_one (resolution_in line) key

-- what is complete is due where a stream is open: at the line that opens it, at each guarded resource of it, and at
-- each answer of one of its host names
abbrev pub is_due : Profile → Front → Guarded → Bool
is_due profile front g =
    stream_at profile (up_to front) && is_complete (up_to front) g.key
    && (opens profile front || has_guarded profile front.line g.key || answers_name front.line g.key)

-- resolutions aren't written
abbrev pub is_written : Data → Bool
is_written line = not (is_op (codes "resolved") line)

abbrev pub dns_rules : Profile → Rules
dns_rules profile = record {
  prefix = codes "dns/";
  nonce = codes "dns-";
  guard = by_names profile;
  is_written = is_written;
  is_due = is_due profile;
  endpoints_of = λ lines g. Some (endpoints_tree (resolved_hosts lines g.key));
}

-- the text of a script's header and lines, which are read in this profile
abbrev pub dns_text : Profile → Data → List Data → List ℕ
dns_text profile head lines = text_by (dns_rules profile) head lines
