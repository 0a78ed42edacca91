-- The text of the command: each cluster that names secrets waits until all of them, and its endpoints, have come.
use Rattle.std.specs.Prelude.{ℕ, Bool, true, not, ◌&&◌, ◌||◌, List, Option, Some, None, codes}
use Rattle.std.specs.List.{list_any}
use Rattle.std.specs.Str.{bytes_eq}
use Rattle.serde_json.specs.Data.{Data}
use Rattle.ev_types.specs.declared.clusters.Discovery.{Discovery}
use Rattle.ev_types.specs.declared.clusters.Discovery.TheVariants.{Static, Eds, Elsewhere}
use Rattle.ev_types.specs.declared.events.Profile.{Profile}
use Rattle.ev_expand.specs.declared.keys.Key.{Key}
use Rattle.ev_expand.specs.Keys.{key_same}
use Rattle.ev_expand.specs.Fronts.{Front, up_to, stream_at, opens}
use Rattle.ev_expand.specs.Guarding.{Guarded, guarded_in}
use Rattle.ev_expand.specs.Expanding.{Rules, text_by}
use Rattle.ev_tls.specs.Awaited.{services_of}
use Rattle.ev_tls.specs.References.{by_secrets}
use Rattle.ev_tls.specs.Told.{is_complete, values_in, value_of}

-- the line has a guarded resource of the key
abbrev pub has_guarded : Profile → Data → Key → Bool
has_guarded profile line key = list_any (λ (g : Guarded). key_same key g.key) (guarded_in (by_secrets profile) line)

-- the line gives a value to this name
abbrev pub gives_name : Profile → Data → List ℕ → Bool
gives_name profile line name = list_any (λ (v : List ℕ × Data). bytes_eq v.0 name) (values_in profile line)

-- the line gives the endpoints of the key's clusters a value
abbrev pub gives_endpoints : Profile → Data → Key → Bool
gives_endpoints profile line key = list_any (gives_name profile line) (services_of key.cluster.discovery)

-- what is complete is due where a stream is open: at the line that opens it, at each guarded resource of it, at the
-- line that completes it, and where its endpoints get a value
abbrev pub is_due : Profile → Front → Guarded → Bool
is_due profile front g =
    stream_at profile (up_to front) && is_complete profile (up_to front) g.key
    && (opens profile front || has_guarded profile front.line g.key
    || not (is_complete profile front.before g.key) || gives_endpoints profile front.line g.key)

-- the endpoints: those given in the first cluster of the key, or the value of their name
abbrev pub endpoints_by : Profile → Discovery → List Data → Guarded → Option Data
endpoints_by profile (Static rows) lines g = Some g.own
endpoints_by profile (Eds service limited fresh) lines g = value_of profile lines service
endpoints_by profile Elsewhere lines g = None

abbrev pub tls_rules : Profile → Rules
tls_rules profile = record {
  prefix = codes "tls/";
  nonce = codes "tls-";
  guard = by_secrets profile;
  is_written = λ line. true;
  is_due = is_due profile;
  endpoints_of = λ lines g. endpoints_by profile g.key.cluster.discovery lines g;
}

-- the text of a script's header and lines, which are read in this profile
abbrev pub tls_text : Profile → Data → List Data → List ℕ
tls_text profile head lines = text_by (tls_rules profile) head lines
