-- What a connection asks for, by the members of its line.
use Rattle.std.specs.Prelude.{ℕ, List, [], Bool, false, codes, Option, option_map, option_and_then}
use Rattle.serde_json.specs.Data.{Data}
use Rattle.serde_json.specs.Find.{as_bool}
use Rattle.ev_types.specs.Ips.{ip_of}
use Rattle.ev_types.specs.declared.limits.TheConstants.{MAX_NAME_LENGTH}
use Rattle.ev_types.specs.declared.events.Ask.{Ask}
use Rattle.ev_script.specs.declared.asks.Handshake.{Handshake}
use Rattle.ev_script.specs.declared.asks.HttpRequest.{HttpRequest}
use Rattle.ev_script.specs.declared.limits.TheConstants.{MAX_NUMBER, MAX_PATH_LENGTH}
use Rattle.ev_script.specs.declared.peers.Ends.{Ends}
use Rattle.ev_script.specs.Members.{whole_within, text_within, texts_in, member_of, member_or}
use Rattle.ev_script.specs.Peers.{ends_in}
use Rattle.ev_script.specs.Headers.{Headers, headers_of}

-- a connection's number
abbrev pub conn_in : Data → Option ℕ
conn_in tree = member_of (whole_within 0 MAX_NUMBER) (codes "conn") tree

-- the number by which clusters and hosts are picked: 0 where it isn't given
abbrev pub pick_in : Data → Option ℕ
pick_in tree = member_or 0 (whole_within 0 MAX_NUMBER) (codes "pick") tree

-- ---- the handshake

-- the server that a connection names: at most 512 bytes, none where it isn't given
abbrev pub server_name_in : Data → Option (List ℕ)
server_name_in tree = member_or [] (text_within 0 MAX_NAME_LENGTH) (codes "serverName") tree

-- whether it comes over TLS: not where it isn't given
abbrev pub tls_in : Data → Option Bool
tls_in tree = member_or false as_bool (codes "tls") tree

-- the protocols that it offers: none where they aren't given
abbrev pub alpn_in : Data → Option (List (List ℕ))
alpn_in tree = member_or [] texts_in (codes "alpn") tree

abbrev pub handshake_in : Data → Option Handshake
handshake_in tree = option_and_then
    (λ server_name. option_and_then
    (λ tls. option_map (λ alpn. record { server_name = server_name; tls = tls; alpn = alpn }) (alpn_in tree))
    (tls_in tree))
    (server_name_in tree)

-- ---- the request

-- the host that a connection names: at most 512 bytes, none where it isn't given
abbrev pub named_host_in : Data → Option (List ℕ)
named_host_in tree = member_or [] (text_within 0 MAX_NAME_LENGTH) (codes "host") tree

-- the path that a connection asks for: at most 8,192 bytes, `/` where it isn't given
abbrev pub path_in : Data → Option (List ℕ)
path_in tree = member_or (codes "/") (text_within 0 MAX_PATH_LENGTH) (codes "path") tree

-- the headers that it brings: none where they aren't given
abbrev pub headers_in : Data → Option Headers
headers_in tree = member_or [] headers_of (codes "headers") tree

abbrev pub request_in : Data → Option HttpRequest
request_in tree = option_and_then
    (λ host. option_and_then
    (λ path. option_map (λ headers. record { host = host; path = path; headers = headers }) (headers_in tree))
    (path_in tree))
    (named_host_in tree)

-- ---- the whole

-- what a connection asks for; which of these members there may be is another question
abbrev pub ask_in : Data → Option Ask
ask_in tree = option_and_then
    (λ conn. option_and_then
    (λ (ends : Ends). option_and_then
    (λ (handshake : Handshake). option_and_then
    (λ (request : HttpRequest). option_map
    (λ pick. record {
      conn = conn;
      address = ends.address;
      ip = ip_of ends.address.address;
      source = ends.source;
      redirected_to = ends.redirected_to;
      server_name = handshake.server_name;
      tls = handshake.tls;
      alpn = handshake.alpn;
      host = request.host;
      path = request.path;
      headers = request.headers;
      pick = pick;
    })
    (pick_in tree))
    (request_in tree))
    (handshake_in tree))
    (ends_in tree))
    (conn_in tree)
