-- What is kept of the entries so far.
use Rattle.std.specs.Prelude.{◌≡◌, ℕ, List, [], ◌∷◌, ◌++◌, map, if◌then◌else◌, codes, option_and_then, unwrap_or}
use Rattle.std.specs.List.{flat_map}
use Rattle.serde_json.specs.Data.{Data, array, object, member, no_members}
use Rattle.serde_json.specs.View.{items_of}
use Rattle.ev_types.specs.Events.{op_of}
use Rattle.ev_types.specs.declared.contents.Kind.{Kind}
use Rattle.ev_types.specs.declared.contents.Kind.TheVariants.{Cds, Eds, Lds, Rds, Sds, Ecds}
use Rattle.ev_types.specs.declared.contents.Request.{Request}
use Rattle.ev_types.specs.declared.events.Answer.{Answer}
use Rattle.ev_types.specs.declared.events.Answer.TheVariants.{Moved, Replied}
use Rattle.ev_types.specs.declared.events.Entry.{Entry}
use Rattle.ev_types.specs.declared.events.Verdict.{Verdict}
use Rattle.ev_model.specs.Requests.{other_than}
use Rattle.ev_sotw.specs.Names.{with_names}
use Rattle.ev_journal.specs.Rendering.{verdict_tree, answer_tree, row_object}
use Rattle.ev_sotw.specs.Stated.{Stated, Known, opens, requests_in, reply_in, nonce_by, version_by, asked_by, given_up_by, known_of, sotw_request, sotw_line}
use Rattle.ev_sotw.specs.declared.state.SotwState.{SotwState}

-- ---- what an entry says of a type

-- a stream that opens has no nonce and no names
abbrev pub after_opening : Entry → Known → Known
after_opening entry known = record {
  version = known.version;
  nonce = if opens entry then [] else known.nonce;
  names = if opens entry then [] else known.names;
}

-- a reply gives its nonce, and one without an error the version
abbrev pub after_reply : Kind → List ℕ → Answer → Known → Known
after_reply kind version answer known = record {
  version = unwrap_or (option_and_then (version_by kind version) (reply_in answer)) known.version;
  nonce = unwrap_or (option_and_then (nonce_by kind) (reply_in answer)) known.nonce;
  names = known.names;
}

-- names that are given up go
abbrev pub without_given_up_by : Kind → Request → Known → Known
without_given_up_by kind request known = record known { names = other_than (given_up_by kind request) known.names }

abbrev pub without_given_up : Kind → List Request → Known → Known
without_given_up kind requests known = record known { names = other_than (flat_map (given_up_by kind) requests) known.names }

-- names that are asked for come
abbrev pub with_asked_by : Kind → Request → Known → Known
with_asked_by kind request known = record known { names = with_names (asked_by kind request) known.names }

abbrev pub with_asked : Kind → List Request → Known → Known
with_asked kind requests known = record known { names = with_names (flat_map (asked_by kind) requests) known.names }

abbrev pub after_entry : Kind → Stated → Known → Known
after_entry kind stated known =
    with_asked kind (requests_in stated.entry.answer)
    (without_given_up kind (requests_in stated.entry.answer)
    (after_reply kind stated.version stated.entry.answer (after_opening stated.entry known)))

-- ---- what is known of all types

abbrev pub type_by : SotwState → Kind → Known
type_by state Cds = state.clusters
type_by state Eds = state.endpoints
type_by state Lds = state.listeners
type_by state Rds = state.routes
type_by state Sds = state.secrets
type_by state Ecds = state.extensions

abbrev pub after_all : Stated → SotwState → SotwState
after_all stated state = record {
  clusters = after_entry Cds stated state.clusters;
  endpoints = after_entry Eds stated state.endpoints;
  listeners = after_entry Lds stated state.listeners;
  routes = after_entry Rds stated state.routes;
  secrets = after_entry Sds stated state.secrets;
  extensions = after_entry Ecds stated state.extensions;
}

-- it is what the searches find
pub record FollowsEntries (entries : List Stated) (state : SotwState) : Type 0 where
  pub clusters : state.clusters ≡ known_of Cds entries
  pub endpoints : state.endpoints ≡ known_of Eds entries
  pub listeners : state.listeners ≡ known_of Lds entries
  pub routes : state.routes ≡ known_of Rds entries
  pub secrets : state.secrets ≡ known_of Sds entries
  pub extensions : state.extensions ≡ known_of Ecds entries

-- it goes on by an entry
abbrev pub GoesOnBy : Stated → SotwState → SotwState → Type 0
GoesOnBy stated before after = (entries : List Stated) → FollowsEntries entries before → FollowsEntries (entries ++ stated ∷ []) after

-- the bytes are the line of an entry after those that were
abbrev pub IsLineBy : SotwState → Stated → List ℕ → Type 0
IsLineBy state stated line = (entries : List Stated) → FollowsEntries entries state → line ≡ sotw_line entries stated

-- ---- what is written of an entry

abbrev pub request_by : SotwState → Request → Data
request_by state request = sotw_request (type_by state request.kind) request

abbrev pub requests_by : SotwState → List Request → Data
requests_by state requests = array (items_of (map (request_by state) requests))

abbrev pub moved_by : SotwState → List Request → Data
moved_by state requests = object (member (codes "requests") (requests_by state requests) no_members)

abbrev pub replied_by : SotwState → List Request → List Verdict → Data
replied_by state requests verdicts =
    object (member (codes "requests") (requests_by state requests) (member (codes "verdicts") (array (items_of (map verdict_tree verdicts))) no_members))

abbrev pub answer_by : SotwState → Answer → Data
answer_by state (Moved requests) = moved_by state requests
answer_by state (Replied requests verdicts) = replied_by state requests verdicts
answer_by state answer = answer_tree answer

abbrev pub entry_by : SotwState → Entry → Data
entry_by state entry = row_object entry.actor entry.at entry.step (op_of entry.event) (answer_by state entry.answer)
