-- A line that reports a secret is in the text as it is, as a line of the stream.
use Rattle.std.proofs.Common.{◌≡◌, ◌∙◌, ℕ, ◌+◌, List, [], map, Option, Some, None, is_some, codes, refl, sym, ap, subst, arith}
use Rattle.std.specs.Prelude.{slice_get}
use Rattle.std.specs.List.{list_any}
use Rattle.std.proofs.lemmas.List.Elements.{recursion_from_All}
use Rattle.serde_json.specs.Data.{Data}
use Rattle.ev_types.specs.Events.{MayMake}
use Rattle.ev_types.specs.Items.{ResponseParts}
use Rattle.ev_types.specs.Scripts.{IsScript}
use Rattle.ev_types.specs.declared.contents.Kind.{Kind}
use Rattle.ev_types.specs.declared.contents.Kind.TheVariants.{Eds}
use Rattle.ev_types.specs.declared.events.Actor.TheVariants.{Stream}
use Rattle.ev_types.specs.declared.events.Event.{Event}
use Rattle.ev_types.specs.declared.events.Event.TheVariants.{Response}
use Rattle.ev_types.specs.declared.events.Line.{Line}
use Rattle.ev_types.specs.declared.events.Profile.{Profile}
use Rattle.ev_model_laws.proofs.OperationLists.{IsIn, at_in}
use Rattle.ev_script.specs.declared.trees.ScriptTrees.{ScriptTrees}
use Rattle.ev_expand.specs.Expanding.{guarded_at}
use Rattle.ev_expand.specs.Fronts.{Front, event_of, fronts, message_of}
use Rattle.ev_expand.specs.Guarding.{clusters_in, kind_of, listed_as}
use Rattle.ev_expand.specs.Said.{given_lines, lines_in}
use Rattle.ev_expand.proofs.ReadLemmas.{waiting_stays}
use Rattle.ev_tls.specs.declared.awaited.Awaited.TheVariants.{Secret, Endpoints}
use Rattle.ev_tls.specs.References.{by_secrets}
use Rattle.ev_tls.specs.Sealing.{tls_rules}
use Rattle.ev_tls.specs.Told.{endpoints_told, told_as, told_by, told_with}
use Rattle.ev_expand.specs.Runs.{place_given}
use Rattle.ev_tls.specs.Sealed.{sealed_script}
use Rattle.ev_expand.proofs.FrontLawLemmas.{given_at, given_before}
use Rattle.ev_expand.proofs.ListLemmas.{in_map}
use Rattle.ev_expand.proofs.SaidPlaceLemmas.{IsLineOf, event_line, line_place, said_in, stream_is}
use Rattle.ev_tls.proofs.TextLemmas.{own_line}

-- it is a response of a type that isn't read
record IsUnread (profile : Profile) (line : Data) : Type 0 where
  response : ResponseParts
  event : event_of profile line ≡ Some (Response response)
  typed : response.kind ≡ None

no_secret : (secret : List ℕ) (names : List (List ℕ)) → IsIn (Secret secret) (map Endpoints names) → ⊥
no_secret secret names is = differ (in_map Endpoints names (Secret secret) is).2
  where
    differ : {name : List ℕ} → Endpoints name ≡ Secret secret → ⊥
    differ e = cc

secret_kind : (secret : List ℕ) (kind : Option Kind) (response : ResponseParts) (message : Data) → IsIn (Secret secret) (told_as kind response message) → kind ≡ None
secret_kind secret None response message is = refl
secret_kind secret (Some Eds) response message is = absurd (no_secret secret (endpoints_told response) is)
secret_kind secret (Some kind) response message is = absurd is

unread_by : (profile : Profile) (secret : List ℕ) (line message : Data) (event : Option Event) → event_of profile line ≡ event → IsIn (Secret secret) (told_with event message) → IsUnread profile line
unread_by profile secret line message (Some (Response response)) reads is =
    record { response = response; event = reads; typed = secret_kind secret response.kind response message is }
unread_by profile secret line message event reads is = absurd is

stays_itself : (profile : Profile) (front : Front) → IsUnread profile front.line → own_line profile front ≡ front.line
stays_itself profile front unread =
    let none : clusters_in profile front.line ≡ [] =
    ap (λ event. listed_as (kind_of event) (message_of front.line)) unread.event ∙ ap (λ kind. listed_as kind (message_of front.line)) unread.typed in
    waiting_stays (codes "tls/") (by_secrets profile) (guarded_at (tls_rules profile) front) front.line (ap (list_any (λ (entry : Data). is_some ((by_secrets profile).key_of entry))) none)

-- the line that a line of the input is in the script
pub record IsOwnLine (trees : ScriptTrees) (index : ℕ) (tree : Data) : Type 0 where
  pub line : Line
  pub among : IsIn line (sealed_script trees).lines
  pub by : line.actor ≡ Stream
  pub at : line.at ≡ place_given (tls_rules trees.header.profile) (lines_in trees) index
  pub says : event_of trees.header.profile tree ≡ Some line.event

pub telling_line : (trees : ScriptTrees) (index : ℕ) (front : Front) (secret : List ℕ) → IsScript (sealed_script trees)
    → slice_get (fronts (lines_in trees)) index ≡ Some front → IsIn (Secret secret) (told_by trees.header.profile front.line) → IsOwnLine trees index front.line
telling_line trees index front secret kept there tells =
    let profile : Profile = trees.header.profile in
    let unread : IsUnread profile front.line = unread_by profile secret front.line (message_of front.line) (event_of profile front.line) refl tells in
    let before : ℕ = given_before (tls_rules profile) (lines_in trees) index + 0 in
    let place : slice_get (given_lines (tls_rules profile) (lines_in trees)) before ≡ Some front.line =
    given_at (tls_rules profile) (lines_in trees) index 0 front front.line there (ap Some (stays_itself profile front unread)) in
    let own : IsLineOf profile (2 + before) front.line (Response unread.response) = event_line profile (2 + before) front.line (Response unread.response) unread.event in
    let among : IsIn own.line (sealed_script trees).lines = said_in profile 2 (given_lines (tls_rules profile) (lines_in trees)) before front.line own.line place own.is in
    let may : MayMake (sealed_script trees).workers own.line.actor own.line.event =
    at_in (λ (line : Line). MayMake (sealed_script trees).workers line.actor line.event) own.line (sealed_script trees).lines
    (recursion_from_All (λ (line : Line). MayMake (sealed_script trees).workers line.actor line.event) (sealed_script trees).lines kept.allowed) among in
    record {
      line = own.line;
      among = among;
      by = stream_is own.line.actor (subst (MayMake (sealed_script trees).workers own.line.actor) own.event_is may);
      at = omega (arith, line_place profile (2 + before) front.line own.line own.is);
      says = unread.event ∙ ap Some (sym own.event_is);
    }
