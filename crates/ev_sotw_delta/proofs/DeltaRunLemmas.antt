-- The lines of the script that is written have events of the state of the world.
use Rattle.std.proofs.Common.{◌≡◌, ◌∙◌, ℕ, ◌+◌, Bool, true, false, not, cond, ◌&&◌, ◌||◌, List, [], ◌∷◌, ◌++◌, map, codes, Option, None, Some, option_map, option_to_list, unwrap_or, refl, sym, ap, subst}
use Rattle.std.specs.List.{list_any}
use Rattle.std.specs.Str.{bytes_eq}
use Rattle.std.proofs.lemmas.Bool.{false≢true}
use Rattle.serde_json.specs.Data.{Data, string}
use Rattle.ev_types.specs.Items.{ItemParts}
use Rattle.ev_types.specs.declared.contents.Kind.{Kind}
use Rattle.ev_types.specs.declared.contents.Kind.TheVariants.{Cds, Lds}
use Rattle.ev_types.specs.declared.events.Actor.TheVariants.{Stream}
use Rattle.ev_types.specs.declared.events.Event.{Event}
use Rattle.ev_types.specs.declared.events.Event.TheVariants.{Connect, Disconnect, Response, Health, FetchTimeout, DrainTimeout, TtlExpired, Publish, Reap, Accept, Close, Settle}
use Rattle.ev_types.specs.declared.events.Line.{Line}
use Rattle.ev_types.specs.declared.events.Profile.{Profile}
use Rattle.ev_script.specs.declared.forms.Settings.{Settings}
use Rattle.ev_model.specs.Verdicts.{is_among}
use Rattle.ev_sotw.proofs.NameSetLemmas.{among_sorted, among_other}
use Rattle.ev_script.specs.Members.{is_op}
use Rattle.ev_script.specs.Lines.{line_of}
use Rattle.ev_script.specs.Faults.{plain_lines}
use Rattle.ev_script.proofs.KeptLemmas.{kept_line}
use Rattle.ev_model_laws.specs.Watches.{has_item}
use Rattle.ev_sotw.specs.Discovery.{DiscoveryParts, resource_name, names_in}
use Rattle.ev_sotw.specs.Delta.{delta_message}
use Rattle.ev_sotw.specs.Told.{item_told, told_with, response_told, IsDiscovery}
use Rattle.ev_sotw.proofs.ReadLemmas.{read_so}
use Rattle.ev_sotw.specs.declared.names_so_far.NamesSoFar.{NamesSoFar}
use Rattle.ev_sotw.specs.Searches.{with_before}
use Rattle.ev_sotw.specs.Lines.{response_in, sotw_lines}
use Rattle.ev_sotw.specs.Deltas.{stream_said, removed_at, delta_line, delta_of}
use Rattle.ev_sotw.specs.LineFollows.{FollowsLines, removed_by_kind, after_kind, after_response, after_other}
use Rattle.ev_sotw.proofs.LineFollowLemmas.{follows_response, follows_other, removed_follows}
use Rattle.ev_expand.specs.Said.{HasLine, AllAt, lines_said}
use Rattle.ev_expand.proofs.FormLemmas.{HasForm}
use Rattle.ev_sotw_delta.proofs.DeltaLemmas.{placed_delta}
use Rattle.ev_sotw_delta.proofs.ScriptLemmas.{response_is, line_made, delta_has}
use Rattle.ev_sotw_delta.proofs.EventLemmas.{Heard, item_names, heard_of, heard_after, FitsKind, FitsAt, AllFit, among_items, removed_so}
use Rattle.ev_sotw_delta.proofs.StripLemmas.{line_events}
use Rattle.ev_sotw_delta.proofs.RunLemmas.{connected_after}
use Rattle.ev_sotw_delta.proofs.PlainLemmas.{is_response, IsPlain, plain_line}

-- what is heard is what the lines say
pub record Agrees (heard : Heard) (names : NamesSoFar) : Type 0 where
  pub connected : heard.connected ≡ names.connected
  pub clusters : (name : List ℕ) → is_among name heard.clusters ≡ is_among name names.clusters
  pub listeners : (name : List ℕ) → is_among name heard.listeners ≡ is_among name names.listeners

-- ---- responses

-- the items have the names of the resources
told_items : (profile : Profile) (kind : Kind) (response : DiscoveryParts) (removed : List (List ℕ)) (name : List ℕ) → IsDiscovery profile response
    → has_item (told_with profile (Some kind) response removed) name ≡ is_among name (names_in kind response)
told_items profile kind response removed name is = by response.resources ∙ sym (among_sorted (map (resource_name kind) response.resources) name)
  where
    by : (resources : List Data) → list_any (λ (item : ItemParts). bytes_eq item.name name) (map (item_told profile kind response.version) resources) ≡ is_among name (map (resource_name kind) resources)
    by [] = refl
    by (resource ∷ resources) = λ i. bytes_eq ((read_so profile response [] is).named kind resource i) name || by resources i

respond_fits : (profile : Profile) (found : Option Kind) (response : DiscoveryParts) (removed : List (List ℕ)) (heard : Heard) (names : NamesSoFar) → Agrees heard names → IsDiscovery profile response
    → removed ≡ removed_by_kind found names response → FitsKind (told_with profile found response removed).kind (told_with profile found response removed) heard
respond_fits profile None response removed heard names agrees is gone = tt
respond_fits profile (Some Cds) response removed heard names agrees is gone = λ name there none.
    removed_so (told_with profile (Some Cds) response removed) name
    (ap (is_among name) gone ∙ among_other (names_in Cds response) names.clusters name
    ∙ (λ i. (sym (agrees.clusters name) ∙ there) i && not ((sym (told_items profile Cds response removed name is) ∙ none) i))) none
respond_fits profile (Some Lds) response removed heard names agrees is gone = λ name there none.
    removed_so (told_with profile (Some Lds) response removed) name
    (ap (is_among name) gone ∙ among_other (names_in Lds response) names.listeners name
    ∙ (λ i. (sym (agrees.listeners name) ∙ there) i && not ((sym (told_items profile Lds response removed name is) ∙ none) i))) none
respond_fits profile (Some kind) response removed heard names agrees is gone = gone

names_turn : (profile : Profile) (kind : Kind) (response : DiscoveryParts) (removed : List (List ℕ)) (name : List ℕ) (connected : Bool) (old new : List (List ℕ)) → IsDiscovery profile response
    → is_among name old ≡ is_among name new
    → is_among name (cond connected (item_names (told_with profile (Some kind) response removed)) old) ≡ is_among name (cond connected (names_in kind response) new)
names_turn profile kind response removed name true old new is same = among_items (told_with profile (Some kind) response removed) name ∙ told_items profile kind response removed name is
names_turn profile kind response removed name false old new is same = same

respond_agrees : (profile : Profile) (found : Option Kind) (response : DiscoveryParts) (removed : List (List ℕ)) (heard : Heard) (names : NamesSoFar) → Agrees heard names → IsDiscovery profile response
    → Agrees (heard_of (told_with profile found response removed).kind (told_with profile found response removed) heard) (after_kind found response names)
respond_agrees profile None response removed heard names agrees is = agrees
respond_agrees profile (Some Cds) response removed heard names agrees is = record {
  connected = agrees.connected;
  clusters = λ name.
      ap (λ b. is_among name (cond b (item_names (told_with profile (Some Cds) response removed)) heard.clusters)) agrees.connected
      ∙ names_turn profile Cds response removed name names.connected heard.clusters names.clusters is (agrees.clusters name);
  listeners = agrees.listeners;
}
respond_agrees profile (Some Lds) response removed heard names agrees is = record {
  connected = agrees.connected;
  clusters = agrees.clusters;
  listeners = λ name.
      ap (λ b. is_among name (cond b (item_names (told_with profile (Some Lds) response removed)) heard.listeners)) agrees.connected
      ∙ names_turn profile Lds response removed name names.connected heard.listeners names.listeners is (agrees.listeners name);
}
respond_agrees profile (Some kind) response removed heard names agrees is = agrees

-- ---- other events

plain_fits : (event : Event) (heard : Heard) → is_response event ≡ false → FitsAt event heard
plain_fits Connect heard h = tt
plain_fits Disconnect heard h = tt
plain_fits (Response response) heard h = absurd (false≢true (sym h))
plain_fits (Health cluster host healthy) heard h = tt
plain_fits (FetchTimeout timeout) heard h = tt
plain_fits (DrainTimeout listener) heard h = tt
plain_fits (TtlExpired kind name) heard h = tt
plain_fits Publish heard h = tt
plain_fits Reap heard h = tt
plain_fits (Accept ask) heard h = tt
plain_fits (Close connection) heard h = tt
plain_fits Settle heard h = tt

plain_clusters : (event : Event) (heard : Heard) → is_response event ≡ false → (heard_after event heard).clusters ≡ heard.clusters
plain_clusters Connect heard h = refl
plain_clusters Disconnect heard h = refl
plain_clusters (Response response) heard h = absurd (false≢true (sym h))
plain_clusters (Health cluster host healthy) heard h = refl
plain_clusters (FetchTimeout timeout) heard h = refl
plain_clusters (DrainTimeout listener) heard h = refl
plain_clusters (TtlExpired kind name) heard h = refl
plain_clusters Publish heard h = refl
plain_clusters Reap heard h = refl
plain_clusters (Accept ask) heard h = refl
plain_clusters (Close connection) heard h = refl
plain_clusters Settle heard h = refl

plain_listeners : (event : Event) (heard : Heard) → is_response event ≡ false → (heard_after event heard).listeners ≡ heard.listeners
plain_listeners Connect heard h = refl
plain_listeners Disconnect heard h = refl
plain_listeners (Response response) heard h = absurd (false≢true (sym h))
plain_listeners (Health cluster host healthy) heard h = refl
plain_listeners (FetchTimeout timeout) heard h = refl
plain_listeners (DrainTimeout listener) heard h = refl
plain_listeners (TtlExpired kind name) heard h = refl
plain_listeners Publish heard h = refl
plain_listeners Reap heard h = refl
plain_listeners (Accept ask) heard h = refl
plain_listeners (Close connection) heard h = refl
plain_listeners Settle heard h = refl

abbrev other_by : Bool → Bool → NamesSoFar → NamesSoFar
other_by first second names = cond first (record names { connected = true }) (cond second (record names { connected = false }) names)

other_connected : (first second : Bool) (names : NamesSoFar) → unwrap_or (cond first (Some true) (cond second (Some false) None)) names.connected ≡ (other_by first second names).connected
other_connected true second names = refl
other_connected false true names = refl
other_connected false false names = refl

other_clusters : (first second : Bool) (names : NamesSoFar) → (other_by first second names).clusters ≡ names.clusters
other_clusters true second names = refl
other_clusters false true names = refl
other_clusters false false names = refl

other_listeners : (first second : Bool) (names : NamesSoFar) → (other_by first second names).listeners ≡ names.listeners
other_listeners true second names = refl
other_listeners false true names = refl
other_listeners false false names = refl

plain_agrees : (line : Data) (event : Event) (heard : Heard) (names : NamesSoFar) → IsPlain line event → Agrees heard names → Agrees (heard_after event heard) (after_other line names)
plain_agrees line event heard names plain agrees = record {
  connected = connected_after event heard ∙ ap (λ told. unwrap_or told heard.connected) plain.said ∙ ap (unwrap_or (stream_said line)) agrees.connected
      ∙ other_connected (is_op (codes "connect") line) (is_op (codes "disconnect") line) names;
  clusters = λ name. ap (is_among name) (plain_clusters event heard plain.plain) ∙ agrees.clusters name
      ∙ sym (ap (is_among name) (other_clusters (is_op (codes "connect") line) (is_op (codes "disconnect") line) names));
  listeners = λ name. ap (is_among name) (plain_listeners event heard plain.plain) ∙ agrees.listeners name
      ∙ sym (ap (is_among name) (other_listeners (is_op (codes "connect") line) (is_op (codes "disconnect") line) names));
}

-- ---- one line after another

record NextFits (profile : Profile) (at : ℕ) (before : List Data) (line : Data) (heard : Heard) : Type 0 where
  told : Line
  is : line_of profile at (delta_of profile before line) ≡ Some told
  fits : FitsAt told.event heard
  after : NamesSoFar
  follows : FollowsLines profile (before ++ line ∷ []) after
  agrees : Agrees (heard_after told.event heard) after

response_fits : (profile : Profile) (at : ℕ) (before : List Data) (line : Data) (heard : Heard) (names : NamesSoFar) (response : DiscoveryParts) → response_in profile line ≡ Some response
    → FollowsLines profile before names → Agrees heard names → NextFits profile at before line heard
response_fits profile at before line heard names response is follows agrees =
    let proper : IsDiscovery profile response = response_is profile line response is in
    let removed : List (List ℕ) = removed_at profile before response in
    let made : delta_of profile before line ≡ delta_line (delta_message response (map string removed)) =
    ap (λ found. unwrap_or (option_map (λ r. delta_line (delta_message r (map string (removed_at profile before r)))) found) line) is in
    record {
      told = record { at = at; actor = Stream; event = Response (response_told profile response removed) };
      is = ap (line_of profile at) made ∙ line_made profile at response removed proper;
      fits = respond_fits profile response.kind response removed heard names agrees proper (sym (removed_follows profile before response names follows));
      after = after_response response names;
      follows = follows_response profile before line response names is follows;
      agrees = respond_agrees profile response.kind response removed heard names agrees proper;
    }

-- a response names no worker
abbrev no_worker : DiscoveryParts → Option ℕ
no_worker response = None

-- a line without a response isn't one of responses
not_responding : (profile : Profile) (line : Data) (at : ℕ) (named : Option ℕ) (found : Option DiscoveryParts) → found ≡ None → (b : Bool)
    → cond b (option_map no_worker found) (plain_lines.lines profile at line) ≡ Some named → b ≡ false
not_responding profile line at named found none true h = absurd (no_some (sym (ap (option_map no_worker) none) ∙ h))
  where
    no_some : None ≡ Some named → ⊥
    no_some e = cc
not_responding profile line at named found none false h = refl

plain_next : (settings : Settings) (at : ℕ) (before : List Data) (line : Data) (heard : Heard) (names : NamesSoFar) → response_in settings.profile line ≡ None → HasForm sotw_lines settings at line
    → FollowsLines settings.profile before names → Agrees heard names → NextFits settings.profile at before line heard
plain_next settings at before line heard names none form follows agrees =
    let has : HasLine settings at (delta_of settings.profile before line) = delta_has settings at before line form in
    let same : delta_of settings.profile before line ≡ line =
    ap (λ found. unwrap_or (option_map (λ r. delta_line (delta_message r (map string (removed_at settings.profile before r)))) found) line) none in
    let is : line_of settings.profile at line ≡ Some has.line = ap (line_of settings.profile at) (sym same) ∙ has.is in
    let apart : is_op (codes "response") line ≡ false = not_responding settings.profile line at form.named (response_in settings.profile line) none (is_op (codes "response") line) form.reads in
    let plain : IsPlain line has.line.event = plain_line settings.workers settings.profile at line has.line (kept_line settings.workers settings.profile at line has.line is has.below).1 apart is in
    record {
      told = has.line;
      is = has.is;
      fits = plain_fits has.line.event heard plain.plain;
      after = after_other line names;
      follows = follows_other settings.profile before line names none follows;
      agrees = plain_agrees line has.line.event heard names plain agrees;
    }

next_fits : (settings : Settings) (at : ℕ) (before : List Data) (line : Data) (heard : Heard) (names : NamesSoFar) → HasForm sotw_lines settings at line
    → FollowsLines settings.profile before names → Agrees heard names → NextFits settings.profile at before line heard
next_fits settings at before line heard names form follows agrees = by (response_in settings.profile line) refl
  where
    by : (found : Option DiscoveryParts) → response_in settings.profile line ≡ found → NextFits settings.profile at before line heard
    by None none = plain_next settings at before line heard names none form follows agrees
    by (Some response) is = response_fits settings.profile at before line heard names response is follows agrees

pub lines_fit : (settings : Settings) (at : ℕ) (before lines : List Data) (heard : Heard) (names : NamesSoFar) → AllAt (HasForm sotw_lines settings) at lines
    → FollowsLines settings.profile before names → Agrees heard names → AllFit heard (line_events (lines_said settings.profile at (map (placed_delta settings.profile) (with_before before lines))))
lines_fit settings at before [] heard names all follows agrees = tt
lines_fit settings at before (line ∷ lines) heard names all follows agrees =
    let next = next_fits settings at before line heard names all.0 follows agrees in
    let rest : List Data = map (placed_delta settings.profile) (with_before (before ++ line ∷ []) lines) in
    subst (λ ls. AllFit heard (line_events ls)) (sym (ap (λ found. option_to_list found ++ lines_said settings.profile (at + 1) rest) next.is))
    (next.fits, lines_fit settings (at + 1) (before ++ line ∷ []) lines (heard_after next.told.event heard) next.after all.1 next.follows next.agrees)
