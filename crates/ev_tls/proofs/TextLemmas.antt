-- A line of the text that names the endpoints of a private name follows a line at which the name's place is due.
use Rattle.std.proofs.Common.{◌≡◌, ◌∙◌, ℕ, zero, suc, ◌+◌, ◌<◌, Bool, true, false, List, [], ◌∷◌, ◌++◌, decimal, Some, None, codes, refl, sym, ap, subst, arith}
use Rattle.std.specs.Prelude.{slice_get}
use Rattle.serde_json.specs.Data.{Data}
use Rattle.ev_types.specs.Items.{ResponseParts}
use Rattle.ev_types.specs.declared.contents.Kind.TheVariants.{Cds, Eds}
use Rattle.ev_types.specs.declared.events.Actor.TheVariants.{Stream}
use Rattle.ev_types.specs.declared.events.Event.TheVariants.{Response}
use Rattle.ev_types.specs.declared.events.Line.{Line}
use Rattle.ev_types.specs.declared.events.Profile.{Profile}
use Rattle.ev_script.specs.Lines.{line_of}
use Rattle.ev_expand.specs.Expanding.{due_at, gives, guarded_at, lines_due, place_of}
use Rattle.ev_expand.specs.Following.{DueParts, following_line}
use Rattle.ev_expand.specs.Fronts.{Front, fronts}
use Rattle.ev_expand.specs.Guarding.{waiting_line}
use Rattle.ev_expand.specs.Private.{first_use}
use Rattle.ev_expand.specs.Said.{given_lines}
use Rattle.ev_expand.specs.Waiting.{WaitsAsSaid, has_guarded, following_response, stream_line, waiting_response}
use Rattle.ev_expand.proofs.ReadLemmas.{following_reads, waiting_reads, waiting_stays}
use Rattle.ev_tls.specs.References.{by_secrets}
use Rattle.ev_tls.specs.Sealing.{tls_rules}
use Rattle.ev_expand.proofs.DueLemmas.{IsDueName, due_named}
use Rattle.ev_expand.proofs.FrontLawLemmas.{IsGivenAt, front_at, given_before, given_from}
use Rattle.ev_expand.proofs.ListLemmas.{some_same}
use Rattle.ev_expand.proofs.NamedLemmas.{NamesEndpoints}
use Rattle.ev_expand.proofs.SaidPlaceLemmas.{line_event}
use Rattle.ev_expand.proofs.UsedLemmas.{none_names}

-- ---- a line that follows

-- the response of these, by the version of the line
abbrev due_response : Profile → List ℕ → List DueParts → ResponseParts
due_response profile version due = following_response profile (codes "tls/") (codes "tls-") version due

-- the line is of the stream, and one of the places that are due has the name
pub record IsOfDue (due : List DueParts) (name : List ℕ) (line : Line) : Type 0 where
  pub by : line.actor ≡ Stream
  pub names : IsDueName (codes "tls/") due name

following_due : (profile : Profile) (version name : List ℕ) (due : List DueParts) (at : ℕ) (line : Line)
    → line_of profile at (following_line (codes "tls/") (codes "tls-") version due) ≡ Some line → NamesEndpoints name line.event → IsOfDue due name line
following_due profile version name due at line is names =
    let made : stream_line at (due_response profile version due) ≡ line = some_same (sym (following_reads profile (codes "tls/") (codes "tls-") version due at (omega arith)) ∙ is) in
    let named : NamesEndpoints name (Response (due_response profile version due)) = subst (λ (l : Line). NamesEndpoints name l.event) (sym made) names in
    record { by = sym (ap (λ (l : Line). l.actor) made); names = due_named profile (codes "tls/") (codes "tls-") version name due named.1 }

due_line : (profile : Profile) (at j place : ℕ) (due : List DueParts) (tree : Data) (name : List ℕ) (line : Line)
    → slice_get (lines_due (codes "tls/") (codes "tls-") place due) j ≡ Some tree → line_of profile at tree ≡ Some line → NamesEndpoints name line.event → IsOfDue due name line
due_line profile at j place [] tree name line there is names = absurd (cc)
due_line profile at (suc j) place (first ∷ others) tree name line there is names = absurd (cc)
due_line profile at zero place (first ∷ others) tree name line there is names =
    following_due profile (decimal place) name (first ∷ others) at line (ap (line_of profile at) (some_same there) ∙ is) names

-- ---- the own line of a line

-- what a line itself becomes
abbrev pub own_line : Profile → Front → Data
own_line profile front = waiting_line (codes "tls/") (by_secrets profile) (guarded_at (tls_rules profile) front) front.line

no_endpoints : (response : ResponseParts) (name : List ℕ) → response.kind ≡ Some Cds → NamesEndpoints name (Response response) → ⊥
no_endpoints response name clusters names = differ (sym clusters ∙ names.0)
  where
    differ : Some Cds ≡ Some Eds → ⊥
    differ e = cc

-- it names no endpoints by a private name, where no line of the input uses one
own_names_none : (profile : Profile) (lines : List Data) (index : ℕ) (front : Front) (at : ℕ) (line : Line) (rest : List ℕ) → first_use profile (codes "tls/") lines ≡ None
    → slice_get (fronts lines) index ≡ Some front → line_of profile at (own_line profile front) ≡ Some line → NamesEndpoints (codes "tls/" ++ rest) line.event → ⊥
own_names_none profile lines index front at line rest unused there is names = by (has_guarded (by_secrets profile) front.line) refl
  where
    by : (b : Bool) → has_guarded (by_secrets profile) front.line ≡ b → ⊥
    by true some =
        let reads : WaitsAsSaid (codes "tls/") (by_secrets profile) (guarded_at (tls_rules profile) front) front.line =
        waiting_reads (codes "tls/") (by_secrets profile) (guarded_at (tls_rules profile) front) front.line some in
        let response : ResponseParts = waiting_response (codes "tls/") (by_secrets profile) (guarded_at (tls_rules profile) front) front.line reads.response in
        let made : stream_line at response ≡ line = some_same (sym (reads.reads at) ∙ is) in
        no_endpoints response (codes "tls/" ++ rest) reads.kind (subst (λ (l : Line). NamesEndpoints (codes "tls/" ++ rest) l.event) (sym made) names)
    by false none =
        let stays : own_line profile front ≡ front.line = waiting_stays (codes "tls/") (by_secrets profile) (guarded_at (tls_rules profile) front) front.line none in
        none_names profile (codes "tls/") rest lines index front.line line.event unused (front_at lines index front there).here
        (line_event profile at front.line line (ap (line_of profile at) (sym stays) ∙ is)) names

-- ---- the text

-- a line of the text at this place is of the stream, and follows a line at which a place is due that has the name
pub record FollowsDue (profile : Profile) (lines : List Data) (place : ℕ) (name : List ℕ) (line : Line) : Type 0 where
  pub index : ℕ
  pub front : Front
  pub there : slice_get (fronts lines) index ≡ Some front
  pub behind : given_before (tls_rules profile) lines index < place
  pub due : IsOfDue (due_at (tls_rules profile) front) name line

pub text_follows : (profile : Profile) (lines : List Data) (place at : ℕ) (tree : Data) (line : Line) (rest : List ℕ) → first_use profile (codes "tls/") lines ≡ None
    → slice_get (given_lines (tls_rules profile) lines) place ≡ Some tree → line_of profile at tree ≡ Some line → NamesEndpoints (codes "tls/" ++ rest) line.event
    → FollowsDue profile lines place (codes "tls/" ++ rest) line
text_follows profile lines place at tree line rest unused there is names = by given.inner given.at given.among
  where
    given : IsGivenAt (tls_rules profile) lines place tree
    given = given_from (tls_rules profile) lines place tree there

    by : (inner : ℕ) → place ≡ given_before (tls_rules profile) lines given.index + inner → slice_get (gives (tls_rules profile) given.front) inner ≡ Some tree
        → FollowsDue profile lines place (codes "tls/" ++ rest) line
    by zero from among =
        absurd (own_names_none profile lines given.index given.front at line rest unused given.there (ap (line_of profile at) (some_same among) ∙ is) names)
    by (suc j) from among = record {
      index = given.index;
      front = given.front;
      there = given.there;
      behind = omega (arith, from);
      due = due_line profile at j (place_of given.front) (due_at (tls_rules profile) given.front) tree (codes "tls/" ++ rest) line among is names;
    }
