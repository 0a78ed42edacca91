-- An entry that names the endpoints of a place is by the line that follows one at which the place is due.
use Rattle.std.proofs.Common.{◌≡◌, ◌∙◌, ◌⊎◌, inl, inr, ℕ, ◌+◌, true, List, ◌++◌, decimal, Some, None, codes, sym, ap, subst}
use Rattle.std.specs.Prelude.{slice_get}
use Rattle.std.specs.Str.{bytes_eq}
use Rattle.std.specs.Cmp.{first_so, second_so}
use Rattle.std.proofs.lemmas.Bool.{and_from, false≢true}
use Rattle.serde_json.specs.Data.{Data}
use Rattle.ev_types.specs.Items.{ResponseParts}
use Rattle.ev_types.specs.Kinds.{kind_same}
use Rattle.ev_types.specs.Same.{bytes_decide}
use Rattle.ev_types.specs.declared.contents.Kind.TheVariants.{Cds, Eds}
use Rattle.ev_types.specs.declared.events.Entry.{Entry}
use Rattle.ev_types.specs.declared.events.Event.{Event}
use Rattle.ev_types.specs.declared.events.Event.TheVariants.{Response, TtlExpired}
use Rattle.ev_types.specs.declared.events.Line.{Line}
use Rattle.ev_types.specs.declared.events.Profile.{Profile}
use Rattle.ev_script.specs.Lines.{line_of}
use Rattle.ev_model_laws.specs.Told.{ends_name}
use Rattle.ev_expand.specs.Expanding.{due_at, guarded_at, place_of}
use Rattle.ev_expand.specs.Fronts.{Front, event_of, fronts}
use Rattle.ev_expand.specs.Private.{event_uses, first_use, is_private}
use Rattle.ev_expand.specs.Waiting.{stream_line, waiting_response}
use Rattle.ev_expand.proofs.DueLemmas.{IsDueName, due_named}
use Rattle.ev_expand.proofs.FrontLawLemmas.{front_at}
use Rattle.ev_expand.proofs.NamedLemmas.{NamesEndpoints}
use Rattle.ev_expand.proofs.UsedLemmas.{event_unused, named_used, private_begins}
use Rattle.ev_dns.specs.Resolving.{dns_rules}
use Rattle.ev_dns.specs.Templates.{by_names}
use Rattle.ev_dns.specs.LastAnswers.{name_of_place}
use Rattle.ev_dns.proofs.EntryLemmas.{IsBy}
use Rattle.ev_dns.proofs.TextLemmas.{IsFollower, IsOwn, IsWaiting, due_response, follower_says, given_is, own_line, own_says}

-- ---- lines

-- the event says something of endpoints: it names them, or their life ends
abbrev pub SpeaksOf : List ℕ → Event → Type 0
SpeaksOf name event = NamesEndpoints name event ⊎ (ends_name Eds name event ≡ true)

differ : {P : Type 0} → Some Cds ≡ Some Eds → P
differ e = absurd (cc)

waiting_silent : (name : List ℕ) (r : ResponseParts) → r.kind ≡ Some Cds → SpeaksOf name (Response r) → ⊥
waiting_silent name r clusters (inl names) = differ (sym clusters ∙ names.0)
waiting_silent name r clusters (inr ends) = false≢true ends

-- the end of a life uses the name
ended_used : (prefix rest : List ℕ) (event : Event) → ends_name Eds (prefix ++ rest) event ≡ true → event_uses prefix event ≡ true
ended_used prefix rest (TtlExpired kind name) ends =
    let same : name ≡ prefix ++ rest = (bytes_decide name (prefix ++ rest)).0 (second_so (kind_same kind Eds) (bytes_eq name (prefix ++ rest)) ends) in
    and_from (kind_same kind Eds) (is_private prefix name) (first_so (kind_same kind Eds) (bytes_eq name (prefix ++ rest)) ends)
    (ap (is_private prefix) same ∙ private_begins prefix rest)
ended_used prefix rest event ends = absurd (false≢true ends)

speaks_used : (prefix rest : List ℕ) (event : Event) → SpeaksOf (prefix ++ rest) event → event_uses prefix event ≡ true
speaks_used prefix rest event (inl names) = named_used prefix rest event names
speaks_used prefix rest event (inr ends) = ended_used prefix rest event ends

-- what a line itself becomes says nothing of private names, where no line of the input uses one
own_silent : (profile : Profile) (lines : List Data) (index : ℕ) (front : Front) (at : ℕ) (line : Line) (rest : List ℕ) → first_use profile (codes "dns/") lines ≡ None
    → slice_get (fronts lines) index ≡ Some front → line_of profile at (own_line profile front) ≡ Some line → SpeaksOf (codes "dns/" ++ rest) line.event → ⊥
own_silent profile lines index front at line rest unused there is speaks = by (own_says profile front at line is)
  where
    by : (event_of profile front.line ≡ Some line.event) ⊎ IsWaiting profile front line.event → ⊥
    by (inl same) =
        event_unused profile (codes "dns/") lines index front.line line.event unused (front_at lines index front there).here same
        (speaks_used (codes "dns/") rest line.event speaks)
    by (inr waiting) =
        waiting_silent (codes "dns/" ++ rest) (waiting_response (codes "dns/") (by_names profile) (guarded_at (dns_rules profile) front) front.line waiting.said.response)
        waiting.said.kind (subst (SpeaksOf (codes "dns/" ++ rest)) waiting.is speaks)

-- the entry is by a line that follows one at which the name is due
pub record SpeaksDue (profile : Profile) (lines : List Data) (entry : Entry) (by : IsBy profile lines entry) (name : List ℕ) : Type 0 where
  pub follows : IsFollower profile by.front by.inner by.tree
  pub names : IsDueName (codes "dns/") (due_at (dns_rules profile) by.front) name

due_speaks : (profile : Profile) (name : List ℕ) (front : Front) → SpeaksOf name (Response (due_response profile front)) → IsDueName (codes "dns/") (due_at (dns_rules profile) front) name
due_speaks profile name front (inl names) = due_named profile (codes "dns/") (codes "dns-") (decimal (place_of front)) name (due_at (dns_rules profile) front) names.1
due_speaks profile name front (inr ends) = absurd (false≢true ends)

-- this holds where an entry says something of the endpoints of a place
pub speaks_due : (profile : Profile) (lines : List Data) (entry : Entry) (by : IsBy profile lines entry) (place : ℕ) → first_use profile (codes "dns/") lines ≡ None
    → SpeaksOf (name_of_place place) entry.event → SpeaksDue profile lines entry by (name_of_place place)
speaks_due profile lines entry by place unused speaks = at (given_is profile by.front by.inner by.tree by.among)
  where
    at : IsOwn profile by.front by.inner by.tree ⊎ IsFollower profile by.front by.inner by.tree → SpeaksDue profile lines entry by (name_of_place place)
    at (inl own) =
        absurd (own_silent profile lines by.index by.front entry.at by.line (decimal (place + 1)) unused by.there (sym (ap (line_of profile entry.at) own.is) ∙ by.is)
        (subst (SpeaksOf (name_of_place place)) (sym by.says) speaks))
    at (inr follows) =
        let said : by.line ≡ stream_line entry.at (due_response profile by.front) = follower_says profile by.front by.inner entry.at by.tree by.line follows by.is in
        let event : entry.event ≡ Response (due_response profile by.front) = sym by.says ∙ ap (λ (l : Line). l.event) said in
        record { follows = follows; names = due_speaks profile (name_of_place place) by.front (subst (SpeaksOf (name_of_place place)) event speaks) }
