-- The lines of the text: each is what a line of the input itself becomes, or the line that follows it.
use Rattle.std.proofs.Common.{◌≡◌, ◌∙◌, ◌⊎◌, inl, inr, ℕ, zero, suc, ◌+◌, Bool, true, false, cond, List, [], ◌∷◌, length, decimal, Some, codes, refl, sym, ap, arith, length-append}
use Rattle.std.specs.Prelude.{slice_get}
use Rattle.serde_json.specs.Data.{Data}
use Rattle.ev_types.specs.Items.{ResponseParts}
use Rattle.ev_types.specs.declared.events.Event.{Event}
use Rattle.ev_types.specs.declared.events.Event.TheVariants.{Response}
use Rattle.ev_types.specs.declared.events.Line.{Line}
use Rattle.ev_types.specs.declared.events.Profile.{Profile}
use Rattle.ev_script.specs.Lines.{line_of}
use Rattle.ev_expand.specs.Expanding.{due_at, gives, guarded_at, lines_due, place_of, written_line}
use Rattle.ev_expand.specs.Following.{DueParts, following_line}
use Rattle.ev_expand.specs.Fronts.{Front, event_of}
use Rattle.ev_expand.specs.Guarding.{waiting_line}
use Rattle.ev_expand.specs.Waiting.{WaitsAsSaid, following_response, has_guarded, stream_line, waiting_response}
use Rattle.ev_expand.proofs.ReadLemmas.{following_reads, waiting_reads, waiting_stays}
use Rattle.ev_expand.proofs.ListLemmas.{IsBehind, some_same, split_get}
use Rattle.ev_expand.proofs.SaidPlaceLemmas.{line_event}
use Rattle.ev_dns.specs.Resolving.{dns_rules, is_written}
use Rattle.ev_dns.specs.Templates.{by_names}

-- what a line itself becomes
abbrev pub own_line : Profile → Front → Data
own_line profile front = waiting_line (codes "dns/") (by_names profile) (guarded_at (dns_rules profile) front) front.line

-- the tree is that
pub record IsOwn (profile : Profile) (front : Front) (inner : ℕ) (tree : Data) : Type 0 where
  pub written : is_written front.line ≡ true
  pub first : inner ≡ 0
  pub is : tree ≡ own_line profile front

-- the tree is the line that follows, the last that the line gives
pub record IsFollower (profile : Profile) (front : Front) (inner : ℕ) (tree : Data) : Type 0 where
  pub is : tree ≡ following_line (codes "dns/") (codes "dns-") (decimal (place_of front)) (due_at (dns_rules profile) front)
  pub last : inner + 1 ≡ length (gives (dns_rules profile) front)

own_is : (profile : Profile) (front : Front) (inner : ℕ) (tree : Data) (b : Bool) → is_written front.line ≡ b → slice_get (cond b (own_line profile front ∷ []) []) inner ≡ Some tree → IsOwn profile front inner tree
own_is profile front zero tree true written there = record { written = written; first = refl; is = sym (some_same there) }
own_is profile front (suc inner) tree true written there = absurd (cc)
own_is profile front inner tree false written there = absurd (cc)

follower_is : (profile : Profile) (front : Front) (inner place : ℕ) (tree : Data) (due : List DueParts) → due_at (dns_rules profile) front ≡ due
    → inner ≡ length (written_line (dns_rules profile) (guarded_at (dns_rules profile) front) front.line) + place
    → slice_get (lines_due (codes "dns/") (codes "dns-") (place_of front) due) place ≡ Some tree → IsFollower profile front inner tree
follower_is profile front inner place tree [] is at there = absurd (cc)
follower_is profile front inner (suc place) tree (first ∷ others) is at there = absurd (cc)
follower_is profile front inner zero tree (first ∷ others) is at there =
    let own : List Data = written_line (dns_rules profile) (guarded_at (dns_rules profile) front) front.line in
    let joined : length (gives (dns_rules profile) front) ≡ length own + 1 =
    length-append own (lines_due (codes "dns/") (codes "dns-") (place_of front) (due_at (dns_rules profile) front))
    ∙ ap (λ due. length own + length (lines_due (codes "dns/") (codes "dns-") (place_of front) due)) is in
    record {
      is = sym (some_same there) ∙ sym (ap (following_line (codes "dns/") (codes "dns-") (decimal (place_of front))) is);
      last = omega (arith, at, joined);
    }

-- each tree that a line gives is one of the two
pub given_is : (profile : Profile) (front : Front) (inner : ℕ) (tree : Data) → slice_get (gives (dns_rules profile) front) inner ≡ Some tree → IsOwn profile front inner tree ⊎ IsFollower profile front inner tree
given_is profile front inner tree there = by (split_get own rest inner tree there)
  where
    own : List Data
    own = written_line (dns_rules profile) (guarded_at (dns_rules profile) front) front.line

    rest : List Data
    rest = lines_due (codes "dns/") (codes "dns-") (place_of front) (due_at (dns_rules profile) front)

    by : (slice_get own inner ≡ Some tree) ⊎ IsBehind own rest inner tree → IsOwn profile front inner tree ⊎ IsFollower profile front inner tree
    by (inl here) = inl (own_is profile front inner tree (is_written front.line) refl here)
    by (inr back) = inr (follower_is profile front inner back.place tree (due_at (dns_rules profile) front) refl back.at back.there)

-- ---- what they say

-- the response of the line that follows
abbrev pub due_response : Profile → Front → ResponseParts
due_response profile front = following_response profile (codes "dns/") (codes "dns-") (decimal (place_of front)) (due_at (dns_rules profile) front)

pub follower_says : (profile : Profile) (front : Front) (inner at : ℕ) (tree : Data) (line : Line) → IsFollower profile front inner tree → line_of profile at tree ≡ Some line
    → line ≡ stream_line at (due_response profile front)
follower_says profile front inner at tree line follows is =
    some_same (sym is ∙ ap (line_of profile at) follows.is ∙ following_reads profile (codes "dns/") (codes "dns-") (decimal (place_of front)) (due_at (dns_rules profile) front) at (omega arith))

-- the event is the response of a line with guarded resources, as they wait
pub record IsWaiting (profile : Profile) (front : Front) (event : Event) : Type 0 where
  pub guarded : has_guarded (by_names profile) front.line ≡ true
  pub said : WaitsAsSaid (codes "dns/") (by_names profile) (guarded_at (dns_rules profile) front) front.line
  pub is : event ≡ Response (waiting_response (codes "dns/") (by_names profile) (guarded_at (dns_rules profile) front) front.line said.response)

-- a line becomes its own event, or that response
pub own_says : (profile : Profile) (front : Front) (at : ℕ) (line : Line) → line_of profile at (own_line profile front) ≡ Some line → (event_of profile front.line ≡ Some line.event) ⊎ IsWaiting profile front line.event
own_says profile front at line is = by (has_guarded (by_names profile) front.line) refl
  where
    by : (b : Bool) → has_guarded (by_names profile) front.line ≡ b → (event_of profile front.line ≡ Some line.event) ⊎ IsWaiting profile front line.event
    by true some =
        let reads : WaitsAsSaid (codes "dns/") (by_names profile) (guarded_at (dns_rules profile) front) front.line =
        waiting_reads (codes "dns/") (by_names profile) (guarded_at (dns_rules profile) front) front.line some in
        inr (record { guarded = some; said = reads; is = ap (λ (l : Line). l.event) (some_same (sym is ∙ reads.reads at)) })
    by false none =
        inl (line_event profile at front.line line (ap (line_of profile at) (sym (waiting_stays (codes "dns/") (by_names profile) (guarded_at (dns_rules profile) front) front.line none)) ∙ is))
