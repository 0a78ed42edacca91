-- What is known after some lines.
use Rattle.std.specs.Prelude.{◌≡◌, ◌&&◌, ◌||◌, ℕ, Bool, List, [], ◌∷◌, ◌++◌}
use Rattle.std.specs.BTreeSet.{BTreeSet, contains}
use Rattle.std.specs.Ordering.{nat_cmp}
use Rattle.serde_json.specs.Data.{Data}
use Rattle.ev_types.specs.declared.events.Profile.{Profile}
use Rattle.ev_expand.specs.Fronts.{stream_at}
use Rattle.ev_expand.specs.Guarding.{Guarded, guarded_by}
use Rattle.ev_expand.specs.Numbers.{guarded_so_far}
use Rattle.ev_expand.specs.declared.numbers.Numbers.{Numbers}
use Rattle.ev_dns.specs.declared.answers.Answers.{Answers}
use Rattle.ev_dns.specs.declared.resolutions.Resolutions.{Resolutions}
use Rattle.ev_dns.specs.Answers.{is_answered, addresses_of}
use Rattle.ev_dns.specs.Known.{has_answer, known_addresses}
use Rattle.ev_dns.specs.Marking.{passes_at}
use Rattle.ev_dns.specs.Resolving.{has_guarded, answers_name}
use Rattle.ev_dns.specs.Templates.{by_names}
use Rattle.ev_dns.specs.Waiting.{AreWaiting, AreComplete}

-- these are the answers in the lines
pub record AreAnswers (answers : Answers) (lines : List Data) : Type 0 where
  pub answered : (name : List ℕ) → has_answer answers name ≡ is_answered lines name
  pub addresses : (name : List ℕ) → known_addresses answers name ≡ addresses_of lines name

-- what is known is what the lines say, as they are read in a profile, and by it each of what is guarded in them waits
-- or is complete
pub record IsBehind (profile : Profile) (s : Resolutions) (lines : List Data) : Type 0 where
  pub stream : s.connected ≡ stream_at profile lines
  pub answers : AreAnswers s.answers lines
  pub waiting : AreWaiting s.answers (guarded_by (by_names profile) lines) s.waiting
  pub complete : AreComplete s.answers (guarded_by (by_names profile) lines) s.complete

-- what is at a place after these lines and one more passes the test
abbrev pub passes_now : Profile → List Data → Data → (Guarded → Bool) → ℕ → Bool
passes_now profile before line test place = passes_at test (guarded_by (by_names profile) (before ++ line ∷ [])) place

-- the fact holds where the value is as it is after some lines, and the numbers are those after one line more
abbrev pub FromBehind : Profile → Resolutions → Numbers → Data → (List Data → Type 0) → Type 0
FromBehind profile s numbers line fact = (before : List Data) → IsBehind profile s before
    → guarded_so_far numbers ≡ guarded_by (by_names profile) (before ++ line ∷ []) → fact before

-- the places that a line touches: those of its guarded resources, and the complete ones with a host of the name that it
-- answers
pub record IsTouched (profile : Profile) (before : List Data) (line : Data) (complete touched : BTreeSet ℕ) : Type 0 where
  pub exactly : (place : ℕ) → contains nat_cmp touched place
      ≡ (passes_now profile before line (λ g. has_guarded profile line g.key) place
      || (contains nat_cmp complete place && passes_now profile before line (λ g. answers_name line g.key) place))
