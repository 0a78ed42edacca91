-- What a journal counts up to. This project's own.
use Rattle.std.specs.Prelude.{ℕ, Bool, true, false, not, List, filter, length}
use Rattle.std.specs.List.{list_any, flat_map}
use Rattle.ev_types.specs.declared.events.Answer.{Answer}
use Rattle.ev_types.specs.declared.events.Answer.TheVariants.{Ignored, Done, Moved, Replied, Version, Unchanged, Reaped, InUse, NoListener, NoChain, On, NotOpen, Settled}
use Rattle.ev_types.specs.declared.events.Entry.{Entry}
use Rattle.ev_types.specs.declared.hosts.Host.{Host}
use Rattle.ev_types.specs.declared.ways.Way.{Way}
use Rattle.ev_types.specs.declared.ways.Way.TheVariants.{Undecided, Elsewhere, NoRoute, Redirect, NoCluster, NoEndpoint, NoSecret, Local, Served}
use Rattle.ev_types.specs.declared.events.Verdict.{Verdict}
use Rattle.ev_types.specs.declared.events.Verdict.TheVariants.{New, Same, InPlace, Back, Kept, Unasked, Renewed, Refused}
use Rattle.ev_model.specs.Entries.{numbers_reaped}
use Rattle.ev_tally.specs.declared.counts.Tally.{Tally}
use Rattle.ev_tally.specs.declared.counting.Counted.{Counted}
use Rattle.ev_tally.specs.declared.counting.Counted.TheVariants.{Acks, Nacks, Opened, Served as serves}

-- a resource is refused
abbrev pub is_refusal : Verdict → Bool
is_refusal New = false
is_refusal Same = false
is_refusal InPlace = false
is_refusal Back = false
is_refusal Kept = false
is_refusal Unasked = false
is_refusal Renewed = false
is_refusal (Refused rule) = true

-- a response is answered, and none of its resources is refused
abbrev pub is_ack : Answer → Bool
is_ack (Replied requests verdicts) = not (list_any is_refusal verdicts)
is_ack answer = false

-- a response is answered, and one of its resources is refused
abbrev pub is_nack : Answer → Bool
is_nack (Replied requests verdicts) = list_any is_refusal verdicts
is_nack answer = false

-- an accept opens a connection: a filter chain of a listener takes it, whatever becomes of it there
abbrev pub is_opened : Answer → Bool
is_opened Ignored = false
is_opened Done = false
is_opened (Moved requests) = false
is_opened (Replied requests verdicts) = false
is_opened (Version version) = false
is_opened Unchanged = false
is_opened (Reaped numbers) = false
is_opened InUse = false
is_opened NoListener = false
is_opened NoChain = false
is_opened (On listener chain way) = true
is_opened NotOpen = false
is_opened (Settled closed moved version) = false

-- a host is found
abbrev pub has_host : Way Host → Bool
has_host Undecided = false
has_host (Elsewhere cluster) = false
has_host NoRoute = false
has_host Redirect = false
has_host NoCluster = false
has_host NoEndpoint = false
has_host (NoSecret cluster) = false
has_host (Local status) = false
has_host (Served cluster host) = true

-- an accept is answered with a host
abbrev pub is_served : Answer → Bool
is_served (On listener chain way) = has_host way
is_served answer = false

-- it is one of those that are counted
abbrev pub is_counted : Counted → Answer → Bool
is_counted Acks answer = is_ack answer
is_counted Nacks answer = is_nack answer
is_counted Opened answer = is_opened answer
is_counted serves answer = is_served answer

-- how many entries of a journal have such an answer
abbrev pub count_answers : (Answer → Bool) → List Entry → ℕ
count_answers test journal = length (filter (λ (entry : Entry). test entry.answer) journal)

-- the numbers that the reapings of a journal name, in order
abbrev pub all_reaped : List Entry → List ℕ
all_reaped journal = flat_map (λ (entry : Entry). numbers_reaped entry.answer) journal

-- what a journal counts up to
abbrev pub tally_of : List Entry → Tally
tally_of journal = record {
  acks = count_answers is_ack journal;
  nacks = count_answers is_nack journal;
  opened = count_answers is_opened journal;
  served = count_answers is_served journal;
  reaped = length (all_reaped journal);
}
