-- The words of a row, read back.
use Rattle.std.specs.Prelude.{ℕ, ◌==◌, List, [], ◌∷◌, if◌then◌else◌, nat_lt, codes, Option, None, Some, option_map, option_and_then}
use Rattle.std.specs.Str.{bytes_eq}
use Rattle.ev_types.specs.declared.events.Actor.{Actor}
use Rattle.ev_types.specs.declared.events.Actor.TheVariants as actor
use Rattle.ev_types.specs.declared.events.Op.{Op}
use Rattle.ev_types.specs.declared.events.Op.TheVariants.{Connect, Disconnect, Response, Health, FetchTimeout, DrainTimeout, TtlExpired, Publish, Reap, Accept, Close, Settle}
use Rattle.ev_types.specs.declared.events.Verdict.{Verdict}
use Rattle.ev_types.specs.declared.events.Verdict.TheVariants.{New, Same, InPlace, Back, Kept, Unasked, Renewed, Refused}
use Rattle.ev_types.specs.declared.events.Answer.{Answer}
use Rattle.ev_types.specs.declared.events.Answer.TheVariants.{Ignored, Done, Unchanged, InUse, NoListener, NoChain, NotOpen}
use Rattle.ev_types.specs.declared.hosts.Host.{Host}
use Rattle.ev_types.specs.declared.origins.ChainPlace.{ChainPlace}
use Rattle.ev_types.specs.declared.origins.ChainPlace.TheVariants.{Default}
use Rattle.ev_types.specs.declared.ways.Way.{Way}
use Rattle.ev_types.specs.declared.ways.Way.TheVariants.{Undecided, NoRoute, Redirect, NoCluster, NoEndpoint}
use Rattle.ev_tree.specs.Scalars.{u32_text}

-- the number after a letter
abbrev pub number_behind : ℕ → List ℕ → Option ℕ
number_behind letter [] = None
number_behind letter (first ∷ digits) = if first == letter then u32_text digits else None

-- an actor by its word
abbrev pub actor_named : List ℕ → Option Actor
actor_named word =
    if bytes_eq word (codes "stream") then Some actor.Stream
    else if bytes_eq word (codes "health") then Some actor.Health
    else if bytes_eq word (codes "timer") then Some actor.Timer
    else if bytes_eq word (codes "main") then Some actor.Main
    else option_map actor.Worker (number_behind 119 word)

-- an operation by its word
abbrev pub op_named : List ℕ → Option Op
op_named word =
    if bytes_eq word (codes "connect") then Some Connect
    else if bytes_eq word (codes "disconnect") then Some Disconnect
    else if bytes_eq word (codes "response") then Some Response
    else if bytes_eq word (codes "health") then Some Health
    else if bytes_eq word (codes "fetchTimeout") then Some FetchTimeout
    else if bytes_eq word (codes "drainTimeout") then Some DrainTimeout
    else if bytes_eq word (codes "ttlExpired") then Some TtlExpired
    else if bytes_eq word (codes "publish") then Some Publish
    else if bytes_eq word (codes "reap") then Some Reap
    else if bytes_eq word (codes "accept") then Some Accept
    else if bytes_eq word (codes "close") then Some Close
    else if bytes_eq word (codes "settle") then Some Settle
    else None

-- a rule's number, of 8 bits
abbrev pub rule_of : ℕ → Option Verdict
rule_of number = if nat_lt number 256 then Some (Refused number) else None

-- a verdict by its word
abbrev pub verdict_named : List ℕ → Option Verdict
verdict_named word =
    if bytes_eq word (codes "new") then Some New
    else if bytes_eq word (codes "same") then Some Same
    else if bytes_eq word (codes "inPlace") then Some InPlace
    else if bytes_eq word (codes "back") then Some Back
    else if bytes_eq word (codes "kept") then Some Kept
    else if bytes_eq word (codes "unasked") then Some Unasked
    else if bytes_eq word (codes "renewed") then Some Renewed
    else option_and_then rule_of (number_behind 86 word)

-- an answer that is a word
abbrev pub answer_named : List ℕ → Option Answer
answer_named word =
    if bytes_eq word (codes "ignored") then Some Ignored
    else if bytes_eq word (codes "done") then Some Done
    else if bytes_eq word (codes "unchanged") then Some Unchanged
    else if bytes_eq word (codes "inUse") then Some InUse
    else if bytes_eq word (codes "noListener") then Some NoListener
    else if bytes_eq word (codes "noChain") then Some NoChain
    else if bytes_eq word (codes "notOpen") then Some NotOpen
    else None

-- a chain's place that is a word: that of the default chain
abbrev pub place_named : List ℕ → Option ChainPlace
place_named word = if bytes_eq word (codes "default") then Some Default else None

-- what becomes of a connection where a word says all of it
abbrev pub way_named : List ℕ → Option (Way Host)
way_named word =
    if bytes_eq word (codes "undecided") then Some Undecided
    else if bytes_eq word (codes "noRoute") then Some NoRoute
    else if bytes_eq word (codes "redirect") then Some Redirect
    else if bytes_eq word (codes "noCluster") then Some NoCluster
    else if bytes_eq word (codes "noEndpoint") then Some NoEndpoint
    else None
