-- The events of a script's lines that say something are those of its runs, in order.
use Rattle.std.proofs.Common.{◌≡◌, ◌∙◌, ℕ, suc, Bool, true, false, cond, ◌&&◌, List, [], ◌∷◌, ◌++◌, map, filter, refl, sym, ap, arith}
use Rattle.std.specs.Prelude.{All}
use Rattle.std.specs.List.{range_with_len, flat_map}
use Rattle.std.proofs.lemmas.Bool.{false≢true}
use Rattle.std.proofs.lemmas.List.{map-append, append-nil}
use Rattle.std.proofs.lemmas.List.Elements.{filter-append}
use Rattle.ev_types.specs.Events.{IsStream, MayMake}
use Rattle.ev_types.specs.Scripts.{IsScript, ScriptParts}
use Rattle.ev_types.specs.declared.events.Actor.{Actor}
use Rattle.ev_types.specs.declared.events.Actor.TheVariants.{Stream, Health as health, Timer, Main, Worker}
use Rattle.ev_types.specs.declared.events.Entry.{Entry}
use Rattle.ev_types.specs.declared.events.Event.{Event}
use Rattle.ev_types.specs.declared.events.Event.TheVariants.{Connect, Disconnect, Response, Health, FetchTimeout, DrainTimeout, TtlExpired, Publish, Reap, Accept, Close, Settle}
use Rattle.ev_types.specs.declared.events.Line.{Line}
use Rattle.ev_types.specs.declared.journals.Format.{Format}
use Rattle.ev_model.specs.World.{World}
use Rattle.ev_model.specs.Runs.{RunsFrom}
use Rattle.ev_model.specs.Step.{step}
use Rattle.ev_model.specs.Operations.{Operation, actor_same, is_automatic, is_full_at, line_operation, step_behind, last_settle, followers, line_operations, operations_of, operation_of, entries_of}
use Rattle.ev_sotw_delta.proofs.EventLemmas.{is_told}

-- ---- who says something

stream_same : (actor : Actor) → IsStream actor → actor_same actor Stream ≡ true
stream_same Stream h = refl
stream_same health h = absurd h
stream_same Timer h = absurd h
stream_same Main h = absurd h
stream_same (Worker worker) h = absurd h

pub teller : (workers : ℕ) (actor : Actor) (event : Event) → MayMake workers actor event → is_told event ≡ true → actor_same actor Stream ≡ true
teller workers actor Connect may h = stream_same actor may
teller workers actor Disconnect may h = stream_same actor may
teller workers actor (Response response) may h = stream_same actor may
teller workers actor (Health cluster host healthy) may h = absurd (false≢true h)
teller workers actor (FetchTimeout timeout) may h = absurd (false≢true h)
teller workers actor (DrainTimeout listener) may h = absurd (false≢true h)
teller workers actor (TtlExpired kind name) may h = absurd (false≢true h)
teller workers actor Publish may h = absurd (false≢true h)
teller workers actor Reap may h = absurd (false≢true h)
teller workers actor (Accept ask) may h = absurd (false≢true h)
teller workers actor (Close connection) may h = absurd (false≢true h)
teller workers actor Settle may h = absurd (false≢true h)

-- of an operation that isn't the stream's the event says nothing
kept_or_untold : (mine : Bool) (event : Event) → (is_told event ≡ true → mine ≡ true) → filter is_told (cond mine (event ∷ []) []) ≡ filter is_told (event ∷ [])
kept_or_untold true event so = refl
kept_or_untold false event so = by (is_told event) so
  where
    by : (b : Bool) → (b ≡ true → false ≡ true) → [] ≡ cond b (event ∷ []) []
    by true so = absurd (false≢true (so refl))
    by false so = refl

-- ---- operations

abbrev is_mine : Operation → Bool
is_mine o = actor_same o.actor Stream

-- the events that the stream's operations say
abbrev pub told_by : List Operation → List Event
told_by os = filter is_told (map (λ (o : Operation). o.event) (filter is_mine os))

told_append : (xs ys : List Operation) → told_by (xs ++ ys) ≡ told_by xs ++ told_by ys
told_append xs ys =
    ap (λ os. filter is_told (map (λ (o : Operation). o.event) os)) (filter-append is_mine xs ys)
    ∙ ap (filter is_told) (map-append (λ (o : Operation). o.event) (filter is_mine xs) (filter is_mine ys))
    ∙ filter-append is_told (map (λ (o : Operation). o.event) (filter is_mine xs)) (map (λ (o : Operation). o.event) (filter is_mine ys))

map_cond : (b : Bool) (o : Operation) → map (λ (p : Operation). p.event) (cond b (o ∷ []) []) ≡ cond b (o.event ∷ []) []
map_cond true o = refl
map_cond false o = refl

told_one : (workers : ℕ) (o : Operation) → MayMake workers o.actor o.event → told_by (o ∷ []) ≡ filter is_told (o.event ∷ [])
told_one workers o may = ap (filter is_told) (map_cond (is_mine o) o) ∙ kept_or_untold (is_mine o) o.event (teller workers o.actor o.event may)

-- an operation whose event says nothing
told_none : (o : Operation) → is_told o.event ≡ false → told_by (o ∷ []) ≡ []
told_none o none = by (is_mine o) (is_told o.event) none
  where
    by : (mine b : Bool) → b ≡ false → filter is_told (map (λ (p : Operation). p.event) (cond mine (o ∷ []) [])) ≡ []
    by true b h = ap (λ t. cond t (o.event ∷ []) []) none
    by false b h = refl

none_behind : (o : Operation) (os : List Operation) → is_told o.event ≡ false → told_by os ≡ [] → told_by (o ∷ os) ≡ []
none_behind o os none rest = told_append (o ∷ []) os ∙ (λ i. told_none o none i ++ rest i)

none_of_followers : (script : ScriptParts) (line : Line) → told_by (followers script line) ≡ []
none_of_followers script line = by (script.auto && is_automatic line.actor) (is_full_at script.lines line)
  where
    by : (automatic full : Bool) → told_by (cond automatic (step_behind line 1 Publish ∷ step_behind line 2 Reap ∷ []) (cond full (step_behind line 1 Settle ∷ []) [])) ≡ []
    by true full = none_behind (step_behind line 1 Publish) (step_behind line 2 Reap ∷ []) refl (told_none (step_behind line 2 Reap) refl)
    by false true = told_none (step_behind line 1 Settle) refl
    by false false = refl

none_of_settles : (script : ScriptParts) (ns : List ℕ) → told_by (map (last_settle script) ns) ≡ []
none_of_settles script [] = refl
none_of_settles script (n ∷ ns) = none_behind (last_settle script n) (map (last_settle script) ns) refl (none_of_settles script ns)

abbrev pub line_events : List Line → List Event
line_events lines = map (λ (line : Line). line.event) lines

told_lines : (script : ScriptParts) (lines : List Line) → All (λ (line : Line). MayMake script.workers line.actor line.event) lines
    → told_by (flat_map (line_operations script) lines) ≡ filter is_told (line_events lines)
told_lines script [] all = refl
told_lines script (line ∷ lines) all =
    told_append (line_operations script line) (flat_map (line_operations script) lines)
    ∙ (λ i. (told_append (line_operation line ∷ []) (followers script line)
    ∙ (λ j. told_one script.workers (line_operation line) (all 0 line (omega arith)) j ++ none_of_followers script line j)
    ∙ append-nil (filter is_told (line.event ∷ []))) i
    ++ told_lines script lines (λ k other h. all (suc k) other (omega arith)) i)
    ∙ sym (filter-append is_told (line.event ∷ []) (line_events lines))

-- what the stream's operations of a script say is what its lines say
pub told_script : (script : ScriptParts) → IsScript script → filter is_told (map (λ (o : Operation). o.event) (operations_of script Stream)) ≡ filter is_told (line_events script.lines)
told_script script is =
    told_append (flat_map (line_operations script) script.lines) (map (last_settle script) (range_with_len 0 script.workers))
    ∙ (λ i. told_lines script script.lines is.allowed i ++ none_of_settles script (range_with_len 0 script.workers) i)
    ∙ append-nil (filter is_told (line_events script.lines))

-- ---- entries

abbrev pub entry_events : List Entry → List Event
entry_events journal = map (λ (entry : Entry). entry.event) journal

-- what the stream's entries of a run say is what all say
pub told_entries : (format : Format) (workers : ℕ) (world : World) (journal : List Entry) → RunsFrom format workers world journal
    → filter is_told (map (λ (o : Operation). o.event) (entries_of journal Stream)) ≡ filter is_told (entry_events journal)
told_entries format workers world [] runs = refl
told_entries format workers world (entry ∷ entries) runs =
    told_append (operation_of entry ∷ []) (map operation_of entries)
    ∙ (λ i. told_one workers (operation_of entry) runs.0 i ++ told_entries format workers (step format world entry.actor entry.event).0 entries runs.2 i)
    ∙ sym (filter-append is_told (entry.event ∷ []) (entry_events entries))
