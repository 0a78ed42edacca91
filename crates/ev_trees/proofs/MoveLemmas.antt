-- A line's form says nothing of its place.
use Rattle.std.proofs.Common.{◌≡◌, ℕ, List, [], ◌∷◌, Bool, true, false, cond, Option, None, Some, option_map, option_and_then, codes, refl}
use Rattle.std.specs.Str.{bytes_eq}
use Rattle.serde_json.specs.Data.{Data}
use Rattle.serde_json.specs.Find.{as_str}
use Rattle.ev_types.specs.declared.events.Actor.{Actor}
use Rattle.ev_types.specs.declared.events.Actor.TheVariants.{Stream, Main}
use Rattle.ev_types.specs.declared.events.Event.{Event}
use Rattle.ev_types.specs.declared.events.Event.TheVariants.{Connect, Disconnect, Publish, Reap, Settle}
use Rattle.ev_types.specs.declared.events.Line.{Line}
use Rattle.ev_types.specs.declared.events.Profile.{Profile}
use Rattle.ev_script.specs.Members.{has_only, member_of}
use Rattle.ev_script.specs.LineForms.{line_at}
use Rattle.ev_script.specs.StreamLines.{connect_line, disconnect_line, response_line}
use Rattle.ev_script.specs.HealthLines.{health_line}
use Rattle.ev_script.specs.TimerLines.{timeout_line, drain_line, expired_line}
use Rattle.ev_script.specs.MainLines.{publish_line, reap_line}
use Rattle.ev_script.specs.WorkerLines.{worker_in, worker_line, accept_members, accept_in, accept_line, close_line, settle_line}
use Rattle.ev_script.specs.Lines.{main_side_line, line_by}
use Rattle.ev_trees.specs.Scripts.{moved, LinesMove}

-- a form gives the same line at another place
abbrev pub Moves : ℕ → Option Line → Option Line → Type 0
Moves other there here = there ≡ option_map (moved other) here

pub moves_cond : (other : ℕ) (test : Bool) (a b c d : Option Line) → Moves other a b → Moves other c d → Moves other (cond test a c) (cond test b d)
moves_cond other true a b c d first second = first
moves_cond other false a b c d first second = second

pub moves_chain : {A : Type 0} (other : ℕ) (there here : A → Option Line) (found : Option A) → ((x : A) → Moves other (there x) (here x))
    → Moves other (option_and_then there found) (option_and_then here found)
moves_chain other there here None each = refl
moves_chain other there here (Some x) each = each x

pub at_moves : (at other : ℕ) (actor : Actor) (event : Option Event) → Moves other (line_at other actor event) (line_at at actor event)
at_moves at other actor None = refl
at_moves at other actor (Some event) = refl

pub worker_moves : (at other : ℕ) (event : Option Event) (tree : Data) → Moves other (worker_line other event tree) (worker_line at event tree)
worker_moves at other event tree = moves_chain other _ _ (worker_in tree) (λ worker. at_moves at other _ event)

connect_line-moves : (at other : ℕ) (tree : Data) → Moves other (connect_line other tree) (connect_line at tree)
connect_line-moves at other tree = moves_cond other (has_only (codes "op" ∷ []) tree) _ _ None None (at_moves at other Stream (Some Connect)) refl

disconnect_line-moves : (at other : ℕ) (tree : Data) → Moves other (disconnect_line other tree) (disconnect_line at tree)
disconnect_line-moves at other tree = moves_cond other (has_only (codes "op" ∷ []) tree) _ _ None None (at_moves at other Stream (Some Disconnect)) refl

response_line-moves : (profile : Profile) (at other : ℕ) (tree : Data) → Moves other (response_line profile other tree) (response_line profile at tree)
response_line-moves profile at other tree = moves_cond other (has_only (codes "op" ∷ codes "message" ∷ []) tree) _ _ None None (at_moves at other _ _) refl

health_line-moves : (at other : ℕ) (tree : Data) → Moves other (health_line other tree) (health_line at tree)
health_line-moves at other tree = moves_cond other (has_only (codes "op" ∷ codes "cluster" ∷ codes "address" ∷ codes "port" ∷ codes "healthy" ∷ []) tree) _ _ None None (at_moves at other _ _) refl

drain_line-moves : (at other : ℕ) (tree : Data) → Moves other (drain_line other tree) (drain_line at tree)
drain_line-moves at other tree = moves_cond other (has_only (codes "op" ∷ codes "listener" ∷ []) tree) _ _ None None (at_moves at other _ _) refl

expired_line-moves : (profile : Profile) (at other : ℕ) (tree : Data) → Moves other (expired_line profile other tree) (expired_line profile at tree)
expired_line-moves profile at other tree = moves_cond other (has_only (codes "op" ∷ codes "type" ∷ codes "name" ∷ []) tree) _ _ None None (at_moves at other _ _) refl

publish_line-moves : (at other : ℕ) (tree : Data) → Moves other (publish_line other tree) (publish_line at tree)
publish_line-moves at other tree = moves_cond other (has_only (codes "op" ∷ []) tree) _ _ None None (at_moves at other Main (Some Publish)) refl

reap_line-moves : (at other : ℕ) (tree : Data) → Moves other (reap_line other tree) (reap_line at tree)
reap_line-moves at other tree = moves_cond other (has_only (codes "op" ∷ []) tree) _ _ None None (at_moves at other Main (Some Reap)) refl

timeout_line-moves : (profile : Profile) (at other : ℕ) (tree : Data) → Moves other (timeout_line profile other tree) (timeout_line profile at tree)
timeout_line-moves profile at other tree = at_moves at other _ _

accept_line-moves : (profile : Profile) (at other : ℕ) (tree : Data) → Moves other (accept_line profile other tree) (accept_line profile at tree)
accept_line-moves profile at other tree =
    moves_cond other (has_only (codes "op" ∷ accept_members profile) tree) _ _ None None (worker_moves at other (accept_in tree) tree) refl

close_line-moves : (at other : ℕ) (tree : Data) → Moves other (close_line other tree) (close_line at tree)
close_line-moves at other tree = moves_cond other (has_only (codes "op" ∷ codes "worker" ∷ codes "conn" ∷ []) tree) _ _ None None (worker_moves at other _ tree) refl

settle_line-moves : (at other : ℕ) (tree : Data) → Moves other (settle_line other tree) (settle_line at tree)
settle_line-moves at other tree = moves_cond other (has_only (codes "op" ∷ codes "worker" ∷ []) tree) _ _ None None (worker_moves at other (Some Settle) tree) refl

main_side-moves : (profile : Profile) (op : List ℕ) (at other : ℕ) (tree : Data) → Moves other (main_side_line profile op other tree) (main_side_line profile op at tree)
main_side-moves profile op at other tree =
    moves_cond other (bytes_eq op (codes "connect")) _ _ _ _ (connect_line-moves at other tree)
    (moves_cond other (bytes_eq op (codes "disconnect")) _ _ _ _ (disconnect_line-moves at other tree)
    (moves_cond other (bytes_eq op (codes "response")) _ _ _ _ (response_line-moves profile at other tree)
    (moves_cond other (bytes_eq op (codes "health")) _ _ _ _ (health_line-moves at other tree)
    (moves_cond other (bytes_eq op (codes "fetchTimeout")) _ _ _ _ (timeout_line-moves profile at other tree)
    (moves_cond other (bytes_eq op (codes "drainTimeout")) _ _ _ _ (drain_line-moves at other tree)
    (moves_cond other (bytes_eq op (codes "ttlExpired")) _ _ _ _ (expired_line-moves profile at other tree)
    (moves_cond other (bytes_eq op (codes "publish")) _ _ _ _ (publish_line-moves at other tree)
    (moves_cond other (bytes_eq op (codes "reap")) _ _ _ _ (reap_line-moves at other tree) refl))))))))

by-moves : (profile : Profile) (op : List ℕ) (at other : ℕ) (tree : Data) → Moves other (line_by profile op other tree) (line_by profile op at tree)
by-moves profile op at other tree =
    moves_cond other (bytes_eq op (codes "accept")) _ _ _ _ (accept_line-moves profile at other tree)
    (moves_cond other (bytes_eq op (codes "close")) _ _ _ _ (close_line-moves at other tree)
    (moves_cond other (bytes_eq op (codes "settle")) _ _ _ _ (settle_line-moves at other tree) (main_side-moves profile op at other tree)))

pub line-moves : LinesMove
line-moves profile at other tree =
    moves_chain other (λ (op : List ℕ). line_by profile op other tree) (λ (op : List ℕ). line_by profile op at tree) (member_of as_str (codes "op") tree)
    (λ op. by-moves profile op at other tree)
