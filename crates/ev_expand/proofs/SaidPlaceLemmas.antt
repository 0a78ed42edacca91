-- The lines that trees are, by their places.
use Rattle.std.proofs.Common.{◌≡◌, ◌∙◌, ◌⊎◌, inl, inr, ℕ, zero, suc, ◌+◌, List, [], ◌∷◌, ◌++◌, Option, Some, None, IfSome, option_map, refl, sym, ap, subst, arith}
use Rattle.std.specs.Prelude.{slice_get, option_to_list}
use Rattle.serde_json.specs.Data.{Data}
use Rattle.ev_types.specs.Events.{IsMainSide, IsStream, IsTimer}
use Rattle.ev_types.specs.declared.events.Actor.{Actor}
use Rattle.ev_types.specs.declared.events.Actor.TheVariants.{Stream, Health as health, Timer, Main, Worker}
use Rattle.ev_types.specs.declared.events.Event.{Event}
use Rattle.ev_types.specs.declared.events.Line.{Line}
use Rattle.ev_types.specs.declared.events.Profile.{Profile}
use Rattle.ev_script.specs.Lines.{line_of}
use Rattle.ev_script.proofs.KeptLemmas.{IsLineAt, line_kept}
use Rattle.ev_trees.specs.Scripts.{moved}
use Rattle.ev_trees.proofs.MoveLemmas.{line-moves}
use Rattle.ev_expand.specs.Fronts.{event_of}
use Rattle.ev_expand.specs.Said.{lines_said}
use Rattle.ev_model_laws.proofs.OperationLists.{IsIn, in_back, in_parts}

-- the line is that of a tree, at its place
pub record IsSaid (profile : Profile) (at : ℕ) (trees : List Data) (line : Line) : Type 0 where
  pub index : ℕ
  pub tree : Data
  pub there : slice_get trees index ≡ Some tree
  pub is : line_of profile (at + index) tree ≡ Some line

pub said_is : (profile : Profile) (at : ℕ) (trees : List Data) (line : Line) → IsIn line (lines_said profile at trees) → IsSaid profile at trees line
said_is profile at [] line is = absurd is
said_is profile at (tree ∷ trees) line is =
    by (line_of profile at tree) refl (in_parts line (option_to_list (line_of profile at tree)) (lines_said profile (at + 1) trees) is) (λ rest. said_is profile (at + 1) trees line rest)
  where
    by : (found : Option Line) → line_of profile at tree ≡ found → IsIn line (option_to_list found) ⊎ IsIn line (lines_said profile (at + 1) trees)
        → (IsIn line (lines_said profile (at + 1) trees) → IsSaid profile (at + 1) trees line) → IsSaid profile at (tree ∷ trees) line
    by None reads (inl none) more = absurd none
    by (Some first) reads (inl (inr none)) more = absurd none
    by (Some first) reads (inl (inl e)) more =
        let place : at + 0 ≡ at = omega arith in
        record { index = 0; tree = tree; there = refl; is = ap (λ n. line_of profile n tree) place ∙ reads ∙ ap Some e }
    by found reads (inr rest) more =
        let said : IsSaid profile (at + 1) trees line = more rest in
        let place : at + suc said.index ≡ at + 1 + said.index = omega arith in
        record { index = suc said.index; tree = said.tree; there = said.there; is = ap (λ n. line_of profile n said.tree) place ∙ said.is }

pub said_in : (profile : Profile) (at : ℕ) (trees : List Data) (index : ℕ) (tree : Data) (line : Line) → slice_get trees index ≡ Some tree → line_of profile (at + index) tree ≡ Some line
    → IsIn line (lines_said profile at trees)
said_in profile at [] index tree line there is = absurd (cc)
said_in profile at (first ∷ trees) zero tree line there is =
    let same : first ≡ tree = cc in
    let place : at ≡ at + 0 = omega arith in
    let here : line_of profile at first ≡ Some line = ap (line_of profile at) same ∙ ap (λ n. line_of profile n tree) place ∙ is in
    subst (λ found. IsIn line (option_to_list found ++ lines_said profile (at + 1) trees)) (sym here) (inl refl)
said_in profile at (first ∷ trees) (suc index) tree line there is =
    let place : at + 1 + index ≡ at + suc index = omega arith in
    in_back line (option_to_list (line_of profile at first)) (lines_said profile (at + 1) trees)
    (said_in profile (at + 1) trees index tree line there (ap (λ n. line_of profile n tree) place ∙ is))

-- a line has the number of its place
pub line_place : (profile : Profile) (at : ℕ) (tree : Data) (line : Line) → line_of profile at tree ≡ Some line → line.at ≡ at
line_place profile at tree line is = (subst (λ o. IfSome o (IsLineAt at)) is (line_kept profile at tree)).place

-- and the event that its tree has at any place
pub line_event : (profile : Profile) (at : ℕ) (tree : Data) (line : Line) → line_of profile at tree ≡ Some line → event_of profile tree ≡ Some line.event
line_event profile at tree line is = ap (option_map (λ (l : Line). l.event)) (line-moves profile at 0 tree ∙ ap (option_map (moved 0)) is)

-- a tree with an event is a line at each place
pub record IsLineOf (profile : Profile) (at : ℕ) (tree : Data) (event : Event) : Type 0 where
  pub line : Line
  pub is : line_of profile at tree ≡ Some line
  pub event_is : line.event ≡ event

pub event_line : (profile : Profile) (at : ℕ) (tree : Data) (event : Event) → event_of profile tree ≡ Some event → IsLineOf profile at tree event
event_line profile at tree event is = by (line_of profile 0 tree) refl is
  where
    by : (found : Option Line) → line_of profile 0 tree ≡ found → option_map (λ (l : Line). l.event) found ≡ Some event → IsLineOf profile at tree event
    by None reads h = absurd (cc)
    by (Some line) reads h = record { line = moved at line; is = line-moves profile 0 at tree ∙ ap (option_map (moved at)) reads; event_is = cc }

pub stream_is : (actor : Actor) → IsStream actor → actor ≡ Stream
stream_is Stream h = refl
stream_is health h = absurd h
stream_is Timer h = absurd h
stream_is Main h = absurd h
stream_is (Worker worker) h = absurd h

pub timer_main : (actor : Actor) → IsTimer actor → IsMainSide actor
timer_main Stream is = absurd is
timer_main health is = absurd is
timer_main Timer is = tt
timer_main Main is = absurd is
timer_main (Worker worker) is = absurd is
