-- In a run, what requests ask for is what is watched.
use Rattle.std.proofs.Common.{◌≡◌, ◌∙◌, ℕ, zero, suc, true, false, List, [], ◌∷◌, ◌++◌, take, filter, sym, ap}
use Rattle.std.specs.List.{flat_map}
use Rattle.std.proofs.lemmas.Bool.{false≢true}
use Rattle.std.proofs.lemmas.List.{append-nil, append_assoc}
use Rattle.ev_types.specs.Kinds.{is_by_name}
use Rattle.ev_types.specs.declared.contents.Kind.{Kind}
use Rattle.ev_types.specs.declared.events.Answer.{Answer}
use Rattle.ev_types.specs.declared.journals.Format.{Format}
use Rattle.ev_types.specs.declared.rows.Live.{Live}
use Rattle.ev_model.specs.Live.{lives_of}
use Rattle.ev_model.specs.Runs.{RunsFrom, world_after, world_at}
use Rattle.ev_model.specs.Step.{step}
use Rattle.ev_model.specs.Watching.{is_watched, names_awaited, dependencies_of, watched_of}
use Rattle.ev_model.specs.World.{World, opening}
use Rattle.ev_model_laws.specs.Kept.{NothingIsDue}
use Rattle.ev_model_laws.proofs.PromotionLemmas.{opens_due, step-due}
use Rattle.ev_sotw.proofs.NameSetLemmas.{same-names, sorted-in_order}
use Rattle.ev_sotw.proofs.SearchLemmas.{or_last, search_more}
use Rattle.ev_sotw.specs.Stated.{Stated, asked, asked_said, is_asked, names_asked}
use Rattle.ev_sotw.proofs.FollowLemmas.{among_asked}
use Rattle.ev_sotw_delta.specs.Watches.{RequestsTellWatches, entries_in}
use Rattle.ev_sotw_delta.proofs.RequestLemmas.{among_watched}
use Rattle.ev_sotw_delta.proofs.StepLemmas.{said, step_says}

module _ (format : Format) (workers : ℕ) (kind : Kind) (by_name : is_by_name kind ≡ true) (name : List ℕ) where
  abbrev Told : List Stated → World → Type 0
  Told before world = world.stream ≡ true → is_asked kind before name ≡ is_watched (lives_of world) kind name

  told_next : (before : List Stated) (stated : Stated) (world : World) → NothingIsDue world → Told before world
      → stated.entry.answer ≡ (step format world stated.entry.actor stated.entry.event).1
      → Told (before ++ stated ∷ []) (step format world stated.entry.actor stated.entry.event).0
  told_next before stated world due told answers = λ streams.
      search_more (asked_said kind name) before stated false
      ∙ ap (λ (answer : Answer). or_last (said kind by_name name stated.entry.event answer) (is_asked kind before name)) answers
      ∙ step_says kind by_name name format world stated.entry.actor stated.entry.event due (is_asked kind before name) told streams

  told_from : (before rest : List Stated) (world : World) → NothingIsDue world → Told before world → RunsFrom format workers world (entries_in rest)
      → (k : ℕ) → Told (before ++ take k rest) (world_after format world (take k (entries_in rest)))
  told_from before [] world due told runs zero = λ streams. ap (λ (all : List Stated). is_asked kind all name) (append-nil before) ∙ told streams
  told_from before [] world due told runs (suc k) = λ streams. ap (λ (all : List Stated). is_asked kind all name) (append-nil before) ∙ told streams
  told_from before (stated ∷ rest) world due told runs zero = λ streams. ap (λ (all : List Stated). is_asked kind all name) (append-nil before) ∙ told streams
  told_from before (stated ∷ rest) world due told runs (suc k) = λ streams.
      ap (λ (all : List Stated). is_asked kind all name) (sym (append_assoc before (stated ∷ []) (take k rest)))
      ∙ told_from (before ++ stated ∷ []) rest (step format world stated.entry.actor stated.entry.event).0
      (step-due format world stated.entry.actor stated.entry.event due) (told_next before stated world due told runs.1) runs.2 k streams

-- at each place of a run where a stream is open
pub tell_watches : RequestsTellWatches
tell_watches format workers node stated kind k run by_name streams =
    same-names (names_asked kind (take k stated)) (watched_of (world_at format workers node (entries_in stated) k) kind)
    (sorted-in_order (filter (is_asked kind (take k stated)) (flat_map (asked kind) (take k stated))))
    (sorted-in_order (flat_map (λ (live : Live). names_awaited kind (dependencies_of live.content)) (lives_of (world_at format workers node (entries_in stated) k))))
    (λ name.
    among_asked kind (take k stated) name
    ∙ told_from format workers kind by_name name [] stated (opening workers node) (opens_due workers node) (λ opened. absurd (false≢true opened)) run.answers k streams
    ∙ sym (among_watched (world_at format workers node (entries_in stated) k) kind name))
