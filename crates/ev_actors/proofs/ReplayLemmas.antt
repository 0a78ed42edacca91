-- A replay begins, goes on by a line, and ends with the last settles.
use Rattle.std.proofs.Common.{◌≡◌, ◌⊎◌, inl, inr, drop, length-append, add-one, ℕ, zero, suc, ◌≤◌, ◌<◌, ◌+◌, List, [], ◌∷◌, ◌++◌, map, length, get_or, take, replicate, refl, sym, ap, ◌∙◌, subst, append_assoc, arith}
use Rattle.std.specs.Prelude.{slice_index_or, slice_set}
use Rattle.std.proofs.Math.Seq.{drop-cons, get_or-append_seam}
use Rattle.std.proofs.lemmas.Bool.{cases_lt}
use Rattle.std.proofs.lemmas.List.Sums.{sum_by_more}
use Rattle.ev_types.specs.Scripts.{items_in, items_of}
use Rattle.ev_model.specs.declared.pictures.Picture.{Picture}
use Rattle.std.proofs.lemmas.List.{get_or_append_left, flat_map_more, get_or-set_other, length-set, take_more}
use Rattle.std.specs.List.{flat_map, range_with_len}
use Rattle.ev_types.specs.Scripts.{ScriptParts, IsScript}
use Rattle.ev_types.specs.declared.events.Actor.TheVariants.{Worker}
use Rattle.ev_types.specs.declared.events.Event.TheVariants.{Settle}
use Rattle.ev_types.specs.declared.events.Line.{Line}
use Rattle.ev_types.specs.declared.journals.Format.TheVariants.{Two}
use Rattle.ev_model.specs.World.{opening}
use Rattle.ev_model.specs.Dead.{last_picture, picture_at}
use Rattle.ev_model.specs.Runs.{IsRun}
use Rattle.ev_model.specs.Operations.{Operation}
use Rattle.ev_model_laws.proofs.AllLaws.{all_laws}
use Rattle.ev_worker.specs.Workers.{WorkerParts}
use Rattle.ev_actors.specs.Journals.{HasReplayed, JournalParts, WorksIn, nothing_done, world_now}
use Rattle.ev_actors.specs.Passes.{one_pass, put_out, put_out_last, waiting_behind, waiting_of}
use Rattle.ev_actors.specs.Taken.{GoesOn, HasBegun, HasSettled, HaveBegun, HaveSettled, IsSettling, IsTaken, IsUnderWay, last_of, operations_in}
use Rattle.ev_actors.specs.Working.{AreAtWork, operations_made}
use Rattle.ev_actors.proofs.PassLemmas.{in_one_pass}
use Rattle.ev_actors.proofs.SettleLemmas.{goes_on_by, goes_on_twice, others_work, settled_operations}

zero_at : (n k : ℕ) → slice_index_or {A = ℕ} (replicate n 0) k 0 ≡ 0
zero_at zero k = refl
zero_at (suc n) zero = refl
zero_at (suc n) (suc k) = zero_at n k

-- a worker that has done nothing works in the opening
fresh_works : (workers place : ℕ) (node : List ℕ) (worker : WorkerParts) → HasBegun place (last_picture (opening workers node)) worker
    → WorksIn worker (opening workers node)
fresh_works workers place node worker begun = record {
  begun = [];
  made = begun.made;
  has = record {
    holds = ap (picture_at (opening workers node)) (zero_at workers worker.number) ∙ sym begun.picture;
    has = λ connection. refl;
  };
}

-- the replay begins
pub begins : (script : ScriptParts) (parts : JournalParts) (workers : List WorkerParts) → parts ≡ nothing_done script
    → HaveBegun script.workers (last_picture (world_now parts)) workers → IsUnderWay script parts workers script.lines
begins script parts workers none begun =
    subst (λ (p : JournalParts). IsUnderWay script p workers script.lines) (sym none)
    (by (subst (λ (p : JournalParts). HaveBegun script.workers (last_picture (world_now p)) workers) none begun))
  where
    by : HaveBegun script.workers (last_picture (opening script.workers script.node)) workers → IsUnderWay script (nothing_done script) workers script.lines
    by begun = record {
      count = begun.count;
      working = λ k d below.
          let one : HasBegun k (last_picture (opening script.workers script.node)) (get_or workers k d) = begun.each k d below in
          record {
            number = one.number;
            works = fresh_works script.workers k script.node (get_or workers k d) one;
            room = subst (λ ls. length ls < 256) (sym one.lines) (omega arith);
          };
      waiting = [];
      waits = λ k d below. ap (map _) (sym (begun.each k d below).lines);
      order = refl;
    }

-- it goes on by a line
pub goes_on : (script : ScriptParts) (before after : JournalParts) (old new : List WorkerParts) (line : Line) (left : List Line)
    → IsUnderWay script before old (line ∷ left) → IsTaken script.auto line before after old new → IsUnderWay script after new left
goes_on script before after old new line left way taken = record {
  count = taken.count ∙ way.count;
  working = taken.working;
  waiting = waiting_behind way.waiting line;
  waits = taken.waits way.waiting way.waits;
  order =
      ap (λ (os : List Operation). os ++ one_pass script (waiting_behind way.waiting line) left) (taken.out way.waiting way.waits)
      ∙ append_assoc (operations_in before) (put_out script.auto way.waiting line) (one_pass script (waiting_behind way.waiting line) left)
      ∙ way.order;
}

-- what a replay keeps after its first lines
pub record IsOnTheWay (script : ScriptParts) (now : JournalParts) (workers : List WorkerParts) (items : List Line) (place : ℕ) : Type 0 where
  pub goes : GoesOn (nothing_done script) now
  pub drawn : (world_now now).made ≤ items_of (take place items)
  pub way : IsUnderWay script now workers (drop place items)

-- and after one line more
pub line_more : (script : ScriptParts) (before after : JournalParts) (old new : List WorkerParts) (items : List Line) (place : ℕ) (line : Line) → place < length items
    → line ≡ get_or items place line → IsOnTheWay script before old items place → IsTaken script.auto line before after old new
    → IsOnTheWay script after new items (place + 1)
line_more script before after old new items place line within is was taken =
    let next : drop place items ≡ line ∷ drop (place + 1) items =
    drop-cons items place line within ∙ ap (λ n. get_or items place line ∷ drop n items) (sym (add-one place)) ∙ ap (λ (l : Line). l ∷ drop (place + 1) items) (sym is) in
    let here : items_in line.event ≡ items_in (get_or items place line).event = ap (λ (l : Line). items_in l.event) is in
    let more : items_of (take (place + 1) items) ≡ items_of (take place items) + items_in (get_or items place line).event =
    sum_by_more (λ (l : Line). items_in l.event) items place line within in
    let drawn : (world_now after).made ≤ (world_now before).made + items_in line.event = taken.drawn in
    let had : (world_now before).made ≤ items_of (take place items) = was.drawn in
    record {
      goes = goes_on_twice (nothing_done script) before after was.goes taken.goes_on;
      drawn = omega arith;
      way = goes_on script before after old new line (drop (place + 1) items) (subst (IsUnderWay script before old) next was.way) taken;
    }

-- one worker that has done nothing more
pub begun_more : (number : ℕ) (shown : Picture) (workers : List WorkerParts) (worker : WorkerParts) → HaveBegun number shown workers
    → HasBegun number shown worker → HaveBegun (number + 1) shown (workers ++ worker ∷ [])
begun_more number shown workers worker begun one = record {
  count = length-append workers (worker ∷ []) ∙ ap (λ n. n + 1) begun.count;
  each = λ k d below. by k d below (cases_lt k number);
}
  where
    by : (k : ℕ) (d : WorkerParts) → k < length (workers ++ worker ∷ []) → (k < number) ⊎ (number ≤ k) → HasBegun k shown (get_or (workers ++ worker ∷ []) k d)
    by k d below (inl less) =
        let count : length workers ≡ number = begun.count in
        subst (HasBegun k shown) (sym (get_or_append_left workers (worker ∷ []) d k (omega arith))) (begun.each k d (omega arith))
    by k d below (inr from) =
        let count : length workers ≡ number = begun.count in
        let longer : length (workers ++ worker ∷ []) ≡ length workers + 1 = length-append workers (worker ∷ []) in
        let same : length workers ≡ k = omega arith in
        subst (λ n. HasBegun n shown (get_or (workers ++ worker ∷ []) n d)) same
        (subst (HasBegun (length workers) shown) (sym (get_or-append_seam workers worker [] d)) (subst (λ n. HasBegun n shown worker) (sym count) one))

-- one worker more has settled
pub settle_more : (at place : ℕ) (before now after : JournalParts) (all workers : List WorkerParts) (d new : WorkerParts) → IsSettling at before now all workers place
    → AreAtWork (world_now before) all → place < length workers → HasSettled at 0 now after (get_or workers place d) new
    → IsSettling at before after all (slice_set workers place new) (place + 1)
settle_more at place before now after all workers d new was working within settled =
    let here : place < length all = subst (λ n. place < n) was.count within in
    let old : get_or workers place d ≡ get_or all place d = was.same place d (omega arith) within in
    let number : (get_or workers place d).number ≡ place = ap (λ (w : WorkerParts). w.number) old ∙ (working place d here).number in
    record {
      goes_on = goes_on_twice before now after was.goes_on (goes_on_by now after _ settled.entered);
      count = length-set workers place new ∙ was.count;
      same = λ k e from below.
          let kept : k < length workers = subst (λ n. k < n) (length-set workers place new) below in
          get_or-set_other workers place k new e (λ same. behind place k from same) ∙ was.same k e (omega arith) kept;
      working = λ k e from below.
          let kept : k < length workers = subst (λ n. k < n) (length-set workers place new) below in
          let in_all : k < length all = subst (λ n. k < n) was.count kept in
          let own : (get_or workers k e).number ≡ k = ap (λ (w : WorkerParts). w.number) (was.same k e (omega arith) kept) ∙ (working k e in_all).number in
          subst (λ (w : WorkerParts). WorksIn w (world_now after)) (sym (get_or-set_other workers place k new e (λ same. behind place k from same)))
          (others_work now after (get_or workers place d) at 0 settled.entered (get_or workers k e)
          (λ same. behind place k from (sym own ∙ same ∙ number))
          (was.working k e (omega arith) kept));
      out =
          settled_operations now after (get_or workers place d) at 0 settled.entered
          ∙ ap (λ (os : List Operation). os ++ last_of at (get_or workers place d)) was.out
          ∙ append_assoc (operations_in before) (flat_map (last_of at) (take place all)) (last_of at (get_or workers place d))
          ∙ ap (λ (w : WorkerParts). operations_in before ++ (flat_map (last_of at) (take place all) ++ last_of at w)) old
          ∙ ap (λ (os : List Operation). operations_in before ++ os)
          (flat_map_more (last_of at) [] (take place all) (get_or all place d) ∙ ap (flat_map (last_of at)) (sym (take_more all place d here)));
    }
  where
    behind : (place k : ℕ) → place + 1 ≤ k → k ≡ place → ⊥
    behind place k from same = omega arith

-- the last settles are those of the pass
lasts : (script : ScriptParts) (waiting : List Operation) (at start : ℕ) (workers : List WorkerParts) → at ≡ script.count + 1
    → ((k : ℕ) (d : WorkerParts) → k < length workers → (get_or workers k d).number ≡ start + k)
    → ((k : ℕ) (d : WorkerParts) → k < length workers → waiting_of (Worker (start + k)) waiting ≡ operations_made (get_or workers k d))
    → flat_map (last_of at) workers ≡ flat_map (put_out_last script waiting) (range_with_len start (length workers))
lasts script waiting at start [] is numbered waits = refl
lasts script waiting at start (worker ∷ workers) is numbered waits =
    let zeroth : start + 0 ≡ start = omega arith in
    let number : worker.number ≡ start = numbered 0 worker (omega arith) ∙ zeroth in
    let waiting_here : operations_made worker ≡ waiting_of (Worker start) waiting =
    sym (waits 0 worker (omega arith)) ∙ ap (λ n. waiting_of (Worker n) waiting) zeroth in
    let last : last_of at worker ≡ put_out_last script waiting start =
    (λ i. waiting_here i ++ record { actor = Worker (number i); at = is i; step = 0; event = Settle } ∷ []) in
    ap (λ (os : List Operation). os ++ flat_map (last_of at) workers) last
    ∙ ap (λ (os : List Operation). put_out_last script waiting start ++ os)
    (lasts script waiting at (start + 1) workers is
    (λ k d below. let next : start + suc k ≡ start + 1 + k = omega arith in numbered (suc k) d (omega arith) ∙ next)
    (λ k d below. let next : start + 1 + k ≡ start + suc k = omega arith in ap (λ n. waiting_of (Worker n) waiting) next ∙ waits (suc k) d (omega arith)))

-- and ends with the last settles
pub ends : (script : ScriptParts) (parts after : JournalParts) (workers : List WorkerParts) (at : ℕ) → IsScript script → at ≡ script.count + 1
    → GoesOn (nothing_done script) parts → IsUnderWay script parts workers [] → HaveSettled at parts after workers
    → IsRun after.format after.workers after.node after.journal → HasReplayed script after
ends script parts after workers at kept is goes way settled run =
    let whole : GoesOn (nothing_done script) after = goes_on_twice (nothing_done script) parts after goes settled.goes_on in
    let format : after.format ≡ Two = ap (λ (p : JournalParts). p.format) whole in
    let count : after.workers ≡ script.workers = ap (λ (p : JournalParts). p.workers) whole in
    let node : after.node ≡ script.node = ap (λ (p : JournalParts). p.node) whole in
    let sound : IsRun Two script.workers script.node after.journal =
    subst (λ (p : JournalParts). IsRun p.format p.workers p.node p.journal) whole run in
    record {
      format = format;
      workers = count;
      node = node;
      journal = record {
        run = sound;
        order =
            settled.out
            ∙ ap (λ (os : List Operation). operations_in parts ++ os)
            (lasts script way.waiting at 0 workers is
            (λ k d below. let nothing : k ≡ 0 + k = omega arith in (way.working k d below).number ∙ nothing)
            (λ k d below. let nothing : 0 + k ≡ k = omega arith in ap (λ n. waiting_of (Worker n) way.waiting) nothing ∙ way.waits k d below)
            ∙ ap (λ n. flat_map (put_out_last script way.waiting) (range_with_len 0 n)) way.count)
            ∙ way.order
            ∙ in_one_pass script kept;
      };
      laws = all_laws (record { format = Two; workers = script.workers; node = script.node; journal = after.journal }) sound.answers;
    }
