-- What holds of each of a list by its place, where the first leaves it or another joins it.
use Rattle.std.proofs.Common.{◌≡◌, ℕ, zero, suc, ◌+◌, ◌<◌, ◌≤◌, ◌&&◌, Bool, true, false, List, [], ◌∷◌, ◌++◌, length, get_or, drop, refl, ap, sym, ◌∙◌, subst, length-append, arith}
use Rattle.std.specs.Prelude.{Err, Ok, OnOk, Result, is_err}
use Rattle.ev_types.specs.Scripts.{ScriptParts}
use Rattle.ev_model.specs.Dead.{last_picture}
use Rattle.ev_worker.specs.Workers.{WorkerParts}
use Rattle.ev_actors.specs.Journals.{JournalParts, nothing_done, world_now}
use Rattle.ev_actors.specs.Taken.{HasBegun}
use Rattle.ev_run.proofs.BeginLemmas.{next_of}
use Rattle.ev_run.specs.Playing.{EachAt, IsTask}
use Rattle.ev_run.specs.declared.player.Task.TheVariants.{Worker}

-- this holds for each of these, by its place after the first ones
abbrev pub EachFrom : {X : Type 0} → ℕ → List X → (ℕ → X → Type 0) → Type 0
EachFrom {X} first xs P = (k : ℕ) (d : X) → k < length xs → P (first + k) (get_or xs k d)

pub each_more : {X : Type 0} (P : ℕ → X → Type 0) (xs : List X) (x : X) → EachAt P xs → P (length xs) x → EachAt P (xs ++ x ∷ [])
each_more P [] x each last zero d below = last
each_more P [] x each last (suc k) d below = absurd (none k below)
  where
    none : (n : ℕ) → suc n < 1 → ⊥
    none n h = omega arith
each_more P (y ∷ ys) x each last zero d below = each zero d (omega arith)
each_more P (y ∷ ys) x each last (suc k) d below =
    each_more (λ n. P (suc n)) ys x (λ j e less. each (suc j) e (omega arith)) last k d (omega arith)

module _ {A T X : Type 0} where
  -- the first of the tasks and passes are with their players, and the others are still here
  pub record AreLeaving (total : ℕ) (players : List A) (tasks : List T) (passes : List X) (R : ℕ → A → Type 0) (P : ℕ → T → Type 0) (Q : ℕ → X → Type 0) : Type 0 where
    pub count : length players + length passes ≡ total
    pub even : length tasks ≡ length passes
    pub ready : EachAt R players
    pub tasks_left : EachFrom (length players) tasks P
    pub passes_left : EachFrom (length players) passes Q

  one_leaves : (total : ℕ) (players : List A) (tasks : List T) (passes : List X) (R : ℕ → A → Type 0) (P : ℕ → T → Type 0) (Q : ℕ → X → Type 0) (a : A) (t : T) (x : X)
      → AreLeaving total players (t ∷ tasks) (x ∷ passes) R P Q → (P (length players) t → Q (length players) x → R (length players) a)
      → AreLeaving total (players ++ a ∷ []) tasks passes R P Q
  one_leaves total players tasks passes R P Q a t x was make =
      let longer : length (players ++ a ∷ []) ≡ length players + 1 = length-append players (a ∷ []) in
      let count : length players + suc (length passes) ≡ total = was.count in
      let even : suc (length tasks) ≡ suc (length passes) = was.even in
      let here : length players + 0 ≡ length players = omega arith in
      record {
        count = omega arith;
        even = omega arith;
        ready =
            each_more R players a was.ready
            (make (subst (λ n. P n t) here (was.tasks_left 0 t (omega arith))) (subst (λ n. Q n x) here (was.passes_left 0 x (omega arith))));
        tasks_left = λ k d below.
            let next : length players + suc k ≡ length (players ++ a ∷ []) + k = omega arith in
            subst (λ n. P n (get_or tasks k d)) next (was.tasks_left (suc k) d (omega arith));
        passes_left = λ k d below.
            let next : length players + suc k ≡ length (players ++ a ∷ []) + k = omega arith in
            subst (λ n. Q n (get_or passes k d)) next (was.passes_left (suc k) d (omega arith));
      }

  pub leaves : (total : ℕ) (players all : List A) (tasks tasks_after : List T) (passes passes_after : List X) (R : ℕ → A → Type 0) (P : ℕ → T → Type 0) (Q : ℕ → X → Type 0)
      (a : A) (t : T) (x : X) → AreLeaving total players tasks passes R P Q → 0 < length passes → t ≡ get_or tasks 0 t → tasks_after ≡ drop 1 tasks
      → x ≡ get_or passes 0 x → passes_after ≡ drop 1 passes → all ≡ players ++ a ∷ []
      → (P (length players) t → Q (length players) x → R (length players) a) → AreLeaving total all tasks_after passes_after R P Q
  leaves total players all tasks tasks_after [] passes_after R P Q a t x was some ist tasks_are isx passes_are all_are make = absurd (none some)
    where
      none : 0 < 0 → ⊥
      none h = omega arith
  leaves total players all [] tasks_after (y ∷ ys) passes_after R P Q a t x was some ist tasks_are isx passes_are all_are make = absurd (none (length ys) was.even)
    where
      none : (n : ℕ) → 0 ≡ suc n → ⊥
      none n h = omega arith
  leaves total players all (s ∷ ss) tasks_after (y ∷ ys) passes_after R P Q a t x was some ist tasks_are isx passes_are all_are make =
      subst (λ (ps : List A). AreLeaving total ps tasks_after passes_after R P Q) (sym all_are)
      (subst (λ (ts : List T). AreLeaving total (players ++ a ∷ []) ts passes_after R P Q) (sym tasks_are)
      (subst (λ (xs : List X). AreLeaving total (players ++ a ∷ []) ss xs R P Q) (sym passes_are)
      (one_leaves total players ss ys R P Q a t x
      (subst (λ (z : T). AreLeaving total players (z ∷ ss) (x ∷ ys) R P Q) (sym ist)
      (subst (λ (z : X). AreLeaving total players (s ∷ ss) (z ∷ ys) R P Q) (sym isx) was)) make)))

module _ {A X : Type 0} where
  -- the first of the passes are back, and the players have the others
  pub record AreReturning (total : ℕ) (players : List A) (passes : List X) (R : ℕ → A → Type 0) (Q : ℕ → X → Type 0) : Type 0 where
    pub count : length players + length passes ≡ total
    pub players_left : EachFrom (length passes) players R
    pub back : EachAt Q passes

  one_returns : (total : ℕ) (players : List A) (passes : List X) (R : ℕ → A → Type 0) (Q Q_after : ℕ → X → Type 0) (a : A) (x : X)
      → AreReturning total (a ∷ players) passes R Q → ((k : ℕ) (y : X) → Q k y → Q_after k y) → (R (length passes) a → Q_after (length passes) x)
      → AreReturning total players (passes ++ x ∷ []) R Q_after
  one_returns total players passes R Q Q_after a x was weaker give =
      let longer : length (passes ++ x ∷ []) ≡ length passes + 1 = length-append passes (x ∷ []) in
      let count : suc (length players) + length passes ≡ total = was.count in
      let here : length passes + 0 ≡ length passes = omega arith in
      record {
        count = omega arith;
        players_left = λ k d below.
            let next : length passes + suc k ≡ length (passes ++ x ∷ []) + k = omega arith in
            subst (λ n. R n (get_or players k d)) next (was.players_left (suc k) d (omega arith));
        back =
            each_more Q_after passes x (λ k d below. weaker k (get_or passes k d) (was.back k d below))
            (give (subst (λ n. R n a) here (was.players_left 0 a (omega arith))));
      }

  pub gives_back : (total : ℕ) (players players_after : List A) (passes all : List X) (R : ℕ → A → Type 0) (Q Q_after : ℕ → X → Type 0) (a : A) (x : X)
      → AreReturning total players passes R Q → 0 < length players → a ≡ get_or players 0 a → players_after ≡ drop 1 players → all ≡ passes ++ x ∷ []
      → ((k : ℕ) (y : X) → Q k y → Q_after k y) → (R (length passes) a → Q_after (length passes) x) → AreReturning total players_after all R Q_after
  gives_back total [] players_after passes all R Q Q_after a x was some isa players_are all_are weaker give = absurd (none some)
    where
      none : 0 < 0 → ⊥
      none h = omega arith
  gives_back total (b ∷ bs) players_after passes all R Q Q_after a x was some isa players_are all_are weaker give =
      subst (λ (ys : List X). AreReturning total players_after ys R Q_after) (sym all_are)
      (subst (λ (ps : List A). AreReturning total ps (passes ++ x ∷ []) R Q_after) (sym players_are)
      (one_returns total bs passes R Q Q_after a x
      (subst (λ (z : A). AreReturning total (z ∷ bs) passes R Q) (sym isa) was) weaker give))

-- a worker that has done nothing yet is a task after those of the main side
pub worker_ready : (script : ScriptParts) (parts : JournalParts) (number : ℕ) (worker : WorkerParts) → parts ≡ nothing_done script → number < script.workers
    → HasBegun number (last_picture (world_now parts)) worker → IsTask script (4 + number) (Worker worker)
worker_ready script parts number worker none within begun =
    let is : worker.number ≡ number = begun.number in
    let seat : worker.number + 4 ≡ 4 + number = omega arith in (
      subst (λ n. n < script.workers) (sym is) within,
      seat,
      record {
        number = refl;
        picture = begun.picture ∙ ap (λ (p : JournalParts). last_picture (world_now p)) none;
        lines = begun.lines;
        made = begun.made;
      },
    )

-- what holds where all went well
pub ok_then : {A E : Type 0} (result : Result A E) (P : Type 0) → is_err result ≡ false → OnOk result P → P
ok_then (Ok a) P fine holds = holds
ok_then (Err e) P fine holds = absurd (never fine)
  where
    never : true ≡ false → ⊥
    never h = cc

-- within a list what is at a place needs no other
pub get_any : {X : Type 0} (xs : List X) (k : ℕ) (d e : X) → k < length xs → get_or xs k d ≡ get_or xs k e
get_any [] k d e below = absurd (none k below)
  where
    none : (n : ℕ) → n < 0 → ⊥
    none n h = omega arith
get_any (x ∷ xs) zero d e below = refl
get_any (x ∷ xs) (suc k) d e below = get_any xs k d e (omega arith)

-- and the list from there begins with it
pub begins_with : {X : Type 0} (xs : List X) (k : ℕ) (d : X) → k < length xs → drop k xs ≡ get_or xs k d ∷ drop (k + 1) xs
begins_with xs k d below = next_of xs k (get_or xs k d) below (get_any xs k d (get_or xs k d) below)

-- room that suffices for all suffices on the way
pub room_kept : (a b c d total room left : ℕ) → a + b ≡ total → c + d ≡ total → a + b ≤ room → left ≡ room → c + d ≤ left
room_kept a b c d total room left before after enough same = omega arith

pub both_true : (one other : Bool) → (one && other) ≡ true → (one ≡ true) × (other ≡ true)
both_true true other is = (refl, is)
both_true false other is = absurd (never is)
  where
    never : false ≡ true → ⊥
    never h = cc
