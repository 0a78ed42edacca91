-- Holders and the world that they represent.
use Rattle.std.proofs.Common.{◌≡◌, ℕ, Bool, true, false, not, ◌&&◌, ◌||◌, ◌==◌, cond, Result, Ok, Err, OnOk, Some, List, [], ◌∷◌, ◌++◌, filter, map, length, refl, sym, ap, ◌∙◌, subst, arith}
use Rattle.std.specs.List.{list_any, find, AllByRecursion}
use Rattle.std.specs.Option.{is_some, option_map}
use Rattle.std.proofs.lemmas.Bool.{true≢false, false≢true}
use Rattle.std.proofs.lemmas.Bool.Decides.{nat_tests}
use Rattle.ev_types.specs.Statuses.{is_live}
use Rattle.ev_types.specs.declared.contents.Kind.TheVariants.{Lds}
use Rattle.ev_types.specs.declared.events.Answer.{Answer}
use Rattle.ev_types.specs.declared.events.Answer.TheVariants.{Unchanged, Version}
use Rattle.ev_types.specs.declared.rows.RowStatus.{RowStatus}
use Rattle.ev_types.specs.declared.rows.RowStatus.TheVariants.{Warming, Active, Draining, Dropped}
use Rattle.ev_types.specs.declared.rows.GenRow.{GenRow}
use Rattle.ev_model.specs.World.{World, last_version}
use Rattle.ev_model.specs.Sorted.{put_by}
use Rattle.ev_model.specs.Rows.{is_row_of}
use Rattle.ev_model.specs.Picture.{has_number, shown_of, shown_same}
use Rattle.ev_model.specs.Dead.{shown_at}
use Rattle.ev_model.specs.Publishing.{publish}
use Rattle.ev_model.specs.Signals.{drain_timeout, expire, is_draining, is_unexpired, unexpired}
use Rattle.ev_model.specs.Tidy.{tidy}
use Rattle.ev_retirement.specs.Pictures.{HasPictures, PicturesParts}
use Rattle.ev_ledger.proofs.OrderLemmas.{any_sorted, any_put}
use Rattle.ev_drain.specs.Retired.{Retired, row_before, has_row, is_numbered, is_retired, kind_of_row, marked, retired_in, retired_status, HasRetired}
use Rattle.ev_retirement.specs.Holders.{HoldersParts, HoldsFor, timed_out, timeout_answer, with_expired, with_retired, without_generation}

-- a publication leaves all but the pictures
pub publish_stands : (holders : HoldersParts) (pictures : PicturesParts) (world : World) → HoldsFor holders world → HasPictures pictures (publish world).0
    → HoldsFor (record holders { pictures = pictures }) (publish world).0
publish_stands holders pictures world stands has = by (shown_same (shown_of world) (shown_at world (last_version world))) has
  where
    by : (t : Bool) → HasPictures pictures (cond {A = World × Answer} t (world, Unchanged) (record world { pictures = world.pictures ++ shown_of world ∷ [] }, Version (length world.pictures))).0
        → HoldsFor (record holders { pictures = pictures }) (cond {A = World × Answer} t (world, Unchanged) (record world { pictures = world.pictures ++ shown_of world ∷ [] }, Version (length world.pictures))).0
    by true has = record { pictures = has; opened = stands.opened; retired = stands.retired; marked = stands.marked }
    by false has = record { pictures = has; opened = stands.opened; retired = stands.retired; marked = stands.marked }

-- a drain timeout, by whether some row of the name is unexpired
module _ (p : GenRow → Bool) (world : World) where
  expire_answer : (rows : List GenRow) → (expire (map (λ (r : GenRow). r.number) (filter p rows)) world).1 ≡ timeout_answer (list_any p rows)
  expire_answer [] = refl
  expire_answer (row ∷ rows) = by (p row) (expire_answer rows)
    where
      by : (t : Bool) → (expire (map (λ (r : GenRow). r.number) (filter p rows)) world).1 ≡ timeout_answer (list_any p rows)
          → (expire (map (λ (r : GenRow). r.number) (cond t (row ∷ filter p rows) (filter p rows))) world).1 ≡ timeout_answer (t || list_any p rows)
      by true rest = refl
      by false rest = rest

  expire_leaves : (rows : List GenRow) → (expire (map (λ (r : GenRow). r.number) (filter p rows)) world).0
      ≡ cond (list_any p rows) (tidy (record world { expired = world.expired ++ map (λ (r : GenRow). r.number) (filter p rows) })) world
  expire_leaves [] = refl
  expire_leaves (row ∷ rows) = by (p row) (expire_leaves rows)
    where
      by : (t : Bool) → (expire (map (λ (r : GenRow). r.number) (filter p rows)) world).0
          ≡ cond (list_any p rows) (tidy (record world { expired = world.expired ++ map (λ (r : GenRow). r.number) (filter p rows) })) world
          → (expire (map (λ (r : GenRow). r.number) (cond t (row ∷ filter p rows) (filter p rows))) world).0
          ≡ cond (t || list_any p rows) (tidy (record world { expired = world.expired ++ map (λ (r : GenRow). r.number) (cond t (row ∷ filter p rows) (filter p rows)) })) world
      by true rest = refl
      by false rest = rest

pub timeout_answers : (name : List ℕ) (world : World) → (drain_timeout name world).1 ≡ timeout_answer (list_any (is_unexpired world.expired name) world.rows)
timeout_answers name world = expire_answer (is_unexpired world.expired name) world world.rows

pub timeout_leaves : (name : List ℕ) (world : World) → (drain_timeout name world).0 ≡ timed_out (list_any (is_unexpired world.expired name) world.rows) name world
timeout_leaves name world = expire_leaves (is_unexpired world.expired name) world world.rows

-- a mark leaves a row's number
marked_has : (name : List ℕ) (drain : List Retired) (number : ℕ) → has_row drain number ≡ has_row (map (marked name) drain) number
marked_has name [] number = refl
marked_has name (row ∷ drain) number = ap (λ b. is_numbered number row || b) (marked_has name drain number)

number_own : (a : ℕ) → (a == a) ≡ true
number_own a = grind (arith, nat_tests)

or_true : (b : Bool) → (b || true) ≡ true
or_true true = refl
or_true false = refl

unexpired_retired : (named mark : Bool) (status : RowStatus) → ((named && is_draining status) && not mark) ≡ true → not (is_live status) ≡ true
unexpired_retired true true Warming h = absurd (false≢true h)
unexpired_retired true false Warming h = absurd (false≢true h)
unexpired_retired true true Active h = absurd (false≢true h)
unexpired_retired true false Active h = absurd (false≢true h)
unexpired_retired true mark Draining h = refl
unexpired_retired true mark Dropped h = refl
unexpired_retired false mark status h = absurd (cc)

-- the numbers of unexpired rows are those of retired ones
module _ (expired name : List ℕ) (Q : ℕ → Type 0) where
  all_unexpired : (rows : List GenRow) → ((n : ℕ) → has_row (map (retired_in expired) (filter is_retired rows)) n ≡ true → Q n)
      → AllByRecursion Q (unexpired expired name rows)
  all_unexpired [] so = tt
  all_unexpired (row ∷ rows) so = by (is_unexpired expired name row) refl (all_unexpired rows (λ n has. so n (later n has)))
    where
      later : (n : ℕ) → has_row (map (retired_in expired) (filter is_retired rows)) n ≡ true → has_row (map (retired_in expired) (filter is_retired (row ∷ rows))) n ≡ true
      later n has = more (is_retired row)
        where
          more : (t : Bool) → has_row (map (retired_in expired) (cond t (row ∷ filter is_retired rows) (filter is_retired rows))) n ≡ true
          more true = ap (λ b. (row.number == n) || b) has ∙ or_true (row.number == n)
          more false = has

      by : (t : Bool) → is_unexpired expired name row ≡ t → AllByRecursion Q (map (λ (r : GenRow). r.number) (filter (is_unexpired expired name) rows))
          → AllByRecursion Q (map (λ (r : GenRow). r.number) (cond t (row ∷ filter (is_unexpired expired name) rows) (filter (is_unexpired expired name) rows)))
      by true is rest = (
        so row.number
            (ap (λ t. has_row (map (retired_in expired) (cond t (row ∷ filter is_retired rows) (filter is_retired rows))) row.number)
            (unexpired_retired (is_row_of Lds name row) (has_number row.number expired) row.status is)
            ∙ ap (λ b. b || has_row (map (retired_in expired) (filter is_retired rows)) row.number) (number_own row.number)),
        rest,
      )
      by false is rest = rest

all_both : (Q : ℕ → Type 0) (xs ys : List ℕ) → AllByRecursion Q xs → AllByRecursion Q ys → AllByRecursion Q (xs ++ ys)
all_both Q [] ys first second = second
all_both Q (x ∷ xs) ys first second = (first.0, all_both Q xs ys first.1 second)

all_so : (P Q : ℕ → Type 0) → ((n : ℕ) → P n → Q n) → (xs : List ℕ) → AllByRecursion P xs → AllByRecursion Q xs
all_so P Q so [] all = tt
all_so P Q so (x ∷ xs) all = (so x all.0, all_so P Q so xs all.1)

pub timeout_stands : (name : List ℕ) (holders : HoldersParts) (drain : List Retired) (world : World) → HoldsFor holders world → drain ≡ map (marked name) holders.drain
    → HasRetired drain world.rows (world.expired ++ unexpired world.expired name world.rows)
    → HoldsFor (record holders { drain = drain }) (with_expired name world)
timeout_stands name holders drain world stands is retired =
    let Q : ℕ → Type 0 = λ n. has_row drain n ≡ true in
    let has : (n : ℕ) → has_row holders.drain n ≡ has_row drain n = λ n. marked_has name holders.drain n ∙ ap (λ d. has_row d n) (sym is) in
    record {
      pictures = record { published = stands.pictures.published; last = stands.pictures.last; held = stands.pictures.held; known = stands.pictures.known };
      opened = stands.opened;
      retired = retired;
      marked = all_both Q world.expired (unexpired world.expired name world.rows)
          (all_so (λ n. has_row holders.drain n ≡ true) Q (λ n h. sym (has n) ∙ h) world.expired stands.marked)
          (all_unexpired world.expired name Q world.rows
          (λ n h. sym (has n) ∙ ap (λ d. has_row d n) stands.retired ∙ any_sorted row_before (is_numbered n) (map (retired_in world.expired) (filter is_retired world.rows)) ∙ h));
    }

-- a number of no row of the drain isn't marked
other_number : (m n : ℕ) → (m == n) ≡ true → m ≡ n
other_number m n h = grind (arith, nat_tests)

pub unmarked : (drain : List Retired) (number : ℕ) (expired : List ℕ) → has_row drain number ≡ false → AllByRecursion (λ n. has_row drain n ≡ true) expired
    → has_number number expired ≡ false
unmarked drain number [] absent all = refl
unmarked drain number (n ∷ expired) absent all = by (n == number) refl (unmarked drain number expired absent all.1)
  where
    by : (t : Bool) → (n == number) ≡ t → has_number number expired ≡ false → (t || has_number number expired) ≡ false
    by true at rest = absurd (true≢false (sym all.0 ∙ ap (has_row drain) (other_number n number at) ∙ absent))
    by false at rest = rest

pub retire_stands : (dropped : Bool) (one : Retired) (holders : HoldersParts) (drain : List Retired) (world : World) (before after : List GenRow) (row : GenRow)
    → HoldsFor holders world → drain ≡ put_by row_before one holders.drain
    → HasRetired drain (before ++ record row { status = retired_status dropped } ∷ after) world.expired
    → HoldsFor (record holders { drain = drain }) (with_retired dropped before row after world)
retire_stands dropped one holders drain world before after row stands is retired = record {
  pictures = record { published = stands.pictures.published; last = stands.pictures.last; held = stands.pictures.held; known = stands.pictures.known };
  opened = stands.opened;
  retired = retired;
  marked = all_so (λ n. has_row holders.drain n ≡ true) (λ n. has_row drain n ≡ true)
      (λ n h. ap (λ d. has_row d n) is ∙ any_put row_before (is_numbered n) one holders.drain ∙ ap (λ b. is_numbered n one || b) h ∙ or_true (is_numbered n one))
      world.expired stands.marked;
}

-- a row of another number stays
apart_numbers : (k m n : ℕ) → (k == n) ≡ true → (m == n) ≡ false → (k == m) ≡ false
apart_numbers k m n at apart = grind (arith, nat_tests)

has_left : (n m : ℕ) (drain : List Retired) → (m == n) ≡ false → has_row (filter (λ row. not (is_numbered n row)) drain) m ≡ has_row drain m
has_left n m [] apart = refl
has_left n m (row ∷ drain) apart = by (is_numbered n row) refl (has_left n m drain apart)
  where
    by : (t : Bool) → is_numbered n row ≡ t → has_row (filter (λ r. not (is_numbered n r)) drain) m ≡ has_row drain m
        → has_row (cond (not t) (row ∷ filter (λ r. not (is_numbered n r)) drain) (filter (λ r. not (is_numbered n r)) drain)) m ≡ (is_numbered m row || has_row drain m)
    by true at rest = rest ∙ ap (λ b. b || has_row drain m) (sym (apart_numbers row.number m n at apart))
    by false at rest = ap (λ b. is_numbered m row || b) rest

left_marked : (n : ℕ) (drain : List Retired) (expired : List ℕ) → AllByRecursion (λ m. has_row drain m ≡ true) expired
    → AllByRecursion (λ m. has_row (filter (λ row. not (is_numbered n row)) drain) m ≡ true) (filter (λ m. not (m == n)) expired)
left_marked n drain [] all = tt
left_marked n drain (m ∷ expired) all = by (m == n) refl (left_marked n drain expired all.1)
  where
    by : (t : Bool) → (m == n) ≡ t → AllByRecursion (λ k. has_row (filter (λ row. not (is_numbered n row)) drain) k ≡ true) (filter (λ k. not (k == n)) expired)
        → AllByRecursion (λ k. has_row (filter (λ row. not (is_numbered n row)) drain) k ≡ true) (cond (not t) (m ∷ filter (λ k. not (k == n)) expired) (filter (λ k. not (k == n)) expired))
    by true at rest = rest
    by false at rest = (has_left n m drain at ∙ all.0, rest)

pub remove_stands : (number : ℕ) (holders : HoldersParts) (drain : List Retired) (world : World) → HoldsFor holders world
    → drain ≡ filter (λ row. not (is_numbered number row)) holders.drain
    → HasRetired drain (filter (λ (row : GenRow). not (row.number == number)) world.rows) (filter (λ n. not (n == number)) world.expired)
    → HoldsFor (record holders { drain = drain }) (without_generation number world)
remove_stands number holders drain world stands is retired = record {
  pictures = record { published = stands.pictures.published; last = stands.pictures.last; held = stands.pictures.held; known = stands.pictures.known };
  opened = stands.opened;
  retired = retired;
  marked = subst (λ d. AllByRecursion (λ m. has_row d m ≡ true) (filter (λ n. not (n == number)) world.expired)) (sym is) (left_marked number holders.drain world.expired stands.marked);
}

-- a row of a number has a kind
pub kind_there : (drain : List Retired) (number : ℕ) → is_some (kind_of_row drain number) ≡ has_row drain number
kind_there [] number = refl
kind_there (row ∷ drain) number = by (is_numbered number row) (kind_there drain number)
  where
    by : (t : Bool) → is_some (kind_of_row drain number) ≡ has_row drain number
        → is_some (option_map (λ (r : Retired). r.kind) (cond t (Some row) (find (is_numbered number) drain))) ≡ (t || has_row drain number)
    by true rest = refl
    by false rest = rest

-- two facts of what is given make a third one
pub on_ok : {T E : Type 0} {P Q R : Type 0} (result : Result T E) → OnOk result P → OnOk result Q → (P → Q → R) → OnOk result R
on_ok (Ok value) first second so = so first second
on_ok (Err error) first second so = tt
