-- What keeps each generation that is let go among those to be asked about.
use Rattle.std.proofs.Common.{◌≡◌, ℕ, Result, Ok, Err, OnOk, OnErr, ◌<◌, ◌+◌, zero, suc, Bool, true, false, not, ◌&&◌, ◌||◌, ◌==◌, cond, List, [], ◌∷◌, ◌++◌, filter, map, length, slice_set, None, Some, find, refl, sym, ap, ◌∙◌, subst, arith}
use Rattle.std.specs.List.{list_any, slice_get, AllByRecursion}
use Rattle.std.specs.Option.{option_map}
use Rattle.std.proofs.lemmas.Bool.{true≢false, false≢true, or_parts}
use Rattle.std.proofs.lemmas.Bool.Decides.{nat_tests}
use Rattle.std.proofs.lemmas.List.Folds.{list_any-append}
use Rattle.ev_types.specs.declared.journals.Format.TheVariants.{Two}
use Rattle.ev_types.specs.declared.rows.RowStatus.{RowStatus}
use Rattle.ev_types.specs.declared.rows.RowStatus.TheVariants.{Warming, Active, Draining, Dropped}
use Rattle.ev_model.specs.declared.pictures.Picture.{Picture}
use Rattle.ev_model.specs.declared.pictures.Shown.{Shown}
use Rattle.ev_model.specs.World.{OpenMember}
use Rattle.ev_model.specs.Sorted.{put_by}
use Rattle.ev_model.specs.Picture.{has_number, shown_same}
use Rattle.ev_model.specs.Dead.{is_dead_at, is_open_on, waits_for_timer}
use Rattle.ev_retirement.specs.Pictures.{PicturesParts, in_use, is_shown_by, is_shown_in, version_showing, with_settled, with_shown}
use Rattle.ev_drain.specs.Retired.{Retired, has_row, is_dead_row, is_draining_listener, is_numbered, is_waiting, marked, numbers_waiting, row_before}
use Rattle.ev_retirement.specs.declared.asking.Asking.{Asking}
use Rattle.ev_retirement.specs.Asking.{AreAsked, AreAskedInOrder, AsksMore, Forgets, LetsGo, MayLeave, is_aside, is_asked, is_dead_now, is_let_go, is_set_aside}
use Rattle.ev_retirement.specs.Holders.{HoldersParts}
use Rattle.ev_retirement.specs.Retiring.{AreInOrder}
use Rattle.ev_retirement.proofs.MoreLemmas.{or_first, or_left, or_more, or_second}
use Rattle.ev_retirement.proofs.RetireLemmas.{put_ascending, same_of}

-- lists whose elements meet what others do
pub all_so : {X : Type 0} (P Q : X → Type 0) → ((x : X) → P x → Q x) → (xs : List X) → AllByRecursion P xs → AllByRecursion Q xs
all_so P Q so [] all = tt
all_so P Q so (x ∷ xs) all = (so x all.0, all_so P Q so xs all.1)

pub all_two : {X : Type 0} (P Q R : X → Type 0) → ((x : X) → P x → Q x → R x) → (xs : List X) → AllByRecursion P xs → AllByRecursion Q xs → AllByRecursion R xs
all_two P Q R so [] first second = tt
all_two P Q R so (x ∷ xs) first second = (so x first.0 second.0, all_two P Q R so xs first.1 second.1)

pub all_put : {X : Type 0} (le : X → X → Bool) (P : X → Type 0) (x : X) (ys : List X) → P x → AllByRecursion P ys → AllByRecursion P (put_by le x ys)
all_put le P x [] here all = (here, tt)
all_put le P x (y ∷ ys) here all = by (le x y) (all_put le P x ys here all.1)
  where
    by : (t : Bool) → AllByRecursion P (put_by le x ys) → AllByRecursion P (cond t (x ∷ y ∷ ys) (y ∷ put_by le x ys))
    by true rest = (here, all)
    by false rest = (all.0, rest)

all_left : {X : Type 0} (P : X → Type 0) (test : X → Bool) (xs : List X) → AllByRecursion P xs → AllByRecursion P (filter test xs)
all_left P test [] all = tt
all_left P test (x ∷ xs) all = by (test x) (all_left P test xs all.1)
  where
    by : (t : Bool) → AllByRecursion P (filter test xs) → AllByRecursion P (cond t (x ∷ filter test xs) (filter test xs))
    by true rest = (all.0, rest)
    by false rest = rest

-- one of the elements passes
any_so : {X : Type 0} (p q : X → Bool) → ((x : X) → p x ≡ true → q x ≡ true) → (xs : List X) → list_any p xs ≡ true → list_any q xs ≡ true
any_so p q so [] h = h
any_so p q so (x ∷ xs) h = by (p x) refl h (any_so p q so xs)
  where
    by : (t : Bool) → p x ≡ t → (t || list_any p xs) ≡ true → (list_any p xs ≡ true → list_any q xs ≡ true) → (q x || list_any q xs) ≡ true
    by true is h rest = or_first (q x) (list_any q xs) (so x is)
    by false is h rest = or_second (q x) (list_any q xs) (rest h)

-- one passes, or something else holds
any_or : {X : Type 0} (a : Bool) (p q : X → Bool) → ((x : X) → p x ≡ true → (a || q x) ≡ true) → (xs : List X) → list_any p xs ≡ true → (a || list_any q xs) ≡ true
any_or true p q so xs h = refl
any_or false p q so xs h = any_so p q so xs h

and_or : (a s b c : Bool) → (b ≡ true → (a || c) ≡ true) → (s && b) ≡ true → (a || (s && c)) ≡ true
and_or a true b c so h = so h
and_or a false b c so h = absurd (false≢true h)

-- what fewer hold is dead where it is by more
dead_by_fewer : (status : RowStatus) (fewer more : Bool) → (fewer ≡ true → more ≡ true) → is_dead_at status more ≡ true → is_dead_at status fewer ≡ true
dead_by_fewer Warming fewer more so dead = absurd (false≢true dead)
dead_by_fewer Active fewer more so dead = absurd (false≢true dead)
dead_by_fewer Draining true more so dead = absurd (false≢true (sym (ap not (so refl)) ∙ dead))
dead_by_fewer Draining false more so dead = refl
dead_by_fewer Dropped fewer more so dead = refl

-- a row that is let go later was let go before, or is asked about
still_asked : (before after : Asking) (pictures others : PicturesParts) (opened left : List OpenMember) (row : Retired)
    → (is_asked before row.number ≡ true → is_asked after row.number ≡ true)
    → (is_set_aside before pictures row.number ≡ true → (is_asked after row.number || is_set_aside after others row.number) ≡ true)
    → (list_any (is_open_on row.number) opened ≡ true → (is_asked after row.number || list_any (is_open_on row.number) left) ≡ true)
    → (is_let_go before pictures opened row ≡ true → is_asked before row.number ≡ true)
    → is_let_go after others left row ≡ true → is_asked after row.number ≡ true
still_asked before after pictures others opened left row asked aside stays was gone = by (is_asked after row.number) refl
  where
    timer : Bool
    timer = waits_for_timer Two row.kind && not row.expired

    by : (t : Bool) → is_asked after row.number ≡ t → is_asked after row.number ≡ true
    by true is = is
    by false is =
        asked (was (dead_by_fewer row.status
        ((is_set_aside before pictures row.number || list_any (is_open_on row.number) opened) || timer)
        ((is_set_aside after others row.number || list_any (is_open_on row.number) left) || timer)
        (or_more (is_set_aside before pictures row.number || list_any (is_open_on row.number) opened) timer
        (is_set_aside after others row.number || list_any (is_open_on row.number) left)
        (held (is_set_aside before pictures row.number) refl))
        gone))
      where
        held : (t : Bool) → is_set_aside before pictures row.number ≡ t → (t || list_any (is_open_on row.number) opened) ≡ true
            → (is_set_aside after others row.number || list_any (is_open_on row.number) left) ≡ true
        held true here h =
            or_first (is_set_aside after others row.number) (list_any (is_open_on row.number) left)
            (or_left (is_asked after row.number) (is_set_aside after others row.number) is (aside here))
        held false here h =
            or_second (is_set_aside after others row.number) (list_any (is_open_on row.number) left)
            (or_left (is_asked after row.number) (list_any (is_open_on row.number) left) is (stays h))

-- more is asked about
more_aside : (before after : Asking) (number : ℕ) → AsksMore before after → (pictures : PicturesParts) → is_set_aside before pictures number ≡ true
    → (is_asked after number || is_set_aside after pictures number) ≡ true
more_aside before after number more pictures h =
    any_or (is_asked after number)
    (λ (p : Picture). is_shown_in number p && is_aside before p.version number) (λ (p : Picture). is_shown_in number p && is_aside after p.version number)
    (λ p here. and_or (is_asked after number) (is_shown_in number p) (is_aside before p.version number) (is_aside after p.version number) (more.aside p.version number) here)
    (in_use pictures) h

pub more_kept : (before after : Asking) (holders : HoldersParts) → AsksMore before after → AreAskedInOrder before holders → AreAskedInOrder after holders
more_kept before after holders more kept = record {
  asked = all_so (λ (row : Retired). is_let_go before holders.pictures holders.ledger row ≡ true → is_asked before row.number ≡ true)
      (λ (row : Retired). is_let_go after holders.pictures holders.ledger row ≡ true → is_asked after row.number ≡ true)
      (λ row was. still_asked before after holders.pictures holders.pictures holders.ledger holders.ledger row
      (more.asked row.number) (more_aside before after row.number more holders.pictures)
      (or_second (is_asked after row.number) (list_any (is_open_on row.number) holders.ledger)) was)
      holders.drain kept.asked;
  ordered = kept.ordered;
}

-- connections close
pub own_number : (n : ℕ) → (n == n) ≡ true
own_number n = grind (arith, nat_tests)

all_there : (drain : List Retired) → AllByRecursion (λ (row : Retired). has_row drain row.number ≡ true) drain
all_there [] = tt
all_there (row ∷ drain) = (
  or_first (is_numbered row.number row) (has_row drain row.number) (own_number row.number),
  all_so (λ (other : Retired). has_row drain other.number ≡ true) (λ (other : Retired). has_row (row ∷ drain) other.number ≡ true)
      (λ other h. or_second (is_numbered other.number row) (has_row drain other.number) h) drain (all_there drain),
)

pub go_kept : (before after : Asking) (holders : HoldersParts) (left : List OpenMember) → LetsGo holders.drain before after holders.ledger left → AreAskedInOrder before holders
    → AreAskedInOrder after (record holders { ledger = left })
go_kept before after holders left goes kept = record {
  asked = all_two (λ (row : Retired). has_row holders.drain row.number ≡ true)
      (λ (row : Retired). is_let_go before holders.pictures holders.ledger row ≡ true → is_asked before row.number ≡ true)
      (λ (row : Retired). is_let_go after holders.pictures left row ≡ true → is_asked after row.number ≡ true)
      (λ row there was. still_asked before after holders.pictures holders.pictures holders.ledger left row
      (goes.more.asked row.number) (more_aside before after row.number goes.more holders.pictures) (goes.held row.number there) was)
      holders.drain (all_there holders.drain) kept.asked;
  ordered = kept.ordered;
}

-- other pictures are in use, under which as much is set aside
pictures_kept : (asking : Asking) (holders : HoldersParts) (others : PicturesParts)
    → ((number : ℕ) → is_set_aside asking holders.pictures number ≡ true → is_set_aside asking others number ≡ true) → AreAskedInOrder asking holders
    → AreAskedInOrder asking (record holders { pictures = others })
pictures_kept asking holders others as_much kept = record {
  asked = all_so (λ (row : Retired). is_let_go asking holders.pictures holders.ledger row ≡ true → is_asked asking row.number ≡ true)
      (λ (row : Retired). is_let_go asking others holders.ledger row ≡ true → is_asked asking row.number ≡ true)
      (λ row was. still_asked asking asking holders.pictures others holders.ledger holders.ledger row
      (λ h. h) (λ h. or_second (is_asked asking row.number) (is_set_aside asking others row.number) (as_much row.number h))
      (or_second (is_asked asking row.number) (list_any (is_open_on row.number) holders.ledger)) was)
      holders.drain kept.asked;
  ordered = kept.ordered;
}

either : {b c : Bool} (a : Bool) → (a || b) ≡ true → (b ≡ true → c ≡ true) → (a || c) ≡ true
either true h so = refl
either false h so = so h

-- a worker takes over the last picture
any_settled : {X : Type 0} (p : X → Bool) (held : List X) (worker : ℕ) (last : X) → ((x : X) → slice_get held worker ≡ Some x → p x ≡ true → p last ≡ true)
    → list_any p (held ++ last ∷ []) ≡ true → list_any p (slice_set held worker last ++ last ∷ []) ≡ true
any_settled p [] worker last so h = h
any_settled p (x ∷ held) zero last so h = by (p x) refl h
  where
    by : (t : Bool) → p x ≡ t → (t || list_any p (held ++ last ∷ [])) ≡ true → (p last || list_any p (held ++ last ∷ [])) ≡ true
    by true is h = or_first (p last) (list_any p (held ++ last ∷ [])) (so x refl is)
    by false is h = or_second (p last) (list_any p (held ++ last ∷ [])) h
any_settled p (x ∷ held) (suc worker) last so h = either (p x) h (any_settled p held worker last so)

and_parts : (a b : Bool) → (a && b) ≡ true → (a ≡ true) × (b ≡ true)
and_parts true b h = (refl, h)
and_parts false b h = absurd (false≢true h)

pub settled_kept : (worker : ℕ) (asking : Asking) (holders : HoldersParts) → MayLeave worker asking holders.pictures → AreAskedInOrder asking holders
    → AreAskedInOrder asking (record holders { pictures = with_settled worker holders.pictures })
settled_kept worker asking holders may kept =
    pictures_kept asking holders (with_settled worker holders.pictures)
    (λ number h.
    let test : Picture → Bool = λ p. is_shown_in number p && is_aside asking p.version number in
    any_settled test holders.pictures.held worker holders.pictures.last
    (λ p at passes. subst (λ (q : Picture). test q ≡ true)
    (may p number at (and_parts (is_shown_in number p) (is_aside asking p.version number) passes).1) passes) h)
    kept

-- a picture is published
any_published : {X : Type 0} (p : X → Bool) (held : List X) (last next : X) → p last ≡ false → list_any p (held ++ last ∷ []) ≡ true → list_any p (held ++ next ∷ []) ≡ true
any_published p [] last next none h = absurd (false≢true (sym (ap (λ b. b || false) none) ∙ h))
any_published p (x ∷ held) last next none h = either (p x) h (any_published p held last next none)

and_none : (a b : Bool) → b ≡ false → (a && b) ≡ false
and_none true b h = h
and_none false b h = refl

pub shown_kept : (shown : Shown) (asking : Asking) (holders : HoldersParts) → ((number : ℕ) → is_aside asking holders.pictures.last.version number ≡ false) → AreAskedInOrder asking holders
    → AreAskedInOrder asking (record holders { pictures = with_shown shown holders.pictures })
shown_kept shown asking holders none kept = by (shown_same shown holders.pictures.last.shown)
  where
    next : Picture
    next = record { version = holders.pictures.last.version + 1; shown = shown }

    by : (t : Bool) → AreAskedInOrder asking (record holders { pictures = cond t holders.pictures (record holders.pictures { last = next }) })
    by true = kept
    by false =
        pictures_kept asking holders (record holders.pictures { last = next })
        (λ number h. any_published (λ (p : Picture). is_shown_in number p && is_aside asking p.version number) holders.pictures.held holders.pictures.last next
        (and_none (is_shown_in number holders.pictures.last) (is_aside asking holders.pictures.last.version number) (none number)) h)
        kept

-- a generation retires
pub retired_kept : (asking : Asking) (holders : HoldersParts) (one : Retired) → is_asked asking one.number ≡ true → has_row holders.drain one.number ≡ false → AreAskedInOrder asking holders
    → AreAskedInOrder asking (record holders { drain = put_by row_before one holders.drain })
retired_kept asking holders one here absent kept = record {
  asked = all_put row_before (λ (row : Retired). is_let_go asking holders.pictures holders.ledger row ≡ true → is_asked asking row.number ≡ true) one holders.drain
      (λ gone. here) kept.asked;
  ordered = put_ascending one holders.drain absent kept.ordered;
}

-- a drain timeout comes
not_marked : (row : Retired) (name : List ℕ) → is_waiting name row ≡ false → row ≡ marked name row
not_marked row name none = ap (λ (b : Bool). record row { expired = b }) (by row.expired (is_draining_listener name row) none)
  where
    by : (was named : Bool) → (named && not was) ≡ false → was ≡ (was || named)
    by true named none = refl
    by false true none = absurd (true≢false none)
    by false false none = refl

expired_asked : (asking : Asking) (pictures : PicturesParts) (opened : List OpenMember) (name : List ℕ) (drain : List Retired)
    → ((number : ℕ) → has_number number (numbers_waiting name drain) ≡ true → is_asked asking number ≡ true)
    → AllByRecursion (λ (row : Retired). is_let_go asking pictures opened row ≡ true → is_asked asking row.number ≡ true) drain
    → AllByRecursion (λ (row : Retired). is_let_go asking pictures opened row ≡ true → is_asked asking row.number ≡ true) (map (marked name) drain)
expired_asked asking pictures opened name [] waits all = tt
expired_asked asking pictures opened name (row ∷ drain) waits all = (
  by (is_waiting name row) refl waits,
  expired_asked asking pictures opened name drain (λ number h. waits number (later (is_waiting name row) number h)) all.1,
)
  where
    later : (t : Bool) (number : ℕ) → has_number number (numbers_waiting name drain) ≡ true
        → has_number number (map (λ (r : Retired). r.number) (cond t (row ∷ filter (is_waiting name) drain) (filter (is_waiting name) drain))) ≡ true
    later true number h = or_second (row.number == number) (has_number number (numbers_waiting name drain)) h
    later false number h = h

    by : (t : Bool) → is_waiting name row ≡ t
        → ((number : ℕ) → has_number number (map (λ (r : Retired). r.number) (cond t (row ∷ filter (is_waiting name) drain) (filter (is_waiting name) drain))) ≡ true → is_asked asking number ≡ true)
        → is_let_go asking pictures opened (marked name row) ≡ true → is_asked asking row.number ≡ true
    by true is waits gone = waits row.number (or_first (row.number == row.number) (has_number row.number (numbers_waiting name drain)) (own_number row.number))
    by false is waits gone = all.0 (subst (λ (r : Retired). is_let_go asking pictures opened r ≡ true) (sym (not_marked row name is)) gone)

expired_ordered : (name : List ℕ) (drain : List Retired) → AreInOrder drain → AreInOrder (map (marked name) drain)
expired_ordered name [] up = tt
expired_ordered name (row ∷ drain) up = (above drain up.0, expired_ordered name drain up.1)
  where
    above : (rows : List Retired) → AllByRecursion (λ (other : Retired). row.number < other.number) rows
        → AllByRecursion (λ (other : Retired). row.number < other.number) (map (marked name) rows)
    above [] all = tt
    above (other ∷ rows) all = (all.0, above rows all.1)

pub expired_kept : (name : List ℕ) (asking : Asking) (holders : HoldersParts)
    → ((number : ℕ) → has_number number (numbers_waiting name holders.drain) ≡ true → is_asked asking number ≡ true) → AreAskedInOrder asking holders
    → AreAskedInOrder asking (record holders { drain = map (marked name) holders.drain })
expired_kept name asking holders waits kept = record {
  asked = expired_asked asking holders.pictures holders.ledger name holders.drain waits kept.asked;
  ordered = expired_ordered name holders.drain kept.ordered;
}

-- a generation is forgotten: it was removed, or something holds it
forgotten_asked : (number : ℕ) (before after : Asking) (pictures : PicturesParts) (opened : List OpenMember) (row : Retired) → Forgets number before after
    → ((row.number == number) ≡ true → is_let_go before pictures opened row ≡ false)
    → (is_let_go before pictures opened row ≡ true → is_asked before row.number ≡ true)
    → is_let_go after pictures opened row ≡ true → is_asked after row.number ≡ true
forgotten_asked number before after pictures opened row forgets kept was gone = by (row.number == number) refl
  where
    aside : is_set_aside before pictures row.number ≡ is_set_aside after pictures row.number
    aside = same (in_use pictures)
      where
        same : (ps : List Picture) → list_any (λ (p : Picture). is_shown_in row.number p && is_aside before p.version row.number) ps
            ≡ list_any (λ (p : Picture). is_shown_in row.number p && is_aside after p.version row.number) ps
        same [] = refl
        same (p ∷ ps) =
            ap (λ b. (is_shown_in row.number p && b) || list_any (λ (q : Picture). is_shown_in row.number q && is_aside before q.version row.number) ps) (sym (forgets.aside p.version row.number))
            ∙ ap (λ b. (is_shown_in row.number p && is_aside after p.version row.number) || b) (same ps)

    gone_before : is_let_go before pictures opened row ≡ true
    gone_before =
        ap (λ b. is_dead_at row.status ((b || list_any (is_open_on row.number) opened) || (waits_for_timer Two row.kind && not row.expired))) aside ∙ gone

    by : (t : Bool) → (row.number == number) ≡ t → is_asked after row.number ≡ true
    by true at = absurd (true≢false (sym gone_before ∙ kept at))
    by false at = forgets.asked row.number ∙ ap (λ b. not b && is_asked before row.number) at ∙ was gone_before

left_ordered : (test : Retired → Bool) (drain : List Retired) → AreInOrder drain → AreInOrder (filter test drain)
left_ordered test [] up = tt
left_ordered test (row ∷ drain) up = by (test row) (left_ordered test drain up.1)
  where
    by : (t : Bool) → AreInOrder (filter test drain) → AreInOrder (cond t (row ∷ filter test drain) (filter test drain))
    by true rest = (all_left (λ (other : Retired). row.number < other.number) test drain up.0, rest)
    by false rest = rest

-- of a list without those that pass a test, none passes
none_passes : {X : Type 0} (test : X → Bool) (xs : List X) → AllByRecursion (λ x. test x ≡ false) (filter (λ x. not (test x)) xs)
none_passes test [] = tt
none_passes test (x ∷ xs) = by (test x) refl (none_passes test xs)
  where
    by : (t : Bool) → test x ≡ t → AllByRecursion (λ y. test y ≡ false) (filter (λ y. not (test y)) xs)
        → AllByRecursion (λ y. test y ≡ false) (cond (not t) (x ∷ filter (λ y. not (test y)) xs) (filter (λ y. not (test y)) xs))
    by true is rest = rest
    by false is rest = (is, rest)

pub removed_kept : (number : ℕ) (before after : Asking) (holders : HoldersParts) → Forgets number before after → AreAskedInOrder before holders
    → AreAskedInOrder after (record holders { drain = filter (λ row. not (is_numbered number row)) holders.drain })
removed_kept number before after holders forgets kept =
    let left : List Retired = filter (λ row. not (is_numbered number row)) holders.drain in
    record {
      asked = all_two (λ (row : Retired). is_numbered number row ≡ false)
          (λ (row : Retired). is_let_go before holders.pictures holders.ledger row ≡ true → is_asked before row.number ≡ true)
          (λ (row : Retired). is_let_go after holders.pictures holders.ledger row ≡ true → is_asked after row.number ≡ true)
          (λ row other was. forgotten_asked number before after holders.pictures holders.ledger row forgets (λ at. absurd (true≢false (sym at ∙ other))) was)
          left (none_passes (is_numbered number) holders.drain)
          (all_left (λ (row : Retired). is_let_go before holders.pictures holders.ledger row ≡ true → is_asked before row.number ≡ true)
          (λ row. not (is_numbered number row)) holders.drain kept.asked);
      ordered = left_ordered (λ row. not (is_numbered number row)) holders.drain kept.ordered;
    }

-- a row of a number that isn't dead isn't let go, where it is set aside unless a connection holds it
none_dead : (dead : Retired → Bool) (number : ℕ) (drain : List Retired) → list_any (λ row. is_numbered number row && dead row) drain ≡ false
    → AllByRecursion (λ (row : Retired). (row.number == number) ≡ true → dead row ≡ false) drain
none_dead dead number [] none = tt
none_dead dead number (row ∷ drain) none =
    let parts = or_parts (is_numbered number row && dead row) (list_any (λ r. is_numbered number r && dead r) drain) none in
    (λ at. sym (ap (λ b. b && dead row) at) ∙ parts.0, none_dead dead number drain parts.1)

held_same : (status : RowStatus) (aside shown joined timer : Bool) → (joined ≡ false → shown ≡ true → aside ≡ true)
    → is_dead_at status ((shown || joined) || timer) ≡ false → is_dead_at status ((aside || joined) || timer) ≡ false
held_same Warming aside shown joined timer so alive = refl
held_same Active aside shown joined timer so alive = refl
held_same Draining true shown joined timer so alive = refl
held_same Draining false true true timer so alive = refl
held_same Draining false true false timer so alive = absurd (false≢true (so refl refl))
held_same Draining false false joined timer so alive = alive
held_same Dropped aside shown joined timer so alive = absurd (true≢false alive)

pub held_kept : (number : ℕ) (before after : Asking) (holders : HoldersParts) → Forgets number before after → is_dead_now holders number ≡ false
    → (list_any (is_open_on number) holders.ledger ≡ false → is_shown_by number holders.pictures ≡ true → is_set_aside before holders.pictures number ≡ true)
    → AreAskedInOrder before holders → AreAskedInOrder after holders
held_kept number before after holders forgets alive aside kept = record {
  asked = all_two (λ (row : Retired). (row.number == number) ≡ true → is_dead_row Two (λ n. is_shown_by n holders.pictures) holders.ledger row ≡ false)
      (λ (row : Retired). is_let_go before holders.pictures holders.ledger row ≡ true → is_asked before row.number ≡ true)
      (λ (row : Retired). is_let_go after holders.pictures holders.ledger row ≡ true → is_asked after row.number ≡ true)
      (λ row other was. forgotten_asked number before after holders.pictures holders.ledger row forgets (held row other) was)
      holders.drain (none_dead (is_dead_row Two (λ n. is_shown_by n holders.pictures) holders.ledger) number holders.drain alive) kept.asked;
  ordered = kept.ordered;
}
  where
    held : (row : Retired) → ((row.number == number) ≡ true → is_dead_row Two (λ n. is_shown_by n holders.pictures) holders.ledger row ≡ false)
        → (row.number == number) ≡ true → is_let_go before holders.pictures holders.ledger row ≡ false
    held row other at =
        held_same row.status (is_set_aside before holders.pictures row.number) (is_shown_by row.number holders.pictures) (list_any (is_open_on row.number) holders.ledger)
        (waits_for_timer Two row.kind && not row.expired)
        (subst (λ n. list_any (is_open_on n) holders.ledger ≡ false → is_shown_by n holders.pictures ≡ true → is_set_aside before holders.pictures n ≡ true)
        (sym (same_of row.number number at)) aside)
        (other at)

-- a generation is set aside where it has the version of a picture in use that shows it
found_aside : (asking : Asking) (number version : ℕ) (pictures : List Picture) → option_map (λ (p : Picture). p.version) (find (is_shown_in number) pictures) ≡ Some version
    → is_aside asking version number ≡ true → list_any (λ (p : Picture). is_shown_in number p && is_aside asking p.version number) pictures ≡ true
found_aside asking number version [] found aside = absurd (cc found)
found_aside asking number version (p ∷ pictures) found aside = by (is_shown_in number p) found (λ later. found_aside asking number version pictures later aside)
  where
    some_same : (a b : ℕ) → Some a ≡ Some b → a ≡ b
    some_same a b same = cc same

    by : (t : Bool) → option_map (λ (q : Picture). q.version) (cond t (Some p) (find (is_shown_in number) pictures)) ≡ Some version
        → (option_map (λ (q : Picture). q.version) (find (is_shown_in number) pictures) ≡ Some version
        → list_any (λ (q : Picture). is_shown_in number q && is_aside asking q.version number) pictures ≡ true)
        → ((t && is_aside asking p.version number) || list_any (λ (q : Picture). is_shown_in number q && is_aside asking q.version number) pictures) ≡ true
    by true found rest =
        or_first (is_aside asking p.version number) (list_any (λ (q : Picture). is_shown_in number q && is_aside asking q.version number) pictures)
        (ap (λ v. is_aside asking v number) (some_same p.version version found) ∙ aside)
    by false found rest = rest found

pub aside_found : (asking : Asking) (number version : ℕ) (pictures : PicturesParts) → version_showing number pictures ≡ Some version → is_aside asking version number ≡ true
    → is_set_aside asking pictures number ≡ true
aside_found asking number version pictures found aside = found_aside asking number version (in_use pictures) found aside

none_found : (number : ℕ) (pictures : List Picture) → option_map (λ (p : Picture). p.version) (find (is_shown_in number) pictures) ≡ None → list_any (is_shown_in number) pictures ≡ false
none_found number [] none = refl
none_found number (p ∷ pictures) none = by (is_shown_in number p) none (none_found number pictures)
  where
    by : (t : Bool) → option_map (λ (q : Picture). q.version) (cond t (Some p) (find (is_shown_in number) pictures)) ≡ None
        → (option_map (λ (q : Picture). q.version) (find (is_shown_in number) pictures) ≡ None → list_any (is_shown_in number) pictures ≡ false)
        → (t || list_any (is_shown_in number) pictures) ≡ false
    by true none rest = absurd (cc none)
    by false none rest = rest none

or_none : (b : Bool) → (b || false) ≡ b
or_none true = refl
or_none false = refl

pub none_shown : (number : ℕ) (pictures : PicturesParts) → version_showing number pictures ≡ None → is_shown_by number pictures ≡ false
none_shown number pictures none =
    ap (λ b. list_any (is_shown_in number) pictures.held || b) (sym (or_none (is_shown_in number pictures.last)))
    ∙ sym (list_any-append (is_shown_in number) pictures.held (pictures.last ∷ []))
    ∙ none_found number (in_use pictures) none

-- no connection is counted where none is open
pub none_counted : {X : Type 0} (test : X → Bool) (xs : List X) → list_any test xs ≡ false → length (filter test xs) ≡ 0
none_counted test [] none = refl
none_counted test (x ∷ xs) none =
    let parts = or_parts (test x) (list_any test xs) none in
    ap (λ t. length (cond t (x ∷ filter test xs) (filter test xs))) parts.0 ∙ none_counted test xs parts.1

-- by what a call gave: a generation that was retired, a picture that was published
pub retire_kept : {T E : Type 0} (result : Result T E) (asking : Asking) (holders : HoldersParts) (one : Retired) (drain : List Retired)
    → OnOk result (drain ≡ put_by row_before one holders.drain) → OnErr result (drain ≡ holders.drain) → is_asked asking one.number ≡ true
    → has_row holders.drain one.number ≡ false → AreAskedInOrder asking holders → AreAskedInOrder asking (record holders { drain = drain })
retire_kept (Ok value) asking holders one drain is same here absent kept =
    subst (λ (d : List Retired). AreAskedInOrder asking (record holders { drain = d })) (sym is) (retired_kept asking holders one here absent kept)
retire_kept (Err error) asking holders one drain is same here absent kept = subst (λ (d : List Retired). AreAskedInOrder asking (record holders { drain = d })) (sym same) kept

pub publish_kept : {T E : Type 0} (result : Result T E) (shown : Shown) (asking : Asking) (holders : HoldersParts) (pictures : PicturesParts)
    → OnOk result (pictures ≡ with_shown shown holders.pictures) → OnErr result (pictures ≡ holders.pictures)
    → ((number : ℕ) → is_aside asking holders.pictures.last.version number ≡ false) → AreAskedInOrder asking holders → AreAskedInOrder asking (record holders { pictures = pictures })
publish_kept (Ok value) shown asking holders pictures is same none kept =
    subst (λ (ps : PicturesParts). AreAskedInOrder asking (record holders { pictures = ps })) (sym is) (shown_kept shown asking holders none kept)
publish_kept (Err error) shown asking holders pictures is same none kept = subst (λ (ps : PicturesParts). AreAskedInOrder asking (record holders { pictures = ps })) (sym same) kept

-- what is set aside is shown, so a dead generation is let go, and asked about
and_first : (a b : Bool) → (a && b) ≡ true → a ≡ true
and_first true b h = refl
and_first false b h = h

aside_shown : (asking : Asking) (pictures : PicturesParts) (number : ℕ) → is_set_aside asking pictures number ≡ true → is_shown_by number pictures ≡ true
aside_shown asking pictures number aside =
    ap (λ b. list_any (is_shown_in number) pictures.held || b) (sym (or_none (is_shown_in number pictures.last)))
    ∙ sym (list_any-append (is_shown_in number) pictures.held (pictures.last ∷ []))
    ∙ any_so (λ (p : Picture). is_shown_in number p && is_aside asking p.version number) (is_shown_in number)
    (λ p h. and_first (is_shown_in number p) (is_aside asking p.version number) h) (in_use pictures) aside

pub dead_asked : (asking : Asking) (holders : HoldersParts) → AreAsked asking holders
    → AllByRecursion (λ (row : Retired). is_dead_row Two (λ n. is_shown_by n holders.pictures) holders.ledger row ≡ true → is_asked asking row.number ≡ true) holders.drain
dead_asked asking holders asked =
    all_so (λ (row : Retired). is_let_go asking holders.pictures holders.ledger row ≡ true → is_asked asking row.number ≡ true)
    (λ (row : Retired). is_dead_row Two (λ n. is_shown_by n holders.pictures) holders.ledger row ≡ true → is_asked asking row.number ≡ true)
    (λ row was dead.
    let timer : Bool = waits_for_timer Two row.kind && not row.expired in
    let joined : Bool = list_any (is_open_on row.number) holders.ledger in
    let aside : Bool = is_set_aside asking holders.pictures row.number in
    let shown : Bool = is_shown_by row.number holders.pictures in
    was (dead_by_fewer row.status ((aside || joined) || timer) ((shown || joined) || timer)
    (or_more (aside || joined) timer (shown || joined) (or_more aside joined shown (aside_shown asking holders.pictures row.number))) dead))
    holders.drain asked
