-- What keeps each connection that a settle closes among those that it looks at.
use Rattle.std.proofs.Common.{◌≡◌, ℕ, Bool, true, false, not, ◌&&◌, ◌||◌, ◌==◌, cond, Result, Ok, Err, OnOk, OnErr, List, [], ◌∷◌, filter, map, find, length, take, get_or, ◌+◌, ◌<◌, Some, refl, sym, ap, ◌∙◌, subst, arith}
use Rattle.std.specs.List.{AllByRecursion}
use Rattle.std.specs.Option.{option_map, unwrap_or}
use Rattle.std.specs.BTreeMap.{is_at}
use Rattle.std.proofs.lemmas.Bool.{false≢true}
use Rattle.std.proofs.lemmas.Bool.Decides.{nat_tests}
use Rattle.std.proofs.lemmas.List.{take_more}
use Rattle.std.proofs.lemmas.List.Folds.{list_any-append}
use Rattle.ev_model.specs.World.{OpenMember}
use Rattle.ev_model.specs.declared.pictures.Shown.{Shown}
use Rattle.ev_model.specs.Sorted.{put_by}
use Rattle.ev_model.specs.Picture.{has_number}
use Rattle.ev_model.specs.Connections.{is_member}
use Rattle.ev_ledger.specs.Entries.{key_order}
use Rattle.ev_ledger.specs.Members.{has_place, is_open_at, member_before}
use Rattle.ev_ledger.proofs.PlaceLemmas.{same_place}
use Rattle.ev_drain.specs.Retired.{Retired, is_draining_listener, is_expired, is_numbered, is_waiting, marked, numbers_waiting, row_before}
use Rattle.ev_retirement.specs.declared.closing.Closing.{Closing}
use Rattle.ev_retirement.specs.Closing.{AreFound, FindsMore, is_due, is_found, moves}
use Rattle.ev_retirement.proofs.MoreLemmas.{or_first, or_more, or_second, same_number}
use Rattle.ev_retirement.proofs.AskLemmas.{all_put, all_so, all_two}

-- nothing changes, or more and more
pub same_finds : (closing : Closing) → FindsMore closing closing
same_finds closing = record { stays = λ worker connection h. h }

pub finds_after : (first second third : Closing) → FindsMore first second → FindsMore second third → FindsMore first third
finds_after first second third more again = record { stays = λ worker connection h. again.stays worker connection (more.stays worker connection h) }

-- fewer drain timeouts came: what is so now was so before
due_more : (drain other : List Retired) (shown : Shown) (m : OpenMember) → ((n : ℕ) → is_expired other n ≡ true → is_expired drain n ≡ true)
    → is_due other shown m ≡ true → is_due drain shown m ≡ true
due_more drain other shown m so due = or_more (is_expired other m.listener) (moves shown m) (is_expired drain m.listener) (so m.listener) due

-- more is looked at, or fewer drain timeouts came
pub found_more : (before after : Closing) (drain other : List Retired) (shown : Shown) (opened : List OpenMember) → FindsMore before after
    → ((n : ℕ) → is_expired other n ≡ true → is_expired drain n ≡ true) → AreFound before drain shown opened → AreFound after other shown opened
found_more before after drain other shown opened more so found =
    all_so (λ (m : OpenMember). is_due drain shown m ≡ true → is_found before m.worker m.connection ≡ true)
    (λ (m : OpenMember). is_due other shown m ≡ true → is_found after m.worker m.connection ≡ true)
    (λ m was is. more.stays m.worker m.connection (was (due_more drain other shown m so is))) opened found

-- a connection opens, or doesn't
pub open_found : {T E : Type 0} (result : Result T E) (before after : Closing) (drain : List Retired) (shown : Shown) (member : OpenMember) (opened left : List OpenMember)
    → FindsMore before after → (is_due drain shown member ≡ true → is_found after member.worker member.connection ≡ true)
    → OnOk result (left ≡ put_by member_before member opened) → OnErr result (left ≡ opened) → AreFound before drain shown opened → AreFound after drain shown left
open_found (Ok value) before after drain shown member opened left more here is same found =
    subst (AreFound after drain shown) (sym is)
    (all_put member_before (λ (m : OpenMember). is_due drain shown m ≡ true → is_found after m.worker m.connection ≡ true) member opened here
    (found_more before after drain drain shown opened more (λ n h. h) found))
open_found (Err error) before after drain shown member opened left more here is same found =
    subst (AreFound after drain shown) (sym same) (found_more before after drain drain shown opened more (λ n h. h) found)

-- connections close, and are no longer looked at
pub found_left : (q : OpenMember → Bool) (before after : Closing) (drain : List Retired) (shown : Shown)
    → ((m : OpenMember) → is_found after m.worker m.connection ≡ (q m && is_found before m.worker m.connection))
    → (opened : List OpenMember) → AreFound before drain shown opened → AreFound after drain shown (filter q opened)
found_left q before after drain shown is [] found = tt
found_left q before after drain shown is (m ∷ opened) found = by (q m) refl (found_left q before after drain shown is opened found.1)
  where
    by : (t : Bool) → q m ≡ t → AreFound after drain shown (filter q opened) → AreFound after drain shown (cond t (m ∷ filter q opened) (filter q opened))
    by true at rest = (λ due. is m ∙ ap (λ b. b && is_found before m.worker m.connection) at ∙ found.0 due, rest)
    by false at rest = rest

-- a connection that isn't due is no longer looked at
pub found_done : (worker connection : ℕ) (before after : Closing) (drain : List Retired) (shown : Shown)
    → ((w n : ℕ) → is_found after w n ≡ (not ((w == worker) && (n == connection)) && is_found before w n))
    → (opened : List OpenMember) → AllByRecursion (λ (m : OpenMember). is_member worker connection m ≡ true → is_due drain shown m ≡ false) opened
    → AreFound before drain shown opened → AreFound after drain shown opened
found_done worker connection before after drain shown is opened done found =
    all_two (λ (m : OpenMember). is_member worker connection m ≡ true → is_due drain shown m ≡ false)
    (λ (m : OpenMember). is_due drain shown m ≡ true → is_found before m.worker m.connection ≡ true)
    (λ (m : OpenMember). is_due drain shown m ≡ true → is_found after m.worker m.connection ≡ true)
    (λ m none was due. by m (is_member worker connection m) refl none due (was due)) opened done found
  where
    by : (m : OpenMember) (t : Bool) → is_member worker connection m ≡ t → (is_member worker connection m ≡ true → is_due drain shown m ≡ false)
        → is_due drain shown m ≡ true → is_found before m.worker m.connection ≡ true → is_found after m.worker m.connection ≡ true
    by m true at none due here = absurd (false≢true (sym (none at) ∙ due))
    by m false at none due here = is m.worker m.connection ∙ ap (λ b. not b && is_found before m.worker m.connection) at ∙ here

-- whether the drain timeout of the first row's number came
first_expired : (n : ℕ) (row : Retired) (rows : List Retired) → is_expired (row ∷ rows) n ≡ cond (is_numbered n row) row.expired (is_expired rows n)
first_expired n row rows = by (is_numbered n row)
  where
    by : (t : Bool) → unwrap_or (option_map (λ (r : Retired). r.expired) (cond t (Some row) (find (is_numbered n) rows))) false ≡ cond t row.expired (is_expired rows n)
    by true = refl
    by false = refl

-- a generation retires
none_first : (one : Retired) (rows : List Retired) (n : ℕ) → one.expired ≡ false → is_expired (one ∷ rows) n ≡ true → is_expired rows n ≡ true
none_first one rows n none h = by (is_numbered n one) (sym (first_expired n one rows) ∙ h)
  where
    by : (t : Bool) → cond t one.expired (is_expired rows n) ≡ true → is_expired rows n ≡ true
    by true h = absurd (false≢true (sym none ∙ h))
    by false h = h

put_expired : (one : Retired) (rows : List Retired) (n : ℕ) → one.expired ≡ false → is_expired (put_by row_before one rows) n ≡ true → is_expired rows n ≡ true
put_expired one [] n none h = none_first one [] n none h
put_expired one (row ∷ rows) n none h = by (row_before one row) h (put_expired one rows n none)
  where
    by : (t : Bool) → is_expired (cond t (one ∷ row ∷ rows) (row ∷ put_by row_before one rows)) n ≡ true
        → (is_expired (put_by row_before one rows) n ≡ true → is_expired rows n ≡ true) → is_expired (row ∷ rows) n ≡ true
    by true h rest = none_first one (row ∷ rows) n none h
    by false h rest =
        first_expired n row rows ∙ inner (is_numbered n row) (sym (first_expired n row (put_by row_before one rows)) ∙ h)
      where
        inner : (t : Bool) → cond t row.expired (is_expired (put_by row_before one rows) n) ≡ true → cond t row.expired (is_expired rows n) ≡ true
        inner true h = h
        inner false h = rest h

pub retire_found : {T E : Type 0} (result : Result T E) (closing : Closing) (drain other : List Retired) (shown : Shown) (one : Retired) (opened : List OpenMember)
    → one.expired ≡ false → OnOk result (other ≡ put_by row_before one drain) → OnErr result (other ≡ drain) → AreFound closing drain shown opened → AreFound closing other shown opened
retire_found (Ok value) closing drain other shown one opened none is same found =
    found_more closing closing drain other shown opened (same_finds closing)
    (λ n h. put_expired one drain n none (sym (ap (λ rows. is_expired rows n) is) ∙ h)) found
retire_found (Err error) closing drain other shown one opened none is same found = subst (λ rows. AreFound closing rows shown opened) (sym same) found

-- a generation goes
none_expired : (number : ℕ) (rows : List Retired) → is_expired (filter (λ row. not (is_numbered number row)) rows) number ≡ false
none_expired number [] = refl
none_expired number (row ∷ rows) = by (is_numbered number row) refl (none_expired number rows)
  where
    by : (t : Bool) → is_numbered number row ≡ t → is_expired (filter (λ r. not (is_numbered number r)) rows) number ≡ false
        → is_expired (cond (not t) (row ∷ filter (λ r. not (is_numbered number r)) rows) (filter (λ r. not (is_numbered number r)) rows)) number ≡ false
    by true at rest = rest
    by false at rest =
        first_expired number row (filter (λ r. not (is_numbered number r)) rows)
        ∙ ap (λ t. cond t row.expired (is_expired (filter (λ r. not (is_numbered number r)) rows) number)) at ∙ rest

left_expired : (number : ℕ) (rows : List Retired) (n : ℕ) → is_expired (filter (λ row. not (is_numbered number row)) rows) n ≡ true → is_expired rows n ≡ true
left_expired number [] n h = h
left_expired number (row ∷ rows) n h = by (is_numbered number row) refl h (left_expired number rows n)
  where
    left : List Retired
    left = filter (λ r. not (is_numbered number r)) rows

    by : (t : Bool) → is_numbered number row ≡ t → is_expired (cond (not t) (row ∷ left) left) n ≡ true → (is_expired left n ≡ true → is_expired rows n ≡ true)
        → is_expired (row ∷ rows) n ≡ true
    by true at h rest = first_expired n row rows ∙ inner (is_numbered n row) refl
      where
        inner : (u : Bool) → is_numbered n row ≡ u → cond u row.expired (is_expired rows n) ≡ true
        inner true is =
            absurd (false≢true (sym (none_expired number rows) ∙ ap (is_expired left) (sym (same_number row.number number at) ∙ same_number row.number n is) ∙ h))
        inner false is = rest h
    by false at h rest = first_expired n row rows ∙ inner (is_numbered n row) (sym (first_expired n row left) ∙ h)
      where
        inner : (u : Bool) → cond u row.expired (is_expired left n) ≡ true → cond u row.expired (is_expired rows n) ≡ true
        inner true h = h
        inner false h = rest h

pub removed_found : (number : ℕ) (closing : Closing) (drain other : List Retired) (shown : Shown) (opened : List OpenMember)
    → other ≡ filter (λ row. not (is_numbered number row)) drain → AreFound closing drain shown opened → AreFound closing other shown opened
removed_found number closing drain other shown opened is found =
    found_more closing closing drain other shown opened (same_finds closing)
    (λ n h. left_expired number drain n (sym (ap (λ rows. is_expired rows n) is) ∙ h)) found

-- a drain timeout comes
marked_expired : (name : List ℕ) (rows : List Retired) (n : ℕ) → is_expired (map (marked name) rows) n ≡ true
    → (is_expired rows n || has_number n (numbers_waiting name rows)) ≡ true
marked_expired name [] n h = absurd (false≢true h)
marked_expired name (row ∷ rows) n h =
    ap (λ b. b || has_number n (numbers_waiting name (row ∷ rows))) (first_expired n row rows)
    ∙ by (is_numbered n row) refl row.expired (is_draining_listener name row) (sym (first_expired n (marked name row) (map (marked name) rows)) ∙ h) (marked_expired name rows n)
  where
    left : List Retired
    left = filter (is_waiting name) rows

    numbers : List Retired → List ℕ
    numbers xs = map (λ (r : Retired). r.number) xs

    later : (a t : Bool) → (a || has_number n (map (λ (r : Retired). r.number) left)) ≡ true
        → (a || has_number n (map (λ (r : Retired). r.number) (cond t (row ∷ left) left))) ≡ true
    later true t h = refl
    later false true h = or_second (row.number == n) (has_number n (map (λ (r : Retired). r.number) left)) h
    later false false h = h

    by : (u : Bool) → is_numbered n row ≡ u → (e d : Bool) → cond u (e || d) (is_expired (map (marked name) rows) n) ≡ true
        → (is_expired (map (marked name) rows) n ≡ true → (is_expired rows n || has_number n (map (λ (r : Retired). r.number) left)) ≡ true)
        → (cond u e (is_expired rows n) || has_number n (map (λ (r : Retired). r.number) (cond (d && not e) (row ∷ left) left))) ≡ true
    by true at true d h rest = refl
    by true at false true h rest = or_first (row.number == n) (has_number n (map (λ (r : Retired). r.number) left)) at
    by true at false false h rest = absurd (false≢true h)
    by false at e d h rest = later (is_expired rows n) (d && not e) (rest h)

pub own_open : (members : List OpenMember) → AllByRecursion (λ (m : OpenMember). is_open_at m.listener m.worker m.connection members ≡ true) members
own_open [] = tt
own_open (m ∷ members) = (
  or_first (is_member m.worker m.connection m && (m.listener == m.listener)) (is_open_at m.listener m.worker m.connection members) (own m.worker m.connection m.listener),
  all_so (λ (x : OpenMember). is_open_at x.listener x.worker x.connection members ≡ true) (λ (x : OpenMember). is_open_at x.listener x.worker x.connection (m ∷ members) ≡ true)
      (λ x h. or_second (is_member x.worker x.connection m && (m.listener == x.listener)) (is_open_at x.listener x.worker x.connection members) h) members (own_open members),
)
  where
    own : (a b d : ℕ) → (((a == a) && (b == b)) && (d == d)) ≡ true
    own a b d = grind (arith, nat_tests)

pub timeout_found : (name : List ℕ) (before after : Closing) (drain : List Retired) (shown : Shown) (opened : List OpenMember) → FindsMore before after
    → ((n : ℕ) → has_number n (numbers_waiting name drain) ≡ true → (worker connection : ℕ) → is_open_at n worker connection opened ≡ true → is_found after worker connection ≡ true)
    → AreFound before drain shown opened → AreFound after (map (marked name) drain) shown opened
timeout_found name before after drain shown opened more entered found =
    all_two (λ (m : OpenMember). is_open_at m.listener m.worker m.connection opened ≡ true)
    (λ (m : OpenMember). is_due drain shown m ≡ true → is_found before m.worker m.connection ≡ true)
    (λ (m : OpenMember). is_due (map (marked name) drain) shown m ≡ true → is_found after m.worker m.connection ≡ true)
    (λ m here was is. by m here was (is_expired (map (marked name) drain) m.listener) refl is) opened (own_open opened) found
  where
    waits : (m : OpenMember) → is_open_at m.listener m.worker m.connection opened ≡ true → (is_due drain shown m ≡ true → is_found before m.worker m.connection ≡ true)
        → (t : Bool) → is_expired drain m.listener ≡ t → (t || has_number m.listener (numbers_waiting name drain)) ≡ true → is_found after m.worker m.connection ≡ true
    waits m here was true is h = more.stays m.worker m.connection (was (or_first (is_expired drain m.listener) (moves shown m) is))
    waits m here was false is h = entered m.listener h m.worker m.connection here

    by : (m : OpenMember) → is_open_at m.listener m.worker m.connection opened ≡ true → (is_due drain shown m ≡ true → is_found before m.worker m.connection ≡ true)
        → (t : Bool) → is_expired (map (marked name) drain) m.listener ≡ t → (t || moves shown m) ≡ true → is_found after m.worker m.connection ≡ true
    by m here was true is h = waits m here was (is_expired drain m.listener) refl (marked_expired name drain m.listener is)
    by m here was false is h = more.stays m.worker m.connection (was (or_second (is_expired drain m.listener) (moves shown m) h))

-- a place is entered, or leaves
pub entered_here : (worker connection : ℕ) → is_at (key_order (worker, connection)) (worker, connection) ≡ true
entered_here worker connection = grind (arith, nat_tests)

pub place_left : (worker number w connection : ℕ) (before after : Bool) → after ≡ cond (is_at (key_order (worker, number)) (w, connection)) false before
    → after ≡ (not ((w == worker) && (connection == number)) && before)
place_left worker number w connection before after is =
    is ∙ ap (λ t. cond t false before) (same_place worker number w connection) ∙ by ((w == worker) && (connection == number))
  where
    by : (t : Bool) → cond t false before ≡ (not t && before)
    by true = refl
    by false = refl

-- one more is entered
pub one_more_entered : (places : List (ℕ × ℕ)) (at : ℕ) (d : ℕ × ℕ) (before after : Closing) → at < length places → FindsMore before after
    → is_found after (get_or places at d).0 (get_or places at d).1 ≡ true
    → ((w n : ℕ) → has_place w n (take at places) ≡ true → is_found before w n ≡ true)
    → (w n : ℕ) → has_place w n (take (at + 1) places) ≡ true → is_found after w n ≡ true
one_more_entered places at d before after below more here was w n h =
    by (has_place w n (take at places)) refl
    (sym (list_any-append (λ (p : ℕ × ℕ). (p.0 == w) && (p.1 == n)) (take at places) (get_or places at d ∷ [])) ∙ sym (ap (has_place w n) (take_more places at d below)) ∙ h)
  where
    place : ℕ × ℕ
    place = get_or places at d

    own : (a b : Bool) → (place.0 == w) ≡ a → (place.1 == n) ≡ b → ((a && b) || false) ≡ true → is_found after w n ≡ true
    own true true one two h =
        ap (λ v. is_found after v n) (sym (same_number place.0 w one)) ∙ ap (is_found after place.0) (sym (same_number place.1 n two)) ∙ here
    own true false one two h = absurd (false≢true h)
    own false b one two h = absurd (false≢true h)

    by : (t : Bool) → has_place w n (take at places) ≡ t → (t || (((place.0 == w) && (place.1 == n)) || false)) ≡ true → is_found after w n ≡ true
    by true is h = more.stays w n (was w n is)
    by false is h = own (place.0 == w) (place.1 == n) refl refl h
