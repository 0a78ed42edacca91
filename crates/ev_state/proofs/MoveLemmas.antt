-- What an event changed: the generations that retired, and the names that began and ceased to be watched.
use Rattle.std.proofs.Common.{◌≡◌, ◌∙◌, ℕ, Bool, true, false, not, ◌&&◌, ◌||◌, List, [], Option, None, Some, refl, sym, ap, subst}
use Rattle.std.proofs.lemmas.Bool.{false≢true}
use Rattle.ev_types.specs.Statuses.{is_live}
use Rattle.ev_types.specs.declared.contents.Kind.{Kind}
use Rattle.ev_types.specs.declared.rows.GenRow.{GenRow}
use Rattle.ev_model.specs.World.{World}
use Rattle.ev_model.specs.Requests.{other_than}
use Rattle.ev_model.specs.Tidy.{promoted, has_successor}
use Rattle.ev_model.specs.Warming.{is_ready_by}
use Rattle.ev_model.specs.Watching.{watched_of}
use Rattle.ev_indexes.specs.Tables.{row_in}
use Rattle.ev_indexes.specs.declared.state.State.{State as Part}
use Rattle.ev_indexes.specs.Due.{is_one_of}
use Rattle.ev_indexes.specs.Indexes.{IsIndexed}
use Rattle.ev_indexes.specs.Moved.{names_lost, names_gained}
use Rattle.ev_indexes.specs.Reads.{names_watched}
use Rattle.ev_indexes.proofs.ReadLemmas.{names-world}
use Rattle.ev_warming.specs.Changes.{is_over, has_retired, began_to_drain}
use Rattle.ev_managers.proofs.RetiredLemmas.{drained-retired, none-retired}
use Rattle.ev_managers.specs.declared.managers.Managers.{Managers}
use Rattle.ev_managers.specs.Managers.{StandFor}
use Rattle.ev_managers.specs.Moved.{AreRetired, Grows}
use Rattle.ev_managers.specs.declared.moved.Moved.{Moved}
use Rattle.ev_subscription.specs.declared.changes.NameChange.{NameChange}
use Rattle.ev_state.specs.Ages.{AreLater}
use Rattle.ev_state.specs.Moves.{ChangesNames}
use Rattle.ev_state.specs.Changed.{HaveChanged}
use Rattle.ev_state.specs.Retirements.{HaveMoved, HaveRetired}
use Rattle.ev_state.proofs.AgeLemmas.{later-promoted, found-later}
use Rattle.ev_state.proofs.ChangeLemmas.{names-begun, names-ended}
use Rattle.ev_state.proofs.WatchedNames.{names-seen}

-- none retired where the rows are the same
pub none-have : (numbers : List ℕ) (before world : World) → numbers ≡ [] → world.rows ≡ before.rows → HaveRetired numbers before world
none-have numbers before world none same n = ap (λ ns. is_one_of ns n) none ∙ none-retired before.rows world.rows same n

-- nothing moved
pub none-moved : (these : Moved) (before world : World) → these ≡ record { retired = []; changed = [] } → world.rows ≡ before.rows
    → HaveChanged these.changed before world → HaveMoved these before world
none-moved these before world none same changed =
    record { retired = none-have these.retired before world (ap (λ (m : Moved). m.retired) none) same; changed = changed }

-- what the managers report is so of the worlds
pub told-have : (numbers : List ℕ) (m after : Managers) (before world : World) → StandFor m before → StandFor after world → AreRetired numbers m after
    → HaveRetired numbers before world
told-have numbers m after before world stand stand_after are n = are n ∙ (λ i. has_retired n (stand.rows i) (stand_after.rows i))

-- a generation that is over stays so
stays_over : (made : ℕ) (before after : List GenRow) → AreLater made before after → (number : ℕ) → is_over (row_in number before) ≡ true → is_over (row_in number after) ≡ true
stays_over made before after later number over = by (row_in number before) refl over
  where
    not_true : (b : Bool) → not b ≡ true → b ≡ false
    not_true true h = sym h
    not_true false h = refl

    by : (o : Option GenRow) → row_in number before ≡ o → is_over o ≡ true → is_over (row_in number after) ≡ true
    by None at over = absurd (false≢true over)
    by (Some row) at over =
        let f = found-later made number row before after later at in
        let ended = not_true (is_live row.status) over in
        ap is_over f.at ∙ ap not (ap is_live (f.so.over ended) ∙ ended)

-- what retired in one step and in the next
then_retired : (number : ℕ) (a b c : List GenRow) → (is_over (row_in number a) ≡ true → is_over (row_in number b) ≡ true) → (is_over (row_in number b) ≡ true → is_over (row_in number c) ≡ true)
    → (has_retired number a b || has_retired number b c) ≡ has_retired number a c
then_retired number a b c first second = by (is_over (row_in number a)) (is_over (row_in number b)) (is_over (row_in number c)) first second
  where
    by : (x y z : Bool) → (x ≡ true → y ≡ true) → (y ≡ true → z ≡ true) → ((y && not x) || (z && not y)) ≡ (z && not x)
    by true true true p q = refl
    by true true false p q = absurd (false≢true (q refl))
    by true false z p q = absurd (false≢true (p refl))
    by false true true p q = refl
    by false true false p q = absurd (false≢true (q refl))
    by false false true p q = refl
    by false false false p q = refl

-- a promotion retires those that begin to drain
promoted_more : (made : ℕ) (before world : World) → AreLater made before.rows world.rows
    → (n : ℕ) → (has_retired n before.rows world.rows || began_to_drain n world.rows (promoted world).rows) ≡ has_retired n before.rows (promoted world).rows
promoted_more made before world later n =
    (λ i. has_retired n before.rows world.rows || drained-retired n succeeded ready world.rows (promoted world).rows refl i)
    ∙ then_retired n before.rows world.rows (promoted world).rows
    (stays_over made before.rows world.rows later n)
    (stays_over made world.rows (promoted world).rows (later-promoted made succeeded ready world.rows) n)
  where
    succeeded : GenRow → Bool
    succeeded row = has_successor world.arrivals world.results world.rows row

    ready : GenRow → Bool
    ready row = is_ready_by world.arrivals world.results row

-- what retired, once all that is due serves
pub promoted-have : (numbers more : List ℕ) (m after : Managers) (before world : World) → StandFor m world → StandFor after (promoted world)
    → Grows numbers more (λ n. began_to_drain n m.core.state.table.rows after.core.state.table.rows) → AreLater before.made before.rows world.rows
    → HaveRetired numbers before world → HaveRetired more before (promoted world)
promoted-have numbers more m after before world stand stand_after drained later have n =
    drained n
    ∙ (λ i. have n i || began_to_drain n (stand.rows i) (stand_after.rows i))
    ∙ promoted_more before.made before world later n

-- the names that generations left and brought are those that began and ceased to be watched
pub names-changed : (change : NameChange) (m : Managers) (kind : Kind) (made : ℕ) (retired : List ℕ) → IsIndexed m.core.state → change.kind ≡ kind
    → change.begun
    ≡ other_than (names_lost kind made m.core.state.table.rows retired) (names_gained kind made m.core.state.table.made m.core.state.table.rows)
    → change.ended
    ≡ other_than (names_gained kind made m.core.state.table.made m.core.state.table.rows) (names_lost kind made m.core.state.table.rows retired)
    → ChangesNames m kind made retired change
names-changed change m kind made retired indexed of_kind begun ended before world stand sound later drawn have =
    let s : Part = m.core.state in
    let place : AreLater before.made before.rows s.table.rows = subst (AreLater before.made before.rows) (sym stand.rows) later in
    let same : (n : ℕ) → has_retired n before.rows s.table.rows ≡ is_one_of retired n =
    λ n. (λ i. has_retired n before.rows (stand.rows i)) ∙ sym (have n) in
    let told : (n : ℕ) → has_retired n before.rows s.table.rows ≡ true → is_one_of retired n ≡ true = λ n is. sym (same n) ∙ is in
    let back : (n : ℕ) (row : GenRow) → row_in n s.table.rows ≡ Some row → is_one_of retired n ≡ true → has_retired n before.rows s.table.rows ≡ true =
    λ n row at there. same n ∙ there in
    let was : names_watched kind before.rows ≡ watched_of before kind = names-seen kind before in
    let is : names_watched kind s.table.rows ≡ watched_of world kind = names-world s world stand kind in
    let first : change.begun ≡ other_than (watched_of before kind) (watched_of world kind) =
    begun ∙ (λ i. other_than (names_lost kind (drawn i) s.table.rows retired) (names_gained kind (drawn i) s.table.made s.table.rows))
    ∙ names-begun kind before.rows s.table.rows before.made s.table.made sound.table indexed.table place retired told back
    ∙ (λ i. other_than (was i) (is i)) in
    let second : change.ended ≡ other_than (watched_of world kind) (watched_of before kind) =
    ended ∙ (λ i. other_than (names_gained kind (drawn i) s.table.made s.table.rows) (names_lost kind (drawn i) s.table.rows retired))
    ∙ names-ended kind before.rows s.table.rows before.made s.table.made sound.table indexed.table place retired told back
    ∙ (λ i. other_than (is i) (was i)) in
    λ i. record { kind = of_kind i; begun = first i; ended = second i }
