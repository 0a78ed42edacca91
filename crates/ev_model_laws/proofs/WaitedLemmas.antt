-- In format 2 a listener that has served is destroyed only when its drain timeout has come.
use Rattle.std.proofs.Common.{◌≡◌, ℕ, ◌<◌, ◌≤◌, ◌+◌, Bool, true, false, not, ◌&&◌, ◌||◌, ◌==◌, List, [], ◌∷◌, length, refl, sym, ap, ap₂, ◌∙◌, subst, arith}
use Rattle.std.specs.Str.{bytes_eq}
use Rattle.std.specs.Cmp.{first_so, second_so}
use Rattle.std.specs.List.{list_any, Contains}
use Rattle.std.proofs.lemmas.Bool.{both_ways, and_from, and_left, or_from, or_parts, not-false}
use Rattle.std.proofs.lemmas.List.Folds.{list_any-append}
use Rattle.std.proofs.lemmas.Option.{slice_get_within}
use Rattle.ev_types.specs.Kinds.{kind_same, kind_decides}
use Rattle.ev_types.specs.Same.{bytes_decide, numbers_decide}
use Rattle.ev_types.specs.declared.contents.Kind.{Kind}
use Rattle.ev_types.specs.declared.contents.Kind.TheVariants.{Lds}
use Rattle.ev_types.specs.declared.journals.Format.{Format}
use Rattle.ev_types.specs.declared.journals.Format.TheVariants.{Two}
use Rattle.ev_types.specs.declared.rows.GenRow.{GenRow}
use Rattle.ev_types.specs.declared.rows.Phase.{Phase}
use Rattle.ev_types.specs.declared.rows.RowStatus.{RowStatus}
use Rattle.ev_types.specs.declared.rows.RowStatus.TheVariants.{Active}
use Rattle.ev_model.specs.World.{World}
use Rattle.ev_model.specs.Rows.{is_row_of, with_statuses, replaced_status, new_row}
use Rattle.ev_model.specs.Tidy.{has_successor, promoted_status}
use Rattle.ev_model.specs.Warming.{is_ready_by}
use Rattle.ev_model.specs.Picture.{has_number}
use Rattle.ev_model.specs.Dead.{is_in_use, waits_for_timer}
use Rattle.ev_model.specs.Laws.{Told, world_told, StandsAt, HasWaited, Waited}
use Rattle.ev_model_laws.specs.Kept.{has_served, HasExpired, HasParts}
use Rattle.ev_model_laws.proofs.TidyLists.{any_at}
use Rattle.ev_model_laws.proofs.KeepLemmas.{removed_where, Keeps, step-keeps}
use Rattle.ev_model_laws.proofs.AnyLemmas.{any_so, any_mapped}
use Rattle.ev_model_laws.proofs.MemberLemmas.{removed_served, replaced_served, promoted_served}
use Rattle.ev_model_laws.proofs.DrawnLemmas.{is_numbered, numbered_within, none_left, none_so, next_apart}
use Rattle.ev_model_laws.proofs.HiddenLemmas.{unserved_back}
use Rattle.ev_model_laws.proofs.PlaceLemmas.{Runs, world_next, over_places}
use Rattle.ev_model_laws.proofs.RunParts.{parts_kept}
use Rattle.ev_model_laws.proofs.LawLemmas.{HasDead, reaps_dead, one_passes, passes_by, not_held}

-- the row is a listener of this name that has served
abbrev has_listened : List ℕ → GenRow → Bool
has_listened name row = is_row_of Lds name row && has_served row.status

-- the row is of this number, and isn't that
abbrev is_other : ℕ → List ℕ → GenRow → Bool
is_other number name row = (row.number == number) && not (has_listened name row)

others_with : (number : ℕ) (name : List ℕ) (status_of : GenRow → RowStatus) (rows : List GenRow)
    → ((row : GenRow) → has_served row.status ≡ true → has_served (status_of row) ≡ true)
    → list_any (is_other number name) rows ≡ false → list_any (is_other number name) (with_statuses status_of rows) ≡ false
others_with number name status_of rows stays none =
    any_mapped (is_other number name) (λ (row : GenRow). record row { status = status_of row }) rows
    ∙ none_so (λ (row : GenRow). is_other number name (record row { status = status_of row })) (is_other number name) rows
    (λ (row : GenRow) passes.
    and_from (row.number == number) (not (has_listened name row))
    (first_so (row.number == number) (not (is_row_of Lds name row && has_served (status_of row))) passes)
    (unserved_back (has_listened name row) (is_row_of Lds name row && has_served (status_of row))
    (λ listened.
    and_from (is_row_of Lds name row) (has_served (status_of row)) (first_so (is_row_of Lds name row) (has_served row.status) listened)
    (stays row (second_so (is_row_of Lds name row) (has_served row.status) listened)))
    (second_so (row.number == number) (not (is_row_of Lds name row && has_served (status_of row))) passes)))
    none

keeps_others : (number : ℕ) (name : List ℕ) → Keeps (λ rows made (phase : Phase). (number ≤ made) × (list_any (is_other number name) rows ≡ false))
keeps_others number name = record {
  removed = λ goes rows made phase fact.
      (fact.0, others_with number name (removed_where goes) rows (λ row. removed_served (goes row) row.status) fact.1);
  added = λ kind other content kept rows made phase fact. (
    omega (arith, fact.0),
    list_any-append (is_other number name) (with_statuses (replaced_status kind other) rows) (new_row kind made other content kept ∷ [])
        ∙ or_from _ _
        (others_with number name (replaced_status kind other) rows (λ row. replaced_served (is_row_of kind other row) row.status) fact.1)
        (or_from (is_other number name (new_row kind made other content kept)) false
        (and_left (made + 1 == number) (not (has_listened name (new_row kind made other content kept))) (next_apart number made fact.0)) refl),
  );
  left = λ test rows made phase fact. (fact.0, none_left (is_other number name) test rows fact.1);
  tidied = λ world fact. (
    fact.0,
    others_with number name (promoted_status world.arrivals world.results world.rows) world.rows
        (λ row. promoted_served (has_successor world.arrivals world.results world.rows row) (is_ready_by world.arrivals world.results row) row.status)
        fact.1,
  );
}

-- each row of this number is a listener of this name that has served, and the number was allocated
abbrev HasListened : ℕ → List ℕ → World → Type 0
HasListened number name world = (number ≤ world.made) × (list_any (is_other number name) world.rows ≡ false)

listened_at : (told : Told) (j number : ℕ) (name : List ℕ) → HasParts told j → StandsAt told j number Lds name Active → HasListened number name (world_told told j)
listened_at told j number name parts at =
    let world : World = world_told told j in
    let here : list_any (λ (row : GenRow). (row.number == number) && has_listened name row) world.rows ≡ true =
    any_at (λ (row : GenRow). (row.number == number) && has_listened name row) world.rows at.row at.among
    (and_from (at.row.number == number) (has_listened name at.row) ((numbers_decide at.row.number number).1 at.numbered)
    (and_from (is_row_of Lds name at.row) (has_served at.row.status)
    (and_from (kind_same at.row.kind Lds) (bytes_eq at.row.name name) ((kind_decides at.row.kind Lds).1 at.of_kind) ((bytes_decide at.row.name name).1 at.named))
    (ap has_served at.stands))) in (
      (numbered_within number 0 world.rows world.made parts.drawn.rows
          (any_so (λ (row : GenRow). (row.number == number) && has_listened name row) (is_numbered number) world.rows
          (λ (row : GenRow). first_so (row.number == number) (has_listened name row)) here)).1,
      one_passes (has_listened name) number 0 world.rows world.made parts.drawn.rows here,
    )

-- so has each row of the number at a later place
listened_later : (told : Told) (j k number : ℕ) (name : List ℕ) → HasListened number name (world_told told j) → j ≤ k → k ≤ length told.journal
    → HasListened number name (world_told told k)
listened_later told j k number name here from le =
    over_places told (λ place. HasListened number name (world_told told place)) j here
    (λ place entry behind there holds.
    subst (HasListened number name) (sym (world_next told place entry there))
    (step-keeps _ (keeps_others number name) told.format (world_told told place) entry.actor entry.event holds))
    k from le

row_listened : (number : ℕ) (name : List ℕ) (world : World) (row : GenRow) → HasListened number name world → Contains world.rows row → row.number ≡ number
    → has_listened name row ≡ true
row_listened number name world row listened among numbered =
    passes_by (has_listened name row)
    (λ fails.
    both_ways (list_any (is_other number name) world.rows) listened.1
    (any_at (is_other number name) world.rows row among
    (and_from (row.number == number) (not (has_listened name row)) ((numbers_decide row.number number).1 numbered) (ap not fails))))

same_name : (row : GenRow) (name other : List ℕ) → is_row_of Lds name row ≡ true → row.name ≡ other → other ≡ name
same_name row name other is named = sym named ∙ (bytes_decide row.name name).0 (second_so (kind_same row.kind Lds) (bytes_eq row.name name) is)

timer_came : (format : Format) (kind : Kind) (marked : Bool) → format ≡ Two → kind ≡ Lds → (waits_for_timer format kind && not marked) ≡ false → marked ≡ true
timer_came format kind marked two listener h =
    not-false marked (sym (ap₂ (λ (f : Format) (k : Kind). waits_for_timer f k && not marked) two listener) ∙ h)

-- what is marked as expired has waited under the name that its rows have
expired_waited : (told : Told) (k number : ℕ) (name : List ℕ) → HasListened number name (world_told told k) → HasExpired told number k → HasWaited told number name k
expired_waited told k number name listened expired =
    let is : has_listened name expired.draining.row ≡ true =
    row_listened number name (world_told told k) expired.draining.row listened expired.draining.among expired.draining.numbered in
    let same : expired.name ≡ name =
    same_name expired.draining.row name expired.name (first_so (is_row_of Lds name expired.draining.row) (has_served expired.draining.row.status) is)
    expired.draining.named in
    subst (λ n. HasWaited told number n k) same expired.waited

-- a listener that has served is destroyed only when its drain timeout has come
pub runs_waited : (told : Told) → Runs told → Waited told
runs_waited told run j k number name two from at reaps =
    let world : World = world_told told k in
    let within : k < length told.journal = slice_get_within told.journal k reaps.entry reaps.there in
    let parts : HasParts told k = parts_kept told run k (omega arith) in
    let listened : HasListened number name world =
    listened_later told j k number name (listened_at told j number name (parts_kept told run j (omega arith)) at) from (omega arith) in
    let dead : HasDead told.format world number = reaps_dead told k number run reaps in
    let is : has_listened name dead.row ≡ true = row_listened number name world dead.row listened dead.among dead.numbered in
    let named : is_row_of Lds name dead.row ≡ true = first_so (is_row_of Lds name dead.row) (has_served dead.row.status) is in
    let held : Bool = waits_for_timer told.format dead.row.kind && not (has_number dead.row.number world.expired) in
    let marked : has_number dead.row.number world.expired ≡ true =
    timer_came told.format dead.row.kind (has_number dead.row.number world.expired) two
    ((kind_decides dead.row.kind Lds).0 (first_so (kind_same dead.row.kind Lds) (bytes_eq dead.row.name name) named))
    (or_parts (is_in_use world dead.row.number) held
    (not_held dead.row.status (is_in_use world dead.row.number || held) (second_so (is_row_of Lds name dead.row) (has_served dead.row.status) is) dead.dead)).1 in
    expired_waited told k number name listened
    (parts.expires number (subst (λ n. has_number n world.expired ≡ true) dead.numbered marked))
