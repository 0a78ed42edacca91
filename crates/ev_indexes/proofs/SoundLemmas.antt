-- Sound worlds: other statuses and a new row keep a world sound.
use Rattle.std.proofs.Common.{◌≡◌, ◌∙◌, ℕ, ◌+◌, ◌<◌, Bool, true, false, cond, nat_eq, List, [], ◌∷◌, ◌++◌, None, Some, option_map, refl, sym, ap, subst, arith}
use Rattle.std.specs.List.{IsDistinct, AllByRecursion}
use Rattle.std.specs.Option.{option_or}
use Rattle.std.proofs.lemmas.Bool.{ne_eqb}
use Rattle.std.proofs.lemmas.List.Folds.{find-append}
use Rattle.ev_types.specs.Items.{content_kind}
use Rattle.ev_types.specs.Texts.{IsName}
use Rattle.ev_types.specs.declared.contents.Kind.{Kind}
use Rattle.ev_types.specs.declared.contents.Content.{Content}
use Rattle.ev_types.specs.declared.rows.RowStatus.{RowStatus}
use Rattle.ev_types.specs.declared.origins.KeptChain.{KeptChain}
use Rattle.ev_types.specs.declared.rows.GenRow.{GenRow}
use Rattle.ev_model.specs.World.{World}
use Rattle.ev_model.specs.Rows.{with_statuses, replaced_status, new_row, rows_with_new}
use Rattle.ev_indexes.specs.Tables.{is_number, row_in, numbers_of}
use Rattle.ev_indexes.proofs.TableLemmas.{numbers_of-with_statuses, row_in-with_statuses}
use Rattle.ev_indexes.specs.declared.state.State.{State}
use Rattle.ev_indexes.specs.Worlds.{IsSound, HasRows}
use Rattle.ev_indexes.proofs.WhereLemmas.{row_with, flipped}

-- what doesn't look at statuses holds of rows with other ones
pub all-with_statuses : (P : GenRow → Type 0) (f : GenRow → RowStatus) → ((status : RowStatus) (r : GenRow) → P r → P (row_with status r))
    → (rows : List GenRow) → AllByRecursion P rows → AllByRecursion P (with_statuses f rows)
all-with_statuses P f steady [] all = tt
all-with_statuses P f steady (row ∷ rows) all = (steady (f row) row all.0, all-with_statuses P f steady rows all.1)

pub all-push : (P : GenRow → Type 0) (rows : List GenRow) (row : GenRow) → AllByRecursion P rows → P row → AllByRecursion P (rows ++ row ∷ [])
all-push P [] row all p = (p, tt)
all-push P (r ∷ rows) row all p = (all.0, all-push P rows row all.1 p)

-- the rows of a state that represents a world have contents of their kinds
pub contents-of : (s : State) (world : World) → HasRows s world → AllByRecursion (λ (r : GenRow). content_kind r.content ≡ r.kind) s.table.rows
contents-of s world stands = subst (AllByRecursion (λ (r : GenRow). content_kind r.content ≡ r.kind)) (sym stands.rows) stands.sound.typed

pub sound-with_statuses : (world : World) (f : GenRow → RowStatus) → IsSound world → IsSound (record world { rows = with_statuses f world.rows })
sound-with_statuses world f sound = record {
  table = record {
    apart = subst (IsDistinct nat_eq) (sym (numbers_of-with_statuses f world.rows)) sound.table.apart;
    drawn = λ n above. row_in-with_statuses n f world.rows ∙ ap (option_map (λ (row : GenRow). record row { status = f row })) (sound.table.drawn n above);
  };
  typed = all-with_statuses (λ (r : GenRow). content_kind r.content ≡ r.kind) f (λ status r typed. typed) world.rows sound.typed;
  named = all-with_statuses (λ (r : GenRow). IsName r.name) f (λ status r named. named) world.rows sound.named;
  heard = sound.heard;
}

-- numbers that differ, and one more
apart-push : (row : GenRow) (rows : List GenRow) → row_in row.number rows ≡ None → IsDistinct nat_eq (numbers_of rows) → IsDistinct nat_eq (numbers_of (rows ++ row ∷ []))
unfolding IsDistinct
apart-push row [] none apart = (tt, tt)
apart-push row (r ∷ rows) none apart = by (nat_eq row.number r.number) refl none (λ h. apart-push row rows h apart.1)
  where
    far : (rs : List GenRow) → nat_eq r.number row.number ≡ false → AllByRecursion (λ y. nat_eq r.number y ≡ false) (numbers_of rs)
        → AllByRecursion (λ y. nat_eq r.number y ≡ false) (numbers_of (rs ++ row ∷ []))
    far [] away all = (away, tt)
    far (q ∷ rs) away all = (all.0, far rs away all.1)

    by : (b : Bool) → nat_eq row.number r.number ≡ b → cond b (Some r) (row_in row.number rows) ≡ None
        → (row_in row.number rows ≡ None → IsDistinct nat_eq (numbers_of (rows ++ row ∷ [])))
        → IsDistinct nat_eq (r.number ∷ numbers_of (rows ++ row ∷ []))
    by true e h rest = cc
    by false e h rest = (far rows (flipped r.number row.number ∙ e) apart.0, rest h)

-- a world with a new row stays sound
module _ (world : World) (kind : Kind) (name : List ℕ) (content : Content) (kept : List KeptChain) (sound : IsSound world) where
  abbrev old : List GenRow
  old = with_statuses (replaced_status kind name) world.rows

  abbrev new : GenRow
  new = new_row kind world.made name content kept

  absent : (n : ℕ) → world.made < n → row_in n old ≡ None
  absent n above =
      row_in-with_statuses n (replaced_status kind name) world.rows
      ∙ ap (option_map (λ (row : GenRow). record row { status = replaced_status kind name row })) (sound.table.drawn n above)

  pub sound-added : IsName name → content_kind content ≡ kind → IsSound (record world { rows = rows_with_new kind world.made name content kept world.rows; made = world.made + 1 })
  sound-added named typed = record {
    table = record {
      apart = apart-push new old (absent (world.made + 1) (omega arith)) (subst (IsDistinct nat_eq) (sym (numbers_of-with_statuses (replaced_status kind name) world.rows)) sound.table.apart);
      drawn = λ n above.
          find-append (is_number n) old (new ∷ [])
          ∙ (λ i. option_or (absent n (omega arith) i) (cond (ne_eqb n (world.made + 1) (λ e. absurd (omega arith)) i) (Some new) None));
    };
    typed = all-push (λ (r : GenRow). content_kind r.content ≡ r.kind) old new
        (all-with_statuses (λ (r : GenRow). content_kind r.content ≡ r.kind) (replaced_status kind name) (λ status r h. h) world.rows sound.typed) typed;
    named = all-push (λ (r : GenRow). IsName r.name) old new
        (all-with_statuses (λ (r : GenRow). IsName r.name) (replaced_status kind name) (λ status r h. h) world.rows sound.named) named;
    heard = λ n h above. sound.heard n h (omega arith);
  }
