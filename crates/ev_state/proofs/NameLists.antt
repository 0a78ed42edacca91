-- What stands in the sorted lists of names that generations left and brought.
use Rattle.std.proofs.Common.{◌≡◌, ◌∙◌, ℕ, ◌-◌, Bool, true, false, cond, not, ◌&&◌, ◌||◌, List, [], ◌∷◌, Option, None, Some, refl, ap}
use Rattle.std.specs.Prelude.{nat_le}
use Rattle.std.specs.List.{list_any, flat_map}
use Rattle.ev_types.specs.Statuses.{is_live}
use Rattle.ev_types.specs.declared.contents.Content.{Content}
use Rattle.ev_types.specs.declared.contents.Kind.{Kind}
use Rattle.ev_types.specs.declared.rows.GenRow.{GenRow}
use Rattle.ev_model.specs.Verdicts.{is_among}
use Rattle.ev_model.specs.Watching.{dependencies_of, names_awaited}
use Rattle.ev_indexes.specs.Tables.{row_in}
use Rattle.ev_lookups.specs.Keys.{named}
use Rattle.ev_lookups.specs.declared.kind_keys.Key.{Key}
use Rattle.ev_indexes.specs.Indexes.{depends_on}
use Rattle.ev_indexes.specs.Moved.{is_held, free_needs, needs_found, live_needs_found, needs_lost, needs_gained, numbers_after, names_lost, names_gained}
use Rattle.ev_indexes.specs.Needs.{is_needed, needs_of}
use Rattle.ev_indexes.proofs.NameLemmas.{among_sorted, among_failing, among_flat, among_places}

any_both : {X : Type 0} (p q : X → Bool) (b : Bool) → ((x : X) → q x ≡ (p x && b)) → (xs : List X) → list_any q xs ≡ (list_any p xs && b)
any_both p q b same [] = refl
any_both p q b same (x ∷ xs) = (λ i. same x i || any_both p q b same xs i) ∙ by (p x) (list_any p xs) b
  where
    by : (s t u : Bool) → ((s && u) || (t && u)) ≡ ((s || t) && u)
    by true true true = refl
    by true true false = refl
    by true false true = refl
    by true false false = refl
    by false t u = refl

-- a row that is found needs the name
abbrev pub needs_it : Key → Option GenRow → Bool
needs_it key None = false
needs_it key (Some row) = is_needed key (dependencies_of row.content)

-- a row that is found is live, and depends on the name
abbrev pub is_watcher : Key → Option GenRow → Bool
is_watcher key None = false
is_watcher key (Some row) = depends_on key row

module _ (kind : Kind) (made : ℕ) (rows : List GenRow) (name : List ℕ) where
  abbrev key : Key
  key = named kind name

  among_free : (content : Content) → is_among name (free_needs kind made rows content) ≡ (is_needed key (dependencies_of content) && not (is_held made rows key))
  among_free content =
      among_failing (λ n. is_held made rows (named kind n)) (names_awaited kind (needs_of content)) name
      ∙ ap (λ b. b && not (is_held made rows key)) (among_places kind name content)

  among_lost : (number : ℕ) → is_among name (needs_lost kind made rows number) ≡ ((nat_le number made && needs_it key (row_in number rows)) && not (is_held made rows key))
  among_lost number = by (nat_le number made) (row_in number rows)
    where
      by : (b : Bool) (o : Option GenRow) → is_among name (cond b (needs_found kind made rows o) []) ≡ ((b && needs_it key o) && not (is_held made rows key))
      by true None = refl
      by true (Some row) = among_free row.content
      by false o = refl

  among_gained : (number : ℕ) → is_among name (needs_gained kind made rows number) ≡ (is_watcher key (row_in number rows) && not (is_held made rows key))
  among_gained number = by (row_in number rows)
    where
      over : (row : GenRow) (b : Bool) → is_among name (cond b (free_needs kind made rows row.content) []) ≡ ((b && is_needed key (dependencies_of row.content)) && not (is_held made rows key))
      over row true = among_free row.content
      over row false = refl

      by : (o : Option GenRow) → is_among name (live_needs_found kind made rows o) ≡ (is_watcher key o && not (is_held made rows key))
      by None = refl
      by (Some row) = over row (is_live row.status)

  pub among-lost : (numbers : List ℕ)
      → is_among name (names_lost kind made rows numbers) ≡ (list_any (λ n. nat_le n made && needs_it key (row_in n rows)) numbers && not (is_held made rows key))
  among-lost numbers =
      among_sorted (flat_map (needs_lost kind made rows) numbers) name ∙ among_flat (needs_lost kind made rows) numbers name
      ∙ any_both (λ n. nat_le n made && needs_it key (row_in n rows)) (λ n. is_among name (needs_lost kind made rows n)) (not (is_held made rows key)) among_lost numbers

  pub among-gained : (drawn : ℕ)
      → is_among name (names_gained kind made drawn rows)
      ≡ (list_any (λ n. is_watcher key (row_in n rows)) (numbers_after made (drawn - made)) && not (is_held made rows key))
  among-gained drawn =
      among_sorted (flat_map (needs_gained kind made rows) (numbers_after made (drawn - made))) name ∙ among_flat (needs_gained kind made rows) (numbers_after made (drawn - made)) name
      ∙ any_both (λ n. is_watcher key (row_in n rows)) (λ n. is_among name (needs_gained kind made rows n)) (not (is_held made rows key)) among_gained (numbers_after made (drawn - made))
