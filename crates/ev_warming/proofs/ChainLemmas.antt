-- The chains that an update keeps of the generation that serves: those that are found by their texts.
use Rattle.std.proofs.Common.{◌≡◌, ◌∙◌, ℕ, ◌+◌, Bool, true, false, cond, ◌&&◌, nat_eq, List, [], ◌∷◌, ◌++◌, find, Option, None, Some, option_map, option_to_list, append_assoc, refl, sym, ap, true≢false}
use Rattle.std.specs.Prelude.{filter, filter_map}
use Rattle.std.specs.Option.{option_or, option_and_then}
use Rattle.std.specs.List.{IsDistinct, cons_option}
use Rattle.std.proofs.lemmas.Map.Keys.{IsDistinct-tail}
use Rattle.std.specs.Str.{bytes_eq}
use Rattle.std.proofs.lemmas.Bool.{eq-eqb, false_from_ne_true}
use Rattle.std.proofs.lemmas.List.Elements.{filter_map-append}
use Rattle.std.proofs.lemmas.List.Folds.{find-append}
use Rattle.std.proofs.Math.Bool.{or-false}
use Rattle.ev_types.specs.Same.{bytes_decide}
use Rattle.ev_types.specs.Statuses.{is_active}
use Rattle.ev_types.specs.declared.contents.Content.{Content}
use Rattle.ev_types.specs.declared.contents.Content.TheVariants.{Cluster as a_cluster, Assignment as an_assignment, Listener as a_listener, Routes as routes, Secret as a_secret, Extension as an_extension}
use Rattle.ev_types.specs.declared.contents.Kind.{Kind}
use Rattle.ev_types.specs.declared.listeners.FilterChain.{FilterChain}
use Rattle.ev_types.specs.declared.listeners.Listener.{Listener}
use Rattle.ev_types.specs.declared.origins.ChainPlace.{ChainPlace}
use Rattle.ev_types.specs.declared.origins.ChainPlace.TheVariants.{At, Default}
use Rattle.ev_types.specs.declared.origins.KeptChain.{KeptChain}
use Rattle.ev_types.specs.declared.origins.Origin.{Origin}
use Rattle.ev_types.specs.declared.rows.GenRow.{GenRow}
use Rattle.ev_model.specs.Origins.{PlacedChain, kept_as, kept_of, origin_at, placed_default, placed_from, placed_in, stays_as}
use Rattle.ev_model.specs.Rows.{is_row_of, serving_row}
use Rattle.ev_indexes.specs.Tables.{row_in, numbers_of}
use Rattle.ev_lookups.specs.Keys.{named}
use Rattle.ev_indexes.specs.declared.state.State.{State}
use Rattle.ev_indexes.specs.Due.{is_one_of}
use Rattle.ev_indexes.specs.Indexes.{IsIndexed, numbers_where, passes, serves}
use Rattle.ev_indexes.specs.Standings.{standing_in}
use Rattle.ev_indexes.proofs.WhereLemmas.{among-row}
use Rattle.ev_warming.specs.Chains.{default_kept, origin_by}

-- a chain at this place that began there
abbrev pub kept_chain : ChainPlace → Origin → KeptChain
kept_chain place origin = record { place = place; origin = origin }

-- texts are equal either way
turned : (a b : List ℕ) → bytes_eq a b ≡ bytes_eq b a
turned a b = by (bytes_eq a b) refl
  where
    by : (t : Bool) → bytes_eq a b ≡ t → t ≡ bytes_eq b a
    by true e = sym ((bytes_decide b a).1 (sym ((bytes_decide a b).0 e)))
    by false e = sym (false_from_ne_true (bytes_eq b a) (λ h. true≢false (sym ((bytes_decide a b).1 (sym ((bytes_decide b a).0 h))) ∙ e)))

-- one more chain before the others
pub origin-more : (row : GenRow) (chain : PlacedChain) (chains : List PlacedChain) (text : List ℕ)
    → origin_by row (chain ∷ chains) text ≡ cond (bytes_eq chain.chain.body_text text) (Some (origin_at row.number row.kept chain.place)) (origin_by row chains text)
origin-more row chain chains text = by (bytes_eq chain.chain.body_text text)
  where
    by : (b : Bool) → option_map (λ (c : PlacedChain). origin_at row.number row.kept c.place) (cond b (Some chain) (find (λ (c : PlacedChain). bytes_eq c.chain.body_text text) chains))
        ≡ cond b (Some (origin_at row.number row.kept chain.place)) (origin_by row chains text)
    by true = refl
    by false = refl

-- among the chains that are matched, a chain is found by its text
find-text : (place start : ℕ) (chain : FilterChain) (chains : List FilterChain)
    → find (stays_as (record { place = At place; chain = chain })) (placed_from start chains)
    ≡ find (λ (c : PlacedChain). bytes_eq c.chain.body_text chain.body_text) (placed_from start chains)
find-text place start chain [] = refl
find-text place start chain (c ∷ chains) =
    λ i. cond (turned chain.body_text c.body_text i) (Some (record { place = At start; chain = c })) (find-text place (start + 1) chain chains i)

-- a default chain isn't one of them
find-default : (start : ℕ) (chain : FilterChain) (chains : List FilterChain) → find (stays_as (placed_default chain)) (placed_from start chains) ≡ None
find-default start chain [] = refl
find-default start chain (c ∷ chains) = find-default (start + 1) chain chains

find-other : (place : ℕ) (chain : FilterChain) (default : Option FilterChain)
    → find (stays_as (record { place = At place; chain = chain })) (option_to_list (option_map placed_default default)) ≡ None
find-other place chain None = refl
find-other place chain (Some c) = refl

module _ (row : GenRow) (before : List FilterChain) (default : Option FilterChain) where
  abbrev all : List PlacedChain
  all = placed_from 0 before ++ option_to_list (option_map placed_default default)

  -- a chain that is matched is kept by its text
  matched : (place : ℕ) (chain : FilterChain)
      → kept_as row all (record { place = At place; chain = chain })
      ≡ option_map (kept_chain (At place)) (origin_by row (placed_from 0 before) chain.body_text)
  matched place chain =
      ap (option_map (λ (b : PlacedChain). kept_chain (At place) (origin_at row.number row.kept b.place)))
      (find-append (stays_as (record { place = At place; chain = chain })) (placed_from 0 before) (option_to_list (option_map placed_default default))
      ∙ (λ i. option_or (find-text place 0 chain before i) (find-other place chain default i)))
      ∙ by (find (λ (c : PlacedChain). bytes_eq c.chain.body_text chain.body_text) (placed_from 0 before))
    where
      by : (o : Option PlacedChain)
          → option_map (λ (b : PlacedChain). kept_chain (At place) (origin_at row.number row.kept b.place)) (option_or o None)
          ≡ option_map (kept_chain (At place)) (option_map (λ (c : PlacedChain). origin_at row.number row.kept c.place) o)
      by None = refl
      by (Some c) = refl

  all-matched : (kept : PlacedChain → Option KeptChain)
      → ((place : ℕ) (chain : FilterChain) → kept (record { place = At place; chain = chain })
      ≡ option_map (kept_chain (At place)) (origin_by row (placed_from 0 before) chain.body_text))
      → (start : ℕ) (chains : List FilterChain) → filter_map kept (placed_from start chains) ≡ filter_map (kept_as row all) (placed_from start chains)
  all-matched kept are start [] = refl
  all-matched kept are start (chain ∷ chains) =
      λ i. cons_option ((are start chain ∙ sym (matched start chain)) i) (all-matched kept are (start + 1) chains i)

  -- a default chain is kept by the default chain before
  defaulted : (update : Option FilterChain) → option_to_list (default_kept row default update) ≡ filter_map (kept_as row all) (option_to_list (option_map placed_default update))
  defaulted None = by default
    where
      by : (d : Option FilterChain) → option_to_list (default_kept row d None) ≡ []
      by None = refl
      by (Some c) = refl
  defaulted (Some chain) =
      by default
      ∙ (λ i. cons_option (option_map (λ (b : PlacedChain). kept_chain Default (origin_at row.number row.kept b.place)) (sym found i)) [])
    where
      found : find (stays_as (placed_default chain)) all ≡ find (stays_as (placed_default chain)) (option_to_list (option_map placed_default default))
      found =
          find-append (stays_as (placed_default chain)) (placed_from 0 before) (option_to_list (option_map placed_default default))
          ∙ (λ i. option_or (find-default 0 chain before i) (find (stays_as (placed_default chain)) (option_to_list (option_map placed_default default))))

      one : (d : FilterChain) (b : Bool)
          → option_to_list (cond b (Some (kept_chain Default (origin_at row.number row.kept Default))) None)
          ≡ cons_option (option_map (λ (c : PlacedChain). kept_chain Default (origin_at row.number row.kept c.place)) (cond b (Some (placed_default d)) None)) []
      one d true = refl
      one d false = refl

      by : (d : Option FilterChain) → option_to_list (default_kept row d (Some chain))
          ≡ cons_option (option_map (λ (b : PlacedChain). kept_chain Default (origin_at row.number row.kept b.place)) (find (stays_as (placed_default chain)) (option_to_list (option_map placed_default d)))) []
      by None = refl
      by (Some d) = one d (bytes_eq chain.body_text d.body_text)

  -- the chains of an update that are kept
  pub all-kept : (kept : PlacedChain → Option KeptChain)
      → ((place : ℕ) (chain : FilterChain) → kept (record { place = At place; chain = chain })
      ≡ option_map (kept_chain (At place)) (origin_by row (placed_from 0 before) chain.body_text))
      → (chains : List FilterChain) (update : Option FilterChain)
      → filter_map kept (placed_from 0 chains) ++ option_to_list (default_kept row default update)
      ≡ filter_map (kept_as row all) (placed_from 0 chains ++ option_to_list (option_map placed_default update))
  all-kept kept are chains update =
      (λ i. all-matched kept are 0 chains i ++ defaulted update i)
      ∙ sym (filter_map-append (kept_as row all) (placed_from 0 chains) (option_to_list (option_map placed_default update)))

-- one more chain that may be kept, before the others
pub kept-more : (kept : List KeptChain) (one : Option KeptChain) (rest : List KeptChain) → (kept ++ option_to_list one) ++ rest ≡ kept ++ cons_option one rest
kept-more kept None rest = append_assoc kept [] rest
kept-more kept (Some chain) rest = append_assoc kept (chain ∷ []) rest

-- of no chains none is kept
none-kept : (row : GenRow) (chains : List PlacedChain) → filter_map (kept_as row []) chains ≡ []
none-kept row [] = refl
none-kept row (chain ∷ chains) = none-kept row chains

-- of what is no listener no chain is kept
pub kept-of-other : (row : GenRow) (content : Content) → ((listener : Listener) → row.content ≡ a_listener listener → ⊥) → kept_of row content ≡ []
kept-of-other row content other = by row.content other
  where
    by : (before : Content) → ((listener : Listener) → before ≡ a_listener listener → ⊥) → filter_map (kept_as row (placed_in before)) (placed_in content) ≡ []
    by (a_listener listener) other = absurd (other listener refl)
    by (a_cluster cluster) other = none-kept row (placed_in content)
    by (an_assignment rows) other = none-kept row (placed_in content)
    by (routes table) other = none-kept row (placed_in content)
    by a_secret other = none-kept row (placed_in content)
    by an_extension other = none-kept row (placed_in content)

-- and no chain of what is no listener
pub kept-by-other : (row : GenRow) (content : Content) → ((listener : Listener) → content ≡ a_listener listener → ⊥) → kept_of row content ≡ []
kept-by-other row (a_listener listener) other = absurd (other listener refl)
kept-by-other row (a_cluster cluster) other = refl
kept-by-other row (an_assignment rows) other = refl
kept-by-other row (routes table) other = refl
kept-by-other row a_secret other = refl
kept-by-other row an_extension other = refl

-- the first row that passes, where one alone does
find-one : (test : GenRow → Bool) (n : ℕ) (rows : List GenRow) → IsDistinct nat_eq (numbers_of rows) → numbers_where test rows ≡ n ∷ [] → find test rows ≡ row_in n rows
find-one test n [] apart is = cc
find-one test n (row ∷ rows) apart is =
    by (test row) refl (nat_eq n row.number) refl is (find-one test n rows (IsDistinct-tail nat_eq row.number (numbers_of rows) apart))
  where
    among : is_one_of (numbers_where test (row ∷ rows)) n ≡ true
    among = (λ i. is_one_of (is i) n) ∙ or-false (nat_eq n n) ∙ eq-eqb n n refl

    passing : passes test (row_in n (row ∷ rows)) ≡ true
    passing = sym (among-row test n (row ∷ rows) apart) ∙ among

    by : (t : Bool) → test row ≡ t → (b : Bool) → nat_eq n row.number ≡ b → numbers_of (cond t (row ∷ filter test rows) (filter test rows)) ≡ n ∷ []
        → (numbers_where test rows ≡ n ∷ [] → find test rows ≡ row_in n rows)
        → cond t (Some row) (find test rows) ≡ cond b (Some row) (row_in n rows)
    by true e true f is rest = refl
    by true e false f is rest =
        let same : row.number ≡ n = cc in
        absurd (true≢false (sym (eq-eqb n row.number (sym same)) ∙ f))
    by false e true f is rest = absurd (true≢false (sym passing ∙ (λ i. passes test (cond (f i) (Some row) (row_in n rows))) ∙ e))
    by false e false f is rest = rest is

-- and none, where none does
find-none : (test : GenRow → Bool) (rows : List GenRow) → numbers_where test rows ≡ [] → find test rows ≡ None
find-none test [] is = refl
find-none test (row ∷ rows) is = by (test row) is (find-none test rows)
  where
    by : (t : Bool) → numbers_of (cond t (row ∷ filter test rows) (filter test rows)) ≡ [] → (numbers_where test rows ≡ [] → find test rows ≡ None) → cond t (Some row) (find test rows) ≡ None
    by true is rest = cc
    by false is rest = rest is

-- the row that serves a name
pub serving-in : (s : State) → IsIndexed s → (kind : Kind) (name : List ℕ)
    → serving_row kind name s.table.rows ≡ option_and_then (λ n. row_in n s.table.rows) (standing_in s.names (named kind name)).active
serving-in s x kind name =
    find-same (λ (row : GenRow). is_row_of kind name row && is_active row.status) (serves (named kind name)) (λ row. swapped (is_row_of kind name row) (is_active row.status)) s.table.rows
    ∙ by (standing_in s.names (named kind name)).active refl
  where
    swapped : (a b : Bool) → (a && b) ≡ (b && a)
    swapped true true = refl
    swapped true false = refl
    swapped false true = refl
    swapped false false = refl

    find-same : (p q : GenRow → Bool) → ((row : GenRow) → p row ≡ q row) → (rows : List GenRow) → find p rows ≡ find q rows
    find-same p q same [] = refl
    find-same p q same (row ∷ rows) = λ i. cond (same row i) (Some row) (find-same p q same rows i)

    by : (o : Option ℕ) → (standing_in s.names (named kind name)).active ≡ o → find (serves (named kind name)) s.table.rows ≡ option_and_then (λ n. row_in n s.table.rows) o
    by None e = find-none (serves (named kind name)) s.table.rows (sym (x.active (named kind name)) ∙ ap option_to_list e)
    by (Some n) e = find-one (serves (named kind name)) n s.table.rows x.table.apart (sym (x.active (named kind name)) ∙ ap option_to_list e)
