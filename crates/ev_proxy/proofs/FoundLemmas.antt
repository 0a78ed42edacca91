-- What is shown of a world, by number: that of the row of the number, where it serves.
use Rattle.std.proofs.Common.{◌≡◌, ◌∙◌, ℕ, Bool, true, false, ◌&&◌, ◌||◌, ◌==◌, cond, List, [], ◌∷◌, ◌++◌, ◌⊎◌, inl, inr, Option, Some, None, filter, find, map, refl, sym, ap, subst}
use Rattle.std.specs.List.{AllByRecursion, IsDistinct, flat_map, list_any}
use Rattle.std.specs.Option.{option_and_then}
use Rattle.std.specs.Str.{bytes_eq}
use Rattle.std.proofs.lemmas.Bool.{or_parts}
use Rattle.ev_types.specs.Kinds.{kind_same}
use Rattle.ev_types.specs.Statuses.{is_active}
use Rattle.ev_types.specs.declared.contents.Kind.{Kind}
use Rattle.ev_types.specs.declared.contents.Kind.TheVariants.{Cds, Lds}
use Rattle.ev_types.specs.declared.contents.Content.{Content}
use Rattle.ev_types.specs.declared.contents.Content.TheVariants.{Listener as a_listener}
use Rattle.ev_types.specs.declared.rows.GenRow.{GenRow}
use Rattle.ev_model.specs.declared.pictures.ServedCluster.{ServedCluster}
use Rattle.ev_model.specs.declared.pictures.ServedListener.{ServedListener}
use Rattle.ev_model.specs.Picture.{active_rows, served_cluster, served_clusters, served_listener, served_listeners}
use Rattle.ev_model.specs.Phase.{is_serving}
use Rattle.ev_model.specs.Versions.{is_before}
use Rattle.ev_model.specs.World.{World}
use Rattle.ev_indexes.specs.Tables.{row_in}
use Rattle.ev_indexes.specs.Shown.{cluster_at, cluster_shown, first_of, listener_at, listener_shown}
use Rattle.ev_retirement.specs.Holders.{AreNumbered}
use Rattle.ev_proxy.proofs.OrderLemmas.{AllDiffer, AreInOrder, Differ, StandsBefore, found_sorted, none_found, number_same, number_turned, numbered, sorted_order}

-- the first of a list
abbrev pub head_of : {X : Type 0} → List X → Option X
head_of [] = None
head_of (x ∷ xs) = Some x

-- what is made of each element of a list in order, at most one of its name and number
module _ {A X : Type 0} (key : A → List ℕ) (count : A → ℕ) (name : X → List ℕ) (number : X → ℕ) (f : A → List X) where
  -- it is one of the element's name and number
  pub record IsOf (a : A) (x : X) : Type 0 where
    pub names : name x ≡ key a
    pub numbers : number x ≡ count a

  module _ (shape : (a : A) → (f a ≡ []) ⊎ ((x : X) × (f a ≡ x ∷ []) × IsOf a x)) where
    all_flat : (P : X → Type 0) (Q : A → Type 0) → ((a : A) (x : X) → Q a → IsOf a x → P x) → (many : List A) → AllByRecursion Q many → AllByRecursion P (flat_map f many)
    all_flat P Q so [] all = tt
    all_flat P Q so (a ∷ many) all = by (shape a) (all_flat P Q so many all.1)
      where
        by : (f a ≡ []) ⊎ ((x : X) × (f a ≡ x ∷ []) × IsOf a x) → AllByRecursion P (flat_map f many) → AllByRecursion P (f a ++ flat_map f many)
        by (inl none) rest = subst (λ xs. AllByRecursion P (xs ++ flat_map f many)) (sym none) rest
        by (inr (x, one, is)) rest = subst (λ xs. AllByRecursion P (xs ++ flat_map f many)) (sym one) (so a x all.0 is, rest)

    pub flat_order : (many : List A) → AreInOrder key count many → AreInOrder name number (flat_map f many)
    flat_order [] order = tt
    flat_order (a ∷ many) order = by (shape a) (flat_order many order.1)
      where
        by : (f a ≡ []) ⊎ ((x : X) × (f a ≡ x ∷ []) × IsOf a x) → AreInOrder name number (flat_map f many) → AreInOrder name number (f a ++ flat_map f many)
        by (inl none) rest = subst (λ xs. AreInOrder name number (xs ++ flat_map f many)) (sym none) rest
        by (inr (x, one, is)) rest =
            subst (λ xs. AreInOrder name number (xs ++ flat_map f many)) (sym one) (
              all_flat (StandsBefore name number x) (StandsBefore key count a)
                  (λ b y stands of. record {
                    names = (λ i. is_before (is.names i) (of.names i)) ∙ stands.names;
                    numbers = (λ i. is.numbers i == of.numbers i) ∙ stands.numbers;
                  }) many order.0,
              rest,
            )

    -- what is found of a number is what is made of the element of that number
    pub flat_found : (n : ℕ) (many : List A) → AreInOrder key count many → numbered name number (flat_map f many) n ≡ option_and_then (λ a. head_of (f a)) (numbered key count many n)
    flat_found n [] order = refl
    flat_found n (a ∷ many) order = by (shape a) (count a == n) refl (flat_found n many order.1)
      where
        none : (count a == n) ≡ true → numbered name number (flat_map f many) n ≡ None
        none here =
            none_found (λ x. number x == n) (flat_map f many)
            (all_flat (λ x. (number x == n) ≡ false) (StandsBefore key count a)
            (λ b x stands of. (λ i. of.numbers i == sym (number_same (count a) n here) i) ∙ number_turned (count b) (count a) ∙ stands.numbers) many order.0)

        by : (f a ≡ []) ⊎ ((x : X) × (f a ≡ x ∷ []) × IsOf a x) → (t : Bool) → (count a == n) ≡ t
            → numbered name number (flat_map f many) n ≡ option_and_then (λ b. head_of (f b)) (numbered key count many n)
            → numbered name number (f a ++ flat_map f many) n ≡ option_and_then (λ b. head_of (f b)) (cond t (Some a) (numbered key count many n))
        by (inl empty) true here rest = ap (λ xs. numbered name number (xs ++ flat_map f many) n) empty ∙ none here ∙ sym (ap head_of empty)
        by (inl empty) false other rest = ap (λ xs. numbered name number (xs ++ flat_map f many) n) empty ∙ rest
        by (inr (x, one, is)) true here rest =
            ap (λ xs. numbered name number (xs ++ flat_map f many) n) one
            ∙ ap (λ t. cond t (Some x) (numbered name number (flat_map f many) n)) (ap (λ k. k == n) is.numbers ∙ here)
            ∙ sym (ap head_of one)
        by (inr (x, one, is)) false other rest =
            ap (λ xs. numbered name number (xs ++ flat_map f many) n) one
            ∙ ap (λ t. cond t (Some x) (numbered name number (flat_map f many) n)) (ap (λ k. k == n) is.numbers ∙ other)
            ∙ rest

abbrev serves_as : Kind → GenRow → Bool
serves_as kind row = kind_same row.kind kind && is_active row.status

-- a row that is found, where it serves many one of this kind
abbrev serving : Kind → Option GenRow → Option GenRow
serving kind None = None
serving kind (Some row) = cond (serves_as kind row) (Some row) None

pub none_numbered : (n : ℕ) (rows : List GenRow) → list_any (λ (row : GenRow). row.number == n) rows ≡ false → row_in n rows ≡ None
none_numbered n [] none = refl
none_numbered n (row ∷ rows) none =
    let parts = or_parts (row.number == n) (list_any (λ (r : GenRow). r.number == n) rows) none in
    ap (λ t. cond t (Some row) (row_in n rows)) (number_turned n row.number ∙ parts.0) ∙ none_numbered n rows parts.1

-- a row is found among those that serve where it is found, and serves
found_serving : (kind : Kind) (n : ℕ) (rows : List GenRow) → AreNumbered rows
    → find (λ (row : GenRow). row.number == n) (filter (serves_as kind) rows) ≡ serving kind (row_in n rows)
found_serving kind n [] apart = refl
found_serving kind n (row ∷ rows) apart =
    by (serves_as kind row) refl (row.number == n) refl (found_serving kind n rows apart.1)
    ∙ ap (λ t. serving kind (cond t (Some row) (row_in n rows))) (number_turned row.number n)
  where
    by : (t : Bool) → serves_as kind row ≡ t → (u : Bool) → (row.number == n) ≡ u
        → find (λ (r : GenRow). r.number == n) (filter (serves_as kind) rows) ≡ serving kind (row_in n rows)
        → find (λ (r : GenRow). r.number == n) (cond t (row ∷ filter (serves_as kind) rows) (filter (serves_as kind) rows))
        ≡ serving kind (cond (row.number == n) (Some row) (row_in n rows))
    by true is u here rest =
        pick u here rest ∙ ap (λ v. serving kind (cond v (Some row) (row_in n rows))) (sym here)
      where
        pick : (v : Bool) → (row.number == n) ≡ v → find (λ (r : GenRow). r.number == n) (filter (serves_as kind) rows) ≡ serving kind (row_in n rows)
            → cond (row.number == n) (Some row) (find (λ (r : GenRow). r.number == n) (filter (serves_as kind) rows)) ≡ serving kind (cond v (Some row) (row_in n rows))
        pick true at rest = ap (λ v. cond v (Some row) (find (λ (r : GenRow). r.number == n) (filter (serves_as kind) rows))) at ∙ sym (ap (λ t. cond t (Some row) None) is)
        pick false at rest = ap (λ v. cond v (Some row) (find (λ (r : GenRow). r.number == n) (filter (serves_as kind) rows))) at ∙ rest
    by false isnt true here rest =
        rest ∙ ap (serving kind) (none_numbered n rows (ap (λ k. list_any (λ (r : GenRow). r.number == k) rows) (sym (number_same row.number n here)) ∙ apart.0))
        ∙ sym (ap (λ v. serving kind (cond v (Some row) (row_in n rows))) here ∙ ap (λ t. cond t (Some row) None) isnt)
    by false isnt false other rest = rest ∙ ap (λ v. serving kind (cond v (Some row) (row_in n rows))) (sym other)

-- rows of different names, no two of one number, differ
abbrev row_name : GenRow → List ℕ
row_name row = row.name

abbrev row_number : GenRow → ℕ
row_number row = row.number

differ : (rows : List GenRow) → IsDistinct bytes_eq (map row_name rows) → AreNumbered rows → AllDiffer row_name row_number rows
unfolding IsDistinct
differ [] names apart = tt
differ (row ∷ rows) names apart = (each rows names.0 apart.0, differ rows names.1 apart.1)
  where
    each : (others : List GenRow) → AllByRecursion (λ name. bytes_eq row.name name ≡ false) (map row_name others)
        → list_any (λ (other : GenRow). other.number == row.number) others ≡ false → AllByRecursion (Differ row_name row_number row) others
    each [] far none = tt
    each (other ∷ others) far none =
        let parts = or_parts (other.number == row.number) (list_any (λ (r : GenRow). r.number == row.number) others) none in
        (record { names = far.0; numbers = number_turned row.number other.number ∙ parts.0 }, each others far.1 parts.1)

numbered_left : (q : GenRow → Bool) (rows : List GenRow) → AreNumbered rows → AreNumbered (filter q rows)
numbered_left q [] apart = tt
numbered_left q (row ∷ rows) apart = by (q row) (numbered_left q rows apart.1)
  where
    none : (others : List GenRow) → list_any (λ (other : GenRow). other.number == row.number) others ≡ false
        → list_any (λ (other : GenRow). other.number == row.number) (filter q others) ≡ false
    none [] h = refl
    none (other ∷ others) h =
        let parts = or_parts (other.number == row.number) (list_any (λ (r : GenRow). r.number == row.number) others) h in
        over (q other) parts.0 (none others parts.1)
      where
        over : (t : Bool) → (other.number == row.number) ≡ false → list_any (λ (r : GenRow). r.number == row.number) (filter q others) ≡ false
            → list_any (λ (r : GenRow). r.number == row.number) (cond t (other ∷ filter q others) (filter q others)) ≡ false
        over true here rest = λ i. here i || rest i
        over false here rest = rest

    by : (t : Bool) → AreNumbered (filter q rows) → AreNumbered (cond t (row ∷ filter q rows) (filter q rows))
    by true rest = (none rows apart.0, rest)
    by false rest = rest

-- the names of the active rows of a kind differ
abbrev pub NamesDiffer : Kind → List GenRow → Type 0
NamesDiffer kind rows = IsDistinct bytes_eq (map row_name (filter (serves_as kind) rows))

module _ (kind : Kind) (rows : List GenRow) (apart : AreNumbered rows) (names : NamesDiffer kind rows) where
  active_differ : AllDiffer row_name row_number (filter (serves_as kind) rows)
  active_differ =
      differ (filter (serves_as kind) rows)
      names
      (numbered_left (serves_as kind) rows apart)

  active_order : AreInOrder row_name row_number (active_rows rows kind)
  active_order = sorted_order row_name row_number (filter (serves_as kind) rows) active_differ

  active_found : (n : ℕ) → numbered row_name row_number (active_rows rows kind) n ≡ serving kind (row_in n rows)
  active_found n = found_sorted row_name row_number n (filter (serves_as kind) rows) active_differ ∙ found_serving kind n rows apart

-- clusters
abbrev cluster_name : ServedCluster → List ℕ
cluster_name cluster = cluster.name

abbrev cluster_number : ServedCluster → ℕ
cluster_number cluster = cluster.number

module _ (world : World) (apart : AreNumbered world.rows) (names : NamesDiffer Cds world.rows) where
  abbrev one_cluster : GenRow → List ServedCluster
  one_cluster row = served_cluster world.arrivals world.results row ∷ []

  as_flat : (rows : List GenRow) → map (served_cluster world.arrivals world.results) rows ≡ flat_map one_cluster rows
  as_flat [] = refl
  as_flat (row ∷ rows) = ap (λ cs. served_cluster world.arrivals world.results row ∷ cs) (as_flat rows)

  cluster_shape : (row : GenRow) → (one_cluster row ≡ []) ⊎ ((c : ServedCluster) × (one_cluster row ≡ c ∷ []) × IsOf row_name row_number cluster_name cluster_number one_cluster row c)
  cluster_shape row = inr (served_cluster world.arrivals world.results row, refl, record { names = refl; numbers = refl })

  pub clusters_order : AreInOrder cluster_name cluster_number (served_clusters world.arrivals world.results world.rows)
  clusters_order =
      subst (AreInOrder cluster_name cluster_number) (sym (as_flat (active_rows world.rows Cds)))
      (flat_order row_name row_number cluster_name cluster_number one_cluster cluster_shape (active_rows world.rows Cds) (active_order Cds world.rows apart names))

  pub clusters_found : (n : ℕ) → numbered cluster_name cluster_number (served_clusters world.arrivals world.results world.rows) n ≡ cluster_at world n
  clusters_found n =
      ap (λ cs. numbered cluster_name cluster_number cs n) (as_flat (active_rows world.rows Cds))
      ∙ flat_found row_name row_number cluster_name cluster_number one_cluster cluster_shape n (active_rows world.rows Cds) (active_order Cds world.rows apart names)
      ∙ ap (option_and_then (λ row. head_of (one_cluster row))) (active_found Cds world.rows apart names n)
      ∙ by (row_in n world.rows)
    where
      by : (found : Option GenRow) → option_and_then (λ row. head_of (one_cluster row)) (serving Cds found) ≡ cluster_shown world.arrivals world.results found
      by None = refl
      by (Some row) = over (serves_as Cds row)
        where
          over : (t : Bool) → option_and_then (λ r. head_of (one_cluster r)) (cond t (Some row) None) ≡ cond t (Some (served_cluster world.arrivals world.results row)) None
          over true = refl
          over false = refl

-- listeners
abbrev listener_name : ServedListener → List ℕ
listener_name listener = listener.name

abbrev listener_number : ServedListener → ℕ
listener_number listener = listener.number

module _ (world : World) (apart : AreNumbered world.rows) (names : NamesDiffer Lds world.rows) where
  abbrev one_listener : GenRow → List ServedListener
  one_listener row = served_listener world.arrivals row row.content

  listener_shape : (row : GenRow) → (one_listener row ≡ []) ⊎ ((l : ServedListener) × (one_listener row ≡ l ∷ []) × IsOf row_name row_number listener_name listener_number one_listener row l)
  listener_shape row = by row.content
    where
      by : (content : Content) → (served_listener world.arrivals row content ≡ [])
          ⊎ ((l : ServedListener) × (served_listener world.arrivals row content ≡ l ∷ []) × IsOf row_name row_number listener_name listener_number one_listener row l)
      by (a_listener listener) = inr (_, refl, record { names = refl; numbers = refl })
      by content = inl refl

  abbrev shown_listeners : Bool → List ServedListener
  shown_listeners serving = cond serving (served_listeners world.arrivals world.rows) []

  pub listeners_order : (serving : Bool) → AreInOrder listener_name listener_number (shown_listeners serving)
  listeners_order true = flat_order row_name row_number listener_name listener_number one_listener listener_shape (active_rows world.rows Lds) (active_order Lds world.rows apart names)
  listeners_order false = tt

  pub listeners_found : (n : ℕ) → numbered listener_name listener_number (shown_listeners (is_serving world.phase)) n ≡ listener_at world n
  listeners_found n = whole (is_serving world.phase)
    where
      by : (found : Option GenRow) → option_and_then (λ row. head_of (one_listener row)) (serving Lds found) ≡ listener_shown world.arrivals found
      by None = refl
      by (Some row) = over (serves_as Lds row)
        where
          same : (ls : List ServedListener) → head_of ls ≡ first_of ls
          same [] = refl
          same (l ∷ ls) = refl

          over : (t : Bool) → option_and_then (λ r. head_of (one_listener r)) (cond t (Some row) None) ≡ cond t (first_of (one_listener row)) None
          over true = same (one_listener row)
          over false = refl

      whole : (serves : Bool) → numbered listener_name listener_number (shown_listeners serves) n ≡ cond serves (listener_shown world.arrivals (row_in n world.rows)) None
      whole true =
          flat_found row_name row_number listener_name listener_number one_listener listener_shape n (active_rows world.rows Lds) (active_order Lds world.rows apart names)
          ∙ ap (option_and_then (λ row. head_of (one_listener row))) (active_found Lds world.rows apart names n)
          ∙ by (row_in n world.rows)
      whole false = refl
