-- What pictures show, and what connections are on, was made as such:
-- under one name a listener and the generations with which its chains began.
use Rattle.std.proofs.Common.{◌≡◌, ℕ, zero, suc, ◌≤◌, Bool, true, false, not, ◌&&◌, ◌==◌, cond, List, [], ◌∷◌, ◌++◌, length, map, filter, Option, Some, None, refl, sym, ap, ◌∙◌, subst, arith, ◌⊎◌, inl, inr, take, ◌+◌}
use Rattle.std.specs.Prelude.{option_map, option_to_list, slice_index_or, unwrap_or}
use Rattle.std.specs.Cmp.{first_so, second_so}
use Rattle.std.specs.List.{All, Contains, flat_map, list_any}
use Rattle.std.specs.Option.{IfSome}
use Rattle.std.specs.Str.{bytes_eq}
use Rattle.std.proofs.lemmas.Bool.{false≢true, cond_both, and_from}
use Rattle.std.proofs.lemmas.List.{map-append}
use Rattle.std.proofs.lemmas.List.Elements.{All-nil, All-cons, All-head, All-tail, All-append, All-push, All-map, All-filter, All-weaker, All-contains, Contains-append_cases}
use Rattle.ev_types.specs.Kinds.{kind_same, kind_decides}
use Rattle.ev_types.specs.Same.{bytes_decide}
use Rattle.ev_types.specs.Origins.{origin_decides}
use Rattle.ev_types.specs.Statuses.{is_active}
use Rattle.ev_types.specs.declared.contents.Kind.{Kind}
use Rattle.ev_types.specs.declared.contents.Kind.TheVariants.{Cds, Lds}
use Rattle.ev_types.specs.declared.contents.Content.{Content}
use Rattle.ev_types.specs.declared.contents.Content.TheVariants.{Cluster as a_cluster, Assignment as an_assignment, Listener as a_listener, Routes as routes, Secret as a_secret, Extension as an_extension}
use Rattle.ev_types.specs.declared.events.Actor.{Actor}
use Rattle.ev_types.specs.declared.events.Answer.TheVariants.{InUse, NotOpen, Done, Unchanged, Version}
use Rattle.ev_types.specs.declared.events.Ask.{Ask}
use Rattle.ev_types.specs.declared.events.Entry.{Entry}
use Rattle.ev_types.specs.declared.events.Event.{Event}
use Rattle.ev_types.specs.declared.journals.Format.{Format}
use Rattle.ev_types.specs.declared.origins.Origin.{Origin}
use Rattle.ev_types.specs.declared.rows.GenRow.{GenRow}
use Rattle.ev_model.specs.declared.pictures.Choice.{Choice}
use Rattle.ev_model.specs.declared.pictures.Choice.TheVariants.{NoListener, NoChain, On}
use Rattle.ev_model.specs.declared.pictures.Picture.{Picture}
use Rattle.ev_model.specs.declared.pictures.ServedChain.{ServedChain}
use Rattle.ev_model.specs.declared.pictures.ServedCluster.{ServedCluster}
use Rattle.ev_model.specs.declared.pictures.ServedListener.{ServedListener}
use Rattle.ev_model.specs.declared.pictures.Shown.{Shown}
use Rattle.ev_model.specs.World.{World, Arrived, OpenMember, nothing_shown, opening, last_version}
use Rattle.ev_model.specs.Sorted.{put_by, sorted_by}
use Rattle.ev_model.specs.Versions.{is_before}
use Rattle.ev_model.specs.Verdicts.{is_given}
use Rattle.ev_model.specs.Origins.{PlacedChain, placed_from, placed_default, placed_in, origin_at}
use Rattle.ev_model.specs.Picture.{active_rows, served_cluster, served_chain, served_listener, served_listeners, shown_of, shown_same}
use Rattle.ev_model.specs.Phase.{is_serving}
use Rattle.ev_model.specs.Dead.{shown_at, picture_held, last_picture}
use Rattle.ev_model.specs.Choice.{choice_of}
use Rattle.ev_model.specs.Connections.{Worked, is_member, is_open, cluster_on, members_of, opened_by, shares_origin, chains_shown, shows_chain, next_listener, listener_after, left_open, accept, close, settle}
use Rattle.ev_model.specs.Entries.{MadeRow, made_of}
use Rattle.ev_model.specs.Step.{step}
use Rattle.ev_model.specs.Laws.{Told, world_told, IsEntryAt}
use Rattle.ev_model_laws.specs.Kept.{made_as, IsMadeAs, BeginsAs, BeginChains, AreMade, IsListenerMade, IsShownMade, StaysUnderName, IsMemberMade, SeesMade}
use Rattle.ev_model_laws.specs.OneAName.{serves_as, AreSingle, IsSingle}
use Rattle.ev_model_laws.proofs.AnyLemmas.{any_found, any_mapped}
use Rattle.ev_model_laws.proofs.ChoiceLemmas.{ShowsChosen, choice_shown}
use Rattle.ev_model_laws.proofs.KeepLemmas.{step-each}
use Rattle.ev_model_laws.proofs.MadeLemmas.{made_more}
use Rattle.ev_model_laws.proofs.MoveLemmas.{moved_member, next_shown}
use Rattle.ev_model_laws.proofs.OriginLemmas.{MakesMore, made_as_more, cons_cases, none_in}
use Rattle.ev_model_laws.proofs.PlaceLemmas.{take_one, world_next}
use Rattle.ev_model_laws.proofs.SeenLemmas.{same_seen}
use Rattle.ev_model_laws.proofs.TidyLists.{all_of, first_in, rest_in, left_in, passing_in}
use Rattle.ev_types.specs.declared.events.Answer.{Answer}

-- where more was made
module _ (made more : ℕ → Option MadeRow) (makes : MakesMore made more) where
  listener_more : (l : ServedListener) → IsListenerMade made l → IsListenerMade more l
  listener_more l is = record {
    own = made_as_more made more Lds l.name l.number makes is.own;
    chains = λ origin shows. made_as_more made more Lds l.name origin.listener makes (is.chains origin shows);
  }

  shown_more : (shown : Shown) → IsShownMade made shown → IsShownMade more shown
  shown_more shown is = record {
    clusters = All-weaker (λ (c : ServedCluster). IsMadeAs made Cds c.name c.number) (λ (c : ServedCluster). IsMadeAs more Cds c.name c.number)
        (λ (c : ServedCluster). made_as_more made more Cds c.name c.number makes) shown.clusters is.clusters;
    listeners = All-weaker (IsListenerMade made) (IsListenerMade more) listener_more shown.listeners is.listeners;
    single = is.single;
  }

  member_more : (m : OpenMember) → IsMemberMade made m → IsMemberMade more m
  member_more m is origin of =
      let under : StaysUnderName made m.listener origin = is origin of in
      record {
        name = under.name;
        own = made_as_more made more Lds under.name m.listener makes under.own;
        first = made_as_more made more Lds under.name origin.listener makes under.first;
      }

  sees_more : (world : World) → SeesMade world made → SeesMade world more
  sees_more world sees = record {
    pictures = All-weaker (IsShownMade made) (IsShownMade more) shown_more world.pictures sees.pictures;
    opened = All-weaker (IsMemberMade made) (IsMemberMade more) member_more world.opened sees.opened;
  }

behind_first : {X : Type 0} (x y : X) (ys : List X) (z : X) → (x ≡ z) ⊎ Contains ys z → Contains (x ∷ y ∷ ys) z
behind_first x y ys z (inl same) = subst (Contains (x ∷ y ∷ ys)) same (first_in x (y ∷ ys))
behind_first x y ys z (inr there) = rest_in x (y ∷ ys) z (rest_in y ys z there)

within_sorted : {X : Type 0} (x : X) (sorted xs : List X) (z : X) → (Contains sorted z → Contains xs z) → (x ≡ z) ⊎ Contains sorted z → Contains (x ∷ xs) z
within_sorted x sorted xs z so (inl same) = subst (Contains (x ∷ xs)) same (first_in x xs)
within_sorted x sorted xs z so (inr there) = rest_in x xs z (so there)

-- what is in a sorted list was in it before
put_in : {X : Type 0} (precedes : X → X → Bool) (x : X) (xs : List X) → All (Contains (x ∷ xs)) (put_by precedes x xs)
put_in precedes x [] = All-cons (Contains (x ∷ [])) x [] (first_in x []) (All-nil (Contains (x ∷ [])))
put_in precedes x (y ∷ ys) =
    cond_both (precedes x y) (x ∷ y ∷ ys) (y ∷ put_by precedes x ys) (All (Contains (x ∷ y ∷ ys)))
    (λ before. all_of (Contains (x ∷ y ∷ ys)) (x ∷ y ∷ ys) (λ z there. there))
    (λ behind. All-cons (Contains (x ∷ y ∷ ys)) y (put_by precedes x ys) (rest_in x (y ∷ ys) y (first_in y ys))
    (All-weaker (Contains (x ∷ ys)) (Contains (x ∷ y ∷ ys)) (λ z there. behind_first x y ys z (cons_cases x ys z there)) (put_by precedes x ys) (put_in precedes x ys)))

sorted_in : {X : Type 0} (precedes : X → X → Bool) (xs : List X) → All (Contains xs) (sorted_by precedes xs)
sorted_in precedes [] = All-nil (Contains [])
sorted_in precedes (x ∷ xs) =
    All-weaker (Contains (x ∷ sorted_by precedes xs)) (Contains (x ∷ xs))
    (λ z there. within_sorted x (sorted_by precedes xs) xs z (λ among. All-contains (Contains xs) (sorted_by precedes xs) z (sorted_in precedes xs) among)
    (cons_cases x (sorted_by precedes xs) z there))
    (put_by precedes x (sorted_by precedes xs)) (put_in precedes x (sorted_by precedes xs))

-- the active rows of a kind are rows of that kind that serve
record IsActiveOf (rows : List GenRow) (kind : Kind) (row : GenRow) : Type 0 where
  among : Contains rows row
  of_kind : row.kind ≡ kind
  active : is_active row.status ≡ true

active_in : (rows : List GenRow) (kind : Kind) (row : GenRow) → Contains (active_rows rows kind) row → IsActiveOf rows kind row
active_in rows kind row there =
    let test : GenRow → Bool = λ (r : GenRow). kind_same r.kind kind && is_active r.status in
    let order : GenRow → GenRow → Bool = λ (r other : GenRow). is_before r.name other.name in
    let left : Contains rows row × (test row ≡ true) =
    left_in test rows row (All-contains (Contains (filter test rows)) (sorted_by order (filter test rows)) row (sorted_in order (filter test rows)) there) in
    record {
      among = left.0;
      of_kind = (kind_decides row.kind kind).0 (first_so (kind_same row.kind kind) (is_active row.status) left.1);
      active = second_so (kind_same row.kind kind) (is_active row.status) left.1;
    }

default_mapped : {X Y Z : Type 0} (f : Y → Z) (g : X → Y) (x : Option X)
    → option_to_list (option_map (λ c. f (g c)) x) ≡ map f (option_to_list (option_map g x))
default_mapped f g None = refl
default_mapped f g (Some x) = refl

-- a listener that is shown is what is shown of a row, with its chains
record IsServedAs (arrivals : List Arrived) (row : GenRow) (l : ServedListener) : Type 0 where
  number : l.number ≡ row.number
  name : l.name ≡ row.name
  chains : chains_shown l ≡ map (served_chain arrivals row) (placed_in row.content)

served_as : (arrivals : List Arrived) (row : GenRow) (content : Content) (l : ServedListener) → row.content ≡ content
    → Contains (served_listener arrivals row content) l → IsServedAs arrivals row l
served_as arrivals row (a_listener listener) l is there =
    elim (cons_cases _ [] l there) [
      | inl same ↦ record {
        number = sym (ap (λ (s : ServedListener). s.number) same);
        name = sym (ap (λ (s : ServedListener). s.name) same);
        chains = sym (ap chains_shown same)
            ∙ ap (λ (cs : List ServedChain). map (served_chain arrivals row) (placed_from 0 listener.filter_chains) ++ cs)
            (default_mapped (served_chain arrivals row) placed_default listener.default_filter_chain)
            ∙ sym (map-append (served_chain arrivals row) (placed_from 0 listener.filter_chains)
            (option_to_list (option_map placed_default listener.default_filter_chain)))
            ∙ sym (ap (λ (content : Content). map (served_chain arrivals row) (placed_in content)) is);
      }
      | inr further ↦ absurd (none_in l further)
    ]
served_as arrivals row (a_cluster cluster) l is there = absurd (none_in l there)
served_as arrivals row (an_assignment rows) l is there = absurd (none_in l there)
served_as arrivals row (routes table) l is there = absurd (none_in l there)
served_as arrivals row a_secret l is there = absurd (none_in l there)
served_as arrivals row an_extension l is there = absurd (none_in l there)

-- an element of lists one after another is one of one of them
flat_in : {X Y : Type 0} (f : X → List Y) (xs : List X) (y : Y) → Contains (flat_map f xs) y → (x : X) × Contains xs x × Contains (f x) y
flat_in f [] y there = absurd (none_in y there)
flat_in {X = X} f (x ∷ xs) y there =
    elim (Contains-append_cases (f x) (flat_map f xs) y there) [
      | inl here ↦ (x, first_in x xs, here)
      | inr further ↦
          let found : (z : X) × Contains xs z × Contains (f z) y = flat_in f xs y further in (found.0, rest_in x xs found.0 found.1, found.2)
    ]

-- the row that a listener is shown of
record HasRow (world : World) (l : ServedListener) : Type 0 where
  row : GenRow
  serves : IsActiveOf world.rows Lds row
  served : IsServedAs world.arrivals row l

listener_row : (world : World) (serving : Bool) (l : ServedListener)
    → Contains (cond serving (served_listeners world.arrivals world.rows) []) l → HasRow world l
listener_row world false l there = absurd (none_in l there)
listener_row world true l there =
    let found : (row : GenRow) × Contains (active_rows world.rows Lds) row × Contains (served_listener world.arrivals row row.content) l =
    flat_in (λ (row : GenRow). served_listener world.arrivals row row.content) (active_rows world.rows Lds) l there in
    record {
      row = found.0;
      serves = active_in world.rows Lds found.0 found.1;
      served = served_as world.arrivals found.0 found.0.content l refl found.2;
    }

given_origin : (o : Origin) (given : Bool) (origin : Origin) → shares_origin (Some o) (cond given (Some origin) None) ≡ true → origin ≡ o
given_origin o true origin h = sym ((origin_decides o origin).0 h)
given_origin o false origin h = absurd (false≢true h)

one_alone : {X : Type 0} (xs : List X) (x y : X) → length xs ≤ 1 → Contains xs x → Contains xs y → x ≡ y
one_alone [] x y one first second = absurd (none_in x first)
one_alone (z ∷ []) x y one first second =
    elim (cons_cases z [] x first) [
      | inl here ↦ elim (cons_cases z [] y second) [
        | inl also ↦ sym here ∙ also
        | inr further ↦ absurd (none_in y further)
      ]
      | inr further ↦ absurd (none_in x further)
    ]
one_alone (z ∷ w ∷ xs) x y one first second = absurd (omega arith)

-- of a name one row serves
one_serves : (rows : List GenRow) (row other : GenRow) → AreSingle rows → IsActiveOf rows Lds row → IsActiveOf rows Lds other
    → row.name ≡ other.name → row ≡ other
one_serves rows row other single first second same =
    let test : GenRow → Bool = serves_as Lds other.name in
    let passes : (r : GenRow) → IsActiveOf rows Lds r → r.name ≡ other.name → Contains (filter test rows) r =
    λ (r : GenRow) is named.
    All-contains (λ (x : GenRow). test x ≡ true → Contains (filter test rows) x) rows r (passing_in test rows) is.among
    (and_from (kind_same r.kind Lds && bytes_eq r.name other.name) (is_active r.status)
    (and_from (kind_same r.kind Lds) (bytes_eq r.name other.name) ((kind_decides r.kind Lds).1 is.of_kind) ((bytes_decide r.name other.name).1 named))
    is.active) in
    one_alone (filter test rows) row other (single.one_serves Lds other.name) (passes row first same) (passes other second refl)

-- what workers may serve now was made as such
module _ (world : World) (entries : List Entry) (are : AreMade world entries) (single : IsSingle world) where
  row_as : (kind : Kind) (row : GenRow) → IsActiveOf world.rows kind row → IsMadeAs (made_of entries) kind row.name row.number
  row_as kind row is = record {
    row = made_as row;
    is = All-contains (λ (r : GenRow). made_of entries r.number ≡ Some (made_as r)) world.rows row are.rows is.among;
    of_kind = is.of_kind;
    named = refl;
  }

  listener_as : (l : ServedListener) → HasRow world l → IsListenerMade (made_of entries) l
  listener_as l has = record {
    own = subst (λ number. IsMadeAs (made_of entries) Lds l.name number) (sym has.served.number)
        (subst (λ name. IsMadeAs (made_of entries) Lds name has.row.number) (sym has.served.name) (row_as Lds has.row has.serves));
    chains = λ origin shows.
        let row : GenRow = has.row in
        let chain_of : PlacedChain → ServedChain = served_chain world.arrivals row in
        let test : ServedChain → Bool = λ (c : ServedChain). shares_origin (Some origin) c.origin in
        let found : (p : PlacedChain) × Contains (placed_in row.content) p × (test (chain_of p) ≡ true) =
        any_found (λ (p : PlacedChain). test (chain_of p)) (placed_in row.content)
        (sym (any_mapped test chain_of (placed_in row.content)) ∙ ap (list_any test) (sym has.served.chains) ∙ shows) in
        let p : PlacedChain = found.0 in
        let is : origin_at row.number row.kept p.place ≡ origin =
        given_origin origin (is_given p.chain.body_text) (origin_at row.number row.kept p.place) found.2 in
        let begins : BeginsAs (made_of entries) row.kind row.name (origin_at row.number row.kept p.place) p.chain.body_text =
        All-contains (BeginChains (made_of entries)) world.rows row are.chains has.serves.among p found.1 in
        subst (λ name. IsMadeAs (made_of entries) Lds name origin.listener) (sym has.served.name)
        (subst (λ (o : Origin). IsMadeAs (made_of entries) Lds row.name o.listener) is
        (subst (λ (kind : Kind). IsMadeAs (made_of entries) kind row.name (origin_at row.number row.kept p.place).listener) has.serves.of_kind begins.generation));
  }

  shown_as : IsShownMade (made_of entries) (shown_of world)
  shown_as = record {
    clusters = All-map (λ (c : ServedCluster). IsMadeAs (made_of entries) Cds c.name c.number) (served_cluster world.arrivals world.results) (active_rows world.rows Cds)
        (all_of (λ (row : GenRow). IsMadeAs (made_of entries) Cds row.name row.number) (active_rows world.rows Cds)
        (λ row there. row_as Cds row (active_in world.rows Cds row there)));
    listeners = all_of (IsListenerMade (made_of entries)) (shown_of world).listeners
        (λ l there. listener_as l (listener_row world (is_serving world.phase) l there));
    single = λ l other first second same.
        let one : HasRow world l = listener_row world (is_serving world.phase) l first in
        let two : HasRow world other = listener_row world (is_serving world.phase) other second in
        let row : one.row ≡ two.row =
        one_serves world.rows one.row two.row single one.serves two.serves (sym one.served.name ∙ same ∙ two.served.name) in
        one.served.number ∙ ap (λ (r : GenRow). r.number) row ∙ sym two.served.number;
  }

nothing_made : (made : ℕ → Option MadeRow) → IsShownMade made nothing_shown
nothing_made made = record { clusters = All-nil _; listeners = All-nil _; single = λ l other first second same. absurd (none_in l first) }

version_made : (made : ℕ → Option MadeRow) (pictures : List Shown) (version : ℕ) → All (IsShownMade made) pictures
    → IsShownMade made (slice_index_or pictures version nothing_shown)
version_made made [] version each = nothing_made made
version_made made (shown ∷ pictures) zero each = All-head (IsShownMade made) shown pictures each
version_made made (shown ∷ pictures) (suc version) each = version_made made pictures version (All-tail (IsShownMade made) shown pictures each)

module _ (made : ℕ → Option MadeRow) (world : World) (sees : SeesMade world made) where
  -- what the picture of a version shows was made as such
  pub picture_made : (version : ℕ) → IsShownMade made (shown_at world version)
  picture_made version = version_made made world.pictures version sees.pictures

  origin_in : (l : ServedListener) (origin : Option Origin) (o : Origin) → origin ≡ Some o → IfSome origin (λ p. shows_chain (Some p) l ≡ true)
      → shows_chain (Some o) l ≡ true
  origin_in l origin o is has = let known : IfSome (Some o) (λ p. shows_chain (Some p) l ≡ true) = subst (λ (p : Option Origin). IfSome p (λ q. shows_chain (Some q) l ≡ true)) is has in known

  -- a connection on a listener that is shown, by a chain of its own
  under_listener : (shown : Shown) (l : ServedListener) (o : Origin) → IsShownMade made shown → Contains shown.listeners l → shows_chain (Some o) l ≡ true
      → StaysUnderName made l.number o
  under_listener shown l o is there shows =
      let listener : IsListenerMade made l = All-contains (IsListenerMade made) shown.listeners l is.listeners there in
      record { name = l.name; own = listener.own; first = listener.chains o shows }

  chosen_made : (shown : Shown) (worker connection : ℕ) (choice : Choice) → IsShownMade made shown → ShowsChosen shown choice
      → All (IsMemberMade made) (members_of worker connection choice)
  chosen_made shown worker connection NoListener is chosen = All-nil _
  chosen_made shown worker connection NoChain is chosen = All-nil _
  chosen_made shown worker connection (On listener chain origin course) is chosen =
      All-cons (IsMemberMade made) (record { worker = worker; connection = connection; listener = listener; cluster = cluster_on course; origin = origin }) []
      (λ o of.
      subst (λ number. StaysUnderName made number o) chosen.numbered
      (under_listener shown chosen.taker o is chosen.among (origin_in chosen.taker origin o of chosen.chain)))
      (All-nil _)

  accepted_made : (ask : Ask) (worker : ℕ) → SeesMade (accept ask worker world).0 made
  accepted_made ask worker =
      let picture : Picture = picture_held world worker in
      cond_both (is_open world.opened worker ask.conn) (record { opened = world.opened; answer = InUse })
      (opened_by picture worker ask.conn (choice_of picture ask) world.opened)
      (λ (worked : Worked). SeesMade (record world { opened = worked.opened }) made)
      (λ was. record { pictures = sees.pictures; opened = sees.opened })
      (λ new. record {
        pictures = sees.pictures;
        opened = All-append (IsMemberMade made) world.opened (members_of worker ask.conn (choice_of picture ask)) sees.opened
            (chosen_made picture.shown worker ask.conn (choice_of picture ask) (picture_made picture.version) (choice_shown picture ask));
      })

  closed_made : (connection worker : ℕ) → SeesMade (close connection worker world).0 made
  closed_made connection worker =
      cond_both (is_open world.opened worker connection)
      (record { opened = filter (λ (m : OpenMember). not (is_member worker connection m)) world.opened; answer = Done })
      (record { opened = world.opened; answer = NotOpen })
      (λ (worked : Worked). SeesMade (record world { opened = worked.opened }) made)
      (λ was. record { pictures = sees.pictures; opened = All-filter _ (IsMemberMade made) world.opened sees.opened })
      (λ none. record { pictures = sees.pictures; opened = sees.opened })

  next_made : (shown : Shown) (m : OpenMember) (o : Origin) (next : Option ServedListener) → IsShownMade made shown → m.origin ≡ Some o
      → IfSome next (λ l. Contains shown.listeners l × (shows_chain m.origin l ≡ true)) → StaysUnderName made m.listener o
      → StaysUnderName made (unwrap_or (option_map (λ (l : ServedListener). l.number) next) m.listener) o
  next_made shown m o None is of known under = under
  next_made shown m o (Some l) is of known under =
      under_listener shown l o is known.0 (subst (λ (origin : Option Origin). shows_chain origin l ≡ true) of known.1)

  moved_made : (shown : Shown) (m : OpenMember) (mine : Bool) → IsShownMade made shown → IsMemberMade made m
      → IsMemberMade made (cond mine (record m { listener = listener_after shown m }) m)
  moved_made shown m true is under o of = next_made shown m o (next_listener shown m) is of (next_shown shown m) (under o of)
  moved_made shown m false is under o of = under o of

  settled_made : (worker : ℕ) → SeesMade (settle worker world).0 made
  settled_made worker =
      let picture : Picture = last_picture world in
      let left : List OpenMember = left_open picture.shown world.expired worker world.opened in
      record {
        pictures = sees.pictures;
        opened = All-map (IsMemberMade made) (moved_member picture.shown worker) left
            (All-weaker (IsMemberMade made) (λ (m : OpenMember). IsMemberMade made (moved_member picture.shown worker m))
            (λ (m : OpenMember). moved_made picture.shown m (m.worker == worker) (picture_made picture.version))
            left (All-filter _ (IsMemberMade made) world.opened sees.opened));
      }

-- an event keeps it
step-seen_made : (format : Format) (world : World) (actor : Actor) (event : Event) (entries : List Entry) → AreMade world entries → IsSingle world
    → SeesMade world (made_of entries) → SeesMade (step format world actor event).0 (made_of entries)
step-seen_made format world actor event entries are single sees =
    step-each (λ (w : World). SeesMade w (made_of entries)) format world actor event sees (record {
      managed = λ other for. record {
        pictures = subst (All (IsShownMade (made_of entries))) (sym (same_seen format world actor other for).pictures) sees.pictures;
        opened = subst (All (IsMemberMade (made_of entries))) (sym (same_seen format world actor other for).opened) sees.opened;
      };
      published = cond_both (shown_same (shown_of world) (shown_at world (last_version world))) (world, Unchanged)
          (record world { pictures = world.pictures ++ shown_of world ∷ [] }, Version (length world.pictures))
          (λ (did : World × Answer). SeesMade did.0 (made_of entries)) (λ same. sees) (λ new. record {
            pictures = All-push (IsShownMade (made_of entries)) world.pictures (shown_of world) sees.pictures (shown_as world entries are single);
            opened = sees.opened;
          });
      reaped = record { pictures = sees.pictures; opened = sees.opened };
      accepted = λ ask worker is. accepted_made (made_of entries) world sees ask worker;
      closed = λ connection worker is. closed_made (made_of entries) world sees connection worker;
      settled = λ worker is. settled_made (made_of entries) world sees worker;
    })

-- so does an entry
pub seen_made_next : (told : Told) (k : ℕ) (entry : Entry) → IsEntryAt told k entry → IsSingle (world_told told k)
    → AreMade (world_told told k) (take k told.journal)
    → SeesMade (world_told told k) (made_of (take k told.journal)) → SeesMade (world_told told (k + 1)) (made_of (take (k + 1) told.journal))
seen_made_next told k entry there single are sees =
    let before : List Entry = take k told.journal in
    let one : take (k + 1) told.journal ≡ before ++ entry ∷ [] = take_one told.journal k entry there in
    subst (λ (entries : List Entry). SeesMade (world_told told (k + 1)) (made_of entries)) (sym one)
    (sees_more (made_of before) (made_of (before ++ entry ∷ [])) (record { is = λ number m is. made_more before (entry ∷ []) number m is }) (world_told told (k + 1))
    (subst (λ (w : World). SeesMade w (made_of before)) (sym (world_next told k entry there))
    (step-seen_made told.format (world_told told k) entry.actor entry.event before are single sees)))

pub opens_seen_made : (workers : ℕ) (node : List ℕ) → SeesMade (opening workers node) (made_of [])
opens_seen_made workers node = record { pictures = All-cons (IsShownMade (made_of [])) nothing_shown [] (nothing_made (made_of [])) (All-nil _); opened = All-nil _ }
