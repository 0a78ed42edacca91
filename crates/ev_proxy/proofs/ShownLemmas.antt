-- What the last picture shows, and which generations the next publication looks at.
use Rattle.std.proofs.Common.{◌≡◌, ◌∙◌, ℕ, ◌-◌, Bool, true, false, not, ◌&&◌, ◌||◌, ◌==◌, cond, List, [], ◌∷◌, ◌++◌, Option, Some, None, length, map, filter, slice_index_or, refl, sym, ap, subst}
use Rattle.std.specs.List.{AllByRecursion, list_any}
use Rattle.std.proofs.lemmas.Bool.{false≢true, or_parts}
use Rattle.ev_types.specs.Kinds.{kind_same}
use Rattle.ev_types.specs.Statuses.{is_active}
use Rattle.ev_types.specs.declared.contents.Kind.{Kind}
use Rattle.ev_types.specs.declared.contents.Kind.TheVariants.{Cds, Lds}
use Rattle.ev_types.specs.declared.events.Answer.{Answer}
use Rattle.ev_types.specs.declared.events.Answer.TheVariants.{Unchanged, Version}
use Rattle.ev_types.specs.declared.journals.Format.{Format}
use Rattle.ev_types.specs.declared.rows.GenRow.{GenRow}
use Rattle.ev_types.specs.declared.rows.RowStatus.{RowStatus}
use Rattle.ev_types.specs.declared.rows.RowStatus.TheVariants.{Warming, Active, Draining, Dropped}
use Rattle.ev_model.specs.declared.pictures.Picture.{Picture}
use Rattle.ev_model.specs.declared.pictures.ServedCluster.{ServedCluster}
use Rattle.ev_model.specs.declared.pictures.ServedListener.{ServedListener}
use Rattle.ev_model.specs.declared.pictures.Shown.{Shown}
use Rattle.ev_model.specs.Dead.{is_dead, is_dead_at, last_picture, shown_at}
use Rattle.ev_model.specs.Phase.{is_serving}
use Rattle.ev_model.specs.Picture.{has_number, shown_of, shown_same, shown_decides}
use Rattle.ev_model.specs.Publishing.{publish, without_dead}
use Rattle.ev_model.specs.Versions.{is_before}
use Rattle.ev_model.specs.World.{World, last_version, nothing_shown}
use Rattle.ev_model_laws.proofs.PictureLemmas.{last_shown}
use Rattle.ev_indexes.specs.Tables.{row_in}
use Rattle.ev_snapshot.specs.declared.changes.Changes.{Changes}
use Rattle.ev_snapshot.specs.declared.changes.ClusterChange.{ClusterChange}
use Rattle.ev_snapshot.specs.declared.changes.ListenerChange.{ListenerChange}
use Rattle.ev_layers.specs.Rows.{IsInOrder}
use Rattle.ev_snapshot.specs.Changes.{IsOrdered, put_cluster, put_clusters, put_listener, put_listeners, shown_with}
use Rattle.ev_snapshot.specs.Tables.{cluster_numbered, listener_numbered}
use Rattle.ev_indexes.proofs.ShownLemmas.{names-differ}
use Rattle.ev_indexes.specs.Due.{is_one_of}
use Rattle.ev_indexes.specs.Shown.{cluster_shown, listener_shown}
use Rattle.ev_state.specs.Changed.{HaveChanged}
use Rattle.ev_state.specs.States.{ManagesAt, SameManaged}
use Rattle.ev_state.specs.declared.state.State.{State}
use Rattle.ev_retirement.specs.Pictures.{HasPictures, PicturesParts, shown_after}
use Rattle.ev_retirement.specs.Holders.{AreNumbered}
use Rattle.ev_proxy.specs.Changing.{IsShownBut, changes_at, cluster_change, listener_change}
use Rattle.ev_proxy.proofs.OrderLemmas.{AreInOrder, StandsBefore, number_same, number_turned}
use Rattle.ev_proxy.proofs.ChangeLemmas.{changes_made}
use Rattle.ev_proxy.proofs.FoundLemmas.{NamesDiffer, none_numbered, clusters_found, clusters_order, listeners_found, listeners_order}
use Rattle.ev_proxy.proofs.NotingLemmas.{at-numbered}

-- what the last of these pictures shows
abbrev last_of : List Shown → Shown
last_of pictures = slice_index_or pictures (length pictures - 1) nothing_shown

-- where the managers' part and the pictures are the same, so is what is shown
pub still_shown : (numbers : List ℕ) (before after : World) → SameManaged before after → after.pictures ≡ before.pictures
    → IsShownBut numbers before → IsShownBut numbers after
still_shown numbers before after same pictures shown = record {
  clusters = λ n none.
      ap (λ (ps : List Shown). cluster_numbered (last_of ps).clusters n) pictures ∙ shown.clusters n none
      ∙ (λ i. cluster_shown (sym same.arrivals i) (sym same.results i) (row_in n (sym same.rows i)));
  listeners = λ n none.
      ap (λ (ps : List Shown). listener_numbered (last_of ps).listeners n) pictures ∙ shown.listeners n none
      ∙ (λ i. cond (is_serving (sym same.phase i)) (listener_shown (sym same.arrivals i) (row_in n (sym same.rows i))) None);
}

-- an event of the managers: its numbers are put to them
pub more_shown : (old told new : List ℕ) (before after : World) → ((n : ℕ) → is_one_of new n ≡ (is_one_of old n || is_one_of told n))
    → after.pictures ≡ before.pictures → HaveChanged told before after → IsShownBut old before → IsShownBut new after
more_shown old told new before after put pictures changed shown = record {
  clusters = λ n none.
      let parts = or_parts (is_one_of old n) (is_one_of told n) (sym (put n) ∙ none) in
      ap (λ (ps : List Shown). cluster_numbered (last_of ps).clusters n) pictures ∙ shown.clusters n parts.0 ∙ sym (changed.clusters n parts.1);
  listeners = λ n none.
      let parts = or_parts (is_one_of old n) (is_one_of told n) (sym (put n) ∙ none) in
      ap (λ (ps : List Shown). listener_numbered (last_of ps).listeners n) pictures ∙ shown.listeners n parts.0 ∙ sym (changed.listeners n parts.1);
}

-- a snapshot's order
apart : (b : Bool) → not b ≡ true → b ≡ false
apart true h = absurd (false≢true h)
apart false h = refl

module _ {X : Type 0} (name : X → List ℕ) (number : X → ℕ) where
  each_before : (x : X) (ys : List X) → AllByRecursion (λ y. is_before (name x) (name y) ≡ true) ys → AllByRecursion (λ y. not (number x == number y) ≡ true) ys
      → AllByRecursion (StandsBefore name number x) ys
  each_before x [] first second = tt
  each_before x (y ∷ ys) first second = (record { names = first.0; numbers = apart (number x == number y) second.0 }, each_before x ys first.1 second.1)

  in_order : (xs : List X) → IsInOrder number name xs → AreInOrder name number xs
  in_order [] order = tt
  in_order (x ∷ xs) order = (each_before x xs order.names.0 order.numbers.0, in_order xs (record { names = order.names.1; numbers = order.numbers.1 }))

-- a number among others
among_turned : (numbers : List ℕ) (n : ℕ) → is_one_of numbers n ≡ has_number n numbers
among_turned [] n = refl
among_turned (m ∷ numbers) n = λ i. number_turned n m i || among_turned numbers n i

-- what changes name their numbers
numbers_same : {C : Type 0} (changed : C → ℕ) (make : ℕ → C) → ((n : ℕ) → changed (make n) ≡ n) → (numbers : List ℕ) → map changed (map make numbers) ≡ numbers
numbers_same changed make same [] = refl
numbers_same changed make same (n ∷ numbers) = λ i. same n i ∷ numbers_same changed make same numbers i

-- and say what is found of them
all_tell : {C : Type 0} (P : C → Type 0) (make : ℕ → C) → ((n : ℕ) → P (make n)) → (numbers : List ℕ) → AllByRecursion P (map make numbers)
all_tell P make each [] = tt
all_tell P make each (n ∷ numbers) = (each n, all_tell P make each numbers)

module _ (numbers : List ℕ) (world : World) (apart : AreNumbered world.rows) (clusters : NamesDiffer Cds world.rows) (listeners : NamesDiffer Lds world.rows)
    (order : IsOrdered (last_picture world).shown) (shown : IsShownBut numbers world) where
  clusters_made : (shown_with (changes_at world numbers) (last_picture world).shown).clusters ≡ (shown_of world).clusters
  clusters_made =
      changes_made (λ (c : ServedCluster). c.name) (λ (c : ServedCluster). c.number) (λ (c : ClusterChange). c.number) (λ (c : ClusterChange). c.served) put_clusters
      (λ xs. refl)
      (λ c cs xs is. ap (λ o. put_clusters cs (put_cluster o xs)) is)
      (λ c cs x xs is. ap (λ o. put_clusters cs (put_cluster o xs)) is)
      (last_picture world).shown.clusters (shown_of world).clusters (map (cluster_change world) numbers)
      (in_order (λ (c : ServedCluster). c.name) (λ (c : ServedCluster). c.number) (last_picture world).shown.clusters order.clusters)
      (clusters_order world apart clusters)
      (all_tell (λ (c : ClusterChange). c.served ≡ cluster_numbered (shown_of world).clusters c.number) (cluster_change world) (λ n. sym (clusters_found world apart clusters n)) numbers)
      (λ n none.
      shown.clusters n (among_turned numbers n ∙ ap (has_number n) (sym (numbers_same (λ (c : ClusterChange). c.number) (cluster_change world) (λ m. refl) numbers)) ∙ none)
      ∙ sym (clusters_found world apart clusters n))

  listeners_made : (shown_with (changes_at world numbers) (last_picture world).shown).listeners ≡ (shown_of world).listeners
  listeners_made =
      changes_made (λ (l : ServedListener). l.name) (λ (l : ServedListener). l.number) (λ (c : ListenerChange). c.number) (λ (c : ListenerChange). c.served) put_listeners
      (λ xs. refl)
      (λ c cs xs is. ap (λ o. put_listeners cs (put_listener o xs)) is)
      (λ c cs x xs is. ap (λ o. put_listeners cs (put_listener o xs)) is)
      (last_picture world).shown.listeners (shown_of world).listeners (map (listener_change world) numbers)
      (in_order (λ (l : ServedListener). l.name) (λ (l : ServedListener). l.number) (last_picture world).shown.listeners order.listeners)
      (listeners_order world apart listeners (is_serving world.phase))
      (all_tell (λ (c : ListenerChange). c.served ≡ listener_numbered (shown_of world).listeners c.number) (listener_change world) (λ n. sym (listeners_found world apart listeners n)) numbers)
      (λ n none.
      shown.listeners n (among_turned numbers n ∙ ap (has_number n) (sym (numbers_same (λ (c : ListenerChange). c.number) (listener_change world) (λ m. refl) numbers)) ∙ none)
      ∙ sym (listeners_found world apart listeners n))

  -- what is made of the last picture is what is to be shown
  pub shown_made : shown_with (changes_at world numbers) (last_picture world).shown ≡ shown_of world
  shown_made = λ i. record { clusters = clusters_made i; listeners = listeners_made i }

-- the names of the active rows of a kind
names_shown : (kind : Kind) (s : State) (world : World) → ManagesAt s world → NamesDiffer kind world.rows
names_shown kind s world at =
    subst (NamesDiffer kind) at.follows.stands.managers.rows (names-differ s.managers.core.state at.kept.indexed kind)

pub cluster_names : (s : State) (world : World) → ManagesAt s world → NamesDiffer Cds world.rows
cluster_names s world at = names_shown Cds s world at

pub listener_names : (s : State) (world : World) → ManagesAt s world → NamesDiffer Lds world.rows
listener_names s world at = names_shown Lds s world at

-- a publication: the last picture shows what is to be shown
pub published_shown : (s : State) (world : World) → ManagesAt s world → IsShownBut [] (publish world).0
published_shown s world at = by (shown_same (shown_of world) (shown_at world (last_version world))) refl
  where
    apart : AreNumbered world.rows
    apart = at-numbered s world at

    led : Bool → World × Answer
    led t = cond t (world, Unchanged) (record world { pictures = world.pictures ++ shown_of world ∷ [] }, Version (length world.pictures))

    found : (pictures : List Shown) → last_of pictures ≡ shown_of world → IsShownBut [] (record world { pictures = pictures })
    found pictures is = record {
      clusters = λ n none. ap (λ (s : Shown). cluster_numbered s.clusters n) is ∙ clusters_found world apart (cluster_names s world at) n;
      listeners = λ n none. ap (λ (s : Shown). listener_numbered s.listeners n) is ∙ listeners_found world apart (listener_names s world at) n;
    }

    by : (t : Bool) → shown_same (shown_of world) (shown_at world (last_version world)) ≡ t → IsShownBut [] (led t).0
    by true same = found world.pictures (sym ((shown_decides (shown_of world) (last_of world.pictures)).0 same))
    by false other = found (world.pictures ++ shown_of world ∷ []) (last_shown world (shown_of world))

-- a reaping: nothing of what goes was shown
module _ {X : Type 0} (shown : Option GenRow → Option X) (dead : GenRow → Bool) (nothing : shown None ≡ None) (unshown : (row : GenRow) → dead row ≡ true → shown (Some row) ≡ None) where
  shown_left : (n : ℕ) (rows : List GenRow) → AreNumbered rows → shown (row_in n (filter (λ row. not (dead row)) rows)) ≡ shown (row_in n rows)
  shown_left n [] apart = refl
  shown_left n (row ∷ rows) apart = by (dead row) refl (n == row.number) refl (shown_left n rows apart.1)
    where
      by : (d : Bool) → dead row ≡ d → (t : Bool) → (n == row.number) ≡ t → shown (row_in n (filter (λ r. not (dead r)) rows)) ≡ shown (row_in n rows)
          → shown (row_in n (cond (not d) (row ∷ filter (λ r. not (dead r)) rows) (filter (λ r. not (dead r)) rows))) ≡ shown (cond t (Some row) (row_in n rows))
      by true is true here rest =
          rest
          ∙ ap shown (none_numbered n rows (ap (λ k. list_any (λ (r : GenRow). r.number == k) rows) (number_same n row.number here) ∙ apart.0))
          ∙ nothing ∙ sym (unshown row is)
      by true is false other rest = rest
      by false isnt true here rest = ap (λ t. shown (cond t (Some row) (row_in n (filter (λ r. not (dead r)) rows)))) here
      by false isnt false other rest = ap (λ t. shown (cond t (Some row) (row_in n (filter (λ r. not (dead r)) rows)))) other ∙ rest

dead_inactive : (status : RowStatus) (held : Bool) → is_dead_at status held ≡ true → is_active status ≡ false
dead_inactive Warming held dead = absurd (false≢true dead)
dead_inactive Active held dead = absurd (false≢true dead)
dead_inactive Draining held dead = refl
dead_inactive Dropped held dead = refl

none_serving : {X : Type 0} (a b : Bool) (o : Option X) → b ≡ false → cond (a && b) o None ≡ None
none_serving true b o is = ap (λ t. cond t o None) is
none_serving false b o is = refl

pub reaped_shown : (format : Format) (numbers : List ℕ) (world : World) → AreNumbered world.rows → IsShownBut numbers world → IsShownBut numbers (without_dead format world)
reaped_shown format numbers world apart shown = record {
  clusters = λ n none.
      shown.clusters n none
      ∙ sym (shown_left (cluster_shown world.arrivals world.results) (is_dead format world) refl
      (λ row dead. none_serving (kind_same row.kind Cds) (is_active row.status) _ (dead_inactive row.status _ dead)) n world.rows apart);
  listeners = λ n none.
      shown.listeners n none
      ∙ ap (λ o. cond (is_serving world.phase) o None)
      (sym (shown_left (listener_shown world.arrivals) (is_dead format world) refl
      (λ row dead. none_serving (kind_same row.kind Lds) (is_active row.status) _ (dead_inactive row.status _ dead)) n world.rows apart));
}

-- what is published is what is to be shown
pub after_changes : (s : State) (pictures : PicturesParts) (numbers : List ℕ) (changes : Changes) (world : World)
    → ManagesAt s world → HasPictures pictures world → IsShownBut numbers world → IsOrdered pictures.last.shown → changes ≡ changes_at world numbers
    → shown_after changes pictures ≡ shown_of world
after_changes s pictures numbers changes world at has shown order is =
    (λ i. shown_with (is i) (has.last i).shown)
    ∙ shown_made numbers world (at-numbered s world at) (cluster_names s world at) (listener_names s world at) (subst (λ (p : Picture). IsOrdered p.shown) has.last order) shown
