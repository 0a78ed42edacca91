-- What changes touch: the generations of their numbers, and those whose names they take. What goes is among these.
use Rattle.std.specs.Prelude.{ℕ, ◌≡◌, true, false, if◌then◌else◌, List, [], ◌∷◌, ◌++◌, Option, Some, None, option_map, option_to_list}
use Rattle.std.specs.List.{flat_map}
use Rattle.ev_types.specs.declared.origins.Origin.{Origin}
use Rattle.ev_model.specs.Connections.{chains_shown, is_chain_shown}
use Rattle.ev_model.specs.Picture.{has_number, is_shown}
use Rattle.ev_model.specs.declared.pictures.ServedChain.{ServedChain}
use Rattle.ev_model.specs.declared.pictures.ServedCluster.{ServedCluster}
use Rattle.ev_model.specs.declared.pictures.ServedListener.{ServedListener}
use Rattle.ev_model.specs.declared.pictures.Shown.{Shown}
use Rattle.ev_layers.specs.Rows.{named}
use Rattle.ev_snapshot.specs.declared.changes.Changes.{Changes}
use Rattle.ev_snapshot.specs.declared.changes.ClusterChange.{ClusterChange}
use Rattle.ev_snapshot.specs.declared.changes.ListenerChange.{ListenerChange}

-- the number of what serves now, and that of what had its name before
abbrev pub numbers_taken : {X : Type 0} → (X → ℕ) → (X → List ℕ) → List X → Option X → List ℕ
numbers_taken number name before None = []
numbers_taken number name before (Some x) = number x ∷ option_to_list (option_map number (named name before (name x)))

-- the numbers that a change of clusters touches
abbrev pub cluster_touches : List ServedCluster → ClusterChange → List ℕ
cluster_touches before change =
    change.number ∷ numbers_taken (λ (c : ServedCluster). c.number) (λ (c : ServedCluster). c.name) before change.served

-- the numbers that a change of listeners touches
abbrev pub listener_touches : List ServedListener → ListenerChange → List ℕ
listener_touches before change =
    change.number
    ∷ numbers_taken (λ (l : ServedListener). l.number) (λ (l : ServedListener). l.name) before change.served

-- the numbers that changes touch
abbrev pub numbers_touched : Changes → Shown → List ℕ
numbers_touched changes before =
    flat_map (cluster_touches before.clusters) changes.clusters
    ++ flat_map (listener_touches before.listeners) changes.listeners

-- the generation with which a chain began, where it is known and what is shown doesn't have the chain
abbrev pub begun_at : Shown → ServedChain → List ℕ
begun_at before chain =
    if is_chain_shown chain.origin before
    then []
    else option_to_list (option_map (λ (o : Origin). o.listener) chain.origin)

-- those of the chains of what serves now
abbrev pub served_begun : Shown → Option ServedListener → List ℕ
served_begun before None = []
served_begun before (Some listener) = flat_map (begun_at before) (chains_shown listener)

-- each generation that was shown and isn't any more is among these
abbrev pub AreGone : List ℕ → Shown → Shown → Type 0
AreGone numbers before after =
    (number : ℕ) → is_shown number before ≡ true → is_shown number after ≡ false → has_number number numbers ≡ true

-- each chain that wasn't shown and is now began with one of these generations
abbrev pub AreBegun : List ℕ → Shown → Shown → Type 0
AreBegun numbers before after =
    (origin : Origin) → is_chain_shown (Some origin) before ≡ false → is_chain_shown (Some origin) after ≡ true
    → has_number origin.listener numbers ≡ true
