-- What pictures show: one that is published shows generations that serve,
-- and what is in use is shown by a version in use.
use Rattle.std.proofs.Common.{◌≡◌, ℕ, ◌-◌, zero, suc, Bool, true, false, ◌&&◌, ◌||◌, ◌==◌, cond, List, [], ◌∷◌, ◌++◌, length, map, filter, sym, ap, ◌∙◌, length-append, arith}
use Rattle.std.specs.Prelude.{slice_index_or}
use Rattle.std.specs.Cmp.{second_so}
use Rattle.std.specs.List.{list_any, flat_map}
use Rattle.std.proofs.Math.Seq.{get_or-append_seam}
use Rattle.std.proofs.lemmas.Bool.{false≢true, cond_both, and_from, or_left, or_right}
use Rattle.ev_types.specs.Kinds.{kind_same}
use Rattle.ev_types.specs.Statuses.{is_active}
use Rattle.ev_types.specs.declared.contents.Kind.{Kind}
use Rattle.ev_types.specs.declared.contents.Kind.TheVariants.{Cds, Lds}
use Rattle.ev_types.specs.declared.contents.Content.{Content}
use Rattle.ev_types.specs.declared.contents.Content.TheVariants.{Cluster as a_cluster, Assignment as an_assignment, Listener as a_listener, Routes as routes, Secret as a_secret, Extension as an_extension}
use Rattle.ev_types.specs.declared.rows.GenRow.{GenRow}
use Rattle.ev_model.specs.declared.pictures.Shown.{Shown}
use Rattle.ev_model.specs.declared.pictures.ServedCluster.{ServedCluster}
use Rattle.ev_model.specs.declared.pictures.ServedListener.{ServedListener}
use Rattle.ev_model.specs.World.{World, Arrived, nothing_shown, last_version}
use Rattle.ev_model.specs.Phase.{is_serving}
use Rattle.ev_model.specs.Picture.{has_number, is_shown, numbers_shown, active_rows, served_cluster, served_clusters, served_listener, served_listeners, shown_of}
use Rattle.ev_model.specs.Versions.{is_before}
use Rattle.ev_model.specs.Dead.{shown_at, numbers_in_use}
use Rattle.ev_model_laws.proofs.AnyLemmas.{or_so, any_so, any_behind, any_mapped, any_flat, any_sorted}

-- the row is of this number, and serves
abbrev pub serves_numbered : ℕ → GenRow → Bool
serves_numbered number row = (row.number == number) && is_active row.status

active_numbered : (number : ℕ) (kind : Kind) (rows : List GenRow)
    → list_any (λ (row : GenRow). row.number == number) (filter (λ (row : GenRow). kind_same row.kind kind && is_active row.status) rows) ≡ true
    → list_any (serves_numbered number) rows ≡ true
active_numbered number kind [] h = h
active_numbered number kind (row ∷ rows) h =
    cond_both (kind_same row.kind kind && is_active row.status)
    (row ∷ filter (λ (row : GenRow). kind_same row.kind kind && is_active row.status) rows)
    (filter (λ (row : GenRow). kind_same row.kind kind && is_active row.status) rows)
    (λ (left : List GenRow). list_any (λ (row : GenRow). row.number == number) left ≡ true → list_any (serves_numbered number) (row ∷ rows) ≡ true)
    (λ serves. or_so (row.number == number) _
    (λ first. or_left (serves_numbered number row) _ (and_from _ _ first (second_so (kind_same row.kind kind) (is_active row.status) serves)))
    (λ rest. or_right (serves_numbered number row) _ (active_numbered number kind rows rest)))
    (λ not rest. or_right (serves_numbered number row) _ (active_numbered number kind rows rest))
    h

-- a number of the active rows of a kind is that of a row that serves
active_serves : (number : ℕ) (kind : Kind) (rows : List GenRow)
    → list_any (λ (row : GenRow). row.number == number) (active_rows rows kind) ≡ true → list_any (serves_numbered number) rows ≡ true
active_serves number kind rows h =
    active_numbered number kind rows
    (any_sorted (λ (row : GenRow). row.number == number) (λ (row other : GenRow). is_before row.name other.name)
    (filter (λ (row : GenRow). kind_same row.kind kind && is_active row.status) rows) h)

clusters_serve : (number : ℕ) (world : World)
    → has_number number (map (λ (c : ServedCluster). c.number) (served_clusters world.arrivals world.results world.rows)) ≡ true
    → list_any (serves_numbered number) world.rows ≡ true
clusters_serve number world h =
    active_serves number Cds world.rows
    (sym (any_mapped (λ (c : ServedCluster). c.number == number) (served_cluster world.arrivals world.results) (active_rows world.rows Cds))
    ∙ (sym (any_mapped (λ n. n == number) (λ (c : ServedCluster). c.number) (served_clusters world.arrivals world.results world.rows)) ∙ h))

one_listener : (number : ℕ) (arrivals : List Arrived) (row : GenRow) (content : Content)
    → list_any (λ (l : ServedListener). l.number == number) (served_listener arrivals row content) ≡ true → (row.number == number) ≡ true
one_listener number arrivals row (a_cluster cluster) h = absurd (false≢true h)
one_listener number arrivals row (an_assignment rows) h = absurd (false≢true h)
one_listener number arrivals row (a_listener listener) h = or_so (row.number == number) false (λ same. same) (λ never. absurd (false≢true never)) h
one_listener number arrivals row (routes table) h = absurd (false≢true h)
one_listener number arrivals row a_secret h = absurd (false≢true h)
one_listener number arrivals row an_extension h = absurd (false≢true h)

listeners_serve : (number : ℕ) (world : World) (serving : Bool)
    → has_number number (map (λ (l : ServedListener). l.number) (cond serving (served_listeners world.arrivals world.rows) [])) ≡ true
    → list_any (serves_numbered number) world.rows ≡ true
listeners_serve number world true h =
    active_serves number Lds world.rows
    (any_so (λ (row : GenRow). list_any (λ (l : ServedListener). l.number == number) (served_listener world.arrivals row row.content))
    (λ (row : GenRow). row.number == number) (active_rows world.rows Lds)
    (λ (row : GenRow). one_listener number world.arrivals row row.content)
    (sym (any_flat (λ (l : ServedListener). l.number == number) (λ (row : GenRow). served_listener world.arrivals row row.content) (active_rows world.rows Lds))
    ∙ (sym (any_mapped (λ n. n == number) (λ (l : ServedListener). l.number) (served_listeners world.arrivals world.rows)) ∙ h)))
listeners_serve number world false h = absurd (false≢true h)

-- what workers may serve now is generations that serve
pub shown_serves : (number : ℕ) (world : World) → is_shown number (shown_of world) ≡ true → list_any (serves_numbered number) world.rows ≡ true
shown_serves number world h =
    any_behind (λ n. n == number) (map (λ (c : ServedCluster). c.number) (shown_of world).clusters)
    (map (λ (l : ServedListener). l.number) (shown_of world).listeners)
    (clusters_serve number world) (listeners_serve number world (is_serving world.phase)) h

-- a picture after the others changes none of them
pub shown_with : (P : Shown → Type 0) (pictures : List Shown) (new : Shown) (version : ℕ)
    → P (slice_index_or pictures version nothing_shown) → P new → P (slice_index_or (pictures ++ new ∷ []) version nothing_shown)
shown_with P [] new zero old one = one
shown_with P [] new (suc version) old one = old
shown_with P (first ∷ pictures) new zero old one = old
shown_with P (first ∷ pictures) new (suc version) old one = shown_with P pictures new version old one

-- the last picture is the one that was published last
pub last_shown : (world : World) (new : Shown)
    → shown_at (record world { pictures = world.pictures ++ new ∷ [] }) (last_version (record world { pictures = world.pictures ++ new ∷ [] })) ≡ new
last_shown world new =
    let place : length (world.pictures ++ new ∷ []) - 1 ≡ length world.pictures = omega (arith, length-append world.pictures (new ∷ [])) in
    ap (λ version. slice_index_or (world.pictures ++ new ∷ []) version nothing_shown) place
    ∙ get_or-append_seam world.pictures new [] nothing_shown

in_use_from : (number : ℕ) (shown : ℕ → Shown) (held : List ℕ) (last : ℕ)
    → has_number number (flat_map numbers_shown (map shown held ++ shown last ∷ []))
    ≡ list_any (λ version. is_shown number (shown version)) (held ++ last ∷ [])
in_use_from number shown [] last = any_flat (λ n. n == number) numbers_shown (shown last ∷ [])
in_use_from number shown (version ∷ held) last =
    any_flat (λ n. n == number) numbers_shown (map shown (version ∷ held) ++ shown last ∷ [])
    ∙ ap (λ b. is_shown number (shown version) || b)
    (sym (any_flat (λ n. n == number) numbers_shown (map shown held ++ shown last ∷ [])) ∙ in_use_from number shown held last)

-- what pictures in use show is what a version shows that is held or the last
pub in_use_is : (number : ℕ) (world : World)
    → has_number number (numbers_in_use world) ≡ list_any (λ version. is_shown number (shown_at world version)) (world.held ++ last_version world ∷ [])
in_use_is number world = in_use_from number (shown_at world) world.held (last_version world)
