-- The names that are watched of a kind in a world are those that its live rows depend on.
use Rattle.std.proofs.Common.{◌≡◌, ◌∙◌, sym}
use Rattle.std.specs.List.{flat_map}
use Rattle.ev_types.specs.declared.contents.Kind.{Kind}
use Rattle.ev_types.specs.declared.rows.Live.{Live}
use Rattle.ev_model.specs.World.{World}
use Rattle.ev_model.specs.Live.{lives_of}
use Rattle.ev_model.specs.Watching.{dependencies_of, has_dependency, names_awaited, watched_of}
use Rattle.ev_indexes.specs.Reads.{names_needed, names_watched}
use Rattle.ev_indexes.proofs.NameLemmas.{among-watched, among_watched, same-names, sorted-in_order}
use Rattle.ev_indexes.proofs.ReadLemmas.{any-lives}

pub names-seen : (kind : Kind) (world : World) → names_watched kind world.rows ≡ watched_of world kind
names-seen kind world =
    same-names (names_watched kind world.rows) (watched_of world kind) (sorted-in_order (names_needed kind world.rows))
    (sorted-in_order (flat_map (λ (live : Live). names_awaited kind (dependencies_of live.content)) (lives_of world)))
    (λ name. among-watched kind world.rows name ∙ sym (any-lives (has_dependency kind name) world.rows) ∙ sym (among_watched (lives_of world) kind name))
