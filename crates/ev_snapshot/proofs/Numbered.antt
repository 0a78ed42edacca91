-- A picture shows a number exactly where it is among those of its clusters or of its listeners.
use Rattle.std.proofs.Common.{◌≡◌, ℕ, ◌||◌, ◌==◌, map}
use Rattle.std.proofs.lemmas.List.Folds.{list_any-append}
use Rattle.ev_model.specs.Picture.{has_number, is_shown}
use Rattle.ev_model.specs.declared.pictures.Shown.{Shown}
use Rattle.ev_model.specs.declared.pictures.ServedCluster.{ServedCluster}
use Rattle.ev_model.specs.declared.pictures.ServedListener.{ServedListener}

-- a picture shows a number as a cluster's or as a listener's
pub shown_parts : (number : ℕ) (shown : Shown)
    → is_shown number shown
    ≡ (has_number number (map (λ (c : ServedCluster). c.number) shown.clusters) || has_number number (map (λ (l : ServedListener). l.number) shown.listeners))
shown_parts number shown =
    list_any-append (λ n. n == number) (map (λ (c : ServedCluster). c.number) shown.clusters) (map (λ (l : ServedListener). l.number) shown.listeners)
