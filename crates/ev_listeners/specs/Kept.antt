-- Whether listeners keep what they had under a name.
use Rattle.std.specs.Prelude.{ℕ, Bool, List}
use Rattle.ev_model.specs.Picture.{served_listener_same}
use Rattle.ev_model.specs.declared.pictures.ServedListener.{ServedListener}
use Rattle.ev_layers.specs.Kept.{keeps_name, keeps_number}

-- the same listener has this name
abbrev pub listener_name_keeps : List ServedListener → List ServedListener → List ℕ → Bool
listener_name_keeps before after name = keeps_name (λ (l : ServedListener). l.name) served_listener_same before after name

-- the same listener has the name that this number had
abbrev pub listener_number_keeps : List ServedListener → List ServedListener → ℕ → Bool
listener_number_keeps before after number =
    keeps_number (λ (l : ServedListener). l.number) (λ (l : ServedListener). l.name) served_listener_same before after number
