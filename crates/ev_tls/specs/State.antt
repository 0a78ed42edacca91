-- What is known after some lines.
use Rattle.std.specs.Prelude.{◌≡◌, ℕ, false, List}
use Rattle.serde_json.specs.Data.{Data}
use Rattle.ev_types.specs.declared.events.Profile.{Profile}
use Rattle.ev_types.specs.Profiles.{is_envoy}
use Rattle.ev_expand.specs.Fronts.{stream_at}
use Rattle.ev_expand.specs.Guarding.{guarded_by}
use Rattle.ev_tls.specs.declared.awaited.Awaited.{Awaited}
use Rattle.ev_tls.specs.declared.secrets.Secrets.{Secrets}
use Rattle.ev_tls.specs.Known.{has_told, shown_value}
use Rattle.ev_tls.specs.References.{by_secrets}
use Rattle.ev_tls.specs.Told.{is_told, value_of}
use Rattle.ev_tls.specs.Waiting.{AreComplete, IsWaiting}

-- what is known is what was heard in these lines, as they are read in a profile, and by it each of what is guarded in
-- them waits or is complete
pub record HasHeard (profile : Profile) (s : Secrets) (lines : List Data) : Type 0 where
  pub stream : s.connected ≡ stream_at profile lines
  pub told : (a : Awaited) → has_told s.told a ≡ is_told profile lines a
  pub values : (name : List ℕ) → shown_value s.values name ≡ value_of profile lines name
  pub waiting : IsWaiting s.told (guarded_by (by_secrets profile) lines) s.waiting
  pub complete : AreComplete s.told (guarded_by (by_secrets profile) lines) s.complete

-- what is known after these lines; as Envoy reads them nothing is guarded, and nothing has to be known
abbrev pub IsBehind : Profile → Secrets → List Data → Type 0
IsBehind profile s lines = is_envoy profile ≡ false → HasHeard profile s lines
