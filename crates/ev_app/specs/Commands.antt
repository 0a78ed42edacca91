-- The commands, and the words that ask for each. A command has a line in each of these.
use Rattle.std.specs.Prelude.{◌≡◌, ℕ, ◌<◌, ◌≤◌, ◌^◌, List, [], ◌∷◌, ⊤, codes, decimal}
use Rattle.ev_app.specs.declared.commands.Command.{Command}
use Rattle.ev_app.specs.declared.commands.Command.TheVariants.{Replay, Run, Audit, Soak, Tls, Dns, Chains, Sotw, Dump}
use Rattle.ev_soak.specs.declared.soaking.TheConstants.{MAX_SOAK}

-- the words of a command; the decimal of a number has no sign, and no zero before another digit
abbrev pub words_of : Command → List (List ℕ)
words_of Replay = codes "replay" ∷ []
words_of Run = codes "run" ∷ []
words_of Audit = codes "audit" ∷ []
words_of (Soak seed count) = codes "soak" ∷ decimal seed ∷ decimal count ∷ []
words_of Tls = codes "tls" ∷ []
words_of Dns = codes "dns" ∷ []
words_of Chains = codes "chains" ∷ []
words_of Sotw = codes "sotw" ∷ []
words_of (Dump entries) = codes "dump" ∷ decimal entries ∷ []

-- a seed has 64 bits, and a script of a seed 1 to this many lines after its header
pub record IsSoak (seed count : ℕ) : Type 0 where
  pub bits : seed < 2 ^ 64
  pub some : 1 ≤ count
  pub few : count ≤ MAX_SOAK

-- the numbers of a command are within their limits
abbrev pub IsWithin : Command → Type 0
IsWithin Replay = ⊤
IsWithin Run = ⊤
IsWithin Audit = ⊤
IsWithin (Soak seed count) = IsSoak seed count
IsWithin Tls = ⊤
IsWithin Dns = ⊤
IsWithin Chains = ⊤
IsWithin Sotw = ⊤
IsWithin (Dump entries) = entries < 2 ^ 32

-- the arguments of a command line ask for a command
pub record Asks (arguments : List (List ℕ)) (command : Command) : Type 0 where
  pub words : arguments ≡ words_of command
  pub within : IsWithin command
