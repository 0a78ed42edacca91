-- What is known before a response, asked by look-ups.
use Rattle.std.specs.Prelude.{◌≡◌, ℕ, Bool, true, false, List, Option, filter}
use Rattle.std.specs.List.{AllByRecursion}
use Rattle.ev_types.specs.Kinds.{kind_same, is_by_name}
use Rattle.ev_types.specs.declared.contents.Kind.{Kind}
use Rattle.ev_types.specs.declared.hosts.SocketAddress.{SocketAddress}
use Rattle.ev_types.specs.declared.rows.KeptVersion.{KeptVersion}
use Rattle.ev_types.specs.declared.rows.Live.{Live}
use Rattle.ev_model.specs.Live.{newest_of}
use Rattle.ev_model.specs.Versions.{is_kept}
use Rattle.ev_model.specs.Verdicts.{serving_of}
use Rattle.ev_model.specs.Watching.{is_watched}
use Rattle.ev_lookups.specs.Lives.{is_at}

-- the answers to what verdicts ask: the newest live row of a kind and name, the one that serves,
-- the live rows of an address, whether a live row depends on a kind and name,
-- and whether this version is kept for a kind and name
pub record Answers : Type 0 where
  pub newest : Kind → List ℕ → Option Live
  pub serving : Kind → List ℕ → Option Live
  pub holders : SocketAddress → List Live
  pub watched : Kind → List ℕ → Bool
  pub kept : Kind → List ℕ → List ℕ → Bool

-- the answers are those of these live rows and versions, and what is asked for by name has no rows
pub record Tells (answers : Answers) (kind : Kind) (lives : List Live) (versions : List KeptVersion) : Type 0 where
  pub newest : (k : Kind) (name : List ℕ) → answers.newest k name ≡ newest_of lives k name
  pub serving : (k : Kind) (name : List ℕ) → answers.serving k name ≡ serving_of lives k name
  pub holders : (address : SocketAddress) → answers.holders address ≡ filter (is_at address) lives
  pub watched : (k : Kind) (name : List ℕ) → answers.watched k name ≡ is_watched lives k name
  pub kept : (k : Kind) (name version : List ℕ) → answers.kept k name version ≡ is_kept versions k name version
  pub apart : is_by_name kind ≡ true → AllByRecursion (λ (live : Live). kind_same live.kind kind ≡ false) lives

-- the answers of lists that are searched
abbrev pub answers_of : List Live → List KeptVersion → Answers
answers_of lives versions = record {
  newest = λ kind name. newest_of lives kind name;
  serving = λ kind name. serving_of lives kind name;
  holders = λ address. filter (is_at address) lives;
  watched = λ kind name. is_watched lives kind name;
  kept = λ kind name version. is_kept versions kind name version;
}
