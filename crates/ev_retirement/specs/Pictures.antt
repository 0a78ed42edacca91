-- What contracts see of the pictures, and what a world has of them.
use Rattle.std.specs.Prelude.{◌≡◌, ◌<◌, ◌≤◌, ◌+◌, ◌||◌, ℕ, Bool, if◌then◌else◌, List, [], ◌∷◌, ◌++◌, map, find, length, replicate, slice_get, slice_set, Option, Some, None}
use Rattle.std.specs.List.{list_any, AllByRecursion}
use Rattle.std.specs.Option.{option_map}
use Rattle.ev_types.specs.declared.events.Answer.{Answer}
use Rattle.ev_types.specs.declared.events.Answer.TheVariants.{Version, Unchanged}
use Rattle.ev_model.specs.declared.pictures.Picture.{Picture}
use Rattle.ev_model.specs.declared.pictures.Shown.{Shown}
use Rattle.ev_model.specs.World.{World, last_version}
use Rattle.ev_model.specs.Picture.{is_shown, shown_of, shown_same}
use Rattle.ev_model.specs.Dead.{last_picture, picture_at}
use Rattle.ev_model.specs.Publishing.{publish}
use Rattle.ev_snapshot.specs.declared.changes.Changes.{Changes}
use Rattle.ev_snapshot.specs.Changes.{empty_picture, shown_with}

-- the picture that was published last, and the one that each worker holds
pub record PicturesParts : Type 0 where
  pub last : Picture
  pub held : List Picture

-- nothing was published, and each of this many workers holds the empty picture
abbrev pub opening_pictures : ℕ → PicturesParts
opening_pictures workers = record { last = empty_picture; held = replicate workers empty_picture }

-- the pictures in use: the one that each worker holds, and the last
abbrev pub in_use : PicturesParts → List Picture
in_use pictures = pictures.held ++ pictures.last ∷ []

-- the picture is no later one than this, and the same where it has its version
pub record IsUpTo (last picture : Picture) : Type 0 where
  pub version : picture.version ≤ last.version
  pub same : picture.version ≡ last.version → picture ≡ last

-- no worker holds a later picture than the last
abbrev pub AreUpTo : Picture → List Picture → Type 0
AreUpTo last held = AllByRecursion (IsUpTo last) held

-- what is shown after these changes of the last picture
abbrev pub shown_after : Changes → PicturesParts → Shown
shown_after changes pictures = shown_with changes pictures.last.shown

-- the version of a publication: none where nothing else is shown than in the last picture
abbrev pub next_version : Shown → Picture → Option ℕ
next_version shown last = if shown_same shown last.shown then None else Some (last.version + 1)

-- the pictures after a publication
abbrev pub with_shown : Shown → PicturesParts → PicturesParts
with_shown shown pictures =
    if shown_same shown pictures.last.shown
    then pictures
    else record pictures { last = record { version = pictures.last.version + 1; shown = shown } }

-- the machine's answer to a publication, by its version
abbrev pub published_answer : Option ℕ → Answer
published_answer None = Unchanged
published_answer (Some version) = Version version

-- the pictures after this worker took over the last
abbrev pub with_settled : ℕ → PicturesParts → PicturesParts
with_settled worker pictures = record pictures { held = slice_set pictures.held worker pictures.last }

-- the world after this worker took over the last picture
abbrev pub settled_on : ℕ → World → World
settled_on worker world = record world { held = slice_set world.held worker (last_version world) }

-- the version of the picture that a worker holds
abbrev pub version_held : ℕ → PicturesParts → Option ℕ
version_held worker pictures = option_map (λ (p : Picture). p.version) (slice_get pictures.held worker)

-- the picture shows the generation of this number
abbrev pub is_shown_in : ℕ → Picture → Bool
is_shown_in number picture = is_shown number picture.shown

-- the version of the picture, where it shows the generation of this number
abbrev pub version_where : ℕ → Picture → Option ℕ
version_where number picture = if is_shown_in number picture then Some picture.version else None

-- a picture that a worker holds, or the last, shows the generation of this number
abbrev pub is_shown_by : ℕ → PicturesParts → Bool
is_shown_by number pictures = list_any (is_shown_in number) pictures.held || is_shown_in number pictures.last

-- the version of the first picture in use that shows the generation of this number
abbrev pub version_showing : ℕ → PicturesParts → Option ℕ
version_showing number pictures = option_map (λ (p : Picture). p.version) (find (is_shown_in number) (in_use pictures))

-- The pictures are those of the world: the last one, and of as many workers the one that each holds. The last one's
-- version is that of the world's last picture, and each worker's was published.
pub record HasPictures (pictures : PicturesParts) (world : World) : Type 0 where
  pub published : length world.pictures ≡ pictures.last.version + 1
  pub last : pictures.last ≡ last_picture world
  pub held : pictures.held ≡ map (picture_at world) world.held
  pub known : AllByRecursion (λ version. version < length world.pictures) world.held

-- whatever world the pictures represent, this is the answer of the question about it
abbrev pub IsAnswerOf : {A : Type 0} → (World → A) → PicturesParts → A → Type 0
IsAnswerOf question pictures answer = (world : World) → HasPictures pictures world → answer ≡ question world

-- whatever world the first pictures represent, the second represent what the change makes of it
abbrev pub StandsAfter : (World → World) → PicturesParts → PicturesParts → Type 0
StandsAfter change before after = (world : World) → HasPictures before world → HasPictures after (change world)

-- at whatever world the pictures represent, where these changes lead to what workers may serve, the machine answers a
-- publication with this version
abbrev pub AnswersPublication : Changes → PicturesParts → Option ℕ → Type 0
AnswersPublication changes pictures version =
    (world : World) → HasPictures pictures world → shown_after changes pictures ≡ shown_of world → (publish world).1 ≡ published_answer version

-- at whatever world the pictures represent, where these changes lead to what workers may serve, the machine publishes
-- nothing
pub record PublishesNothing (changes : Changes) (pictures : PicturesParts) : Type 0 where
  pub answer : AnswersPublication changes pictures None
  pub world : (world : World) → HasPictures pictures world → shown_after changes pictures ≡ shown_of world → (publish world).0 ≡ world

-- likewise the second pictures represent the world that a publication leaves
abbrev pub Publishes : Changes → PicturesParts → PicturesParts → Type 0
Publishes changes before after =
    (world : World) → HasPictures before world → shown_after changes before ≡ shown_of world → HasPictures after (publish world).0
