-- Pictures and the world that they represent.
use Rattle.std.proofs.Common.{◌≡◌, ℕ, zero, suc, ◌<◌, ◌+◌, ◌||◌, ◌==◌, Bool, true, false, cond, List, [], ◌∷◌, ◌++◌, map, length, replicate, slice_index_or, slice_set, Some, None, refl, sym, ap, ◌∙◌, subst, arith}
use Rattle.std.specs.List.{list_any, flat_map, AllByRecursion}
use Rattle.std.proofs.lemmas.Grind.{common_steps}
use Rattle.std.proofs.lemmas.List.{get_or-map, get_or_append_left, length-map, map-set, replicate-append-replicate}
use Rattle.std.proofs.Math.Seq.{get_or-append_seam}
use Rattle.std.proofs.lemmas.List.Folds.{list_any-append}
use Rattle.ev_types.specs.declared.events.Answer.{Answer}
use Rattle.ev_types.specs.declared.events.Answer.TheVariants.{Unchanged, Version}
use Rattle.ev_model.specs.declared.pictures.Picture.{Picture}
use Rattle.ev_model.specs.declared.pictures.Shown.{Shown}
use Rattle.ev_model.specs.World.{World, last_version, nothing_shown, opening}
use Rattle.ev_model.specs.Picture.{has_number, is_shown, numbers_shown, shown_of, shown_same}
use Rattle.ev_model.specs.Dead.{last_picture, numbers_in_use, picture_at, picture_held, shown_at, shown_in_use}
use Rattle.ev_model.specs.Publishing.{publish}
use Rattle.ev_snapshot.specs.Changes.{empty_picture}
use Rattle.ev_retirement.specs.Pictures.{HasPictures, PicturesParts, is_shown_by, is_shown_in, next_version, published_answer, settled_on, with_settled, with_shown}

-- at the opening
none_known : (n : ℕ) → AllByRecursion (λ version. version < 1) (replicate n 0)
none_known zero = tt
none_known (suc n) = (omega arith, none_known n)

all_first : (node : List ℕ) (workers n : ℕ) → replicate n empty_picture ≡ map (picture_at (opening workers node)) (replicate n 0)
all_first node workers zero = refl
all_first node workers (suc n) = ap (λ ps. empty_picture ∷ ps) (all_first node workers n)

pub opening_stands : (workers : ℕ) (node : List ℕ) → HasPictures (record { last = empty_picture; held = replicate workers empty_picture }) (opening workers node)
opening_stands workers node = record {
  published = refl;
  last = refl;
  held = all_first node workers workers;
  known = none_known workers;
}

-- one more of the same
pub one_more : {X : Type 0} (x : X) (n : ℕ) → replicate n x ++ x ∷ [] ≡ replicate (n + 1) x
one_more x n = replicate-append-replicate n 1 x

pub any_mapped : {X Y : Type 0} (q : Y → Bool) (f : X → Y) (xs : List X) → list_any q (map f xs) ≡ list_any (λ x. q (f x)) xs
any_mapped q f [] = refl
any_mapped q f (x ∷ xs) = ap (λ b. q (f x) || b) (any_mapped q f xs)

-- one more picture
longer : (xs : List Shown) (shown : Shown) → length (xs ++ shown ∷ []) ≡ length xs + 1
longer [] shown = refl
longer (x ∷ xs) shown = grind (arith, common_steps, longer xs shown)

module _ (world : World) (shown : Shown) where
  abbrev more : World
  more = record world { pictures = world.pictures ++ shown ∷ [] }

  still_held : (held : List ℕ) → AllByRecursion (λ version. version < length world.pictures) held → map (picture_at world) held ≡ map (picture_at more) held
  still_held [] known = refl
  still_held (version ∷ held) known =
      let same : picture_at world version ≡ picture_at more version =
      ap (λ (s : Shown). record { version = version; shown = s }) (sym (get_or_append_left world.pictures (shown ∷ []) nothing_shown version known.0)) in
      ap (λ p. p ∷ map (picture_at world) held) same ∙ ap (λ ps. picture_at more version ∷ ps) (still_held held known.1)

  still_known : (held : List ℕ) → AllByRecursion (λ version. version < length world.pictures) held → AllByRecursion (λ version. version < length more.pictures) held
  still_known [] known = tt
  still_known (version ∷ held) known =
      let len : length more.pictures ≡ length world.pictures + 1 = longer world.pictures shown in
      let here = known.0 in
      (omega arith, still_known held known.1)

  new_last : (version : ℕ) → length world.pictures ≡ version → record { version = version; shown = shown } ≡ last_picture more
  new_last version is =
      let len : length more.pictures ≡ length world.pictures + 1 = longer world.pictures shown in
      let at : last_version more ≡ length world.pictures = omega arith in
      ap (λ v. record { version = v; shown = shown }) (sym is)
      ∙ ap (λ (s : Shown). record { version = length world.pictures; shown = s }) (sym (get_or-append_seam world.pictures shown [] nothing_shown))
      ∙ ap (picture_at more) (sym at)

  new_stands : (pictures : PicturesParts) → HasPictures pictures world
      → HasPictures (record pictures { last = record { version = pictures.last.version + 1; shown = shown } }) more
  new_stands pictures stands = record {
    published = longer world.pictures shown ∙ ap (λ n. n + 1) stands.published;
    last = new_last (pictures.last.version + 1) stands.published;
    held = stands.held ∙ still_held world.held stands.known;
    known = still_known world.held stands.known;
  }

-- a publication
pub publish_stands : (shown : Shown) (pictures : PicturesParts) (world : World) → HasPictures pictures world → shown ≡ shown_of world
    → HasPictures (with_shown shown pictures) (publish world).0
publish_stands shown pictures world stands is =
    by (shown_same shown pictures.last.shown) (shown_same (shown_of world) (shown_at world (last_version world)))
    (ap (λ s. shown_same s pictures.last.shown) is ∙ ap (λ (p : Picture). shown_same (shown_of world) p.shown) stands.last)
  where
    by : (t u : Bool) → t ≡ u
        → HasPictures (cond t pictures (record pictures { last = record { version = pictures.last.version + 1; shown = shown } }))
        (cond {A = World × Answer} u (world, Unchanged) (record world { pictures = world.pictures ++ shown_of world ∷ [] }, Version (length world.pictures))).0
    by true true h = stands
    by true false h = grind arith
    by false true h = grind arith
    by false false h = subst (λ s. HasPictures (record pictures { last = record { version = pictures.last.version + 1; shown = shown } }) (record world { pictures = world.pictures ++ s ∷ [] })) is (new_stands world shown pictures stands)

-- where it shows something else
pub published_stands : (shown : Shown) (last : Picture) (pictures : PicturesParts) (world : World) → shown_same shown pictures.last.shown ≡ false
    → last ≡ record { version = pictures.last.version + 1; shown = shown } → HasPictures pictures world → shown ≡ shown_of world
    → HasPictures (record pictures { last = last }) (publish world).0
published_stands shown last pictures world other new stands is =
    subst (λ p. HasPictures p (publish world).0)
    (ap (λ t. cond t pictures (record pictures { last = record { version = pictures.last.version + 1; shown = shown } })) other ∙ ap (λ l. record pictures { last = l }) (sym new))
    (publish_stands shown pictures world stands is)

pub publish_answers : (shown : Shown) (pictures : PicturesParts) (world : World) → HasPictures pictures world → shown ≡ shown_of world
    → (publish world).1 ≡ published_answer (next_version shown pictures.last)
publish_answers shown pictures world stands is =
    by (shown_same shown pictures.last.shown) (shown_same (shown_of world) (shown_at world (last_version world)))
    (ap (λ s. shown_same s pictures.last.shown) is ∙ ap (λ (p : Picture). shown_same (shown_of world) p.shown) stands.last)
  where
    by : (t u : Bool) → t ≡ u
        → (cond {A = World × Answer} u (world, Unchanged) (record world { pictures = world.pictures ++ shown_of world ∷ [] }, Version (length world.pictures))).1
        ≡ published_answer (cond t None (Some (pictures.last.version + 1)))
    by true true h = refl
    by true false h = grind arith
    by false true h = grind arith
    by false false h = ap Version stands.published

-- a settle
known_set : (P : ℕ → Type 0) (held : List ℕ) (worker version : ℕ) → P version → AllByRecursion P held → AllByRecursion P (slice_set held worker version)
known_set P [] worker version here known = known
known_set P (v ∷ held) zero version here known = (here, known.1)
known_set P (v ∷ held) (suc worker) version here known = (known.0, known_set P held worker version here known.1)

pub settle_stands : (worker : ℕ) (pictures : PicturesParts) (world : World) → HasPictures pictures world → HasPictures (with_settled worker pictures) (settled_on worker world)
settle_stands worker pictures world stands =
    let some : last_version world < length world.pictures = let len = stands.published in omega arith in
    record {
      published = stands.published;
      last = stands.last;
      held =
          ap (λ ps. slice_set ps worker pictures.last) stands.held
          ∙ ap (slice_set (map (picture_at world) world.held) worker) stands.last
          ∙ sym (map-set (picture_at world) world.held worker (last_version world));
      known = known_set (λ version. version < length world.pictures) world.held worker (last_version world) some stands.known;
    }

-- the picture that a worker holds
pub held_stands : (worker : ℕ) (pictures : PicturesParts) (world : World) (other : Picture) → HasPictures pictures world → worker < length pictures.held
    → slice_index_or pictures.held worker other ≡ picture_held world worker
held_stands worker pictures world other stands below =
    let below : worker < length world.held = subst (λ n. worker < n) (ap length stands.held ∙ length-map world.held (picture_at world)) below in
    ap (λ ps. slice_index_or ps worker other) stands.held ∙ get_or-map (picture_at world) world.held worker 0 other below

-- what is shown by the pictures in use
shown_by_all : (number : ℕ) (shown : List Shown) → has_number number (flat_map numbers_shown shown) ≡ list_any (is_shown number) shown
shown_by_all number [] = refl
shown_by_all number (s ∷ shown) =
    list_any-append (λ n. n == number) (numbers_shown s) (flat_map numbers_shown shown) ∙ ap (λ b. is_shown number s || b) (shown_by_all number shown)

shown_held : (number : ℕ) (world : World) (held : List ℕ)
    → list_any (is_shown_in number) (map (picture_at world) held) ≡ list_any (is_shown number) (map (shown_at world) held)
shown_held number world [] = refl
shown_held number world (version ∷ held) = ap (λ b. is_shown number (shown_at world version) || b) (shown_held number world held)

or_none : (b : Bool) → b ≡ (b || false)
or_none true = refl
or_none false = refl

pub shows_stands : (number : ℕ) (pictures : PicturesParts) (world : World) → HasPictures pictures world
    → is_shown_by number pictures ≡ has_number number (numbers_in_use world)
shows_stands number pictures world stands =
    let last : Shown = shown_at world (last_version world) in
    ap (λ ps. list_any (is_shown_in number) ps || is_shown number pictures.last.shown) stands.held
    ∙ ap (λ (p : Picture). list_any (is_shown_in number) (map (picture_at world) world.held) || is_shown number p.shown) stands.last
    ∙ ap (λ b. b || is_shown number last) (shown_held number world world.held)
    ∙ ap (λ b. list_any (is_shown number) (map (shown_at world) world.held) || b) (or_none (is_shown number last))
    ∙ sym (list_any-append (is_shown number) (map (shown_at world) world.held) (last ∷ []))
    ∙ sym (shown_by_all number (shown_in_use world))
