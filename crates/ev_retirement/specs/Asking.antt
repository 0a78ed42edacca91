-- Which generations a reaping asks about. A generation that no longer serves is asked about when it ceases to serve,
-- when its drain timeout comes, when a connection on it closes, and when a picture is let go under which it was set
-- aside. This project's own.
use Rattle.std.specs.Prelude.{◌≡◌, ℕ, Bool, true, false, not, ◌&&◌, ◌||◌, ◌==◌, List, Some, slice_get}
use Rattle.std.specs.List.{list_any, AllByRecursion}
use Rattle.std.specs.Ordering.{nat_cmp}
use Rattle.std.specs.BTreeSet.{contains}
use Rattle.ev_retirement.specs.Aside.{is_under}
use Rattle.ev_types.specs.declared.journals.Format.TheVariants.{Two}
use Rattle.ev_model.specs.declared.pictures.Picture.{Picture}
use Rattle.ev_model.specs.World.{OpenMember}
use Rattle.ev_model.specs.Picture.{has_number}
use Rattle.ev_model.specs.Dead.{is_forwarded_to, is_open_on}
use Rattle.ev_retirement.specs.Pictures.{PicturesParts, in_use, is_shown_by, is_shown_in}
use Rattle.ev_ledger.specs.declared.open_on.On.{On}
use Rattle.ev_drain.specs.Retired.{Retired, dead_of, has_row, is_dead_in, is_dead_row}
use Rattle.ev_retirement.specs.declared.asking.Asking.{Asking}
use Rattle.ev_retirement.specs.Holders.{HoldersParts}
use Rattle.ev_retirement.specs.Retiring.{AreInOrder}

-- the generation of this number is to be asked about
abbrev pub is_asked : Asking → ℕ → Bool
is_asked asking number = contains nat_cmp asking.asked number

-- each of these generations is to be asked about
abbrev pub AreAllAsked : Asking → List ℕ → Type 0
AreAllAsked asking numbers = (number : ℕ) → has_number number numbers ≡ true → is_asked asking number ≡ true

-- it is set aside under the picture of this version
abbrev pub is_aside : Asking → ℕ → ℕ → Bool
is_aside asking version number = is_under asking.aside version number

-- it is set aside under a picture in use that shows it
abbrev pub is_set_aside : Asking → PicturesParts → ℕ → Bool
is_set_aside asking pictures number = list_any (λ (p : Picture). is_shown_in number p && is_aside asking p.version number) (in_use pictures)

-- nothing holds the generation of a row, where only those pictures count under which it is set aside
abbrev pub is_let_go : Asking → PicturesParts → List OpenMember → Retired → Bool
is_let_go asking pictures opened row = is_dead_row Two (is_set_aside asking pictures) opened row

-- each generation that is let go is to be asked about
abbrev pub AreAsked : Asking → HoldersParts → Type 0
AreAsked asking holders =
    AllByRecursion (λ (row : Retired). is_let_go asking holders.pictures holders.ledger row ≡ true → is_asked asking row.number ≡ true) holders.drain

-- so it is, and the drain's rows are in order
pub record AreAskedInOrder (asking : Asking) (holders : HoldersParts) : Type 0 where
  pub asked : AreAsked asking holders
  pub ordered : AreInOrder holders.drain

-- what is asked about stays so, and what is set aside under a picture stays so or is asked about
pub record AsksMore (before after : Asking) : Type 0 where
  pub asked : (number : ℕ) → is_asked before number ≡ true → is_asked after number ≡ true
  pub aside : (version number : ℕ) → is_aside before version number ≡ true → (is_asked after number || is_aside after version number) ≡ true

-- one generation is no longer asked about
pub record Forgets (number : ℕ) (before after : Asking) : Type 0 where
  pub asked : (other : ℕ) → is_asked after other ≡ (not (other == number) && is_asked before other)
  pub aside : (version other : ℕ) → is_aside after version other ≡ is_aside before version other

-- where no connection is open on the generation, and a picture in use shows it, it is set aside under one of those
abbrev pub IsKeptAside : ℕ → Asking → PicturesParts → List OpenMember → Type 0
IsKeptAside number asking pictures opened =
    list_any (is_open_on number) opened ≡ false → is_shown_by number pictures ≡ true → is_set_aside asking pictures number ≡ true

-- a listener and a cluster that were retired are to be asked about
abbrev pub AreBothAsked : Asking → List Retired → On → Type 0
AreBothAsked asking drain on =
    (number : ℕ) → ((on.listener == number) || is_forwarded_to number on.cluster) ≡ true → has_row drain number ≡ true → is_asked asking number ≡ true

-- the retired generations that a connection is open on are to be asked about
abbrev pub IsAskedOn : Asking → List Retired → OpenMember → Type 0
IsAskedOn asking drain member = (number : ℕ) → is_open_on number member ≡ true → has_row drain number ≡ true → is_asked asking number ≡ true

-- so are those of each of these connections that passes a test
abbrev pub AreAskedOn : (OpenMember → Bool) → Asking → List Retired → List OpenMember → Type 0
AreAskedOn test asking drain opened = AllByRecursion (λ (member : OpenMember). test member ≡ true → IsAskedOn asking drain member) opened

-- each retired generation that a connection was open on has one open still, or is asked about
pub record LetsGo (drain : List Retired) (before after : Asking) (opened left : List OpenMember) : Type 0 where
  pub more : AsksMore before after
  pub held : (number : ℕ) → has_row drain number ≡ true → list_any (is_open_on number) opened ≡ true
      → (is_asked after number || list_any (is_open_on number) left) ≡ true

-- what is set aside under the picture that this worker holds is set aside under the last
abbrev pub MayLeave : ℕ → Asking → PicturesParts → Type 0
MayLeave worker asking pictures = (picture : Picture) (number : ℕ) → slice_get pictures.held worker ≡ Some picture
    → is_aside asking picture.version number ≡ true → picture ≡ pictures.last

-- the generation of this number is retired, and nothing holds it
abbrev pub is_dead_now : HoldersParts → ℕ → Bool
is_dead_now holders number = is_dead_in Two (λ n. is_shown_by n holders.pictures) holders.ledger number holders.drain

-- the numbers of those
abbrev pub numbers_dead : HoldersParts → List ℕ
numbers_dead holders = dead_of Two (λ n. is_shown_by n holders.pictures) holders.ledger holders.drain
