-- Which generation a resource of a response made, by how many were made before.
use Rattle.std.proofs.Common.{◌≡◌, ◌∙◌, refl, ℕ, zero, suc, ◌+◌, List, [], ◌∷◌, ◌++◌, length, take, flat_map, Option, Some, None, sym, ap, arith, append-nil, length-append}
use Rattle.std.specs.Prelude.{slice_get}
use Rattle.std.specs.List.{zip}
use Rattle.std.proofs.lemmas.Grind.{flat_map-append}
use Rattle.std.proofs.lemmas.List.{append_cancel_left}
use Rattle.ev_types.specs.Items.{ItemParts, ResponseParts}
use Rattle.ev_types.specs.declared.contents.Kind.{Kind}
use Rattle.ev_types.specs.declared.contents.Body.{Body}
use Rattle.ev_types.specs.declared.contents.Body.TheVariants.{Good}
use Rattle.ev_types.specs.declared.events.Answer.{Answer}
use Rattle.ev_types.specs.declared.events.Answer.TheVariants.{Replied}
use Rattle.ev_types.specs.declared.events.Entry.{Entry}
use Rattle.ev_types.specs.declared.events.Event.{Event}
use Rattle.ev_types.specs.declared.events.Event.TheVariants.{Response}
use Rattle.ev_types.specs.declared.events.Verdict.{Verdict}
use Rattle.ev_types.specs.declared.events.Verdict.TheVariants.{New, InPlace}
use Rattle.ev_model.specs.Entries.{MadeRow, made_by, made_in, made_in_response, made_of, made_rows, made_with}
use Rattle.ev_model_laws.proofs.PlaceLemmas.{take_one}
use Rattle.ev_expand.proofs.ListLemmas.{piece_at, some_same}
use Rattle.ev_tls.specs.Sealed.{made_by_first}

-- ---- lists

taken_zip : {X Y : Type 0} (n : ℕ) (xs : List X) (ys : List Y) → zip (take n xs) ys ≡ take n (zip xs ys)
taken_zip zero [] ys = refl
taken_zip zero (x ∷ xs) [] = refl
taken_zip zero (x ∷ xs) (y ∷ ys) = refl
taken_zip (suc n) [] ys = refl
taken_zip (suc n) (x ∷ xs) [] = refl
taken_zip (suc n) (x ∷ xs) (y ∷ ys) = ap (λ zs. (x, y) ∷ zs) (taken_zip n xs ys)

zip_get : {X Y : Type 0} (xs : List X) (ys : List Y) (n : ℕ) (p : X × Y) → slice_get (zip xs ys) n ≡ Some p → slice_get ys n ≡ Some p.1
zip_get [] ys n p h = absurd (cc)
zip_get (x ∷ xs) [] n p h = absurd (cc)
zip_get (x ∷ xs) (y ∷ ys) zero p h = ap (λ q. Some q.1) (some_same h)
zip_get (x ∷ xs) (y ∷ ys) (suc n) p h = zip_get xs ys n p h

taken_past : {X : Type 0} (xs : List X) (n : ℕ) → slice_get xs n ≡ None → take (n + 1) xs ≡ take n xs
taken_past xs n h = let next : n + 1 ≡ suc n = omega arith in ap (λ m. take m xs) next ∙ by xs n h
  where
    by : {X : Type 0} (xs : List X) (n : ℕ) → slice_get xs n ≡ None → take (suc n) xs ≡ take n xs
    by [] zero h = refl
    by [] (suc n) h = refl
    by (x ∷ xs) zero h = absurd (cc)
    by (x ∷ xs) (suc n) h = ap (λ ys. x ∷ ys) (by xs n h)

one_more_by : {X Y : Type 0} (g : X → List Y) (xs : List X) (n : ℕ) (y : Y) (found : Option X) → slice_get xs n ≡ found
    → flat_map g (take (n + 1) xs) ≡ flat_map g (take n xs) ++ y ∷ [] → (x : X) × (slice_get xs n ≡ Some x) × (g x ≡ y ∷ [])
one_more_by g xs n y None none more =
    let same : flat_map g (take n xs) ≡ flat_map g (take n xs) ++ y ∷ [] = sym (ap (flat_map g) (taken_past xs n none)) ∙ more in
    absurd (omega (arith, ap length same, length-append (flat_map g (take n xs)) (y ∷ [])))
one_more_by g xs n y (Some x) there more =
    let grown : flat_map g (take (n + 1) xs) ≡ flat_map g (take n xs) ++ g x =
    ap (flat_map g) (take_one xs n x there) ∙ flat_map-append g (take n xs) (x ∷ []) ∙ ap (λ ys. flat_map g (take n xs) ++ ys) (append-nil (g x)) in
    (x, there, append_cancel_left (flat_map g (take n xs)) (g x) (y ∷ []) (sym grown ∙ more))

-- an element that adds a piece of one is at its place, and gives that piece
one_more : {X Y : Type 0} (g : X → List Y) (xs : List X) (n : ℕ) (y : Y) → flat_map g (take (n + 1) xs) ≡ flat_map g (take n xs) ++ y ∷ []
    → (x : X) × (slice_get xs n ≡ Some x) × (g x ≡ y ∷ [])
one_more g xs n y more = one_more_by g xs n y (slice_get xs n) refl more

-- ---- resources

one_row : {row made : MadeRow} → (made ∷ []) ≡ (row ∷ []) → made ≡ row
one_row e = cc

made_good : (kind : Kind) (verdict : Verdict) (name : List ℕ) (body : Body) (row : MadeRow) → made_by kind verdict name body ≡ row ∷ [] → body ≡ Good row.content
made_good kind New name (Good content) row h = ap (λ (r : MadeRow). Good r.content) (one_row h)
made_good kind InPlace name (Good content) row h = ap (λ (r : MadeRow). Good r.content) (one_row h)
made_good kind verdict name body row h = absurd (cc)

abbrev made_of_judged : Kind → Verdict × ItemParts → List MadeRow
made_of_judged kind judged = made_by kind judged.0 judged.1.name judged.1.body

-- the event is a response whose resource at this place makes the generation, and this many come before it among those
-- that it makes
pub record MakesAt (event : Event) (answer : Answer) (item : ℕ) (row : MadeRow) : Type 0 where
  pub response : ResponseParts
  pub is : event ≡ Response response
  pub kind : Kind
  pub typed : response.kind ≡ Some kind
  pub parts : ItemParts
  pub stands : slice_get response.items item ≡ Some parts
  pub good : parts.body ≡ Good row.content
  pub there : slice_get (made_in event answer) (length (made_by_first item event answer)) ≡ Some row

no_more : {X : Type 0} (x : X) → [] ≡ [] ++ x ∷ [] → ⊥
no_more x h = cc

-- a resource of a response of this kind makes it
record MakesWith (response : ResponseParts) (kind : Option Kind) (verdicts : List Verdict) (item : ℕ) (row : MadeRow) : Type 0 where
  found : Kind
  typed : kind ≡ Some found
  parts : ItemParts
  stands : slice_get response.items item ≡ Some parts
  good : parts.body ≡ Good row.content
  there : slice_get (made_in_response kind response verdicts) (length (made_in_response kind response (take item verdicts))) ≡ Some row

kind_makes : (response : ResponseParts) (kind : Option Kind) (verdicts : List Verdict) (item : ℕ) (row : MadeRow)
    → made_in_response kind response (take (item + 1) verdicts) ≡ made_in_response kind response (take item verdicts) ++ row ∷ []
    → MakesWith response kind verdicts item row
kind_makes response None verdicts item row h = absurd (no_more row h)
kind_makes response (Some kind) verdicts item row h =
    let g : Verdict × ItemParts → List MadeRow = made_of_judged kind in
    let judged : List (Verdict × ItemParts) = zip verdicts response.items in
    let before : made_with kind (take item verdicts) response.items ≡ flat_map g (take item judged) = ap (flat_map g) (taken_zip item verdicts response.items) in
    let after : made_with kind (take (item + 1) verdicts) response.items ≡ flat_map g (take (item + 1) judged) = ap (flat_map g) (taken_zip (item + 1) verdicts response.items) in
    let one = one_more g judged item row (sym after ∙ h ∙ ap (λ (rows : List MadeRow). rows ++ row ∷ []) before) in
    let place : length (flat_map g (take item judged)) + 0 ≡ length (made_with kind (take item verdicts) response.items) = omega (arith, ap length before) in
    record {
      found = kind;
      typed = refl;
      parts = one.0.1;
      stands = zip_get verdicts response.items item one.0 one.1;
      good = made_good kind one.0.0 one.0.1.name one.0.1.body row one.2;
      there = ap (slice_get (flat_map g judged)) (sym place) ∙ piece_at g judged item one.0 0 row one.1 (ap (λ (rows : List MadeRow). slice_get rows 0) one.2);
    }

pub makes_at : (event : Event) (answer : Answer) (item : ℕ) (row : MadeRow) → made_by_first (item + 1) event answer ≡ made_by_first item event answer ++ row ∷ []
    → MakesAt event answer item row
makes_at (Response response) (Replied requests verdicts) item row h =
    let makes : MakesWith response response.kind verdicts item row = kind_makes response response.kind verdicts item row h in
    record {
      response = response;
      is = refl;
      kind = makes.found;
      typed = makes.typed;
      parts = makes.parts;
      stands = makes.stands;
      good = makes.good;
      there = makes.there;
    }
makes_at event (Replied requests verdicts) item row h = absurd (no_more row h)
makes_at event answer item row h = absurd (no_more row h)

-- ---- the journal

-- it has this number
pub made_there : (journal : List Entry) (number place : ℕ) (entry : Entry) (item : ℕ) (row : MadeRow) → slice_get journal place ≡ Some entry
    → slice_get (made_in entry.event entry.answer) (length (made_by_first item entry.event entry.answer)) ≡ Some row
    → number ≡ length (made_rows (take place journal)) + length (made_by_first item entry.event entry.answer) + 1 → made_of journal number ≡ Some row
made_there journal number place entry item row there among numbered =
    let before : ℕ = length (made_rows (take place journal)) + length (made_by_first item entry.event entry.answer) in
    let next : number ≡ suc before = omega (arith, numbered) in
    ap (made_of journal) next ∙ piece_at (λ (e : Entry). made_in e.event e.answer) journal place entry (length (made_by_first item entry.event entry.answer)) row there among
