-- What is known of a response once its head, its lists or a resource of it was read.
use Rattle.std.proofs.Common.{◌≡◌, ◌≤◌, ◌==◌, ℕ, zero, suc, arith, length, List, [], ◌∷◌, Bool, true, false, map, refl, not, codes, ◌&&◌, ◌||◌, ◌∙◌, sym, ap, subst, Option, Some, None, Result, Ok, Err}
use Rattle.std.specs.List.{All, list_all}
use Rattle.std.specs.Result.{IsErrAnd}
use Rattle.std.proofs.lemmas.List.Elements.{All-nil, All-cons}
use Rattle.serde_json.specs.Data.{Data}
use Rattle.ev_types.specs.Items.{ItemParts, ResponseParts, IsBodyOf}
use Rattle.ev_types.specs.declared.events.Profile.{Profile}
use Rattle.ev_types.specs.declared.contents.Kind.{Kind}
use Rattle.ev_tree.specs.Forms.{is_wrong, objects_of, texts_of}
use Rattle.ev_wire.specs.declared.outcome.WireError.{WireError}
use Rattle.ev_wire.specs.declared.outcome.WireError.TheVariants.{NotResponse, OutOfMemory}
use Rattle.ev_wire.specs.declared.responses.Head.{Head}
use Rattle.ev_wire.specs.Responses.{Reads, given_if, is_entry, entries_of, item_of, has_head, has_lists, has_lists_of, response_kind, nonce_of, removed_of, parts_of, response_of}
use Rattle.ev_wire.proofs.BodyLemmas.{body_of-kind}

-- ---- values that are given under a test

-- an error says the same of each value under a test
pub reads_err : {A B : Type 0} (e : WireError) (test : Bool) (x : A) (y : B) → Reads (Err e) (given_if test x) → Reads (Err e) (given_if test y)
reads_err NotResponse true x y h = cc
reads_err NotResponse false x y h = refl
reads_err OutOfMemory test x y h = tt

-- the same of an error that is passed on
pub reads_passed : {A B : Type 0} (r : Result B WireError) (e : WireError) (test after : Bool) (x : A) (y : B) → IsErrAnd r (λ f. f ≡ e) → after ≡ test
    → Reads (Err e) (given_if test x) → Reads r (given_if after y)
reads_passed (Ok v) e test after x y h same k = absurd h
reads_passed {A} {B} (Err f) e test after x y h same k =
    let P : WireError → Type 0 = λ e. Reads (Err e) (given_if after y) in
    subst P (sym h) (reads_err e after x y (let Q : Bool → Type 0 = λ b. Reads (Err e) (given_if b x) in subst Q (sym same) k))

-- a reading of the same is a reading
pub reads_same : {A : Type 0} (r : Result A WireError) (p q : Option A) → q ≡ p → Reads r p → Reads r q
reads_same {A} r p q e h = let P : Option A → Type 0 = Reads r in subst P (sym e) h

-- what is given passed the test
pub given_if-some : {A : Type 0} (test : Bool) (x y : A) → given_if test x ≡ Some y → (test ≡ true) × (x ≡ y)
given_if-some true x y h = (refl, some_injective x y h)
  where
    some_injective : {A : Type 0} (x y : A) → given_if true x ≡ Some y → x ≡ y
    some_injective x y e = cc
given_if-some false x y h = cc

-- what isn't given failed it
pub given_if-none : {A : Type 0} (test : Bool) (x : A) → given_if test x ≡ None → test ≡ false
given_if-none true x h = cc
given_if-none false x h = refl

-- ---- resources

-- each item has a body of the response's type
pub items-kind : (profile : Profile) (kind : Kind) (entries : List Data) → All (λ (item : ItemParts). IsBodyOf kind item.body) (map (item_of profile kind) entries)
unfolding item_of
items-kind profile kind [] = All-nil (λ (item : ItemParts). IsBodyOf kind item.body)
items-kind profile kind (entry ∷ entries) = All-cons (λ (item : ItemParts). IsBodyOf kind item.body) _ _ (body_of-kind profile kind _ _ _) (items-kind profile kind entries)

-- ---- the lists

-- where the lists are lists, their elements decide
pub known_lists : (tree : Data) (w v : Bool) → w ≡ is_wrong (objects_of (codes "resources") tree)
    → v ≡ is_wrong (texts_of (codes "removed_resources") tree) → (w || v) ≡ false → has_lists tree ≡ list_all is_entry (entries_of tree)
unfolding has_lists
known_lists tree true v e f h = cc
known_lists tree false true e f h = cc
known_lists tree false false e f h =
    ap (λ w. not w && not (is_wrong (texts_of (codes "removed_resources") tree)) && list_all is_entry (entries_of tree)) (sym e)
    ∙ ap (λ v. not v && list_all is_entry (entries_of tree)) (sym f)

abbrev typed : Kind → List ℕ → List ItemParts → List (List ℕ) → ResponseParts
typed kind nonce items removed = record { kind = Some kind; nonce = nonce; items = items; removed = removed }

-- a response of a type that is read
pub known_response : (profile : Profile) (kind : Kind) (nonce : List ℕ) (tree : Data) (items : List ItemParts) (removed : List (List ℕ)) → has_lists tree ≡ true
    → map (item_of profile kind) (entries_of tree) ≡ items → removed_of tree ≡ removed
    → given_if (has_lists tree) (parts_of profile (Some kind) nonce tree) ≡ Some (typed kind nonce items removed)
known_response profile kind nonce tree items removed h is gone =
    ap (λ b. given_if b (parts_of profile (Some kind) nonce tree)) h
    ∙ ap (λ (items : List ItemParts). Some (typed kind nonce items (removed_of tree))) is
    ∙ ap (λ (removed : List (List ℕ)). Some (typed kind nonce items removed)) gone

-- ---- the head

some_byte : (n : ℕ) → not (n == 0) ≡ true → 1 ≤ n
some_byte zero h = cc
some_byte (suc n) h = omega arith

second_of : (a b : Bool) → (a && b) ≡ true → b ≡ true
second_of true b h = h
second_of false b h = cc

-- a head has a nonce of at least one byte
pub head_answerable : (profile : Profile) (tree : Data) (head : Head) → has_head tree ≡ true → record { kind = response_kind profile tree; nonce = nonce_of tree } ≡ head
    → 1 ≤ length head.nonce
unfolding has_head
head_answerable profile tree head h e =
    let P : Head → Type 0 = λ head. 1 ≤ length head.nonce in
    subst P e (some_byte (length (nonce_of tree)) (second_of _ (not (length (nonce_of tree) == 0)) h))

-- a tree without a head is no response
pub no_head : (profile : Profile) (tree : Data) → has_head tree ≡ false → response_of profile tree ≡ None
unfolding response_of
no_head profile tree h = ap (λ b. given_if (b && has_lists_of (response_kind profile tree) tree) (parts_of profile (response_kind profile tree) (nonce_of tree) tree)) h

-- with the head known, the lists decide
pub known_head : (profile : Profile) (tree : Data) (head : Head) → has_head tree ≡ true → record { kind = response_kind profile tree; nonce = nonce_of tree } ≡ head
    → response_of profile tree ≡ given_if (has_lists_of head.kind tree) (parts_of profile head.kind head.nonce tree)
unfolding response_of
known_head profile tree head h e =
    ap (λ b. given_if (b && has_lists_of (response_kind profile tree) tree) (parts_of profile (response_kind profile tree) (nonce_of tree) tree)) h
    ∙ ap (λ (head : Head). given_if (has_lists_of head.kind tree) (parts_of profile head.kind head.nonce tree)) e

abbrev untyped : List ℕ → List ItemParts → List (List ℕ) → ResponseParts
untyped nonce items removed = record { kind = None; nonce = nonce; items = items; removed = removed }

-- a response of a type that isn't read
pub unread_response : (nonce : List ℕ) (items : List ItemParts) (removed : List (List ℕ)) → items ≡ [] → removed ≡ []
    → ◌≡◌ {A = Option ResponseParts} (Some (untyped nonce [] [])) (Some (untyped nonce items removed))
unread_response nonce items removed none gone =
    ap (λ (items : List ItemParts). Some (untyped nonce items [])) (sym none) ∙ ap (λ (removed : List (List ℕ)). Some (untyped nonce items removed)) (sym gone)
