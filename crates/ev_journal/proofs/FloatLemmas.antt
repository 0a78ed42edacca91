-- No tree of a journal has a float, so its text is that of its digits.
use Rattle.std.proofs.Common.{◌≡◌, ℕ, Bool, false, ◌||◌, List, map, Option, None, Some, refl, ◌∙◌, ap}
use Rattle.serde_json.specs.Data.{Data, array, Members}
use Rattle.serde_json.specs.View.{items_of}
use Rattle.serde_json.specs.Written.{has_float, members_have_float}
use Rattle.ev_types.specs.declared.events.Answer.{Answer}
use Rattle.ev_types.specs.declared.events.Answer.TheVariants.{Ignored, Done, Moved, Replied, Version, Unchanged, Reaped, InUse, NoListener, NoChain, On, NotOpen, Settled}
use Rattle.ev_types.specs.declared.hosts.Host.{Host}
use Rattle.ev_types.specs.declared.origins.ChainPlace.{ChainPlace}
use Rattle.ev_types.specs.declared.origins.ChainPlace.TheVariants.{At, Default}
use Rattle.ev_types.specs.declared.ways.Way.{Way}
use Rattle.ev_types.specs.declared.ways.Way.TheVariants.{Undecided, Elsewhere, NoRoute, Redirect, NoCluster, NoEndpoint, NoSecret, Local, Served}
use Rattle.ev_types.specs.declared.journals.Row.{Row}
use Rattle.ev_wire.specs.Requests.{request_tree}
use Rattle.ev_wire.proofs.RequestLemmas.{items_have_float-map, request_tree-whole}
use Rattle.ev_types.specs.declared.contents.Request.{Request}
use Rattle.ev_types.specs.declared.events.Verdict.{Verdict}
use Rattle.ev_journal.specs.Rendering.{with_given, number_tree, numbers_tree, requests_tree, verdict_tree, place_tree, any_of, going_tree, taken_tree, settled_tree, answer_tree, row_tree}

neither : (a b : Bool) → a ≡ false → b ≡ false → (a || b) ≡ false
neither a b h k = ap (λ c. c || b) h ∙ k

given-whole : {A : Type 0} (key : List ℕ) (tree : A → Data) → ((a : A) → has_float (tree a) ≡ false) → (value : Option A) (ms : Members)
    → members_have_float ms ≡ false → members_have_float (with_given key tree value ms) ≡ false
given-whole key tree each None ms h = h
given-whole key tree each (Some value) ms h = neither _ _ (each value) h

place-whole : (place : ChainPlace) → has_float (place_tree place) ≡ false
place-whole (At place) = refl
place-whole Default = refl

numbers-whole : (numbers : List ℕ) → has_float (numbers_tree numbers) ≡ false
numbers-whole numbers = items_have_float-map number_tree (λ _. refl) numbers

going-whole : (word : List ℕ) (listener : ℕ) (chain : Option ChainPlace) (cluster : Option ℕ) → has_float (going_tree word listener chain cluster) ≡ false
going-whole word listener chain cluster =
    given-whole _ place_tree place-whole chain _ (given-whole _ number_tree (λ _. refl) cluster _ refl)

taken-whole : (listener : ℕ) (chain : Option ChainPlace) (way : Way Host) → has_float (taken_tree listener chain way) ≡ false
taken-whole listener chain Undecided = going-whole _ listener chain None
taken-whole listener chain (Elsewhere cluster) = going-whole _ listener chain cluster
taken-whole listener chain NoRoute = going-whole _ listener chain None
taken-whole listener chain Redirect = going-whole _ listener chain None
taken-whole listener chain NoCluster = going-whole _ listener chain None
taken-whole listener chain NoEndpoint = going-whole _ listener chain None
taken-whole listener chain (NoSecret cluster) = going-whole _ listener chain cluster
taken-whole listener chain (Local status) = given-whole _ place_tree place-whole chain _ refl
taken-whole listener chain (Served cluster host) = given-whole _ place_tree place-whole chain _ refl

settled-whole : (closed moved : List ℕ) (version : ℕ) → has_float (settled_tree closed moved version) ≡ false
settled-whole closed moved version =
    neither _ _ (numbers-whole closed) (given-whole _ numbers_tree numbers-whole (any_of moved) _ refl)

pub answer_tree-whole : (answer : Answer) → has_float (answer_tree answer) ≡ false
answer_tree-whole Ignored = refl
answer_tree-whole Done = refl
answer_tree-whole (Moved requests) = neither _ _ (items_have_float-map request_tree request_tree-whole requests) refl
answer_tree-whole (Replied requests verdicts) =
    neither _ _ (items_have_float-map request_tree request_tree-whole requests) (neither _ _ (items_have_float-map verdict_tree (λ _. refl) verdicts) refl)
answer_tree-whole (Version version) = refl
answer_tree-whole Unchanged = refl
answer_tree-whole (Reaped numbers) = neither _ _ (numbers-whole numbers) refl
answer_tree-whole InUse = refl
answer_tree-whole NoListener = refl
answer_tree-whole NoChain = refl
answer_tree-whole (On listener chain way) = taken-whole listener chain way
answer_tree-whole NotOpen = refl
answer_tree-whole (Settled closed moved version) = settled-whole closed moved version

pub row_tree-whole : (row : Row) → has_float (row_tree row) ≡ false
row_tree-whole row = neither _ _ (answer_tree-whole row.answer) refl

-- the same of what is equal to the tree of a list
pub requests_whole : (requests : List Request) (d : Data) → d ≡ requests_tree requests → has_float d ≡ false
requests_whole requests d e = ap has_float e ∙ items_have_float-map request_tree request_tree-whole requests

pub verdicts_whole : (verdicts : List Verdict) (d : Data) → d ≡ array (items_of (map verdict_tree verdicts)) → has_float d ≡ false
verdicts_whole verdicts d e = ap has_float e ∙ items_have_float-map verdict_tree (λ _. refl) verdicts

pub numbers_whole : (numbers : List ℕ) (d : Data) → d ≡ numbers_tree numbers → has_float d ≡ false
numbers_whole numbers d e = ap has_float e ∙ items_have_float-map number_tree (λ _. refl) numbers
