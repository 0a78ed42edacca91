-- A response that removes nothing says nothing of a name that it doesn't have.
use Rattle.std.proofs.Common.{◌≡◌, ◌∙◌, ℕ, Bool, true, false, not, ◌&&◌, ◌||◌, List, [], ◌∷◌, length, refl, sym, ap}
use Rattle.std.specs.Prelude.{nat_le}
use Rattle.std.specs.List.{list_any}
use Rattle.std.specs.Str.{bytes_eq}
use Rattle.std.proofs.lemmas.Bool.{false≢true}
use Rattle.ev_types.specs.Items.{ItemParts, ResponseParts}
use Rattle.ev_types.specs.Kinds.{kind_same}
use Rattle.ev_types.specs.declared.contents.Kind.{Kind}
use Rattle.ev_types.specs.declared.contents.Kind.TheVariants.{Sds}
use Rattle.ev_types.specs.declared.events.Answer.{Answer}
use Rattle.ev_types.specs.declared.events.Answer.TheVariants.{Replied}
use Rattle.ev_types.specs.declared.events.Event.TheVariants.{Response}
use Rattle.ev_types.specs.declared.events.Verdict.{Verdict}
use Rattle.ev_types.specs.declared.events.Verdict.TheVariants.{Kept, Refused}
use Rattle.ev_model.specs.Entries.{is_word_on, has_word_on, is_response_of, tells_of_name}
use Rattle.ev_model.specs.Verdicts.{is_among, items_named}
use Rattle.ev_model_laws.specs.Watches.{has_item}

or_false : (a b : Bool) → (a || b) ≡ false → (a ≡ false) × (b ≡ false)
or_false true b h = absurd (false≢true (sym h))
or_false false b h = (refl, h)

no_word : (name : List ℕ) (verdict : Verdict) (item : ItemParts) → bytes_eq item.name name ≡ false → is_word_on name verdict item ≡ false
no_word name Kept item h = h
no_word name (Refused rule) item h = h
no_word name verdict item h = refl

no_words : (name : List ℕ) (verdicts : List Verdict) (items : List ItemParts) → list_any (λ (item : ItemParts). bytes_eq item.name name) items ≡ false
    → has_word_on name verdicts items ≡ false
no_words name [] items h = refl
no_words name (verdict ∷ verdicts) [] h = refl
no_words name (verdict ∷ verdicts) (item ∷ items) h =
    let parts = or_false (bytes_eq item.name name) (list_any (λ (one : ItemParts). bytes_eq one.name name) items) h in
    λ i. no_word name verdict item parts.0 i || no_words name verdicts items parts.1 i

and_false : (b : Bool) → (b && false) ≡ false
and_false true = refl
and_false false = refl

pub tells_nothing : (kind : Kind) (name : List ℕ) (response : ResponseParts) (answer : Answer) → has_item response name ≡ false → response.removed ≡ []
    → tells_of_name kind name (Response response) answer ≡ false
tells_nothing kind name response (Replied requests verdicts) none nothing =
    (λ i. is_response_of kind response && (no_words name verdicts response.items none i
    || (not (kind_same kind Sds) && (is_among name (nothing i) && not (nat_le 1 (length (items_named name response.items)))))))
    ∙ ap (λ b. is_response_of kind response && b) (and_false (not (kind_same kind Sds)))
    ∙ and_false (is_response_of kind response)
tells_nothing kind name response answer none nothing = refl
