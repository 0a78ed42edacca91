-- Where something is refused, and where nothing is.
use Rattle.std.proofs.Common.{◌≡◌, ◌↔◌, not, IsTrue, List, [], ◌∷◌, length, None, refl, arith}
use Rattle.std.specs.List.{list_all}
use Rattle.ev_types.specs.Items.{ItemParts}
use Rattle.ev_types.specs.declared.events.Verdict.{Verdict}
use Rattle.ev_types.specs.declared.events.Verdict.TheVariants.{New, InPlace, Back, Same, Kept, Unasked, Renewed, Refused}
use Rattle.ev_model.specs.Requests.{refusals, message_of}
use Rattle.ev_model_laws.specs.Acknowledging.{AcknowledgesExactly, is_refused}

none_refused : (verdicts : List Verdict) (items : List ItemParts) → length verdicts ≡ length items
    → ((message_of (refusals verdicts items)) ≡ None) ↔ IsTrue (list_all (λ (verdict : Verdict). not (is_refused verdict)) verdicts)
none_refused [] [] same = (λ e. refl, λ h. refl)
none_refused [] (item ∷ items) same = absurd (omega arith)
none_refused (verdict ∷ verdicts) [] same = absurd (omega arith)
none_refused (New ∷ verdicts) (item ∷ items) same = none_refused verdicts items (omega arith)
none_refused (InPlace ∷ verdicts) (item ∷ items) same = none_refused verdicts items (omega arith)
none_refused (Back ∷ verdicts) (item ∷ items) same = none_refused verdicts items (omega arith)
none_refused (Same ∷ verdicts) (item ∷ items) same = none_refused verdicts items (omega arith)
none_refused (Kept ∷ verdicts) (item ∷ items) same = none_refused verdicts items (omega arith)
none_refused (Unasked ∷ verdicts) (item ∷ items) same = none_refused verdicts items (omega arith)
none_refused (Renewed ∷ verdicts) (item ∷ items) same = none_refused verdicts items (omega arith)
none_refused (Refused rule ∷ verdicts) (item ∷ items) same = (λ e. cc, λ h. cc)

pub acknowledges : AcknowledgesExactly
acknowledges kind response verdicts same = none_refused verdicts response.items same
