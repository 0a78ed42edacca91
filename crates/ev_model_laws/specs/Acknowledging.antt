-- A response is acknowledged exactly where none of its resources is refused.
use Rattle.std.specs.Prelude.{◌≡◌, ◌↔◌, Bool, true, false, not, IsTrue, List, length, None}
use Rattle.std.specs.List.{list_all}
use Rattle.ev_types.specs.Items.{ResponseParts}
use Rattle.ev_types.specs.declared.contents.Kind.{Kind}
use Rattle.ev_types.specs.declared.events.Verdict.{Verdict}
use Rattle.ev_types.specs.declared.events.Verdict.TheVariants.{New, InPlace, Back, Same, Kept, Unasked, Renewed, Refused}
use Rattle.ev_model.specs.Requests.{reply_of}

-- a resource with this verdict is refused
abbrev pub is_refused : Verdict → Bool
is_refused New = false
is_refused InPlace = false
is_refused Back = false
is_refused Same = false
is_refused Kept = false
is_refused Unasked = false
is_refused Renewed = false
is_refused (Refused rule) = true

-- a reply, to a response with one verdict for each resource, has no error exactly where no resource is refused
abbrev pub AcknowledgesExactly : Type 0
AcknowledgesExactly =
    (kind : Kind) (response : ResponseParts) (verdicts : List Verdict)
    → length verdicts ≡ length response.items
    → ((reply_of kind response verdicts).error ≡ None) ↔ IsTrue (list_all (λ (verdict : Verdict). not (is_refused verdict)) verdicts)
