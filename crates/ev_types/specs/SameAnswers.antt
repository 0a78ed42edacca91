-- When answers are equal.
use Rattle.std.specs.Prelude.{ℕ, Bool, true, false, ◌≡◌, ◌&&◌, ◌==◌, List, Option, Some, None, refl}
use Rattle.std.specs.Bool.{Decides}
use Rattle.std.specs.Option.{option_eq}
use Rattle.std.specs.Str.{bytes_eq}
use Rattle.std.proofs.Common.{ap}
use lib.Pointwise.{pointwise, pointwise_decides}
use Rattle.ev_types.specs.declared.contents.Request.{Request}
use Rattle.ev_types.specs.declared.events.Verdict.{Verdict}
use Rattle.ev_types.specs.declared.events.Verdict.TheVariants.{New, Same, InPlace, Back, Kept, Unasked, Renewed, Refused}
use Rattle.ev_types.specs.declared.events.Answer.{Answer}
use Rattle.ev_types.specs.declared.events.Answer.TheVariants.{Ignored, Done, Moved, Replied, Version, Unchanged, Reaped, InUse, NoListener, NoChain, On, NotOpen, Settled}
use Rattle.ev_types.specs.Kinds.{kind_same, kind_decides}
use Rattle.ev_types.specs.Same.{texts_same, both_decide, decides_as, bytes_decide, numbers_decide, option_decides}
use Rattle.ev_types.specs.SameHosts.{host_same, host_decides}
use Rattle.ev_types.specs.Origins.{chain_place_same, chain_place_decides}
use Rattle.ev_types.specs.SameWays.{way_same, way_decides}

-- both have the same text, or neither has one
abbrev pub told_same : Option (List ℕ) → Option (List ℕ) → Bool
told_same None None = true
told_same (Some a) (Some b) = bytes_eq a b
told_same a b = false

-- the same name with the same version
abbrev pub named_same : List ℕ × List ℕ → List ℕ × List ℕ → Bool
named_same a b = bytes_eq a.0 b.0 && bytes_eq a.1 b.1

-- the same request, member by member
abbrev pub request_same : Request → Request → Bool
request_same a b =
    kind_same a.kind b.kind && told_same a.node b.node && texts_same a.subscribe b.subscribe && texts_same a.unsubscribe b.unsubscribe
    && pointwise named_same a.versions b.versions && told_same a.nonce b.nonce && told_same a.error b.error

-- the same verdict, by the same rule where it refuses
abbrev pub verdict_same : Verdict → Verdict → Bool
verdict_same New New = true
verdict_same Same Same = true
verdict_same InPlace InPlace = true
verdict_same Back Back = true
verdict_same Kept Kept = true
verdict_same Unasked Unasked = true
verdict_same Renewed Renewed = true
verdict_same (Refused a) (Refused b) = a == b
verdict_same a b = false

-- the same answer, with the same content
abbrev pub answer_same : Answer → Answer → Bool
answer_same Ignored Ignored = true
answer_same Done Done = true
answer_same (Moved requests) (Moved requests') = pointwise request_same requests requests'
answer_same (Replied requests verdicts) (Replied requests' verdicts') = pointwise request_same requests requests' && pointwise verdict_same verdicts verdicts'
answer_same (Version version) (Version version') = version == version'
answer_same Unchanged Unchanged = true
answer_same (Reaped numbers) (Reaped numbers') = pointwise (λ (m n : ℕ). m == n) numbers numbers'
answer_same InUse InUse = true
answer_same NoListener NoListener = true
answer_same NoChain NoChain = true
answer_same (On listener chain way) (On listener' chain' way') =
    (listener == listener') && option_eq chain_place_same chain chain' && way_same host_same way way'
answer_same NotOpen NotOpen = true
answer_same (Settled closed moved version) (Settled closed' moved' version') =
    pointwise (λ (m n : ℕ). m == n) closed closed' && pointwise (λ (m n : ℕ). m == n) moved moved' && (version == version')
answer_same a b = false

pub told_decides : (a b : Option (List ℕ)) → Decides (told_same a b) (a ≡ b)
told_decides None None = (λ h. refl, λ e. refl)
told_decides (Some a) (Some b) = decides_as (bytes_decide a b) (λ e. ap Some e) (λ e. cc)
told_decides a b = (λ h. cc, λ e. cc)

pub named_decides : (a b : List ℕ × List ℕ) → Decides (named_same a b) (a ≡ b)
named_decides a b = decides_as (both_decide (bytes_decide a.0 b.0) (bytes_decide a.1 b.1)) (λ p. λ i. (p.0 i, p.1 i)) (λ e. (ap (λ (c : List ℕ × List ℕ). c.0) e, ap (λ (c : List ℕ × List ℕ). c.1) e))

texts_decide : (a b : List (List ℕ)) → Decides (texts_same a b) (a ≡ b)
texts_decide = pointwise_decides bytes_decide

pub request_decides : (a b : Request) → Decides (request_same a b) (a ≡ b)
request_decides a b = decides_as
    (both_decide (both_decide (both_decide (both_decide (both_decide (both_decide (kind_decides a.kind b.kind) (told_decides a.node b.node))
    (texts_decide a.subscribe b.subscribe)) (texts_decide a.unsubscribe b.unsubscribe)) (pointwise_decides named_decides a.versions b.versions))
    (told_decides a.nonce b.nonce)) (told_decides a.error b.error))
    (λ p. λ i. record {
      kind = p.0.0.0.0.0.0 i;
      node = p.0.0.0.0.0.1 i;
      subscribe = p.0.0.0.0.1 i;
      unsubscribe = p.0.0.0.1 i;
      versions = p.0.0.1 i;
      nonce = p.0.1 i;
      error = p.1 i;
    })
    (λ e. (
      (
        (
          (
            ((ap (λ (r : Request). r.kind) e, ap (λ (r : Request). r.node) e), ap (λ (r : Request). r.subscribe) e),
            ap (λ (r : Request). r.unsubscribe) e,
          ),
          ap (λ (r : Request). r.versions) e,
        ),
        ap (λ (r : Request). r.nonce) e,
      ),
      ap (λ (r : Request). r.error) e,
    ))

pub verdict_decides : (a b : Verdict) → Decides (verdict_same a b) (a ≡ b)
verdict_decides New New = (λ h. refl, λ e. refl)
verdict_decides Same Same = (λ h. refl, λ e. refl)
verdict_decides InPlace InPlace = (λ h. refl, λ e. refl)
verdict_decides Back Back = (λ h. refl, λ e. refl)
verdict_decides Kept Kept = (λ h. refl, λ e. refl)
verdict_decides Unasked Unasked = (λ h. refl, λ e. refl)
verdict_decides Renewed Renewed = (λ h. refl, λ e. refl)
verdict_decides (Refused a) (Refused b) = decides_as (numbers_decide a b) (λ e. ap Refused e) (λ e. cc)
verdict_decides a b = (λ h. cc, λ e. cc)

numbers_all : (a b : List ℕ) → Decides (pointwise (λ (m n : ℕ). m == n) a b) (a ≡ b)
numbers_all = pointwise_decides numbers_decide

pub answer_decides : (a b : Answer) → Decides (answer_same a b) (a ≡ b)
answer_decides Ignored Ignored = (λ h. refl, λ e. refl)
answer_decides Done Done = (λ h. refl, λ e. refl)
answer_decides (Moved requests) (Moved requests') = decides_as (pointwise_decides request_decides requests requests') (λ e. ap Moved e) (λ e. cc)
answer_decides (Replied requests verdicts) (Replied requests' verdicts') = decides_as (both_decide (pointwise_decides request_decides requests requests') (pointwise_decides verdict_decides verdicts verdicts')) (λ (p, q). λ i. Replied (p i) (q i)) (λ e. (cc, cc))
answer_decides (Version version) (Version version') = decides_as (numbers_decide version version') (λ e. ap Version e) (λ e. cc)
answer_decides Unchanged Unchanged = (λ h. refl, λ e. refl)
answer_decides (Reaped numbers) (Reaped numbers') = decides_as (numbers_all numbers numbers') (λ e. ap Reaped e) (λ e. cc)
answer_decides InUse InUse = (λ h. refl, λ e. refl)
answer_decides NoListener NoListener = (λ h. refl, λ e. refl)
answer_decides NoChain NoChain = (λ h. refl, λ e. refl)
answer_decides (On listener chain way) (On listener' chain' way') = decides_as
    (both_decide (both_decide (numbers_decide listener listener') (option_decides chain_place_decides chain chain')) (way_decides host_decides way way'))
    (λ p. λ i. On (p.0.0 i) (p.0.1 i) (p.1 i)) (λ e. ((cc, cc), cc))
answer_decides NotOpen NotOpen = (λ h. refl, λ e. refl)
answer_decides (Settled closed moved version) (Settled closed' moved' version') = decides_as
    (both_decide (both_decide (numbers_all closed closed') (numbers_all moved moved')) (numbers_decide version version'))
    (λ p. λ i. Settled (p.0.0 i) (p.0.1 i) (p.1 i)) (λ e. ((cc, cc), cc))
answer_decides a b = (λ h. cc, λ e. cc)
