use Rattle.std.proofs.Common.{◌≡◌, ℕ, ◌<◌, ◌≤◌, List, length, get_or, map, Option, Some, sym, ap, ◌∙◌, subst}
use Rattle.std.specs.List.{prefix_len}
use Rattle.std.specs.Str.{bytes_eq}
use Rattle.std.proofs.lemmas.Result.{IfOk-weaker}
use Rattle.indexmap.specs.IndexSet.{contains}
use Rattle.ev_tls.specs.declared.awaited.Awaited.{Awaited}
use Rattle.ev_tls.specs.declared.awaited.Awaited.TheVariants.{Secret, Endpoints}
use Rattle.ev_tls.specs.Awaited.{services_of}
use Rattle.ev_tls.proofs.KnownLemmas.{next_secret, next_other}
use Rattle.ev_tls.proofs.known.Told.next_of.Goals as goal

pub returns-in_ok-copy-in-Some : goal.returns-in_ok-copy-in-Some
returns-in_ok-copy-in-Some c = λ passed.
    let names : List (List ℕ) = c.args.key.now.names in
    let same : c.as_slice.result.now ≡ names = c.as_slice.ensures.elements in
    let count : ℕ = prefix_len (contains bytes_eq c.args.self.now.secrets) names in
    let below : count < length names = (subst (λ (n : ℕ). n < length names) passed (subst (λ (xs : List (List ℕ)). c.args.passed < length xs) same c.in-Some.ensures.lookup.3.0)) in
    let is : c.in-Some.name.now ≡ get_or names count c.in-Some.name.now = c.in-Some.ensures.lookup.1 ∙ (λ i. get_or (same i) (passed i) c.in-Some.name.now) in
    ap (λ (n : List ℕ). Some (Secret n)) c.in_ok-copy-in-Some.ensures.equal
    ∙ sym (next_secret c.args.self.now names (map Endpoints (services_of c.args.key.now.cluster.discovery)) c.in-Some.name.now below is)

pub returns-in-None : goal.returns-in-None
returns-in-None c = λ passed.
    let names : List (List ℕ) = c.args.key.now.names in
    let same : c.as_slice.result.now ≡ names = c.as_slice.ensures.elements in
    let past : length names ≤ prefix_len (contains bytes_eq c.args.self.now.secrets) names =
    subst (λ (n : ℕ). length names ≤ n) passed (subst (λ (xs : List (List ℕ)). length xs ≤ c.args.passed) same c.in-None.ensures.lookup.3) in
    IfOk-weaker c.next_service.result _ _
    (λ (next : Option Awaited) h. h ∙ sym (next_other c.args.self.now names (map Endpoints (services_of c.args.key.now.cluster.discovery)) past)) c.next_service.ensures
