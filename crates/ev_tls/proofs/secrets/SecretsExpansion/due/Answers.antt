use Rattle.std.proofs.Common.{ℕ, Bool, List, [], ◌∷◌, ◌++◌, ◌&&◌, not, map, nat_eq, sym, ap, ◌∙◌, subst}
use Rattle.std.specs.Prelude.{slice_get}
use Rattle.indexmap.specs.IndexSet.{contains}
use Rattle.serde_json.specs.Data.{Data}
use Rattle.serde_json.specs.View.{view}
use Rattle.ev_types.specs.declared.events.Profile.{Profile}
use Rattle.ev_expand.specs.Following.{due_shown}
use Rattle.ev_expand.specs.Growing.{front_of}
use Rattle.ev_expand.specs.Guarding.{Guarded, clusters_in, place_at, guarded_by}
use Rattle.ev_expand.specs.Numbers.{guarded_so_far}
use Rattle.ev_tls.specs.declared.known.Told.{Told}
use Rattle.ev_tls.specs.declared.secrets.Secrets.{Secrets}
use Rattle.ev_tls.specs.Known.{gives_to, AddsAll}
use Rattle.ev_tls.specs.Looking.{marks_of}
use Rattle.ev_tls.specs.Marking.{is_marked}
use Rattle.ev_tls.specs.References.{by_secrets}
use Rattle.ev_tls.specs.State.{HasHeard}
use Rattle.ev_tls.specs.Told.{value_shown}
use Rattle.ev_tls.specs.Waiting.{AreComplete, GoesOn, Grows, IsWaiting}
use Rattle.ev_tls.proofs.StateLemmas.{AreMarksOf, Hears, hears, completed_as, due_found, guarded_grows, was_as}
use Rattle.ev_tls.proofs.WaitingLemmas.{complete_here}
use Rattle.ev_tls.proofs.ProgressLemmas.{complete_after, complete_now, were_served}
use Rattle.ev_tls.proofs.QuietLemmas.{quiet_behind, quiet_due}
use Rattle.ev_tls.proofs.UnguardedLemmas.{none_due}
use Rattle.ev_tls.proofs.secrets.SecretsExpansion.due.Goals as goal

pub returns-clause-due : goal.returns-clause-due
returns-clause-due c = λ before known kept.
    let profile : Profile = c.args.profile in
    let behind : HasHeard profile c.args.self.now before = known (sym c.is_envoy.ensures ∙ c.if-is_envoy.false) in
    let line : Data = view c.args.line.now in
    let s : Secrets = c.args.self.now in
    let news = c.in_ok-told.field-0 in
    let new : Told = c.go_on.new.told in
    let gs : List Guarded = guarded_by (by_secrets profile) before in
    let all : List Guarded = guarded_so_far c.args.numbers.now in
    let adds : AddsAll s.told new news.told.items = c.in_ok-finished.ensures.told in
    let heard : Hears profile before line c.open_after-self.result (map value_shown news.values.items) new c.take_all.new.self =
    hears profile before line s c.args.event.now c.open_after-self.result news.told.items (map value_shown news.values.items) new c.take_all.new.self behind c.requires.event c.open_after-self.ensures
    c.in_ok-told.ensures.told c.in_ok-told.ensures.values adds c.in_ok-given.ensures.values in
    let grows : Grows gs all = guarded_grows profile before line all kept in
    let goes : GoesOn s.told new gs all c.go_on.new.self c.in_ok-marks.marks.finished =
    subst (λ set. GoesOn s.told new gs all c.go_on.new.self set) (sym c.in_ok-marks.ensures.finished) (c.in_ok-finished.ensures.goes gs behind.waiting grows) in
    let finished : ℕ → Bool = contains nat_eq c.in_ok-marks.marks.finished in
    let m = c.in_ok-marks.ensures.marks in
    let marks : AreMarksOf profile before line (marks_of s.complete c.in_ok-marks.marks) = record {
      stream = m.stream ∙ heard.stream;
      opening = m.opening ∙ (λ i. heard.stream i && not (behind.stream i));
      had = λ n. behind.complete.places n ∙ was_as profile before s.told gs n behind.told;
      now = λ n g at. complete_now s.told new news.told.items gs all s.complete finished adds grows behind.complete goes.finishes n
          ∙ complete_here new all n g (ap (λ (xs : List Guarded). slice_get xs n) kept ∙ at) ∙ completed_as profile (before ++ line ∷ []) new g heard.tells;
      marked = λ n. m.items n ∙ ap (λ xs. is_marked xs n) (c.requires.places.each ∙ ap (λ (xs : List Guarded). map (place_at (by_secrets profile) xs) (clusters_in profile line)) kept);
      values = λ name. m.values name ∙ c.in_ok-given.ensures.names name ∙ ap (gives_to name) heard.given;
    } in
    c.in_ok-due.ensures (were_served s.told new news.told.items gs all s.complete finished adds grows behind.complete goes.finishes)
    ∙ due_found profile before line c.take_all.new.self (marks_of s.complete c.in_ok-marks.marks) all heard.shows marks kept

pub returns-clause-behind : goal.returns-clause-behind
returns-clause-behind c = λ before known kept own.
    let profile : Profile = c.args.profile in
    let behind : HasHeard profile c.args.self.now before = known own in
    let line : Data = view c.args.line.now in
    let s : Secrets = c.args.self.now in
    let news = c.in_ok-told.field-0 in
    let new : Told = c.go_on.new.told in
    let gs : List Guarded = guarded_by (by_secrets profile) before in
    let all : List Guarded = guarded_so_far c.args.numbers.now in
    let adds : AddsAll s.told new news.told.items = c.in_ok-finished.ensures.told in
    let heard : Hears profile before line c.open_after-self.result (map value_shown news.values.items) new c.take_all.new.self =
    hears profile before line s c.args.event.now c.open_after-self.result news.told.items (map value_shown news.values.items) new c.take_all.new.self behind c.requires.event c.open_after-self.ensures
    c.in_ok-told.ensures.told c.in_ok-told.ensures.values adds c.in_ok-given.ensures.values in
    let grows : Grows gs all = guarded_grows profile before line all kept in
    let goes : GoesOn s.told new gs all c.go_on.new.self c.in_ok-marks.marks.finished =
    subst (λ set. GoesOn s.told new gs all c.go_on.new.self set) (sym c.in_ok-marks.ensures.finished) (c.in_ok-finished.ensures.goes gs behind.waiting grows) in
    record {
      stream = heard.stream;
      told = heard.tells;
      values = heard.shows;
      waiting = subst (λ (xs : List Guarded). IsWaiting new xs c.go_on.new.self) kept goes.waits;
      complete = subst (λ (xs : List Guarded). AreComplete new xs c.enter_all.new.self) kept
          (complete_after s.told new news.told.items gs all s.complete (contains nat_eq c.in_ok-marks.marks.finished) adds grows behind.complete goes.finishes c.enter_all.new.self
          c.in_ok-enter_all.ensures);
    }

pub returns-then-is_envoy-clause-due : goal.returns-then-is_envoy-clause-due
returns-then-is_envoy-clause-due c = λ before known kept.
    ap (map due_shown) c.new.ensures.items
    ∙ sym (none_due c.args.profile (front_of before (view c.args.line.now)) (sym c.is_envoy.ensures ∙ c.if-is_envoy.true))

pub returns-then-is_quiet-clause-due : goal.returns-then-is_quiet-clause-due
returns-then-is_quiet-clause-due c = λ before known kept.
    ap (map due_shown) c.new-then-is_quiet.ensures.items ∙ sym (quiet_due c.args.profile before (view c.args.line.now) c.args.event.now c.requires.event (sym c.is_quiet.ensures ∙ c.if-is_quiet.true))

pub returns-then-is_quiet-clause-behind : goal.returns-then-is_quiet-clause-behind
returns-then-is_quiet-clause-behind c = λ before known kept own.
    quiet_behind c.args.profile before (view c.args.line.now) c.args.self.now c.args.event.now c.requires.event (sym c.is_quiet.ensures ∙ c.if-is_quiet.true) (known own)
