use Rattle.std.proofs.Common.{◌≡◌, ◌≤◌, ◌||◌, ℕ, List, Option, Result, Ok, Err, IfOk, option_map, length, refl, sym, ap, ◌∙◌, subst, arith, length-append}
use Rattle.std.proofs.lemmas.Result.{IfOk-weaker}
use Rattle.serde_json.specs.Data.{Data}
use Rattle.serde_json.specs.View.{view}
use Rattle.ev_expand.specs.Expanding.{guarded_at}
use Rattle.ev_expand.specs.Growing.{front_of}
use Rattle.ev_expand.specs.Guarding.{Guarded, guarded_by, guarded_in}
use Rattle.ev_expand.specs.Numbers.{ArePlaces, guarded_so_far}
use Rattle.ev_expand.proofs.DistinctLemmas.{IsExtended}
use Rattle.ev_dns.specs.declared.lines.Resolution.{Resolution}
use Rattle.ev_dns.specs.Known.{TakesGiven, has_answer, stands_named}
use Rattle.ev_dns.specs.Lines.{resolution_in}
use Rattle.ev_dns.specs.Marking.{is_marked, open_after}
use Rattle.ev_dns.specs.Resolving.{dns_rules}
use Rattle.ev_dns.specs.State.{IsBehind}
use Rattle.ev_dns.specs.Templates.{by_names}
use Rattle.ev_dns.specs.Waiting.{AreComplete, AreWaiting, Advances, EntersComplete, HavePassed, is_named}
use Rattle.ev_dns.proofs.AnswerLemmas.{answered_more, answers_after}
use Rattle.ev_dns.proofs.ProgressLemmas.{WentOn, complete_after, passed_still, waits_on}
use Rattle.ev_dns.proofs.StateLemmas.{extended, stream_now, touched_now}
use Rattle.ev_dns.proofs.resolutions.Resolutions.hear.Goals as goal

-- what waits and what is complete after the line
progress : (c : goal.Joined-name-5) (before : List Data) → IsBehind c.args.profile c.args.self.now before → guarded_so_far c.args.numbers.now ≡ guarded_at (dns_rules c.args.profile) (front_of before (view c.args.line.now))
    → AreWaiting c.take_given.new.answers (guarded_so_far c.args.numbers.now) c.advance_all.new.self × AreComplete c.take_given.new.answers (guarded_so_far c.args.numbers.now) c.enter_all.new.self
progress c before behind kept =
    let line : Data = view c.args.line.now in
    let gs : List Guarded = guarded_by (by_names c.args.profile) before in
    let all : List Guarded = guarded_so_far c.args.numbers.now in
    let e : IsExtended gs all (guarded_in (by_names c.args.profile) line) = (let x = extended c.args.profile before line in record { more = x.more; grown = kept ∙ x.grown; among = x.among }) in
    let was = behind.waiting in
    let longer : length gs ≤ length all = omega (arith, ap length e.grown, length-append gs e.more) in
    let count : c.len.result ≡ length all = c.len.ensures in
    let counted : length c.wake.new.self.passed.items ≡ length all = c.in_ok-woken.ensures.counted (omega (arith, count, was.counted, longer)) ∙ count in
    let answered : (other : List ℕ) → has_answer c.take_given.new.answers other ≡ (is_named c.in_ok-name.name other || has_answer c.args.self.now.answers other) = λ other.
    answered_more c.args.self.now.answers c.take_given.new.answers c.in_ok-resolution.resolution c.in_ok-take_given.ensures other
    ∙ ap (λ (o : Option (List ℕ)). is_named o other || has_answer c.args.self.now.answers other) (sym c.in_ok-name.ensures) in
    let had : HavePassed c.take_given.new.answers all c.wake.new.self.passed.items =
    passed_still c.args.self.now.answers c.take_given.new.answers c.in_ok-name.name gs all (guarded_in (by_names c.args.profile) line) c.args.self.now.waiting.passed.items c.wake.new.self.passed.items
    answered e was.counted c.in_ok-woken.ensures.passed was.passed in
    let advances : Advances c.take_given.new.answers all c.in_ok-woken.woken.items c.wake.new.self.under c.advance_all.new.self.under c.in_ok-finished.finished.items =
    subst (λ (places : List ℕ). Advances c.take_given.new.answers all places c.wake.new.self.under c.advance_all.new.self.under c.in_ok-finished.finished.items) c.as_slice.ensures.value
    (c.in_ok-finished.ensures.advances had) in
    let went : WentOn c.args.self.now.answers c.take_given.new.answers c.in_ok-name.name gs all (guarded_in (by_names c.args.profile) line) c.args.self.now.waiting c.wake.new.self.under c.advance_all.new.self.under c.in_ok-woken.woken.items c.in_ok-finished.finished.items = record {
      answered = answered;
      was = was;
      extended = e;
      fresh = λ n past within. c.in_ok-woken.ensures.fresh n (omega (arith, was.counted, past)) (omega (arith, count, within));
      wakes = c.in_ok-woken.ensures.wakes;
      advances = advances;
    } in
    let enters : EntersComplete all c.in_ok-finished.finished.items c.args.self.now.complete c.enter_all.new.self =
    subst (λ (places : List ℕ). EntersComplete all places c.args.self.now.complete c.enter_all.new.self) c.as_slice-2.ensures.value c.in_ok-enter_all.ensures in (
      waits_on c.args.self.now.answers c.take_given.new.answers c.in_ok-name.name gs all (guarded_in (by_names c.args.profile) line) c.args.self.now.waiting c.wake.new.self.under c.advance_all.new.self.under
          c.in_ok-woken.woken.items c.in_ok-finished.finished.items went c.advance_all.new.self refl (c.in_ok-finished.ensures.counted ∙ counted) (c.in_ok-finished.ensures.passed had),
      complete_after c.args.self.now.answers c.take_given.new.answers c.in_ok-name.name gs all (guarded_in (by_names c.args.profile) line) c.args.self.now.waiting c.wake.new.self.under c.advance_all.new.self.under
          c.in_ok-woken.woken.items c.in_ok-finished.finished.items went c.args.self.now.complete c.enter_all.new.self behind.complete enters,
    )

pub returns-clause-touched : goal.returns-clause-touched
returns-clause-touched c = λ before behind kept.
    let line : Data = view c.args.line.now in
    let name : c.in_ok-name.name ≡ option_map (λ (r : Resolution). r.name) (resolution_in line) = c.in_ok-name.ensures ∙ ap (option_map (λ (r : Resolution). r.name)) c.in_ok-resolution.ensures in
    IfOk-weaker c.touched_by.result _ _
    (λ set has. touched_now c.args.profile before line c.take_given.new.answers c.enter_all.new.self c.args.items.now set
    (subst (λ (gs : List Guarded). ArePlaces (by_names c.args.profile) line gs c.args.items.now) kept c.requires.places)
    (subst (λ (gs : List Guarded). AreComplete c.take_given.new.answers gs c.enter_all.new.self) kept (progress c before behind kept).1)
    (λ n. has n ∙ ap (λ (o : Option (List ℕ)). is_marked c.args.items.now n || stands_named c.enter_all.new.self.served o n) name))
    c.touched_by.ensures

if_done : {T E : Type 0} (P : Type 0) (r : Result T E) → P → IfOk r (λ (v : T). P)
if_done P (Ok v) p = p
if_done P (Err e) p = tt

pub returns-clause-behind : goal.returns-clause-behind
returns-clause-behind c = λ before behind kept.
    let line : Data = view c.args.line.now in
    let waits = progress c before behind kept in
    if_done _ c.touched_by.result
    (record {
      stream = c.open_after-self.ensures ∙ (λ i. open_after (behind.stream i) (c.requires.event i)) ∙ stream_now c.args.profile before line;
      answers = answers_after c.args.self.now.answers c.take_given.new.answers before line behind.answers
          (subst (TakesGiven c.args.self.now.answers c.take_given.new.answers) c.in_ok-resolution.ensures c.in_ok-take_given.ensures);
      waiting = subst (λ (gs : List Guarded). AreWaiting c.take_given.new.answers gs c.advance_all.new.self) kept waits.0;
      complete = subst (λ (gs : List Guarded). AreComplete c.take_given.new.answers gs c.enter_all.new.self) kept waits.1;
    })
