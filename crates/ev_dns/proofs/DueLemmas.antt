-- Where a template is complete and a stream is open it was due at some line, and nothing of it has changed after the
-- last such line.
use Rattle.std.proofs.Common.{◌≡◌, ◌∙◌, ◌⊎◌, inl, inr, ℕ, zero, suc, ◌+◌, ◌<◌, ◌≤◌, Bool, true, false, ◌&&◌, ◌||◌, not, List, [], ◌∷◌, ◌++◌, length, take, Some, option_map, refl, sym, ap, subst, arith}
use Rattle.ev_types.specs.declared.events.Profile.{Profile}
use Rattle.std.specs.Prelude.{slice_get}
use Rattle.std.specs.List.{list_any}
use Rattle.std.proofs.lemmas.Bool.{both_ways, cases_lt, false≢true, or_parts}
use Rattle.std.proofs.lemmas.Option.{slice_get-map}
use Rattle.serde_json.specs.Data.{Data}
use Rattle.ev_model_laws.proofs.AnyLemmas.{any_behind}
use Rattle.ev_expand.specs.declared.keys.Key.{Key}
use Rattle.ev_expand.specs.Fronts.{Front, behind, fronts, opens, stream_at, up_to}
use Rattle.ev_expand.specs.Guarding.{Guarded}
use Rattle.ev_expand.proofs.FrontLawLemmas.{IsFrontAt, front_at, up_to_at}
use Rattle.ev_expand.proofs.ListLemmas.{some_same}
use Rattle.ev_dns.specs.Answers.{is_complete}
use Rattle.ev_dns.specs.Resolving.{answers_name, has_guarded, is_due, resolved_hosts}
use Rattle.ev_dns.proofs.AnsweredLemmas.{StaysKnown, stays_known}

-- there is a prefix at each line
pub front_there : (lines : List Data) (n : ℕ) → n < length lines → (f : Front) × (slice_get (fronts lines) n ≡ Some f)
front_there [] n h = absurd (omega (arith, h))
front_there (first ∷ lines) zero h = (record { before = []; line = first }, refl)
front_there (first ∷ lines) (suc n) h =
    let rest = front_there lines n (omega (arith, h)) in
    (behind first rest.0, slice_get-map (behind first) (fronts lines) n ∙ ap (option_map (behind first)) rest.1)

-- the key was guarded in these lines
abbrev pub was_guarded : Profile → List Data → Key → Bool
was_guarded profile lines key = list_any (λ line. has_guarded profile line key) lines

-- the template is due at a line before the n-th, and after that one it isn't, nor is it guarded, and its hosts stay
pub record IsDueLast (profile : Profile) (lines : List Data) (n : ℕ) (g : Guarded) : Type 0 where
  pub index : ℕ
  pub within : index < n
  pub front : Front
  pub there : slice_get (fronts lines) index ≡ Some front
  pub due : is_due profile front g ≡ true
  pub guarded : was_guarded profile (take (index + 1) lines) g.key ≡ true
  pub hosts : resolved_hosts (take n lines) g.key ≡ resolved_hosts (take (index + 1) lines) g.key
  pub quiet : (i : ℕ) (later : Front) → index < i → i < n → slice_get (fronts lines) i ≡ Some later
      → (has_guarded profile later.line g.key ≡ false) × (is_due profile later g ≡ false)

-- what a line leaves where a stream is open, the template is complete there and isn't due
record IsQuiet (profile : Profile) (front : Front) (g : Guarded) : Type 0 where
  connected : stream_at profile front.before ≡ true
  unguarded : has_guarded profile front.line g.key ≡ false
  known : StaysKnown front.before (up_to front) g.key

not_opened : (now before : Bool) → now ≡ true → (now && not before) ≡ false → before ≡ true
not_opened true true is h = refl
not_opened true false is h = absurd (false≢true (sym h))
not_opened false before is h = absurd (false≢true is)

undue : (a b c : Bool) → a ≡ true → b ≡ true → (a && b && c) ≡ false → c ≡ false
undue true true c h k e = e
undue true false c h k e = absurd (false≢true k)
undue false b c h k e = absurd (false≢true h)

quiet_at : (profile : Profile) (front : Front) (g : Guarded) → stream_at profile (up_to front) ≡ true → is_complete (up_to front) g.key ≡ true → is_due profile front g ≡ false → IsQuiet profile front g
quiet_at profile front g streams complete none =
    let nothing : (opens profile front || has_guarded profile front.line g.key || answers_name front.line g.key) ≡ false =
    undue (stream_at profile (up_to front)) (is_complete (up_to front) g.key) (opens profile front || has_guarded profile front.line g.key || answers_name front.line g.key) streams complete none in
    let outer = or_parts (opens profile front || has_guarded profile front.line g.key) (answers_name front.line g.key) nothing in
    let inner = or_parts (opens profile front) (has_guarded profile front.line g.key) outer.0 in
    record {
      connected = not_opened (stream_at profile (up_to front)) (stream_at profile front.before) streams inner.0;
      unguarded = inner.1;
      known = stays_known front.before front.line g.key outer.1;
    }

guarded_before : (profile : Profile) (before : List Data) (line : Data) (key : Key) → was_guarded profile (before ++ line ∷ []) key ≡ true → has_guarded profile line key ≡ false → was_guarded profile before key ≡ true
guarded_before profile before line key seen none =
    any_behind (λ l. has_guarded profile l key) before (line ∷ []) (λ h. h)
    (λ h. absurd (both_ways (has_guarded profile line key || false) (ap (λ b. b || false) none) h)) seen

module _ (profile : Profile) (lines : List Data) (g : Guarded) where
  abbrev Wants : ℕ → Type 0
  Wants n = n ≤ length lines → stream_at profile (take n lines) ≡ true → is_complete (take n lines) g.key ≡ true → was_guarded profile (take n lines) g.key ≡ true → IsDueLast profile lines n g

  here_due : (n : ℕ) (front : Front) → slice_get (fronts lines) n ≡ Some front → is_due profile front g ≡ true → was_guarded profile (take (n + 1) lines) g.key ≡ true → IsDueLast profile lines (n + 1) g
  here_due n front there due seen = record {
    index = n;
    within = omega arith;
    front = front;
    there = there;
    due = due;
    guarded = seen;
    hosts = refl;
    quiet = λ i later above below at. absurd (omega (arith, above, below));
  }

  more_quiet : (n : ℕ) (front : Front) → slice_get (fronts lines) n ≡ Some front → (last : IsDueLast profile lines n g) → is_due profile front g ≡ false → has_guarded profile front.line g.key ≡ false
      → (i : ℕ) (later : Front) → last.index < i → i < n + 1 → slice_get (fronts lines) i ≡ Some later → (has_guarded profile later.line g.key ≡ false) × (is_due profile later g ≡ false)
  more_quiet n front there last undue none i later above below at = by (cases_lt i n)
    where
      by : (i < n) ⊎ (n ≤ i) → (has_guarded profile later.line g.key ≡ false) × (is_due profile later g ≡ false)
      by (inl less) = last.quiet i later above less at
      by (inr past) =
          let place : i ≡ n = omega (arith, past, below) in
          let same : front ≡ later = some_same (sym there ∙ ap (slice_get (fronts lines)) (sym place) ∙ at) in
          (ap (λ (f : Front). has_guarded profile f.line g.key) (sym same) ∙ none, ap (λ (f : Front). is_due profile f g) (sym same) ∙ undue)

  next_due : (n : ℕ) (front : Front) (b : Bool) → slice_get (fronts lines) n ≡ Some front → n < length lines → is_due profile front g ≡ b → Wants n
      → stream_at profile (take (n + 1) lines) ≡ true → is_complete (take (n + 1) lines) g.key ≡ true → was_guarded profile (take (n + 1) lines) g.key ≡ true → IsDueLast profile lines (n + 1) g
  next_due n front true there less due wants streams complete seen = here_due n front there due seen
  next_due n front false there less due wants streams complete seen =
      let at : IsFrontAt lines n front = front_at lines n front there in
      let all : up_to front ≡ take (n + 1) lines = up_to_at lines n front there in
      let quiet : IsQuiet profile front g =
      quiet_at profile front g (ap (stream_at profile) all ∙ streams) (ap (λ ls. is_complete ls g.key) all ∙ complete) due in
      let last : IsDueLast profile lines n g =
      wants (omega (arith, less)) (sym (ap (stream_at profile) at.before) ∙ quiet.connected)
      (sym (ap (λ ls. is_complete ls g.key) at.before) ∙ sym quiet.known.complete ∙ ap (λ ls. is_complete ls g.key) all ∙ complete)
      (sym (ap (λ ls. was_guarded profile ls g.key) at.before)
      ∙ guarded_before profile front.before front.line g.key (ap (λ ls. was_guarded profile ls g.key) all ∙ seen) quiet.unguarded) in
      record {
        index = last.index;
        within = omega (arith, last.within);
        front = last.front;
        there = last.there;
        due = last.due;
        guarded = last.guarded;
        hosts = sym (ap (λ ls. resolved_hosts ls g.key) all) ∙ quiet.known.hosts ∙ ap (λ ls. resolved_hosts ls g.key) at.before ∙ last.hosts;
        quiet = more_quiet n front there last due quiet.unguarded;
      }

  -- where a stream is open, and the template was guarded and is complete, it was due last at some line
  pub due_last : (n : ℕ) → Wants n
  due_last zero within streams complete seen = absurd (false≢true seen)
  due_last (suc n) within streams complete seen =
      let front = front_there lines n (omega (arith, within)) in
      let place : n + 1 ≡ suc n = omega arith in
      subst (λ m. IsDueLast profile lines m g) place
      (next_due n front.0 (is_due profile front.0 g) front.1 (omega (arith, within)) refl (λ w o c s. due_last n w o c s)
      (ap (λ m. stream_at profile (take m lines)) place ∙ streams)
      (ap (λ m. is_complete (take m lines) g.key) place ∙ complete)
      (ap (λ m. was_guarded profile (take m lines) g.key) place ∙ seen))

-- what is due is complete, where a stream is open
pub due_parts : (profile : Profile) (front : Front) (g : Guarded) → is_due profile front g ≡ true → (stream_at profile (up_to front) ≡ true) × (is_complete (up_to front) g.key ≡ true)
due_parts profile front g h =
    by (stream_at profile (up_to front)) (is_complete (up_to front) g.key) (opens profile front || has_guarded profile front.line g.key || answers_name front.line g.key) h
  where
    by : (a b c : Bool) → (a && b && c) ≡ true → (a ≡ true) × (b ≡ true)
    by true true c e = (refl, refl)
    by true false c e = absurd (false≢true e)
    by false b c e = absurd (false≢true e)
