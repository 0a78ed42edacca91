-- A line that is no connect, disconnect or response changes nothing, and nothing is due at it.
use Rattle.std.proofs.Common.{◌≡◌, ℕ, Bool, true, false, not, ◌&&◌, ◌||◌, List, [], ◌∷◌, ◌++◌, map, filter, filter_map, flat_map, Option, Some, None, option_and_then, unwrap_or, refl, sym, ap, ◌∙◌, subst}
use Rattle.std.specs.List.{list_any, enumerate_from}
use Rattle.std.specs.Str.{bytes_eq}
use Rattle.std.proofs.Math.Bool.{or-false}
use Rattle.std.proofs.lemmas.List.{append-nil}
use Rattle.serde_json.specs.Data.{Data}
use Rattle.ev_types.specs.declared.events.Event.{Event}
use Rattle.ev_types.specs.declared.events.Profile.{Profile}
use Rattle.ev_types.specs.declared.events.Event.TheVariants.{Connect, Disconnect, Response, Health, FetchTimeout, DrainTimeout, TtlExpired, Publish, Reap, Accept, Close, Settle}
use Rattle.ev_expand.specs.Expanding.{due_at}
use Rattle.ev_expand.specs.Fronts.{event_of, message_of, stream_said, stream_at}
use Rattle.ev_expand.specs.Growing.{front_of}
use Rattle.ev_expand.specs.Guarding.{Guarded, guarded_in, guarded_by, guarded_of, guarded_same, listed_as, kind_of, each_once}
use Rattle.ev_expand.proofs.NumberLemmas.{guarded-push}
use Rattle.ev_tls.specs.declared.awaited.Awaited.{Awaited}
use Rattle.ev_tls.specs.declared.secrets.Secrets.{Secrets}
use Rattle.ev_tls.specs.Awaited.{awaited_same, awaited_by, services_of}
use Rattle.ev_tls.specs.Known.{later_value}
use Rattle.ev_tls.specs.Hearing.{heard_now, is_quiet}
use Rattle.ev_tls.specs.References.{by_secrets}
use Rattle.ev_tls.specs.Sealing.{tls_rules, is_due, endpoints_by, has_guarded, gives_name, gives_endpoints}
use Rattle.ev_tls.specs.State.{HasHeard}
use Rattle.ev_tls.specs.Told.{told_by, told_with, is_told, is_complete, values_in, given_with, value_of}
use Rattle.ev_tls.specs.Waiting.{AreComplete, IsWaiting}
use Rattle.ev_tls.proofs.StateLemmas.{stream_now, told_now, value_now, all_same}

-- what a quiet event says
record SaysNothing (profile : Profile) (event : Option Event) (message : Data) : Type 0 where
  tells : told_with event message ≡ []
  gives : given_with profile event message ≡ []
  lists : listed_as (kind_of event) message ≡ []
  stream : option_and_then stream_said event ≡ None

nothing_said : (profile : Profile) (event : Option Event) (message : Data) → is_quiet event ≡ true → SaysNothing profile event message
nothing_said profile None message h = record { tells = refl; gives = refl; lists = refl; stream = refl }
nothing_said profile (Some Connect) message h = absurd (cc)
nothing_said profile (Some Disconnect) message h = absurd (cc)
nothing_said profile (Some (Response response)) message h = absurd (cc)
nothing_said profile (Some (Health cluster host healthy)) message h = record { tells = refl; gives = refl; lists = refl; stream = refl }
nothing_said profile (Some (FetchTimeout timeout)) message h = record { tells = refl; gives = refl; lists = refl; stream = refl }
nothing_said profile (Some (DrainTimeout listener)) message h = record { tells = refl; gives = refl; lists = refl; stream = refl }
nothing_said profile (Some (TtlExpired kind name)) message h = record { tells = refl; gives = refl; lists = refl; stream = refl }
nothing_said profile (Some Publish) message h = record { tells = refl; gives = refl; lists = refl; stream = refl }
nothing_said profile (Some Reap) message h = record { tells = refl; gives = refl; lists = refl; stream = refl }
nothing_said profile (Some (Accept ask)) message h = record { tells = refl; gives = refl; lists = refl; stream = refl }
nothing_said profile (Some (Close connection)) message h = record { tells = refl; gives = refl; lists = refl; stream = refl }
nothing_said profile (Some Settle) message h = record { tells = refl; gives = refl; lists = refl; stream = refl }

nothing_of : {A : Type 0} (f : Data → List A) (b : Bool) (line : Data) → f line ≡ [] → flat_map f (heard_now b line) ≡ []
nothing_of f true line h = append-nil (f line) ∙ h
nothing_of f false line h = refl

dead : (s c : Bool) → (s && c && ((s && not s) || false || not c || false)) ≡ false
dead true true = refl
dead true false = refl
dead false true = refl
dead false false = refl

none_left : {A : Type 0} (p : A → Bool) (xs : List A) → ((x : A) → p x ≡ false) → filter p xs ≡ []
none_left p [] h = refl
none_left p (x ∷ xs) h = rw (h x) (none_left p xs h)

none_any : {A : Type 0} (p : A → Bool) (xs : List A) → ((x : A) → p x ≡ false) → list_any p xs ≡ false
none_any p [] h = refl
none_any p (x ∷ xs) h = rw (h x) (none_any p xs h)

stays_told : (profile : Profile) (before : List Data) (line : Data) (a : Awaited) → told_by profile line ≡ [] → is_told profile (before ++ line ∷ []) a ≡ is_told profile before a
stays_told profile before line a h =
    told_now profile before line a ∙ ap (λ (xs : List Awaited). is_told profile before a || list_any (awaited_same a) xs) (nothing_of (told_by profile) (stream_at profile (before ++ line ∷ [])) line h) ∙ or-false (is_told profile before a)

stays_guarded : (profile : Profile) (before : List Data) (line : Data) → guarded_in (by_secrets profile) line ≡ [] → guarded_by (by_secrets profile) (before ++ line ∷ []) ≡ guarded_by (by_secrets profile) before
stays_guarded profile before line h = guarded-push (by_secrets profile) before line ∙ ap (λ (xs : List Guarded). each_once (flat_map (guarded_in (by_secrets profile)) before ++ xs)) h ∙ ap each_once (append-nil (flat_map (guarded_in (by_secrets profile)) before))

stays_open : (profile : Profile) (before : List Data) (line : Data) → option_and_then stream_said (event_of profile line) ≡ None → stream_at profile (before ++ line ∷ []) ≡ stream_at profile before
stays_open profile before line h = sym (stream_now profile before line) ∙ ap (λ (o : Option Bool). unwrap_or o (stream_at profile before)) h

-- what is known stays
pub quiet_behind : (profile : Profile) (before : List Data) (line : Data) (s : Secrets) (event : Option Event) → event ≡ event_of profile line → is_quiet event ≡ true → HasHeard profile s before → HasHeard profile s (before ++ line ∷ [])
quiet_behind profile before line s event is quiet behind =
    let says : SaysNothing profile (event_of profile line) (message_of line) = nothing_said profile (event_of profile line) (message_of line) (ap is_quiet (sym is) ∙ quiet) in
    let guarded : guarded_in (by_secrets profile) line ≡ [] = ap (filter_map (guarded_of (by_secrets profile))) says.lists in
    record {
      stream = behind.stream ∙ sym (stays_open profile before line says.stream);
      told = λ a. behind.told a ∙ sym (stays_told profile before line a says.tells);
      values = λ name. behind.values name ∙ sym (value_now profile before line name ∙ ap (later_value name (value_of profile before name)) (nothing_of (values_in profile) (stream_at profile (before ++ line ∷ [])) line says.gives));
      waiting = subst (λ (gs : List Guarded). IsWaiting s.told gs s.waiting) (sym (stays_guarded profile before line guarded)) behind.waiting;
      complete = subst (λ (gs : List Guarded). AreComplete s.told gs s.complete) (sym (stays_guarded profile before line guarded)) behind.complete;
    }

not_due : (profile : Profile) (before : List Data) (line : Data) (g : Guarded) → SaysNothing profile (event_of profile line) (message_of line) → is_due profile (front_of before line) g ≡ false
not_due profile before line g says =
    let s : stream_at profile (before ++ line ∷ []) ≡ stream_at profile before = stays_open profile before line says.stream in
    let c : is_complete profile before g.key ≡ is_complete profile (before ++ line ∷ []) g.key =
    all_same (is_told profile before) (is_told profile (before ++ line ∷ [])) (awaited_by g.key) (λ a. sym (stays_told profile before line a says.tells)) in
    let h : has_guarded profile line g.key ≡ false = ap (λ (xs : List Data). list_any (guarded_same g) (filter_map (guarded_of (by_secrets profile)) xs)) says.lists in
    let e : gives_endpoints profile line g.key ≡ false =
    none_any (gives_name profile line) (services_of g.key.cluster.discovery) (λ name. ap (λ (xs : List (List ℕ × Data)). list_any (λ (v : List ℕ × Data). bytes_eq v.0 name) xs) says.gives) in
    (λ i. stream_at profile (before ++ line ∷ []) && is_complete profile (before ++ line ∷ []) g.key
    && ((stream_at profile (before ++ line ∷ []) && not (sym s i)) || h i || not (c i) || e i))
    ∙ dead (stream_at profile (before ++ line ∷ [])) (is_complete profile (before ++ line ∷ []) g.key)

-- nothing is due
pub quiet_due : (profile : Profile) (before : List Data) (line : Data) (event : Option Event) → event ≡ event_of profile line → is_quiet event ≡ true → due_at (tls_rules profile) (front_of before line) ≡ []
quiet_due profile before line event is quiet =
    let says : SaysNothing profile (event_of profile line) (message_of line) = nothing_said profile (event_of profile line) (message_of line) (ap is_quiet (sym is) ∙ quiet) in
    ap (map (λ (p : ℕ × Guarded). record { place = p.0; endpoints = endpoints_by profile p.1.key.cluster.discovery (before ++ line ∷ []) p.1 })) (none_left (λ (p : ℕ × Guarded). is_due profile (front_of before line) p.1) (enumerate_from 0 (guarded_by (by_secrets profile) (before ++ line ∷ []))) (λ p. not_due profile before line p.1 says))
