-- What a line without a response says of the stream is what its event says.
use Rattle.std.proofs.Common.{◌≡◌, ◌∙◌, ℕ, Bool, true, false, cond, List, [], ◌∷◌, codes, Option, None, Some, option_and_then, refl, sym, ap, subst}
use Rattle.std.specs.Str.{bytes_eq}
use Rattle.std.proofs.lemmas.Bool.{false≢true}
use Rattle.serde_json.specs.Data.{Data}
use Rattle.serde_json.specs.Find.{as_str}
use Rattle.ev_types.specs.Same.{bytes_decide}
use Rattle.ev_types.specs.Events.{MayMake}
use Rattle.ev_types.specs.declared.events.Actor.{Actor}
use Rattle.ev_types.specs.declared.events.Actor.TheVariants.{Stream, Health as health, Timer, Main, Worker}
use Rattle.ev_types.specs.declared.events.Event.{Event}
use Rattle.ev_types.specs.declared.events.Event.TheVariants.{Connect, Disconnect, Response, Health, FetchTimeout, DrainTimeout, TtlExpired, Publish, Reap, Accept, Close, Settle}
use Rattle.ev_types.specs.declared.events.Line.{Line}
use Rattle.ev_types.specs.declared.events.Profile.{Profile}
use Rattle.ev_model.specs.Operations.{actor_same}
use Rattle.ev_script.specs.Members.{has_only, member_of, is_word, is_op}
use Rattle.ev_script.specs.LineForms.{line_at}
use Rattle.ev_script.specs.StreamLines.{connect_line, disconnect_line, response_line}
use Rattle.ev_script.specs.HealthLines.{health_line, health_in}
use Rattle.ev_script.specs.TimerLines.{timeout_line, drain_line, expired_line}
use Rattle.ev_script.specs.MainLines.{publish_line, reap_line}
use Rattle.ev_script.specs.WorkerLines.{worker_in, accept_members, accept_line, close_line, settle_line}
use Rattle.ev_script.specs.Lines.{main_side_line, line_by, line_of}
use Rattle.ev_model_laws.specs.MainSide.{stream_told}
use Rattle.ev_sotw.specs.Deltas.{stream_said}
use Rattle.ev_sotw_delta.proofs.EventLemmas.{is_told}
use Rattle.ev_sotw_delta.proofs.StripLemmas.{teller}

-- ---- whose lines they are

abbrev NotStream : Option Line → Type 0
NotStream found = (line : Line) → found ≡ Some line → actor_same line.actor Stream ≡ false

not_at : (at : ℕ) (actor : Actor) (event : Option Event) → actor_same actor Stream ≡ false → NotStream (line_at at actor event)
not_at at actor None other line is = absurd (cc)
not_at at actor (Some event) other line is =
    let made : Line = record { at = at; actor = actor; event = event } in
    let same : made ≡ line = cc in
    subst (λ (l : Line). actor_same l.actor Stream ≡ false) same other

not_cond : (b : Bool) (found : Option Line) → NotStream found → NotStream (cond b found None)
not_cond true found not line is = not line is
not_cond false found not line is = absurd (cc)

not_worker : (at : ℕ) (event : Option Event) (found : Option ℕ) → NotStream (option_and_then (λ worker. line_at at (Worker worker) event) found)
not_worker at event None line is = absurd (cc)
not_worker at event (Some worker) line is = not_at at (Worker worker) event refl line is

-- ---- what events say

untold_none : (event : Event) → is_told event ≡ false → stream_told event ≡ None
untold_none Connect h = absurd (false≢true (sym h))
untold_none Disconnect h = absurd (false≢true (sym h))
untold_none (Response response) h = absurd (false≢true (sym h))
untold_none (Health cluster host healthy) h = refl
untold_none (FetchTimeout timeout) h = refl
untold_none (DrainTimeout listener) h = refl
untold_none (TtlExpired kind name) h = refl
untold_none Publish h = refl
untold_none Reap h = refl
untold_none (Accept ask) h = refl
untold_none (Close connection) h = refl
untold_none Settle h = refl

-- an event that is no response
abbrev pub is_response : Event → Bool
is_response (Response response) = true
is_response event = false

untold_plain : (event : Event) → is_told event ≡ false → is_response event ≡ false
untold_plain Connect h = refl
untold_plain Disconnect h = refl
untold_plain (Response response) h = h
untold_plain (Health cluster host healthy) h = refl
untold_plain (FetchTimeout timeout) h = refl
untold_plain (DrainTimeout listener) h = refl
untold_plain (TtlExpired kind name) h = refl
untold_plain Publish h = refl
untold_plain Reap h = refl
untold_plain (Accept ask) h = refl
untold_plain (Close connection) h = refl
untold_plain Settle h = refl

-- what a line without a response says
pub record IsPlain (tree : Data) (event : Event) : Type 0 where
  pub said : stream_told event ≡ stream_said tree
  pub plain : is_response event ≡ false

module _ (workers : ℕ) (profile : Profile) (at : ℕ) (op : List ℕ) (tree : Data) (line : Line) (may : MayMake workers line.actor line.event) (other : bytes_eq op (codes "response") ≡ false) where
  abbrev said_by : Option Bool
  said_by = cond (bytes_eq op (codes "connect")) (Some true) (cond (bytes_eq op (codes "disconnect")) (Some false) None)

  abbrev Plain : Type 0
  Plain = (stream_told line.event ≡ said_by) × (is_response line.event ≡ false)

  choose : (word : List ℕ) (form rest : Option Line) → (bytes_eq op word ≡ true → form ≡ Some line → Plain) → (bytes_eq op word ≡ false → rest ≡ Some line → Plain)
      → cond (bytes_eq op word) form rest ≡ Some line → Plain
  choose word form rest first second h = by (bytes_eq op word) refl h
    where
      by : (b : Bool) → bytes_eq op word ≡ b → cond b form rest ≡ Some line → Plain
      by true is k = first is k
      by false is k = second is k

  untold : actor_same line.actor Stream ≡ false → is_told line.event ≡ false
  untold not = by (is_told line.event) refl
    where
      by : (b : Bool) → is_told line.event ≡ b → b ≡ false
      by true is = absurd (false≢true (sym not ∙ teller workers line.actor line.event may is))
      by false is = refl

  quiet : (word : List ℕ) → bytes_eq word (codes "connect") ≡ false → bytes_eq word (codes "disconnect") ≡ false → (form : Option Line) → NotStream form
      → bytes_eq op word ≡ true → form ≡ Some line → Plain
  quiet word first second form not is h =
      let e : op ≡ word = (bytes_decide op word).0 is in
      let no : is_told line.event ≡ false = untold (not line h) in (
        untold_none line.event no ∙ sym ((λ i. cond (bytes_eq (e i) (codes "connect")) (Some true) (cond (bytes_eq (e i) (codes "disconnect")) (Some false) None))
            ∙ (λ i. cond (first i) (Some true) (cond (second i) (Some false) None))),
        untold_plain line.event no,
      )

  -- a line of the stream with this event
  told : (b : Bool) (event : Event) → cond b (Some (record { at = at; actor = Stream; event = event })) None ≡ Some line → event ≡ line.event
  told true event h =
      let made : Line = record { at = at; actor = Stream; event = event } in
      let same : made ≡ line = cc in
      ap (λ (l : Line). l.event) same
  told false event h = absurd (cc)

  connects : bytes_eq op (codes "connect") ≡ true → connect_line at tree ≡ Some line → Plain
  connects is h =
      let e : Connect ≡ line.event = told (has_only (codes "op" ∷ []) tree) Connect h in (
        ap stream_told (sym e) ∙ sym (ap (λ b. cond b (Some true) (cond (bytes_eq op (codes "disconnect")) (Some false) None)) is),
        ap is_response (sym e),
      )

  disconnects : bytes_eq op (codes "disconnect") ≡ true → disconnect_line at tree ≡ Some line → Plain
  disconnects is h =
      let e : Disconnect ≡ line.event = told (has_only (codes "op" ∷ []) tree) Disconnect h in
      let w : op ≡ codes "disconnect" = (bytes_decide op (codes "disconnect")).0 is in (
        ap stream_told (sym e) ∙ sym (λ i. cond (bytes_eq (w i) (codes "connect")) (Some true) (cond (bytes_eq (w i) (codes "disconnect")) (Some false) None)),
        ap is_response (sym e),
      )

  responds : bytes_eq op (codes "response") ≡ true → response_line profile at tree ≡ Some line → Plain
  responds is h = absurd (false≢true (sym other ∙ is))

  by_main_side : main_side_line profile op at tree ≡ Some line → Plain
  by_main_side =
      choose (codes "connect") (connect_line at tree) _ connects (λ _.
      choose (codes "disconnect") (disconnect_line at tree) _ disconnects (λ _.
      choose (codes "response") (response_line profile at tree) _ responds (λ _.
      choose (codes "health") (health_line at tree) _ (quiet (codes "health") refl refl (health_line at tree)
      (not_cond (has_only (codes "op" ∷ codes "cluster" ∷ codes "address" ∷ codes "port" ∷ codes "healthy" ∷ []) tree) _ (not_at at health (health_in tree) refl))) (λ _.
      choose (codes "fetchTimeout") (timeout_line profile at tree) _ (quiet (codes "fetchTimeout") refl refl (timeout_line profile at tree) (not_at at Timer _ refl)) (λ _.
      choose (codes "drainTimeout") (drain_line at tree) _ (quiet (codes "drainTimeout") refl refl (drain_line at tree)
      (not_cond (has_only (codes "op" ∷ codes "listener" ∷ []) tree) _ (not_at at Timer _ refl))) (λ _.
      choose (codes "ttlExpired") (expired_line profile at tree) _ (quiet (codes "ttlExpired") refl refl (expired_line profile at tree)
      (not_cond (has_only (codes "op" ∷ codes "type" ∷ codes "name" ∷ []) tree) _ (not_at at Timer _ refl))) (λ _.
      choose (codes "publish") (publish_line at tree) _ (quiet (codes "publish") refl refl (publish_line at tree)
      (not_cond (has_only (codes "op" ∷ []) tree) _ (not_at at Main (Some Publish) refl))) (λ _.
      choose (codes "reap") (reap_line at tree) None (quiet (codes "reap") refl refl (reap_line at tree)
      (not_cond (has_only (codes "op" ∷ []) tree) _ (not_at at Main (Some Reap) refl))) (λ _ h. absurd (cc))))))))))

  by_op : line_by profile op at tree ≡ Some line → Plain
  by_op =
      choose (codes "accept") (accept_line profile at tree) _ (quiet (codes "accept") refl refl (accept_line profile at tree)
      (not_cond (has_only (codes "op" ∷ accept_members profile) tree) _
      (not_worker at _ (worker_in tree)))) (λ _.
      choose (codes "close") (close_line at tree) _ (quiet (codes "close") refl refl (close_line at tree)
      (not_cond (has_only (codes "op" ∷ codes "worker" ∷ codes "conn" ∷ []) tree) _ (not_worker at _ (worker_in tree)))) (λ _.
      choose (codes "settle") (settle_line at tree) (main_side_line profile op at tree) (quiet (codes "settle") refl refl (settle_line at tree)
      (not_cond (has_only (codes "op" ∷ codes "worker" ∷ []) tree) _ (not_worker at (Some Settle) (worker_in tree)))) (λ _. by_main_side)))

pub plain_line : (workers : ℕ) (profile : Profile) (at : ℕ) (tree : Data) (line : Line) → MayMake workers line.actor line.event → is_op (codes "response") tree ≡ false → line_of profile at tree ≡ Some line → IsPlain tree line.event
plain_line workers profile at tree line may other is = by (member_of as_str (codes "op") tree) refl other is
  where
    by : (found : Option (List ℕ)) → member_of as_str (codes "op") tree ≡ found → is_word (codes "response") found ≡ false
        → option_and_then (λ op. line_by profile op at tree) found ≡ Some line → IsPlain tree line.event
    by None named apart h = absurd (cc)
    by (Some op) named apart h =
        let plain = by_op workers profile at op tree line may apart h in
        record {
          said = plain.0 ∙ sym (λ i. cond (is_word (codes "connect") (named i)) (Some true) (cond (is_word (codes "disconnect") (named i)) (Some false) None));
          plain = plain.1;
        }
