-- No worker has two open connections of one number.
use Rattle.std.proofs.Common.{◌≡◌, ℕ, Bool, true, false, not, ◌==◌, cond, ◌⊎◌, inl, inr, List, [], ◌∷◌, ◌++◌, filter, refl, sym, ap, ◌∙◌, subst, append-nil}
use Rattle.std.specs.List.{Contains}
use Rattle.std.proofs.lemmas.Bool.{both_ways, cond_both, and_from}
use Rattle.std.proofs.lemmas.List.Elements.{Contains-append_cases}
use Rattle.ev_types.specs.Same.{numbers_decide}
use Rattle.ev_types.specs.declared.events.Actor.{Actor}
use Rattle.ev_types.specs.declared.events.Answer.TheVariants.{InUse, NotOpen, Done}
use Rattle.ev_types.specs.declared.events.Event.{Event}
use Rattle.ev_types.specs.declared.journals.Format.{Format}
use Rattle.ev_model.specs.declared.pictures.Choice.{Choice}
use Rattle.ev_model.specs.declared.pictures.Choice.TheVariants.{NoListener, NoChain, On}
use Rattle.ev_model.specs.declared.pictures.Picture.{Picture}
use Rattle.ev_model.specs.declared.pictures.Shown.{Shown}
use Rattle.ev_model.specs.World.{World, OpenMember, opening}
use Rattle.ev_model.specs.Dead.{picture_held, last_picture}
use Rattle.ev_model.specs.Choice.{choice_of}
use Rattle.ev_model.specs.Connections.{Worked, is_member, is_open, cluster_on, members_of, opened_by, listener_after, is_closing, left_open, moved_on}
use Rattle.ev_model.specs.Step.{step}
use Rattle.ev_model_laws.specs.Kept.{OpensOnce}
use Rattle.ev_model_laws.proofs.KeepLemmas.{either, step-each}
use Rattle.ev_model_laws.proofs.MoveLemmas.{moved_member}
use Rattle.ev_model_laws.proofs.OriginLemmas.{cons_cases, none_in}
use Rattle.ev_model_laws.proofs.SeenLemmas.{same_seen}
use Rattle.ev_model_laws.proofs.TidyLists.{any_at, left_in, made_from}

-- of these connections no two are one worker's of one number
abbrev AreOnce : List OpenMember → Type 0
AreOnce opened =
    (member other : OpenMember) → Contains opened member → Contains opened other
    → member.worker ≡ other.worker → member.connection ≡ other.connection → member ≡ other

once_left : (keeps : OpenMember → Bool) (opened : List OpenMember) → AreOnce opened → AreOnce (filter keeps opened)
once_left keeps opened once member other first second by of =
    once member other (left_in keeps opened member first).0 (left_in keeps opened other second).0 by of

module _ (opened : List OpenMember) (once : AreOnce opened) (new : OpenMember) (none : is_open opened new.worker new.connection ≡ false) where
  -- none of those is the new one's
  apart : (member : OpenMember) → Contains opened member → member.worker ≡ new.worker → member.connection ≡ new.connection → ⊥
  apart member there by of =
      both_ways (is_open opened new.worker new.connection) none
      (any_at (is_member new.worker new.connection) opened member there
      (and_from (member.worker == new.worker) (member.connection == new.connection)
      ((numbers_decide member.worker new.worker).1 by) ((numbers_decide member.connection new.connection).1 of)))

  same_new : (member : OpenMember) → Contains (new ∷ []) member → new ≡ member
  same_new member there =
      elim (cons_cases new [] member there) [
        | inl same ↦ same
        | inr further ↦ absurd (none_in member further)
      ]

  both_of : (member other : OpenMember) → Contains opened member ⊎ Contains (new ∷ []) member → Contains opened other ⊎ Contains (new ∷ []) other
      → member.worker ≡ other.worker → member.connection ≡ other.connection → member ≡ other
  both_of member other (inl first) (inl second) by of = once member other first second by of
  both_of member other (inl first) (inr second) by of =
      absurd (apart member first (by ∙ sym (ap (λ (m : OpenMember). m.worker) (same_new other second)))
      (of ∙ sym (ap (λ (m : OpenMember). m.connection) (same_new other second))))
  both_of member other (inr first) (inl second) by of =
      absurd (apart other second (sym by ∙ sym (ap (λ (m : OpenMember). m.worker) (same_new member first)))
      (sym of ∙ sym (ap (λ (m : OpenMember). m.connection) (same_new member first))))
  both_of member other (inr first) (inr second) by of = sym (same_new member first) ∙ same_new other second

  once_more : AreOnce (opened ++ new ∷ [])
  once_more member other first second by of =
      both_of member other (Contains-append_cases opened (new ∷ []) member first) (Contains-append_cases opened (new ∷ []) other second) by of

none_more : (opened : List OpenMember) → AreOnce opened → AreOnce (opened ++ [])
none_more opened once = subst AreOnce (sym (append-nil opened)) once

once_chosen : (worker connection : ℕ) (choice : Choice) (opened : List OpenMember) → is_open opened worker connection ≡ false → AreOnce opened
    → AreOnce (opened ++ members_of worker connection choice)
once_chosen worker connection NoListener opened none once = none_more opened once
once_chosen worker connection NoChain opened none once = none_more opened once
once_chosen worker connection (On listener chain origin course) opened none once =
    once_more opened once
    (record { worker = worker; connection = connection; listener = listener; cluster = cluster_on course; origin = origin }) none

-- a connection that moves stays its worker's, of its number
pub worker_stays : (shown : Shown) (m : OpenMember) (mine : Bool) → (cond mine (record m { listener = listener_after shown m }) m).worker ≡ m.worker
worker_stays shown m true = refl
worker_stays shown m false = refl

pub connection_stays : (shown : Shown) (m : OpenMember) (mine : Bool) → (cond mine (record m { listener = listener_after shown m }) m).connection ≡ m.connection
connection_stays shown m true = refl
connection_stays shown m false = refl

once_moved : (shown : Shown) (worker : ℕ) (opened : List OpenMember) → AreOnce opened → AreOnce (moved_on shown worker opened)
once_moved shown worker opened once member other first second by of =
    let move : OpenMember → OpenMember = moved_member shown worker in
    let one : (m : OpenMember) × Contains opened m × (move m ≡ member) = made_from move opened member first in
    let two : (m : OpenMember) × Contains opened m × (move m ≡ other) = made_from move opened other second in
    let same_worker : (m : OpenMember) → (move m).worker ≡ m.worker = λ m. worker_stays shown m (m.worker == worker) in
    let same_connection : (m : OpenMember) → (move m).connection ≡ m.connection = λ m. connection_stays shown m (m.worker == worker) in
    let same : one.0 ≡ two.0 =
    once one.0 two.0 one.1 two.1
    (sym (same_worker one.0) ∙ ap (λ (m : OpenMember). m.worker) one.2 ∙ by ∙ sym (ap (λ (m : OpenMember). m.worker) two.2) ∙ same_worker two.0)
    (sym (same_connection one.0) ∙ ap (λ (m : OpenMember). m.connection) one.2 ∙ of ∙ sym (ap (λ (m : OpenMember). m.connection) two.2)
    ∙ same_connection two.0) in
    sym one.2 ∙ ap move same ∙ two.2

pub opens_opens_once : (workers : ℕ) (node : List ℕ) → OpensOnce (opening workers node)
opens_opens_once workers node member other first second by of = absurd (none_in member first)

-- an event keeps it
pub step-opens_once : (format : Format) (world : World) (actor : Actor) (event : Event) → OpensOnce world → OpensOnce (step format world actor event).0
step-opens_once format world actor event once = step-each OpensOnce format world actor event once (record {
  managed = λ other for. subst AreOnce (sym (same_seen format world actor other for).opened) once;
  published = either OpensOnce _ _ _ once once;
  reaped = once;
  accepted = λ ask worker is.
      let picture : Picture = picture_held world worker in
      cond_both (is_open world.opened worker ask.conn) (record { opened = world.opened; answer = InUse })
      (opened_by picture worker ask.conn (choice_of picture ask) world.opened) (λ (worked : Worked). AreOnce worked.opened)
      (λ was. once) (λ new. once_chosen worker ask.conn (choice_of picture ask) world.opened new once);
  closed = λ connection worker is.
      cond_both (is_open world.opened worker connection)
      (record { opened = filter (λ (m : OpenMember). not (is_member worker connection m)) world.opened; answer = Done })
      (record { opened = world.opened; answer = NotOpen }) (λ (worked : Worked). AreOnce worked.opened)
      (λ was. once_left (λ (m : OpenMember). not (is_member worker connection m)) world.opened once) (λ none. once);
  settled = λ worker is.
      let shown : Shown = (last_picture world).shown in
      once_moved shown worker (left_open shown world.expired worker world.opened)
      (once_left (λ (m : OpenMember). not (is_closing shown world.expired worker m)) world.opened once);
})
