-- What a settle does to a connection: its own worker's moves or is closed, and any other stays as it is.
use Rattle.std.proofs.Common.{◌≡◌, ℕ, Bool, true, false, ◌&&◌, ◌==◌, cond, List, Option, Some, None, refl, sym, ap, ◌∙◌, ◌||◌, subst}
use Rattle.std.specs.Prelude.{is_some, not, option_map, unwrap_or}
use Rattle.std.specs.Cmp.{first_so}
use Rattle.std.proofs.lemmas.Bool.{false≢true, cond_both, or_left, or_right}
use Rattle.ev_types.specs.Same.{numbers_decide}
use Rattle.ev_model.specs.declared.pictures.ServedListener.{ServedListener}
use Rattle.ev_model.specs.declared.pictures.Shown.{Shown}
use Rattle.ev_model.specs.World.{OpenMember}
use Rattle.ev_model.specs.Picture.{has_number, is_shown}
use Rattle.ev_model.specs.Connections.{is_chain_shown, next_listener, listener_after, is_moving, is_closing, shows_chain, left_open, moved_on}
use Rattle.std.specs.Option.{IfSome}
use Rattle.std.specs.List.{Contains, find, list_any}
use Rattle.std.proofs.lemmas.Option.{IfSome_then}
use Rattle.ev_model.specs.Dead.{is_open_on, is_forwarded_to}
use Rattle.ev_model_laws.proofs.AnyLemmas.{or_so, any_left, any_mapped, any_unless}
use Rattle.ev_model_laws.proofs.TidyLists.{found_in}
use Rattle.ev_model_laws.proofs.ChoiceLemmas.{listener_shown}

-- a connection once those of this worker have moved
abbrev pub moved_member : Shown → ℕ → OpenMember → OpenMember
moved_member shown worker m = cond (m.worker == worker) (record m { listener = listener_after shown m }) m

-- what a connection is on once it has moved, it was on before, or a listener that is shown is that
next_on : (shown : Shown) (number own : ℕ) (cluster : Option ℕ) (next : Option ServedListener)
    → IfSome next (λ l. is_shown l.number shown ≡ true)
    → ((unwrap_or (option_map (λ (l : ServedListener). l.number) next) own == number) || is_forwarded_to number cluster) ≡ true
    → (((own == number) || is_forwarded_to number cluster) || is_shown number shown) ≡ true
next_on shown number own cluster None known h = or_left ((own == number) || is_forwarded_to number cluster) (is_shown number shown) h
next_on shown number own cluster (Some l) known h =
    or_so (l.number == number) (is_forwarded_to number cluster)
    (λ same. or_right ((own == number) || is_forwarded_to number cluster) (is_shown number shown)
    (subst (λ n. is_shown n shown ≡ true) ((numbers_decide l.number number).0 same) known))
    (λ forwarded. or_left ((own == number) || is_forwarded_to number cluster) (is_shown number shown)
    (or_right (own == number) (is_forwarded_to number cluster) forwarded)) h

-- the listener that a connection moves to is shown
pub next_shown : (shown : Shown) (m : OpenMember) → IfSome (next_listener shown m) (λ l. Contains shown.listeners l × (shows_chain m.origin l ≡ true))
next_shown shown m =
    cond_both (is_shown m.listener shown) None (find (shows_chain m.origin) shown.listeners)
    (λ (o : Option ServedListener). IfSome o (λ l. Contains shown.listeners l × (shows_chain m.origin l ≡ true)))
    (λ own. tt) (λ other. found_in (shows_chain m.origin) shown.listeners)

moved_by : (shown : Shown) (number : ℕ) (m : OpenMember) (mine : Bool)
    → is_open_on number (cond mine (record m { listener = listener_after shown m }) m) ≡ true → (is_open_on number m || is_shown number shown) ≡ true
moved_by shown number m true h =
    next_on shown number m.listener m.cluster (next_listener shown m)
    (IfSome_then (next_listener shown m) (next_shown shown m) (λ (l : ServedListener) there. listener_shown shown l there.0)) h
moved_by shown number m false h = or_left (is_open_on number m) (is_shown number shown) h

-- what connections are on once they have moved, they were on before, or it is shown
pub moved_on_shown : (shown : Shown) (expired : List ℕ) (worker number : ℕ) (opened : List OpenMember)
    → list_any (is_open_on number) (moved_on shown worker (left_open shown expired worker opened)) ≡ true
    → (list_any (is_open_on number) opened || is_shown number shown) ≡ true
moved_on_shown shown expired worker number opened h =
    let left : List OpenMember = left_open shown expired worker opened in
    or_so (list_any (is_open_on number) left) (is_shown number shown)
    (λ on. or_left (list_any (is_open_on number) opened) (is_shown number shown)
    (any_left (is_open_on number) (λ (m : OpenMember). not (is_closing shown expired worker m)) opened on))
    (λ seen. or_right (list_any (is_open_on number) opened) (is_shown number shown) seen)
    (any_unless (λ (m : OpenMember). is_open_on number (moved_member shown worker m)) (is_open_on number) (is_shown number shown) left
    (λ (m : OpenMember). moved_by shown number m (m.worker == worker))
    (sym (any_mapped (is_open_on number) (moved_member shown worker) left) ∙ h))

-- what closes or moves is the worker's
pub closing_worker : (shown : Shown) (expired : List ℕ) (worker : ℕ) (m : OpenMember) → is_closing shown expired worker m ≡ true → m.worker ≡ worker
closing_worker shown expired worker m h =
    (numbers_decide m.worker worker).0
    (first_so (m.worker == worker) (has_number m.listener expired)
    (first_so ((m.worker == worker) && has_number m.listener expired) (not (is_chain_shown m.origin shown)) h))

pub moving_worker : (shown : Shown) (worker : ℕ) (m : OpenMember) → is_moving shown worker m ≡ true → m.worker ≡ worker
moving_worker shown worker m h = (numbers_decide m.worker worker).0 (first_so (m.worker == worker) (is_some (next_listener shown m)) h)

same_listener : (own : ℕ) (next : Option ServedListener) → is_some next ≡ false
    → unwrap_or (option_map (λ (l : ServedListener). l.number) next) own ≡ own
same_listener own None none = refl
same_listener own (Some l) none = absurd (false≢true (sym none))

unmoved_by : (shown : Shown) (m : OpenMember) (mine : Bool) → (mine && is_some (next_listener shown m)) ≡ false
    → cond mine (record m { listener = listener_after shown m }) m ≡ m
unmoved_by shown m true isnt = ap (λ listener. record m { listener = listener }) (same_listener m.listener (next_listener shown m) isnt)
unmoved_by shown m false isnt = refl

-- what doesn't move stays as it is
pub unmoved_same : (shown : Shown) (worker : ℕ) (m : OpenMember) → is_moving shown worker m ≡ false → moved_member shown worker m ≡ m
unmoved_same shown worker m isnt = unmoved_by shown m (m.worker == worker) isnt
