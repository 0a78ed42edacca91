-- What a closing connection is open on is asked about.
use Rattle.std.proofs.Common.{◌≡◌, ℕ, Bool, true, false, not, ◌&&◌, ◌||◌, ◌==◌, cond, List, [], ◌∷◌, filter, None, Some, find, refl, sym, ap, ◌∙◌}
use Rattle.std.specs.List.{list_any}
use Rattle.std.specs.Option.{option_map}
use Rattle.std.proofs.lemmas.Bool.{true≢false, false≢true, or_parts}
use Rattle.ev_model.specs.World.{OpenMember}
use Rattle.ev_model.specs.Connections.{is_member, is_open}
use Rattle.ev_model.specs.Dead.{is_forwarded_to, is_open_on}
use Rattle.ev_ledger.specs.Members.{AreApart, on_in, on_of}
use Rattle.ev_ledger.specs.declared.open_on.On.{On}
use Rattle.ev_drain.specs.Retired.{Retired, has_row}
use Rattle.ev_retirement.specs.declared.asking.Asking.{Asking}
use Rattle.ev_retirement.specs.Asking.{AreAskedOn, AsksMore, LetsGo, is_asked}
use Rattle.ev_retirement.proofs.MoreLemmas.{more_after, or_first, or_second, same_more, same_number}

and_parts : (a b : Bool) → (a && b) ≡ true → (a ≡ true) × (b ≡ true)
and_parts true b h = (refl, h)
and_parts false b h = absurd (false≢true h)

-- where more is asked about
pub more_on : (before after : Asking) (test : OpenMember → Bool) (drain : List Retired) (opened : List OpenMember) → AsksMore before after
    → AreAskedOn test before drain opened → AreAskedOn test after drain opened
more_on before after test drain [] more all = tt
more_on before after test drain (m ∷ opened) more all = (
  λ passes number on there. more.asked number (all.0 passes number on there),
  more_on before after test drain opened more all.1,
)

-- a connection of a worker and number
module _ (worker connection : ℕ) (asking : Asking) (drain : List Retired) where
  none_on : (opened : List OpenMember) → is_open opened worker connection ≡ false → AreAskedOn (is_member worker connection) asking drain opened
  none_on [] none = tt
  none_on (m ∷ opened) none =
      let parts = or_parts (is_member worker connection m) (is_open opened worker connection) none in
      (λ own. absurd (true≢false (sym own ∙ parts.0)), none_on opened parts.1)

  none_there : (opened : List OpenMember) → on_in worker connection opened ≡ None → is_open opened worker connection ≡ false
  none_there [] none = refl
  none_there (m ∷ opened) none = by (is_member worker connection m) none (none_there opened)
    where
      by : (t : Bool) → option_map on_of (cond t (Some m) (find (is_member worker connection) opened)) ≡ None
          → (on_in worker connection opened ≡ None → is_open opened worker connection ≡ false) → (t || is_open opened worker connection) ≡ false
      by true none rest = absurd (cc none)
      by false none rest = rest none

  pub asked_none : (opened : List OpenMember) → on_in worker connection opened ≡ None → AreAskedOn (is_member worker connection) asking drain opened
  asked_none opened none = none_on opened (none_there opened none)

  pub asked_found : (opened : List OpenMember) (on : On) → AreApart opened → on_in worker connection opened ≡ Some on
      → ((number : ℕ) → ((on.listener == number) || is_forwarded_to number on.cluster) ≡ true → has_row drain number ≡ true → is_asked asking number ≡ true)
      → AreAskedOn (is_member worker connection) asking drain opened
  asked_found [] on apart found asked = tt
  asked_found (m ∷ opened) on apart found asked = by (is_member worker connection m) refl found (λ later. asked_found opened on apart.1 later asked)
    where
      same_on : Some (on_of m) ≡ Some on → on_of m ≡ on
      same_on same = cc same

      by : (t : Bool) → is_member worker connection m ≡ t → option_map on_of (cond t (Some m) (find (is_member worker connection) opened)) ≡ Some on
          → (on_in worker connection opened ≡ Some on → AreAskedOn (is_member worker connection) asking drain opened) → AreAskedOn (is_member worker connection) asking drain (m ∷ opened)
      by true is found rest =
          let parts = and_parts (m.worker == worker) (m.connection == connection) is in (
            λ own number open_on there. asked number (sym (ap (λ (o : On). (o.listener == number) || is_forwarded_to number o.cluster) (same_on found)) ∙ open_on) there,
            none_on opened
                (ap (is_open opened worker) (sym (same_number m.connection connection parts.1))
                ∙ ap (λ w. is_open opened w m.connection) (sym (same_number m.worker worker parts.0)) ∙ apart.0),
          )
      by false is found rest = (λ own. absurd (true≢false (sym own ∙ is)), rest found)

-- connections that close: what they were open on is asked about, and the others stay
more_left : (a b c : Bool) → (a || c) ≡ true → (a || (b || c)) ≡ true
more_left true b c h = refl
more_left false b c h = or_second b c h

asked_left : (gone : OpenMember → Bool) (drain : List Retired) (asking : Asking) (number : ℕ) → has_row drain number ≡ true
    → (opened : List OpenMember) → AreAskedOn gone asking drain opened → list_any (is_open_on number) opened ≡ true
    → (is_asked asking number || list_any (is_open_on number) (filter (λ m. not (gone m)) opened)) ≡ true
asked_left gone drain asking number there [] all on = absurd (false≢true on)
asked_left gone drain asking number there (m ∷ opened) all on =
    by (gone m) refl (is_open_on number m) refl on (asked_left gone drain asking number there opened all.1)
  where
    by : (g : Bool) → gone m ≡ g → (h : Bool) → is_open_on number m ≡ h → (h || list_any (is_open_on number) opened) ≡ true
        → (list_any (is_open_on number) opened ≡ true → (is_asked asking number || list_any (is_open_on number) (filter (λ x. not (gone x)) opened)) ≡ true)
        → (is_asked asking number || list_any (is_open_on number) (cond (not g) (m ∷ filter (λ x. not (gone x)) opened) (filter (λ x. not (gone x)) opened))) ≡ true
    by true is true here on rest = or_first (is_asked asking number) (list_any (is_open_on number) (filter (λ x. not (gone x)) opened)) (all.0 is number here there)
    by true is false here on rest = rest on
    by false is true here on rest =
        or_second (is_asked asking number) (is_open_on number m || list_any (is_open_on number) (filter (λ x. not (gone x)) opened))
        (or_first (is_open_on number m) (list_any (is_open_on number) (filter (λ x. not (gone x)) opened)) here)
    by false is false here on rest =
        more_left (is_asked asking number) (is_open_on number m) (list_any (is_open_on number) (filter (λ x. not (gone x)) opened)) (rest on)

pub asked_go : (gone : OpenMember → Bool) (drain : List Retired) (before after : Asking) (opened : List OpenMember) → AsksMore before after → AreAskedOn gone after drain opened
    → LetsGo drain before after opened (filter (λ m. not (gone m)) opened)
asked_go gone drain before after opened more all = record {
  more = more;
  held = λ number there on. asked_left gone drain after number there opened all on;
}

-- nothing is let go, or more and more, or something opens then
pub same_go : (drain : List Retired) (asking : Asking) (opened : List OpenMember) → LetsGo drain asking asking opened opened
same_go drain asking opened = record {
  more = same_more asking;
  held = λ number there on. or_second (is_asked asking number) (list_any (is_open_on number) opened) on;
}

pub go_after : (drain : List Retired) (first second third : Asking) (opened between left : List OpenMember) → LetsGo drain first second opened between
    → LetsGo drain second third between left → LetsGo drain first third opened left
go_after drain first second third opened between left go again = record {
  more = more_after first second third go.more again.more;
  held = λ number there on. by number there (is_asked second number) refl (go.held number there on);
}
  where
    by : (number : ℕ) → has_row drain number ≡ true → (t : Bool) → is_asked second number ≡ t → (t || list_any (is_open_on number) between) ≡ true
        → (is_asked third number || list_any (is_open_on number) left) ≡ true
    by number there true is h = or_first (is_asked third number) (list_any (is_open_on number) left) (again.more.asked number is)
    by number there false is h = again.held number there h

pub kept_go : (drain : List Retired) (asking : Asking) (opened left : List OpenMember)
    → ((number : ℕ) → list_any (is_open_on number) opened ≡ true → list_any (is_open_on number) left ≡ true) → LetsGo drain asking asking opened left
kept_go drain asking opened left kept = record {
  more = same_more asking;
  held = λ number there on. or_second (is_asked asking number) (list_any (is_open_on number) left) (kept number on);
}
