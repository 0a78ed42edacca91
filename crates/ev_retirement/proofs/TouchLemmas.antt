-- A publication: each connection that moves by the next picture is on what goes, or its chain comes,
-- or it moved by the last.
use Rattle.std.proofs.Common.{◌≡◌, ℕ, Bool, true, false, ◌&&◌, ◌||◌, ◌==◌, cond, List, [], ◌∷◌, find, Option, None, Some, refl, sym, ap, ◌∙◌, arith}
use Rattle.std.specs.List.{list_any, AllByRecursion}
use Rattle.std.specs.Option.{is_some}
use Rattle.std.proofs.lemmas.Bool.{false≢true}
use Rattle.std.proofs.lemmas.Bool.Decides.{nat_tests}
use Rattle.ev_types.specs.declared.origins.Origin.{Origin}
use Rattle.ev_model.specs.World.{OpenMember}
use Rattle.ev_model.specs.Picture.{is_shown}
use Rattle.ev_model.specs.Connections.{chains_shown, is_chain_shown, is_member, shares_origin, shows_chain}
use Rattle.ev_model.specs.declared.pictures.ServedChain.{ServedChain}
use Rattle.ev_model.specs.declared.pictures.Shown.{Shown}
use Rattle.ev_snapshot.specs.Touched.{AreBegun, AreGone}
use Rattle.ev_ledger.specs.Members.{is_begun_at, is_open_at, is_open_from}
use Rattle.ev_drain.specs.Retired.{Retired, is_expired}
use Rattle.ev_retirement.specs.declared.closing.Closing.{Closing}
use Rattle.ev_retirement.specs.Closing.{AreFound, AreFoundFromEach, AreFoundOnEach, FindsMore, is_due, is_found, moves}
use Rattle.ev_retirement.proofs.AskLemmas.{all_so, all_two}
use Rattle.ev_retirement.proofs.FoundLemmas.{own_open}
use Rattle.ev_retirement.proofs.MoreLemmas.{or_first, or_second}

-- a search finds something exactly where something passes
found_any : {X : Type 0} (p : X → Bool) (xs : List X) → is_some (find p xs) ≡ list_any p xs
found_any p [] = refl
found_any p (x ∷ xs) = by (p x) (found_any p xs)
  where
    by : (b : Bool) → is_some (find p xs) ≡ list_any p xs → is_some (cond b (Some x) (find p xs)) ≡ (b || list_any p xs)
    by true rest = refl
    by false rest = rest

none_any : {X : Type 0} (p : X → Bool) → ((x : X) → p x ≡ false) → (xs : List X) → list_any p xs ≡ false
none_any p none [] = refl
none_any p none (x ∷ xs) = ap (λ b. b || list_any p xs) (none x) ∙ none_any p none xs

-- nothing has a chain that isn't known
none_shown : (shown : Shown) → is_chain_shown None shown ≡ false
none_shown shown = none_any (shows_chain None) (λ l. none_any (λ (c : ServedChain). shares_origin None c.origin) (λ c. refl) (chains_shown l)) shown.listeners

-- a connection moves where its listener isn't shown and its chain is
moves_by : (shown : Shown) (m : OpenMember) → is_shown m.listener shown ≡ false → moves shown m ≡ is_chain_shown m.origin shown
moves_by shown m hidden =
    ap (λ t. is_some (cond t None (find (shows_chain m.origin) shown.listeners))) hidden ∙ found_any (shows_chain m.origin) shown.listeners

stays_on : (shown : Shown) (m : OpenMember) → is_shown m.listener shown ≡ true → moves shown m ≡ false
stays_on shown m there = ap (λ t. is_some (cond t None (find (shows_chain m.origin) shown.listeners))) there

-- a connection's own chain began where it began
own_from : (members : List OpenMember)
    → AllByRecursion (λ (m : OpenMember). (o : Origin) → m.origin ≡ Some o → is_open_from o.listener m.worker m.connection members ≡ true) members
own_from [] = tt
own_from (m ∷ members) = (
  λ o is.
      or_first (is_member m.worker m.connection m && is_begun_at o.listener m.origin) (is_open_from o.listener m.worker m.connection members)
      (ap (λ g. is_member m.worker m.connection m && is_begun_at o.listener g) is ∙ own m.worker m.connection o.listener),
  all_so (λ (x : OpenMember). (o : Origin) → x.origin ≡ Some o → is_open_from o.listener x.worker x.connection members ≡ true)
      (λ (x : OpenMember). (o : Origin) → x.origin ≡ Some o → is_open_from o.listener x.worker x.connection (m ∷ members) ≡ true)
      (λ x h o is. or_second (is_member x.worker x.connection m && is_begun_at o.listener m.origin) (is_open_from o.listener x.worker x.connection members) (h o is))
      members (own_from members),
)
  where
    own : (a b d : ℕ) → (((a == a) && (b == b)) && (d == d)) ≡ true
    own a b d = grind (arith, nat_tests)

module _ (before after : Closing) (drain : List Retired) (last next : Shown) (gone begun : List ℕ) (opened : List OpenMember) (more : FindsMore before after)
    (goes : AreGone gone last next) (comes : AreBegun begun last next) (on : AreFoundOnEach after opened gone) (from : AreFoundFromEach after opened begun) where
  abbrev Own : OpenMember → Type 0
  Own m = (is_open_at m.listener m.worker m.connection opened ≡ true) × ((o : Origin) → m.origin ≡ Some o → is_open_from o.listener m.worker m.connection opened ≡ true)

  abbrev Was : OpenMember → Type 0
  Was m = is_due drain last m ≡ true → is_found before m.worker m.connection ≡ true

  -- its chain comes
  chain_comes : (m : OpenMember) → Own m → (given : Option Origin) → m.origin ≡ given → is_chain_shown m.origin last ≡ false → is_chain_shown m.origin next ≡ true
      → is_found after m.worker m.connection ≡ true
  chain_comes m own None is hidden shown = absurd (false≢true (sym (none_shown next) ∙ ap (λ g. is_chain_shown g next) (sym is) ∙ shown))
  chain_comes m own (Some o) is hidden shown =
      from o.listener (comes o (ap (λ g. is_chain_shown g last) (sym is) ∙ hidden) (ap (λ g. is_chain_shown g next) (sym is) ∙ shown)) m.worker m.connection (own.1 o is)

  -- its listener isn't shown in either picture
  none_on : (m : OpenMember) → Own m → Was m → is_shown m.listener last ≡ false → (t : Bool) → is_chain_shown m.origin last ≡ t → is_chain_shown m.origin next ≡ true
      → is_found after m.worker m.connection ≡ true
  none_on m own was hidden true there shown =
      more.stays m.worker m.connection (was (or_second (is_expired drain m.listener) (moves last m) (moves_by last m hidden ∙ there)))
  none_on m own was hidden false there shown = chain_comes m own m.origin refl there shown

  -- its listener goes, or was gone
  listener_goes : (m : OpenMember) → Own m → Was m → is_shown m.listener next ≡ false → (t : Bool) → is_shown m.listener last ≡ t → is_chain_shown m.origin next ≡ true
      → is_found after m.worker m.connection ≡ true
  listener_goes m own was hidden true there shown = on m.listener (goes m.listener there hidden) m.worker m.connection own.0
  listener_goes m own was hidden false there shown = none_on m own was there (is_chain_shown m.origin last) refl shown

  moves_then : (m : OpenMember) → Own m → Was m → (t : Bool) → is_shown m.listener next ≡ t → moves next m ≡ true → is_found after m.worker m.connection ≡ true
  moves_then m own was true there h = absurd (false≢true (sym (stays_on next m there) ∙ h))
  moves_then m own was false there h = listener_goes m own was there (is_shown m.listener last) refl (sym (moves_by next m there) ∙ h)

  due_then : (m : OpenMember) → Own m → Was m → (t : Bool) → is_expired drain m.listener ≡ t → (t || moves next m) ≡ true → is_found after m.worker m.connection ≡ true
  due_then m own was true is h = more.stays m.worker m.connection (was (or_first (is_expired drain m.listener) (moves last m) is))
  due_then m own was false is h = moves_then m own was (is_shown m.listener next) refl h

  pub touched_found : AreFound before drain last opened → AreFound after drain next opened
  touched_found found =
      all_two Own Was (λ (m : OpenMember). is_due drain next m ≡ true → is_found after m.worker m.connection ≡ true)
      (λ m own was due. due_then m own was (is_expired drain m.listener) refl due) opened
      (all_two (λ (m : OpenMember). is_open_at m.listener m.worker m.connection opened ≡ true)
      (λ (m : OpenMember). (o : Origin) → m.origin ≡ Some o → is_open_from o.listener m.worker m.connection opened ≡ true) Own (λ m one two. (one, two)) opened (own_open opened) (own_from opened))
      found
