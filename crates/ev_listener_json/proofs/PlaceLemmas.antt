-- Places of chains under their keys, as more are put.
use Rattle.std.proofs.Common.{◌≡◌, ℕ, ◌+◌, ◌<◌, ◌≤◌, Bool, true, false, cond, ◌||◌, List, [], ◌∷◌, length, get_or, take, slice_get, nat_eq, Some, refl, sym, ap, ◌∙◌, ⊎_elim, arith, eq-or-lt_of_le}
use Rattle.std.specs.List.{list_any}
use Rattle.std.specs.Str.{bytes_eq}
use Rattle.std.proofs.lemmas.Bool.{or_left, or_right}
use Rattle.std.proofs.lemmas.List.Folds.{list_any-append, list_any_more}
use Rattle.std.proofs.lemmas.Option.{same_Some, slice_get-get_or}
use Rattle.ev_types.specs.Same.{bytes_decide, numbers_decide}
use Rattle.ev_types.specs.declared.filter_chains.FilterChainMatch.{FilterChainMatch}
use Rattle.ev_types.specs.declared.listeners.FilterChain.{FilterChain}
use Rattle.ev_listener_json.specs.declared.chain_keys.Criterion.{Criterion}
use Rattle.ev_listener_json.specs.declared.chain_keys.Criterion.TheVariants.{Port, Range, Name, Protocol, DirectSource, SourceRange, SourcePort}
use Rattle.ev_listener_json.specs.ChainKeys.{keys_by}
use Rattle.ev_listener_json.specs.ChainPlaces.{PlacesKept, places_under, stands_under, has_key, Puts, Enters, EntersMatch, HasFirst}

-- ---- one key

abbrev placed : Bool → ℕ → List ℕ
placed is place = cond is (place ∷ []) []

puts_kept : (key : List ℕ) (place : ℕ) (before after : PlacesKept) → Puts key place before after
    → (other : List ℕ) (n : ℕ) → stands_under before other n ≡ true → stands_under after other n ≡ true
puts_kept key place before after puts other n stands =
    ap (list_any (nat_eq n)) (puts other) ∙ list_any-append (nat_eq n) (places_under before other) (placed (bytes_eq key other) place)
    ∙ or_left (stands_under before other n) (list_any (nat_eq n) (placed (bytes_eq key other) place)) stands

puts_own : (key : List ℕ) (place : ℕ) (before after : PlacesKept) → Puts key place before after → stands_under after key place ≡ true
puts_own key place before after puts =
    ap (list_any (nat_eq place)) (puts key) ∙ list_any-append (nat_eq place) (places_under before key) (placed (bytes_eq key key) place)
    ∙ or_right (stands_under before key place) (list_any (nat_eq place) (placed (bytes_eq key key) place))
    (ap (λ t. list_any (nat_eq place) (placed t place)) ((bytes_decide key key).1 refl) ∙ or_left (nat_eq place place) false ((numbers_decide place place).1 refl))

-- ---- keys in order

-- one key more
pub enters_more : (keys : List (List ℕ)) (i : ℕ) (key own : List ℕ) (place : ℕ) (before between after : PlacesKept) → i < length keys → key ≡ get_or keys i key → own ≡ key
    → Enters (take i keys) place before between → Puts own place between after → Enters (take (i + 1) keys) place before after
enters_more keys i key own place before between after lt at is enters puts = record {
  kept = λ other n stands. puts_kept own place between after puts other n (enters.kept other n stands);
  entered = λ other has.
      by other (has_key (take i keys) other) refl
      (sym (list_any_more (bytes_eq other) keys i key lt ∙ ap (λ k. has_key (take i keys) other || bytes_eq other k) (sym at)) ∙ has);
}
  where
    by : (other : List ℕ) (t : Bool) → has_key (take i keys) other ≡ t → (t || bytes_eq other key) ≡ true → stands_under after other place ≡ true
    by other true first h = puts_kept own place between after puts other place (enters.entered other first)
    by other false first h =
        ap (λ k. stands_under after k place) ((bytes_decide other key).0 h ∙ sym is) ∙ puts_own own place between after puts

-- ---- a match

-- what is under a key before stays there through each step after
module _ (m : FilterChainMatch) (place : ℕ) where
  abbrev pub By : Criterion → PlacesKept → PlacesKept → Type 0
  By c before after = Enters (keys_by c m) place before after

  pub enters_match : (a b c d e f g h : PlacesKept)
      → By Port a b → By Range b c → By Name c d → By Protocol d e → By DirectSource e f → By SourceRange f g → By SourcePort g h
      → EntersMatch m place a h
  enters_match a b c d e f g h first second third fourth fifth sixth seventh = record {
    kept = λ key n stands. after_second key n (second.kept key n (first.kept key n stands));
    entered = by;
  }
    where
      after_fifth : (key : List ℕ) (n : ℕ) → stands_under f key n ≡ true → stands_under h key n ≡ true
      after_fifth key n stands = seventh.kept key n (sixth.kept key n stands)

      after_fourth : (key : List ℕ) (n : ℕ) → stands_under e key n ≡ true → stands_under h key n ≡ true
      after_fourth key n stands = after_fifth key n (fifth.kept key n stands)

      after_third : (key : List ℕ) (n : ℕ) → stands_under d key n ≡ true → stands_under h key n ≡ true
      after_third key n stands = after_fourth key n (fourth.kept key n stands)

      after_second : (key : List ℕ) (n : ℕ) → stands_under c key n ≡ true → stands_under h key n ≡ true
      after_second key n stands = after_third key n (third.kept key n stands)

      by : (criterion : Criterion) (key : List ℕ) → has_key (keys_by criterion m) key ≡ true → stands_under h key place ≡ true
      by Port key has = after_second key place (second.kept key place (first.entered key has))
      by Range key has = after_second key place (second.entered key has)
      by Name key has = after_third key place (third.entered key has)
      by Protocol key has = after_fourth key place (fourth.entered key has)
      by DirectSource key has = after_fifth key place (fifth.entered key has)
      by SourceRange key has = seventh.kept key place (sixth.entered key has)
      by SourcePort key has = seventh.entered key has

-- ---- chains in order

-- one chain more
pub has_more : (chains : List FilterChain) (n : ℕ) (chain : FilterChain) (m : FilterChainMatch) (before after : PlacesKept) → n < length chains → chain ≡ get_or chains n chain
    → m ≡ chain.criteria → EntersMatch m n before after → HasFirst n chains before → HasFirst (n + 1) chains after
has_more chains n chain m before after lt at is enters first place own within there c key has =
    let le : place ≤ n = omega (arith, within) in
    ⊎_elim here (λ earlier. enters.kept key place (first place own earlier there c key has)) (eq-or-lt_of_le le)
  where
    here : place ≡ n → stands_under after key place ≡ true
    here same =
        let same_chain : own ≡ chain = same_Some own chain (sym there ∙ ap (slice_get chains) same ∙ slice_get-get_or chains n chain lt ∙ ap Some (sym at)) in
        let match_is : own.criteria ≡ m = ap (λ (f : FilterChain). f.criteria) same_chain ∙ sym is in
        ap (stands_under after key) same ∙ enters.entered c key (ap (λ q. has_key (keys_by c q) key) (sym match_is) ∙ has)
