-- Look-ups of results in maps of maps, and what each change of a map does to them.
use native.Mathlib.Omega.{arith}
use Rattle.std.proofs.Common.{◌≡◌, ◌≢◌, ◌∙◌, ℕ, Bool, true, false, cond, Result, Ok, Err, not, ◌&&◌, ◌||◌, nat_eq, List, [], ◌∷◌, Option, None, Some, option_map, unwrap_or, refl, take, get_or, length, ◌<◌, ◌+◌, sym, ap}
use Rattle.std.specs.HashMap.{HashMap}
use Rattle.std.specs.Result.{OnOk, OnErr}
use Rattle.std.specs.Map.{lookup, set_value}
use Rattle.std.proofs.lemmas.Bool.{eqb-true}
use Rattle.std.proofs.lemmas.Option.{none-some}
use Rattle.std.proofs.lemmas.List.Folds.{list_any-append}
use Rattle.std.proofs.lemmas.List.{take_more}
use Rattle.ev_types.specs.SameHosts.{host_same, has_host}
use Rattle.ev_types.specs.Hosts.{HostRowParts}
use Rattle.ev_types.specs.declared.hosts.Host.{Host}
use Rattle.ev_indexes.specs.Results.{HostResults, HasNoEmpty, results_of, hosts_among, result_among, NotesAmong, TrimsAmong}

module _ {S : Type 0} where
  -- the result of a host in a map that may be there
  abbrev pub inner : Option (HashMap Host Bool S) → Host → Option Bool
  inner None host = None
  inner (Some m) host = lookup (host_same host) m.entries

  lookup-results_of : (test : ℕ → Bool) (es : List (ℕ × HashMap Host Bool S)) → lookup test (results_of es) ≡ option_map (λ (m : HashMap Host Bool S). m.entries) (lookup test es)
  lookup-results_of test [] = refl
  lookup-results_of test (e ∷ es) = by (test e.0) (lookup test es) (lookup-results_of test es)
    where
      by : (b : Bool) (o : Option (HashMap Host Bool S)) {r : Option (List (Host × Bool))} → r ≡ option_map (λ (m : HashMap Host Bool S). m.entries) o
          → cond b (Some e.1.entries) r ≡ option_map (λ (m : HashMap Host Bool S). m.entries) (cond b (Some e.1) o)
      by true o h = refl
      by false o h = h

  -- a look-up goes by the map of the number
  pub result_among-results_of : (es : List (ℕ × HashMap Host Bool S)) (n : ℕ) (h : Host) → result_among (results_of es) n h ≡ inner (lookup (nat_eq n) es) h
  result_among-results_of es n h =
      ap (λ o. lookup (host_same h) (unwrap_or o [])) (lookup-results_of (nat_eq n) es) ∙ by (lookup (nat_eq n) es)
    where
      by : (o : Option (HashMap Host Bool S)) → lookup (host_same h) (unwrap_or (option_map (λ (m : HashMap Host Bool S). m.entries) o) []) ≡ inner o h
      by None = refl
      by (Some m) = refl

  -- so do the hosts of a number with their results
  pub hosts_found : (es : List (ℕ × HashMap Host Bool S)) (n : ℕ) (o : Option (HashMap Host Bool S)) → lookup (nat_eq n) es ≡ o
      → hosts_among (results_of es) n ≡ unwrap_or (option_map (λ (m : HashMap Host Bool S). m.entries) o) []
  hosts_found es n o e = ap (λ r. unwrap_or r []) (lookup-results_of (nat_eq n) es ∙ ap (option_map (λ (m : HashMap Host Bool S). m.entries)) e)

  -- another map for one number
  module _ (es fs : List (ℕ × HashMap Host Bool S)) (number : ℕ) (u : Option (HashMap Host Bool S))
      (updates : (n : ℕ) → lookup (nat_eq n) fs ≡ cond (nat_eq number n) u (lookup (nat_eq n) es)) where
    pub changed : (n : ℕ) (h : Host) → result_among (results_of fs) n h ≡ cond (nat_eq number n) (inner u h) (result_among (results_of es) n h)
    changed n h =
        result_among-results_of fs n h ∙ (λ i. inner (updates n i) h) ∙ by (nat_eq number n) (result_among-results_of es n h)
      where
        by : (b : Bool) → result_among (results_of es) n h ≡ inner (lookup (nat_eq n) es) h
            → inner (cond b u (lookup (nat_eq n) es)) h ≡ cond b (inner u h) (result_among (results_of es) n h)
        by true e = refl
        by false e = sym e

    -- an entry that goes, or has a result, leaves none without one
    pub still_no_empty : ((m : HashMap Host Bool S) → u ≡ Some m → m.entries ≢ []) → HasNoEmpty (results_of es) → HasNoEmpty (results_of fs)
    still_no_empty some kept n at =
        by (nat_eq number n) u refl (sym (lookup-results_of (nat_eq n) fs ∙ ap (option_map (λ (m : HashMap Host Bool S). m.entries)) (updates n)) ∙ at)
      where
        by : (b : Bool) (o : Option (HashMap Host Bool S)) → u ≡ o → option_map (λ (m : HashMap Host Bool S). m.entries) (cond b o (lookup (nat_eq n) es)) ≡ Some [] → ⊥
        by true None is h = none-some [] h
        by true (Some m) is h =
            let own : m.entries ≡ [] = cc in
            some m is own
        by false o is h = kept n (lookup-results_of (nat_eq n) es ∙ h)

    -- what the new map says of the number, by what the old one said
    pub changed_by : (f : Host → Option Bool → Option Bool) → ((h : Host) → inner u h ≡ f h (result_among (results_of es) number h))
        → (n : ℕ) (h : Host) → result_among (results_of fs) n h ≡ cond (nat_eq number n) (f h (result_among (results_of es) n h)) (result_among (results_of es) n h)
    changed_by f says n h = changed n h ∙ by (nat_eq number n) refl
      where
        by : (b : Bool) → nat_eq number n ≡ b → cond b (inner u h) (result_among (results_of es) n h) ≡ cond b (f h (result_among (results_of es) n h)) (result_among (results_of es) n h)
        by true same = says h ∙ (λ i. f h (result_among (results_of es) (eqb-true number n same i) h))
        by false other = refl

    pub notes_by : (host : Host) (healthy : Bool) → ((h : Host) → inner u h ≡ cond (host_same host h) (Some healthy) (result_among (results_of es) number h))
        → NotesAmong (results_of es) (results_of fs) number host healthy
    notes_by host healthy says n h = changed_by (λ h r. cond (host_same host h) (Some healthy) r) says n h ∙ by (nat_eq number n)
      where
        by : (b : Bool) → cond b (cond (host_same host h) (Some healthy) (result_among (results_of es) n h)) (result_among (results_of es) n h)
            ≡ cond (b && host_same host h) (Some healthy) (result_among (results_of es) n h)
        by true = refl
        by false = refl

    pub trims_by : (rows : List HostRowParts) → ((h : Host) → inner u h ≡ cond (not (has_host h rows)) None (result_among (results_of es) number h))
        → TrimsAmong (results_of es) (results_of fs) number rows
    trims_by rows says n h = changed_by (λ h r. cond (not (has_host h rows)) None r) says n h ∙ by (nat_eq number n)
      where
        by : (b : Bool) → cond b (cond (not (has_host h rows)) None (result_among (results_of es) n h)) (result_among (results_of es) n h)
            ≡ cond (b && not (has_host h rows)) None (result_among (results_of es) n h)
        by true = refl
        by false = refl

  -- the map of a number was found
  pub found : (es : List (ℕ × HashMap Host Bool S)) (number : ℕ) (o : Option (HashMap Host Bool S)) → lookup (nat_eq number) es ≡ o → (h : Host)
      → result_among (results_of es) number h ≡ inner o h
  found es number o e h = result_among-results_of es number h ∙ (λ i. inner (e i) h)

  -- a map with the same entries in place of one changes nothing
  pub results_of-set_value : (test : ℕ → Bool) (es : List (ℕ × HashMap Host Bool S)) (m w : HashMap Host Bool S) → lookup test es ≡ Some m → w.entries ≡ m.entries
      → results_of (set_value test es w) ≡ results_of es
  results_of-set_value test [] m w at same = refl
  results_of-set_value test (e ∷ es) m w at same = by (test e.0) at (results_of-set_value test es m w)
    where
      by : (b : Bool) → cond b (Some e.1) (lookup test es) ≡ Some m → (lookup test es ≡ Some m → w.entries ≡ m.entries → results_of (set_value test es w) ≡ results_of es)
          → results_of (cond b ((e.0, w) ∷ es) (e ∷ set_value test es w)) ≡ results_of (e ∷ es)
      by true here rest =
          let own : e.1 ≡ m = cc in
          λ i. (e.0, (same ∙ (λ j. (sym own j).entries)) i) ∷ results_of es
      by false there rest = ap (λ (rs : HostResults). (e.0, e.1.entries) ∷ rs) (rest there same)

  -- a number without a map keeps it so
  none_updates : (es : List (ℕ × HashMap Host Bool S)) (number : ℕ) → lookup (nat_eq number) es ≡ None
      → (n : ℕ) → lookup (nat_eq n) es ≡ cond (nat_eq number n) None (lookup (nat_eq n) es)
  none_updates es number none n = by (nat_eq number n) refl
    where
      by : (b : Bool) → nat_eq number n ≡ b → lookup (nat_eq n) es ≡ cond b None (lookup (nat_eq n) es)
      by true same = (λ i. lookup (nat_eq (sym (eqb-true number n same) i)) es) ∙ none
      by false other = refl

  -- a number without results has none to trim
  pub trims_nothing : (es : List (ℕ × HashMap Host Bool S)) (number : ℕ) (rows : List HostRowParts) → lookup (nat_eq number) es ≡ None
      → TrimsAmong (results_of es) (results_of es) number rows
  trims_nothing es number rows none =
      trims_by es es number None (none_updates es number none) rows (λ h. by (not (has_host h rows)) (found es number None none h))
    where
      by : (b : Bool) {r : Option Bool} → r ≡ None → None ≡ cond b None r
      by true e = refl
      by false e = sym e

-- a map in which a host is found isn't empty
pub found_some : {S : Type 0} (m : HashMap Host Bool S) (host : Host) (healthy : Bool) → lookup (host_same host) m.entries ≡ Some healthy → m.entries ≢ []
found_some m host healthy at empty = none-some healthy (sym (ap (lookup (host_same host)) empty) ∙ at)

-- the same map
pub some_as : {S : Type 0} (m other : HashMap Host Bool S) → Some m ≡ Some other → m.entries ≢ [] → other.entries ≢ []
some_as m other is some empty =
    let own : m ≡ other = cc in
    some ((λ i. (own i).entries) ∙ empty)

-- a map without entries has no result
pub none_found : {S : Type 0} (m : HashMap Host Bool S) (host : Host) → length m.entries ≡ 0 → None ≡ lookup (host_same host) m.entries
none_found m host none = by m.entries none
  where
    by : (es : List (Host × Bool)) → length es ≡ 0 → None ≡ lookup (host_same host) es
    by [] h = refl
    by (e ∷ es) h = absurd (omega (arith, h))

-- one more row of hosts, whose result is kept
pub standing_kept : (has here : Bool) (old kept : Option Bool) (healthy : Bool) → kept ≡ cond has old None → (here ≡ true → old ≡ Some healthy)
    → cond here (Some healthy) kept ≡ cond (has || here) old None
standing_kept true true old kept healthy k f = sym (f refl)
standing_kept true false old kept healthy k f = k
standing_kept false true old kept healthy k f = sym (f refl)
standing_kept false false old kept healthy k f = k

-- or that has none
pub standing_skipped : (has here : Bool) (old kept : Option Bool) → kept ≡ cond has old None → (here ≡ true → old ≡ None) → kept ≡ cond (has || here) old None
standing_skipped true true old kept k f = k
standing_skipped true false old kept k f = k
standing_skipped false true old kept k f = k ∙ sym (f refl)
standing_skipped false false old kept k f = k

-- the hosts among one more row
pub has_host-more : (h : Host) (rows : List HostRowParts) (i : ℕ) (d : HostRowParts) → i < length rows
    → has_host h (take (i + 1) rows) ≡ (has_host h (take i rows) || host_same (get_or rows i d).host h)
has_host-more h rows i d within =
    ap (has_host h) (take_more rows i d within)
    ∙ list_any-append (λ (r : HostRowParts). host_same r.host h) (take i rows) (get_or rows i d ∷ [])
    ∙ by (has_host h (take i rows)) (host_same (get_or rows i d).host h)
  where
    by : (a b : Bool) → (a || (b || false)) ≡ (a || b)
    by true b = refl
    by false true = refl
    by false false = refl

-- what follows from what is so of a value and of an error
pub either_way : {V E P Q R : Type 0} (r : Result V E) → OnOk r P → OnErr r Q → (P → R) → (Q → R) → R
either_way (Ok v) p q f g = f p
either_way (Err e) p q f g = g q
