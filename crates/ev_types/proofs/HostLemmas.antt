-- Hosts that are in rows, each once, and the places of their first rows.
use Rattle.std.proofs.Common.{◌≡◌, ◌∙◌, refl, sym, ap, ℕ, zero, suc, ◌<◌, ◌≤◌, ◌+◌, Bool, true, false, cond, ◌||◌, List, [], ◌∷◌, ◌++◌, Option, None, Some, is_some, option_map, length, take, get_or, subst}
use native.Mathlib.Omega.{arith}
use Rattle.std.specs.List.{IsDistinct}
use Rattle.std.specs.Map.{keys_of}
use Rattle.std.specs.Option.{option_or}
use Rattle.std.specs.Cmp.{decided}
use Rattle.std.proofs.lemmas.List.{take_more}
use Rattle.std.proofs.lemmas.Map.Entries.{length-keys_of}
use Rattle.std.proofs.lemmas.Map.Made.{length-le_from_is_member, is_some-lookup}
use Rattle.ev_types.specs.Hosts.{HostRowParts}
use Rattle.ev_types.specs.SameHosts.{host_same, host_decides, has_host, place_of, ArePlacesIn, NeedsHosts}
use Rattle.ev_types.specs.declared.hosts.Host.{Host}

-- a host has a place where it is among the rows
pub place_tells : (host : Host) (rows : List HostRowParts) → is_some (place_of host rows) ≡ has_host host rows
place_tells host [] = refl
place_tells host (row ∷ rows) = by (host_same row.host host) (place_of host rows) (place_tells host rows)
  where
    by : (b : Bool) (o : Option ℕ) → is_some o ≡ has_host host rows → is_some (cond b (Some 0) (option_map suc o)) ≡ (b || has_host host rows)
    by true o e = refl
    by false None e = e
    by false (Some place) e = e

-- one more row at the end
pub place_of-append : (host : Host) (rows : List HostRowParts) (row : HostRowParts)
    → place_of host (rows ++ row ∷ []) ≡ option_or (place_of host rows) (cond (host_same row.host host) (Some (length rows)) None)
place_of-append host [] row = refl
place_of-append host (first ∷ rows) row = by (host_same first.host host) (host_same row.host host) (place_of host rows) (place_of-append host rows row)
  where
    by : (a b : Bool) (o : Option ℕ) {p : Option ℕ} → p ≡ option_or o (cond b (Some (length rows)) None)
        → cond a (Some 0) (option_map suc p)
        ≡ option_or (cond a (Some 0) (option_map suc o)) (cond b (Some (suc (length rows))) None)
    by true b o e = refl
    by false b (Some place) e = ap (option_map suc) e
    by false true None e = ap (option_map suc) e
    by false false None e = ap (option_map suc) e

-- one more of the rows
pub place_of-more : (host : Host) (rows : List HostRowParts) (i : ℕ) (d : HostRowParts) → i < length rows
    → place_of host (take (i + 1) rows) ≡ option_or (place_of host (take i rows)) (cond (host_same (get_or rows i d).host host) (Some i) None)
place_of-more host rows i d within =
    ap (place_of host) (take_more rows i d within)
    ∙ place_of-append host (take i rows) (get_or rows i d)
    ∙ (λ j. option_or (place_of host (take i rows)) (cond (host_same (get_or rows i d).host host) (Some (length-take i rows within j)) None))
  where
    length-take : (i : ℕ) (rows : List HostRowParts) → i < length rows → length (take i rows) ≡ i
    length-take zero rows h = refl
    length-take (suc i) [] h = absurd (omega (arith, h))
    length-take (suc i) (row ∷ rows) h = ap suc (length-take i rows (omega (arith, h)))

-- where some of the rows tell, the others don't matter
pub place_of-take : (host : Host) (rows : List HostRowParts) (i place : ℕ) → place_of host (take i rows) ≡ Some place → place_of host rows ≡ Some place
place_of-take host rows zero place e = cc
place_of-take host [] (suc i) place e = cc
place_of-take host (row ∷ rows) (suc i) place e = by (host_same row.host host) (place_of host (take i rows)) (λ p. place_of-take host rows i p) e
  where
    by : (b : Bool) (o : Option ℕ) → ((p : ℕ) → o ≡ Some p → place_of host rows ≡ Some p) → cond b (Some 0) (option_map suc o) ≡ Some place
        → cond b (Some 0) (option_map suc (place_of host rows)) ≡ Some place
    by true o more h = h
    by false None more h = cc
    by false (Some p) more h = ap (option_map suc) (more p refl) ∙ h

-- a list that has all hosts of the rows has as many at least
pub needs_hosts : (rows : List HostRowParts) (own : List (Host × ℕ)) → ArePlacesIn rows own → IsDistinct host_same (keys_of own) → NeedsHosts rows (length own)
needs_hosts rows own same distinct hosts all =
    subst (λ n. n ≤ length hosts) (length-keys_of own)
    (length-le_from_is_member (decided host_same host_decides) (keys_of own) hosts distinct
    (λ host among. all host (sym (place_tells host rows) ∙ ap is_some (sym (same host)) ∙ is_some-lookup (host_same host) own ∙ among)))
