-- A round with fewer results than hosts isn't done.
use native.Mathlib.Omega.{arith}
use Rattle.std.proofs.Common.{◌≡◌, ◌∙◌, ℕ, ◌<◌, ◌≤◌, Bool, true, false, ◌&&◌, ◌||◌, true≢false, List, [], ◌∷◌, length, refl, sym, ap, subst}
use Rattle.std.specs.Prelude.{is_some}
use Rattle.std.specs.List.{list_all}
use Rattle.std.specs.Map.{keys_of}
use Rattle.std.proofs.lemmas.Map.Entries.{length-keys_of}
use Rattle.std.proofs.lemmas.Map.Made.{is_some-lookup}
use Rattle.ev_types.specs.SameHosts.{host_same, host_decides, has_host, NeedsHosts}
use Rattle.ev_types.specs.Hosts.{HostRowParts}
use Rattle.ev_types.specs.declared.hosts.Host.{Host}
use Rattle.ev_indexes.specs.Results.{HostResults, hosts_among, result_among}

-- where the test holds of all rows' hosts, it holds of a host that is among them
holds : (test : Host → Bool) (host : Host) (rows : List HostRowParts) → list_all (λ (row : HostRowParts). test row.host) rows ≡ true → has_host host rows ≡ true → test host ≡ true
holds test host [] all among = absurd (true≢false (sym among))
holds test host (row ∷ rows) all among = by (host_same row.host host) refl (test row.host) refl (holds test host rows) all among
  where
    others : Bool
    others = list_all (λ (r : HostRowParts). test r.host) rows

    by : (same : Bool) → host_same row.host host ≡ same → (here : Bool) → test row.host ≡ here
        → (others ≡ true → has_host host rows ≡ true → test host ≡ true)
        → (here && others) ≡ true → (same || has_host host rows) ≡ true → test host ≡ true
    by true same true here more all among = ap test (sym ((host_decides row.host host).0 same)) ∙ here
    by false other true here more all among = more all among
    by same is false here more all among = absurd (true≢false (sym all))

-- with fewer results than hosts some row's host has none
pub round_open : (kept : HostResults) (number : ℕ) (rows : List HostRowParts) (count : ℕ) → NeedsHosts rows count → length (hosts_among kept number) < count
    → list_all (λ (row : HostRowParts). is_some (result_among kept number row.host)) rows ≡ false
round_open kept number rows count needs fewer = by (list_all (λ (row : HostRowParts). is_some (result_among kept number row.host)) rows) refl
  where
    results : List (Host × Bool)
    results = hosts_among kept number

    by : (b : Bool) → list_all (λ (row : HostRowParts). is_some (result_among kept number row.host)) rows ≡ b → b ≡ false
    by false undone = refl
    by true done =
        let many : count ≤ length (keys_of results) =
        needs (keys_of results) (λ host among. sym (is_some-lookup (host_same host) results) ∙ holds (λ h. is_some (result_among kept number h)) host rows done among) in
        let enough : count ≤ length results = subst (λ n. count ≤ n) (length-keys_of results) many in
        absurd (omega (arith, fewer, enough))
