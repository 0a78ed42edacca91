-- As Envoy reads the lines nothing is guarded, and nothing is due.
use Rattle.std.proofs.Common.{◌≡◌, ℕ, true, List, [], ◌∷◌, ◌++◌, map, filter, filter_map, flat_map, refl, ap}
use Rattle.std.specs.List.{enumerate_from}
use Rattle.std.proofs.lemmas.Bool.{false≢true}
use Rattle.serde_json.specs.Data.{Data}
use Rattle.ev_types.specs.declared.events.Profile.{Profile}
use Rattle.ev_types.specs.declared.events.Profile.TheVariants.{Own, Envoy}
use Rattle.ev_types.specs.Profiles.{is_envoy}
use Rattle.ev_expand.specs.Expanding.{due_at}
use Rattle.ev_expand.specs.Fronts.{Front, up_to}
use Rattle.ev_expand.specs.Guarding.{Guarded, clusters_in, each_once, guarded_in, guarded_of}
use Rattle.ev_tls.specs.References.{by_secrets}
use Rattle.ev_tls.specs.Sealing.{endpoints_by, is_due, tls_rules}

none_among : (entries : List Data) → filter_map (guarded_of (by_secrets Envoy)) entries ≡ []
none_among [] = refl
none_among (entry ∷ entries) = none_among entries

none_guarded : (lines : List Data) → flat_map (guarded_in (by_secrets Envoy)) lines ≡ []
none_guarded [] = refl
none_guarded (line ∷ lines) = λ i. none_among (clusters_in Envoy line) i ++ none_guarded lines i

-- nothing is due
pub none_due : (profile : Profile) (front : Front) → is_envoy profile ≡ true → due_at (tls_rules profile) front ≡ []
none_due Own front envoy = absurd (false≢true envoy)
none_due Envoy front envoy =
    ap (λ (gs : List Guarded). map (λ (p : ℕ × Guarded). record { place = p.0; endpoints = endpoints_by Envoy p.1.key.cluster.discovery (up_to front) p.1 })
    (filter (λ (p : ℕ × Guarded). is_due Envoy front p.1) (enumerate_from 0 (each_once gs))))
    (none_guarded (up_to front))
