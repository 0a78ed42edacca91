-- What was reported in some lines is reported by one of them, and so is all that a key names where it is due.
use Rattle.std.proofs.Common.{◌≡◌, ℕ, ◌<◌, Bool, true, ◌&&◌, ◌||◌, not, List, map, take, filter, flat_map, Some, sym, subst}
use Rattle.std.specs.Prelude.{slice_get, Contains}
use Rattle.std.specs.Cmp.{first_so, second_so}
use Rattle.serde_json.specs.Data.{Data}
use Rattle.ev_types.specs.declared.events.Profile.{Profile}
use Rattle.ev_model_laws.proofs.OperationLists.{IsIn, in_filter, in_front}
use Rattle.ev_expand.specs.declared.keys.Key.{Key}
use Rattle.ev_expand.specs.Fronts.{Front, fronts, heard, opens, stream_at, up_to}
use Rattle.ev_expand.specs.Guarding.{Guarded}
use Rattle.ev_tls.specs.declared.awaited.Awaited.{Awaited}
use Rattle.ev_tls.specs.declared.awaited.Awaited.TheVariants.{Secret, Endpoints}
use Rattle.ev_tls.specs.Awaited.{awaited_by, awaited_decides, awaited_same, services_of}
use Rattle.ev_tls.specs.Sealing.{gives_endpoints, has_guarded, is_due}
use Rattle.ev_tls.specs.Told.{is_complete, is_told, told_by}
use Rattle.ev_expand.proofs.FrontLawLemmas.{fronts_taken}
use Rattle.ev_expand.proofs.ListLemmas.{all_in, contains_in, get_in, in_any, in_flat, in_map, map_in, taken_get}

-- one of the first n lines reports it, where a stream is open
pub record IsToldAt (profile : Profile) (lines : List Data) (n : ℕ) (awaited : Awaited) : Type 0 where
  pub index : ℕ
  pub within : index < n
  pub front : Front
  pub there : slice_get (fronts lines) index ≡ Some front
  pub connected : stream_at profile (up_to front) ≡ true
  pub tells : IsIn awaited (told_by profile front.line)

pub told_at : (profile : Profile) (lines : List Data) (n : ℕ) (awaited : Awaited) → is_told profile (take n lines) awaited ≡ true → IsToldAt profile lines n awaited
told_at profile lines n awaited told =
    let one = in_any (awaited_same awaited) (flat_map (told_by profile) (heard profile (take n lines))) told in
    let same : one.0 ≡ awaited = sym ((awaited_decides awaited one.0).0 one.2) in
    let among = in_flat (told_by profile) (heard profile (take n lines)) one.0 one.1 in
    let front = in_map (λ (f : Front). f.line) (filter (λ f. stream_at profile (up_to f)) (fronts (take n lines))) among.0 among.1 in
    let passed = in_filter (λ f. stream_at profile (up_to f)) front.0 (fronts (take n lines)) front.1 in
    let place = get_in (take n (fronts lines)) front.0 (subst (IsIn front.0) (fronts_taken lines n) passed.0) in
    let there = taken_get (fronts lines) n place.0 front.0 place.1 in
    record {
      index = place.0;
      within = there.0;
      front = front.0;
      there = there.1;
      connected = passed.1;
      tells = subst (λ line. IsIn awaited (told_by profile line)) (sym front.2) (subst (λ a. IsIn a (told_by profile among.0)) same among.2);
    }

-- where a key is complete each secret that it names was reported
pub complete_told : (profile : Profile) (lines : List Data) (key : Key) (secret : List ℕ) → is_complete profile lines key ≡ true → Contains key.names secret → is_told profile lines (Secret secret) ≡ true
complete_told profile lines key secret complete named =
    all_in (is_told profile lines) (awaited_by key) (Secret secret) complete
    (in_front (Secret secret) (map Secret key.names) (map Endpoints (services_of key.cluster.discovery)) (map_in Secret key.names secret (contains_in key.names secret named)))

-- ---- what is due

middle : (a b c : Bool) → (a && b && c) ≡ true → b ≡ true
middle a b c h = second_so a b (first_so (a && b) c h)

-- what is due at a prefix is complete there
pub due_is_complete : (profile : Profile) (front : Front) (g : Guarded) → is_due profile front g ≡ true → is_complete profile (up_to front) g.key ≡ true
due_is_complete profile front g h =
    middle (stream_at profile (up_to front)) (is_complete profile (up_to front) g.key)
    (opens profile front || has_guarded profile front.line g.key || not (is_complete profile front.before g.key) || gives_endpoints profile front.line g.key) h
