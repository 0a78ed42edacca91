-- What the line that follows says of a watched place that is due is kept.
use Rattle.std.proofs.Common.{◌≡◌, ◌∙◌, ℕ, zero, suc, ◌<◌, ◌≤◌, Bool, true, false, cond, not, ◌&&◌, nat_le, List, [], ◌∷◌, length, map, filter, filter_map, decimal, Some, None, codes, refl, sym, ap, arith}
use Rattle.std.specs.Prelude.{slice_get}
use Rattle.std.specs.List.{enumerate_from}
use Rattle.std.specs.Str.{bytes_eq}
use Rattle.std.proofs.lemmas.Bool.{and_right, false≢true, lt-leb}
use Rattle.std.proofs.lemmas.List.{length-map}
use Rattle.serde_json.specs.Data.{Data}
use Rattle.ev_types.specs.Items.{ItemParts, ResponseParts}
use Rattle.ev_types.specs.Kinds.{kind_same}
use Rattle.ev_types.specs.declared.contents.Kind.TheVariants.{Eds}
use Rattle.ev_types.specs.declared.contents.Body.{Body}
use Rattle.ev_types.specs.declared.contents.Body.TheVariants.{Good}
use Rattle.ev_types.specs.declared.contents.Content.{Content}
use Rattle.ev_types.specs.declared.events.Verdict.{Verdict}
use Rattle.ev_types.specs.declared.events.Verdict.TheVariants.{New, InPlace, Back, Same, Kept, Unasked, Renewed, Refused}
use Rattle.ev_types.specs.declared.limits.TheConstants.{ITEM_LIMIT}
use Rattle.ev_types.specs.declared.rows.KeptVersion.{KeptVersion}
use Rattle.ev_types.specs.declared.rows.Live.{Live}
use Rattle.ev_types.specs.declared.events.Profile.{Profile}
use Rattle.ev_model.specs.Verdicts.{body_verdict, form_rule, is_among, is_removed, items_named, lesser, lives_after, lives_left, removed_rule, rule_of, stale_rule, twice_rule, verdict_by, verdict_of, verdicts_from, verdicts_of}
use Rattle.ev_model.specs.Watching.{is_watched}
use Rattle.ev_model_laws.proofs.OperationLists.{IsIn, filter_all, map_filter}
use Rattle.ev_model_laws.proofs.VerdictLemmas.{fits, verdict_fits}
use Rattle.ev_wire.specs.Responses.{item_of}
use Rattle.ev_expand.specs.Expanding.{due_at, guarded_at, place_of}
use Rattle.ev_expand.specs.Following.{DueParts, endpoints_entry, entry_due}
use Rattle.ev_expand.specs.Fronts.{Front, up_to}
use Rattle.ev_expand.specs.Guarding.{Guarded}
use Rattle.ev_expand.specs.Waiting.{name_left, name_with}
use Rattle.ev_expand.proofs.FollowedLemmas.{names_given}
use Rattle.ev_expand.proofs.ReadLemmas.{following_names}
use Rattle.ev_expand.proofs.ListLemmas.{found_in, get_in, map_in}
use Rattle.ev_dns.specs.Hosts.{endpoints_tree}
use Rattle.ev_dns.specs.Resolving.{dns_rules, is_due, resolved_hosts}
use Rattle.ev_dns.specs.LastAnswers.{name_of_place}
use Rattle.ev_dns.proofs.PlaceLemmas.{among_due, due_once, parts_of}
use Rattle.ev_dns.proofs.TextLemmas.{due_response}

-- ---- verdicts on endpoints

-- endpoints make no generation
lives_same : (verdict : Verdict) (name : List ℕ) (body : Body) (lives : List Live) → fits Eds verdict ≡ true → lives_after Eds verdict name body lives ≡ lives
lives_same New name body lives h = absurd (false≢true h)
lives_same InPlace name body lives h = absurd (false≢true h)
lives_same Back name body lives h = absurd (false≢true h)
lives_same Same name body lives h = refl
lives_same Kept name body lives h = refl
lives_same Unasked name body lives h = refl
lives_same Renewed name body lives h = refl
lives_same (Refused rule) name body lives h = refl

judged_at : (response : ResponseParts) (versions : List KeptVersion) (lives : List Live) (items : List ItemParts) (p : ℕ) (item : ItemParts) → slice_get items p ≡ Some item
    → slice_get (verdicts_from Eds response versions lives items) p ≡ Some (verdict_of Eds response lives versions item)
judged_at response versions lives [] p item there = absurd (cc)
judged_at response versions lives (first ∷ items) zero item there =
    let same : first ≡ item = cc in
    ap (λ (i : ItemParts). Some (verdict_of Eds response lives versions i)) same
judged_at response versions lives (first ∷ items) (suc p) item there =
    let verdict : Verdict = verdict_of Eds response lives versions first in
    ap (λ ls. slice_get (verdicts_from Eds response versions ls items) p)
    (lives_same verdict first.name first.body lives (verdict_fits Eds response lives versions first))
    ∙ judged_at response versions lives items p item there

-- what occurs once in a response without removed names, and is watched, is kept
kept_verdict : (response : ResponseParts) (lives : List Live) (versions : List KeptVersion) (item : ItemParts) (content : Content) → response.removed ≡ []
    → item.body ≡ Good content → nat_le 2 (length (items_named item.name response.items)) ≡ false → is_watched lives Eds item.name ≡ true
    → verdict_of Eds response lives versions item ≡ Kept
kept_verdict response lives versions item content none good once watched =
    let twice : twice_rule response item ≡ None = ap (λ b. cond b (Some 4) None) once in
    let removed : removed_rule response item ≡ None = ap (λ names. cond (is_among item.name names) (Some 5) None) none in
    let rule : rule_of Eds response lives versions item ≡ None =
    ap (λ (body : Body). lesser (stale_rule Eds lives versions item body) (lesser (twice_rule response item) (lesser (removed_rule response item) (form_rule body)))) good
    ∙ (λ i. lesser (twice i) (lesser (removed i) None)) in
    ap (λ r. verdict_by r Eds lives versions item) rule
    ∙ ap (body_verdict Eds lives versions item) good
    ∙ ap (λ b. cond b Kept Unasked) watched

-- ---- the line that follows

-- a resource of the response is kept
pub record Keeps (response : ResponseParts) (lives : List Live) (versions : List KeptVersion) (name : List ℕ) (content : Content) : Type 0 where
  pub place : ℕ
  pub judged : slice_get (verdicts_of lives versions response) place ≡ Some Kept
  pub item : ItemParts
  pub there : slice_get response.items place ≡ Some item
  pub named : item.name ≡ name
  pub good : item.body ≡ Good content

module _ (profile : Profile) (front : Front) where
  nothing_removed : (due_response profile front).removed ≡ []
  nothing_removed = by (filter (λ (p : ℕ × Guarded). is_due profile front p.1) (enumerate_from 0 (guarded_at (dns_rules profile) front)))
    where
      by : (ps : List (ℕ × Guarded)) → filter_map (name_left (codes "dns/")) (map (parts_of front) ps) ≡ []
      by [] = refl
      by (p ∷ ps) = by ps

  names_due : map (λ (item : ItemParts). item.name) (due_response profile front).items ≡ map (λ (d : DueParts). name_of_place d.place) (due_at (dns_rules profile) front)
  names_due =
      following_names profile (codes "dns/") (codes "dns-") (decimal (place_of front)) (due_at (dns_rules profile) front)
      ∙ by (filter (λ (p : ℕ × Guarded). is_due profile front p.1) (enumerate_from 0 (guarded_at (dns_rules profile) front)))
    where
      by : (ps : List (ℕ × Guarded)) → filter_map (name_with (codes "dns/")) (map (parts_of front) ps) ≡ map (λ (d : DueParts). name_of_place d.place) (map (parts_of front) ps)
      by [] = refl
      by (p ∷ ps) = ap (λ ns. name_of_place p.0 ∷ ns) (by ps)

  stands_once : (place : ℕ) → place < ITEM_LIMIT → length (guarded_at (dns_rules profile) front) ≤ ITEM_LIMIT
      → nat_le 2 (length (items_named (name_of_place place) (due_response profile front).items)) ≡ false
  stands_once place below few =
      let items : List ItemParts = (due_response profile front).items in
      let named : List ℕ → Bool = λ n. bytes_eq n (name_of_place place) in
      let count : length (items_named (name_of_place place) items) ≡ length (filter named (map (λ (d : DueParts). name_of_place d.place) (due_at (dns_rules profile) front))) =
      sym (length-map (items_named (name_of_place place) items) (λ (item : ItemParts). item.name))
      ∙ ap length (map_filter (λ (item : ItemParts). item.name) named items) ∙ ap (λ ns. length (filter named ns)) names_due in
      lt-leb 2 (length (items_named (name_of_place place) items)) (omega (arith, count, due_once profile front place below few))

  all_left : (lives : List Live) → lives_left Eds (due_response profile front) lives ≡ lives
  all_left lives =
      filter_all (λ (live : Live). not (kind_same live.kind Eds && is_removed (due_response profile front) live.name)) lives
      (λ live is.
      ap not (and_right (kind_same live.kind Eds) (is_removed (due_response profile front) live.name)
      (ap (λ names. is_among live.name names && not (nat_le 1 (length (items_named live.name (due_response profile front).items)))) nothing_removed)))

  entry_at : ℕ → Guarded → Data
  entry_at place g = endpoints_entry (decimal (place_of front)) (name_of_place place) (endpoints_tree (resolved_hosts (up_to front) g.key))

  one_name : (place : ℕ) (g : Guarded) → (item_of profile Eds (entry_at place g)).name ≡ name_of_place place
  unfolding entry_at
  one_name place g = first (names_given profile (codes "dns/") (decimal (place_of front)) (parts_of front (place, g) ∷ []))
    where
      first : {x y : List ℕ} → (x ∷ []) ≡ (y ∷ []) → x ≡ y
      first e = cc

  -- what is due of a watched place is kept
  pub due_kept : (place : ℕ) (g : Guarded) (lives : List Live) (versions : List KeptVersion) (content : Content) → slice_get (guarded_at (dns_rules profile) front) place ≡ Some g
      → is_due profile front g ≡ true → place < ITEM_LIMIT → length (guarded_at (dns_rules profile) front) ≤ ITEM_LIMIT
      → (item_of profile Eds (endpoints_entry (decimal (place_of front)) (name_of_place place) (endpoints_tree (resolved_hosts (up_to front) g.key)))).body ≡ Good content
      → is_watched lives Eds (name_of_place place) ≡ true → Keeps (due_response profile front) lives versions (name_of_place place) content
  unfolding entry_at
  due_kept place g lives versions content there due below few good watched =
      let entry : Data = entry_at place g in
      let response : ResponseParts = due_response profile front in
      let among : IsIn (item_of profile Eds entry) response.items =
      map_in (item_of profile Eds) (filter_map (entry_due (codes "dns/") (decimal (place_of front))) (due_at (dns_rules profile) front)) entry
      (found_in (entry_due (codes "dns/") (decimal (place_of front))) (due_at (dns_rules profile) front) (parts_of front (place, g)) entry (among_due profile front place g there due) refl) in
      let at = get_in response.items (item_of profile Eds entry) among in
      let named : (item_of profile Eds entry).name ≡ name_of_place place = one_name place g in
      let kept : verdict_of Eds response lives versions (item_of profile Eds entry) ≡ Kept =
      kept_verdict response lives versions (item_of profile Eds entry) content nothing_removed good
      (ap (λ n. nat_le 2 (length (items_named n response.items))) named ∙ stands_once place below few)
      (ap (is_watched lives Eds) named ∙ watched) in
      record {
        place = at.0;
        judged = ap (λ ls. slice_get (verdicts_from Eds response versions ls response.items) at.0) (all_left lives)
            ∙ judged_at response versions lives response.items at.0 (item_of profile Eds entry) at.1 ∙ ap (λ v. Some v) kept;
        item = item_of profile Eds entry;
        there = at.1;
        named = named;
        good = good;
      }
