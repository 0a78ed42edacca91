-- Keys, each once, and their places.
use Rattle.std.proofs.Common.{◌≡◌, ℕ, zero, suc, ◌+◌, ◌<◌, ◌≤◌, Bool, true, false, not, cond, ◌||◌, List, [], ◌∷◌, ◌++◌, length, get_or, take, map, filter, filter_map, flat_map, Option, Some, None, IfSome, option_map, refl, sym, ap, ap₂, ◌∙◌, subst, append_assoc, arith, length-append}
use Rattle.std.specs.Prelude.{All}
use Rattle.std.specs.List.{list_any, cons_option}
use Rattle.std.proofs.lemmas.List.{append-nil, map-append, length-map, take_more}
use Rattle.std.proofs.lemmas.List.Elements.{filter-append, filter_map-append, All-push}
use Rattle.std.proofs.lemmas.Grind.{flat_map-append}
use Rattle.serde_json.specs.Data.{Data}
use Rattle.serde_json.specs.View.{view}
use Rattle.serde_json.specs.declared.value.Value.{Value}
use Rattle.ev_types.specs.Items.{ItemParts}
use Rattle.ev_types.specs.declared.contents.Kind.TheVariants.{Cds}
use Rattle.ev_types.specs.declared.events.Profile.{Profile}
use Rattle.ev_wire.specs.Responses.{item_of}
use Rattle.ev_expand.specs.declared.keys.Key.{Key}
use Rattle.ev_expand.specs.Keys.{key_same, key_decides}
use Rattle.ev_expand.specs.Guarding.{Guard, Guarded, guarded_same, each_once, place_in, place_at, guarded_of, guarded_in, guarded_by}
use Rattle.ev_expand.specs.Numbers.{added, taken_up}

-- equal keys are the same as another
same_as : (a b one : Guarded) → guarded_same a b ≡ true → guarded_same one a ≡ guarded_same one b
same_as a b one h = ap (λ (k : Key). key_same one.key k) ((key_decides a.key b.key).0 h)

kept_at : (b c : Bool) (one other first : Guarded) (rest : List Guarded) → guarded_same other first ≡ b → guarded_same one other ≡ c → guarded_same one first ≡ false
    → list_any (guarded_same one) (cond (not b) (other ∷ rest) rest) ≡ (c || list_any (guarded_same one) rest)
kept_at true true one other first rest is here differs = absurd (cc (same_as other first one is))
kept_at true false one other first rest is here differs = refl
kept_at false c one other first rest is here differs = ap (λ (t : Bool). t || list_any (guarded_same one) rest) here

-- what is the same as one stays where those the same as another go
any_kept : (one first : Guarded) (gs : List Guarded) → guarded_same one first ≡ false
    → list_any (guarded_same one) (filter (λ other. not (guarded_same other first)) gs) ≡ list_any (guarded_same one) gs
any_kept one first [] differs = refl
any_kept one first (other ∷ gs) differs =
    kept_at (guarded_same other first) (guarded_same one other) one other first (filter (λ o. not (guarded_same o first)) gs) refl refl differs
    ∙ ap (λ (t : Bool). guarded_same one other || t) (any_kept one first gs differs)

once_at : (b c : Bool) (one first : Guarded) (gs : List Guarded) → guarded_same one first ≡ b → list_any (guarded_same one) gs ≡ c
    → first ∷ filter (λ other. not (guarded_same other first)) (cond c gs (gs ++ one ∷ []))
    ≡ cond (b || list_any (guarded_same one) (filter (λ other. not (guarded_same other first)) gs)) (first ∷ filter (λ other. not (guarded_same other first)) gs) (first ∷ (filter (λ other. not (guarded_same other first)) gs ++ one ∷ []))
once_at true true one first gs is here = refl
once_at true false one first gs is here = ap (λ xs. first ∷ xs) (filter-append (λ other. not (guarded_same other first)) gs (one ∷ []) ∙ rw is (append-nil (filter (λ other. not (guarded_same other first)) gs)))
once_at false true one first gs is here = rw (any_kept one first gs is, here)
once_at false false one first gs is here = rw (any_kept one first gs is, here) (ap (λ xs. first ∷ xs) (filter-append (λ other. not (guarded_same other first)) gs (one ∷ []) ∙ rw is))

-- one more after the others
pub once-push : (gs : List Guarded) (one : Guarded) → each_once (gs ++ one ∷ []) ≡ added (each_once gs) one
once-push [] one = refl
once-push (first ∷ gs) one =
    ap (λ xs. first ∷ filter (λ other. not (guarded_same other first)) xs) (once-push gs one)
    ∙ once_at (guarded_same one first) (list_any (guarded_same one) (each_once gs)) one first (each_once gs) refl refl

-- ---- the places of a line's keys

stays_at : (b : Bool) (n m l : ℕ) → cond (not b) (1 + n) 0 < suc l → (n < l → m ≡ n) → cond (not b) (1 + m) 0 ≡ cond (not b) (1 + n) 0
stays_at true n m l h k = refl
stays_at false n m l h k = ap (λ (x : ℕ). 1 + x) (k (omega arith))

-- the place of a key that is among these stays where more come after them
pub place_stays : (key : Key) (gs more : List Guarded) → place_in gs key < length gs → place_in (gs ++ more) key ≡ place_in gs key
place_stays key [] more h = absurd (omega arith)
place_stays key (g ∷ gs) more h = stays_at (key_same key g.key) (place_in gs key) (place_in (gs ++ more) key) (length gs) h (place_stays key gs more)

-- what is guarded by an option is added
pub once_taken : (gs : List Guarded) (o : Option Guarded) → each_once (gs ++ cons_option o []) ≡ taken_up (each_once gs) o
once_taken gs None = ap each_once (append-nil gs)
once_taken gs (Some one) = once-push gs one

more_of : (gs : List Guarded) (o : Option Guarded) (b : Bool) (one : Guarded) → (more : List Guarded) × (cond b gs (gs ++ one ∷ []) ≡ gs ++ more)
more_of gs o true one = ([], sym (append-nil gs))
more_of gs o false one = (one ∷ [], refl)

-- some more come after these, or none
pub more_behind : (gs : List Guarded) (o : Option Guarded) → (more : List Guarded) × (taken_up gs o ≡ gs ++ more)
more_behind gs None = ([], sym (append-nil gs))
more_behind gs (Some one) = more_of gs (Some one) (list_any (guarded_same one) gs) one

place_at_stays : (gs more : List Guarded) (key : Option Key) → IfSome (option_map (place_in gs) key) (λ (p : ℕ). p < length gs)
    → option_map (place_in (gs ++ more)) key ≡ option_map (place_in gs) key
place_at_stays gs more None h = refl
place_at_stays gs more (Some key) h = ap (λ (p : ℕ). Some p) (place_stays key gs more h)

pub places_stay : (guard : Guard) (gs more : List Guarded) (entries : List Data) → All (λ (place : Option ℕ). IfSome place (λ (p : ℕ). p < length gs)) (map (place_at guard gs) entries)
    → map (place_at guard (gs ++ more)) entries ≡ map (place_at guard gs) entries
places_stay guard gs more [] h = refl
places_stay guard gs more (entry ∷ entries) h = ap₂ (λ (p : Option ℕ) ps. p ∷ ps)
    (place_at_stays gs more (guard.key_of entry) (h 0 (place_at guard gs entry) (omega arith)))
    (places_stay guard gs more entries (λ i d k. h (suc i) d (omega arith)))

within_more : (n m : ℕ) (place : Option ℕ) → n ≤ m → IfSome place (λ (p : ℕ). p < n) → IfSome place (λ (p : ℕ). p < m)
within_more n m None le h = tt
within_more n m (Some p) le h = omega arith

-- the places of some entries and of one more, after which what it guards is taken up
pub record ArePlaced (guard : Guard) (entries : List Data) (gs : List Guarded) (places : List (Option ℕ)) : Type 0 where
  pub each : places ≡ map (place_at guard gs) entries
  pub within : All (λ (place : Option ℕ). IfSome place (λ (p : ℕ). p < length gs)) places

pub placed-push : (guard : Guard) (entries : List Data) (entry : Data) (gs : List Guarded) (o : Option Guarded) (places : List (Option ℕ)) (place : Option ℕ)
    → ArePlaced guard entries gs places → place ≡ place_at guard (taken_up gs o) entry → IfSome place (λ (p : ℕ). p < length (taken_up gs o))
    → ArePlaced guard (entries ++ entry ∷ []) (taken_up gs o) (places ++ place ∷ [])
placed-push guard entries entry gs o places place old is here =
    let more : List Guarded = (more_behind gs o).0 in
    let grown : taken_up gs o ≡ gs ++ more = (more_behind gs o).1 in
    let longer : length gs ≤ length (taken_up gs o) = omega (arith, ap length grown, length-append gs more) in
    let stay : map (place_at guard (taken_up gs o)) entries ≡ places =
    ap (λ (xs : List Guarded). map (place_at guard xs) entries) grown
    ∙ places_stay guard gs more entries (subst (λ (ps : List (Option ℕ)). All (λ (p : Option ℕ). IfSome p (λ (q : ℕ). q < length gs)) ps) old.each old.within)
    ∙ sym old.each in
    record {
      each = ap₂ (λ (ps qs : List (Option ℕ)). ps ++ qs) (sym stay) (ap (λ (p : Option ℕ). p ∷ []) is) ∙ sym (map-append (place_at guard (taken_up gs o)) entries (entry ∷ []));
      within = All-push (λ (p : Option ℕ). IfSome p (λ (q : ℕ). q < length (taken_up gs o))) places place
          (λ i d h. within_more (length gs) (length (taken_up gs o)) (get_or places i d) longer (old.within i d h)) here;
    }

-- what is guarded by some resources, and by one more
pub numbers-push : (guard : Guard) (gs old new : List Guarded) (entries : List Data) (entry : Data) (o : Option Guarded)
    → old ≡ each_once (gs ++ filter_map (guarded_of guard) entries) → new ≡ taken_up old o → o ≡ guarded_of guard entry
    → new ≡ each_once (gs ++ filter_map (guarded_of guard) (entries ++ entry ∷ []))
numbers-push guard gs old new entries entry o was grown is =
    grown ∙ ap (λ (xs : List Guarded). taken_up xs o) was ∙ sym (once_taken (gs ++ filter_map (guarded_of guard) entries) o)
    ∙ ap (λ (p : Option Guarded). each_once ((gs ++ filter_map (guarded_of guard) entries) ++ cons_option p [])) is
    ∙ ap each_once (append_assoc gs (filter_map (guarded_of guard) entries) (cons_option (guarded_of guard entry) []) ∙ ap (λ (xs : List Guarded). gs ++ xs) (sym (filter_map-append (guarded_of guard) entries (entry ∷ []))))

-- what is guarded in some lines, and in one more
pub guarded-push : (guard : Guard) (before : List Data) (line : Data) → guarded_by guard (before ++ line ∷ []) ≡ each_once (flat_map (guarded_in guard) before ++ guarded_in guard line)
guarded-push guard before line = ap each_once (flat_map-append (guarded_in guard) before (line ∷ []) ∙ ap (λ (xs : List Guarded). flat_map (guarded_in guard) before ++ xs) (append-nil (guarded_in guard line)))

-- one that is there is not added
pub added_there : (gs : List Guarded) (one : Guarded) → list_any (guarded_same one) gs ≡ true → added gs one ≡ gs
added_there gs one h = rw h

pub added_new : (gs : List Guarded) (one : Guarded) → list_any (guarded_same one) gs ≡ false → added gs one ≡ gs ++ one ∷ []
added_new gs one h = rw h

new_at : (b c : Bool) (n l : ℕ) → (b || c) ≡ false → (c ≡ false → n ≡ l) → cond (not b) (1 + n) 0 ≡ suc l
new_at true c n l h k = absurd (cc)
new_at false c n l h k = let e : n ≡ l = k h in omega arith

-- a new key comes after the others
pub place_new : (key : Key) (own : Data) (gs : List Guarded) → list_any (λ (g : Guarded). key_same key g.key) gs ≡ false
    → place_in (gs ++ record { key = key; own = own } ∷ []) key ≡ length gs
place_new key own [] h = let same : key_same key key ≡ true = (key_decides key key).1 refl in rw same
place_new key own (g ∷ gs) h = new_at (key_same key g.key) (list_any (λ (g : Guarded). key_same key g.key) gs) _ (length gs) h (place_new key own gs)

-- ---- a step over the resources of a line

at_map : {A B : Type 0} (f : A → B) (xs : List A) (i : ℕ) (d : A) (r : B) → i < length xs → get_or (map f xs) i r ≡ f (get_or xs i d)
at_map f [] i d r h = absurd (omega arith)
at_map f (x ∷ xs) zero d r h = refl
at_map f (x ∷ xs) (suc i) d r h = at_map f xs i d r (omega arith)

pub entry_item : (profile : Profile) (items : List ItemParts) (es : List Value) (i : ℕ) (item : ItemParts) (entry : Value) → items ≡ map (item_of profile Cds) (map view es) → i < length es
    → item ≡ get_or items i item → entry ≡ get_or es i entry → item ≡ item_of profile Cds (view entry)
entry_item profile items es i item entry e h here there =
    let below : i < length (map view es) = omega (arith, h, length-map es view) in
    here ∙ ap (λ (xs : List ItemParts). get_or xs i item) e ∙ at_map (item_of profile Cds) (map view es) i (view entry) item below
    ∙ ap (item_of profile Cds) (at_map view es i entry (view entry) h) ∙ ap (λ (v : Value). item_of profile Cds (view v)) (sym there)

pub viewed_more : {A : Type 0} (seen : A → Data) (es : List A) (i : ℕ) (entry : A) → entry ≡ get_or es i entry → i < length es → map seen (take (i + 1) es) ≡ map seen (take i es) ++ seen entry ∷ []
viewed_more seen es i entry there h =
    ap (map seen) (take_more es i entry h) ∙ map-append seen (take i es) (get_or es i entry ∷ []) ∙ ap (λ v. map seen (take i es) ++ seen v ∷ []) (sym there)

pub placed_next : (guard : Guard) (entries after : List Data) (entry : Data) (gs new : List Guarded) (o : Option Guarded) (places more : List (Option ℕ)) (place : Option ℕ)
    → ArePlaced guard entries gs places → after ≡ entries ++ entry ∷ [] → new ≡ taken_up gs o → more ≡ places ++ place ∷ []
    → place ≡ place_at guard new entry → IfSome place (λ (p : ℕ). p < length new) → ArePlaced guard after new more
placed_next guard entries after entry gs new o places more place old behind grown longer is here =
    let P : List Guarded → Type 0 = λ xs. (place ≡ place_at guard xs entry) × IfSome place (λ (p : ℕ). p < length xs) in
    let both : P (taken_up gs o) = subst P grown (is, here) in
    subst (λ (xs : List Data). ArePlaced guard xs new more) (sym behind)
    (subst (λ (xs : List Guarded). ArePlaced guard (entries ++ entry ∷ []) xs more) (sym grown)
    (subst (λ (ps : List (Option ℕ)). ArePlaced guard (entries ++ entry ∷ []) (taken_up gs o) ps) (sym longer)
    (placed-push guard entries entry gs o places place old both.0 both.1)))
