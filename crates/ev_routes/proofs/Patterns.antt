-- The domain that a host goes by where none is the host itself:
-- the longest, found by how many bytes are beside its star.
use Rattle.std.proofs.Common.{◌≡◌, ℕ, ◌+◌, ◌-◌, ◌<◌, ◌≤◌, ◌==◌, ◌++◌, ◌&&◌, not, nat_eq, Bool, true, false, cond, nat_lt, List, [], ◌∷◌, length, take, drop, codes, Option, Some, None, All, filter, find, zero, suc, refl, ap, sym, ◌∙◌, subst, arith, true≢false}
use Rattle.std.specs.Cmp.{first_so}
use Rattle.std.specs.Option.{option_or}
use Rattle.std.specs.Cmp.Lexicographic.{nat_list_eq_equiv}
use Rattle.std.specs.Str.{bytes_eq}
use Rattle.std.proofs.lemmas.Bool.Decides.{nat_tests}
use Rattle.std.proofs.lemmas.Grind.{common_steps}
use Rattle.std.proofs.lemmas.List.Elements.{All-append, All-cons, All-head, All-nil, All-tail, All-weaker}
use Rattle.std.proofs.lemmas.List.Folds.{find-append}
use Rattle.ev_model.specs.Paths.{begins_with, ends_with}
use Rattle.ev_model.specs.Choice.{HostDomain, by_prefix, by_suffix, domain_for, has_prefix, has_suffix, is_any, is_domain, is_prefix_form, is_suffix_form, longer_of, longest}
use Rattle.ev_routes.specs.Domains.{AreListed, AreMeasured, KeepsLengths, find_beside, has_length, pattern_for}

-- tests that agree on each domain find the same
pub find_same : (p q : HostDomain → Bool) → ((d : HostDomain) → p d ≡ q d) → (ds : List HostDomain) → find p ds ≡ find q ds
find_same p q same [] = refl
find_same p q same (d ∷ ds) = λ i. cond (same d i) (Some d) (find_same p q same ds i)

-- a test that none passes finds none
pub find_never : (p : HostDomain → Bool) (ds : List HostDomain) → All (λ (d : HostDomain). p d ≡ false) ds → find p ds ≡ None
find_never p [] never = refl
find_never p (d ∷ ds) never =
    let P : HostDomain → Type 0 = λ (x : HostDomain). p x ≡ false in
    let here : p d ≡ false = All-head P d ds never in
    ap (λ b. cond b (Some d) (find p ds)) here ∙ find_never p ds (All-tail P d ds never)

-- what is found passes the test
found_passes : (p : HostDomain → Bool) (ds : List HostDomain) (f : HostDomain) → find p ds ≡ Some f → p f ≡ true
found_passes p [] f found = absurd (cc)
found_passes p (d ∷ ds) f found = by (p d) refl (found_passes p ds f) found
  where
    by : (b : Bool) → p d ≡ b → (find p ds ≡ Some f → p f ≡ true) → cond b (Some d) (find p ds) ≡ Some f → p f ≡ true
    by true is later here = let same : d ≡ f = cc in ap p (sym same) ∙ is
    by false is later rest = later rest

-- the domains that fit have at most this many bytes
abbrev pub FitsWithin : (HostDomain → Bool) → ℕ → List HostDomain → Type 0
FitsWithin p n ds = All (λ (d : HostDomain). p d ≡ true → length d.domain ≤ n) ds

-- so has the longest of them
longest_within : (p : HostDomain → Bool) (n : ℕ) (ds : List HostDomain) → FitsWithin p n ds → (f : HostDomain) → longest (filter p ds) ≡ Some f → length f.domain ≤ n
longest_within p n [] within f is = absurd (cc)
longest_within p n (d ∷ ds) within f is =
    let P : HostDomain → Type 0 = λ (x : HostDomain). p x ≡ true → length x.domain ≤ n in
    by (p d) refl (longest_within p n ds (All-tail P d ds within)) is
  where
    first : (p d ≡ true) → length d.domain ≤ n
    first is_p = All-head (λ (x : HostDomain). p x ≡ true → length x.domain ≤ n) d ds within is_p

    one : (b : Bool) (g : HostDomain) → length d.domain ≤ n → length g.domain ≤ n → cond b (Some g) (Some d) ≡ Some f → length f.domain ≤ n
    one true g le_d le_g at = let same : g ≡ f = cc in subst (λ (x : HostDomain). length x.domain ≤ n) same le_g
    one false g le_d le_g at = let same : d ≡ f = cc in subst (λ (x : HostDomain). length x.domain ≤ n) same le_d

    with_rest : length d.domain ≤ n → (o : Option HostDomain) → ((g : HostDomain) → o ≡ Some g → length g.domain ≤ n) → longer_of d o ≡ Some f → length f.domain ≤ n
    with_rest le None rest at = let same : d ≡ f = cc in subst (λ (x : HostDomain). length x.domain ≤ n) same le
    with_rest le (Some g) rest at = one (nat_lt (length d.domain) (length g.domain)) g le (rest g refl) at

    by : (b : Bool) → p d ≡ b → ((g : HostDomain) → longest (filter p ds) ≡ Some g → length g.domain ≤ n)
        → longest (cond b (d ∷ filter p ds) (filter p ds)) ≡ Some f → length f.domain ≤ n
    by true is_p rest at = with_rest (first is_p) (longest (filter p ds)) rest at
    by false is_p rest at = rest f at

-- where none that fits has more bytes, the first that has this many is the longest
pub longest_found : (p : HostDomain → Bool) (n : ℕ) (ds : List HostDomain) → FitsWithin p n ds → (f : HostDomain)
    → find (λ (d : HostDomain). (length d.domain == n) && p d) ds ≡ Some f → longest (filter p ds) ≡ Some f
longest_found p n [] within f found = absurd (cc)
longest_found p n (d ∷ ds) within f found =
    by (p d) (length d.domain == n) refl refl (longest_found p n ds (All-tail (λ (x : HostDomain). p x ≡ true → length x.domain ≤ n) d ds within) f) found
  where
    P : HostDomain → Type 0
    P x = p x ≡ true → length x.domain ≤ n

    later : FitsWithin p n ds
    later = All-tail P d ds within

    no_longer : length d.domain ≡ n → (o : Option HostDomain) → ((g : HostDomain) → o ≡ Some g → length g.domain ≤ n) → longer_of d o ≡ Some d
    no_longer at None rest = refl
    no_longer at (Some g) rest =
        let le : length g.domain ≤ n = rest g refl in
        let no : nat_lt (length d.domain) (length g.domain) ≡ false = grind (arith, nat_tests) in
        ap (λ b. cond b (Some g) (Some d)) no

    longer : p d ≡ true → (length d.domain == n) ≡ false → longest (filter p ds) ≡ Some f → length f.domain ≡ n → longer_of d (longest (filter p ds)) ≡ Some f
    longer is_p other is many =
        let le : length d.domain ≤ n = All-head P d ds within is_p in
        let yes : nat_lt (length d.domain) (length f.domain) ≡ true = grind (arith, nat_tests) in
        ap (longer_of d) is ∙ ap (λ b. cond b (Some f) (Some d)) yes

    by : (b c : Bool) → p d ≡ b → (length d.domain == n) ≡ c
        → (find (λ (x : HostDomain). (length x.domain == n) && p x) ds ≡ Some f → longest (filter p ds) ≡ Some f)
        → cond (c && b) (Some d) (find (λ (x : HostDomain). (length x.domain == n) && p x) ds) ≡ Some f
        → longest (cond b (d ∷ filter p ds) (filter p ds)) ≡ Some f
    by true true is_p at rest found = no_longer (grind (arith, nat_tests)) (longest (filter p ds)) (longest_within p n ds later) ∙ found
    by true false is_p at rest found =
        let passes = found_passes (λ (x : HostDomain). (length x.domain == n) && p x) ds f found in
        let many : length f.domain ≡ n = grind (arith, nat_tests, passes) in
        longer is_p at (rest found) many
    by false true is_p at rest found = rest found
    by false false is_p at rest found = rest found

-- where none has this many bytes, those that fit have fewer
pub fits_fewer : (p : HostDomain → Bool) (n : ℕ) (ds : List HostDomain) → FitsWithin p (n + 1) ds
    → find (λ (d : HostDomain). (length d.domain == n + 1) && p d) ds ≡ None → FitsWithin p n ds
fits_fewer p n [] within none = All-nil (λ (d : HostDomain). p d ≡ true → length d.domain ≤ n)
fits_fewer p n (d ∷ ds) within none =
    by (length d.domain == n + 1) (p d) refl refl (fits_fewer p n ds (All-tail (λ (x : HostDomain). p x ≡ true → length x.domain ≤ n + 1) d ds within)) none
  where
    P : HostDomain → Type 0
    P x = p x ≡ true → length x.domain ≤ n + 1

    Q : HostDomain → Type 0
    Q x = p x ≡ true → length x.domain ≤ n

    by : (b c : Bool) → (length d.domain == n + 1) ≡ b → p d ≡ c
        → (find (λ (x : HostDomain). (length x.domain == n + 1) && p x) ds ≡ None → FitsWithin p n ds)
        → cond (b && c) (Some d) (find (λ (x : HostDomain). (length x.domain == n + 1) && p x) ds) ≡ None → FitsWithin p n (d ∷ ds)
    by true true at is_p rest found = absurd (cc)
    by true false at is_p rest found = All-cons Q d ds (λ is. absurd (true≢false (sym is ∙ is_p))) (rest found)
    by false c at is_p rest found =
        All-cons Q d ds (λ is. let le : length d.domain ≤ n + 1 = All-head P d ds within is in grind (arith, nat_tests)) (rest found)

-- where those that fit would have at most one byte, and each has more, none fits
pub fits_none : (p : HostDomain → Bool) → ((d : HostDomain) → p d ≡ true → 1 < length d.domain) → (ds : List HostDomain) → FitsWithin p 1 ds
    → longest (filter p ds) ≡ None
fits_none p more [] within = refl
fits_none p more (d ∷ ds) within = by (p d) refl (fits_none p more ds (All-tail (λ (x : HostDomain). p x ≡ true → length x.domain ≤ 1) d ds within))
  where
    P : HostDomain → Type 0
    P x = p x ≡ true → length x.domain ≤ 1

    by : (b : Bool) → p d ≡ b → longest (filter p ds) ≡ None → longest (cond b (d ∷ filter p ds) (filter p ds)) ≡ None
    by true is_p rest = let le : length d.domain ≤ 1 = All-head P d ds within is_p in absurd (omega (arith, more d is_p))
    by false is_p rest = rest

-- texts of other lengths are others
texts_unlike : (xs ys : List ℕ) → (length xs == length ys) ≡ false → bytes_eq xs ys ≡ false
texts_unlike [] [] other = absurd (true≢false other)
texts_unlike [] (y ∷ ys) other = refl
texts_unlike (x ∷ xs) [] other = refl
texts_unlike (x ∷ xs) (y ∷ ys) other =
    let rest : (length xs == length ys) ≡ false = grind (arith, nat_tests) in
    grind (arith, common_steps, texts_unlike xs ys rest)

-- a text of two parts
texts_split : (xs ys zs : List ℕ) → bytes_eq xs (ys ++ zs) ≡ bytes_eq (take (length ys) xs) ys && bytes_eq (drop (length ys) xs) zs
texts_split xs [] zs = refl
texts_split [] (y ∷ ys) zs = refl
texts_split (x ∷ xs) (y ∷ ys) zs = grind (arith, common_steps, texts_split xs ys zs)

-- texts that begin alike begin with the same byte
first_alike : (n : ℕ) (xs ys start : List ℕ) → 1 ≤ n → bytes_eq (take n xs) (take n ys) ≡ true → bytes_eq (take 1 xs) start ≡ bytes_eq (take 1 ys) start
first_alike zero xs ys start some same = absurd (omega arith)
first_alike (suc n) [] [] start some same = refl
first_alike (suc n) [] (y ∷ ys) start some same = absurd (true≢false (sym same))
first_alike (suc n) (x ∷ xs) [] start some same = absurd (true≢false (sym same))
first_alike (suc n) (x ∷ xs) (y ∷ ys) start some same =
    let at : x ≡ y = grind (arith, nat_tests) in
    ap (λ b. bytes_eq (b ∷ []) start) at

suffix_text : (host : List ℕ) (n : ℕ) → 1 ≤ n → n < length host → (text : List ℕ)
    → bytes_eq text (42 ∷ drop (length host - n) host)
    ≡ (length text == n + 1) && (is_suffix_form text && ends_with host (drop 1 text) && nat_lt (length text - 1) (length host))
suffix_text host n some less [] = grind (arith, common_steps, nat_tests)
suffix_text host n some less (x ∷ rest) = by (length rest == n) refl
  where
    back : List ℕ
    back = drop (length host - n) host

    many : length back ≡ n
    many = grind (arith, common_steps)

    by : (b : Bool) → (length rest == n) ≡ b
        → bytes_eq (x ∷ rest) (42 ∷ drop (length host - n) host)
        ≡ (length (x ∷ rest) == n + 1) && (is_suffix_form (x ∷ rest) && ends_with host rest && nat_lt (length (x ∷ rest) - 1) (length host))
    by true at =
        let same : length rest ≡ n = grind (arith, nat_tests) in
        grind (arith, common_steps, nat_tests, nat_list_eq_equiv.symm rest (drop (length host - n) host), same)
    by false at =
        let other : (length rest == length back) ≡ false = grind (arith, nat_tests, many) in
        grind (arith, common_steps, nat_tests, texts_unlike rest back other)

-- the suffix form of this many bytes that a host ends with is the domain of that text
pub suffix_key : (host : List ℕ) (n : ℕ) → 1 ≤ n → n < length host → (d : HostDomain)
    → is_domain (42 ∷ drop (length host - n) host) d ≡ (length d.domain == n + 1) && has_suffix host d
suffix_key host n some less d = suffix_text host n some less d.domain

prefix_text : (host : List ℕ) (n : ℕ) → 1 ≤ n → n < length host → begins_with host (codes "*") ≡ false → (text : List ℕ)
    → bytes_eq text (take n host ++ 42 ∷ [])
    ≡ (length text == n + 1) && (is_prefix_form text && begins_with host (take (length text - 1) text) && nat_lt (length text - 1) (length host))
prefix_text host n some less starless text = by (length text == n + 1) refl
  where
    front : List ℕ
    front = take n host

    many : length front ≡ n
    many = grind (arith, common_steps)

    form : (text ≡ text) → length text ≡ n + 1 → (f : Bool) → bytes_eq (take n text) front ≡ f
        → f && bytes_eq (drop n text) (42 ∷ []) ≡ (is_prefix_form text && f) && nat_lt (length text - 1) (length host)
    form is at true alike =
        let plain : bytes_eq (take 1 text) (42 ∷ []) ≡ false = first_alike n text host (42 ∷ []) some alike ∙ starless in
        let one : length text - 1 ≡ n = omega arith in
        grind (arith, common_steps, nat_tests, plain, one)
    form is at false alike = grind (arith, common_steps, nat_tests)

    by : (b : Bool) → (length text == n + 1) ≡ b
        → bytes_eq text (take n host ++ 42 ∷ [])
        ≡ b && (is_prefix_form text && begins_with host (take (length text - 1) text) && nat_lt (length text - 1) (length host))
    by true at =
        let size : length text ≡ n + 1 = grind (arith, nat_tests) in
        let one : length text - 1 ≡ n = omega arith in
        let shown : length (take n text) ≡ n = grind (arith, common_steps) in
        let begins : begins_with host (take (length text - 1) text) ≡ bytes_eq (take n text) front =
        ap (λ k. begins_with host (take k text)) one ∙ ap (λ k. bytes_eq (take k host) (take n text)) shown ∙ nat_list_eq_equiv.symm front (take n text) in
        texts_split text front (42 ∷ [])
        ∙ ap (λ k. bytes_eq (take k text) front && bytes_eq (drop k text) (42 ∷ [])) many
        ∙ form refl size (bytes_eq (take n text) front) refl
        ∙ ap (λ b. (is_prefix_form text && b) && nat_lt (length text - 1) (length host)) (sym begins)
    by false at =
        let size : length (front ++ 42 ∷ []) ≡ n + 1 = grind (arith, common_steps, many) in
        let other : (length text == length (front ++ 42 ∷ [])) ≡ false = grind (arith, nat_tests, size) in
        texts_unlike text (front ++ 42 ∷ []) other

-- the prefix form of this many bytes that a host begins with is the domain of that text
pub prefix_key : (host : List ℕ) (n : ℕ) → 1 ≤ n → n < length host → begins_with host (codes "*") ≡ false → (d : HostDomain)
    → is_domain (take n host ++ 42 ∷ []) d ≡ (length d.domain == n + 1) && has_prefix host d
prefix_key host n some less starless d = prefix_text host n some less starless d.domain

-- one more domain is measured
measured_more : (is_form : List ℕ → Bool) (before after : List Bool) (ds : List HostDomain) (d : HostDomain) → AreMeasured is_form before ds
    → KeepsLengths before after → (is_form d.domain ≡ true → has_length (length d.domain - 1) after ≡ true) → AreMeasured is_form after (ds ++ d ∷ [])
measured_more is_form before after ds d was keeps there =
    let P : HostDomain → Type 0 = λ (x : HostDomain). is_form x.domain ≡ true → has_length (length x.domain - 1) before ≡ true in
    let Q : HostDomain → Type 0 = λ (x : HostDomain). is_form x.domain ≡ true → has_length (length x.domain - 1) after ≡ true in
    All-append Q ds (d ∷ []) (All-weaker P Q (λ x known form. keeps (length x.domain - 1) (known form)) ds was) (All-cons Q d [] there (All-nil Q))

-- a length that isn't there is none of a form's
pub beside_none : (is_form : List ℕ → Bool) (fits : HostDomain → Bool) (there : List Bool) (n : ℕ) (ds : List HostDomain)
    → ((d : HostDomain) → fits d ≡ true → is_form d.domain ≡ true) → AreMeasured is_form there ds → has_length n there ≡ false → find_beside n fits ds ≡ None
beside_none is_form fits there n ds form known lacks =
    find_never (λ (d : HostDomain). (length d.domain == n + 1) && fits d) ds (All-weaker P Q (λ d. by d (length d.domain == n + 1) (fits d) refl refl) ds known)
  where
    P : HostDomain → Type 0
    P x = is_form x.domain ≡ true → has_length (length x.domain - 1) there ≡ true

    Q : HostDomain → Type 0
    Q x = (length x.domain == n + 1) && fits x ≡ false

    by : (d : HostDomain) (b c : Bool) → (length d.domain == n + 1) ≡ b → fits d ≡ c → P d → b && c ≡ false
    by d true true at is measured =
        let one : length d.domain - 1 ≡ n = grind (arith, nat_tests) in
        absurd (true≢false (sym (measured (form d is)) ∙ ap (λ k. has_length k there) one ∙ lacks))
    by d true false at is measured = refl
    by d false c at is measured = refl

-- the table with one more domain
pub listed_more : (old new : List HostDomain) (d : HostDomain) (texts after : List ℕ → Option HostDomain) (suffixes suffixes' prefixes prefixes' : List Bool)
    → new ≡ old ++ d ∷ [] → AreListed old texts suffixes prefixes
    → ((text : List ℕ) → after text ≡ option_or (texts text) (find (is_domain text) (d ∷ [])))
    → KeepsLengths suffixes suffixes' → (is_suffix_form d.domain ≡ true → has_length (length d.domain - 1) suffixes' ≡ true)
    → KeepsLengths prefixes prefixes' → (is_prefix_form d.domain ≡ true → has_length (length d.domain - 1) prefixes' ≡ true)
    → AreListed new after suffixes' prefixes'
listed_more old new d texts after suffixes suffixes' prefixes prefixes' all was by_text keeps_s there_s keeps_p there_p = record {
  text = λ text. by_text text ∙ ap (λ o. option_or o (find (is_domain text) (d ∷ []))) (was.text text) ∙ sym (find-append (is_domain text) old (d ∷ [])) ∙ sym (ap (find (is_domain text)) all);
  suffixes = subst (AreMeasured is_suffix_form suffixes') (sym all) (measured_more is_suffix_form suffixes suffixes' old d was.suffixes keeps_s there_s);
  prefixes = subst (AreMeasured is_prefix_form prefixes') (sym all) (measured_more is_prefix_form prefixes prefixes' old d was.prefixes keeps_p there_p);
}

-- a domain that is the host comes first
pub found_first : (ds : List HostDomain) (host : List ℕ) (d : HostDomain) → find (is_domain host) ds ≡ Some d → Some d ≡ domain_for ds host
found_first ds host d found = sym (ap (λ o. option_or o (pattern_for ds host)) found)

-- where none is, the patterns decide
pub found_none : (ds : List HostDomain) (host : List ℕ) → find (is_domain host) ds ≡ None → pattern_for ds host ≡ domain_for ds host
found_none ds host none = sym (ap (λ o. option_or o (pattern_for ds host)) none)

-- a form has more than its star
form_more : (b : Bool) (n : ℕ) → b && nat_lt 1 n ≡ true → 1 < n
form_more true n is = grind (arith, nat_tests)
form_more false n is = absurd (true≢false (sym is))

-- a form that fits a host has no more bytes than it
form_short : (b : Bool) (m n : ℕ) → b && nat_lt (m - 1) n ≡ true → m ≤ n
form_short true m n is =
    let less : m - 1 < n = grind (arith, nat_tests) in
    omega (arith, less)
form_short false m n is = absurd (true≢false (sym is))

pub suffix_is : (host : List ℕ) (d : HostDomain) → has_suffix host d ≡ true → is_suffix_form d.domain ≡ true
suffix_is host d has = first_so (is_suffix_form d.domain) _ (first_so _ _ has)

pub prefix_is : (host : List ℕ) (d : HostDomain) → has_prefix host d ≡ true → is_prefix_form d.domain ≡ true
prefix_is host d has = first_so (is_prefix_form d.domain) _ (first_so _ _ has)

pub suffix_more : (host : List ℕ) (d : HostDomain) → has_suffix host d ≡ true → 1 < length d.domain
suffix_more host d has = form_more _ (length d.domain) (suffix_is host d has)

pub prefix_more : (host : List ℕ) (d : HostDomain) → has_prefix host d ≡ true → 1 < length d.domain
prefix_more host d has = form_more _ (length d.domain) (prefix_is host d has)

pub suffix_short : (host : List ℕ) (ds : List HostDomain) → FitsWithin (has_suffix host) (length host) ds
suffix_short host [] = All-nil (λ (d : HostDomain). has_suffix host d ≡ true → length d.domain ≤ length host)
suffix_short host (d ∷ ds) =
    All-cons (λ (x : HostDomain). has_suffix host x ≡ true → length x.domain ≤ length host) d ds
    (λ has. form_short _ (length d.domain) (length host) has) (suffix_short host ds)

pub prefix_short : (host : List ℕ) (ds : List HostDomain) → FitsWithin (has_prefix host) (length host) ds
prefix_short host [] = All-nil (λ (d : HostDomain). has_prefix host d ≡ true → length d.domain ≤ length host)
prefix_short host (d ∷ ds) =
    All-cons (λ (x : HostDomain). has_prefix host x ≡ true → length x.domain ≤ length host) d ds
    (λ has. form_short _ (length d.domain) (length host) has) (prefix_short host ds)

-- those that fit have at most more bytes too
pub fits_weaker : (p : HostDomain → Bool) (m n : ℕ) (ds : List HostDomain) → m ≤ n → FitsWithin p m ds → FitsWithin p n ds
fits_weaker p m n ds le within =
    All-weaker (λ (d : HostDomain). p d ≡ true → length d.domain ≤ m) (λ (d : HostDomain). p d ≡ true → length d.domain ≤ n)
    (λ d short is. let few : length d.domain ≤ m = short is in omega (arith, few)) ds within

-- a host that begins with a star begins with no prefix form
starred : (host text : List ℕ) → begins_with host (codes "*") ≡ true → is_prefix_form text && begins_with host (take (length text - 1) text) ≡ false
starred host [] star = refl
starred host (x ∷ []) star = grind (arith, common_steps, nat_tests)
starred [] (x ∷ y ∷ text) star = absurd (true≢false (sym star))
starred (h ∷ host) (x ∷ y ∷ text) star =
    let one : length (x ∷ y ∷ text) - 1 ≡ suc (length text) = omega arith in
    let first : begins_with (h ∷ host) (x ∷ take (length text) (y ∷ text)) && not (nat_eq x 42) ≡ false = grind (arith, common_steps, nat_tests, star) in
    ap (λ k. is_prefix_form (x ∷ y ∷ text) && begins_with (h ∷ host) (take k (x ∷ y ∷ text))) one
    ∙ grind (arith, common_steps, nat_tests, first)

pub prefix_starred : (host : List ℕ) → begins_with host (codes "*") ≡ true → (ds : List HostDomain) → FitsWithin (has_prefix host) 1 ds
prefix_starred host star [] = All-nil (λ (d : HostDomain). has_prefix host d ≡ true → length d.domain ≤ 1)
prefix_starred host star (d ∷ ds) =
    All-cons (λ (x : HostDomain). has_prefix host x ≡ true → length x.domain ≤ 1) d ds
    (λ has. absurd (true≢false (sym (first_so _ _ has) ∙ starred host d.domain star))) (prefix_starred host star ds)

-- where no suffix form and no prefix form fits, `*` is left
pub pattern_last : (ds : List HostDomain) (host : List ℕ) → by_suffix ds host ≡ None → by_prefix ds host ≡ None → find is_any ds ≡ pattern_for ds host
pattern_last ds host no_suffix no_prefix = sym (λ i. option_or (no_suffix i) (option_or (no_prefix i) (find is_any ds)))
