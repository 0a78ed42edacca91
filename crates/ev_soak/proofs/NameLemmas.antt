-- Names of a word and a number, and the hosts.
use Rattle.std.proofs.Common.{◌≡◌, ℕ, ◌+◌, ◌<◌, ◌≤◌, ◌^◌, ◌⊎◌, inl, inr, Bool, List, [], ◌∷◌, ◌++◌, length, map, sym, subst, ap, arith, codes, lit≤, lit<}
use Rattle.std.specs.List.{range_with_len}
use Rattle.std.specs.Fmt.{decimal}
use Rattle.std.proofs.lemmas.Fmt.{length-decimal-le}
use Rattle.std.proofs.lemmas.List.{length-append}
use Rattle.std.proofs.lemmas.List.FromFn.{map-range_with_len_more, length-map-range_with_len}
use Rattle.ev_types.specs.Texts.{IsName}
use Rattle.ev_types.specs.Items.{IsOwnName}
use Rattle.ev_types.specs.declared.contents.Body.TheVariants.{Good}
use Rattle.ev_types.specs.declared.contents.Content.{Content}
use Rattle.ev_soak.specs.Soak.{numbered, cluster_name, listener_name, routes_name, host_row, cluster_content, hosts_content, listener_content, routes_content}

digits_fit : (n : ℕ) → n < 2 ^ 32 → length (decimal n) ≤ 10
digits_fit n small =
    let low : 2 ^ 32 ≤ 10 ^ 10 = lit≤ tt in
    let high : 2 ^ 32 ≤ 2 ^ 64 = lit≤ tt in
    length-decimal-le 10 n (omega arith) (omega (arith, small, low)) (omega (arith, small, high))

pub is_name : (word : List ℕ) (n : ℕ) → 1 ≤ length word → length word ≤ 10 → n < 2 ^ 32 → IsName (numbered word n)
is_name word n given short small =
    let fit : length (decimal n) ≤ 10 = digits_fit n small in
    let long : length (word ++ decimal n) ≡ length word + length (decimal n) = length-append word (decimal n) in
    record { given = omega (arith, given, long); short = omega (arith, short, fit, long) }

-- so it is a name
pub never_long : (word bytes : List ℕ) (n : ℕ) → 1 ≤ length word → length word ≤ 10 → n < 2 ^ 32 → bytes ≡ word ++ decimal n → (length bytes ≡ 0) ⊎ (512 < length bytes) → ⊥
never_long word bytes n given short small is (inl none) =
    let name : IsName bytes = subst IsName (sym is) (is_name word n given short small) in
    omega (arith, name.given, none)
never_long word bytes n given short small is (inr long) =
    let name : IsName bytes = subst IsName (sym is) (is_name word n given short small) in
    omega (arith, name.short, long)

-- each content's own name
pub own_cluster : (name : List ℕ) (content : Content) (n : ℕ) (checked : Bool) → n < 2 ^ 32 → content ≡ cluster_content n checked → name ≡ cluster_name n → IsOwnName name (Good content)
own_cluster name content n checked small is named =
    subst (λ (c : Content). IsOwnName name (Good c)) (sym is)
    (subst IsName (sym named) (is_name (codes "c") n (lit≤ tt) (lit≤ tt) small), sym named)

pub own_hosts : (name : List ℕ) (content : Content) (n count : ℕ) → n < 2 ^ 32 → content ≡ hosts_content count → name ≡ cluster_name n → IsOwnName name (Good content)
own_hosts name content n count small is named =
    subst (λ (c : Content). IsOwnName name (Good c)) (sym is) (subst IsName (sym named) (is_name (codes "c") n (lit≤ tt) (lit≤ tt) small))

pub own_listener : (name : List ℕ) (content : Content) (n port : ℕ) → n < 2 ^ 32 → content ≡ listener_content n port → name ≡ listener_name n → IsOwnName name (Good content)
own_listener name content n port small is named =
    subst (λ (c : Content). IsOwnName name (Good c)) (sym is)
    (subst IsName (sym named) (is_name (codes "l") n (lit≤ tt) (lit≤ tt) small), sym named)

pub own_routes : (name : List ℕ) (content : Content) (n cluster : ℕ) → n < 2 ^ 32 → content ≡ routes_content cluster → name ≡ routes_name n → IsOwnName name (Good content)
own_routes name content n cluster small is named =
    subst (λ (c : Content). IsOwnName name (Good c)) (sym is) (subst IsName (sym named) (is_name (codes "r") n (lit≤ tt) (lit≤ tt) small))

-- one host more
pub hosts_more : (n : ℕ) → map host_row (range_with_len 1 (n + 1)) ≡ map host_row (range_with_len 1 n) ++ host_row (n + 1) ∷ []
hosts_more n = map-range_with_len_more host_row 1 n (n + 1) (omega arith)

-- and they are few
pub few_hosts : (count : ℕ) → count ≤ 3 → length (map host_row (range_with_len 1 count)) < 4294967295
few_hosts count few = let long : length (map host_row (range_with_len 1 count)) ≡ count = length-map-range_with_len host_row 1 count in let wide : 3 < 4294967295 = lit< tt in omega (arith, long, few, wide)
