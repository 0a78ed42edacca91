-- The address that a text writes, by std's relation, is the one that the definition reads.
use Rattle.std.proofs.Common.{◌≡◌, ◌∙◌, sym, ap, subst, refl, ℕ, Bool, List, [], ◌∷◌, length, ne_eqb, arith, if◌then◌else◌, Option, Some, None, option_map, lit≤, append-nil, Result, Ok, Err}
use Rattle.std.proofs.lemmas.Option.{none-some}
use Rattle.std.specs.declared.net.ipv4_addr.Ipv4Addr.{Ipv4Addr}
use Rattle.std.specs.declared.net.ipv6_addr.Ipv6Addr.{Ipv6Addr}
use Rattle.std.specs.declared.net.ip_addr.IpAddr.{IpAddr}
use Rattle.std.specs.declared.net.ip_addr.IpAddr.TheVariants as Std
use Rattle.std.specs.Net.Addr.{ipv4_bits, ipv6_bits, ipv4_octets, ipv6_segments}
use Rattle.std.specs.Net.Grammar.{Parses, IsDotted, IsColonHex, IsIpText}
use Rattle.std.specs.Net.Reader.{read_ipv4, read_ipv6, whole_value}
use Rattle.std.proofs.NetLemmas.Ipv4.{read_ipv4_complete, read_ipv4_sound}
use Rattle.std.proofs.NetLemmas.Ipv6.{read_ipv6_complete, read_ipv6_sound, EndsGroups-nil, IsDotted-not_colon_hex}
use Rattle.ev_types.specs.declared.ips.Ip.TheVariants.{V4, V6}
use Rattle.ev_types.specs.Ips.{ip_of}

-- a value of the whole text was read with nothing left
whole_is : {A : Type 0} (r : Option (A × List ℕ)) (v : A) → whole_value r ≡ Some v → r ≡ Some (v, [])
whole_is None v e = absurd (none-some v e)
whole_is (Some (w, [])) v e = ap (option_map (λ x. (x, []))) e
whole_is {A} (Some (w, c ∷ rest)) v e =
    let other : Bool → Option A = λ b. if b then Some w else None in
    absurd (none-some v (subst (λ b. other b ≡ Some v) (ne_eqb (length (c ∷ rest)) 0 (omega arith)) e))

-- what is never Some is None
none_unless : {A : Type 0} (o : Option A) → ((a : A) → o ≡ Some a → ⊥) → o ≡ None
none_unless None never = refl
none_unless (Some a) never = absurd (never a refl)

whole_dotted : (text octets : List ℕ) → whole_value (read_ipv4 text) ≡ Some octets → IsDotted text octets
whole_dotted text octets e =
    let (front, split, spells) = read_ipv4_sound text octets [] (whole_is (read_ipv4 text) octets e) in
    subst (λ t. IsDotted t octets) (sym (split ∙ append-nil front)) spells

whole_colon_hex : (text segments : List ℕ) → whole_value (read_ipv6 text) ≡ Some segments → IsColonHex text segments
whole_colon_hex text segments e =
    let (front, split, spells) = read_ipv6_sound text segments [] (whole_is (read_ipv6 text) segments e) in
    subst (λ t. IsColonHex t segments) (sym (split ∙ append-nil front)) spells

dotted_whole : (text octets : List ℕ) → IsDotted text octets → whole_value (read_ipv4 text) ≡ Some octets
dotted_whole text octets h =
    ap (λ t. whole_value (read_ipv4 t)) (sym (append-nil text)) ∙ ap whole_value (read_ipv4_complete text octets [] h (lit≤ tt))

colon_hex_whole : (text segments : List ℕ) → IsColonHex text segments → whole_value (read_ipv6 text) ≡ Some segments
colon_hex_whole text segments h =
    ap (λ t. whole_value (read_ipv6 t)) (sym (append-nil text)) ∙ ap whole_value (read_ipv6_complete text segments [] h EndsGroups-nil)

-- what writes an IPv6 address writes no IPv4 one
colon_hex_no_dotted : (text segments : List ℕ) → IsColonHex text segments → whole_value (read_ipv4 text) ≡ None
colon_hex_no_dotted text segments h =
    none_unless _ (λ octets e. IsDotted-not_colon_hex text octets segments (whole_dotted text octets e) h)

dotted_read : (text : List ℕ) (a : Ipv4Addr) → IsDotted text (ipv4_octets a) → ip_of text ≡ Some (V4 (ipv4_bits a))
dotted_read text a spells = unfold ip_of ipv4_bits in rw (dotted_whole text _ spells) refl

colon_hex_read : (text : List ℕ) (a : Ipv6Addr) → IsColonHex text (ipv6_segments a) → ip_of text ≡ Some (V6 (ipv6_bits a))
colon_hex_read text a spells = unfold ip_of ipv6_bits in rw (colon_hex_no_dotted text _ spells, colon_hex_whole text _ spells) refl

nothing_read : (text : List ℕ) → ((a : IpAddr) → ¬ (IsIpText text a)) → ip_of text ≡ None
nothing_read text never =
    let no_v4 = none_unless (whole_value (read_ipv4 text)) (λ octets h. never (Std.V4 (record { octets = octets })) (whole_dotted text octets h)) in
    let no_v6 = none_unless (whole_value (read_ipv6 text)) (λ segments h. never (Std.V6 (record { segments = segments })) (whole_colon_hex text segments h)) in
    unfold ip_of in rw (no_v4, no_v6) refl

-- what `from_str` gives is what the definition reads
module _ {E : Type 0} (text : List ℕ) (r : Result IpAddr E) (parsed : Parses IsIpText text r) where
  pub v4_is_read : (a : Ipv4Addr) → r ≡ Ok (Std.V4 a) → Some (V4 (ipv4_bits a)) ≡ ip_of text
  v4_is_read a is = sym (dotted_read text a (subst (Parses IsIpText text) is parsed))

  pub v6_is_read : (a : Ipv6Addr) → r ≡ Ok (Std.V6 a) → Some (V6 (ipv6_bits a)) ≡ ip_of text
  v6_is_read a is = sym (colon_hex_read text a (subst (Parses IsIpText text) is parsed))

  pub none_is_read : (e : E) → r ≡ Err e → None ≡ ip_of text
  none_is_read e is = sym (nothing_read text (subst (Parses IsIpText text) is parsed))
