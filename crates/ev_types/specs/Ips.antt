-- IP addresses by their bits, and ranges of them. An address is what Rust's `IpAddr::from_str` takes:
-- an IPv4 address has four decimal numbers without leading zeros,
-- an IPv6 one is written as RFC 4291 has it, without a zone.
use Rattle.std.specs.Prelude.{ℕ, ◌+◌, ◌-◌, ◌/◌, ◌^◌, ◌≡◌, ◌&&◌, ◌==◌, Bool, false, nat_le, if◌then◌else◌, List, [], map, reverse, Option, Some, None, option_map}
use Rattle.std.specs.Bool.{Decides}
use Rattle.std.specs.Option.{option_or}
use Rattle.std.specs.List.{range_with_len}
use Rattle.std.specs.Int.{w32, w128, from_be_bytes}
use Rattle.std.specs.Net.Addr.{octets_of}
use Rattle.std.specs.Net.Reader.{read_ipv4, read_ipv6, whole_value}
use Rattle.std.proofs.Common.{ap}
use Rattle.ev_types.specs.declared.ips.Ip.{Ip}
use Rattle.ev_types.specs.declared.ips.Ip.TheVariants.{V4, V6}
use Rattle.ev_types.specs.declared.ips.CidrRange.{CidrRange}
use Rattle.ev_types.specs.Same.{both_decide, decides_as, numbers_decide}

-- the IPv4 address that the whole text writes
abbrev pub ipv4_of : List ℕ → Option Ip
ipv4_of text = option_map (λ octets. V4 (from_be_bytes w32 octets)) (whole_value (read_ipv4 text))

-- the IPv6 address that the whole text writes
abbrev pub ipv6_of : List ℕ → Option Ip
ipv6_of text = option_map (λ segments. V6 (from_be_bytes w128 (octets_of segments))) (whole_value (read_ipv6 text))

-- the IP address that a text writes, if it writes one
unfoldable pub ip_of : List ℕ → Option Ip
ip_of text = option_or (ipv4_of text) (ipv6_of text)

-- how many bits an address has
abbrev pub width : Ip → ℕ
width (V4 bits) = 32
width (V6 bits) = 128

-- the first n bits of an address
abbrev pub first_bits : ℕ → Ip → Ip
first_bits count (V4 bits) = V4 (bits / 2 ^ (32 - count))
first_bits count (V6 bits) = V6 (bits / 2 ^ (128 - count))

-- the range of the addresses that have the first n bits of this one
abbrev pub range_about : Ip → ℕ → CidrRange
range_about ip count = record { prefix_len = count; prefix = first_bits count ip }

-- the range, where the address has this many bits
abbrev pub range_within : Ip → ℕ → Option CidrRange
range_within ip count = if nat_le count (width ip) then Some (range_about ip count) else None

-- the ranges that hold an address, the longest first
abbrev pub ranges_about : Option Ip → List CidrRange
ranges_about None = []
ranges_about (Some ip) = map (range_about ip) (reverse (range_with_len 0 (width ip + 1)))

-- the same bits of the same family
abbrev pub ip_same : Ip → Ip → Bool
ip_same (V4 a) (V4 b) = a == b
ip_same (V6 a) (V6 b) = a == b
ip_same a b = false

-- the same length, and the same bits that count
abbrev pub cidr_range_same : CidrRange → CidrRange → Bool
cidr_range_same a b = (a.prefix_len == b.prefix_len) && ip_same a.prefix b.prefix

pub ip_decides : (a b : Ip) → Decides (ip_same a b) (a ≡ b)
ip_decides (V4 a) (V4 b) = decides_as (numbers_decide a b) (λ e. ap V4 e) (λ e. cc)
ip_decides (V6 a) (V6 b) = decides_as (numbers_decide a b) (λ e. ap V6 e) (λ e. cc)
ip_decides a b = (λ h. cc, λ e. cc)

pub cidr_range_decides : (a b : CidrRange) → Decides (cidr_range_same a b) (a ≡ b)
cidr_range_decides a b = decides_as (both_decide (numbers_decide a.prefix_len b.prefix_len) (ip_decides a.prefix b.prefix))
    (λ (p, q). λ i. record { prefix_len = p i; prefix = q i })
    (λ e. (ap (λ (r : CidrRange). r.prefix_len) e, ap (λ (r : CidrRange). r.prefix) e))
