-- Ranges of IP addresses (`envoy.config.core.v3.CidrRange`), and the rules that they break.
use Rattle.std.specs.Prelude.{ℕ, ◌||◌, List, [], not, Option, is_some, option_and_then, unwrap_or, codes}
use Rattle.serde_json.specs.Data.{Data}
use Rattle.ev_types.specs.declared.ips.Ip.TheVariants.{V4}
use Rattle.ev_types.specs.declared.ips.CidrRange.{CidrRange}
use Rattle.ev_types.specs.Ips.{ip_of, range_within}
use Rattle.ev_tree.specs.declared.broken.BrokenRules.{BrokenRules}
use Rattle.ev_tree.specs.Forms.{is_wrong, given_or, text_of, number_of}
use Rattle.ev_tree.specs.Broken.{none_broken}

-- the range that an address and a length name: none where the text is no IP address, or has fewer bits
abbrev pub named_range : List ℕ → ℕ → Option CidrRange
named_range text count = option_and_then (λ ip. range_within ip count) (ip_of text)

-- the range that is given, if it is one. Its length is 0 where none is given.
unfoldable pub cidr_range_in : Data → Option CidrRange
cidr_range_in range = named_range (given_or [] (text_of (codes "address_prefix") range)) (given_or 0 (number_of (codes "prefix_len") range))

-- the range, or that of all IPv4 addresses. One that is none breaks V16, so the other never shows.
abbrev pub range_or_every : Option CidrRange → CidrRange
range_or_every found = unwrap_or found (record { prefix_len = 0; prefix = V4 0 })

unfoldable pub cidr_range_of : Data → CidrRange
cidr_range_of range = range_or_every (cidr_range_in range)

-- What a range breaks. V16: its prefix is no IP address, or its length is over 32 of IPv4, or over 128 of IPv6.
unfoldable pub cidr_range_broken : Data → BrokenRules
cidr_range_broken range = record none_broken {
  v6 = is_wrong (text_of (codes "address_prefix") range) || is_wrong (number_of (codes "prefix_len") range);
  v16 = not (is_some (cidr_range_in range));
}
