-- The domains of a routing, each with the virtual host that it stands in.
use Rattle.std.specs.Prelude.{◌≡◌, ℕ, ◌+◌, ◌-◌, ◌==◌, Bool, true, false, ◌&&◌, All, List, [], ◌∷◌, length, slice_index_or, Option, option_map, find}
use Rattle.std.specs.Option.{option_or}
use Rattle.std.specs.Str.{str_to_ascii_lowercase}
use Rattle.ev_types.specs.declared.routes.VirtualHost.{VirtualHost}
use Rattle.ev_model.specs.Choice.{HostDomain, by_prefix, by_suffix, domain_for, domains_of, is_any, is_domain, is_prefix_form, is_suffix_form}
use Rattle.ev_model.specs.declared.pictures.Routing.{Routing}
use Rattle.ev_model.specs.declared.pictures.Routing.TheVariants.{Table, Tcp, Other}

-- a virtual host with nothing, for places beyond a list
abbrev pub no_host : VirtualHost
no_host = record { name = []; domains = []; routes = [] }

-- the virtual host at a place
abbrev pub host_at : List VirtualHost → ℕ → VirtualHost
host_at hosts place = slice_index_or hosts place no_host

-- the domains by which connections go
abbrev pub domains_in : Routing → List HostDomain
domains_in (Table table) = domains_of table
domains_in (Tcp target) = []
domains_in Other = []

-- the virtual host that a host text goes to
abbrev pub host_for : Routing → List ℕ → Option VirtualHost
host_for routing host = option_map (λ (d : HostDomain). d.host) (domain_for (domains_in routing) (str_to_ascii_lowercase host))

-- a domain of a virtual host, with its ASCII letters as lower case
abbrev pub lower_domain : List ℕ → VirtualHost → HostDomain
lower_domain domain host = record { domain = str_to_ascii_lowercase domain; host = host }

-- the domain that a host goes by which is none of these
abbrev pub pattern_for : List HostDomain → List ℕ → Option HostDomain
pattern_for ds host = option_or (by_suffix ds host) (option_or (by_prefix ds host) (find is_any ds))

-- the second table finds what the first finds, or else this domain by its text
abbrev pub GainsText : HostDomain → (List ℕ → Option HostDomain) → (List ℕ → Option HostDomain) → Type 0
GainsText domain before after = (text : List ℕ) → after text ≡ option_or (before text) (find (is_domain text) (domain ∷ []))

-- the length is there
abbrev pub has_length : ℕ → List Bool → Bool
has_length n there = slice_index_or there n false

-- each length of the first list is in the second
abbrev pub KeepsLengths : List Bool → List Bool → Type 0
KeepsLengths before after = (n : ℕ) → has_length n before ≡ true → has_length n after ≡ true

-- the lengths of before are there, and of a text that has the form how many bytes are beside its star
abbrev pub GainsLength : (List ℕ → Bool) → List ℕ → List Bool → List Bool → Type 0
GainsLength is_form text before after = KeepsLengths before after × (is_form text ≡ true → has_length (length text - 1) after ≡ true)

-- the first domain that passes the test, with this many bytes beside its star
abbrev pub find_beside : ℕ → (HostDomain → Bool) → List HostDomain → Option HostDomain
find_beside n fits domains = find (λ (d : HostDomain). (length d.domain == n + 1) && fits d) domains

-- of each domain of a form, how many bytes are beside its star is there
abbrev pub AreMeasured : (List ℕ → Bool) → List Bool → List HostDomain → Type 0
AreMeasured is_form there domains = All (λ (d : HostDomain). is_form d.domain ≡ true → has_length (length d.domain - 1) there ≡ true) domains

-- the table finds what a search of the domains finds, and what is beside the stars of both forms is measured
pub record AreListed (domains : List HostDomain) (by_text : List ℕ → Option HostDomain) (behind before : List Bool) : Type 0 where
  pub text : (text : List ℕ) → by_text text ≡ find (is_domain text) domains
  pub suffixes : AreMeasured is_suffix_form behind domains
  pub prefixes : AreMeasured is_prefix_form before domains
