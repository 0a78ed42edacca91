-- When listeners are equal.
use Rattle.std.specs.Prelude.{Bool, true, false, ◌≡◌, ◌&&◌, refl}
use Rattle.std.specs.Bool.{Decides}
use Rattle.std.specs.Option.{option_eq}
use Rattle.std.specs.Str.{bytes_eq}
use Rattle.std.proofs.Common.{ap}
use lib.Pointwise.{pointwise, pointwise_decides}
use Rattle.ev_types.specs.declared.listeners.Serve.{Serve}
use Rattle.ev_types.specs.declared.listeners.Serve.TheVariants.{Rds, Inline, Tcp, Other}
use Rattle.ev_types.specs.declared.listeners.FilterChain.{FilterChain}
use Rattle.ev_types.specs.declared.listeners.Listener.{Listener}
use Rattle.ev_types.specs.FilterChains.{filter_chain_match_same, filter_chain_match_decides}
use Rattle.ev_types.specs.Same.{bool_same, bool_decides, both_decide, decides_as, bytes_decide, option_decides}
use Rattle.ev_types.specs.SameHosts.{socket_same, socket_decides}
use Rattle.ev_types.specs.SameReferences.{references_same, references_decide}
use Rattle.ev_types.specs.SameRoutes.{route_table_same, route_table_decides, target_same, target_decides}

-- the same routes, the same name under the same kind of time limit, or the same target; what isn't read is one
abbrev pub serve_same : Serve → Serve → Bool
serve_same (Rds name limited) (Rds name' limited') = bytes_eq name name' && bool_same limited limited'
serve_same (Inline a) (Inline b) = route_table_same a b
serve_same (Tcp a) (Tcp b) = target_same a b
serve_same Other Other = true
serve_same a b = false

-- the same connections are taken, and served the same by the same secrets and extensions, and the text is the same
abbrev pub filter_chain_same : FilterChain → FilterChain → Bool
filter_chain_same a b =
    filter_chain_match_same a.criteria b.criteria
    && serve_same a.serve b.serve
    && references_same a.secrets b.secrets
    && references_same a.extensions b.extensions
    && bytes_eq a.body_text b.body_text

-- the same address, and the same marks
abbrev pub listens_same : Listener → Listener → Bool
listens_same a b =
    socket_same a.address b.address
    && bool_same a.takes_every_address b.takes_every_address
    && bool_same a.restores b.restores
    && bool_same a.hands_over b.hands_over

-- the same chains in the same order, and the same extensions
abbrev pub serves_same : Listener → Listener → Bool
serves_same a b =
    pointwise filter_chain_same a.filter_chains b.filter_chains
    && option_eq filter_chain_same a.default_filter_chain b.default_filter_chain
    && references_same a.extensions b.extensions

-- the same name, and the same texts of the frame and of the body
abbrev pub written_same : Listener → Listener → Bool
written_same a b = bytes_eq a.name b.name && bytes_eq a.frame_text b.frame_text && bytes_eq a.body_text b.body_text

-- equal in all of these
abbrev pub listener_same : Listener → Listener → Bool
listener_same a b = listens_same a b && serves_same a b && written_same a b

pub serve_decides : (a b : Serve) → Decides (serve_same a b) (a ≡ b)
serve_decides (Rds name limited) (Rds name' limited') =
    decides_as (both_decide (bytes_decide name name') (bool_decides limited limited')) (λ (p, q). λ i. Rds (p i) (q i)) (λ e. (cc, cc))
serve_decides (Inline a) (Inline b) = decides_as (route_table_decides a b) (λ e. ap Inline e) (λ e. cc)
serve_decides (Tcp a) (Tcp b) = decides_as (target_decides a b) (λ e. ap Tcp e) (λ e. cc)
serve_decides Other Other = (λ h. refl, λ e. refl)
serve_decides a b = (λ h. cc, λ e. cc)

pub filter_chain_decides : (a b : FilterChain) → Decides (filter_chain_same a b) (a ≡ b)
filter_chain_decides a b = decides_as
    (both_decide (both_decide (both_decide (both_decide
    (filter_chain_match_decides a.criteria b.criteria)
    (serve_decides a.serve b.serve))
    (references_decide a.secrets b.secrets))
    (references_decide a.extensions b.extensions))
    (bytes_decide a.body_text b.body_text))
    (λ p. λ i. record { criteria = p.0.0.0.0 i; serve = p.0.0.0.1 i; secrets = p.0.0.1 i; extensions = p.0.1 i; body_text = p.1 i })
    (λ e. (
      (
        ((ap (λ (c : FilterChain). c.criteria) e, ap (λ (c : FilterChain). c.serve) e), ap (λ (c : FilterChain). c.secrets) e),
        ap (λ (c : FilterChain). c.extensions) e,
      ),
      ap (λ (c : FilterChain). c.body_text) e,
    ))

pub listener_decides : (a b : Listener) → Decides (listener_same a b) (a ≡ b)
listener_decides a b = decides_as (both_decide (both_decide
    (both_decide (both_decide (both_decide
    (socket_decides a.address b.address)
    (bool_decides a.takes_every_address b.takes_every_address))
    (bool_decides a.restores b.restores))
    (bool_decides a.hands_over b.hands_over))
    (both_decide (both_decide
    (pointwise_decides filter_chain_decides a.filter_chains b.filter_chains)
    (option_decides filter_chain_decides a.default_filter_chain b.default_filter_chain))
    (references_decide a.extensions b.extensions)))
    (both_decide (both_decide
    (bytes_decide a.name b.name)
    (bytes_decide a.frame_text b.frame_text))
    (bytes_decide a.body_text b.body_text)))
    (λ p. λ i. record {
      name = p.1.0.0 i;
      address = p.0.0.0.0.0 i;
      takes_every_address = p.0.0.0.0.1 i;
      restores = p.0.0.0.1 i;
      hands_over = p.0.0.1 i;
      filter_chains = p.0.1.0.0 i;
      default_filter_chain = p.0.1.0.1 i;
      extensions = p.0.1.1 i;
      frame_text = p.1.0.1 i;
      body_text = p.1.1 i;
    })
    (λ e. (
      (
        (
          (
            (ap (λ (l : Listener). l.address) e, ap (λ (l : Listener). l.takes_every_address) e),
            ap (λ (l : Listener). l.restores) e,
          ),
          ap (λ (l : Listener). l.hands_over) e,
        ),
        (
          (ap (λ (l : Listener). l.filter_chains) e, ap (λ (l : Listener). l.default_filter_chain) e),
          ap (λ (l : Listener). l.extensions) e,
        ),
      ),
      ((ap (λ (l : Listener). l.name) e, ap (λ (l : Listener). l.frame_text) e), ap (λ (l : Listener). l.body_text) e),
    ))
