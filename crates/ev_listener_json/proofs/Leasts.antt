-- A listener that breaks no rule has a name and an address.
use Rattle.std.proofs.Common.{◌≡◌, ◌∙◌, ℕ, ◌||◌, ◌&&◌, not, Bool, true, false, true≢false, List, None, cond, refl, ap, codes}
use Rattle.serde_json.specs.Data.{Data}
use Rattle.ev_tree.specs.declared.broken.BrokenRules.{BrokenRules}
use Rattle.ev_tree.specs.Forms.{is_wrong, text_of}
use Rattle.ev_tree.specs.Rules.{is_name}
use Rattle.ev_tree.specs.Broken.{least_of}
use Rattle.ev_tree.specs.Addresses.{address_text_of, address_broken, any_text_of, any_address_broken}
use Rattle.ev_tree.proofs.Unions.{least_none}
use Rattle.ev_listener_json.specs.Chains.{envoy_chains_broken}
use Rattle.ev_listener_json.specs.ListenerFilters.{redirection_broken, listener_extensions}
use Rattle.ev_listener_json.specs.Listeners.{listens_by_udp, listener_name, own_listener_broken, envoy_listener_broken, envoy_self_broken, lacks_address, named_address, listening_text, is_unusable}

left_false : (a b : Bool) → (a || b) ≡ false → a ≡ false
left_false true b e = absurd (true≢false e)
left_false false b e = refl

right_false : (a b : Bool) → (a || b) ≡ false → b ≡ false
right_false true b e = absurd (true≢false e)
right_false false b e = e

-- a name of the right form that is found to be none breaks a rule
named : (wrong is : Bool) → (not wrong && not is) ≡ false → wrong ≡ false → is ≡ true
named true is h w = absurd (true≢false w)
named false true h w = refl
named false false h w = absurd (true≢false h)

not_false : (a : Bool) → not a ≡ false → a ≡ true
not_false true e = refl
not_false false e = absurd (true≢false e)

-- by the own rules

pub own_name : (tree : Data) → least_of (own_listener_broken tree) ≡ None → is_name (listener_name tree) ≡ true
unfolding own_listener_broken
own_name tree h =
    let clear = least_none (own_listener_broken tree) h in
    let v3 = right_false _ _ (ap (λ (b : BrokenRules). b.v3) clear) in
    let v6 = right_false _ _ (ap (λ (b : BrokenRules). b.v6) clear) in
    named (is_wrong (text_of (codes "name") tree)) (is_name (listener_name tree)) v3 (left_false _ _ (left_false _ _ (left_false _ _ (left_false _ _ v6))))

pub own_address : (tree : Data) → least_of (own_listener_broken tree) ≡ None → is_name (address_text_of tree) ≡ true
unfolding own_listener_broken address_broken
own_address tree h =
    let clear = least_none (own_listener_broken tree) h in
    let v14 = right_false _ _ (ap (λ (b : BrokenRules). b.v14) clear) in
    not_false (is_name (address_text_of tree)) (left_false _ _ (left_false _ _ v14))

-- as Envoy reads it

pub envoy_name : (tree : Data) → least_of (envoy_listener_broken tree) ≡ None → is_name (listener_name tree) ≡ true
unfolding envoy_self_broken
envoy_name tree h =
    let clear = least_none (envoy_listener_broken tree) h in
    let v3 =
    right_false (listener_extensions tree).broken.v3 _ (right_false (redirection_broken tree).v3 _
    (right_false (envoy_chains_broken (listens_by_udp tree) tree).v3 _ (ap (λ (b : BrokenRules). b.v3) clear))) in
    let v6 =
    right_false (listener_extensions tree).broken.v6 _ (right_false (redirection_broken tree).v6 _
    (right_false (envoy_chains_broken (listens_by_udp tree) tree).v6 _ (ap (λ (b : BrokenRules). b.v6) clear))) in
    named (is_wrong (text_of (codes "name") tree)) (is_name (listener_name tree)) v3 (left_false _ _ (left_false _ _ (left_false _ _ v6)))

-- an address that V12 lets pass has a text that is a name
any_named : (tree : Data) → (any_address_broken tree).v12 ≡ false → is_name (any_text_of tree) ≡ true
unfolding any_address_broken
any_named tree e = not_false (is_name (any_text_of tree)) (right_false _ _ (left_false _ _ e))

usable : (by_name : Bool) (text named_text any_text : List ℕ) (broken : Bool) → text ≡ cond by_name named_text any_text → (broken ≡ false → is_name any_text ≡ true)
    → is_unusable by_name text broken ≡ false → is_name text ≡ true
usable true text named_text any_text broken is any e = not_false (is_name text) e
usable false text named_text any_text broken is any e = ap is_name is ∙ any e

pub envoy_address : (tree : Data) → least_of (envoy_listener_broken tree) ≡ None → is_name (listening_text tree) ≡ true
unfolding envoy_self_broken listening_text
envoy_address tree h =
    let clear = least_none (envoy_listener_broken tree) h in
    let v14 =
    right_false (listener_extensions tree).broken.v14 _ (right_false (redirection_broken tree).v14 _
    (right_false (envoy_chains_broken (listens_by_udp tree) tree).v14 _ (ap (λ (b : BrokenRules). b.v14) clear))) in
    usable (lacks_address tree) (listening_text tree) (named_address tree) (any_text_of tree) (any_address_broken tree).v12 refl (any_named tree) v14
