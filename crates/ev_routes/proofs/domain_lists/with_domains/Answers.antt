use Rattle.std.proofs.Common.{◌≡◌, ℕ, ◌+◌, ◌<◌, ◌≤◌, ◌++◌, List, [], ◌∷◌, length, map, take, get_or, ap, sym, ◌∙◌, subst, arith}
use Rattle.std.proofs.lemmas.Grind.{common_steps}
use Rattle.std.proofs.lemmas.List.{map_more, take_all}
use Rattle.ev_types.specs.declared.routes.VirtualHost.{VirtualHost}
use Rattle.ev_model.specs.Choice.{HostDomain}
use Rattle.ev_routes.specs.Domains.{lower_domain}
use Rattle.ev_routes.proofs.domain_lists.with_domains.Goals as goal

-- the list made of one more element
one_more : {X Y : Type 0} (f : X → Y) (before : List Y) (xs ys : List X) (i : ℕ) (x : X) (so next : List Y) (y : Y) → i < length ys → ys ≡ xs
    → x ≡ get_or ys i x → so ≡ before ++ map f (take i xs) → y ≡ f x → next ≡ so ++ y ∷ [] → next ≡ before ++ map f (take (i + 1) xs)
one_more f before xs ys i x so next y less same at was is all =
    let below : i < length xs = subst (λ l. i < length l) same less in
    let here : x ≡ get_or xs i x = at ∙ ap (λ l. get_or l i x) same in
    let more : map f (take i xs) ++ f x ∷ [] ≡ map f (take (i + 1) xs) =
    ap (λ z. map f (take i xs) ++ f z ∷ []) here ∙ sym (map_more f xs i x below) in
    let along : (before ++ map f (take i xs)) ++ f x ∷ [] ≡ before ++ (map f (take i xs) ++ f x ∷ []) = grind (arith, common_steps) in
    all ∙ ap (λ l. l ++ y ∷ []) was ∙ ap (λ z. (before ++ map f (take i xs)) ++ z ∷ []) is ∙ along ∙ ap (λ l. before ++ l) more

pub loop-domain-preserved : goal.loop-domain-preserved
loop-domain-preserved c =
    let host : VirtualHost = c.args.host.now in
    let made : List ℕ → HostDomain = λ text. lower_domain text host in
    let same : c.as_slice-domain-items.result.now ≡ host.domains =
    c.as_slice-domain-items.ensures.elements ∙ ap (λ (h : VirtualHost). h.domains) (c.host.ensures ∙ c.get.ensures.value) in
    one_more made c.args.domains host.domains c.as_slice-domain-items.result.now c.loop-domain.domain-index c.domain-item.result
    c.loop-domain.domains c.in_ok-domains.domains c.in_ok-lower_domain.field-0
    (omega arith) same c.domain-item.is c.loop-domain.invariant c.in_ok-lower_domain.ensures
    c.in_ok-domains.ensures

pub returns : goal.returns
returns c =
    let host : VirtualHost = c.args.host.now in
    let index = c.loop-domain.domain-index in
    let same : c.as_slice-domain-items.result.now ≡ host.domains =
    c.as_slice-domain-items.ensures.elements ∙ ap (λ (h : VirtualHost). h.domains) (c.host.ensures ∙ c.get.ensures.value) in
    let past : length host.domains ≤ index = omega (arith, ap length same) in
    c.loop-domain.invariant
    ∙ ap (λ ts. c.args.domains ++ map (λ text. lower_domain text host) ts) (take_all index host.domains past)
