-- The hosts of one row more.
use Rattle.std.proofs.Common.{◌≡◌, ℕ, ◌+◌, ◌<◌, List, [], ◌∷◌, ◌++◌, length, get_or, take, map, refl, sym, ap, ◌∙◌}
use Rattle.std.proofs.lemmas.List.{append-nil, map-append, take_more}
use Rattle.std.proofs.lemmas.Grind.{flat_map-append}
use Rattle.serde_json.specs.Data.{Data}
use Rattle.ev_types.specs.Hosts.{HostRowParts}
use Rattle.ev_dns.specs.Hosts.{group_tree, resolved_rows, with_address}

twice : (row : HostRowParts) (addresses : List (List ℕ)) → map group_tree (map (with_address row) addresses) ≡ map (λ address. group_tree (with_address row address)) addresses
twice row [] = refl
twice row (address ∷ addresses) = ap (λ (xs : List Data). group_tree (with_address row address) ∷ xs) (twice row addresses)

pub rows_more : (known : List ℕ → List (List ℕ)) (rows : List HostRowParts) (i : ℕ) (row : HostRowParts) → i < length rows → row ≡ get_or rows i row
    → map group_tree (resolved_rows known (take (i + 1) rows)) ≡ map group_tree (resolved_rows known (take i rows)) ++ map (λ address. group_tree (with_address row address)) (known row.host.address)
rows_more known rows i row h there =
    let one : HostRowParts → List HostRowParts = λ r. map (with_address r) (known r.host.address) in
    ap (λ (rs : List HostRowParts). map group_tree (resolved_rows known rs)) (take_more rows i row h ∙ ap (λ (r : HostRowParts). take i rows ++ r ∷ []) (sym there))
    ∙ ap (map group_tree) (flat_map-append one (take i rows) (row ∷ []) ∙ ap (λ (xs : List HostRowParts). resolved_rows known (take i rows) ++ xs) (append-nil (one row)))
    ∙ map-append group_tree (resolved_rows known (take i rows)) (one row)
    ∙ ap (λ (xs : List Data). map group_tree (resolved_rows known (take i rows)) ++ xs) (twice row (known row.host.address))
