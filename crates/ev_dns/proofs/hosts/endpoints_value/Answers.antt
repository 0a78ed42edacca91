use Rattle.std.proofs.Common.{◌≡◌, ℕ, ◌<◌, ◌≤◌, ◌++◌, List, length, get_or, map, sym, ap, ◌∙◌, subst}
use Rattle.std.proofs.lemmas.List.{take_all}
use Rattle.serde_json.specs.Data.{Data, array}
use Rattle.serde_json.specs.View.{items_of}
use Rattle.serde_json.proofs.Views.{view-Array}
use Rattle.ev_types.specs.Hosts.{HostRowParts}
use Rattle.ev_dns.specs.Hosts.{group_tree, resolved_rows, with_address}
use Rattle.ev_dns.specs.Known.{known_addresses}
use Rattle.ev_dns.specs.Templates.{template_rows}
use Rattle.ev_dns.proofs.HostLemmas.{rows_more}
use Rattle.ev_dns.proofs.hosts.endpoints_value.Goals as goal

pub loop-row-preserved : goal.loop-row-preserved
loop-row-preserved c =
    let known : List ℕ → List (List ℕ) = known_addresses c.args.answers.now in
    let row : HostRowParts = c.row-item.result in
    let within : c.loop-row.row-index < length (template_rows c.args.key.now) = subst (λ (rs : List HostRowParts). c.loop-row.row-index < length rs) c.rows_of-row-items.ensures c.loop-row-test.true in
    let there : row ≡ get_or (template_rows c.args.key.now) c.loop-row.row-index row = subst (λ (rs : List HostRowParts). row ≡ get_or rs c.loop-row.row-index row) c.rows_of-row-items.ensures c.row-item.is in
    c.in_ok-push_hosts.ensures
    ∙ ap (λ (xs : List Data). xs ++ map (λ address. group_tree (with_address row address)) (known row.host.address)) c.loop-row.invariant
    ∙ sym (rows_more known (template_rows c.args.key.now) c.loop-row.row-index row within there)

pub returns : goal.returns
returns c =
    let past : length (template_rows c.args.key.now) ≤ c.loop-row.row-index = subst (λ (rs : List HostRowParts). length rs ≤ c.loop-row.row-index) c.rows_of-row-items.ensures c.loop-row-test.false in
    view-Array c.loop-row.groups
    ∙ ap (λ (xs : List Data). array (items_of xs))
    (c.loop-row.invariant ∙ ap (λ (rs : List HostRowParts). map group_tree (resolved_rows (known_addresses c.args.answers.now) rs)) (take_all c.loop-row.row-index (template_rows c.args.key.now) past))
