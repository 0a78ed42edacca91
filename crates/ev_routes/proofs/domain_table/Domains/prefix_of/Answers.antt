use Rattle.std.proofs.Common.{◌≡◌, ◌+◌, ◌<◌, ◌==◌, ◌&&◌, ◌++◌, [], ◌∷◌, length, take, sym, ap, ◌∙◌, false, arith}
use Rattle.std.specs.Char.{to_ascii_lowercase}
use Rattle.std.specs.Str.{bytes_eq, str_to_ascii_lowercase}
use Rattle.std.proofs.lemmas.List.{length-map, take-map}
use Rattle.indexmap.specs.IndexMap.{get}
use Rattle.ev_model.specs.Choice.{HostDomain, has_prefix, is_domain, is_prefix_form}
use Rattle.ev_routes.specs.Domains.{find_beside, has_length}
use Rattle.ev_routes.proofs.Patterns.{beside_none, find_same, prefix_is, prefix_key}
use Rattle.ev_routes.proofs.domain_table.Domains.prefix_of.Goals as goal

pub returns-then-not-has : goal.returns-then-not-has
returns-then-not-has c =
    let host = str_to_ascii_lowercase c.args.host.now in
    let is = c.self.view_is in
    let view : c.self.inside.list ≡ c.args.self.now = cc in
    let lacks : has_length c.args.beside c.self.inside.prefixes ≡ false = sym c.has.ensures ∙ c.if-not-has.true in
    sym (beside_none is_prefix_form (has_prefix host) c.self.inside.prefixes c.args.beside c.self.inside.list (prefix_is host) c.self.invariant.prefixes lacks)
    ∙ ap (find_beside c.args.beside (has_prefix host)) view

pub returns : goal.returns
returns c =
    let host = str_to_ascii_lowercase c.args.host.now in
    let beside = c.args.beside in
    let list = c.self.inside.list in
    let is = c.self.view_is in
    let view : list ≡ c.args.self.now = cc in
    let size : length host ≡ length c.args.host.now = length-map c.args.host.now to_ascii_lowercase in
    let less : beside < length host = omega (arith, size, c.requires.fewer) in
    let front = ap str_to_ascii_lowercase c.split_at.ensures.front ∙ sym (take-map to_ascii_lowercase beside c.args.host.now) in
    let key = take beside host ++ 42 ∷ [] in
    c.get.ensures.value
    ∙ ap (get bytes_eq c.self.inside.by_text) (c.new.ensures ∙ ap (λ bytes. bytes ++ 42 ∷ []) front)
    ∙ c.self.invariant.text key
    ∙ find_same (is_domain key) (λ (d : HostDomain). (length d.domain == beside + 1) && has_prefix host d)
    (prefix_key host beside c.requires.some less c.requires.starless) list
    ∙ ap (find_beside beside (has_prefix host)) view
