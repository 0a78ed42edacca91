use Rattle.std.proofs.Common.{◌≡◌, ◌+◌, ◌-◌, ◌<◌, ◌==◌, ◌&&◌, ◌∷◌, length, drop, sym, ap, ◌∙◌, false, arith}
use Rattle.std.specs.Char.{to_ascii_lowercase}
use Rattle.std.specs.Str.{bytes_eq, str_to_ascii_lowercase}
use Rattle.std.proofs.lemmas.List.{drop-map, length-map}
use Rattle.indexmap.specs.IndexMap.{get}
use Rattle.ev_model.specs.Choice.{HostDomain, has_suffix, is_domain, is_suffix_form}
use Rattle.ev_routes.specs.Domains.{find_beside, has_length}
use Rattle.ev_routes.proofs.Patterns.{beside_none, find_same, suffix_is, suffix_key}
use Rattle.ev_routes.proofs.domain_table.Domains.suffix_of.Goals as goal

pub returns-then-not-has : goal.returns-then-not-has
returns-then-not-has c =
    let host = str_to_ascii_lowercase c.args.host.now in
    let is = c.self.view_is in
    let view : c.self.inside.list ≡ c.args.self.now = cc in
    let lacks : has_length c.args.beside c.self.inside.suffixes ≡ false = sym c.has.ensures ∙ c.if-not-has.true in
    sym (beside_none is_suffix_form (has_suffix host) c.self.inside.suffixes c.args.beside c.self.inside.list (suffix_is host) c.self.invariant.suffixes lacks)
    ∙ ap (find_beside c.args.beside (has_suffix host)) view

pub returns : goal.returns
returns c =
    let host = str_to_ascii_lowercase c.args.host.now in
    let beside = c.args.beside in
    let list = c.self.inside.list in
    let is = c.self.view_is in
    let view : list ≡ c.args.self.now = cc in
    let size : length host ≡ length c.args.host.now = length-map c.args.host.now to_ascii_lowercase in
    let less : beside < length host = omega (arith, size, c.requires.fewer) in
    let back = ap str_to_ascii_lowercase c.split_at.ensures.back ∙ sym (drop-map to_ascii_lowercase (length c.args.host.now - beside) c.args.host.now)
    ∙ ap (λ n. drop (n - beside) host) (sym size) in
    let key = 42 ∷ drop (length host - beside) host in
    c.get.ensures.value
    ∙ ap (get bytes_eq c.self.inside.by_text) (c.new.ensures ∙ ap (λ bytes. 42 ∷ bytes) back)
    ∙ c.self.invariant.text key
    ∙ find_same (is_domain key) (λ (d : HostDomain). (length d.domain == beside + 1) && has_suffix host d) (suffix_key host beside c.requires.some less) list
    ∙ ap (find_beside beside (has_suffix host)) view
