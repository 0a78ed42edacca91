use Rattle.std.proofs.Common.{◌≡◌, map, slice_set, sym, ap, ◌∙◌, subst}
use Rattle.std.specs.Arc.{arc_value}
use Rattle.std.specs.List.{AllByRecursion}
use Rattle.std.proofs.lemmas.List.{map-set}
use Rattle.ev_model.specs.declared.pictures.Picture.{Picture}
use Rattle.ev_retirement.specs.Pictures.{HasPictures, IsUpTo, PicturesParts, settled_on}
use Rattle.ev_retirement.proofs.UseLemmas.{all_set, is_itself}
use Rattle.ev_retirement.proofs.WorldLemmas.{settle_stands}
use Rattle.ev_retirement.proofs.pictures.Pictures.settle.Goals as goal

settled : goal.returns-clause-settled
settled c =
    ap (λ held. record { last = arc_value c.self.inside.last; held = held }) (map-set arc_value c.self.inside.held.items c.args.worker c.in-Ok.kept)
    ∙ ap (λ (v : PicturesParts). record v { held = slice_set v.held c.args.worker (arc_value c.in-Ok.kept) }) c.self.view_is
    ∙ ap (λ p. record c.args.self.now { held = slice_set c.args.self.now.held c.args.worker p }) c.in-Ok.ensures.last

pub returns-clause-settled : goal.returns-clause-settled
returns-clause-settled c = settled c

pub returns-clause-world : goal.returns-clause-world
returns-clause-world c world stands =
    subst (λ p. HasPictures p (settled_on c.args.worker world)) (sym (settled c)) (settle_stands c.args.worker c.args.self.now world stands)

pub invariant_of-self : goal.invariant_of-self
invariant_of-self c =
    let last : Picture = arc_value c.self.inside.last in
    let given : arc_value c.in-Ok.kept ≡ last = c.in-Ok.ensures.last ∙ sym (ap (λ (v : PicturesParts). v.last) c.self.view_is) in
    subst (AllByRecursion (IsUpTo last)) (sym (map-set arc_value c.self.inside.held.items c.args.worker c.in-Ok.kept))
    (all_set (IsUpTo last) (arc_value c.in-Ok.kept) (map arc_value c.self.inside.held.items) c.args.worker (subst (IsUpTo last) (sym given) (is_itself last)) c.self.invariant)
