use Rattle.std.proofs.Common.{◌≡◌, replicate, sym, ap, ◌∙◌, subst}
use Rattle.std.specs.Arc.{arc_value}
use Rattle.ev_model.specs.World.{opening}
use Rattle.ev_snapshot.specs.Changes.{empty_picture}
use Rattle.ev_retirement.specs.Pictures.{HasPictures, PicturesParts}
use Rattle.ev_retirement.proofs.WorldLemmas.{opening_stands}
use Rattle.ev_retirement.proofs.pictures.Pictures.new.Goals as goal

pub returns-clause-world : goal.returns-clause-world
returns-clause-world c node =
    let first : arc_value c.in_ok-last.last ≡ empty_picture = c.in_ok-last.ensures.picture in
    subst (λ (p : PicturesParts). HasPictures p (opening c.args.workers node))
    (sym (λ i. record { last = first i; held = (c.in_ok-held.ensures ∙ ap (replicate c.args.workers) first) i }))
    (opening_stands c.args.workers node)
