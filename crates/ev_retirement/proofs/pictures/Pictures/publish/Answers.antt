use Rattle.std.proofs.Common.{◌≡◌, ◌+◌, cond, None, Some, map, sym, ap, ◌∙◌, subst}
use Rattle.std.specs.Arc.{arc_value}
use Rattle.ev_model.specs.declared.pictures.Picture.{Picture}
use Rattle.ev_snapshot.specs.Changes.{next_picture, picture_after}
use Rattle.ev_retirement.specs.Pictures.{HasPictures, PicturesParts, published_answer, shown_after, with_shown}
use Rattle.ev_retirement.proofs.UseLemmas.{IsNext, is_next, none_later}
use Rattle.ev_retirement.proofs.WorldLemmas.{publish_answers, published_stands}
use Rattle.ev_retirement.proofs.pictures.Pictures.publish.Goals as goal
use Rattle.ev_retirement.proofs.pictures.Pictures.publish.Goals.{After-drop-self-inside}

made : (c : After-drop-self-inside) → IsNext c.args.changes.now (arc_value c.self.inside.last) (arc_value c.args.next)
made c =
    is_next c.args.changes.now (arc_value c.self.inside.last) (arc_value c.args.next)
    (ap (λ (v : PicturesParts). picture_after c.args.changes.now v.last) c.self.view_is ∙ c.requires.next)

version_is : (c : After-drop-self-inside) → c.version-version.result ≡ c.args.self.now.last.version + 1
version_is c =
    c.version-version.ensures ∙ ap (λ (p : Picture). p.version) (c.deref.ensures ∙ (made c).is)
    ∙ ap (λ (v : PicturesParts). v.last.version + 1) c.self.view_is

pub invariant_of-self : goal.invariant_of-self
invariant_of-self c =
    none_later (arc_value c.self.inside.last) (arc_value c.args.next) (ap (λ (p : Picture). p.version) (made c).is) (map arc_value c.self.inside.held.items) c.self.invariant

pub returns-clause-version : goal.returns-clause-version
returns-clause-version c = version_is c

pub returns-clause-published : goal.returns-clause-published
returns-clause-published c =
    let last : Picture = arc_value c.self.inside.last in
    let before : PicturesParts = record { last = last; held = map arc_value c.self.inside.held.items } in
    ap (λ (p : Picture). record before { last = p }) (made c).is
    ∙ sym (ap (λ t. cond t before (record before { last = next_picture c.args.changes.now last })) (made c).other)
    ∙ ap (λ (v : PicturesParts). with_shown (shown_after c.args.changes.now v) v) c.self.view_is

pub returns-clause-held : goal.returns-clause-held
returns-clause-held c = ap (λ (v : PicturesParts). v.held) c.self.view_is

pub returns-clause-answer : goal.returns-clause-answer
returns-clause-answer c world stands is =
    let last : Picture = arc_value c.self.inside.last in
    let before : PicturesParts = record { last = last; held = map arc_value c.self.inside.held.items } in
    publish_answers (shown_after c.args.changes.now before) before world
    (subst (λ (v : PicturesParts). HasPictures v world) (sym c.self.view_is) stands)
    (ap (shown_after c.args.changes.now) c.self.view_is ∙ is)
    ∙ ap (λ t. published_answer (cond t None (Some (last.version + 1)))) (made c).other
    ∙ ap (λ n. published_answer (Some n)) (ap (λ (v : PicturesParts). v.last.version + 1) c.self.view_is ∙ sym (version_is c))

pub returns-clause-world : goal.returns-clause-world
returns-clause-world c world stands is =
    let last : Picture = arc_value c.self.inside.last in
    let next : Picture = arc_value c.args.next in
    let before : PicturesParts = record { last = last; held = map arc_value c.self.inside.held.items } in
    published_stands (shown_after c.args.changes.now before) next before world (made c).other (made c).is
    (subst (λ (v : PicturesParts). HasPictures v world) (sym c.self.view_is) stands)
    (ap (shown_after c.args.changes.now) c.self.view_is ∙ is)
