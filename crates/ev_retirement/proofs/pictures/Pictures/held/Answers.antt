use Rattle.std.proofs.Common.{◌≡◌, ◌<◌, length, slice_index_or, Some, sym, ap, ◌∙◌, subst}
use Rattle.std.specs.Arc.{arc_value}
use Rattle.std.proofs.lemmas.List.{get_or-map, length-map}
use Rattle.std.proofs.lemmas.Option.{slice_get-get_or}
use Rattle.ev_snapshot.specs.Changes.{empty_picture}
use Rattle.ev_retirement.specs.Pictures.{PicturesParts}
use Rattle.ev_retirement.proofs.WorldLemmas.{held_stands}
use Rattle.ev_retirement.proofs.pictures.Pictures.held.Goals as goal

pub returns : goal.returns
returns c =
    let same = ap (λ (v : PicturesParts). v.held) c.self.view_is in
    let below : c.args.worker < length c.self.inside.held.items =
    subst (λ n. c.args.worker < n) (sym (ap length same) ∙ length-map c.self.inside.held.items arc_value) c.requires.known in
    let at : arc_value c.index.result.now ≡ slice_index_or c.args.self.now.held c.args.worker empty_picture =
    ap arc_value c.index.ensures
    ∙ sym (get_or-map arc_value c.self.inside.held.items c.args.worker _ empty_picture below)
    ∙ ap (λ held. slice_index_or held c.args.worker empty_picture) same in
    record {
      held = slice_get-get_or c.args.self.now.held c.args.worker empty_picture c.requires.known ∙ ap Some (sym (c.deref.ensures ∙ at));
      world = λ world stands. c.deref.ensures ∙ at ∙ held_stands c.args.worker c.args.self.now world empty_picture stands c.requires.known;
    }
