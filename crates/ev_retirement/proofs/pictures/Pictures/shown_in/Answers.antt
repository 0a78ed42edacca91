use Rattle.std.proofs.Common.{◌≡◌, ℕ, None, Some, find, sym, ap, ◌∙◌}
use Rattle.std.specs.Arc.{arc_value}
use Rattle.std.specs.Option.{option_copied}
use Rattle.ev_model.specs.declared.pictures.Picture.{Picture}
use Rattle.ev_retirement.specs.Pictures.{is_shown_in, version_showing}
use Rattle.ev_retirement.proofs.UseLemmas.{version_held, version_last}
use Rattle.ev_retirement.proofs.pictures.Pictures.shown_in.Goals as goal

pub returns-in-Some : goal.returns-in-Some
returns-in-Some c =
    let number : ℕ = c.args.number in
    let found : find (λ s. is_shown_in number (arc_value s)) c.self.inside.held.items ≡ Some c.in-Some.snapshot.now =
    ap (find (λ s. is_shown_in number (arc_value s))) (sym c.as_slice.ensures.value) ∙ sym c.first_showing.ensures ∙ ap option_copied c.in-Some.is in
    ap Some (c.version.ensures ∙ ap (λ (p : Picture). p.version) c.deref.ensures)
    ∙ version_held arc_value number (arc_value c.self.inside.last) c.self.inside.held.items c.in-Some.snapshot.now found
    ∙ ap (version_showing number) c.self.view_is

pub returns-in-None : goal.returns-in-None
returns-in-None c =
    let number : ℕ = c.args.number in
    let found : find (λ s. is_shown_in number (arc_value s)) c.self.inside.held.items ≡ None =
    ap (find (λ s. is_shown_in number (arc_value s))) (sym c.as_slice.ensures.value) ∙ sym c.first_showing.ensures ∙ ap option_copied c.in-None.is in
    c.version_where.ensures
    ∙ version_last arc_value number (arc_value c.self.inside.last) c.self.inside.held.items found
    ∙ ap (version_showing number) c.self.view_is
