use Rattle.std.proofs.Common.{◌-◌, length, sym, ap, ◌∙◌}
use Rattle.ev_model.specs.Choice.{is_prefix_form, is_suffix_form}
use Rattle.ev_routes.specs.Domains.{has_length}
use Rattle.ev_routes.proofs.domain_table.enter_domain.Goals as goal

pub returns-clause-suffixes : goal.returns-clause-suffixes
returns-clause-suffixes c =
    let text = c.text-text.ensures in (
      c.in_ok-enter_form.ensures.keeps,
      λ form. ap (λ t. has_length (length t - 1) c.enter_form.new.lengths) (sym text)
          ∙ c.in_ok-enter_form.ensures.there (c.is_suffix_form.ensures ∙ ap is_suffix_form text ∙ form),
    )

pub returns-clause-prefixes : goal.returns-clause-prefixes
returns-clause-prefixes c =
    let text = c.text-text.ensures in (
      c.in_ok-enter_form-2.ensures.keeps,
      λ form. ap (λ t. has_length (length t - 1) c.enter_form-2.new.lengths) (sym text)
          ∙ c.in_ok-enter_form-2.ensures.there (c.is_prefix_form.ensures ∙ ap is_prefix_form text ∙ form),
    )
