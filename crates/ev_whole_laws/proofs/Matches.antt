-- Matches of routes.
use Rattle.std.proofs.Common.{◌≡◌}
use Rattle.std.specs.Prelude.{◌||◌, [], ◌∷◌, not, codes}
use Rattle.serde_json.specs.Data.{Data}
use Rattle.ev_tree.specs.Forms.{is_wrong, is_given}
use Rattle.ev_tree.specs.Broken.{none_broken}
use Rattle.ev_tree.specs.Counts.{exactly_one}
use Rattle.ev_route_json.specs.Matches.{barred_conditions, listed_conditions, is_false, separated_is_bad, match_broken, path_with, path_of}
use Rattle.ev_tree.specs.Floats.{whole}
use Rattle.ev_whole_laws.proofs.Forms.{boolean_of-whole, text_of-whole}
use Rattle.ev_whole_laws.proofs.Presence.{any_doubled-whole, any_filled-whole, any_given-whole}

pub match_broken-whole : (tree : Data) → match_broken (whole tree) ≡ match_broken tree
unfolding match_broken
match_broken-whole tree = λ i. record none_broken {
  v6 =
      is_wrong (text_of-whole (codes "prefix") tree i)
      || is_wrong (text_of-whole (codes "path") tree i)
      || is_wrong (text_of-whole (codes "path_separated_prefix") tree i)
      || is_wrong (boolean_of-whole (codes "case_sensitive") tree i)
      || any_doubled-whole barred_conditions tree i
      || any_doubled-whole listed_conditions tree i;
  v21 =
      not (exactly_one (is_given (text_of-whole (codes "prefix") tree i) ∷ is_given (text_of-whole (codes "path") tree i) ∷ is_given (text_of-whole (codes "path_separated_prefix") tree i) ∷ []))
      || any_given-whole barred_conditions tree i
      || any_filled-whole listed_conditions tree i
      || is_false (boolean_of-whole (codes "case_sensitive") tree i)
      || separated_is_bad (text_of-whole (codes "path_separated_prefix") tree i);
}

pub path_of-whole : (tree : Data) → path_of (whole tree) ≡ path_of tree
unfolding path_of
path_of-whole tree = λ i. path_with (text_of-whole (codes "prefix") tree i) (text_of-whole (codes "path") tree i) (text_of-whole (codes "path_separated_prefix") tree i)
