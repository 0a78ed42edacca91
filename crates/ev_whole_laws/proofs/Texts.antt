-- The texts of bodies.
use Rattle.std.proofs.Common.{◌≡◌, ap, refl}
use Rattle.serde_json.specs.Data.{Data}
use Rattle.serde_json.specs.Written.{compact_text}
use Rattle.ev_types.specs.declared.events.Profile.{Profile}
use Rattle.ev_types.specs.declared.events.Profile.TheVariants.{Own, Envoy}
use Rattle.ev_tree.specs.Floats.{whole, plain_text, body_text_of}
use Rattle.ev_tree.proofs.FloatLemmas.{made_whole}

-- a tree without floats stays as it is
pub whole-twice : (tree : Data) → whole (whole tree) ≡ whole tree
whole-twice tree = (made_whole (whole tree)).same (made_whole tree).none

pub body_text_of-whole : (profile : Profile) (tree : Data) → body_text_of profile (whole tree) ≡ body_text_of profile tree
body_text_of-whole Own tree = refl
body_text_of-whole Envoy tree = ap compact_text (whole-twice tree)

pub plain_text-whole : (tree : Data) → plain_text (whole tree) ≡ plain_text tree
plain_text-whole tree = ap compact_text (whole-twice tree)
