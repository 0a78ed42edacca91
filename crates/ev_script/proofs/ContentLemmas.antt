-- What is known of a first line that is a header.
use Rattle.std.proofs.Common.{◌≡◌, Option, None, Some, option_and_then, ap}
use Rattle.serde_json.specs.Data.{Data}
use Rattle.ev_script.specs.declared.content.First.TheVariants as first
use Rattle.ev_script.specs.declared.forms.Settings.{Settings}
use Rattle.ev_script.specs.Faults.{LineForms}
use Rattle.ev_script.specs.Content.{first_of, first_tree}

given_settings : (found : Option Settings) (settings : Settings) → first_of found ≡ first.Header settings → found ≡ Some settings
given_settings None settings e = cc
given_settings (Some s) settings e = let same : s ≡ settings = cc in ap Some same

pub first_is : (forms : LineForms) (tree : Option Data) (settings : Settings) → first_tree forms tree ≡ first.Header settings → option_and_then forms.heads tree ≡ Some settings
first_is forms None settings e = cc
first_is forms (Some tree) settings e = given_settings (forms.heads tree) settings e
