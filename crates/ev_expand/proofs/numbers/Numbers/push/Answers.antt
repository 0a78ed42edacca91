use Rattle.std.proofs.Common.{[], ◌∷◌, ◌++◌, sym, ap, ◌∙◌}
use Rattle.std.proofs.lemmas.List.{map-append}
use Rattle.indexmap.proofs.CallerLemmas.{insert_entry-new}
use Rattle.serde_json.specs.Data.{Data}
use Rattle.ev_trees.specs.declared.kept_tree.KeptTree.{KeptTree}
use Rattle.ev_trees.specs.Kept.{kept_shown}
use Rattle.ev_expand.specs.declared.keys.Key.{Key}
use Rattle.ev_expand.specs.Keys.{key_same}
use Rattle.ev_expand.specs.Numbers.{guarded_as, seen_in}
use Rattle.ev_expand.proofs.SeenLemmas.{seen_any, none_is}
use Rattle.ev_expand.proofs.numbers.Numbers.push.Goals as goal

pub returns : goal.returns
returns c =
    ap seen_in (c.in-Ok.ensures.entries ∙ insert_entry-new key_same c.args.self.now.firsts c.args.key c.in_ok-kept.kept
    (none_is _ (sym (seen_any (key_same c.args.key) c.args.self.now.firsts.entries) ∙ c.requires)))
    ∙ map-append (λ (e : Key × KeptTree). record { key = e.0; own = kept_shown e.1 }) c.args.self.now.firsts.entries ((c.args.key, c.in_ok-kept.kept) ∷ [])
    ∙ ap (λ (own : Data). seen_in c.args.self.now.firsts.entries ++ guarded_as c.args.key own ∷ []) c.in_ok-kept.ensures
