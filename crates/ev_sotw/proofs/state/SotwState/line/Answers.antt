use Rattle.std.proofs.Common.{◌∙◌, ◌++◌, ◌∷◌, [], Result, Ok, Err, IfOk, sym, ap, subst}
use Rattle.ev_trees.proofs.BackLemmas.{on_ok}
use Rattle.ev_journal.specs.Rendering.{line_text}
use Rattle.ev_sotw.specs.Stated.{Stated, stated_with}
use Rattle.ev_sotw.specs.Follows.{FollowsEntries}
use Rattle.ev_sotw.proofs.FollowLemmas.{follows_all, entry_same}
use Rattle.ev_sotw.proofs.state.SotwState.line.Goals as goal

if_ok_then : {A E : Type 0} {P Q : A → Type 0} (r : Result A E) → ((x : A) → P x → Q x) → IfOk r P → IfOk r Q
if_ok_then (Ok x) so p = so x p
if_ok_then (Err e) so p = tt

pub returns-clause-follows : goal.returns-clause-follows
returns-clause-follows c =
    let stated : Stated = stated_with c.args.entry.now c.args.version.now in
    on_ok c.write.result
    (λ entries follows. subst (FollowsEntries (entries ++ stated ∷ [])) (sym c.in_ok-note.ensures) (follows_all entries stated c.args.self.now follows))

pub returns-clause-line : goal.returns-clause-line
returns-clause-line c =
    let stated : Stated = stated_with c.args.entry.now c.args.version.now in
    if_ok_then c.write.result
    (λ line is entries follows. is ∙ ap line_text (entry_same (entries ++ stated ∷ []) c.note.new.self c.args.entry.now
    (subst (FollowsEntries (entries ++ stated ∷ [])) (sym c.in_ok-note.ensures) (follows_all entries stated c.args.self.now follows))))
    c.write.ensures
