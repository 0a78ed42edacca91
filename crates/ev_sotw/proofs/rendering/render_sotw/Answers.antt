use Rattle.std.proofs.Common.{◌≡◌, ◌∙◌, ◌++◌, ◌∷◌, [], ℕ, ◌+◌, List, map, take, sym, ap, subst}
use Rattle.ev_types.specs.declared.events.Entry.{Entry}
use Rattle.ev_sotw.specs.Follows.{FollowsEntries}
use Rattle.ev_sotw.specs.Stated.{Stated}
use Rattle.ev_sotw.specs.Text.{stated_by, lines_told}
use Rattle.ev_sotw.proofs.TextLemmas.{stated_more, lines_more}
use Rattle.ev_sotw.proofs.rendering.render_sotw.Goals as goal

pub loop-entry-preserved : goal.loop-entry-preserved
loop-entry-preserved c =
    let versions : List (List ℕ) = c.args.versions.now in
    let journal : List Entry = c.args.journal.now in
    let i : ℕ = c.loop-entry.entry-index in
    let first : List ℕ = c.in_ok-text.text.items in
    let before : List Stated = map (stated_by versions) (take i journal) in
    let next : map (stated_by versions) (take (i + 1) journal) ≡ before ++ stated_by versions c.entry-item.result ∷ [] =
    stated_more versions journal i c.entry-item.result c.loop-entry-test.true c.entry-item.is in
    record {
      follows = subst (λ entries. FollowsEntries entries c.push_entry.new.state) (sym next) (c.in_ok-push_entry.ensures.follows before c.loop-entry.invariant.follows);
      lines = c.in_ok-push_entry.ensures.line before c.loop-entry.invariant.follows
          ∙ lines_more first before (stated_by versions c.entry-item.result) c.loop-entry.text.items c.loop-entry.invariant.lines
          ∙ ap (λ entries. first ++ lines_told entries) (sym next);
    }
