use Rattle.std.proofs.Common.{◌≡◌, ◌∙◌, ◌≢◌, refl, sym, ap, ℕ, zero, suc, ◌+◌, ◌-◌, List, ◌∷◌, drop, slice_get, arith}
use Rattle.ev_hosts.specs.Chosen.{chosen_by}
use Rattle.ev_hosts.proofs.ChosenLemmas.{chosen_no, chosen_yes}
use Rattle.ev_hosts.proofs.walks.host_at.Goals as goal

-- the place after the first element
later : {X : Type 0} (x : X) (xs : List X) (n : ℕ) → n ≢ 0 → slice_get (x ∷ xs) n ≡ slice_get xs (n - 1)
later x xs zero some = absurd (some refl)
later x xs (suc n) some = let e : suc n - 1 ≡ n = omega arith in ap (slice_get xs) (sym e)

pub loop-at-preserved-then-not-get : goal.loop-at-preserved-then-not-get
loop-at-preserved-then-not-get c =
    c.loop-at.invariant
    ∙ ap (λ chosen. slice_get chosen c.loop-at.left)
    (chosen_no c.args.marks.now c.args.rows.now c.loop-at.at (omega (arith, c.requires)) (sym c.get.ensures ∙ c.if-not-get.true))

pub loop-at-preserved : goal.loop-at-preserved
loop-at-preserved c =
    c.loop-at.invariant
    ∙ ap (λ chosen. slice_get chosen c.loop-at.left)
    (chosen_yes c.args.marks.now c.args.rows.now c.loop-at.at c.index-rows-at.result c.requires c.loop-at-test.true c.index-rows-at.is (sym c.get.ensures ∙ c.if-not-get.false))
    ∙ later c.index-rows-at.result (chosen_by (drop (c.loop-at.at + 1) c.args.marks.now) (drop (c.loop-at.at + 1) c.args.rows.now)) c.loop-at.left c.if-left-eq0.false
