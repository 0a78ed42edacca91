use Rattle.std.proofs.Common.{ℕ, List, Option, Some, option_map, sym, ap, ◌∙◌}
use Rattle.serde_json.specs.Data.{Data}
use Rattle.serde_json.specs.View.{view}
use Rattle.ev_expand.specs.declared.keys.Key.{Key}
use Rattle.ev_expand.specs.Guarding.{Guarded, place_in}
use Rattle.ev_expand.specs.Numbers.{guarded_so_far, guarded_with, taken_up}
use Rattle.ev_expand.proofs.NumberLemmas.{added_there, place_new}
use Rattle.ev_expand.proofs.guarding.place_entry.Goals as goal

pub returns-in-Some-find-clause-numbers : goal.returns-in-Some-find-clause-numbers
returns-in-Some-find-clause-numbers g c =
    let guarded : List Guarded = guarded_so_far c.args.numbers.now in
    let own : Data = (g.E.Expansion.rules c.args.profile).guard.own_of (view c.args.entry.now) in
    sym (ap (λ (k : Option Key). taken_up guarded (guarded_with k own)) c.in-Some.is ∙ added_there guarded (record { key = c.in-Some.key; own = own }) c.in-Some-find.ensures.found)

pub returns-clause-place : goal.returns-clause-place
returns-clause-place g c =
    let guarded : List Guarded = guarded_so_far c.args.numbers.now in
    ap (λ (p : ℕ). Some p) (c.len-place.ensures ∙ sym (place_new c.in-Some.key (view c.in_ok-own.own) guarded c.in_default-find.ensures.none))
    ∙ ap (λ (xs : List Guarded). Some (place_in xs c.in-Some.key)) (sym c.in_ok-push.ensures)
    ∙ ap (option_map (place_in (guarded_so_far c.push.new.self))) (sym c.in-Some.is)
