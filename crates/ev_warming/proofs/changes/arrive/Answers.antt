use Rattle.std.proofs.Common.{◌≡◌, ◌∙◌, ◌||◌, ◌++◌, ℕ, Bool, true, false, cond, List, length, refl, sym, ap, Some, arith, length-append}
use Rattle.std.proofs.lemmas.List.Folds.{list_any-append}
use Rattle.std.specs.Prelude.{nat_eq}
use Rattle.ev_lookups.specs.Keys.{key_same, named}
use Rattle.ev_indexes.specs.Due.{is_one_of}
use Rattle.ev_indexes.specs.Indexes.{numbers_waiting}
use Rattle.ev_indexes.specs.Ready.{is_due_at}
use Rattle.ev_types.specs.declared.rows.Arrival.{Arrival}
use Rattle.ev_lookups.specs.declared.kind_keys.Key.{Key}
use Rattle.ev_warming.specs.Arrivals.{Hears}
use Rattle.ev_indexes.specs.Watched.{WatchesKept, watch_in, watchers_of, unwatched, with_arrival}
use Rattle.ev_indexes.proofs.KeptLemmas.{kept_at-found}
use Rattle.ev_warming.proofs.IndexLemmas.{watched-some, indexed-arrived, waiting-after}
use Rattle.ev_warming.proofs.ArrivalLemmas.{arrived-stands}
use Rattle.ev_warming.proofs.changes.arrive.Goals as goal

pub tell-requires : goal.tell-requires
tell-requires g c = watched-some c.args.state.now (named c.args.kind c.args.name.now) c.requires.indexed c.requires.watched

-- the name hears at the number allocated
heard : (old new : WatchesKept) (key : Key) (m n : ℕ) (arrival : Arrival) → m ≡ n → Hears old new key m arrival → Hears old new key n arrival
heard old new key m n arrival same told q = told q ∙ (λ i. cond (key_same key q) (with_arrival (same i) arrival (watch_in old key)) (watch_in old q))

-- to look at some and then at others is to look at all of them
both-looked : (a b : List ℕ) (n : ℕ) (due was : Bool) → cond (is_one_of b n) due (cond (is_one_of a n) due was) ≡ cond (is_one_of (a ++ b) n) due was
both-looked a b n due was = by (is_one_of a n) (is_one_of b n) ∙ (λ i. cond (sym (list_any-append (nat_eq n) a b) i) due was)
  where
    by : (x y : Bool) → cond y due (cond x due was) ≡ cond (x || y) due was
    by true true = refl
    by true false = refl
    by false y = refl

pub returns-clause-indexed : goal.returns-clause-indexed
returns-clause-indexed g c =
    let s = c.args.state.now in
    let watches = c.tell.new.self in
    let watch = c.in-Some.watch.now in
    let found : watch_in watches (named c.args.kind c.args.name.now) ≡ watch = kept_at-found unwatched watches (named c.args.kind c.args.name.now) (Some watch) (sym c.in-Some.ensures) in
    indexed-arrived s (named c.args.kind c.args.name.now) c.args.state.now.table.made c.args.arrival.now watches c.requires.indexed (heard s.watches c.tell.new.self (named c.args.kind c.args.name.now) c.made-made.result s.table.made c.args.arrival.now c.made-made.ensures c.in_ok-tell.ensures) c.refresh-2.new.due
    (λ n.
    c.in_ok-refresh-2.ensures.due n
    ∙ (λ i. cond (is_one_of (c.as_slice-2.ensures.elements i) n) (is_due_at watches s.results n s.table.rows) (c.in_ok-refresh.ensures.due n i))
    ∙ (λ i. cond (is_one_of watch.limited n) (is_due_at watches s.results n s.table.rows) (cond (is_one_of (c.as_slice.ensures.elements i) n) (is_due_at watches s.results n s.table.rows) (is_one_of s.due n)))
    ∙ both-looked watch.unlimited watch.limited n (is_due_at watches s.results n s.table.rows) (is_one_of s.due n)
    ∙ (λ i. cond (is_one_of (watchers_of (sym found i)) n) (is_due_at watches s.results n s.table.rows) (is_one_of s.due n)))

pub returns-clause-steps : goal.returns-clause-steps
returns-clause-steps g c =
    let s = c.args.state.now in
    let watches = c.tell.new.self in
    let watch = c.in-Some.watch.now in
    let found : watch_in watches (named c.args.kind c.args.name.now) ≡ watch = kept_at-found unwatched watches (named c.args.kind c.args.name.now) (Some watch) (sym c.in-Some.ensures) in
    let all : length (watch.unlimited ++ watch.limited) ≡ length (numbers_waiting s.table.rows (named c.args.kind c.args.name.now)) =
    (λ i. length (watchers_of (sym found i))) ∙ ap length (waiting-after s (named c.args.kind c.args.name.now) c.args.state.now.table.made c.args.arrival.now watches c.requires.indexed (heard s.watches c.tell.new.self (named c.args.kind c.args.name.now) c.made-made.result s.table.made c.args.arrival.now c.made-made.ensures c.in_ok-tell.ensures)) in
    let first : length c.as_slice.result.now ≡ length watch.unlimited = ap length c.as_slice.ensures.elements in
    let second : length c.as_slice-2.result.now ≡ length watch.limited = ap length c.as_slice-2.ensures.elements in
    omega (arith, all, first, second, length-append watch.unlimited watch.limited, c.in_ok-refresh.ensures.steps, c.in_ok-refresh-2.ensures.steps)

pub returns-clause-stands : goal.returns-clause-stands
returns-clause-stands g c = λ world stands.
    let s = c.args.state.now in
    arrived-stands s world stands c.args.kind c.args.name.now c.args.arrival.now c.tell.new.self
    (heard s.watches c.tell.new.self (named c.args.kind c.args.name.now) c.made-made.result world.made c.args.arrival.now (c.made-made.ensures ∙ stands.made) c.in_ok-tell.ensures) c.refresh-2.new.due
