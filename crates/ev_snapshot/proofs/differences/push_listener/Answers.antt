use Rattle.std.proofs.Common.{◌≡◌, ◌∙◌, ℕ, List, [], ◌∷◌, ◌++◌, Option, None, Some, sym, ap, append_assoc}
use Rattle.std.specs.Option.{option_map, option_to_list}
use Rattle.ev_model.specs.declared.pictures.ServedListener.{ServedListener}
use Rattle.ev_layers.specs.Rows.{named}
use Rattle.ev_snapshot.specs.declared.changes.ListenerChange.{ListenerChange}
use Rattle.ev_snapshot.specs.Touched.{listener_touches, numbers_taken}
use Rattle.ev_snapshot.proofs.differences.push_listener.Goals as goal

abbrev name : ServedListener → List ℕ
name l = l.name

abbrev number : ServedListener → ℕ
number l = l.number

touched : (before : List ServedListener) (change : ListenerChange) (l : ServedListener) (found : Option ℕ) → change.served ≡ Some l
    → found ≡ option_map number (named name before l.name) → change.number ∷ l.number ∷ option_to_list found ≡ listener_touches before change
touched before change l found served is =
    ap (λ o. change.number ∷ l.number ∷ option_to_list o) is ∙ ap (λ s. change.number ∷ numbers_taken number name before s) (sym served)

two : (old one all : List ℕ) (k n : ℕ) → one ≡ old ++ k ∷ [] → all ≡ one ++ n ∷ [] → all ≡ old ++ k ∷ n ∷ []
two old one all k n first second = second ∙ ap (λ ns. ns ++ n ∷ []) first ∙ append_assoc old (k ∷ []) (n ∷ [])

three : (old one next all : List ℕ) (k n m : ℕ) → one ≡ old ++ k ∷ [] → next ≡ one ++ n ∷ [] → all ≡ next ++ m ∷ [] → all ≡ old ++ k ∷ n ∷ m ∷ []
three old one next all k n m first second third =
    third ∙ ap (λ ns. ns ++ m ∷ []) (two old one next k n first second) ∙ append_assoc old (k ∷ n ∷ []) (m ∷ [])

pub returns-in_ok-push-3 : goal.returns-in_ok-push-3
returns-in_ok-push-3 c =
    three c.args.numbers.now.items c.push.new.self.items c.push-in-Some.new.self.items c.push-in-Some-number_named.new.self.items
    c.args.change.now.number c.in-Some.listener.number c.in-Some-number_named.replaced c.in_ok-push.ensures.items c.in_ok-push-2.ensures.items c.in_ok-push-3.ensures.items
    ∙ ap (λ ns. c.args.numbers.now.items ++ ns)
    (touched c.args.before.now c.args.change.now c.in-Some.listener (Some c.in-Some-number_named.replaced) c.in-Some.is
    (sym c.in-Some-number_named.is ∙ c.number_named.ensures ∙ ap (λ n. option_map number (named name c.args.before.now n)) c.as_str.ensures.bytes))

pub returns-in_default-number_named : goal.returns-in_default-number_named
returns-in_default-number_named c =
    two c.args.numbers.now.items c.push.new.self.items c.push-in-Some.new.self.items
    c.args.change.now.number c.in-Some.listener.number c.in_ok-push.ensures.items c.in_ok-push-2.ensures.items
    ∙ ap (λ ns. c.args.numbers.now.items ++ ns)
    (touched c.args.before.now c.args.change.now c.in-Some.listener None c.in-Some.is
    (sym c.in_default-number_named.is ∙ c.number_named.ensures ∙ ap (λ n. option_map number (named name c.args.before.now n)) c.as_str.ensures.bytes))
