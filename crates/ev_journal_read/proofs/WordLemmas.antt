-- Each word of a row reads back as what was written.
use Rattle.std.proofs.Common.{◌≡◌, ℕ, ◌^◌, ◌<◌, ◌&&◌, List, [], ◌∷◌, Bool, true, Some, None, option_map, option_and_then, decimal, refl, ap, ◌∙◌, arith, rules, lt-ltb, le-leb, ne_eqb}
use Rattle.std.specs.Char.{is_ascii_digit}
use Rattle.std.specs.List.{list_all}
use Rattle.std.specs.Str.Parse.{digits_value}
use Rattle.std.proofs.lemmas.Str.Parse.{IsNumeralModel, numerals_by_value}
use Rattle.std.proofs.lemmas.Fmt.{digits_decimal, digits_value-decimal, decimal_nonempty, length-decimal-le}
use Rattle.ev_types.specs.declared.events.Actor.{Actor}
use Rattle.ev_types.specs.declared.events.Actor.TheVariants as actor
use Rattle.ev_types.specs.declared.events.Op.{Op}
use Rattle.ev_types.specs.declared.events.Op.TheVariants.{Connect, Disconnect, Response, Health, FetchTimeout, DrainTimeout, TtlExpired, Publish, Reap, Accept, Close, Settle}
use Rattle.ev_types.specs.declared.events.Verdict.{Verdict}
use Rattle.ev_types.specs.declared.events.Verdict.TheVariants.{New, Same, InPlace, Back, Kept, Unasked, Renewed, Refused}
use Rattle.ev_tree.specs.Scalars.{is_numeral, u32_text}
use Rattle.ev_journal.specs.Rendering.{actor_text, op_text, verdict_text}
use Rattle.ev_journal.specs.Rows.{IsActor, IsVerdict}
use Rattle.ev_journal_read.specs.Words.{number_behind, actor_named, op_named, rule_of, verdict_named}

own : IsNumeralModel (λ ds. list_all is_ascii_digit ds ≡ true) (digits_value 10)
own = numerals_by_value _ (search rules)

numeral_parts : (a b c : Bool) → a ≡ true → b ≡ true → c ≡ true → (a && (b && c)) ≡ true
numeral_parts a b c p q r = rw (p, q, r) refl

is_numeral-decimal : (n : ℕ) → n < 2 ^ 32 → is_numeral 10 (decimal n) ≡ true
is_numeral-decimal n h =
    numeral_parts _ _ _ (lt-ltb _ _ (decimal_nonempty n (omega arith))) (le-leb _ _ (length-decimal-le 10 n (omega arith) (omega arith) (omega arith))) (digits_decimal own n (omega arith))

-- the decimal digits of a number of 32 bits are that number
pub u32_text-decimal : (n : ℕ) → n < 2 ^ 32 → u32_text (decimal n) ≡ Some n
unfolding u32_text
u32_text-decimal n h = rw (is_numeral-decimal n h, digits_value-decimal own n (omega arith), lt-ltb n (2 ^ 32) h) refl

pub actor_named-text : (who : Actor) → IsActor who → actor_named (actor_text who) ≡ Some who
actor_named-text actor.Stream h = refl
actor_named-text actor.Health h = refl
actor_named-text actor.Timer h = refl
actor_named-text actor.Main h = refl
actor_named-text (actor.Worker worker) h = ap (option_map actor.Worker) (u32_text-decimal worker h)

pub op_named-text : (op : Op) → op_named (op_text op) ≡ Some op
op_named-text Connect = refl
op_named-text Disconnect = refl
op_named-text Response = refl
op_named-text Health = refl
op_named-text FetchTimeout = refl
op_named-text DrainTimeout = refl
op_named-text TtlExpired = refl
op_named-text Publish = refl
op_named-text Reap = refl
op_named-text Accept = refl
op_named-text Close = refl
op_named-text Settle = refl

rule_of-rule : (n : ℕ) → n < 2 ^ 8 → rule_of n ≡ Some (Refused n)
rule_of-rule n h = rw (lt-ltb n 256 h) refl

pub verdict_named-text : (verdict : Verdict) → IsVerdict verdict → verdict_named (verdict_text verdict) ≡ Some verdict
verdict_named-text New h = refl
verdict_named-text Same h = refl
verdict_named-text InPlace h = refl
verdict_named-text Back h = refl
verdict_named-text Kept h = refl
verdict_named-text Unasked h = refl
verdict_named-text Renewed h = refl
verdict_named-text (Refused rule) h = ap (option_and_then rule_of) (u32_text-decimal rule (omega arith)) ∙ rule_of-rule rule h

-- a word that doesn't begin with the letter has no number after it
pub nothing_behind : (letter : ℕ) (word : List ℕ) → ((rest : List ℕ) → word ≡ letter ∷ rest → ⊥) → None ≡ number_behind letter word
nothing_behind letter [] h = refl
nothing_behind letter (x ∷ xs) h = rw (ne_eqb x letter (λ e. h xs (ap (λ y. y ∷ xs) e))) refl
