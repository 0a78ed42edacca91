-- Arguments ask for one command at most.
use Rattle.std.proofs.Common.{◌≡◌, ℕ, ◌<◌, ◌≤◌, ◌^◌, List, [], ◌∷◌, length, get_or, Option, None, Some, IfSome, codes, refl, sym, ap, subst, ◌∙◌, arith, lit<, if◌then◌else◌}
use Rattle.std.specs.Fmt.{decimal}
use Rattle.std.specs.Str.{bytes_eq}
use Rattle.std.specs.Str.Parse.{digits_value}
use Rattle.std.proofs.lemmas.Fmt.{decimal_injective, decimal_is_IsNumeral}
use Rattle.ev_app.specs.declared.commands.Command.{Command}
use Rattle.ev_app.specs.declared.commands.Command.TheVariants.{Replay, Run, Audit, Soak, Tls, Dns, Chains, Sotw, Dump}
use Rattle.ev_app.specs.Commands.{Asks, IsSoak, IsWithin, words_of}

-- the count of a soak fits a number of the command line
small_count : (seed count : ℕ) → IsSoak seed count → count < 2 ^ 64
small_count seed count within = let wide : 100000 < 2 ^ 64 = lit< tt in omega (arith, within.few, wide)

-- and so do the entries of a dump
wide_entries : (entries : ℕ) → entries < 2 ^ 32 → entries < 2 ^ 64
wide_entries entries within = let wide : 2 ^ 32 < 2 ^ 64 = lit< tt in omega (arith, within, wide)

-- two words, by their places
pub two_words : (words : List (List ℕ)) (a b : List ℕ) → 2 ≤ length words → length words < 3 → a ≡ get_or words 0 a → b ≡ get_or words 1 b → words ≡ a ∷ b ∷ []
two_words [] a b some few first second = absurd (omega arith)
two_words (x ∷ []) a b some few first second = absurd (omega arith)
two_words (x ∷ y ∷ []) a b some few first second = λ i. sym first i ∷ sym second i ∷ []
two_words (x ∷ y ∷ z ∷ ws) a b some few first second = absurd (omega arith)

-- a dump of this many entries is asked for by the words
pub dump_asked : (words : List (List ℕ)) (a b : List ℕ) (entries : ℕ) (found : Option Command) → words ≡ a ∷ b ∷ [] → a ≡ codes "dump" → b ≡ decimal entries
    → IfSome found (λ command. (command ≡ Dump entries) × IsWithin command) → IfSome found (Asks words)
dump_asked words a b entries None are first second told = tt
dump_asked words a b entries (Some command) are first second told = record {
  words = are ∙ (λ i. first i ∷ second i ∷ []) ∙ ap words_of (sym told.0);
  within = told.1;
}

-- and none where the number is none of a dump
pub no_dump_asked : (words : List (List ℕ)) (a b : List ℕ) (entries : ℕ) → words ≡ a ∷ b ∷ [] → entries < 2 ^ 64 → b ≡ decimal entries
    → (entries < 2 ^ 32 → ⊥) → (other : ℕ) → Asks words (Dump other) → ⊥
no_dump_asked words a b entries are fits second not_within other asks =
    let e : a ∷ b ∷ [] ≡ codes "dump" ∷ decimal other ∷ [] = sym are ∙ asks.words in
    let same : entries ≡ other = decimal_injective entries other fits (wide_entries other asks.within) (sym second ∙ ap (λ (ws : List (List ℕ)). get_or ws 1 []) e) in
    not_within (subst (λ (n : ℕ). n < 2 ^ 32) (sym same) asks.within)

-- three words, by their places
pub three_words : (words : List (List ℕ)) (a b c : List ℕ) → 3 ≤ length words → length words < 4
    → a ≡ get_or words 0 a → b ≡ get_or words 1 b → c ≡ get_or words 2 c → words ≡ a ∷ b ∷ c ∷ []
three_words [] a b c some few first second third = absurd (omega arith)
three_words (x ∷ []) a b c some few first second third = absurd (omega arith)
three_words (x ∷ y ∷ []) a b c some few first second third = absurd (omega arith)
three_words (x ∷ y ∷ z ∷ []) a b c some few first second third = λ i. sym first i ∷ sym second i ∷ sym third i ∷ []
three_words (x ∷ y ∷ z ∷ w ∷ ws) a b c some few first second third = absurd (omega arith)

-- they are those of a soak
pub asks_soak : (words : List (List ℕ)) (a b c : List ℕ) (seed count : ℕ) → words ≡ a ∷ b ∷ c ∷ [] → a ≡ codes "soak" → b ≡ decimal seed → c ≡ decimal count → IsSoak seed count → Asks words (Soak seed count)
asks_soak words a b c seed count are first second third within = record { words = are ∙ (λ i. first i ∷ second i ∷ third i ∷ []); within = within }

-- and where they are, each is its own
pub soak_words : (words : List (List ℕ)) (a b c : List ℕ) (seed count : ℕ) → words ≡ a ∷ b ∷ c ∷ [] → Asks words (Soak seed count) → (a ≡ codes "soak") × (b ≡ decimal seed) × (c ≡ decimal count)
soak_words words a b c seed count are asks =
    let e : a ∷ b ∷ c ∷ [] ≡ codes "soak" ∷ decimal seed ∷ decimal count ∷ [] = sym are ∙ asks.words in (
      ap (λ (ws : List (List ℕ)). get_or ws 0 []) e,
      ap (λ (ws : List (List ℕ)). get_or ws 1 []) e,
      ap (λ (ws : List (List ℕ)). get_or ws 2 []) e,
    )

-- a soak of these numbers is asked for by the words
pub soak_asked : (words : List (List ℕ)) (a b c : List ℕ) (seed count : ℕ) (found : Option Command) → words ≡ a ∷ b ∷ c ∷ [] → a ≡ codes "soak" → b ≡ decimal seed → c ≡ decimal count
    → IfSome found (λ command. (command ≡ Soak seed count) × IsWithin command) → IfSome found (Asks words)
soak_asked words a b c seed count None are first second third told = tt
soak_asked words a b c seed count (Some command) are first second third told = record {
  words = are ∙ (λ i. first i ∷ second i ∷ third i ∷ []) ∙ ap words_of (sym told.0);
  within = told.1;
}

-- and none where these numbers are none of a soak
pub none_asked_by : (words : List (List ℕ)) (a b c : List ℕ) (seed count : ℕ) → words ≡ a ∷ b ∷ c ∷ [] → seed < 2 ^ 64 → count < 2 ^ 64 → b ≡ decimal seed → c ≡ decimal count
    → (IsSoak seed count → ⊥) → (other more : ℕ) → Asks words (Soak other more) → ⊥
none_asked_by words a b c seed count are seed_fits count_fits second third not_within other more asks =
    let own : (a ≡ codes "soak") × (b ≡ decimal other) × (c ≡ decimal more) = soak_words words a b c other more are asks in
    let seeds : seed ≡ other = decimal_injective seed other seed_fits asks.within.bits (sym second ∙ own.1) in
    let counts : count ≡ more = decimal_injective count more count_fits (small_count other more asks.within) (sym third ∙ own.2) in
    not_within (subst (λ (n : ℕ). IsSoak n count) (sym seeds) (subst (λ (n : ℕ). IsSoak other n) (sym counts) asks.within))

-- other than three words are none of a soak
pub soak_has_three : (words : List (List ℕ)) (seed count : ℕ) → Asks words (Soak seed count) → length words ≡ 3
soak_has_three words seed count asks = ap length asks.words

-- arguments that are no command's words ask for none
pub none_asked : (words : List (List ℕ)) → (words ≡ codes "replay" ∷ [] → ⊥) → (words ≡ codes "run" ∷ [] → ⊥)
    → (words ≡ codes "audit" ∷ [] → ⊥) → (words ≡ codes "tls" ∷ [] → ⊥) → (words ≡ codes "dns" ∷ [] → ⊥) → (words ≡ codes "chains" ∷ [] → ⊥) → (words ≡ codes "sotw" ∷ [] → ⊥) → ((seed count : ℕ) → Asks words (Soak seed count) → ⊥) → ((entries : ℕ) → Asks words (Dump entries) → ⊥)
    → (command : Command) → Asks words command → ⊥
none_asked words no_replay no_run no_audit no_tls no_dns no_chains no_sotw no_soak no_dump Replay asks = no_replay asks.words
none_asked words no_replay no_run no_audit no_tls no_dns no_chains no_sotw no_soak no_dump Run asks = no_run asks.words
none_asked words no_replay no_run no_audit no_tls no_dns no_chains no_sotw no_soak no_dump Audit asks = no_audit asks.words
none_asked words no_replay no_run no_audit no_tls no_dns no_chains no_sotw no_soak no_dump (Soak seed count) asks = no_soak seed count asks
none_asked words no_replay no_run no_audit no_tls no_dns no_chains no_sotw no_soak no_dump Tls asks = no_tls asks.words
none_asked words no_replay no_run no_audit no_tls no_dns no_chains no_sotw no_soak no_dump Dns asks = no_dns asks.words
none_asked words no_replay no_run no_audit no_tls no_dns no_chains no_sotw no_soak no_dump Chains asks = no_chains asks.words
none_asked words no_replay no_run no_audit no_tls no_dns no_chains no_sotw no_soak no_dump Sotw asks = no_sotw asks.words
none_asked words no_replay no_run no_audit no_tls no_dns no_chains no_sotw no_soak no_dump (Dump entries) asks = no_dump entries asks

-- ---- one command at most: it is read off its words

-- the number that digits are
abbrev number : List ℕ → ℕ
number bytes = digits_value 10 bytes

number_is : (n : ℕ) → n < 2 ^ 64 → number (decimal n) ≡ n
number_is n small = (decimal_is_IsNumeral n small).1

-- the command of one word
abbrev plain_command : List ℕ → Command
plain_command word = if bytes_eq word (codes "run") then Run else if bytes_eq word (codes "audit") then Audit else if bytes_eq word (codes "tls") then Tls
    else if bytes_eq word (codes "dns") then Dns else if bytes_eq word (codes "chains") then Chains else if bytes_eq word (codes "sotw") then Sotw else Replay

-- the command of these words, if they ask for one
abbrev command_told : List (List ℕ) → Command
command_told [] = Replay
command_told (word ∷ []) = plain_command word
command_told (word ∷ a ∷ []) = Dump (number a)
command_told (word ∷ a ∷ b ∷ rest) = Soak (number a) (number b)

told_by_words : (command : Command) → IsWithin command → command_told (words_of command) ≡ command
told_by_words Replay within = refl
told_by_words Run within = refl
told_by_words Audit within = refl
told_by_words (Soak seed count) within = λ i. Soak (number_is seed within.bits i) (number_is count (small_count seed count within) i)
told_by_words Tls within = refl
told_by_words Dns within = refl
told_by_words Chains within = refl
told_by_words Sotw within = refl
told_by_words (Dump entries) within = λ i. Dump (number_is entries (wide_entries entries within) i)

pub asks_one : (words : List (List ℕ)) (one other : Command) → Asks words one → Asks words other → one ≡ other
asks_one words one other first second = sym (told_by_words one first.within) ∙ ap command_told (sym first.words ∙ second.words) ∙ told_by_words other second.within
