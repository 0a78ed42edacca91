use Rattle.std.proofs.Common.{◌≡◌, ◌↔◌, ◌≤◌, ◌<◌, ℕ, List, [], ◌∷◌, length, get_or, Bool, true, IsTrue, ap, sym, ◌∙◌, arith}
use Rattle.std.specs.Str.{bytes_eq}
use Rattle.std.proofs.lemmas.Slice.Eq.{bytes_eq-Decides}
use Rattle.ev_app.proofs.commands.is_word.Goals as goal

holds : (b : Bool) → IsTrue b → b ≡ true
holds b h = search h

told : (b : Bool) → b ≡ true → IsTrue b
told b e = search e

-- one argument is the word exactly where its bytes are
one_word : (words : List (List ℕ)) (word wanted : List ℕ) (b : Bool) → 1 ≤ length words → length words < 2 → word ≡ get_or words 0 word
    → b ≡ bytes_eq word wanted → IsTrue b ↔ (words ≡ wanted ∷ [])
one_word [] word wanted b some few is tested = absurd (omega arith)
one_word (w ∷ []) word wanted b some few is tested = (
  λ h. ap (λ v. v ∷ []) (sym is ∙ (bytes_eq-Decides word wanted).0 (sym tested ∙ holds b h)),
  λ e. told b (tested ∙ (bytes_eq-Decides word wanted).1 (is ∙ ap (λ ws. get_or ws 0 w) e)),
)
one_word (w ∷ v ∷ ws) word wanted b some few is tested = absurd (omega arith)

pub returns-in-len1 : goal.returns-in-len1
returns-in-len1 c =
    one_word c.args.arguments.now c.argument-item.result c.args.word.now c.eq.result c.in-len1.len_at_least c.in-len1.len_below c.argument-item.is
    (c.eq.ensures ∙ ap (λ w. bytes_eq w c.args.word.now) c.as_str.ensures.bytes)
