use Rattle.std.proofs.Common.{◌≡◌, ◌∙◌, ℕ, ◌+◌, ◌<◌, ◌||◌, Bool, List, length, get_or, drop, map, ap, sym}
use Rattle.std.proofs.lemmas.List.{at_drop_more}
use Rattle.std.specs.List.{list_any}
use Rattle.serde_json.specs.View.{view}
use Rattle.serde_json.specs.declared.value.Value.{Value}
use Rattle.ev_route_json.specs.Targets.{has_text, is_by_header}
use Rattle.ev_route_json.proofs.targets.is_any_by_header.Goals as goal

-- one of these entries is
abbrev is_any : List Value → Bool
is_any entries = list_any is_by_header (map view entries)

-- the entry here is, or one after it
here_or_later : (entries : List Value) (i : ℕ) (entry : Value) (is : Bool) → i < length entries → entry ≡ get_or entries i entry → is ≡ is_by_header (view entry)
    → is_any (drop i entries) ≡ (is || is_any (drop (i + 1) entries))
here_or_later entries i entry is lt at said =
    at_drop_more is_any entries i entry lt ∙ ap (λ (v : Value). is_by_header (view v) || is_any (drop (i + 1) entries)) (sym at)
    ∙ ap (λ b. b || is_any (drop (i + 1) entries)) (sym said)

pub returns-then-has_text : goal.returns-then-has_text
returns-then-has_text c =
    let entries = c.args.entries.now in
    let i = c.loop-entry.entry-index in
    let said = c.has_text.ensures ∙ ap has_text c.in_ok-header.ensures.value in
    sym (c.loop-entry.invariant ∙ here_or_later entries i c.entry-item.result c.has_text.result c.loop-entry-test.true c.entry-item.is said
    ∙ ap (λ b. b || is_any (drop (i + 1) entries)) c.if-has_text.true)

pub loop-entry-preserved : goal.loop-entry-preserved
loop-entry-preserved c =
    let entries = c.args.entries.now in
    let i = c.loop-entry.entry-index in
    let said = c.has_text.ensures ∙ ap has_text c.in_ok-header.ensures.value in
    c.loop-entry.invariant ∙ here_or_later entries i c.entry-item.result c.has_text.result c.loop-entry-test.true c.entry-item.is said
    ∙ ap (λ b. b || is_any (drop (i + 1) entries)) c.if-has_text.false
