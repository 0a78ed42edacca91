-- The entries of a run by the lines of the input.
use Rattle.std.proofs.Common.{◌≡◌, ◌∙◌, ◌⊎◌, inl, inr, ℕ, ◌+◌, ◌<◌, ◌≤◌, false, List, [], ◌∷◌, ◌++◌, length, take, flat_map, Some, refl, sym, ap, arith, length-append}
use Rattle.std.specs.Prelude.{slice_get}
use Rattle.std.proofs.lemmas.Bool.{cases_lt}
use Rattle.std.proofs.lemmas.List.{append-nil}
use Rattle.std.proofs.lemmas.Option.{slice_get_within}
use Rattle.std.proofs.lemmas.Grind.{flat_map-append}
use Rattle.serde_json.specs.Data.{Data}
use Rattle.ev_types.specs.Events.{IsMainSide}
use Rattle.ev_types.specs.Scripts.{IsScript}
use Rattle.ev_types.specs.declared.events.Entry.{Entry}
use Rattle.ev_types.specs.declared.events.Line.{Line}
use Rattle.ev_types.specs.declared.journals.Format.{Format}
use Rattle.ev_types.specs.declared.events.Profile.{Profile}
use Rattle.ev_model.specs.Operations.{IsRunOf, Operation, entries_of, operation_of, operations_of}
use Rattle.ev_model_laws.proofs.PlaceLemmas.{take_one}
use Rattle.ev_model_laws.proofs.HoldLemmas.{side_holds}
use Rattle.ev_script.specs.Lines.{line_of}
use Rattle.ev_script.specs.declared.trees.ScriptTrees.{ScriptTrees}
use Rattle.ev_expand.specs.Expanding.{Rules, gives}
use Rattle.ev_expand.specs.Fronts.{Front, fronts}
use Rattle.ev_expand.specs.Said.{given_lines, lines_in}
use Rattle.ev_expand.proofs.FrontLawLemmas.{IsGivenAt, fronts_taken, given_before, given_from}
use Rattle.ev_expand.proofs.OrderLemmas.{IsOfLine, entry_in, is_behind, of_line}
use Rattle.ev_expand.proofs.SaidPlaceLemmas.{IsSaid, line_place, said_is}
use Rattle.ev_dns.specs.Resolving.{dns_rules}
use Rattle.ev_dns.specs.LastAnswers.{answered_script}
use Rattle.ev_dns.proofs.ListLemmas.{taken_parts}

-- ---- how many lines are given

pub of_fronts : (rules : Rules) (lines : List Data) (n : ℕ) → given_before rules lines n ≡ length (flat_map (gives rules) (take n (fronts lines)))
of_fronts rules lines n = ap (λ fs. length (flat_map (gives rules) fs)) (fronts_taken lines n)

-- a line gives its own after those of the lines before it
pub given_next : (rules : Rules) (lines : List Data) (index : ℕ) (front : Front) → slice_get (fronts lines) index ≡ Some front
    → given_before rules lines (index + 1) ≡ given_before rules lines index + length (gives rules front)
given_next rules lines index front there =
    of_fronts rules lines (index + 1)
    ∙ ap (λ fs. length (flat_map (gives rules) fs)) (take_one (fronts lines) index front there)
    ∙ ap length (flat_map-append (gives rules) (take index (fronts lines)) (front ∷ []))
    ∙ length-append (flat_map (gives rules) (take index (fronts lines))) (gives rules front ++ [])
    ∙ ap (λ n. n + length (gives rules front ++ [])) (sym (of_fronts rules lines index))
    ∙ ap (λ ls. given_before rules lines index + length ls) (append-nil (gives rules front))

pub given_grows : (rules : Rules) (lines : List Data) (n m : ℕ) → n ≤ m → given_before rules lines n ≤ given_before rules lines m
given_grows rules lines n m less =
    let parts = taken_parts n m (fronts lines) less in
    let all : given_before rules lines m ≡ length (flat_map (gives rules) (take n (fronts lines)) ++ flat_map (gives rules) parts.0) =
    of_fronts rules lines m ∙ ap (λ fs. length (flat_map (gives rules) fs)) parts.1
    ∙ ap length (flat_map-append (gives rules) (take n (fronts lines)) parts.0) in
    omega (arith, all, of_fronts rules lines n, length-append (flat_map (gives rules) (take n (fronts lines))) (flat_map (gives rules) parts.0))

-- ---- entries

-- the entry is by a line of the text that a line of the input gave
pub record IsBy (profile : Profile) (lines : List Data) (entry : Entry) : Type 0 where
  pub index : ℕ
  pub front : Front
  pub there : slice_get (fronts lines) index ≡ Some front
  pub inner : ℕ
  pub tree : Data
  pub among : slice_get (gives (dns_rules profile) front) inner ≡ Some tree
  pub line : Line
  pub is : line_of profile entry.at tree ≡ Some line
  pub at : entry.at ≡ 2 + (given_before (dns_rules profile) lines index + inner)
  pub says : line.event ≡ entry.event
  pub own : entry.step ≡ 0

-- it comes after the lines of those before, and not after its own
pub record IsWithin (profile : Profile) (lines : List Data) (index at : ℕ) : Type 0 where
  pub from : given_before (dns_rules profile) lines index + 2 ≤ at
  pub to : at ≤ given_before (dns_rules profile) lines (index + 1) + 1

pub within_own : (profile : Profile) (lines : List Data) (entry : Entry) (by : IsBy profile lines entry) → IsWithin profile lines by.index entry.at
within_own profile lines entry by = record {
  from = omega (arith, by.at);
  to = omega (arith, by.at, given_next (dns_rules profile) lines by.index by.front by.there, slice_get_within (gives (dns_rules profile) by.front) by.inner by.tree by.among);
}

-- of two the one with the lesser number is of no later line
pub index_rises : (profile : Profile) (lines : List Data) (i j m n : ℕ) → IsWithin profile lines i m → IsWithin profile lines j n → m ≤ n → i ≤ j
index_rises profile lines i j m n first second less = by (cases_lt j i)
  where
    by : (j < i) ⊎ (i ≤ j) → i ≤ j
    by (inl back) = absurd (omega (arith, first.from, second.to, less, given_grows (dns_rules profile) lines (j + 1) i (omega (arith, back))))
    by (inr ahead) = ahead

-- an entry of the main side is by a line, where it is none of those that come after lines
pub entry_by : (trees : ScriptTrees) (format : Format) (journal : List Entry) → IsScript (answered_script trees) → IsRunOf format (answered_script trees) journal
    → (q : ℕ) (entry : Entry) → slice_get journal q ≡ Some entry → IsMainSide entry.actor → is_behind entry.event ≡ false → IsBy trees.header.profile (lines_in trees) entry
entry_by trees format journal kept run q entry there main event =
    let holds : entries_of journal entry.actor ≡ operations_of (answered_script trees) entry.actor =
    side_holds format (answered_script trees) journal entry.actor kept main run in
    let own : IsOfLine (answered_script trees) (operation_of entry) =
    of_line (answered_script trees) (operation_of entry) (entry_in (answered_script trees) journal entry.actor q entry holds there refl) event in
    let said : IsSaid trees.header.profile 2 (given_lines (dns_rules trees.header.profile) (lines_in trees)) own.line = said_is trees.header.profile 2 (given_lines (dns_rules trees.header.profile) (lines_in trees)) own.line own.among in
    let given : IsGivenAt (dns_rules trees.header.profile) (lines_in trees) said.index said.tree = given_from (dns_rules trees.header.profile) (lines_in trees) said.index said.tree said.there in
    let number : entry.at ≡ 2 + said.index =
    sym (ap (λ (o : Operation). o.at) own.is) ∙ line_place trees.header.profile (2 + said.index) said.tree own.line said.is in
    record {
      index = given.index;
      front = given.front;
      there = given.there;
      inner = given.inner;
      tree = said.tree;
      among = given.among;
      line = own.line;
      is = ap (λ n. line_of trees.header.profile n said.tree) number ∙ said.is;
      at = number ∙ ap (λ n. 2 + n) given.at;
      says = ap (λ (o : Operation). o.event) own.is;
      own = sym (ap (λ (o : Operation). o.step) own.is);
    }
