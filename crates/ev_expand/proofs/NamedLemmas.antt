-- What a generation that asks for endpoints by a name waited for is an event that names them.
use Rattle.std.proofs.Common.{◌≡◌, ◌∙◌, inr, ℕ, ◌+◌, ◌-◌, ◌<◌, Bool, true, false, cond, nat_le, ◌&&◌, ◌||◌, List, [], ◌∷◌, length, take, Option, Some, None, sym, ap, ap₂, subst, arith}
use Rattle.std.specs.Prelude.{slice_get, unwrap_or, option_map}
use Rattle.std.specs.Cmp.{first_so, second_so}
use Rattle.std.specs.List.{list_any, list_all}
use Rattle.std.specs.Str.{bytes_eq}
use Rattle.std.proofs.lemmas.Bool.{false≢true, cond_both, or_left, or_right}
use Rattle.ev_types.specs.Items.{ItemParts, ResponseParts}
use Rattle.ev_types.specs.Kinds.{kind_same, kind_decides}
use Rattle.ev_types.specs.Same.{bytes_decide}
use Rattle.ev_types.specs.Timeouts.{TimeoutParts}
use Rattle.ev_types.specs.declared.contents.Kind.{Kind}
use Rattle.ev_types.specs.declared.contents.Kind.TheVariants.{Eds}
use Rattle.ev_types.specs.declared.events.Answer.{Answer}
use Rattle.ev_types.specs.declared.events.Answer.TheVariants.{Moved, Replied}
use Rattle.ev_types.specs.declared.events.Entry.{Entry}
use Rattle.ev_types.specs.declared.events.Event.{Event}
use Rattle.ev_types.specs.declared.events.Event.TheVariants.{Response, FetchTimeout}
use Rattle.ev_types.specs.declared.events.Verdict.{Verdict}
use Rattle.ev_types.specs.declared.events.Verdict.TheVariants.{Kept, Refused}
use Rattle.ev_model.specs.Entries.{MadeRow, answers_wait, entries_for, entries_since, has_ended_wait, made_in, has_word_on, is_response_of, is_word_on, made_of, tells_of_name, times_out}
use Rattle.ev_model.specs.Laws.{Told, WasWarm}
use Rattle.ev_model.specs.Verdicts.{is_among, is_removed}
use Rattle.ev_model.specs.Watching.{Dependency, dependencies_of, has_dependency, is_dependency}
use Rattle.ev_model_laws.proofs.AnyLemmas.{or_so}
use Rattle.ev_model_laws.proofs.OperationLists.{IsIn}
use Rattle.ev_expand.proofs.ListLemmas.{all_in, get_in, in_any, some_same, taken_get}

-- a resource of the response has the name, or it is one of the removed names
abbrev pub is_named : List ℕ → ResponseParts → Bool
is_named name response = list_any (λ (item : ItemParts). bytes_eq item.name name) response.items || is_among name response.removed

-- the event names endpoints: as a response of endpoints, or as their fetch timeout
abbrev pub NamesEndpoints : List ℕ → Event → Type 0
NamesEndpoints name (Response response) = (response.kind ≡ Some Eds) × (is_named name response ≡ true)
NamesEndpoints name (FetchTimeout timeout) = (timeout.kind ≡ Eds) × (timeout.name ≡ Some name)
NamesEndpoints name event = ⊥

word_named : (name : List ℕ) (verdict : Verdict) (item : ItemParts) → is_word_on name verdict item ≡ true → bytes_eq item.name name ≡ true
word_named name Kept item h = h
word_named name (Refused rule) item h = h
word_named name verdict item h = absurd (false≢true h)

words_named : (name : List ℕ) (verdicts : List Verdict) (items : List ItemParts) → has_word_on name verdicts items ≡ true
    → list_any (λ (item : ItemParts). bytes_eq item.name name) items ≡ true
words_named name [] items h = absurd (false≢true h)
words_named name (verdict ∷ verdicts) [] h = absurd (false≢true h)
words_named name (verdict ∷ verdicts) (item ∷ items) h =
    or_so (is_word_on name verdict item) (has_word_on name verdicts items)
    (λ first. or_left (bytes_eq item.name name) _ (word_named name verdict item first))
    (λ rest. or_right (bytes_eq item.name name) _ (words_named name verdicts items rest)) h

of_kind : (kind : Kind) (found : Option Kind) → unwrap_or (option_map (kind_same kind) found) false ≡ true → found ≡ Some kind
of_kind kind None h = absurd (false≢true h)
of_kind kind (Some other) h = ap Some (sym ((kind_decides kind other).0 h))

replied_named : (name : List ℕ) (response : ResponseParts) (answer : Answer) → tells_of_name Eds name (Response response) answer ≡ true
    → NamesEndpoints name (Response response)
replied_named name response (Replied requests verdicts) h = (
  of_kind Eds response.kind (first_so (is_response_of Eds response) _ h),
  or_so (has_word_on name verdicts response.items) (is_removed response name)
      (λ word. or_left _ (is_among name response.removed) (words_named name verdicts response.items word))
      (λ removed. or_right (list_any (λ (item : ItemParts). bytes_eq item.name name) response.items) _ (first_so (is_among name response.removed) _ removed))
      (second_so (is_response_of Eds response) _ h),
)
replied_named name response answer h = absurd (false≢true h)

tells_named : (name : List ℕ) (event : Event) (answer : Answer) → tells_of_name Eds name event answer ≡ true → NamesEndpoints name event
tells_named name (Response response) answer h = replied_named name response answer h
tells_named name event answer h = absurd (false≢true h)

timed_name : (name : List ℕ) (found : Option (List ℕ)) → unwrap_or (option_map (bytes_eq name) found) false ≡ true → found ≡ Some name
timed_name name None h = absurd (false≢true h)
timed_name name (Some other) h = ap Some (sym ((bytes_decide name other).0 h))

moved_named : (name : List ℕ) (timeout : TimeoutParts) (answer : Answer) → times_out Eds name (FetchTimeout timeout) answer ≡ true
    → NamesEndpoints name (FetchTimeout timeout)
moved_named name timeout (Moved requests) h =
    ((kind_decides timeout.kind Eds).0 (first_so (kind_same timeout.kind Eds) _ h), timed_name name timeout.name (second_so (kind_same timeout.kind Eds) _ h))
moved_named name timeout answer h = absurd (false≢true h)

times_named : (name : List ℕ) (event : Event) (answer : Answer) → times_out Eds name event answer ≡ true → NamesEndpoints name event
times_named name (FetchTimeout timeout) answer h = moved_named name timeout answer h
times_named name event answer h = absurd (false≢true h)

-- what ends the wait for endpoints names them
pub wait_named : (name : List ℕ) (limited fresh : Bool) (entry : Entry) → answers_wait (record { kind = Eds; name = name; limited = limited; fresh = fresh }) entry ≡ true
    → NamesEndpoints name entry.event
wait_named name limited fresh entry h =
    or_so (tells_of_name Eds name entry.event entry.answer) (limited && times_out Eds name entry.event entry.answer)
    (λ tells. tells_named name entry.event entry.answer tells)
    (λ timed. times_named name entry.event entry.answer (second_so limited _ timed)) h

-- so does what ends the wait for a dependency on them
dependency_named : (name : List ℕ) (d : Dependency) (entry : Entry) → is_dependency Eds name d ≡ true → answers_wait d entry ≡ true
    → NamesEndpoints name entry.event
dependency_named name d entry is h =
    wait_named name d.limited d.fresh entry
    (sym (ap₂ (λ (kind : Kind) (n : List ℕ). answers_wait (record { kind = kind; name = n; limited = d.limited; fresh = d.fresh }) entry)
    ((kind_decides d.kind Eds).0 (first_so (kind_same d.kind Eds) (bytes_eq d.name name) is))
    ((bytes_decide d.name name).0 (second_so (kind_same d.kind Eds) (bytes_eq d.name name) is)))
    ∙ h)

-- ---- entries that count

-- an entry since a generation was made is one of all
pub since_in : (number : ℕ) (entries : List Entry) (entry : Entry) → IsIn entry (entries_since number entries) → IsIn entry entries
since_in number [] entry is = is
since_in number (first ∷ entries) entry is =
    let made : ℕ = length (made_in first.event first.answer) in
    inr (cond_both (nat_le number made) entries (entries_since (number - made) entries) (λ (es : List Entry). IsIn entry es → IsIn entry entries)
    (λ le here. here) (λ gt here. since_in (number - made) entries entry here) is)

-- so is one that counts for a dependency of it
for_in : (fresh : Bool) (number : ℕ) (entries : List Entry) (entry : Entry) → IsIn entry (cond fresh (entries_since number entries) entries) → IsIn entry entries
for_in true number entries entry is = since_in number entries entry is
for_in false number entries entry is = is

-- an entry before place k names the endpoints
pub record NamedBefore (journal : List Entry) (k : ℕ) (name : List ℕ) : Type 0 where
  pub place : ℕ
  pub earlier : place < k
  pub entry : Entry
  pub there : slice_get journal place ≡ Some entry
  pub names : NamesEndpoints name entry.event

-- a generation that waits for endpoints by a name, and was warm before place k, had them named before it
pub warmed_named : (told : Told) (k number version : ℕ) (row : MadeRow) (name : List ℕ) → WasWarm told number version k
    → made_of told.journal number ≡ Some row → has_dependency Eds name row.content ≡ true → NamedBefore told.journal k name
warmed_named told k number version row name warm made depends =
    let answered = warm.warmed.answered in
    let same : answered.row ≡ row = some_same (sym answered.made ∙ made) in
    let entries : List Entry = take (warm.warmed.place + 1) told.journal in
    let ended : list_all (has_ended_wait number entries) (dependencies_of row.content) ≡ true =
    subst (λ (r : MadeRow). list_all (has_ended_wait number entries) (dependencies_of r.content) ≡ true) same answered.answered in
    let d = in_any (is_dependency Eds name) (dependencies_of row.content) depends in
    let one = in_any (answers_wait d.0) (entries_for number entries d.0) (all_in (has_ended_wait number entries) (dependencies_of row.content) d.0 ended d.1) in
    let found = get_in entries one.0 (for_in d.0.fresh number entries one.0 one.1) in
    let there = taken_get told.journal (warm.warmed.place + 1) found.0 one.0 found.1 in
    record {
      place = found.0;
      earlier = omega (arith, there.0, warm.warmed.earlier, warm.earlier);
      entry = one.0;
      there = there.1;
      names = dependency_named name d.0 one.0 d.2 one.2;
    }
