-- The lines that a command makes are lines of a script, and not too deep.
use Rattle.std.proofs.Common.{◌≡◌, ℕ, ◌+◌, ◌≤◌, Bool, true, false, cond, List, [], ◌∷◌, length, map, filter, flat_map, get_or, Option, None, Some, decimal, refl, sym, ap, ◌∙◌, subst, arith}
use Rattle.std.specs.Prelude.{All, IsTrue, IfSome}
use Rattle.std.specs.List.{enumerate_from}
use Rattle.std.proofs.lemmas.List.Elements.{All-nil, All-cons, All-head, All-tail, All-append, All-map, All-weaker, All-filter}
use Rattle.serde_json.specs.Data.{Data, depth}
use Rattle.ev_types.specs.declared.events.Profile.{Profile}
use Rattle.ev_script.specs.declared.forms.Settings.{Settings}
use Rattle.ev_script.specs.Lines.{line_of}
use Rattle.ev_trees.specs.Trees.{IsReadable}
use Rattle.ev_expand.specs.Fronts.{Front, up_to, fronts, behind}
use Rattle.ev_expand.specs.Guarding.{Guarded, waiting_line}
use Rattle.ev_expand.specs.Following.{DueParts, following_line}
use Rattle.ev_expand.specs.Expanding.{Rules, guarded_at, due_at, written_line, lines_due, place_of, gives}
use Rattle.ev_expand.specs.Said.{HasLine, AllAt, given_lines}
use Rattle.ev_expand.specs.Waiting.{has_guarded, WaitsAsSaid, stream_line, waiting_response, following_response}
use Rattle.ev_expand.specs.Scripts.{IsLineIfWritten, IsShallow, AreShallowAt}
use Rattle.ev_expand.proofs.SaidLemmas.{line_anywhere}
use Rattle.ev_expand.proofs.ReadLemmas.{waiting_reads, waiting_stays, following_reads}
use Rattle.ev_expand.proofs.DepthLemmas.{DueWithin, waiting_depth, following_depth}

-- ---- lists

-- what holds of each element that each gives holds of all that they give
pub all_given : {X Y : Type 0} (P : Y → Type 0) (f : X → List Y) (xs : List X) → All (λ (x : X). All P (f x)) xs → All P (flat_map f xs)
all_given P f [] all = All-nil P
all_given {X} P f (x ∷ xs) all =
    All-append P (f x) (flat_map f xs) (All-head (λ (y : X). All P (f y)) x xs all) (all_given P f xs (All-tail (λ (y : X). All P (f y)) x xs all))

all_counted : {X : Type 0} (P : X → Type 0) (n : ℕ) (xs : List X) → All P xs → All (λ (p : ℕ × X). P p.1) (enumerate_from n xs)
all_counted {X} P n [] all = All-nil (λ (p : ℕ × X). P p.1)
all_counted {X} P n (x ∷ xs) all = All-cons (λ (p : ℕ × X). P p.1) (n, x) (enumerate_from (n + 1) xs) (All-head P x xs all) (all_counted P (n + 1) xs (All-tail P x xs all))

-- what holds of each line holds of that of each prefix
pub all_fronts : (P : Data → Type 0) (lines : List Data) → All P lines → All (λ (front : Front). P front.line) (fronts lines)
all_fronts P [] all = All-nil (λ (front : Front). P front.line)
all_fronts P (first ∷ lines) all =
    All-cons (λ (front : Front). P front.line) (record { before = []; line = first }) (map (behind first) (fronts lines)) (All-head P first lines all)
    (All-map (λ (front : Front). P front.line) (behind first) (fronts lines) (all_fronts P lines (All-tail P first lines all)))

-- ---- a line that a command makes

all_one : {X : Type 0} (P : X → Type 0) (x : X) → P x → All P (x ∷ [])
all_one P x is = All-cons P x [] is (All-nil P)

-- a line of a script with these settings, not too deep
pub record IsGiven (settings : Settings) (tree : Data) : Type 0 where
  pub line : HasLine settings 0 tree
  pub readable : IsReadable tree

-- a line of the input
pub record IsTaken (rules : Rules) (settings : Settings) (tree : Data) : Type 0 where
  pub line : IsTrue (rules.is_written tree) → HasLine settings 0 tree
  pub readable : IsReadable tree

waits : (rules : Rules) (gs : List Guarded) (settings : Settings) → rules.guard.profile ≡ settings.profile → (line : Data) (b : Bool) → has_guarded rules.guard line ≡ b
    → HasLine settings 0 line → HasLine settings 0 (waiting_line rules.prefix rules.guard gs line)
waits rules gs settings same line true some has =
    let said : WaitsAsSaid rules.prefix rules.guard gs line = waiting_reads rules.prefix rules.guard gs line some in
    record { line = stream_line 0 (waiting_response rules.prefix rules.guard gs line said.response); is = ap (λ (profile : Profile). line_of profile 0 (waiting_line rules.prefix rules.guard gs line)) (sym same) ∙ said.reads 0; below = refl }
waits rules gs settings same line false none has = subst (HasLine settings 0) (sym (waiting_stays rules.prefix rules.guard gs line none)) has

waits_readable : (rules : Rules) (gs : List Guarded) (line : Data) → IsReadable line → IsReadable (waiting_line rules.prefix rules.guard gs line)
waits_readable rules gs line readable = waiting_depth rules.prefix rules.guard gs line 124 (omega arith) readable

written_given : (rules : Rules) (gs : List Guarded) (settings : Settings) → rules.guard.profile ≡ settings.profile → (line : Data) (b : Bool) → rules.is_written line ≡ b → IsTaken rules settings line
    → All (IsGiven settings) (cond b (waiting_line rules.prefix rules.guard gs line ∷ []) [])
written_given rules gs settings same line true is taken = all_one (IsGiven settings) (waiting_line rules.prefix rules.guard gs line) (record {
  line = waits rules gs settings same line (has_guarded rules.guard line) refl (taken.line is);
  readable = waits_readable rules gs line taken.readable;
})
written_given rules gs settings same line false is taken = All-nil (IsGiven settings)

due_given : (rules : Rules) (settings : Settings) (at : ℕ) (due : List DueParts) → 1 ≤ length rules.nonce → DueWithin 122 due
    → All (IsGiven settings) (lines_due rules.prefix rules.nonce at due)
due_given rules settings at [] some within = All-nil (IsGiven settings)
due_given rules settings at (first ∷ due) some within = all_one (IsGiven settings) (following_line rules.prefix rules.nonce (decimal at) (first ∷ due)) (record {
  line = record {
    line = stream_line 0 (following_response settings.profile rules.prefix rules.nonce (decimal at) (first ∷ due));
    is = following_reads settings.profile rules.prefix rules.nonce (decimal at) (first ∷ due) 0 some;
    below = refl;
  };
  readable = following_depth rules.prefix rules.nonce (decimal at) (first ∷ due) 122 within;
})

shallow_so : (found : Option Data) → IfSome found IsShallow → IfSome found (λ endpoints. depth endpoints ≤ 122)
shallow_so None h = tt
shallow_so (Some endpoints) h = omega arith

due_shallow : (rules : Rules) (front : Front) → AreShallowAt rules front → DueWithin 122 (due_at rules front)
due_shallow rules front shallow =
    let P : Guarded → Type 0 = λ g. IfSome (rules.endpoints_of (up_to front) g) (λ endpoints. depth endpoints ≤ 122) in
    let gs : List Guarded = guarded_at rules front in
    let each : All P gs =
    All-weaker (λ (g : Guarded). IfSome (rules.endpoints_of (up_to front) g) IsShallow) P (λ g h. shallow_so (rules.endpoints_of (up_to front) g) h) gs shallow in
    All-map (λ (d : DueParts). IfSome d.endpoints (λ endpoints. depth endpoints ≤ 122))
    (λ (p : ℕ × Guarded). record { place = p.0; endpoints = rules.endpoints_of (up_to front) p.1 }) (filter (λ (p : ℕ × Guarded). rules.is_due front p.1) (enumerate_from 0 gs))
    (All-filter (λ (p : ℕ × Guarded). rules.is_due front p.1) (λ (p : ℕ × Guarded). P p.1) (enumerate_from 0 gs) (all_counted P 0 gs each))

-- what a line gives
gives_given : (rules : Rules) (settings : Settings) → rules.guard.profile ≡ settings.profile → (front : Front) → 1 ≤ length rules.nonce → IsTaken rules settings front.line → AreShallowAt rules front
    → All (IsGiven settings) (gives rules front)
gives_given rules settings same front some taken shallow =
    All-append (IsGiven settings) (written_line rules (guarded_at rules front) front.line) (lines_due rules.prefix rules.nonce (place_of front) (due_at rules front))
    (written_given rules (guarded_at rules front) settings same front.line (rules.is_written front.line) refl taken)
    (due_given rules settings (place_of front) (due_at rules front) some (due_shallow rules front shallow))

-- ---- all lines

taken_at : (rules : Rules) (settings : Settings) (at : ℕ) (lines : List Data) → AllAt (IsLineIfWritten rules settings) at lines → All IsReadable lines
    → All (IsTaken rules settings) lines
taken_at rules settings at [] all readable = All-nil (IsTaken rules settings)
taken_at rules settings at (line ∷ lines) all readable =
    All-cons (IsTaken rules settings) line lines
    (record { line = λ is. line_anywhere settings at 0 line (all.0 is); readable = All-head IsReadable line lines readable })
    (taken_at rules settings (at + 1) lines all.1 (All-tail IsReadable line lines readable))

pub lines_given : (rules : Rules) (settings : Settings) (lines : List Data) → rules.guard.profile ≡ settings.profile → 1 ≤ length rules.nonce → AllAt (IsLineIfWritten rules settings) 2 lines → All IsReadable lines
    → All (AreShallowAt rules) (fronts lines) → All (IsGiven settings) (given_lines rules lines)
lines_given rules settings lines same some written readable shallow =
    let taken : All (λ (front : Front). IsTaken rules settings front.line) (fronts lines) =
    all_fronts (IsTaken rules settings) lines (taken_at rules settings 2 lines written readable) in
    all_given (IsGiven settings) (gives rules) (fronts lines)
    (λ k front h. gives_given rules settings same (get_or (fronts lines) k front) some (taken k front h) (shallow k front h))

given_at : (settings : Settings) (at : ℕ) (trees : List Data) → All (IsGiven settings) trees → AllAt (HasLine settings) at trees
given_at settings at [] all = tt
given_at settings at (tree ∷ trees) all =
    (line_anywhere settings 0 at tree (All-head (IsGiven settings) tree trees all).line, given_at settings (at + 1) trees (All-tail (IsGiven settings) tree trees all))

-- each line that is given is a line of a script at its place
pub given_have : (settings : Settings) (trees : List Data) → All (IsGiven settings) trees → AllAt (HasLine settings) 2 trees
given_have settings trees all = given_at settings 2 trees all

pub given_readable : (settings : Settings) (trees : List Data) → All (IsGiven settings) trees → All IsReadable trees
given_readable settings trees all = All-weaker (IsGiven settings) IsReadable (λ tree is. is.readable) trees all
