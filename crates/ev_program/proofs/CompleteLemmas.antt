-- An input without fault that the source is known to have is answered.
use Rattle.std.proofs.Common.{◌≡◌, ℕ, Bool, true, false, List, [], ◌++◌, IsTrue, Option, None, Some, ◌⊎◌, inl, inr, refl, sym, ap, subst, ◌∙◌, append-nil}
use Rattle.std.specs.Io.KnownBytes.{IsAtEnd, prepend_known}
use Rattle.ev_script.specs.declared.fault_kinds.FaultKind.{FaultKind}
use Rattle.ev_script.specs.Faults.{Input, plain_lines}
use Rattle.ev_script.proofs.PrefixLemmas.{stands_more}
use Rattle.ev_audit_input.proofs.GrowLemmas.{stands_more_with}
use Rattle.ev_chain_lines.specs.Lines.{chain_lines}
use Rattle.ev_dns.specs.Lines.{dns_lines}
use Rattle.ev_sotw.specs.Lines.{sotw_lines}
use Rattle.ev_app.specs.declared.commands.Command.{Command}
use Rattle.ev_app.specs.declared.commands.Command.TheVariants.{Replay, Run, Audit, Soak, Tls, Dns, Chains, Sotw, Dump}
use Rattle.ev_app.specs.Input.{has_journal, TakesInput, IsTakenFor}
use Rattle.ev_io.specs.Outside.{Rose}
use Rattle.ev_app.specs.Faults.{IsEarly, NoneEarly, IsLate, IsFirstEarly, IsFaultFor, HasNoneFor, IsCutOff}
use Rattle.ev_program.specs.Status.{Outside, TellsInput, IsHonest}
use Rattle.ev_app.proofs.TakenLemmas.{front_of}

-- an input of a command
abbrev told : Command → List ℕ → Bool → Input
told command bytes ended = record { bytes = bytes; ended = ended; audit = has_journal command }

-- an early fault is one however the bytes go on
early_more : (command : Command) (xs ys : List ℕ) (place : ℕ) (kind : FaultKind) → IsEarly command (told command xs false) place kind → IsEarly command (told command (xs ++ ys) true) place kind
early_more Replay xs ys place kind early = stands_more plain_lines xs ys true false place kind early
early_more Run xs ys place kind early = stands_more plain_lines xs ys true false place kind early
early_more Audit xs ys place kind early = stands_more_with xs ys true true place kind early
early_more (Soak seed count) xs ys place kind early = early
early_more Tls xs ys place kind early = stands_more plain_lines xs ys true false place kind early
early_more Dns xs ys place kind early = stands_more dns_lines xs ys true false place kind early
early_more Chains xs ys place kind early = stands_more chain_lines xs ys true false place kind early
early_more Sotw xs ys place kind early = stands_more sotw_lines xs ys true false place kind early
early_more (Dump entries) xs ys place kind early = stands_more_with xs ys true true place kind early

-- so a fault of the bytes taken is one of those known to be left
none_of_front : (command : Command) (bytes : List ℕ) (input : Input) (after : Option (List ℕ)) (line number : ℕ) → HasNoneFor command (told command bytes true) → TakesInput (has_journal command) (Some bytes) after input → IsFaultFor command input line number → ⊥
none_of_front command bytes input after line number sound takes fault = by_end input.ended refl
  where
    front : (rest : List ℕ) × (bytes ≡ input.bytes ++ rest) × (IsAtEnd after → rest ≡ [])
    front = front_of bytes input.bytes after takes.taken

    by_whole : input ≡ told command bytes true → IsFirstEarly command input line number ⊎ (IsTrue input.ended × NoneEarly command input × IsLate command input.bytes line number) → ⊥
    by_whole whole (inl first) = sound.early first.place first.kind (subst (λ (x : Input). IsEarly command x first.place first.kind) whole first.stands)
    by_whole whole (inr late) = sound.late refl line number (subst (λ (x : Input). IsLate command x.bytes line number) whole late.2)

    by_part : input ≡ told command input.bytes false → IsFirstEarly command input line number ⊎ (IsTrue input.ended × NoneEarly command input × IsLate command input.bytes line number) → ⊥
    by_part part (inl first) =
        let stands : IsEarly command (told command (input.bytes ++ front.0) true) first.place first.kind =
        early_more command input.bytes front.0 first.place first.kind (subst (λ (x : Input). IsEarly command x first.place first.kind) part first.stands) in
        sound.early first.place first.kind (subst (λ (bs : List ℕ). IsEarly command (told command bs true) first.place first.kind) (sym front.1) stands)
    by_part part (inr late) =
        let no : false ≡ true = subst (λ (x : Input). IsTrue x.ended) part late.0 in
        cc

    by_end : (ended : Bool) → input.ended ≡ ended → ⊥
    by_end true e =
        let same : bytes ≡ input.bytes = front.1 ∙ ap (λ (rest : List ℕ). input.bytes ++ rest) (front.2 (takes.ended e)) ∙ append-nil input.bytes in
        by_whole (λ i. record { bytes = sym same i; ended = e i; audit = takes.asked i }) fault
    by_end false e = by_part (λ i. record { bytes = input.bytes; ended = e i; audit = takes.asked i }) fault

-- a command that reads nothing has no faults
no_fault_without_input : (seed count : ℕ) (input : Input) (line number : ℕ) → IsFaultFor (Soak seed count) input line number → ⊥
no_fault_without_input seed count input line number (inl first) = first.stands
no_fault_without_input seed count input line number (inr late) = late.2

-- bytes that the source is known to have are not refused
not_refused_by : (command : Command) (outside : Outside) (line number : ℕ) (input : Input) → TakesInput (has_journal command) outside.left_before outside.left_after input → IsFaultFor command input line number → TellsInput command outside → ⊥
not_refused_by command outside line number input taken fault tells =
    none_of_front command tells.bytes input outside.left_after line number tells.sound
    (subst (λ (left : Option (List ℕ)). TakesInput (has_journal command) left outside.left_after input) tells.told taken) fault

pub not_refused : (command : Command) (outside : Outside) (line number : ℕ) (input : Input) → IsTakenFor command outside.left_before outside.left_after input → IsFaultFor command input line number → IsHonest command outside → ⊥
not_refused Replay outside line number input taken fault honest = not_refused_by Replay outside line number input taken fault honest.told
not_refused Run outside line number input taken fault honest = not_refused_by Run outside line number input taken fault honest.told
not_refused Audit outside line number input taken fault honest = not_refused_by Audit outside line number input taken fault honest.told
not_refused Tls outside line number input taken fault honest = not_refused_by Tls outside line number input taken fault honest.told
not_refused Dns outside line number input taken fault honest = not_refused_by Dns outside line number input taken fault honest.told
not_refused Chains outside line number input taken fault honest = not_refused_by Chains outside line number input taken fault honest.told
not_refused Sotw outside line number input taken fault honest = not_refused_by Sotw outside line number input taken fault honest.told
not_refused (Dump entries) outside line number input taken fault honest = not_refused_by (Dump entries) outside line number input taken fault honest.told
not_refused (Soak seed count) outside line number input taken fault honest = no_fault_without_input seed count input line number fault

-- nor does a read of them fail
pub not_cut_off : (command : Command) (outside : Outside) (input : Input) → IsTakenFor command outside.left_before outside.left_after input → IsCutOff command input → Rose outside.reads_before outside.reads_after → IsHonest command outside → ⊥
not_cut_off Replay outside input taken cut rose honest = honest.told.no_read_fault rose
not_cut_off Run outside input taken cut rose honest = honest.told.no_read_fault rose
not_cut_off Audit outside input taken cut rose honest = honest.told.no_read_fault rose
not_cut_off Tls outside input taken cut rose honest = honest.told.no_read_fault rose
not_cut_off Dns outside input taken cut rose honest = honest.told.no_read_fault rose
not_cut_off Chains outside input taken cut rose honest = honest.told.no_read_fault rose
not_cut_off Sotw outside input taken cut rose honest = honest.told.no_read_fault rose
not_cut_off (Dump entries) outside input taken cut rose honest = honest.told.no_read_fault rose
not_cut_off (Soak seed count) outside input taken cut rose honest = cut.goes_on (ap (λ (i : Input). i.ended) taken.empty)
