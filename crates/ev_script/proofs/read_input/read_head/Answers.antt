-- What the first line is.
use Rattle.std.proofs.Common.{◌≤◌, ℕ, List, [], Ok, Err, sym, ap, subst, ◌∙◌, arith}
use Rattle.std.proofs.lemmas.Result.{err_from_is_err_and}
use Rattle.ev_io.specs.declared.faults.LineEnd.{LineEnd}
use Rattle.ev_io.specs.declared.faults.ScriptFault.{ScriptFault}
use Rattle.ev_script.specs.Members.{tree_of}
use Rattle.ev_script.specs.Content.{first_content, first_set, IsHeadKept, IsFirstKept}
use Rattle.ev_script.specs.ReadInput.{script_fault}
use Rattle.ev_script.proofs.ReadingLemmas.{Reads, HeadExits, few_after, fresh_taken, fresh_untold, head_read, head_fault, head_missing, head_limit, head_memory, head_open}
use Rattle.ev_script.proofs.read_input.read_head.Goals as goal

pub script_fault-requires : goal.script_fault-requires
script_fault-requires g c =
    let few : c.read_line.new.self.given ≤ 200000 =
    few_after (g.S.Source.left c.args.source.now) (g.S.Source.left c.read_line.new.source) c.args.lines.now c.read_line.new.self [] c.new-text.result.items c.read_line.new.out.items c.read_line.result
    (fresh_taken c.args.lines.now c.requires.fresh) (c.read_line.ensures.reads (fresh_untold c.args.lines.now c.requires.fresh)) in
    omega (arith, c.number.ensures)

pub returns-in-Header-clause-reads : goal.returns-in-Header-clause-reads
returns-in-Header-clause-reads g c =
    head_read g.F.Forms.forms g.F.Forms.keeps_head (g.S.Source.left c.args.source.now) (g.S.Source.left c.read_line.new.source) c.args.lines.now c.read_line.new.self c.in-Header.head c.new-text.result.items c.read_line.new.out.items c.requires.fresh
    (subst (λ (end : LineEnd). Reads (g.S.Source.left c.args.source.now) (g.S.Source.left c.read_line.new.source) c.args.lines.now c.read_line.new.self c.new-text.result.items c.read_line.new.out.items (Ok end)) c.in-Ok-Line.field-0-is (c.in-Ok-Line.ensures.reads (fresh_untold c.args.lines.now c.requires.fresh)))
    (sym (ap first_set c.in-Header.is) ∙ c.in_ok-head-in-Ok-Line.ensures.sets ∙ ap (first_content g.F.Forms.forms) c.as_slice.ensures.value)
    (subst (λ (text : List ℕ). IsHeadKept g.F.Forms.keeps_head (tree_of text) c.in-Header.head.kept) c.as_slice.ensures.value
    (subst (IsFirstKept g.F.Forms.keeps_head (tree_of c.as_slice.result.now)) c.in-Header.is c.in_ok-head-in-Ok-Line.ensures.kept))

pub returns-in-Ok-Line-clause-reads : goal.returns-in-Ok-Line-clause-reads
returns-in-Ok-Line-clause-reads g c =
    subst (λ (fault : ScriptFault). HeadExits g.F.Forms.forms g.F.Forms.keeps_head (g.S.Source.left c.args.source.now) (g.S.Source.left c.read_line.new.source) c.read_line.new.self (Err fault)) (sym c.fault_at.ensures)
    (head_fault g.F.Forms.forms g.F.Forms.keeps_head (g.S.Source.left c.args.source.now) (g.S.Source.left c.read_line.new.source) c.args.lines.now c.read_line.new.self c.in-Fault.kind c.new-text.result.items c.read_line.new.out.items c.requires.fresh
    (subst (λ (end : LineEnd). Reads (g.S.Source.left c.args.source.now) (g.S.Source.left c.read_line.new.source) c.args.lines.now c.read_line.new.self c.new-text.result.items c.read_line.new.out.items (Ok end)) c.in-Ok-Line.field-0-is (c.in-Ok-Line.ensures.reads (fresh_untold c.args.lines.now c.requires.fresh)))
    (sym (ap first_set c.in-Fault.is) ∙ c.in_ok-head-in-Ok-Line.ensures.sets ∙ ap (first_content g.F.Forms.forms) c.as_slice.ensures.value))

pub returns-in_err-head-in-Ok-Line-clause-reads : goal.returns-in_err-head-in-Ok-Line-clause-reads
returns-in_err-head-in-Ok-Line-clause-reads g c =
    let p = err_from_is_err_and c.from_residual.result c.from_residual.ensures.1 in
    rw (p.1, p.2) (head_memory g.F.Forms.forms g.F.Forms.keeps_head (g.S.Source.left c.args.source.now) (g.S.Source.left c.read_line.new.source) c.args.lines.now c.read_line.new.self c.read_line.result c.new-text.result.items c.read_line.new.out.items c.requires.fresh
    (c.read_line.ensures.reads (fresh_untold c.args.lines.now c.requires.fresh)))

pub returns-in-Ok-End-clause-reads : goal.returns-in-Ok-End-clause-reads
returns-in-Ok-End-clause-reads g c =
    subst (λ (fault : ScriptFault). HeadExits g.F.Forms.forms g.F.Forms.keeps_head (g.S.Source.left c.args.source.now) (g.S.Source.left c.read_line.new.source) c.read_line.new.self (Err fault)) (sym c.fault_at-in-Ok-End.ensures)
    (head_missing g.F.Forms.forms g.F.Forms.keeps_head (g.S.Source.left c.args.source.now) (g.S.Source.left c.read_line.new.source) c.args.lines.now c.read_line.new.self c.new-text.result.items c.read_line.new.out.items c.requires.fresh
    (subst (λ (end : LineEnd). Reads (g.S.Source.left c.args.source.now) (g.S.Source.left c.read_line.new.source) c.args.lines.now c.read_line.new.self c.new-text.result.items c.read_line.new.out.items (Ok end)) c.in-Ok-End.field-0-is (c.in-Ok-End.ensures.reads (fresh_untold c.args.lines.now c.requires.fresh))))

pub returns-clause-reads : goal.returns-clause-reads
returns-clause-reads g c =
    subst (λ (fault : ScriptFault). HeadExits g.F.Forms.forms g.F.Forms.keeps_head (g.S.Source.left c.args.source.now) (g.S.Source.left c.read_line.new.source) c.read_line.new.self (Err fault)) (sym (c.script_fault.ensures ∙ ap (λ (n : ℕ). script_fault n c.in-Err.fault) c.number.ensures))
    (head_limit g.F.Forms.forms g.F.Forms.keeps_head (g.S.Source.left c.args.source.now) (g.S.Source.left c.read_line.new.source) c.args.lines.now c.read_line.new.self c.in-Err.fault c.new-text.result.items c.read_line.new.out.items c.requires.fresh
    (c.in-Err.ensures.reads (fresh_untold c.args.lines.now c.requires.fresh)))

pub returns-clause-goes_on : goal.returns-clause-goes_on
returns-clause-goes_on g c =
    head_open g.F.Forms.forms g.F.Forms.keeps_head (g.S.Source.left c.args.source.now) (g.S.Source.left c.read_line.new.source) c.read_line.new.self (Err c.script_fault.result) (returns-clause-reads g c)
