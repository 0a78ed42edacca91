use Rattle.std.proofs.Common.{◌++◌, ◌∙◌, ap, sym, append_assoc, string_bytes, nat_eq}
use Rattle.ev_tree.specs.Spelling.{cased_char}
use Rattle.ev_tree.proofs.Names.{camel_from, camel_from-encode, all_spelled}
use Rattle.ev_tree.proofs.spelling.camel_case.Goals as goal

pub loop-c-preserved : goal.loop-c-preserved
loop-c-preserved c =
    let after = c.loop-c.after_underscore in
    let done = string_bytes c.loop-c.spelled in
    let rest = c.next.new.self.rest.now in
    let here = cased_char after c.in-Some.c in
    let more = camel_from (nat_eq c.in-Some.c 95) rest in
    ap (λ xs. xs ++ more) c.in_ok-push_cased.ensures ∙ append_assoc done here more
    ∙ ap (λ xs. done ++ xs) (sym (ap (camel_from after) c.in-Some.ensures.steps.0 ∙ camel_from-encode after c.in-Some.c rest))
    ∙ c.loop-c.invariant

pub returns : goal.returns
returns c =
    let rest = c.loop-c.c-iterator.rest.now in
    all_spelled (string_bytes c.loop-c.spelled) rest c.args.name.now c.loop-c.after_underscore c.in-None.ensures.steps.0.0 c.loop-c.invariant
