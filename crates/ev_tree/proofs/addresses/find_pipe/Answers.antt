use Rattle.std.proofs.Common.{◌∙◌, [], codes, ap}
use Rattle.ev_tree.specs.Forms.{inside, is_wrong, given_or, text_of}
use Rattle.ev_tree.specs.Addresses.{pipe_in, path_in, is_wrong_pipe}
use Rattle.ev_tree.proofs.Outcomes.{or_same}
use Rattle.ev_tree.proofs.addresses.find_pipe.Goals as goal

pub returns-clause-path : goal.returns-clause-path
unfolding pipe_in path_in
returns-clause-path c =
    let pipe = c.inner.ensures ∙ ap inside c.in_ok-pipe.ensures.value in
    c.text_or_empty.ensures ∙ ap (given_or []) (c.in_ok-path.ensures.value ∙ ap (text_of (codes "path")) pipe)

pub returns-clause-wrong : goal.returns-clause-wrong
unfolding pipe_in is_wrong_pipe
returns-clause-wrong c =
    let pipe = c.inner.ensures ∙ ap inside c.in_ok-pipe.ensures.value in
    or_same (c.is_wrong.ensures ∙ c.in_ok-pipe.ensures.wrong) (c.is_wrong-2.ensures ∙ c.in_ok-path.ensures.wrong ∙ ap (λ t. is_wrong (text_of (codes "path") t)) pipe)
