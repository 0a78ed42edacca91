use Rattle.std.proofs.Common.{◌∙◌, codes, length, ap, arith}
use Rattle.std.proofs.lemmas.List.{length-map}
use Rattle.serde_json.specs.Data.{string, array, put}
use Rattle.serde_json.specs.View.{view, items_of, members_view}
use Rattle.ev_sotw.proofs.MemberLemmas.{names_given}
use Rattle.ev_sotw.proofs.requests.put_names.Goals as goal

pub returns-in_ok-put : goal.returns-in_ok-put
returns-in_ok-put c =
    let old = members_view c.args.members.now.entries in
    c.in_ok-put.ensures.ok
    ∙ ap (λ v. put (codes "resourceNames") v old) c.array_of.ensures
    ∙ ap (λ ds. put (codes "resourceNames") (array (items_of ds)) old) c.in_ok-values.ensures
    ∙ names_given (codes "resourceNames") c.args.names.now old
    (λ none. c.if-len-ne0.true (omega (arith, c.len.ensures, length-map c.in_ok-values.values.items view, ap length c.in_ok-values.ensures, length-map c.args.names.now string, none)))
