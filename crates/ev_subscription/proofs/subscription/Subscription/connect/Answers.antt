use Rattle.std.proofs.Common.{◌≡◌, ◌∙◌, [], ◌∷◌, ◌++◌, List, append_assoc, append-nil, sym}
use Rattle.ev_types.specs.declared.contents.Request.{Request}
use Rattle.ev_model.specs.Requests.{clusters_request, listeners_asked, whole_requests}
use Rattle.ev_model.specs.Watching.{kinds_before, kinds_behind}
use Rattle.ev_subscription.proofs.RequestLemmas.{wholes-by}
use Rattle.ev_subscription.proofs.subscription.Subscription.connect.Goals as goal
use Rattle.ev_subscription.proofs.subscription.Subscription.connect.Goals.{then-asked+in_ok-listeners_request+in_ok-push-2, else-asked}

pub returns : goal.returns
returns c = λ world watched stands before behind.
    let clusters : List Request = clusters_request world.node world.versions ∷ [] in
    let first : List Request = whole_requests kinds_before watched world.versions in
    let last : List Request = whole_requests kinds_behind watched world.versions in
    let one : c.push.new.self ≡ clusters = c.in_ok-push.ensures.ok ∙ (λ i. c.new-requests.ensures.empty i ++ c.in_ok-clusters_request.ensures world stands i ∷ []) in
    let two : c.push_wholes.new.requests ≡ clusters ++ first =
    c.in_ok-push_wholes.ensures world stands ∙ (λ i. one i ++ wholes-by kinds_before watched world.versions c.as_slice.result.now (c.as_slice.ensures.elements ∙ before) i) in
    let three : c.if-asked.requests ≡ (clusters ++ first) ++ listeners_asked c.args.asked world.versions =
    elim c.if-asked.branch [
      | then-asked+in_ok-listeners_request+in_ok-push-2 w ↦
          w.requests-is ∙ w.in_ok-push-2.ensures.ok
          ∙ (λ i. two i ++ w.in_ok-listeners_request.ensures world stands i ∷ [])
          ∙ (λ i. (clusters ++ first) ++ listeners_asked (sym w.if-asked.true i) world.versions)
      | else-asked w ↦
          w.requests-is ∙ two ∙ sym (append-nil (clusters ++ first)) ∙ (λ i. (clusters ++ first) ++ listeners_asked (sym w.if-asked.false i) world.versions)
    ] in
    c.in_ok-push_wholes-2.ensures world stands
    ∙ (λ i. three i ++ wholes-by kinds_behind watched world.versions c.as_slice-2.result.now (c.as_slice-2.ensures.elements ∙ behind) i)
    ∙ append_assoc (clusters ++ first) (listeners_asked c.args.asked world.versions) last
    ∙ append_assoc clusters first (listeners_asked c.args.asked world.versions ++ last)
