use Rattle.std.proofs.Common.{◌∙◌, ◌==◌, not, length, sym, ap}
use Rattle.std.proofs.lemmas.List.{length-map}
use Rattle.serde_json.specs.View.{view}
use Rattle.ev_tree.specs.Forms.{listed}
use Rattle.ev_tree.specs.Broken.{either_broken}
use Rattle.ev_secret_json.specs.References.{each_joined}
use Rattle.ev_secret_json.specs.TransportSockets.{transport_secrets}
use Rattle.ev_cluster_json.specs.Sockets.{matches_of, match_secrets, given_where, cluster_secrets}
use Rattle.ev_cluster_json.proofs.sockets.inspect_sockets.Goals as goal

pub returns : goal.returns
unfolding matches_of match_secrets cluster_secrets
returns c =
    let elements = c.elements-elements.ensures ∙ ap listed c.in_ok-matches.ensures.value in
    let own = c.in_ok-own.ensures in
    let found = c.in_ok-found.ensures ∙ ap (each_joined transport_secrets) elements in
    let some = ap (λ n. not (n == 0)) (sym (length-map c.elements-elements.result.now view) ∙ ap length elements) in
    λ i. record {
      own = (own i).list;
      by_match = (c.give_where.ensures ∙ (λ j. given_where (some j) (found j).list)) i;
      broken = (c.or-2.ensures ∙ (λ j. either_broken (own j).broken ((c.or.ensures ∙ (λ k. either_broken (found k).broken (record (c.none.ensures k) {
        v6 = (c.is_wrong.ensures ∙ c.in_ok-matches.ensures.wrong) k;
      }))) j))) i;
    }
