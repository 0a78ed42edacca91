use Rattle.std.proofs.Common.{◌≡◌, ◌∙◌, ◌++◌, ◌∷◌, [], Some, None, option_map, sym, ap, subst, map}
use Rattle.serde_json.specs.Data.{Data, string}
use Rattle.serde_json.specs.View.{view}
use Rattle.ev_sotw.specs.Discovery.{DiscoveryParts, seen}
use Rattle.ev_sotw.specs.Delta.{delta_message}
use Rattle.ev_sotw.specs.Lines.{response_in}
use Rattle.ev_sotw.specs.Deltas.{delta_line, removed_at}
use Rattle.ev_sotw.specs.LineFollows.{FollowsLines}
use Rattle.ev_sotw.proofs.LineFollowLemmas.{follows_response, follows_other, removed_follows}
use Rattle.ev_sotw.proofs.names_so_far.NamesSoFar.line.Goals as goal

pub returns-in_ok-respond-in-Some-clause-follows : goal.returns-in_ok-respond-in-Some-clause-follows
returns-in_ok-respond-in-Some-clause-follows c = λ lines follows.
    let line : Data = view c.args.line.now in
    let response : DiscoveryParts = seen c.in-Some.response in
    let is : response_in c.args.profile line ≡ Some response = sym c.in_ok-response.ensures ∙ ap (option_map seen) c.in-Some.is in
    subst (λ names. FollowsLines c.args.profile (lines ++ line ∷ []) names) (sym c.in_ok-respond-in-Some.ensures.follows)
    (follows_response c.args.profile lines line response c.args.self.now is follows)

pub returns-in_ok-respond-in-Some-clause-delta : goal.returns-in_ok-respond-in-Some-clause-delta
returns-in_ok-respond-in-Some-clause-delta c = λ lines follows.
    let line : Data = view c.args.line.now in
    let response : DiscoveryParts = seen c.in-Some.response in
    let is : response_in c.args.profile line ≡ Some response = sym c.in_ok-response.ensures ∙ ap (option_map seen) c.in-Some.is in
    ap Some (c.in_ok-respond-in-Some.ensures.delta ∙ ap (λ removed. delta_line (delta_message response (map string removed))) (removed_follows c.args.profile lines response c.args.self.now follows))
    ∙ sym (ap (option_map (λ r. delta_line (delta_message r (map string (removed_at c.args.profile lines r))))) is)

pub returns-in-None-clause-follows : goal.returns-in-None-clause-follows
returns-in-None-clause-follows c = λ lines follows.
    let line : Data = view c.args.line.now in
    let is : response_in c.args.profile line ≡ None = sym c.in_ok-response.ensures ∙ ap (option_map seen) c.in-None.is in
    subst (λ names. FollowsLines c.args.profile (lines ++ line ∷ []) names) (sym c.turn_stream.ensures)
    (follows_other c.args.profile lines line c.args.self.now is follows)
