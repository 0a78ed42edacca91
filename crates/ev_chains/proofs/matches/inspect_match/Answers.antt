use Rattle.std.proofs.Common.{◌∙◌, ap, map}
use Rattle.ev_tree.specs.Forms.{is_wrong, listed, text_in}
use Rattle.ev_tree.proofs.Outcomes.{or_same}
use Rattle.ev_listener_json.specs.ServerNames.{has_no_name}
use Rattle.ev_chains.specs.Matches.{match_read, match_broken, is_above, port_in}
use Rattle.ev_chains.proofs.matches.inspect_match.Goals as goal

pub returns-clause-value : goal.returns-clause-value
unfolding match_read
returns-clause-value c =
    let texts = c.in_ok-texts.ensures ∙ ap (map text_in) (c.elements.ensures ∙ ap listed c.in_ok-names.ensures.value) in
    λ i. record {
      port = (c.port_in.ensures ∙ ap port_in c.in_ok-port.ensures) i;
      names = (c.from_vec.ensures.elements ∙ texts) i;
    }

pub returns-clause-broken : goal.returns-clause-broken
unfolding match_broken
returns-clause-broken c =
    let texts = c.in_ok-texts.ensures ∙ ap (map text_in) (c.elements.ensures ∙ ap listed c.in_ok-names.ensures.value) in
    λ i. record (c.none.ensures i) {
      v6 = or_same (or_same (c.is_wrong.ensures ∙ ap is_wrong c.in_ok-port.ensures) (c.is_above.ensures ∙ ap is_above c.in_ok-port.ensures)) (c.is_wrong-2.ensures ∙ c.in_ok-names.ensures.wrong) i;
      v16 = c.has_other.ensures i;
      v27 = (c.has_no_name.ensures ∙ ap has_no_name (c.as_slice.ensures.value ∙ texts)) i;
    }
