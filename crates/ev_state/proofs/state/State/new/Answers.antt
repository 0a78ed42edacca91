use Rattle.std.proofs.Common.{refl, ◌∙◌}
use Rattle.std.proofs.lemmas.List.Elements.{All-nil}
use Rattle.ev_model_laws.proofs.VersionLemmas.{keeps_versions}
use Rattle.ev_state.proofs.state.State.new.Goals as goal

pub returns : goal.returns
returns c = λ workers. record {
  kept = c.new.ensures.kept;
  forgotten = c.new.ensures.forgotten;
  follows = record {
    stands = record {
      managers = c.new.ensures.stands workers c.args.node.now;
      subscription = record { node = c.new-2.ensures.node ∙ c.in_ok-node.ensures.equal; stream = c.new-2.ensures.closed; versions = λ kind. c.new-2.ensures.empty kind; kept_once = keeps_versions.opens workers c.args.node.now };
      targets = c.new-3.ensures workers c.args.node.now;
    };
    sound = (c.new.ensures.stands workers c.args.node.now).sound;
    later = tt;
    heard = All-nil _;
    phase = refl;
  };
  whole = tt;
}
