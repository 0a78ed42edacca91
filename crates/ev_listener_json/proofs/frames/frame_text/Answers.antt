use Rattle.std.proofs.Common.{◌≡◌, ◌∙◌, false, ap}
use Rattle.serde_json.specs.View.{view}
use Rattle.serde_json.specs.Written.{has_float, compact_text}
use Rattle.ev_tree.proofs.FloatLemmas.{made_whole}
use Rattle.ev_listener_json.specs.Frames.{frame_of, frame_text_of}
use Rattle.ev_listener_json.proofs.frames.frame_text.Goals as goal

pub returns : goal.returns
unfolding frame_text_of
returns c =
    let none : has_float (view c.in_ok-copy.copy) ≡ false = ap has_float c.in_ok-copy.ensures ∙ (made_whole (frame_of (view c.args.listener.now))).none in
    c.from_string.ensures.bytes ∙ c.in_ok-to_string.ensures.text none ∙ ap compact_text c.in_ok-copy.ensures
