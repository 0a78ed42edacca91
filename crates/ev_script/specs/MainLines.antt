-- The lines of the main thread.
use Rattle.std.specs.Prelude.{ℕ, [], Option, Some}
use Rattle.serde_json.specs.Data.{Data}
use Rattle.ev_types.specs.declared.events.Line.{Line}
use Rattle.ev_types.specs.declared.events.Actor.TheVariants.{Main}
use Rattle.ev_types.specs.declared.events.Event.TheVariants.{Publish, Reap}
use Rattle.ev_script.specs.LineForms.{line_at, with_only}

-- `publish`: a new picture is published for the workers, where it changed. It has no member.
abbrev pub publish_line : ℕ → Data → Option Line
publish_line at tree = with_only [] tree (line_at at Main (Some Publish))

-- `reap`: generations that nothing holds any more are destroyed. It has no member.
abbrev pub reap_line : ℕ → Data → Option Line
reap_line at tree = with_only [] tree (line_at at Main (Some Reap))
