use Rattle.std.proofs.Common.{◌+◌, ◌≤◌, length, vec_len, vec_capacity}
use Rattle.ev_run.specs.Playing.{IsNewPass, IsReady, IsTask}
use Rattle.ev_run.proofs.PlaceLemmas.{AreLeaving}
use Rattle.ev_run.proofs.players.players_of.Given as goal

abbrev pub invariant-passes : goal.invariant-passes
invariant-passes g l = record {
  leaving : AreLeaving (length l.fn.passes.items) l.players.items l.tasks.items l.passes.items (λ i p. IsReady g.J.Journaled.shows l.script l.gate i p.task p.pass) (IsTask l.script) (IsNewPass g.J.Journaled.shows l.script l.gate);
  room : length l.players.items + length l.passes.items ≤ vec_capacity l.players;
}

abbrev pub decreases-passes : goal.decreases-passes
decreases-passes g l = vec_len l.passes
