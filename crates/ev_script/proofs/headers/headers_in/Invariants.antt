use Rattle.std.proofs.Common.{◌≡◌, []}
use Rattle.serde_json.specs.View.{members_view}
use Rattle.ev_script.specs.Headers.{headers_with}
use Rattle.ev_script.proofs.headers.headers_in.Given as goal

-- what the rest adds to what was read is the whole
abbrev pub invariant-loop-name : goal.invariant-loop-name
invariant-loop-name l =
    headers_with [] (members_view l.members.entries) ≡ headers_with l.headers.entries (members_view l.name-iterator)
