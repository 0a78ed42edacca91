use Rattle.std.proofs.Common.{◌≡◌, fold, flat_map, drop}
use Rattle.std.specs.Hash as fed
use Rattle.std.specs.Str.{str_to_ascii_lowercase}
use Rattle.ev_routes.proofs.host_texts.hash_lower.Given as goal

abbrev pub invariant-loop-byte : goal.invariant-loop-byte
invariant-loop-byte g l =
    fold g.H.Hasher.write l.state (flat_map fed.u8 (str_to_ascii_lowercase (drop l.byte-index l.bytes)))
    ≡ fold g.H.Hasher.write l.initial.state (flat_map fed.u8 (str_to_ascii_lowercase l.bytes))
