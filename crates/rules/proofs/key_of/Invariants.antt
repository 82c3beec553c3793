use Rattle.std.proofs.Common.{◌≡◌, ◌<◌, drop}
use Rattle.rules.specs.Keys.{key, key_from}
use Rattle.rules.proofs.key_of.Given as goal

abbrev pub invariant-loop-b : goal.invariant-loop-b
invariant-loop-b l = (l.h < 65521) × (key_from l.h (drop l.b-index l.bytes) ≡ key l.bytes)
