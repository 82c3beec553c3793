use Rattle.std.proofs.Common.{◌≡◌, take}
use Rattle.scan.specs.Tokens.{value}
use Rattle.scan.proofs.scan.value_of.Given as goal

abbrev pub invariant-loop-d : goal.invariant-loop-d
invariant-loop-d l = l.value ≡ value (take l.d-index l.digits)
