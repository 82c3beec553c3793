use Rattle.std.proofs.Common.{◌≡◌, ◌++◌, length, vec_items}
use Rattle.plan.specs.Names.{texts, names}
use Rattle.plan.proofs.names.names_of.Given as goal

abbrev pub invariant-loop-name : goal.invariant-loop-name
invariant-loop-name l = texts (vec_items l.found) ++ names l.rest ≡ names l.input

abbrev pub decreases-loop-name : goal.decreases-loop-name
decreases-loop-name l = length l.rest
