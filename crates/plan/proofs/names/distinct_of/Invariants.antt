use Rattle.std.proofs.Common.{◌≡◌, take}
use Rattle.plan.specs.Names.{texts, name_texts, distinct}
use Rattle.plan.proofs.names.distinct_of.Given as goal

abbrev pub invariant-loop-name : goal.invariant-loop-name
invariant-loop-name l = name_texts l.once.keys ≡ distinct (take l.name-index (texts l.names))
