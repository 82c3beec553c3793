use Rattle.std.proofs.Common.{take, vec_items}
use Rattle.plan.specs.Names.{name_texts}
use Rattle.plan.proofs.Counts.{Counted}
use Rattle.plan.proofs.tallies.tallied.Given as goal

abbrev pub invariant-loop-name : goal.invariant-loop-name
invariant-loop-name g l =
    Counted (g.S.Store.memory l.store).figures l.bins (take l.name-index (name_texts l.names)) l.held l.cells (vec_items l.by_bin)
