use Rattle.heap.specs.Walks.{Slid}
use Rattle.heap.proofs.moving.slide.Given as goal

abbrev pub invariant-loop-k : goal.invariant-loop-k
invariant-loop-k g l = Slid (g.S.Store.memory l.initial.store) l.from l.to l.k (g.S.Store.memory l.store)
