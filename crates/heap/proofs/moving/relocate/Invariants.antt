use Rattle.std.proofs.Common.{◌≡◌, ℕ, ◌-◌, List}
use Rattle.heap.specs.Walks.{Tiled}
use Rattle.heap.specs.Moves.{Prepared, Relocated}
use Rattle.heap.proofs.moving.relocate.Given as goal

abbrev pub invariant-loop-block : goal.invariant-loop-block
invariant-loop-block g l =
    (l.blocks.end ≡ l.fn.extent.next) ×
    ((ts : List ℕ) → Tiled (g.S.Store.memory l.initial.store) ts l.fn.extent.bins l.fn.extent.next → Prepared (g.S.Store.memory l.initial.store) ts l.work →
    Relocated (g.S.Store.memory l.initial.store) ts l.work l.fn.extent.bins l.fn.extent.next l.blocks.at (g.S.Store.memory l.store))

abbrev pub decreases-loop-block : goal.decreases-loop-block
decreases-loop-block g l = l.blocks.end - l.blocks.at
