use Rattle.std.proofs.Common.{◌≡◌, ℕ, ◌-◌, ◌≤◌, List, length}
use Rattle.heap.specs.Walks.{Tiled, Tabled}
use Rattle.heap.proofs.moving.layout.Given as goal

abbrev pub invariant-loop-block : goal.invariant-loop-block
invariant-loop-block g l =
    (l.blocks.end ≡ l.fn.extent.next) × (l.to ≤ l.blocks.at) ×
    ((ts : List ℕ) → Tiled (g.S.Store.memory l.store) ts l.fn.extent.bins l.fn.extent.next → (g.S.Store.memory l.store).figures.cells ≤ length l.initial.work →
    Tabled (g.S.Store.memory l.store) ts l.fn.extent.bins l.fn.extent.next l.blocks.at l.to l.work)

abbrev pub decreases-loop-block : goal.decreases-loop-block
decreases-loop-block g l = l.blocks.end - l.blocks.at
