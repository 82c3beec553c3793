use Rattle.std.proofs.Common.{◌≡◌, ℕ, ◌-◌, ◌≤◌, List, length}
use Rattle.heap.specs.Walks.{Tiled, Tabled, Moving}
use Rattle.heap.proofs.moving.pack.Given as goal

abbrev pub invariant-loop-block : goal.invariant-loop-block
invariant-loop-block g l =
    (l.blocks.end ≡ l.fn.extent.next) ×
    ((ts : List ℕ) (t : ℕ) → Tiled (g.S.Store.memory l.initial.store) ts l.fn.extent.bins l.fn.extent.next → (g.S.Store.memory l.initial.store).figures.cells ≤ length l.work →
    Tabled (g.S.Store.memory l.initial.store) ts l.fn.extent.bins l.fn.extent.next l.fn.extent.next t l.work →
    Moving (g.S.Store.memory l.initial.store) ts l.fn.extent.bins l.fn.extent.next l.blocks.at (g.S.Store.memory l.store))

abbrev pub decreases-loop-block : goal.decreases-loop-block
decreases-loop-block g l = l.blocks.end - l.blocks.at
