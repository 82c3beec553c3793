use Rattle.std.proofs.Common.{◌≡◌, ℕ, ◌-◌, List}
use Rattle.cells.specs.declared.Descriptor.{Descriptor}
use Rattle.heap.specs.Walks.{Tiled}
use Rattle.heap.specs.Threads.{Linkable, Threading}
use Rattle.heap.proofs.threading.thread_links.Given as goal

abbrev pub invariant-loop-block : goal.invariant-loop-block
invariant-loop-block g l =
    (l.blocks.end ≡ l.fn.extent.next) ×
    ((ts : List ℕ) (link : ℕ → Descriptor) → Tiled (g.S.Store.memory l.initial.store) ts l.fn.extent.bins l.fn.extent.next →
    Linkable (g.S.Store.memory l.initial.store) ts l.work link →
    Threading (g.S.Store.memory l.initial.store) ts link l.fn.extent.next l.blocks.at (g.S.Store.memory l.store))

abbrev pub decreases-loop-block : goal.decreases-loop-block
decreases-loop-block g l = l.blocks.end - l.blocks.at
