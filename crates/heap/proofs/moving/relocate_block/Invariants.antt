use Rattle.std.proofs.Common.{ℕ, ◌+◌, ◌-◌, ◌<◌}
use Rattle.arena.specs.Titles.{count}
use Rattle.heap.specs.Moves.{Ready, Relocating}
use Rattle.heap.proofs.moving.relocate_block.Given as goal

abbrev pub invariant-loop-cell : goal.invariant-loop-cell
invariant-loop-cell g l =
    l.block.at + count l.block.title < (g.S.Store.memory l.initial.store).figures.cells →
    ((k : ℕ) → k < count l.block.title → Ready (g.S.Store.memory l.initial.store) l.work ((g.S.Store.memory l.initial.store).descriptor (l.block.at + 1 + k))) →
    Relocating (g.S.Store.memory l.initial.store) l.work l.block.at (l.cell - (l.block.at + 1)) (g.S.Store.memory l.store)
