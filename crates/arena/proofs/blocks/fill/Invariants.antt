use Rattle.std.proofs.Common.{◌+◌, ◌-◌, ◌≤◌}
use Rattle.cells.specs.Meaning.{FitDescriptor}
use Rattle.arena.specs.Blocks.{Filled}
use Rattle.arena.proofs.blocks.fill.Given as goal

abbrev pub invariant-loop-cell : goal.invariant-loop-cell
invariant-loop-cell g l =
    l.at + l.n ≤ (g.S.Store.memory l.initial.store).figures.cells → FitDescriptor (g.S.Store.memory l.initial.store).figures l.d →
    Filled (g.S.Store.memory l.initial.store) l.at (l.cell - l.at) l.d (g.S.Store.memory l.store)
