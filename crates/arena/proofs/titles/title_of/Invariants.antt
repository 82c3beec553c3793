use Rattle.std.proofs.Common.{◌≡◌, ℕ, ◌+◌, ◌<◌, ◌≤◌}
use Rattle.arena.specs.Titles.{Back}
use Rattle.arena.proofs.titles.title_of.Given as goal

abbrev pub invariant-loop-at : goal.invariant-loop-at
invariant-loop-at g l = (p k : ℕ) → l.cell ≡ p + k → l.cell < (g.S.Store.memory l.store).figures.cells → Back (g.S.Store.memory l.store) p k → p ≤ l.at
