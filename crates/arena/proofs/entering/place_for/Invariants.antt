use Rattle.std.proofs.Common.{ℕ, ◌-◌}
use Rattle.arena.specs.Enters.{Backward}
use Rattle.arena.proofs.entering.place_for.Given as goal

-- After each turn one string less may follow.
abbrev pub invariant-loop : goal.invariant-loop
invariant-loop g l =
    (p : ℕ) → Backward (g.S.Store.memory l.store) l.number l.fn.head (g.S.Store.memory l.store).figures.cells p →
    Backward (g.S.Store.memory l.store) l.number l.cell (l.end - l.counter) p
