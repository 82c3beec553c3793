use Rattle.std.proofs.Common.{◌+◌, ◌≤◌}
use Rattle.arena.specs.Enters.{Takes, Writing}
use Rattle.arena.proofs.entering.spell.Given as goal

abbrev pub invariant-loop-j : goal.invariant-loop-j
invariant-loop-j g l =
    l.at + l.rows ≤ (g.S.Store.memory l.initial.store).figures.cells → Takes (g.S.Store.memory l.initial.store) l.text →
    Writing (g.S.Store.memory l.initial.store) l.at l.rows l.text l.j (g.S.Store.memory l.store)
