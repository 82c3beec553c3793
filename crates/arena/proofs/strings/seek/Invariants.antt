use Rattle.std.proofs.Common.{ℕ, ◌-◌, Option}
use Rattle.arena.specs.Finds.{Sought}
use Rattle.arena.proofs.strings.seek.Given as goal

-- After each turn one string less may follow.
abbrev pub invariant-loop : goal.invariant-loop
invariant-loop g l =
    (p : Option ℕ) → Sought (g.S.Store.memory l.store) l.text l.number l.fn.head (g.S.Store.memory l.store).figures.cells p →
    Sought (g.S.Store.memory l.store) l.text l.number l.link (l.end - l.counter) p
