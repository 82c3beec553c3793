use Rattle.std.proofs.Common.{◌≡◌, ℕ, List, take, drop}
use Rattle.arena.specs.Finds.{Readable, Spells}
use Rattle.arena.proofs.texts.read_text.Given as goal

abbrev pub invariant-loop-j : goal.invariant-loop-j
invariant-loop-j g l =
    (t : List ℕ) → Readable (g.S.Store.memory l.store) l.title → Spells (g.S.Store.memory l.store) l.title t →
    (take l.j l.buffer ≡ take l.j t) × (drop l.j l.buffer ≡ drop l.j l.initial.buffer)
