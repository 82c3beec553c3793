use Rattle.std.proofs.Common.{◌≡◌, ℕ, List}
use Rattle.cells.specs.Meaning.{Memory}
use Rattle.heap.specs.Marks.{Queue, Drained}
use Rattle.heap.proofs.marking.WorkList.drain.Given as goal

abbrev pub invariant-loop-place : goal.invariant-loop-place
invariant-loop-place g l =
    (l.self.titles.ghost_name ≡ l.initial.self.titles.ghost_name) ×
    ((m : Memory) (ts : List ℕ) → Queue m ts l.initial.self.titles.now l.initial.self.tail (g.S.Store.memory l.initial.store) →
    Drained m ts l.place l.initial.self.titles.now l.initial.self.tail l.self.titles.now l.self.tail (g.S.Store.memory l.store))
