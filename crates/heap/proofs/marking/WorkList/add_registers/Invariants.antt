use Rattle.std.proofs.Common.{◌≡◌, ℕ, ◌<◌, List, length, get_or}
use Rattle.cells.specs.Meaning.{Memory}
use Rattle.rules.specs.Arena.{null_desc}
use Rattle.heap.specs.Marks.{Queue, Valued, Registered}
use Rattle.heap.proofs.marking.WorkList.add_registers.Given as goal

abbrev pub invariant-loop-d : goal.invariant-loop-d
invariant-loop-d g l =
    (l.self.titles.ghost_name ≡ l.initial.self.titles.ghost_name) ×
    ((m : Memory) (ts : List ℕ) → Queue m ts l.initial.self.titles.now l.initial.self.tail (g.S.Store.memory l.initial.store) →
    ((i : ℕ) → i < length l.registers → Valued m ts (get_or l.registers i null_desc)) →
    Registered m ts l.registers l.d-index l.initial.self.titles.now l.initial.self.tail l.self.titles.now l.self.tail (g.S.Store.memory l.store))
