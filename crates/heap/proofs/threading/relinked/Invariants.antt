use Rattle.std.proofs.Common.{ℕ, ◌-◌, List}
use Rattle.cells.specs.declared.Descriptor.{Descriptor}
use Rattle.heap.specs.Threads.{Led, Leading}
use Rattle.heap.proofs.threading.relinked.Given as goal

abbrev pub invariant-loop : goal.invariant-loop
invariant-loop g l =
    (ts : List ℕ) (d' : Descriptor) → Led (g.S.Store.memory l.store) ts l.work l.d d' →
    Leading (g.S.Store.memory l.store) ts l.work l.d.kind d' l.link (l.end - l.counter)
