use Rattle.std.proofs.Common.{ℕ, ◌≤◌, List}
use Rattle.cells.specs.declared.Descriptor.{Descriptor}
use Rattle.rules.specs.Lists.{In}
use Rattle.heap.specs.Threads.{Headed, Heading}
use Rattle.heap.proofs.threading.thread_heads.Given as goal

abbrev pub invariant-loop-b : goal.invariant-loop-b
invariant-loop-b g l =
    (ts : List ℕ) (head : ℕ → Descriptor) → l.bins ≤ (g.S.Store.memory l.initial.store).figures.cells → ((q : ℕ) → In q ts → l.bins ≤ q) →
    Headed (g.S.Store.memory l.initial.store) ts l.work l.bins head →
    Heading (g.S.Store.memory l.initial.store) head l.b (g.S.Store.memory l.store)
