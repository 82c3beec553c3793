use Rattle.std.proofs.Common.{◌≤◌, length, take, vec_items}
use Rattle.rules.specs.Model.{Model}
use Rattle.rules.specs.Arena.{Arena}
use Rattle.workspace.specs.Shown.{view, Shown}
use Rattle.workspace.specs.Logs.{entries, calls_of, Logged}
use Rattle.workspace.proofs.space.Workspace.run.Given as goal

abbrev pub invariant-loop-call : goal.invariant-loop-call
invariant-loop-call g l =
    (m : Model) (a : Arena) → Shown m a (view g.S.Store.memory l.initial.self) →
    (g.S.Store.memory l.initial.self.cells).figures.cells ≤ length l.initial.work →
    Logged (view g.S.Store.memory l.initial.self) m a (calls_of (take l.call-index l.calls)) (entries (vec_items l.log)) (view g.S.Store.memory l.self)
