use Rattle.workspace.specs.Shown.{view}
use Rattle.workspace.proofs.Rooms.{down}
use Rattle.workspace.proofs.Regains.{regain_full, regain_fit}
use Rattle.workspace.proofs.space.Workspace.regain.Goals as goal

pub returns-in_err-next : goal.returns-in_err-next
returns-in_err-next g c m a s long =
    absurd (c.in_err-next.ensures m a
    (down m a (view g.S.Store.memory c.args.self.now) c.in-Some.extent.bins c.in-Some.extent.next c.args.work.now s c.in-Some.is long))

pub returns-then-free-need : goal.returns-then-free-need
returns-then-free-need g c m a s long =
    let v = view g.S.Store.memory c.args.self.now in
    let r = c.in_ok-next.ensures m a (down m a v c.in-Some.extent.bins c.in-Some.extent.next c.args.work.now s c.in-Some.is long) in
    regain_full m a v c.in-Some.extent.bins c.in_ok-next.next c.args.need c.regenerate.new.registers c.regenerate.new.work (g.S.Store.memory c.regenerate.new.store) r
    c.cells.result c.free_cells-free.result c.cells.ensures c.free_cells-free.ensures c.if-free-need.true

pub returns : goal.returns
returns g c m a s long =
    let v = view g.S.Store.memory c.args.self.now in
    let r = c.in_ok-next.ensures m a (down m a v c.in-Some.extent.bins c.in-Some.extent.next c.args.work.now s c.in-Some.is long) in
    regain_fit m a v c.in-Some.extent.bins c.in_ok-next.next c.args.need c.regenerate.new.registers c.regenerate.new.work (g.S.Store.memory c.regenerate.new.store) r
    c.cells.result c.free_cells-free.result c.cells.ensures c.free_cells-free.ensures c.if-free-need.false
