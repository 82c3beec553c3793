use Rattle.std.proofs.Common.{sym, refl, subst}
use Rattle.workspace.specs.State.{State, Opened}
use Rattle.workspace.specs.Shown.{View, view}
use Rattle.workspace.specs.Rooms.{RoomOf, HasRoom}
use Rattle.workspace.proofs.Steps.{passed}
use Rattle.workspace.proofs.Rooms.{down, room_ok, room_err, same_extent}
use Rattle.workspace.proofs.space.Workspace.room.Goals as goal

pub returns-in_err-make_room : goal.returns-in_err-make_room
returns-in_err-make_room g c m a s long =
    let v = view g.S.Store.memory c.args.self.now in
    let l = c.make_room.new in
    let e = c.in-Some.extent in
    let shown = down m a v e.bins e.next c.args.work.now s c.in-Some.is long in
    let after : State → View = λ t. record { memory = g.S.Store.memory l.store; registers = l.registers; state = t } in
    subst (λ t. RoomOf m a v c.args.need (after t) c.from_residual.result) (same_extent e l.extent c.make_room.ensures.same_bins)
    (subst (λ r. RoomOf m a v c.args.need (after (Opened e.bins l.extent.next)) r) (sym (passed c.from_residual.result _ _ c.from_residual.ensures.1 refl))
    (room_err m a v e.bins e.next c.args.need s c.in-Some.is l.extent.next l.registers l.work (g.S.Store.memory l.store) c.in_err-make_room.field-0.0
    (c.in_err-make_room.ensures.answer m a shown) (c.in_err-make_room.ensures.full m a shown)))

pub returns : goal.returns
returns g c m a s long =
    let v = view g.S.Store.memory c.args.self.now in
    let l = c.make_room.new in
    let e = c.in-Some.extent in
    let shown = down m a v e.bins e.next c.args.work.now s c.in-Some.is long in
    let after : State → View = λ t. record { memory = g.S.Store.memory l.store; registers = l.registers; state = t } in
    subst (λ t. HasRoom m a v c.args.need (after t) l.extent.next) (same_extent e l.extent c.make_room.ensures.same_bins)
    (room_ok m a v e.bins e.next c.args.need s c.in-Some.is l.extent.next l.registers l.work (g.S.Store.memory l.store)
    (c.in_ok-make_room.ensures.answer m a shown) (c.in_ok-make_room.ensures.full m a shown))
