use Rattle.heap.proofs.Rooms.{room_there, room_short, full_left, full_remade, full_refused}
use Rattle.heap.proofs.room.make_room.Goals as goal

pub returns-then-has_room-clause-full : goal.returns-then-has_room-clause-full
returns-then-has_room-clause-full g c m a s = full_left m a _ _ _ _ _ s _ (room_there _ _ _ _ _ c.has_room.ensures c.cells-cells.ensures c.if-has_room.true)

pub returns-then-has_room-2-clause-full : goal.returns-then-has_room-2-clause-full
returns-then-has_room-2-clause-full g c m a s =
    full_remade m a _ _ _ _ _ s _ _ _ _ _ (c.in_ok-extent.ensures m a s) (room_there _ _ _ _ _ c.has_room-2.ensures c.cells-cells.ensures c.if-has_room-2.true)

pub returns-clause-full : goal.returns-clause-full
returns-clause-full g c m a s =
    full_refused m a _ _ _ _ _ s _ _ _ _ _ (c.in_ok-extent.ensures m a s) (room_short _ _ _ _ _ c.has_room-2.ensures c.cells-cells.ensures c.if-has_room-2.false)
