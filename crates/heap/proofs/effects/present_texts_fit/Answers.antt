use Rattle.std.proofs.Common.{arith}
use Rattle.rules.proofs.Room.{room_present}
use Rattle.heap.proofs.Kept.{reach_in}
use Rattle.heap.proofs.effects.present_texts_fit.Goals as goal

pub returns : goal.returns
returns c m a bins last rs ws o s t i things x =
    let fit = room_present o.figures.places m things a.order x (reach_in m a bins last rs ws o s) t i in
    omega (arith, fit, s.shows.laid.end, s.shows.laid.within)
