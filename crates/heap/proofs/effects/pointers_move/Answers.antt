use Rattle.heap.proofs.Kept.{register_becomes, field_becomes}
use Rattle.heap.proofs.effects.pointers_move.Goals as goal

pub returns : goal.returns
returns c m a o rs g = (register_becomes m a o rs g, field_becomes m a o rs g)
