use Rattle.heap.proofs.Kept.{new_cell, only_reachable}
use Rattle.heap.proofs.effects.new_cells.Goals as goal

pub returns : goal.returns
returns c = record { cells = new_cell; only = only_reachable }
