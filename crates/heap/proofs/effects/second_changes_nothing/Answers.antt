use Rattle.heap.proofs.Twice.{second_last, second_register, second_unchanged}
use Rattle.heap.proofs.effects.second_changes_nothing.Goals as goal

pub returns : goal.returns
returns c m a o rs g h = (second_last m a o rs g h, second_register m a o rs g h, second_unchanged m a o rs g h)
