use Rattle.std.proofs.Common.{refl}
use Rattle.heap.proofs.Kept.{register_becomes, field_becomes, becomes_same}
use Rattle.heap.proofs.effects.numbers_stay.Goals as goal

pub returns : goal.returns
returns c m a o rs g z = (
  λ r l e. becomes_same m a o rs g _ _ _ (register_becomes m a o rs g r l) e refl,
  λ x p q k l i k1 k2 e. becomes_same m a o rs g _ _ _ (field_becomes m a o rs g x p q k l i k1 k2) e refl,
)
