use Rattle.std.proofs.Common.{arith}
use Rattle.rules.specs.Model.{string, from_string}
use Rattle.heap.proofs.Lifts.{coded_null}
use Rattle.heap.proofs.Kept.{kept_somewhere}
use Rattle.heap.proofs.effects.labels_keep.Goals as goal

pub returns : goal.returns
returns c m a o rs g t p l none some =
    kept_somewhere m a o rs g (string t) (from_string 2 (omega arith) (omega arith)
    (λ z. some (coded_null _ _ _ _ _ (g.shown.shows.laid.coded (string t) p 2 l (omega arith) (omega arith)) z)))
