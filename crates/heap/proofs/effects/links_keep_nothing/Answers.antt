use Rattle.rules.specs.Model.{Text, string, Reach}
use Rattle.rules.proofs.Lists.{keeps_from}
use Rattle.heap.proofs.Kept.{only_reachable}
use Rattle.heap.proofs.effects.links_keep_nothing.Goals as goal

pub returns : goal.returns
returns c m a o rs g b t l h n = (
  λ i. n (keeps_from (λ (x : Text). Reach m (string x)) (g.regenerated.chains b l) t i).1,
  λ q i. n (only_reachable m a o rs g (string t) q i).0,
)
