use Rattle.std.proofs.Common.{Ok, ap, arith}
use Rattle.arena.proofs.Outcomes.{ok_same}
use Rattle.arena.proofs.Making.{made_shown}
use Rattle.arena.proofs.blocks.make_block.Goals as goal

pub returns-clause-made : goal.returns-clause-made
returns-clause-made g c m a sh e n1 n2 room =
    let snd = g.met.S.Store.sound c.args.store.now in
    let few = snd.few in let wide = snd.wide in let s = c.saturating_add.ensures in
    let z = ok_same _ _ (c.in_ok-end.ensures.room (omega arith)) in
    let w = c.lay.ensures (omega arith) (omega arith, omega arith) in
    (ap Ok (omega arith), made_shown m a _ snd sh _ _ e n1 n2 room _ w.1)
