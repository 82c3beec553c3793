use Rattle.std.proofs.Common.{refl, arith}
use Rattle.arena.proofs.Openings.{head_fits, opened}
use Rattle.arena.proofs.opening.open_arena.Goals as goal

pub returns : goal.returns
returns g c b1 b2 room =
    let w = (c.fill.ensures (omega arith) (head_fits (g.S.Store.memory c.args.store.now).figures _ c.no_head.ensures)).1 in
    (refl, w.figures, opened _ b1 b2 _ _ room _ c.no_head.ensures w)
