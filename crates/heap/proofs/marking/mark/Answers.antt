use Rattle.std.proofs.Common.{rules}
use Rattle.heap.proofs.Outcomes.{ok_not_err}
use Rattle.heap.proofs.Starts.{empty_queue, valued_registers, tiled_start, traced}
use Rattle.heap.proofs.marking.mark.Goals as goal

pub returns-in_err-add_registers : goal.returns-in_err-add_registers
returns-in_err-add_registers g c m a s =
    let n = g.met.S.Store.sound c.args.store.now in
    ok_not_err (c.add_registers.ensures.added _ _ (empty_queue m a _ _ _ _ _ n s) (valued_registers m a _ _ _ _ _ n s)).0 c.in_err-add_registers.was

pub returns-in_err-add_strings : goal.returns-in_err-add_strings
returns-in_err-add_strings g c m a s =
    let n = g.met.S.Store.sound c.args.store.now in
    let r = (c.add_registers.ensures.added _ _ (empty_queue m a _ _ _ _ _ n s) (valued_registers m a _ _ _ _ _ n s)).1 in
    ok_not_err (c.add_strings.ensures.added _ _ (tiled_start m a _ _ _ _ _ n s) r.queue).0 c.in_err-add_strings.was

pub returns : goal.returns
returns g c m a s =
    let n = g.met.S.Store.sound c.args.store.now in
    let r = (c.add_registers.ensures.added _ _ (empty_queue m a _ _ _ _ _ n s) (valued_registers m a _ _ _ _ _ n s)).1 in
    let v = (c.add_strings.ensures.added _ _ (tiled_start m a _ _ _ _ _ n s) r.queue).1 in
    let d = c.drain.ensures.drained _ _ v.queue in
    (d.0, traced m a _ _ _ _ _ n s _ _ _ r _ _ _ v _ _ _ d.1 _ (search rules))
