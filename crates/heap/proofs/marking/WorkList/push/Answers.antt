use Rattle.std.proofs.Common.{◌≡◌, ◌≤◌, refl, ap, ◌∙◌, subst, arith}
use lib.Bits.{bit_and}
use Rattle.cells.specs.declared.Descriptor.{Descriptor}
use Rattle.cells.proofs.Acts.{descriptor_written}
use Rattle.arena.specs.Titles.{with_mark}
use Rattle.heap.proofs.Queues.{added_new, room_left, unmarked, below_now, fits_mark}
use Rattle.heap.proofs.marking.WorkList.push.Goals as goal

pub returns-then-self-clause-pushed : goal.returns-then-self-clause-pushed
returns-then-self-clause-pushed g c m ts a h =
    let read = c.in_ok-t.ensures.1 in
    let e : c.in_ok-t.t ≡ (g.S.Store.memory c.args.store.now).descriptor c.args.title = cc in
    let z = subst (λ (x : Descriptor). bit_and x.flags 8 ≡ 0) e (c.is_marked.ensures.no c.if-is_marked.false) in
    let l = room_left m ts _ _ _ a c.args.title h (unmarked m ts _ _ _ a c.args.title h z).0 in
    absurd (omega arith)

pub returns-clause-pushed : goal.returns-clause-pushed
returns-clause-pushed g c m ts a h =
    let b = below_now m ts _ _ _ a c.args.title h in
    let read = c.in_ok-t.ensures.1 in
    let e : c.in_ok-t.t ≡ (g.S.Store.memory c.args.store.now).descriptor c.args.title = cc in
    let z = subst (λ (x : Descriptor). bit_and x.flags 8 ≡ 0) e (c.is_marked.ensures.no c.if-is_marked.false) in
    let f = fits_mark m ts _ _ _ a c.args.title c.in_ok-t.t h e (c.is_marked.ensures.no c.if-is_marked.false) in
    let k = c.marked.ensures ∙ ap with_mark e in
    let s = (g.met.S.Store.sound c.args.store.now).kinds c.args.title b in
    let fl : c.marked.result.flags ≤ 31 = rw c.marked.ensures f in
    let ki : c.marked.result.kind ≤ (g.S.Store.memory c.args.store.now).figures.largest = rw (c.marked.ensures, e) s in
    let w = (descriptor_written _ _ _ _ c.set_descriptor.result c.set_descriptor.ensures.answer b (fl, ki)).1 in
    (refl, added_new m ts _ _ _ a c.args.title _ h z c.if-self.false (rw k at w))
