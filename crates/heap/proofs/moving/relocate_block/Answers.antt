use Rattle.std.proofs.Common.{◌≡◌, ◌+◌, ◌-◌, refl, ap, ◌∙◌, arith}
use Rattle.cells.proofs.Acts.{descriptor_written}
use Rattle.arena.specs.Titles.{count}
use Rattle.heap.proofs.Outcomes.{ok_same, ok_not_err, fields_given}
use Rattle.heap.proofs.Values.{ready_field, read_field, forward_gives, fits_new, relocating_more, relocating_same}
use Rattle.heap.proofs.moving.relocate_block.Goals as goal
use Rattle.heap.proofs.moving.relocate_block.Goals.{then-is_pointer+in_ok-moved+in_ok-set_descriptor, else-is_pointer}

pub returns-in_err-moved : goal.returns-in_err-moved
returns-in_err-moved g c b re =
    let s = c.loop-cell.invariant b re in
    let n = fields_given c.args.block.now.at _ _ _ b (g.met.S.Store.sound c.args.store.now).few c.in_ok-first.ensures in let f = n.0 in let u = n.1 in
    let de = c.in_ok-d.ensures.1 ∙ read_field _ _ _ c.loop-cell.cell (omega arith) _ s in
    let w = forward_gives _ _ _ c.loop-cell.cell (omega arith) _ s _ de _ c.forward.ensures.plain c.forward.ensures.moved (ready_field _ _ _ _ re c.loop-cell.cell (omega arith) (omega arith)) in
    ok_not_err w.1 c.in_err-moved.was

pub returns-in_err-set_descriptor : goal.returns-in_err-set_descriptor
returns-in_err-set_descriptor g c b re =
    let s = c.loop-cell.invariant b re in
    let n = fields_given c.args.block.now.at _ _ _ b (g.met.S.Store.sound c.args.store.now).few c.in_ok-first.ensures in let f = n.0 in let u = n.1 in
    let de = c.in_ok-d.ensures.1 ∙ read_field _ _ _ c.loop-cell.cell (omega arith) _ s in
    let w = forward_gives _ _ _ c.loop-cell.cell (omega arith) _ s _ de _ c.in_ok-moved.ensures.plain c.in_ok-moved.ensures.moved (ready_field _ _ _ _ re c.loop-cell.cell (omega arith) (omega arith)) in
    let ft = fits_new _ _ _ c.loop-cell.cell (omega arith) _ s _ de _ (rw (← (ok_same _ _ w.1)) at w.2) (g.met.S.Store.sound c.loop-cell.store) (omega arith) in
    ok_not_err (descriptor_written _ _ _ _ c.set_descriptor.result c.set_descriptor.ensures.answer ft.0 ft.1).0 c.in_err-set_descriptor.was

pub loop-cell-preserved : goal.loop-cell-preserved
loop-cell-preserved g c b re =
    let s = c.loop-cell.invariant b re in
    let n = fields_given c.args.block.now.at _ _ _ b (g.met.S.Store.sound c.args.store.now).few c.in_ok-first.ensures in let f = n.0 in let u = n.1 in
    let de = c.in_ok-d.ensures.1 ∙ read_field _ _ _ c.loop-cell.cell (omega arith) _ s in
    let rf = ready_field _ _ _ _ re c.loop-cell.cell (omega arith) (omega arith) in
    elim c.if-is_pointer.branch [
      | then-is_pointer+in_ok-moved+in_ok-set_descriptor y ↦
          let w = forward_gives _ _ _ c.loop-cell.cell (omega arith) _ s _ de _ y.in_ok-moved.ensures.plain y.in_ok-moved.ensures.moved rf in
          let ca = rw (← (ok_same _ _ w.1)) at w.2 in
          let ft = fits_new _ _ _ c.loop-cell.cell (omega arith) _ s _ de _ ca (g.met.S.Store.sound c.loop-cell.store) (omega arith) in
          rw (ap g.S.Store.memory y.store-is) (relocating_more _ _ _ c.loop-cell.cell (omega arith) _ s _ _ _ de ca.flags ca.goes
          (descriptor_written _ _ _ _ y.set_descriptor.result y.set_descriptor.ensures.answer ft.0 ft.1).1)
      | else-is_pointer y ↦
          rw (ap g.S.Store.memory y.store-is) (relocating_same _ _ _ c.loop-cell.cell (omega arith) _ s _ de (c.is_pointer.ensures.no y.if-is_pointer.false) rf)
    ]

pub returns : goal.returns
returns g c b re =
    let n = fields_given c.args.block.now.at _ _ _ b (g.met.S.Store.sound c.args.store.now).few c.in_ok-first.ensures in let f = n.0 in let u = n.1 in
    let k : c.loop-cell.cell - (c.args.block.now.at + 1) ≡ count c.args.block.now.title = omega arith in
    (refl, rw k at (c.loop-cell.invariant b re))
