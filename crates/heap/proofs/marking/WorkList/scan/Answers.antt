use Rattle.std.proofs.Common.{◌≡◌, ◌+◌, ◌-◌, refl, ◌∙◌, arith}
use Rattle.cells.proofs.Acts.{descriptor_read}
use Rattle.arena.specs.Titles.{count}
use Rattle.heap.proofs.Outcomes.{ok_not_err}
use Rattle.heap.proofs.Scans.{fields_now, cell_now, scanned_more}
use Rattle.heap.proofs.marking.WorkList.scan.Goals as goal

pub returns-in_err-d-clause-scanned : goal.returns-in_err-d-clause-scanned
returns-in_err-d-clause-scanned g c m ts a h =
    let n = fields_now m ts _ _ _ a c.args.title _ _ _ h c.in_ok-descriptor.ensures.1 (g.met.S.Store.sound c.args.store.now).few c.in_ok-first.ensures in let f = n.0 in let e = n.1 in
    let x = cell_now m ts _ _ _ (c.loop-cell.invariant.1 m ts a h).queue c.args.title c.loop-cell.cell h (omega arith) (omega arith) in
    ok_not_err (descriptor_read (g.S.Store.memory c.loop-cell.store) _ c.descriptor-in-loop-cell.result c.descriptor-in-loop-cell.ensures x.1) c.in_err-d.was

pub returns-in_err-visit-clause-scanned : goal.returns-in_err-visit-clause-scanned
returns-in_err-visit-clause-scanned g c m ts a h =
    let n = fields_now m ts _ _ _ a c.args.title _ _ _ h c.in_ok-descriptor.ensures.1 (g.met.S.Store.sound c.args.store.now).few c.in_ok-first.ensures in let f = n.0 in let e = n.1 in
    let s = c.loop-cell.invariant.1 m ts a h in
    let x = cell_now m ts _ _ _ s.queue c.args.title c.loop-cell.cell h (omega arith) (omega arith) in
    ok_not_err (c.visit.ensures.visited m ts s.queue (rw (c.in_ok-d.ensures.1 ∙ x.0) x.2)).0 c.in_err-visit.was

pub loop-cell-preserved : goal.loop-cell-preserved
loop-cell-preserved g c = (
  c.visit.ensures.same_list ∙ c.loop-cell.invariant.0,
  λ m ts a h.
      let n = fields_now m ts _ _ _ a c.args.title _ _ _ h c.in_ok-descriptor.ensures.1 (g.met.S.Store.sound c.args.store.now).few c.in_ok-first.ensures in let f = n.0 in let e = n.1 in
      let s = c.loop-cell.invariant.1 m ts a h in
      let x = cell_now m ts _ _ _ s.queue c.args.title c.loop-cell.cell h (omega arith) (omega arith) in
      let d = c.in_ok-d.ensures.1 ∙ x.0 in
      scanned_more m ts _ _ _ _ _ _ _ _ _ _ _ (omega arith) d s (c.visit.ensures.visited m ts s.queue (rw d x.2)).1,
)

pub returns-clause-scanned : goal.returns-clause-scanned
returns-clause-scanned g c m ts a h =
    let n = fields_now m ts _ _ _ a c.args.title _ _ _ h c.in_ok-descriptor.ensures.1 (g.met.S.Store.sound c.args.store.now).few c.in_ok-first.ensures in let f = n.0 in let e = n.1 in
    let k : c.loop-cell.cell - (c.args.title + 1) ≡ count (m.descriptor c.args.title) = omega arith in
    (refl, rw k at (c.loop-cell.invariant.1 m ts a h))
