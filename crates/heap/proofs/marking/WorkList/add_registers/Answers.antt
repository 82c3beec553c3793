use Rattle.std.proofs.Common.{◌≡◌, length, pos, refl, ◌∙◌, arith}
use Rattle.std.proofs.lemmas.List.{get_or_default}
use Rattle.rules.specs.Arena.{desc, null_desc}
use Rattle.heap.proofs.Outcomes.{ok_not_err}
use Rattle.heap.proofs.Scans.{registered_more, valued_at}
use Rattle.heap.proofs.marking.WorkList.add_registers.Goals as goal

pub loop-d-preserved : goal.loop-d-preserved
loop-d-preserved g c = (
  c.visit.ensures.same_list ∙ c.loop-d.invariant.0,
  λ m ts a v.
      let s = c.loop-d.invariant.1 m ts a v in
      let e = get_or_default c.args.registers.now c.loop-d.d-index (desc (pos 0) 0 0) null_desc c.loop-d-test.true in
      registered_more m ts _ _ _ c.loop-d.d-index _ _ _ _ _ _ _ e s (c.visit.ensures.visited m ts s.queue (valued_at m ts _ _ e (v c.loop-d.d-index c.loop-d-test.true))).1,
)

pub returns-in_err-visit-clause-added : goal.returns-in_err-visit-clause-added
returns-in_err-visit-clause-added g c m ts a v =
    let s = c.loop-d.invariant.1 m ts a v in
    let e = get_or_default c.args.registers.now c.loop-d.d-index (desc (pos 0) 0 0) null_desc c.loop-d-test.true in
    ok_not_err (c.visit.ensures.visited m ts s.queue (valued_at m ts _ _ e (v c.loop-d.d-index c.loop-d-test.true))).0 c.in_err-visit.was

pub returns-clause-added : goal.returns-clause-added
returns-clause-added g c m ts a v =
    let k : c.loop-d.d-index ≡ length c.args.registers.now = omega arith in
    (refl, rw k at (c.loop-d.invariant.1 m ts a v))
