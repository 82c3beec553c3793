use Rattle.std.proofs.Common.{ℕ, ◌+◌, refl, ap}
use Rattle.heap.specs.Marks.{plain, pointer}
use Rattle.heap.proofs.Outcomes.{ok_same, ok_not_err}
use Rattle.heap.proofs.Queues.{visited_one, back_now, aim_below}
use Rattle.heap.proofs.marking.WorkList.visit.Goals as goal

pub returns-in_err-title-clause-visited : goal.returns-in_err-title-clause-visited
returns-in_err-title-clause-visited g c m ts a v =
    elim v [
      | plain e ↦ absurd (c.is_pointer.ensures.yes c.if-not-is_pointer.false (rw e refl))
      | pointer q p ↦
          let ce = ok_same _ _ (c.in_ok-cell_of.ensures (q + p.distance) p.value) in
          ok_not_err (c.title_of.ensures.back q p.distance ce (rw ce (aim_below m ts _ _ _ a _ q p)) (back_now m ts _ _ _ a _ q p)) c.in_err-title.was
    ]

pub returns-clause-visited : goal.returns-clause-visited
returns-clause-visited g c m ts a v =
    elim v [
      | plain e ↦ absurd (c.is_pointer.ensures.yes c.if-not-is_pointer.false (rw e refl))
      | pointer q p ↦
          let ce = ok_same _ _ (c.in_ok-cell_of.ensures (q + p.distance) p.value) in
          let te = ap (λ (x : ℕ × ℕ). x.0) (ok_same _ _ (c.in_ok-title.ensures.back q p.distance ce (rw ce (aim_below m ts _ _ _ a _ q p)) (back_now m ts _ _ _ a _ q p))) in
          let n = c.push.ensures.pushed m ts a (rw te p.title) in
          (n.0, visited_one m ts _ _ _ a _ q _ _ _ _ p te n.1)
    ]
