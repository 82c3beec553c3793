use Rattle.std.proofs.Common.{◌≡◌, Some, None, Option, MatchOption, refl, ◌∙◌, ⊎_elim, arith}
use Rattle.heap.proofs.Outcomes.{ok_not_err}
use Rattle.heap.proofs.Queues.{few_titles, tail_fits}
use Rattle.heap.proofs.Scans.{drained_none, drained_more, all_marked}
use Rattle.heap.proofs.marking.WorkList.drain.Goals as goal

at_none : {A P : Type 0} (Q : A → Type 0) (r : Option A) → MatchOption r P Q → ((x : A) → r ≡ Some x → ⊥) → P
at_none Q None p n = p
at_none Q (Some x) p n = absurd (n x refl)

pub loop-place-init : goal.loop-place-init
loop-place-init g c = (refl, λ m ts a. drained_none m ts _ _ _ a)

pub loop-place-preserved : goal.loop-place-preserved
loop-place-preserved g c = (
  c.scan.ensures.same_list ∙ c.loop-place.invariant.0,
  λ m ts a.
      let s = c.loop-place.invariant.1 m ts a in
      let e = c.in-Some.ensures in
      let v = c.scan.ensures.scanned m ts s.queue (rw e.1 (s.queue.titles c.loop-place.place e.0)) in
      drained_more m ts _ _ c.loop-place.place _ _ _ _ _ _ e.0 s (rw e.1 at v.1),
)

pub returns-in_default-clause-drained : goal.returns-in_default-clause-drained
returns-in_default-clause-drained g c m ts a =
    let s = c.loop-place.invariant.1 m ts a in
    let f = tail_fits m ts _ _ _ s.queue in
    (refl, all_marked m ts _ _ c.loop-place.place _ _ _ (⊎_elim (λ l. l) (λ l. omega arith) (at_none _ _ c.get.ensures c.in_default.not-Some)) s)

pub returns-in_err-scan-clause-drained : goal.returns-in_err-scan-clause-drained
returns-in_err-scan-clause-drained g c m ts a =
    let s = c.loop-place.invariant.1 m ts a in
    let e = c.in-Some.ensures in
    ok_not_err (c.scan.ensures.scanned m ts s.queue (rw e.1 (s.queue.titles c.loop-place.place e.0))).0 c.in_err-scan.was

pub returns-after-loop-place-clause-drained : goal.returns-after-loop-place-clause-drained
returns-after-loop-place-clause-drained g c m ts a =
    let s = c.loop-place.invariant.1 m ts a in
    let f = few_titles m ts _ _ _ s.queue in
    let r = a.room in
    (refl, all_marked m ts _ _ c.loop-place.place _ _ _ (omega arith) s)
