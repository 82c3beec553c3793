use Rattle.std.proofs.Common.{inl, inr, arith}
use Rattle.heap.proofs.Scans.{holding}
use Rattle.heap.proofs.marking.WorkList.add_string.Goals as goal

pub returns-clause-added : goal.returns-clause-added
returns-clause-added g c m ts a h e =
    let w = c.push.ensures.pushed m ts a h in
    elim (c.holds.ensures.yes c.if-not-holds.false) [
      | inl n ↦
          let ve = c.in_ok-value.ensures.1 in
          (w.0, holding m ts _ _ _ a _ h _ e (c.is_string.ensures.yes c.if-not-is_string.false) 0 _ _ _ _ _ (omega arith) (omega arith) ve n w.1)
      | inr n ↦
          let ve = c.in_ok-label.ensures.1 in
          (w.0, holding m ts _ _ _ a _ h _ e (c.is_string.ensures.yes c.if-not-is_string.false) 1 _ _ _ _ _ (omega arith) (omega arith) ve n w.1)
    ]
