use Rattle.std.proofs.Common.{refl, ◌∙◌}
use Rattle.heap.proofs.Outcomes.{ok_not_err}
use Rattle.heap.proofs.Took.{took, over}
use Rattle.heap.proofs.Searches.{standing_marked, searched_more}
use Rattle.heap.proofs.marking.WorkList.add_strings.Goals as goal

pub returns-in_err-block-clause-added : goal.returns-in_err-block-clause-added
returns-in_err-block-clause-added g c m ts a q =
    let s = c.loop-block.invariant.2 m ts a q in
    absurd (c.in_err-block.ensures.passed _ ts _ _ (standing_marked m ts _ _ a _ _ _ _ _ _ s c.loop-block.invariant.0))

pub returns-in_err-add_string-clause-added : goal.returns-in_err-add_string-clause-added
returns-in_err-add_string-clause-added g c m ts a q =
    let s = c.loop-block.invariant.2 m ts a q in
    let t = took (standing_marked m ts _ _ a _ _ _ _ _ _ s c.loop-block.invariant.0) c.in-Some.is c.in_ok-block.ensures.passed c.in_ok-block.ensures.walked in
    ok_not_err (c.add_string.ensures.added m ts s.queue (rw t.at t.here) (rw t.at t.title)).0 c.in_err-add_string.was

pub loop-block-preserved : goal.loop-block-preserved
loop-block-preserved g c =
    let k = rw c.in-Some.is at c.in_ok-block.ensures.walked in (
      k.5 ∙ c.loop-block.invariant.0,
      c.add_string.ensures.same_list ∙ c.loop-block.invariant.1,
      λ m ts a q.
          let s = c.loop-block.invariant.2 m ts a q in
          let t = took (standing_marked m ts _ _ a _ _ _ _ _ _ s c.loop-block.invariant.0) c.in-Some.is c.in_ok-block.ensures.passed c.in_ok-block.ensures.walked in
          searched_more m ts _ _ a _ _ _ _ _ _ s _ _ t _ _ _ (c.add_string.ensures.added m ts s.queue (rw t.at t.here) (rw t.at t.title)).1,
    )

pub returns-clause-added : goal.returns-clause-added
returns-clause-added g c m ts a q =
    let s = c.loop-block.invariant.2 m ts a q in
    (refl, rw (over (standing_marked m ts _ _ a _ _ _ _ _ _ s c.loop-block.invariant.0) c.in_default.not-Some c.in_ok-block.ensures.passed) at s)
