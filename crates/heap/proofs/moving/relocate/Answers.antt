use Rattle.std.proofs.Common.{◌∙◌}
use Rattle.heap.proofs.Outcomes.{ok_not_err}
use Rattle.heap.proofs.Took.{standing, took}
use Rattle.heap.proofs.Values.{relocated_skip, relocated_keep, fields_fit, ready_now}
use Rattle.heap.proofs.moving.relocate.Goals as goal

pub returns-in_err-block : goal.returns-in_err-block
returns-in_err-block g c ts a pr =
    let s = c.loop-block.invariant.1 ts a pr in
    absurd (c.in_err-block.ensures.passed _ ts _ _ (standing a c.loop-block.invariant.0 s.stop s.figures (s.titles _)))

pub loop-block-preserved-in-Continue-branch-4 : goal.loop-block-preserved-in-Continue-branch-4
loop-block-preserved-in-Continue-branch-4 g c =
    let k = rw c.in-Some.is at c.in_ok-block.ensures.walked in (
      k.5 ∙ c.loop-block.invariant.0,
      λ ts a pr.
          let s = c.loop-block.invariant.1 ts a pr in
          let t = took (standing a c.loop-block.invariant.0 s.stop s.figures (s.titles _)) c.in-Some.is c.in_ok-block.ensures.passed c.in_ok-block.ensures.walked in
          let m = (c.is_marked.ensures.yes c.if-is_marked.true) in
          relocated_keep _ ts _ _ _ a _ _ _ _ t s m _
          (c.relocate_block.ensures (fields_fit _ ts _ _ _ a _ _ _ _ t s m) (ready_now _ ts _ _ _ a _ _ _ _ t s m pr)).1,
    )

pub returns-in_err-relocate_block : goal.returns-in_err-relocate_block
returns-in_err-relocate_block g c ts a pr =
    let s = c.loop-block.invariant.1 ts a pr in
    let t = took (standing a c.loop-block.invariant.0 s.stop s.figures (s.titles _)) c.in-Some.is c.in_ok-block.ensures.passed c.in_ok-block.ensures.walked in
    let m = (c.is_marked.ensures.yes c.if-is_marked.true) in
    ok_not_err (c.relocate_block.ensures (fields_fit _ ts _ _ _ a _ _ _ _ t s m) (ready_now _ ts _ _ _ a _ _ _ _ t s m pr)).0 c.in_err-relocate_block.was

pub loop-block-preserved : goal.loop-block-preserved
loop-block-preserved g c =
    let k = rw c.in-Some.is at c.in_ok-block.ensures.walked in (
      k.5 ∙ c.loop-block.invariant.0,
      λ ts a pr.
          let s = c.loop-block.invariant.1 ts a pr in
          let t = took (standing a c.loop-block.invariant.0 s.stop s.figures (s.titles _)) c.in-Some.is c.in_ok-block.ensures.passed c.in_ok-block.ensures.walked in
          relocated_skip _ ts _ _ _ a _ _ _ _ t s (c.is_marked.ensures.no c.if-is_marked.false),
    )
