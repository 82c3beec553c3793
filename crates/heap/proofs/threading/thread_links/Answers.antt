use Rattle.std.proofs.Common.{◌≡◌, ◌+◌, refl, ◌∙◌, inl, inr, arith}
use Rattle.heap.specs.Threads.{link_cell}
use Rattle.heap.proofs.Outcomes.{ok_not_err}
use Rattle.heap.proofs.Took.{standing, took, over}
use Rattle.heap.proofs.Chains.{threading_titles, link_below, link_led, threading_skip, threading_keep}
use Rattle.heap.proofs.threading.thread_links.Goals as goal
use Rattle.heap.proofs.threading.thread_links.Goals.{else-is_marked-via-then-is_marked+else-is_string, else-is_marked-via-else-is_marked}

pub returns-in_err-block : goal.returns-in_err-block
returns-in_err-block g c ts link a lk =
    let s = c.loop-block.invariant.1 ts link a lk in
    absurd (c.in_err-block.ensures.passed _ ts _ _ (standing a c.loop-block.invariant.0 s.stop s.figures (threading_titles _ ts _ _ a link _ _ s _)))

pub returns-in_err-relink : goal.returns-in_err-relink
returns-in_err-relink g c ts link a lk =
    let s = c.loop-block.invariant.1 ts link a lk in
    let t = took (standing a c.loop-block.invariant.0 s.stop s.figures (threading_titles _ ts _ _ a link _ _ s _)) c.in-Some.is c.in_ok-block.ensures.passed c.in_ok-block.ensures.walked in
    let m = (c.is_marked.ensures.yes c.if-is_marked.true) in let f = (c.is_string.ensures.yes c.if-is_string.true) in
    let e : c.in-Some.block.at + 3 ≡ link_cell c.in-Some.block.at = omega arith in
    ok_not_err ((rw e at c.relink.ensures) ts _ (link_below _ ts _ _ a link _ _ _ _ t s m f) (link_led _ ts _ _ a link _ _ _ _ t s m f _ lk)).0 c.in_err-relink.was

pub loop-block-preserved-then-is_string : goal.loop-block-preserved-then-is_string
loop-block-preserved-then-is_string g c =
    let k = rw c.in-Some.is at c.in_ok-block.ensures.walked in (
      k.5 ∙ c.loop-block.invariant.0,
      λ ts link a lk.
          let s = c.loop-block.invariant.1 ts link a lk in
          let t = took (standing a c.loop-block.invariant.0 s.stop s.figures (threading_titles _ ts _ _ a link _ _ s _)) c.in-Some.is c.in_ok-block.ensures.passed c.in_ok-block.ensures.walked in
          let m = (c.is_marked.ensures.yes c.if-is_marked.true) in let f = (c.is_string.ensures.yes c.if-is_string.true) in
          let e : c.in-Some.block.at + 3 ≡ link_cell c.in-Some.block.at = omega arith in
          threading_keep _ ts _ _ a link _ _ _ _ t s m f _
          ((rw e at c.relink.ensures) ts _ (link_below _ ts _ _ a link _ _ _ _ t s m f) (link_led _ ts _ _ a link _ _ _ _ t s m f _ lk)).1,
    )

pub loop-block-preserved : goal.loop-block-preserved
loop-block-preserved g c =
    let k = rw c.in-Some.is at c.in_ok-block.ensures.walked in (
      k.5 ∙ c.loop-block.invariant.0,
      λ ts link a lk.
          let s = c.loop-block.invariant.1 ts link a lk in
          let t = took (standing a c.loop-block.invariant.0 s.stop s.figures (threading_titles _ ts _ _ a link _ _ s _)) c.in-Some.is c.in_ok-block.ensures.passed c.in_ok-block.ensures.walked in
          threading_skip _ ts _ _ a link _ _ _ _ t s
          (elim c.else-is_marked.branch [
            | else-is_marked-via-then-is_marked+else-is_string v ↦ inr (v.is_string.ensures.no v.if-is_string.false)
            | else-is_marked-via-else-is_marked v ↦ inl (c.is_marked.ensures.no v.if-is_marked.false)
          ]),
    )

pub returns : goal.returns
returns g c ts link a lk =
    let s = c.loop-block.invariant.1 ts link a lk in
    (refl, rw (over (standing a c.loop-block.invariant.0 s.stop s.figures (threading_titles _ ts _ _ a link _ _ s _)) c.in_default.not-Some c.in_ok-block.ensures.passed) at s)
