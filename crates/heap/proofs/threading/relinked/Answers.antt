use Rattle.std.proofs.Common.{◌≡◌, ℕ, ◌+◌, ◌-◌, ◌<◌, List, Ok, sym, ap, ◌∙◌, arith}
use Rattle.cells.specs.declared.Descriptor.{Descriptor}
use Rattle.cells.proofs.Acts.{descriptor_read}
use Rattle.arena.proofs.Follows.{not_failed, at_end, at_next}
use Rattle.heap.specs.Threads.{Led, link_cell}
use Rattle.heap.proofs.Outcomes.{ok_same, ok_not_err}
use Rattle.heap.proofs.Chains.{Onward, ways, way_kept, way_bare}
use Rattle.heap.proofs.threading.relinked.Goals as goal
use Rattle.heap.proofs.threading.relinked.Goals.{In-Some}

pub returns-in_err-at : goal.returns-in_err-at
returns-in_err-at g c ts d' w =
    not_failed c.loop.link c.follow.result c.follow.ensures.last c.follow.ensures.more (ways _ ts _ _ d' _ _ (c.loop.invariant ts d' w)) c.in_err-at.was

pub returns-in_default : goal.returns-in_default
returns-in_default g c ts d' w =
    ap Ok (c.last_link.ensures ∙ at_end c.loop.link c.follow.result c.follow.ensures.last c.follow.ensures.more (ways _ ts _ _ d' _ _ (c.loop.invariant ts d' w))
    (c.in_ok-at.was ∙ ap Ok c.in_default.is))

next : (g : _) (c : In-Some g) (ts : List ℕ) (d' : Descriptor) → Led (g.S.Store.memory c.args.store.now) ts c.args.work.now c.args.d d' →
    (link_cell c.in-Some.at < (g.S.Store.memory c.args.store.now).figures.cells) ×
    Onward (g.S.Store.memory c.args.store.now) ts c.args.work.now c.args.d.kind d' (c.cells-end.result - c.loop.counter) c.in-Some.at
next g c ts d' w =
    at_next c.loop.link c.follow.result c.follow.ensures.last c.follow.ensures.more c.in-Some.at (ways _ ts _ _ d' _ _ (c.loop.invariant ts d' w))
    (c.in_ok-at.was ∙ ap Ok c.in-Some.is)

pub returns-in_err-t : goal.returns-in_err-t
returns-in_err-t g c ts d' w =
    let l = (next g (goal.at.returns-in_err-t g c).In-Some ts d' w).0 in
    ok_not_err (descriptor_read (g.S.Store.memory c.args.store.now) _ c.descriptor.result c.descriptor.ensures (omega arith)) c.in_err-t.was

pub returns-in_err-new_cell : goal.returns-in_err-new_cell
returns-in_err-new_cell g c ts d' w =
    let k = way_kept _ ts _ _ d' _ _ _ c.in_ok-t.ensures.1 (c.is_marked.ensures.yes c.if-is_marked.true) (next g (goal.at.returns-in_err-new_cell g c).In-Some ts d' w).1 in
    ok_not_err (c.new_cell.ensures k.0) c.in_err-new_cell.was

pub returns-then-is_marked : goal.returns-then-is_marked
returns-then-is_marked g c ts d' w =
    let k = way_kept _ ts _ _ d' _ _ _ c.in_ok-t.ensures.1 (c.is_marked.ensures.yes c.if-is_marked.true) (next g (goal.at.returns-then-is_marked g c).In-Some ts d' w).1 in
    let n = ok_same _ _ (c.in_ok-new_cell.ensures k.0) in
    c.pointer_at.ensures (rw n k.1) ∙ ap Ok (rw n (sym k.2))

pub returns-in_err-link : goal.returns-in_err-link
returns-in_err-link g c ts d' w =
    let l = (next g (goal.at.returns-in_err-link g c).In-Some ts d' w).0 in
    ok_not_err (descriptor_read (g.S.Store.memory c.args.store.now) _ c.descriptor-in-loop.result c.descriptor-in-loop.ensures (omega arith)) c.in_err-link.was

pub loop-preserved : goal.loop-preserved
loop-preserved g c ts d' w =
    let b = way_bare _ ts _ _ d' _ _ _ c.in_ok-t.ensures.1 (c.is_marked.ensures.no c.if-is_marked.false) (next g (goal.at.loop-preserved g c).In-Some ts d' w).1 in
    let e : c.in-Some.at + 3 ≡ link_cell c.in-Some.at = omega arith in
    rw c.in_ok-link.ensures.1 (rw e (b.1 _ (omega arith)))

pub returns-in_ok-link : goal.returns-in_ok-link
returns-in_ok-link g c ts d' w =
    let b = way_bare _ ts _ _ d' _ _ _ c.in_ok-t.ensures.1 (c.is_marked.ensures.no c.if-is_marked.false) (next g (goal.at.returns-in_ok-link g c).In-Some ts d' w).1 in
    let z = b.0 in absurd (omega arith)
