use Rattle.std.proofs.Common.{◌≡◌, ◌-◌, Ok, arith}
use Rattle.std.proofs.lemmas.Grind.{common_steps}
use Rattle.arena.proofs.Cells.{at_title, past_title}
use Rattle.arena.proofs.Readings.{by_field}
use Rattle.arena.proofs.titles.title_of.Goals as goal

pub loop-at-preserved : goal.loop-at-preserved
loop-at-preserved g c p k e h b =
    let low = c.loop-at.invariant p k e h b in
    let read = c.in_ok-descriptor.ensures.1 in
    let l = past_title _ p k c.loop-at.at c.in_ok-descriptor.field-0 b low (cc) c.if-branch-ne0.false in
    omega arith

pub returns-in_err-descriptor-clause-named : goal.returns-in_err-descriptor-clause-named
returns-in_err-descriptor-clause-named g c m a x k f = by_field m a _ x k _ f (λ p j. c.from_residual.result ≡ Ok (p, j)) (λ p j e h b. grind (arith, common_steps))

pub returns-then-branch-ne0-clause-back : goal.returns-then-branch-ne0-clause-back
returns-then-branch-ne0-clause-back g c p k e h b =
    let low = c.loop-at.invariant p k e h b in
    let read = c.in_ok-descriptor.ensures.1 in
    let q = at_title _ p k c.loop-at.at c.in_ok-descriptor.field-0 b low (omega arith) (cc) c.if-branch-ne0.true in
    let r : c.args.cell - c.loop-at.at ≡ k = omega arith in
    cc

pub returns-then-branch-ne0-clause-named : goal.returns-then-branch-ne0-clause-named
returns-then-branch-ne0-clause-named g c m a x k f = by_field m a _ x k _ f _ (returns-then-branch-ne0-clause-back g c)

pub returns-else-branch-ne0-clause-back : goal.returns-else-branch-ne0-clause-back
returns-else-branch-ne0-clause-back g c p k e h b =
    let low = c.loop-at.invariant p k e h b in
    let read = c.in_ok-descriptor.ensures.1 in
    let l = past_title _ p k c.loop-at.at c.in_ok-descriptor.field-0 b low (cc) c.if-branch-ne0.false in
    absurd (omega arith)

pub returns-else-branch-ne0-clause-named : goal.returns-else-branch-ne0-clause-named
returns-else-branch-ne0-clause-named g c m a x k f = by_field m a _ x k _ f _ (returns-else-branch-ne0-clause-back g c)
