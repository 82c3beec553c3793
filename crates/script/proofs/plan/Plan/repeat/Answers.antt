use Rattle.std.proofs.Common.{◌≡◌, ℕ, suc, ◌+◌, ◌-◌, None, Option, List, sym, ap, ◌∙◌, arith}
use Rattle.scan.specs.Words.{Said}
use Rattle.scan.specs.Forms.{copies}
use Rattle.script.specs.Plans.{with_more, part, size}
use Rattle.script.proofs.Kept.{added, none_repeated, none_seen, over_stays, some_repeated}
use Rattle.script.proofs.plan.Plan.repeat.Goals as goal

pub loop-preserved : goal.loop-preserved
loop-preserved c =
    let h = c.args.self.now in
    let now' = c.loop.self in
    let from = c.args.start in
    let next : suc (c.loop.counter - 1) ≡ c.loop.counter + 1 - 1 = omega arith in
    record {
      holds = c.in_ok-add.ensures
          ∙ ap (λ (to : ℕ). with_more now' (part from to now')) c.len-end.ensures
          ∙ ap (λ (o : Option (List Said)). with_more o (part from (size h) o)) c.loop.invariant.holds
          ∙ added h from (some_repeated h from (omega (arith, c.len-end.ensures))) (c.loop.counter - 1)
          ∙ ap (λ (m : ℕ). with_more h (copies m (part from (size h) h))) next;
      within = omega arith;
    }

pub returns : goal.returns
returns c =
    let h = c.args.self.now in
    let all : c.loop.counter - 1 ≡ c.args.count - 1 = omega (arith, c.loop.invariant.within) in
    c.loop.invariant.holds ∙ ap (λ (m : ℕ). with_more h (copies m (part c.args.start (size h) h))) all

pub returns-then-start-end : goal.returns-then-start-end
returns-then-start-end c = none_repeated c.args.self.now c.args.start (c.args.count - 1) (omega (arith, c.len-end.ensures))

pub returns-then-is_none : goal.returns-then-is_none
returns-then-is_none c =
    let h = c.args.self.now in
    let once = part c.args.start (size h) h in
    let over : c.loop.self ≡ None = sym c.self-in-loop.view_is ∙ none_seen _ c.self-in-loop.inside.steps c.if-is_none.ensures in
    over ∙ sym (over_stays h once (c.loop.counter - 1) (sym c.loop.invariant.holds ∙ over) (c.args.count - 1) c.loop.invariant.within)
