use Rattle.std.proofs.Common.{◌≡◌, ◌-◌, ◌≤◌}
use Rattle.scan.specs.Forms.{copies}
use Rattle.script.specs.Plans.{with_more, part, size}
use Rattle.script.proofs.plan.Plan.repeat.Given as goal

abbrev pub invariant-loop : goal.invariant-loop
invariant-loop l = record {
  holds : l.self ≡ with_more l.initial.self (copies (l.counter - 1) (part l.start (size l.initial.self) l.initial.self));
  within : l.counter - 1 ≤ l.count - 1;
}
