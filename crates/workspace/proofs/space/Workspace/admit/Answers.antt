use Rattle.std.proofs.Common.{ℕ, ◌≤◌, not, inr, ap, ◌∙◌, arith, rules}
use Rattle.workspace.proofs.Admission.{open_state, all_below}
use Rattle.workspace.proofs.space.Workspace.admit.Goals as goal

pub returns : goal.returns
returns g c = (
  open_state c.args.self.now.state (c.is_none.ensures ∙ ap not c.if-is_none.false),
  all_below (λ (r : ℕ). r ≤ 31) c.args.registers.now (λ j l. c.loop-r.invariant j (omega arith)),
)

pub returns-then-r : goal.returns-then-r
returns-then-r g c =
    inr (open_state c.args.self.now.state (c.is_none.ensures ∙ ap not c.if-is_none.false), search rules)
