use Rattle.std.proofs.Common.{ℕ, ◌<◌, ◌≤◌, get_or}
use Rattle.workspace.proofs.space.Workspace.admit.Given as goal

abbrev pub invariant-loop-r : goal.invariant-loop-r
invariant-loop-r g l = (j : ℕ) → j < l.r-index → get_or l.registers j 0 ≤ 31
