-- What opening a workspace leaves.
use Rattle.std.specs.Prelude.{◌≡◌, ℕ, [], replicate, Bool, is_some}
use Rattle.rules.specs.Model.{empty}
use Rattle.rules.specs.Calls.{Answer, ok}
use Rattle.rules.specs.Opening.{opening}
use Rattle.rules.specs.Arena.{null_desc}
use Rattle.arena.specs.Opening.{empty_arena}
use Rattle.workspace.specs.State.{State}
use Rattle.workspace.specs.Shown.{View, Shown}

abbrev pub is_open : State → Bool
is_open s = is_some s

-- The answer is that of the rules. Figures and registers stay, and where all registers were null the workspace that could be
-- opened shows the empty model.
pub record Opens (v : View) (bins : ℕ) (x : Answer) (w : View) : Type 0 where
  pub answer : x ≡ opening (is_open v.state) v.memory.figures bins
  pub figures : w.memory.figures ≡ v.memory.figures
  pub registers : w.registers ≡ v.registers
  pub shown : x ≡ ok [] [] → v.registers ≡ replicate 32 null_desc → Shown empty (empty_arena bins) w
