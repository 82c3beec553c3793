-- Whether a workspace is open.
use Rattle.std.specs.Prelude.{ℕ, Option, Some, None}
use Rattle.arena.specs.declared.extent.Extent.{Extent}

-- A workspace is shut, or open with its bins and its first free cell.
abbrev pub State : Type 0
State = Option Extent

abbrev pub Shut : State
Shut = None

abbrev pub Opened : ℕ → ℕ → State
Opened bins next = Some (record { bins = bins; next = next })
