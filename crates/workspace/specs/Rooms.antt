-- Room for some more cells in a workspace.
use Rattle.std.specs.Prelude.{◌≡◌, ℕ, ◌+◌, ◌-◌, ◌<◌, ◌≤◌, ◌⊎◌, List, length, Some, None, Ok, Err, Result}
use Rattle.rules.specs.Lists.{In, total}
use Rattle.rules.specs.Model.{Text, Thing, string, Value, Model, size, string_cells, Exactly}
use Rattle.rules.specs.Arena.{Arena}
use Rattle.rules.specs.Calls.{put}
use Rattle.arena.specs.Growth.{arena_with_text}
use Rattle.arena.specs.declared.faults.HeapFault.{HeapFault}
use Rattle.arena.specs.declared.faults.HeapFault.TheVariants.{Cells, NoField, BadMake, LongText, NoRoom, Unlawful}
use Rattle.workspace.specs.State.{State}
use Rattle.workspace.specs.State.{Shut, Opened}
use Rattle.workspace.specs.Shown.{View, Shown, Renewed, Roomed}

-- The bins, the reachable things and the need are within the cells, or exceed them.
abbrev pub Fits : Model → Arena → View → ℕ → Type 0
Fits m a v need = (things : List Thing) → Exactly m things → a.bins + total (size v.memory.figures.places m) things + need ≤ v.memory.figures.cells

abbrev pub Exceeds : Model → Arena → View → ℕ → Type 0
Exceeds m a v need = (things : List Thing) → Exactly m things → v.memory.figures.cells < a.bins + total (size v.memory.figures.places m) things + need

-- There is room: w shows the same model, in the arena as it was or regenerated, and `next` is its first free cell.
pub record HasRoom (m : Model) (a : Arena) (v : View) (need : ℕ) (w : View) (next : ℕ) : Type 0 where
  pub arena : Arena
  pub roomed : Roomed v.memory.figures m a need arena
  pub shown : Shown m arena w
  pub figures : w.memory.figures ≡ v.memory.figures
  pub next_is : next ≡ arena.«next»
  pub enough : arena.«next» + need ≤ v.memory.figures.cells
  pub fits : Fits m a v need

-- There is none: w shows the same model in the arena regenerated.
pub record LacksRoom (m : Model) (a : Arena) (v : View) (need : ℕ) (w : View) : Type 0 where
  pub arena : Arena
  pub renewed : Renewed m a arena
  pub shown : Shown m arena w
  pub figures : w.memory.figures ≡ v.memory.figures
  pub exceeds : Exceeds m a v need

-- What making room answers.
abbrev pub RoomOf : Model → Arena → View → ℕ → View → Result ℕ HeapFault → Type 0
RoomOf m a v need w (Ok next) = HasRoom m a v need w next
RoomOf m a v need w (Err NoRoom) = LacksRoom m a v need w
RoomOf m a v need w (Err (Cells s p)) = ⊥
RoomOf m a v need w (Err (NoField k)) = ⊥
RoomOf m a v need w (Err BadMake) = ⊥
RoomOf m a v need w (Err LongText) = ⊥
RoomOf m a v need w (Err (Unlawful n c)) = ⊥

-- A thing was added: w shows the model k in the arena that came of the old one, as it was or regenerated.
pub record Grew (m : Model) (a : Arena) (v : View) (need : ℕ) (k : Model) (with_it : Arena → Arena) (w : View) : Type 0 where
  pub arena : Arena
  pub roomed : Roomed v.memory.figures m a need arena
  pub shown : Shown k (with_it arena) w
  pub figures : w.memory.figures ≡ v.memory.figures
  pub fits : Fits m a v need

-- It was, or there is no room.
abbrev pub Grows : Model → Arena → View → ℕ → Model → (Arena → Arena) → View → Result (Unit {0}) HeapFault → Type 0
Grows m a v need k with_it w (Ok u) = Grew m a v need k with_it w
Grows m a v need k with_it w (Err x) = RoomOf m a v need w (Err x)

-- The string of a text is there, and register r points at it.
pub record Found (m : Model) (a : Arena) (v : View) (r : ℕ) (t : Text) (w : View) : Type 0 where
  pub there : In (string t) a.order
  pub shown : Shown (put m r (Value.text t)) a w
  pub figures : w.memory.figures ≡ v.memory.figures

-- Register r points at the string of a text: it is there, it was added, or there is no room.
abbrev pub Enters : Model → Arena → View → ℕ → Text → View → Result (Unit {0}) HeapFault → Type 0
Enters m a v r t w (Ok u) =
    Found m a v r t w ⊎ ((In (string t) a.order → ⊥) × Grew m a v (string_cells v.memory.figures.places (length t)) (put m r (Value.text t)) (λ b. arena_with_text v.memory.figures.places b t) w)
Enters m a v r t w (Err x) = (In (string t) a.order → ⊥) × RoomOf m a v (string_cells v.memory.figures.places (length t)) w (Err x)

-- The arena was regenerated: w shows the same model in it, and so many cells are free that the need is met.
pub record Regained (m : Model) (a : Arena) (v : View) (need : ℕ) (w : View) (free : ℕ) : Type 0 where
  pub arena : Arena
  pub renewed : Renewed m a arena
  pub shown : Shown m arena w
  pub figures : w.memory.figures ≡ v.memory.figures
  pub fits : Fits m a v need
  pub counted : (things : List Thing) → Exactly m things → free ≡ v.memory.figures.cells - (a.bins + total (size v.memory.figures.places m) things)

-- It was, or there is no room.
abbrev pub Regains : Model → Arena → View → ℕ → View → Result ℕ HeapFault → Type 0
Regains m a v need w (Ok free) = Regained m a v need w free
Regains m a v need w (Err x) = RoomOf m a v need w (Err x)

-- An open workspace whose first free cell is `next`.
abbrev pub ended : State → ℕ → State
ended None next = Shut
ended (Some old) next = Opened old.bins next
