-- Regeneration, in the words of the model.
use Rattle.std.specs.Prelude.{◌≡◌, ℕ, ◌<◌, ◌≤◌, List, length, Ok, Err, Result, slice_index_or}
use Rattle.arena.specs.declared.faults.HeapFault.{HeapFault}
use Rattle.cells.specs.declared.Descriptor.{Descriptor}
use Rattle.cells.specs.Meaning.{Memory, Sound}
use Rattle.rules.specs.Model.{Text, string, Model, register, Reach, Exactly}
use Rattle.rules.specs.Lists.{Keeps}
use Rattle.rules.specs.Arena.{null_desc, Arena, Codes, titles_of, Shows}
use Rattle.heap.specs.Marks.{Queue, Marked, Rooted}

-- r is no refusal, and P holds of its value.
abbrev pub Gives : {A : Type 0} → (A → Type 0) → Result A HeapFault → Type 0
Gives P (Ok x) = P x
Gives P (Err e) = ⊥

-- m0 shows the model, and the roots of it are queued and marked in o.
pub record Begun (m : Model) (a : Arena) (m0 : Memory) (rs : List Descriptor) (bins end : ℕ) (ws : List ℕ) (n : ℕ) (o : Memory) : Type 0 where
  pub sound : Sound m0
  pub shows : Shows m a m0
  pub bins_is : bins ≡ a.bins
  pub end_is : end ≡ a.«next»
  pub same_length : length rs ≡ length m.registers
  pub registers : (r : ℕ) → r < length m.registers → Codes m a m0 (register m r) (slice_index_or rs r null_desc)
  pub rooted : Rooted m0 (titles_of m a m0) rs ws n
  pub queue : Queue m0 (titles_of m a m0) ws n o

-- Marking is over: exactly what those roots reach is queued and marked in o.
pub record Traced (m : Model) (a : Arena) (m0 : Memory) (rs : List Descriptor) (bins end : ℕ) (ws : List ℕ) (o : Memory) : Type 0 where
  pub roots : List ℕ
  pub first : ℕ
  pub start : Memory
  pub begun : Begun m a m0 rs bins end roots first start
  pub tail : ℕ
  pub marked : Marked m0 (titles_of m a m0) roots first ws tail o

-- The memory o shows the model, the registers rs code its registers, and the list is long enough.
pub record Shown (m : Model) (a : Arena) (bins end : ℕ) (rs : List Descriptor) (ws : List ℕ) (o : Memory) : Type 0 where
  pub shows : Shows m a o
  pub bins_is : bins ≡ a.bins
  pub end_is : end ≡ a.«next»
  pub same_length : length rs ≡ length m.registers
  pub registers : (r : ℕ) → r < length m.registers → Codes m a o (register m r) (slice_index_or rs r null_desc)
  pub room : o.figures.cells ≤ length ws

-- The memory o was regenerated: f shows the same model, with exactly the reachable things in their old order and the
-- chains of the reachable strings in theirs, up to t, and the registers rs are coded for the new cells.
pub record Regenerated (m : Model) (a : Arena) (o : Memory) (bins t : ℕ) (rs : List Descriptor) (ws : List ℕ) (f : Memory) : Type 0 where
  pub after : Arena
  pub same_bins : after.bins ≡ a.bins
  pub order : Keeps (Reach m) a.order after.order
  pub exactly : Exactly m after.order
  pub chains : (b : ℕ) → b < a.bins → Keeps (λ (x : Text). Reach m (string x)) (a.chain b) (after.chain b)
  pub figures : f.figures ≡ o.figures
  pub shown : Shown m after bins t rs ws f
