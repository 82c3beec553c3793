-- Room for some more cells.
use Rattle.std.specs.Prelude.{◌≡◌, ℕ, ◌+◌, ◌<◌, ◌≤◌, ◌⊎◌, List, Ok, Err, Result}
use Rattle.cells.specs.declared.Descriptor.{Descriptor}
use Rattle.cells.specs.Meaning.{Memory}
use Rattle.rules.specs.Lists.{total}
use Rattle.rules.specs.Model.{Thing, Model, size, Exactly}
use Rattle.rules.specs.Arena.{Arena}
use Rattle.arena.specs.declared.faults.HeapFault.{HeapFault}
use Rattle.arena.specs.declared.faults.HeapFault.TheVariants.{Cells, NoField, BadMake, LongText, NoRoom, Unlawful}
use Rattle.heap.specs.Regeneration.{Regenerated}

-- The cells from `next` on are enough, and nothing was done.
pub record Left (o : Memory) (next need : ℕ) (rs : List Descriptor) (next' : ℕ) (rs' : List Descriptor) (f : Memory) : Type 0 where
  pub enough : next + need ≤ o.figures.cells
  pub same_next : next' ≡ next
  pub same_registers : rs' ≡ rs
  pub same_memory : f ≡ o

-- They were too few, and the arena was regenerated.
pub record Remade (m : Model) (a : Arena) (o : Memory) (bins next need next' : ℕ) (rs' : List Descriptor) (ws' : List ℕ) (f : Memory) : Type 0 where
  pub short : o.figures.cells < next + need
  pub regenerated : Regenerated m a o bins next' rs' ws' f

-- What making room answers: the arena is regenerated exactly if the cells from `next` on are too few, and there is no
-- room exactly if they still are.
abbrev pub MakesRoom : Model → Arena → Memory → ℕ → ℕ → ℕ → List Descriptor → ℕ → List Descriptor → List ℕ → Memory → Result (Unit {0}) HeapFault → Type 0
MakesRoom m a o bins next need rs next' rs' ws' f (Ok u) =
    Left o next need rs next' rs' f ⊎ (Remade m a o bins next need next' rs' ws' f × (next' + need ≤ o.figures.cells))
MakesRoom m a o bins next need rs next' rs' ws' f (Err NoRoom) = Remade m a o bins next need next' rs' ws' f × (o.figures.cells < next' + need)
MakesRoom m a o bins next need rs next' rs' ws' f (Err (Cells s p)) = ⊥
MakesRoom m a o bins next need rs next' rs' ws' f (Err (NoField k)) = ⊥
MakesRoom m a o bins next need rs next' rs' ws' f (Err BadMake) = ⊥
MakesRoom m a o bins next need rs next' rs' ws' f (Err LongText) = ⊥
MakesRoom m a o bins next need rs next' rs' ws' f (Err (Unlawful n c)) = ⊥

-- There is no room exactly if the bins, the cells of all reachable things and the need exceed the cells.
abbrev pub FullExactly : Model → Memory → ℕ → ℕ → Result (Unit {0}) HeapFault → Type 0
FullExactly m o bins need r = (things : List Thing) → Exactly m things →
    (r ≡ Err NoRoom → o.figures.cells < bins + total (size o.figures.places m) things + need) ×
    (o.figures.cells < bins + total (size o.figures.places m) things + need → r ≡ Err NoRoom)
