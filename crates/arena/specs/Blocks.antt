-- Making a block, cell by cell.
use Rattle.std.specs.Prelude.{◌≡◌, ℕ, ◌+◌, ◌<◌, ◌≤◌, cond, ◌&&◌, ◌⊎◌, pos, Ok, Err, Result, nat_le}
use Rattle.cells.specs.declared.Descriptor.{Descriptor}
use Rattle.cells.specs.Meaning.{Memory}
use Rattle.rules.specs.Arena.{desc, null_desc}
use Rattle.arena.specs.declared.faults.HeapFault.{HeapFault}
use Rattle.arena.specs.declared.faults.HeapFault.TheVariants.{BadMake}

-- A block has 1 to 4,096 fields and a type of 16 to 255.
abbrev pub fit_make : ℕ → ℕ → Result (Unit {0}) HeapFault
fit_make n t = cond (nat_le 1 n && nat_le n 4096 && nat_le 16 t && nat_le t 255) (Ok tt) (Err BadMake)

-- The k cells from p on have the descriptor d, and no other cell has changed.
pub record Filled (o : Memory) (p k : ℕ) (d : Descriptor) (r : Memory) : Type 0 where
  pub figures : r.figures ≡ o.figures
  pub done : (j : ℕ) → j < k → r.descriptor (p + j) ≡ d
  pub descriptors : (c : ℕ) → (c < p) ⊎ (p + k ≤ c) → r.descriptor c ≡ o.descriptor c
  pub characters : (c j : ℕ) → (c < p) ⊎ (p + k ≤ c) → r.character c j ≡ o.character c j

-- Cell p has the title d, the n cells behind it are null, and no other cell has changed.
pub record Headed (o : Memory) (p : ℕ) (d : Descriptor) (n : ℕ) (r : Memory) : Type 0 where
  pub figures : r.figures ≡ o.figures
  pub title : r.descriptor p ≡ d
  pub fields : (j : ℕ) → 1 ≤ j → j ≤ n → r.descriptor (p + j) ≡ null_desc
  pub descriptors : (c : ℕ) → (c < p) ⊎ (p + n + 1 ≤ c) → r.descriptor c ≡ o.descriptor c
  pub characters : (c j : ℕ) → (c < p) ⊎ (p + n + 1 ≤ c) → r.character c j ≡ o.character c j

-- A block of n null fields stands from p on, and no other cell has changed.
abbrev pub Made : Memory → ℕ → ℕ → Memory → Type 0
Made o p n r = Headed o p (desc (pos p) 2 n) n r
