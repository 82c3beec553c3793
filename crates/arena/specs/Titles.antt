-- What a title says of its block, and how to find the title of a cell.
use Rattle.std.specs.Prelude.{◌≡◌, ℕ, ◌+◌, ◌<◌, ◌≤◌, cond, ◌≢◌, pos, ◌==◌, bit_and, bit_or}
use Rattle.cells.specs.declared.Descriptor.{Descriptor}
use Rattle.cells.specs.Meaning.{Memory}
use Rattle.rules.specs.Model.{string_fields, string_cells}
use Rattle.rules.specs.Arena.{desc}

-- Cell p has the title flag, and the k cells after it have not.
pub record Back (m : Memory) (p k : ℕ) : Type 0 where
  pub title : bit_and (m.descriptor p).flags 2 ≢ 0
  pub passed : (j : ℕ) → p < j → j ≤ p + k → bit_and (m.descriptor j).flags 2 ≡ 0

-- How many fields the block with the title d has.
abbrev pub count : Descriptor → ℕ
count d = cond (bit_and d.flags 4 == 0) d.kind string_fields

-- The cells of the block with the title d, with c characters to a cell.
abbrev pub cells_of : ℕ → Descriptor → ℕ
cells_of c d = cond (bit_and d.flags 4 == 0) (d.kind + 1) (string_cells c d.kind)

-- A title with the mark.
abbrev pub with_mark : Descriptor → Descriptor
with_mark d = record { value = d.value; flags = bit_or d.flags 8; kind = d.kind }

-- A title in its new cell, without the mark.
abbrev pub retitled : Descriptor → ℕ → Descriptor
retitled d t = desc (pos t) (bit_and d.flags 6) d.kind
