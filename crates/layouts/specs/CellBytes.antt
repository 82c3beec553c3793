-- Cells in a row of bytes, so many bytes to a cell.
use Rattle.std.specs.Prelude.{◌≡◌, ℕ, ◌+◌, ◌*◌, ◌/◌, ◌%◌, ◌^◌, ◌<◌, ◌≤◌, min, ◌⊎◌, List, length, slice_index}

-- A byte of the memory. The numbers of a `Vec<u8>` are below 256; the remainder makes that so of any list.
abbrev pub byte : List ℕ → ℕ → ℕ
byte bs a = slice_index bs a % 2 ^ 8

-- The cells that lie whole in the memory, 65,535 at most.
abbrev pub whole_cells : ℕ → List ℕ → ℕ
whole_cells width bs = min (length bs / width) 65535

-- Of these bytes only those of cell i may have changed.
pub record OneCell (width : ℕ) (before : List ℕ) (i : ℕ) (after : List ℕ) : Type 0 where
  pub as_long : length after ≡ length before
  pub others : (a : ℕ) → (a < width * i) ⊎ (width * i + width ≤ a) → slice_index after a ≡ slice_index before a
