-- The layout over bytes, eight to a cell.
use Rattle.std.specs.Prelude.{ℕ, ◌+◌, ◌-◌, ◌*◌, ◌^◌, cond, List, nat_lt}
use Rattle.std.specs.Int.{w32}
use Rattle.std.proofs.Common.{to_z}
use Rattle.cells.specs.declared.Descriptor.{Descriptor}
use Rattle.cells.specs.Meaning.{Figures, Memory}
use Rattle.layouts.specs.CellBytes.{byte, whole_cells}

-- The figures of a store of n cells.
abbrev pub figures : ℕ → Figures
figures n = record { cells = n; places = 8; largest = 2 ^ 24 - 1; lowest = 0; highest = 255 }

-- V in four bytes of two's complement, highest first, then F, then T in three, highest first.
abbrev pub bytes_descriptor : (ℕ → ℕ) → Descriptor
bytes_descriptor b =
    record { value = to_z w32 (b 0 * 2 ^ 24 + b 1 * 2 ^ 16 + b 2 * 2 ^ 8 + b 3); flags = b 4; kind = b 5 * 2 ^ 16 + b 6 * 2 ^ 8 + b 7 }

-- What these bytes mean: the bytes of cell k begin at 8 k, and place j is byte j.
abbrev pub shown : List ℕ → Memory
shown bs =
    record {
      figures = figures (whole_cells 8 bs);
      descriptor = λ k. bytes_descriptor (λ j. byte bs (8 * k + j));
      character = λ k j. cond (nat_lt j 8) (byte bs (8 * k + j)) 0;
    }
