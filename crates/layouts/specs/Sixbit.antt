-- The layout over 64-bit words, one to a cell, of which the lower 60 bits count.
use Rattle.std.specs.Prelude.{◌≡◌, ℕ, ◌+◌, ◌-◌, ◌*◌, ◌/◌, ◌%◌, ◌^◌, ◌<◌, min, cond, ◌≢◌, List, length, nat_lt, slice_index, slice_index_or}
use Rattle.std.specs.Int.{w32}
use Rattle.std.proofs.Common.{to_z}
use Rattle.cells.specs.declared.Descriptor.{Descriptor}
use Rattle.cells.specs.Meaning.{Figures, Memory}

-- The figures of a store of n cells.
abbrev pub figures : ℕ → Figures
figures n = record { cells = n; places = 10; largest = 2 ^ 20 - 1; lowest = 32; highest = 95 }

-- V is the lowest 32 bits, in two's complement, T the next 20, F the top eight of the 60.
abbrev pub word_descriptor : ℕ → Descriptor
word_descriptor w = record { value = to_z w32 (w % 2 ^ 32); flags = w / 2 ^ 52 % 2 ^ 8; kind = w / 2 ^ 32 % 2 ^ 20 }

-- Ten characters of six bits, place 0 highest, stored less 32.
abbrev pub word_character : ℕ → ℕ → ℕ
word_character w j = cond (nat_lt j 10) (32 + w / 2 ^ (54 - 6 * j) % 2 ^ 6) 0

-- What these words mean: cell k is word k, and there are 65,535 cells at most.
abbrev pub shown : List ℕ → Memory
shown ws =
    record {
      figures = figures (min (length ws) 65535);
      descriptor = λ k. word_descriptor (slice_index ws k);
      character = λ k j. word_character (slice_index ws k) j;
    }

-- A word with both views of another, and its upper four bits clear.
pub record SameCell (w v : ℕ) : Type 0 where
  pub descriptor : word_descriptor v ≡ word_descriptor w
  pub characters : (p : ℕ) → word_character v p ≡ word_character w p
  pub clear : v < 2 ^ 60

-- A word with the code x at place j, its other places those of another, and its upper four bits clear.
pub record OnePlace (w j x v : ℕ) : Type 0 where
  pub here : word_character v j ≡ x
  pub places : (p : ℕ) → p ≢ j → word_character v p ≡ word_character w p
  pub clear : v < 2 ^ 60

-- Of these words only word i may have changed, and its upper four bits are clear.
pub record OneWord (before : List ℕ) (i : ℕ) (after : List ℕ) : Type 0 where
  pub as_long : length after ≡ length before
  pub others : (k : ℕ) → k ≢ i → slice_index after k ≡ slice_index before k
  pub clear : slice_index_or after i 0 < 2 ^ 60
