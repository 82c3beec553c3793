-- An arena with no thing in it.
use Rattle.std.specs.Prelude.{ℕ, [], pos}
use Rattle.cells.specs.declared.Descriptor.{Descriptor}
use Rattle.rules.specs.Arena.{desc, Arena}

-- A head of a chain with no text, all zero.
abbrev pub no_head : Descriptor
no_head = desc (pos 0) 0 0

abbrev pub empty_arena : ℕ → Arena
empty_arena bins = record { bins = bins; «next» = bins; order = []; chain = λ b. [] }
