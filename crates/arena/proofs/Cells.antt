-- Going back over cells to a title.
use Rattle.std.proofs.Common.{◌≡◌, ℕ, ◌+◌, ◌<◌, ◌≤◌, ◌≢◌, sym, arith}
use native.Mathlib.Decide.{ℕ_discrete}
use lib.Bits.{bit_and}
use Rattle.cells.specs.declared.Descriptor.{Descriptor}
use Rattle.cells.specs.Meaning.{Memory}
use Rattle.arena.specs.Titles.{Back}

-- Where the flag is set it is the title, and where it is not the title lies lower.
pub at_title : (m : Memory) (p k at : ℕ) (d : Descriptor) → Back m p k → p ≤ at → at ≤ p + k → d ≡ m.descriptor at → bit_and d.flags 2 ≢ 0 → at ≡ p
at_title m p k at d b low high read set =
    elim (ℕ_discrete p at) [ yes e ↦ sym e | no n ↦ absurd (set (rw read (b.passed at (omega arith) high))) ]

pub past_title : (m : Memory) (p k at : ℕ) (d : Descriptor) → Back m p k → p ≤ at → d ≡ m.descriptor at → bit_and d.flags 2 ≡ 0 → p < at
past_title m p k at d b low read clear =
    elim (ℕ_discrete p at) [ yes e ↦ absurd (b.title (rw e (rw read at clear))) | no n ↦ omega arith ]
