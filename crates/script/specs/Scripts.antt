-- What a script comes to, its limits included.
use Rattle.std.specs.Prelude.{◌≡◌, ℕ, ◌<◌, ◌≤◌, List, [], map, length}
use Rattle.scan.specs.declared.types.Step.{Step}
use Rattle.scan.specs.declared.types.ReaderFault.{ReaderFault}
use Rattle.scan.specs.declared.types.ReaderFault.TheVariants as fault
use Rattle.scan.specs.Words.{Said, said_of}
use Rattle.scan.specs.Forms.{bottom, start, Outcome, done, refused, Reads}

-- the reading of all lines, from the first
abbrev pub Whole : List ℕ → Outcome → Type 0
Whole script o = Reads (start (bottom [])) 1 1 script o

-- Too many bytes come before all, too many steps after all.
pub data Comes (script : List ℕ) : Outcome → Type 0 where
  too_many_bytes : 16384 < length script → Comes script (refused fault.TooLong)
  stopped : {f : ReaderFault} → length script ≤ 16384 → Whole script (refused f) → Comes script (refused f)
  too_many_steps : {ss : List Said} → length script ≤ 16384 → Whole script (done ss) → 4096 < length ss → Comes script (refused fault.TooLong)
  steps : {ss : List Said} → length script ≤ 16384 → Whole script (done ss) → length ss ≤ 4096 → Comes script (done ss)

-- every script comes to one outcome, and to no other
abbrev pub ExactlyOne : List ℕ → Type 0
ExactlyOne script = (o : Outcome) × Comes script o × ((p : Outcome) → Comes script p → p ≡ o)

-- what is answered for a script
abbrev pub Steps : List ℕ → List Step → Type 0
Steps script items = Comes script (done (map said_of items))

-- Want of memory says nothing of the script, but that it has not too many bytes.
abbrev pub Refusal : List ℕ → ReaderFault → Type 0
Refusal script (fault.NoToken at) = Comes script (refused (fault.NoToken at))
Refusal script (fault.Unfit at) = Comes script (refused (fault.Unfit at))
Refusal script fault.TooLong = Comes script (refused fault.TooLong)
Refusal script fault.Memory = length script ≤ 16384
