-- A step of the walk over the blocks.
use Rattle.std.specs.Prelude.{◌≡◌, ℕ, ◌+◌, ◌<◌, ◌≤◌, ◌⊎◌, List, Some, None, Option, Ok, Err, Result}
use Rattle.cells.specs.Meaning.{Memory}
use Rattle.rules.specs.Lists.{In}
use Rattle.arena.specs.declared.faults.HeapFault.{HeapFault}
use Rattle.heap.specs.declared.blocks.Block.{Block}
use Rattle.heap.specs.declared.blocks.Blocks.{Blocks}
use Rattle.heap.specs.Walks.{length_at, Tiled}

-- What a step does in every memory r: it gives the block at which the walk w stands, and w' stands behind it.
abbrev pub Walked : Memory → Blocks → Result (Option Block) HeapFault → Blocks → Type 0
Walked r w (Ok (Some b)) w' = (w.at < w.end) × (b.at ≡ w.at) × (b.title ≡ r.descriptor w.at) × (1 ≤ b.cells) × (w'.at ≡ w.at + b.cells) × (w'.end ≡ w.end)
Walked r w (Ok None) w' = w.end ≤ w.at
Walked r w (Err e) w' = w'.end ≡ w.end

-- Blocks with the titles ts follow one another in o from bins up to end, where the walk w ends too. It stands at one of the
-- titles, or at the end, and in r that title has the block that it has in o.
pub record Standing (o : Memory) (ts : List ℕ) (bins end : ℕ) (w : Blocks) (r : Memory) : Type 0 where
  pub tiled : Tiled o ts bins end
  pub same_end : w.end ≡ end
  pub stop : In w.at ts ⊎ (w.at ≡ end)
  pub figures : r.figures ≡ o.figures
  pub kind : In w.at ts → (r.descriptor w.at).kind ≡ (o.descriptor w.at).kind
  pub length : In w.at ts → length_at r w.at ≡ length_at o w.at

-- What a step gives then: there is no refusal, the block is that of one of the titles, and the walk is over exactly at the end.
abbrev pub Passed : Memory → List ℕ → ℕ → Blocks → Result (Option Block) HeapFault → Type 0
Passed o ts end w (Ok (Some b)) = In w.at ts × (b.cells ≡ length_at o w.at)
Passed o ts end w (Ok None) = w.at ≡ end
Passed o ts end w (Err e) = ⊥
