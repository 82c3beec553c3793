-- The walk over the strings.
use Rattle.std.proofs.Common.{◌≡◌, ℕ, List, refl, ap, arith}
use native.Mathlib.Decide.{dec_lt, ℕ_discrete}
use Rattle.cells.specs.declared.Descriptor.{Descriptor}
use Rattle.cells.specs.Meaning.{Memory}
use Rattle.rules.specs.Lists.{In}
use Rattle.heap.specs.declared.blocks.Block.{Block}
use Rattle.heap.specs.declared.blocks.Blocks.{Blocks}
use Rattle.heap.specs.Marks.{still, marked, Holding}
use Rattle.heap.specs.Walks.{length_at, Tiled, Searched}
use Rattle.heap.specs.Blocks.{Standing}
use Rattle.heap.proofs.Queues.{flags_of}
use Rattle.heap.proofs.Scans.{in_grown, grew_twice}
use Rattle.heap.proofs.Paths.{lower, next_stop}
use Rattle.heap.proofs.Took.{Took}

module _ (m : Memory) (ts : List ℕ) (bins end : ℕ) (a : Tiled m ts bins end) (ws : List ℕ) (n : ℕ) where
  module _ (w : Blocks) (ws' : List ℕ) (n' : ℕ) (o : Memory) (s : Searched m ts end w.at ws n ws' n' o) where
    -- A mark changes neither the kind nor the length of a title.
    pub standing_marked : w.end ≡ end → Standing m ts bins end w o
    standing_marked e =
        record { tiled = a; same_end = e; stop = s.stop; figures = s.queue.figures; kind = kind; length = length }
      where
        kind : In w.at ts → (o.descriptor w.at).kind ≡ (m.descriptor w.at).kind
        kind h = elim (s.queue.states w.at) [ still ne x ch ↦ ap (λ (y : Descriptor). y.kind) x | marked i x ↦ ap (λ (y : Descriptor). y.kind) x ]

        length : In w.at ts → length_at o w.at ≡ length_at m w.at
        length h = elim (s.queue.states w.at) [
          | still ne x ch ↦ rw (x, s.queue.figures) refl
          | marked i x ↦ rw (x, s.queue.figures, (flags_of _ (s.queue.ground.titled w.at h).flag).alike) refl
        ]

    pub searched_more : (w' : Blocks) (b : Block) → Took m ts w b o w' → (ws'' : List ℕ) (n'' : ℕ) (o'' : Memory) → Holding m b.at ws' n' ts ws'' n'' o'' → Searched m ts end w'.at ws n ws'' n'' o''
    searched_more w' b t ws'' n'' o'' h' =
        let v = rw t.at at h' in
        record {
          stop = next_stop m ts bins end a w w' b o t;
          queue = v.queue;
          grew = grew_twice ws ws' ws'' n n' n'' s.grew v.grew;
          here = λ q j h x f y nn. elim (ℕ_discrete q w.at) [
            | yes z ↦ rw z (v.here j (rw (← z) f) y (rw (← z) nn))
            | no z ↦ in_grown ws' ws'' n' n'' q v.grew (s.here q j h (lower m ts bins end a w w' b o t q h x z) f y nn)
          ];
          new = λ i x y. elim (dec_lt i n') [
            | yes z ↦ rw (v.grew.kept i z) (s.new i x z)
            | no z ↦ (let u = v.new i (omega arith) y in rw u.0 (t.here, u.1, u.2))
          ];
        }
