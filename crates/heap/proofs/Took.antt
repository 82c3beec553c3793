-- A step of the walk over the blocks, at the values that the code has.
use Rattle.std.proofs.Common.{◌≡◌, ℕ, ◌+◌, ◌<◌, ◌⊎◌, List, Some, None, Option, Ok, refl, ap, ◌∙◌}
use Rattle.cells.specs.declared.Descriptor.{Descriptor}
use Rattle.cells.specs.Meaning.{Memory}
use Rattle.rules.specs.Lists.{In}
use Rattle.heap.specs.declared.blocks.Block.{Block}
use Rattle.heap.specs.declared.blocks.Blocks.{Blocks}
use Rattle.heap.specs.Walks.{length_at, Tiled}
use Rattle.heap.specs.Blocks.{Walked, Standing, Passed}

-- The walk was at w, gave the block b of the memory r, and is at w'.
pub record Took (o : Memory) (ts : List ℕ) (w : Blocks) (b : Block) (r : Memory) (w' : Blocks) : Type 0 where
  pub here : In w.at ts
  pub inside : w.at < w.end
  pub at : b.at ≡ w.at
  pub title : b.title ≡ r.descriptor w.at
  pub cells : b.cells ≡ length_at o w.at
  pub onward : w'.at ≡ w.at + length_at o w.at

-- The titles are in r as they are in o.
pub standing : {o r : Memory} {ts : List ℕ} {bins end : ℕ} {w : Blocks} → Tiled o ts bins end → w.end ≡ end → In w.at ts ⊎ (w.at ≡ end) →
    r.figures ≡ o.figures → (In w.at ts → r.descriptor w.at ≡ o.descriptor w.at) → Standing o ts bins end w r
standing a e s f d =
    record { tiled = a; same_end = e; stop = s; figures = f; kind = λ h. ap (λ (x : Descriptor). x.kind) (d h); length = λ h. rw (d h, f) refl }

-- The step gives a block,
pub took : {o r : Memory} {ts : List ℕ} {bins end : ℕ} {w w' : Blocks} {x : Option Block} {b : Block} → Standing o ts bins end w r → x ≡ Some b →
    ((o : Memory) (ts : List ℕ) (bins end : ℕ) → Standing o ts bins end w r → Passed o ts end w (Ok x)) → Walked r w (Ok x) w' → Took o ts w b r w'
took {o} {r} {ts} {bins} {end} {w} {w'} {x} {b} s e p k = by x e (p o ts bins end s) k
  where
    by : (x : Option Block) → x ≡ Some b → Passed o ts end w (Ok x) → Walked r w (Ok x) w' → Took o ts w b r w'
    by None e p k = absurd (cc)
    by (Some y) e p k =
        let i : y ≡ b = cc in
        record { here = p.0; inside = k.0; at = rw i at k.1; title = rw i at k.2; cells = rw i at p.1; onward = k.4 ∙ ap (λ c. w.at + c) p.1 }

-- or the walk is over.
pub over : {o r : Memory} {ts : List ℕ} {bins end : ℕ} {w : Blocks} {x : Option Block} → Standing o ts bins end w r → ((b : Block) → x ≡ Some b → ⊥) →
    ((o : Memory) (ts : List ℕ) (bins end : ℕ) → Standing o ts bins end w r → Passed o ts end w (Ok x)) → w.at ≡ end
over {o} {r} {ts} {bins} {end} {w} {x} s n p = by x n (p o ts bins end s)
  where
    by : (x : Option Block) → ((b : Block) → x ≡ Some b → ⊥) → Passed o ts end w (Ok x) → w.at ≡ end
    by None n p = p
    by (Some y) n p = absurd (n y refl)
