-- Pointers move by as much as their blocks. `ws` has, at a title's cell, its new cell.
use Rattle.std.specs.Prelude.{◌≡◌, ℕ, ◌+◌, ◌<◌, ◌≤◌, ◌⊎◌, List, length, pos, slice_index, slice_index_or}
use Rattle.cells.specs.declared.Descriptor.{Descriptor}
use Rattle.cells.specs.Meaning.{Memory}
use Rattle.rules.specs.Lists.{In}
use Rattle.rules.specs.Arena.{desc, null_desc}
use Rattle.heap.specs.Marks.{IsMarked}
use Rattle.arena.specs.Titles.{Back, count}
use Rattle.heap.specs.Walks.{length_at}

-- d is a pointer that hits the title q at the distance k, and the table has the title's new cell.
pub record Hits (m : Memory) (ws : List ℕ) (d : Descriptor) (q k : ℕ) : Type 0 where
  pub flag : d.flags ≡ 16
  pub value : d.value ≡ pos (q + k)
  pub within : q + k < m.figures.cells
  pub back : Back m q k
  pub listed : q < length ws
  pub small : slice_index ws q + k ≤ 65535

-- A descriptor that can be moved.
pub data Ready (m : Memory) (ws : List ℕ) (d : Descriptor) : Type 0 where
  value : d.flags ≡ 0 → Ready m ws d
  pointer : (q k : ℕ) → Hits m ws d q k → Ready m ws d

-- A descriptor d and what moving makes of it.
pub data Goes (m : Memory) (ws : List ℕ) (d d' : Descriptor) : Type 0 where
  value_goes : d.flags ≡ 0 → d' ≡ d → Goes m ws d d'
  pointer_goes : (q k : ℕ) → Hits m ws d q k → d' ≡ desc (pos (slice_index ws q + k)) 16 d.kind → Goes m ws d d'

-- The first k cells after p have their new descriptors.
pub record Relocating (m : Memory) (ws : List ℕ) (p k : ℕ) (r : Memory) : Type 0 where
  pub figures : r.figures ≡ m.figures
  pub flags : (c : ℕ) → (r.descriptor c).flags ≡ (m.descriptor c).flags
  pub done : (j : ℕ) → j < k → Goes m ws (m.descriptor (p + 1 + j)) (r.descriptor (p + 1 + j))
  pub rest : (c : ℕ) → (c ≤ p) ⊎ (p + 1 + k ≤ c) → r.descriptor c ≡ m.descriptor c
  pub rest_characters : (c j : ℕ) → (c ≤ p) ⊎ (p + 1 + k ≤ c) → r.character c j ≡ m.character c j

-- The walk stands at p: the marked blocks below p have their new values.
pub record Relocated (o : Memory) (ts ws : List ℕ) (bins end p : ℕ) (r : Memory) : Type 0 where
  pub stop : In p ts ⊎ (p ≡ end)
  pub figures : r.figures ≡ o.figures
  pub flags : (c : ℕ) → (r.descriptor c).flags ≡ (o.descriptor c).flags
  pub done : (q k : ℕ) → In q ts → q < p → IsMarked o q → k < count (o.descriptor q) → Goes o ws (o.descriptor (q + 1 + k)) (r.descriptor (q + 1 + k))
  pub titles : (q : ℕ) → In q ts → r.descriptor q ≡ o.descriptor q
  pub rest : (c : ℕ) → (c < bins) ⊎ (p ≤ c) → r.descriptor c ≡ o.descriptor c
  pub links : (q k : ℕ) → In q ts → count (o.descriptor q) < k → k < length_at o q → r.descriptor (q + k) ≡ o.descriptor (q + k)
  pub tails : (q k j : ℕ) → In q ts → count (o.descriptor q) < k → k < length_at o q → r.character (q + k) j ≡ o.character (q + k) j

-- Everything that a marked block holds can be moved.
pub record Prepared (o : Memory) (ts ws : List ℕ) : Type 0 where
  pub ready : (q k : ℕ) → In q ts → IsMarked o q → k < count (o.descriptor q) → Ready o ws (o.descriptor (q + 1 + k))

-- The first k registers have their new values.
pub record Shifting (o : Memory) (ws : List ℕ) (rs : List Descriptor) (k : ℕ) (rs' : List Descriptor) : Type 0 where
  pub same_length : length rs' ≡ length rs
  pub done : (i : ℕ) → i < k → Goes o ws (slice_index_or rs i null_desc) (slice_index_or rs' i null_desc)
  pub rest : (i : ℕ) → k ≤ i → slice_index_or rs' i null_desc ≡ slice_index_or rs i null_desc
