-- Walks over the blocks, from the bins up to the first free cell.
use Rattle.std.specs.Prelude.{◌≡◌, ℕ, ◌+◌, ◌<◌, ◌≤◌, ◌≢◌, ◌⊎◌, List, pos, bit_and, slice_index}
use Rattle.cells.specs.declared.Descriptor.{Descriptor}
use Rattle.cells.specs.Meaning.{Memory, WroteDescriptor}
use Rattle.rules.specs.Model.{string_fields}
use Rattle.rules.specs.Lists.{In}
use Rattle.rules.specs.Arena.{desc, null_desc}
use Rattle.arena.specs.Titles.{count, cells_of, retitled}
use Rattle.heap.specs.Marks.{IsMarked, IsBare, Aims, Queued, Queue, Grew}

-- The cells of the block at p.
abbrev pub length_at : Memory → ℕ → ℕ
length_at o p = cells_of o.figures.places (o.descriptor p)

-- Blocks with the titles ts follow one another from bins up to `end`.
pub record Tiled (o : Memory) (ts : List ℕ) (bins end : ℕ) : Type 0 where
  pub start : In bins ts ⊎ (bins ≡ end)
  pub step : (p : ℕ) → In p ts → In (p + length_at o p) ts ⊎ (p + length_at o p ≡ end)
  pub gap : (p q : ℕ) → In p ts → In q ts → p < q → p + length_at o p ≤ q
  pub low : (p : ℕ) → In p ts → bins ≤ p
  pub high : (p : ℕ) → In p ts → p + length_at o p ≤ end
  pub some : (p : ℕ) → In p ts → 1 ≤ (o.descriptor p).kind
  pub few : (p : ℕ) → In p ts → (o.descriptor p).kind ≤ 65535
  pub within : end ≤ o.figures.cells
  pub places : 1 ≤ o.figures.places

-- Where the walk stands at p, the next marked block goes to t.
pub data To (o : Memory) (ts : List ℕ) (bins : ℕ) : ℕ → ℕ → Type 0 where
  begin : {q t : ℕ} → q ≡ bins → t ≡ bins → To o ts bins q t
  keep : {q u : ℕ} (p t : ℕ) → To o ts bins p t → In p ts → IsMarked o p → q ≡ p + length_at o p → u ≡ t + length_at o p → To o ts bins q u
  skip : {q t : ℕ} (p : ℕ) → To o ts bins p t → In p ts → IsBare o p → q ≡ p + length_at o p → To o ts bins q t

-- The walk stands at p: titles below p that are marked have their new cells in the table ws.
pub record Tabled (o : Memory) (ts : List ℕ) (bins end p t : ℕ) (ws : List ℕ) : Type 0 where
  pub stop : In p ts ⊎ (p ≡ end)
  pub goes : To o ts bins p t
  pub table : (q : ℕ) → In q ts → q < p → IsMarked o q → To o ts bins q (slice_index ws q)

-- `size` cells have moved down, from `from` to `to`; cells outside of the target are as they were.
pub record Slid (m : Memory) (from to size : ℕ) (n : Memory) : Type 0 where
  pub figures : n.figures ≡ m.figures
  pub descriptor : (k : ℕ) → k < size → n.descriptor (to + k) ≡ m.descriptor (from + k)
  pub character : (k j : ℕ) → k < size → n.character (to + k) j ≡ m.character (from + k) j
  pub descriptors : (c : ℕ) → (c < to) ⊎ (to + size ≤ c) → n.descriptor c ≡ m.descriptor c
  pub characters : (c j : ℕ) → (c < to) ⊎ (to + size ≤ c) → n.character c j ≡ m.character c j

-- One block has moved down, from p to t, and has its new title.
pub record Brought (f : Memory) (d : Descriptor) (p t n : ℕ) (f' : Memory) : Type 0 where
  pub between : Memory
  pub slid : Slid f p t n between
  pub wrote : WroteDescriptor between t (retitled d t) f'

-- The walk stands at p: marked blocks below p have moved down, and the cells from p on are as they were.
pub record Packed (o : Memory) (ts : List ℕ) (bins p : ℕ) (f : Memory) : Type 0 where
  pub figures : f.figures ≡ o.figures
  pub titles : (q t : ℕ) → In q ts → q < p → IsMarked o q → To o ts bins q t → f.descriptor t ≡ retitled (o.descriptor q) t
  pub descriptors : (q t k : ℕ) → In q ts → q < p → IsMarked o q → To o ts bins q t → 1 ≤ k → k < length_at o q → f.descriptor (t + k) ≡ o.descriptor (q + k)
  pub characters : (q t k j : ℕ) → In q ts → q < p → IsMarked o q → To o ts bins q t → 1 ≤ k → k < length_at o q → f.character (t + k) j ≡ o.character (q + k) j
  pub rest : (c : ℕ) → (c < bins) ⊎ (p ≤ c) → f.descriptor c ≡ o.descriptor c
  pub rest_characters : (c j : ℕ) → (c < bins) ⊎ (p ≤ c) → f.character c j ≡ o.character c j

-- The same, and where the walk stops.
pub record Moving (o : Memory) (ts : List ℕ) (bins end p : ℕ) (f : Memory) : Type 0 where
  pub stop : In p ts ⊎ (p ≡ end)
  pub packed : Packed o ts bins p f

-- A descriptor d and what it becomes: a pointer moves by as much as its block, and every other keeps its value.
pub data Forwarded (m o : Memory) (ts : List ℕ) (bins : ℕ) (d d' : Descriptor) : Type 0 where
  fixed : d.flags ≡ 0 → d' ≡ d → Forwarded m o ts bins d d'
  moved : (q t : ℕ) (p : Aims m ts d q) → To o ts bins q t → d' ≡ desc (pos (t + p.distance)) 16 d.kind → Forwarded m o ts bins d d'

-- The cells after regeneration: m is the memory before marking, o has the marks, and f is the last one; `link` and `head`
-- have the new links and heads.
pub record Renewed (m o : Memory) (ts : List ℕ) (bins : ℕ) (link head : ℕ → Descriptor) (f : Memory) : Type 0 where
  pub figures : f.figures ≡ m.figures
  pub titles : (q t : ℕ) → In q ts → IsMarked o q → To o ts bins q t → f.descriptor t ≡ desc (pos t) (m.descriptor q).flags (m.descriptor q).kind
  pub fields : (q t k : ℕ) → In q ts → IsMarked o q → To o ts bins q t → k < count (m.descriptor q) →
      Forwarded m o ts bins (m.descriptor (q + 1 + k)) (f.descriptor (t + 1 + k))
  pub links : (q t : ℕ) → In q ts → IsMarked o q → bit_and (o.descriptor q).flags 4 ≢ 0 → To o ts bins q t → f.descriptor (t + 1 + string_fields) ≡ link q
  pub heads : (b : ℕ) → b < bins → f.descriptor b ≡ head b
  pub characters : (q t k j : ℕ) → In q ts → IsMarked o q → To o ts bins q t → count (m.descriptor q) + 1 < k → k < length_at o q → f.character (t + k) j ≡ m.character (q + k) j

-- The walk stands at p: the strings below p that hold a value are in the queue, and nothing else is new there.
pub record Searched (m : Memory) (ts : List ℕ) (end p : ℕ) (ws : List ℕ) (n : ℕ) (ws' : List ℕ) (n' : ℕ) (o : Memory) : Type 0 where
  pub stop : In p ts ⊎ (p ≡ end)
  pub queue : Queue m ts ws' n' o
  pub grew : Grew ws n ws' n'
  pub here : (q k : ℕ) → In q ts → q < p → (m.descriptor q).flags ≡ 6 → k < string_fields → m.descriptor (q + 1 + k) ≢ null_desc → Queued ws' n' q
  pub new : (i : ℕ) → n ≤ i → i < n' → In (slice_index ws' i) ts × ((m.descriptor (slice_index ws' i)).flags ≡ 6) × ((k : ℕ) × (k < string_fields) × (m.descriptor (slice_index ws' i + 1 + k) ≢ null_desc))
