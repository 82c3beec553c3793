-- Marking, cell by cell. `m` is the memory before marking and `ts` has the cells of all titles.
use Rattle.std.specs.Prelude.{◌≡◌, ℕ, ◌+◌, ◌<◌, ◌≤◌, ◌≢◌, ◌⊎◌, List, length, pos, bit_and, slice_index, slice_index_or}
use Rattle.cells.specs.declared.Descriptor.{Descriptor}
use Rattle.cells.specs.Meaning.{Memory, Sound}
use Rattle.rules.specs.Lists.{In}
use Rattle.rules.specs.Model.{string_fields}
use Rattle.rules.specs.Arena.{null_desc}
use Rattle.arena.specs.Titles.{count, with_mark}

-- The title q has the mark, or not.
abbrev pub IsMarked : Memory → ℕ → Type 0
IsMarked o q = bit_and (o.descriptor q).flags 8 ≢ 0

abbrev pub IsBare : Memory → ℕ → Type 0
IsBare o q = bit_and (o.descriptor q).flags 8 ≡ 0

-- d points at the title q, or into its block.
pub record Aims (m : Memory) (ts : List ℕ) (d : Descriptor) (q : ℕ) : Type 0 where
  pub flag : d.flags ≡ 16
  pub title : In q ts
  pub distance : ℕ
  pub near : distance ≤ count (m.descriptor q)
  pub value : d.value ≡ pos (q + distance)

-- A value: not a pointer, or one that hits.
pub data Valued (m : Memory) (ts : List ℕ) (d : Descriptor) : Type 0 where
  plain : d.flags ≡ 0 → Valued m ts d
  pointer : (q : ℕ) → Aims m ts d q → Valued m ts d

-- The title of a block, whose fields are cells of the memory.
pub record Titled (m : Memory) (p : ℕ) : Type 0 where
  pub flag : ((m.descriptor p).flags ≡ 2) ⊎ ((m.descriptor p).flags ≡ 6)
  pub within : p + count (m.descriptor p) < m.figures.cells

-- The memory is sound, the cells ts have titles, and their fields hold values.
pub record Ground (m : Memory) (ts : List ℕ) : Type 0 where
  pub sound : Sound m
  pub titled : (p : ℕ) → In p ts → Titled m p
  pub valued : (p k : ℕ) → In p ts → k < count (m.descriptor p) → Valued m ts (m.descriptor (p + 1 + k))

-- A cell is one of the first n entries of ws.
abbrev pub Queued : List ℕ → ℕ → ℕ → Type 0
Queued ws n c = (i : ℕ) × (i < n) × (slice_index ws i ≡ c)

-- A cell is as it was, or is a title in the queue and marked.
pub data State (m : Memory) (ws : List ℕ) (n : ℕ) (o : Memory) (c : ℕ) : Type 0 where
  still : ((i : ℕ) → i < n → slice_index ws i ≢ c) → o.descriptor c ≡ m.descriptor c → ((j : ℕ) → o.character c j ≡ m.character c j) → State m ws n o c
  marked : Queued ws n c → o.descriptor c ≡ with_mark (m.descriptor c) → State m ws n o c

-- The first n entries of ws are the marked titles, none twice; o is m with their marks.
pub record Queue (m : Memory) (ts : List ℕ) (ws : List ℕ) (n : ℕ) (o : Memory) : Type 0 where
  pub ground : Ground m ts
  pub room : m.figures.cells ≤ length ws
  pub figures : o.figures ≡ m.figures
  pub states : (c : ℕ) → State m ws n o c
  pub titles : (i : ℕ) → i < n → In (slice_index ws i) ts
  pub apart : (i j : ℕ) → i < j → j < n → slice_index ws i ≢ slice_index ws j

-- The queue has grown at its end.
pub record Grew (ws : List ℕ) (n : ℕ) (ws' : List ℕ) (n' : ℕ) : Type 0 where
  pub more : n ≤ n'
  pub kept : (i : ℕ) → i < n → slice_index ws' i ≡ slice_index ws i

-- The title q is in the queue, and nothing else is new there.
pub record Added (m : Memory) (ts : List ℕ) (ws : List ℕ) (n q : ℕ) (ws' : List ℕ) (n' : ℕ) (o : Memory) : Type 0 where
  pub queue : Queue m ts ws' n' o
  pub grew : Grew ws n ws' n'
  pub here : Queued ws' n' q
  pub new : (i : ℕ) → n ≤ i → i < n' → slice_index ws' i ≡ q

-- What d points at is in the queue, and nothing else is new there.
pub record Visited (m : Memory) (ts : List ℕ) (ws : List ℕ) (n : ℕ) (d : Descriptor) (ws' : List ℕ) (n' : ℕ) (o : Memory) : Type 0 where
  pub queue : Queue m ts ws' n' o
  pub grew : Grew ws n ws' n'
  pub here : (q : ℕ) → Aims m ts d q → Queued ws' n' q
  pub new : (i : ℕ) → n ≤ i → i < n' → Aims m ts d (slice_index ws' i)

-- What the first k fields of p point at is in the queue, and nothing else is new there.
pub record Scanned (m : Memory) (ts : List ℕ) (p k : ℕ) (ws : List ℕ) (n : ℕ) (ws' : List ℕ) (n' : ℕ) (o : Memory) : Type 0 where
  pub queue : Queue m ts ws' n' o
  pub grew : Grew ws n ws' n'
  pub here : (j q : ℕ) → j < k → Aims m ts (m.descriptor (p + 1 + j)) q → Queued ws' n' q
  pub new : (i : ℕ) → n ≤ i → i < n' → (j : ℕ) × (j < k) × Aims m ts (m.descriptor (p + 1 + j)) (slice_index ws' i)

-- A title is reached from the first n entries of ws.
pub data Reached (m : Memory) (ts : List ℕ) (ws : List ℕ) (n : ℕ) : ℕ → Type 0 where
  root : {q : ℕ} → Queued ws n q → Reached m ts ws n q
  along : {p q : ℕ} (j : ℕ) → Reached m ts ws n p → j < count (m.descriptor p) → Aims m ts (m.descriptor (p + 1 + j)) q → Reached m ts ws n q

-- The first h entries of the queue are closed, and every entry is reached.
pub record Drained (m : Memory) (ts : List ℕ) (h : ℕ) (ws : List ℕ) (n : ℕ) (ws' : List ℕ) (n' : ℕ) (o : Memory) : Type 0 where
  pub queue : Queue m ts ws' n' o
  pub grew : Grew ws n ws' n'
  pub far : h ≤ n'
  pub closed : (i j q : ℕ) → i < h → j < count (m.descriptor (slice_index ws' i)) → Aims m ts (m.descriptor (slice_index ws' i + 1 + j)) q → Queued ws' n' q
  pub sound : (i : ℕ) → i < n' → Reached m ts ws n (slice_index ws' i)

-- Marking is over: exactly the titles that are reached carry the mark, and nothing else has changed.
pub record Marked (m : Memory) (ts : List ℕ) (ws : List ℕ) (n : ℕ) (ws' : List ℕ) (n' : ℕ) (o : Memory) : Type 0 where
  pub queue : Queue m ts ws' n' o
  pub exact : (q : ℕ) → Reached m ts ws n q → Queued ws' n' q
  pub only : (q : ℕ) → Queued ws' n' q → Reached m ts ws n q

-- What the registers rs and the values of strings point at, or are.
pub data Root (o : Memory) (ts : List ℕ) (rs : List Descriptor) : ℕ → Type 0 where
  by_register : {q : ℕ} (r : ℕ) → r < length rs → Aims o ts (slice_index_or rs r null_desc) q → Root o ts rs q
  by_value : {q : ℕ} (k : ℕ) → In q ts → (o.descriptor q).flags ≡ 6 → k < string_fields → o.descriptor (q + 1 + k) ≢ null_desc → Root o ts rs q

-- The first n entries of ws are exactly the roots.
pub record Rooted (o : Memory) (ts : List ℕ) (rs : List Descriptor) (ws : List ℕ) (n : ℕ) : Type 0 where
  pub exact : (q : ℕ) → Root o ts rs q → Queued ws n q
  pub only : (q : ℕ) → Queued ws n q → Root o ts rs q

-- What the first k registers point at is in the queue, and nothing else is new there.
pub record Registered (m : Memory) (ts : List ℕ) (rs : List Descriptor) (k : ℕ) (ws : List ℕ) (n : ℕ) (ws' : List ℕ) (n' : ℕ) (o : Memory) : Type 0 where
  pub queue : Queue m ts ws' n' o
  pub grew : Grew ws n ws' n'
  pub here : (r q : ℕ) → r < k → Aims m ts (slice_index_or rs r null_desc) q → Queued ws' n' q
  pub new : (i : ℕ) → n ≤ i → i < n' → (r : ℕ) × (r < k) × Aims m ts (slice_index_or rs r null_desc) (slice_index ws' i)

-- The title p, if it is that of a string with a value that is not null, is in the queue, and nothing else is new there.
pub record Holding (m : Memory) (p : ℕ) (ws : List ℕ) (n : ℕ) (ts : List ℕ) (ws' : List ℕ) (n' : ℕ) (o : Memory) : Type 0 where
  pub queue : Queue m ts ws' n' o
  pub grew : Grew ws n ws' n'
  pub here : (k : ℕ) → (m.descriptor p).flags ≡ 6 → k < string_fields → m.descriptor (p + 1 + k) ≢ null_desc → Queued ws' n' p
  pub new : (i : ℕ) → n ≤ i → i < n' → (slice_index ws' i ≡ p) × ((m.descriptor p).flags ≡ 6) × ((k : ℕ) × (k < string_fields) × (m.descriptor (p + 1 + k) ≢ null_desc))
