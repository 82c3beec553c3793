-- Chains past the strings that are not marked. `ws` has, at a marked title's cell, its new cell.
use Rattle.std.specs.Prelude.{◌≡◌, ℕ, ◌+◌, ◌<◌, ◌≤◌, ◌≢◌, ◌⊎◌, List, length, pos, bit_and, slice_index}
use Rattle.cells.specs.declared.Descriptor.{Descriptor}
use Rattle.cells.specs.Meaning.{Memory}
use Rattle.rules.specs.Lists.{In}
use Rattle.rules.specs.Model.{string_fields}
use Rattle.rules.specs.Arena.{desc}
use Rattle.arena.specs.Titles.{count}
use Rattle.heap.specs.Marks.{IsMarked, IsBare}
use Rattle.heap.specs.Walks.{length_at}

-- The cell of the link of the string with the title q.
abbrev pub link_cell : ℕ → ℕ
link_cell q = q + 1 + string_fields

-- d is a head or a link to the string with the title q.
pub record Joins (o : Memory) (ts : List ℕ) (d : Descriptor) (q : ℕ) : Type 0 where
  pub flag : d.flags ≡ 16
  pub value : d.value ≡ pos q
  pub title : In q ts
  pub within : link_cell q < o.figures.cells

-- d leads, over less than n strings that are not marked, to a marked one or to the end of the chain;
-- d', with the number k, points to the new cell of that one, or is the end.
pub data Leads (o : Memory) (ts ws : List ℕ) (k : ℕ) (d' : Descriptor) : ℕ → Descriptor → Type 0 where
  to_end : {n : ℕ} {d : Descriptor} → d.flags ≡ 0 → d' ≡ desc (pos 0) 0 k → Leads o ts ws k d' n d
  to_kept : {n : ℕ} {d : Descriptor} (q : ℕ) → Joins o ts d q → IsMarked o q → q < length ws → slice_index ws q ≤ 65535 →
      d' ≡ desc (pos (slice_index ws q)) 16 k → Leads o ts ws k d' n d
  past : {n : ℕ} {d : Descriptor} (i q : ℕ) → i < n → Joins o ts d q → IsBare o q → Leads o ts ws k d' i (o.descriptor (link_cell q)) → Leads o ts ws k d' n d

-- The same with a bound that a chain keeps.
pub record Led (o : Memory) (ts ws : List ℕ) (d d' : Descriptor) : Type 0 where
  pub turns : ℕ
  pub few : turns ≤ o.figures.cells
  pub leads : Leads o ts ws d.kind d' turns d
  pub small : d.kind ≤ o.figures.largest

-- What is left of the way.
pub record Leading (o : Memory) (ts ws : List ℕ) (k : ℕ) (d' d : Descriptor) (left : ℕ) : Type 0 where
  pub turns : ℕ
  pub few : turns ≤ left
  pub leads : Leads o ts ws k d' turns d

-- The marked strings, by their titles.
abbrev pub MarkedString : Memory → List ℕ → ℕ → Type 0
MarkedString o ts q = In q ts × IsMarked o q × (bit_and (o.descriptor q).flags 4 ≢ 0)

-- Every marked string's link leads to what `link` has for it.
abbrev pub Linkable : Memory → List ℕ → List ℕ → (ℕ → Descriptor) → Type 0
Linkable o ts ws link = (q : ℕ) → MarkedString o ts q → Led o ts ws (o.descriptor (link_cell q)) (link q)

-- The walk stands at p: the links of the marked strings below p are new, and no other cell has changed.
pub record Threading (o : Memory) (ts : List ℕ) (link : ℕ → Descriptor) (end p : ℕ) (r : Memory) : Type 0 where
  pub stop : In p ts ⊎ (p ≡ end)
  pub figures : r.figures ≡ o.figures
  pub done : (q : ℕ) → MarkedString o ts q → q < p → r.descriptor (link_cell q) ≡ link q
  pub descriptors : (c : ℕ) → ((q : ℕ) → MarkedString o ts q → q < p → link_cell q ≢ c) → r.descriptor c ≡ o.descriptor c
  pub characters : (c j : ℕ) → ((q : ℕ) → MarkedString o ts q → q < p → link_cell q ≢ c) → r.character c j ≡ o.character c j

-- Every head leads to what `head` has for it.
abbrev pub Headed : Memory → List ℕ → List ℕ → ℕ → (ℕ → Descriptor) → Type 0
Headed o ts ws bins head = (b : ℕ) → b < bins → Led o ts ws (o.descriptor b) (head b)

-- The heads of the first k bins are new, and no other cell has changed.
pub record Heading (o : Memory) (head : ℕ → Descriptor) (k : ℕ) (r : Memory) : Type 0 where
  pub figures : r.figures ≡ o.figures
  pub done : (b : ℕ) → b < k → r.descriptor b ≡ head b
  pub descriptors : (c : ℕ) → k ≤ c → r.descriptor c ≡ o.descriptor c
  pub characters : (c j : ℕ) → k ≤ c → r.character c j ≡ o.character c j

-- Heads and links are new: between relocation, r, and packing, v.
pub record Rethreaded (r : Memory) (ts : List ℕ) (bins : ℕ) (link head : ℕ → Descriptor) (v : Memory) : Type 0 where
  pub figures : v.figures ≡ r.figures
  pub titles : (q : ℕ) → In q ts → v.descriptor q ≡ r.descriptor q
  pub fields : (q k : ℕ) → In q ts → k < count (r.descriptor q) → v.descriptor (q + 1 + k) ≡ r.descriptor (q + 1 + k)
  pub links : (q : ℕ) → MarkedString r ts q → v.descriptor (link_cell q) ≡ link q
  pub heads : (b : ℕ) → b < bins → v.descriptor b ≡ head b
  pub tails : (q k j : ℕ) → In q ts → count (r.descriptor q) + 1 < k → k < length_at r q → v.character (q + k) j ≡ r.character (q + k) j
