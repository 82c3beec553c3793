-- Entering a string, cell by cell.
use Rattle.std.specs.Prelude.{◌≡◌, ℕ, ◌+◌, ◌-◌, ◌*◌, ◌/◌, ◌%◌, ◌<◌, ◌≤◌, cond, ◌≢◌, ◌⊎◌, List, length, pos, nat_lt, slice_index}
use Rattle.cells.specs.declared.Descriptor.{Descriptor}
use Rattle.cells.specs.Meaning.{Memory, FitDescriptor, FitCode}
use Rattle.rules.specs.Lists.{In}
use Rattle.rules.specs.Model.{Text, string, Model, string_fields, string_cells}
use Rattle.rules.specs.Arena.{desc, null_desc, Arena, Shows}

-- The pointer in cell c, a head or a link, leads to the string with the title q.
pub record Holds (o : Memory) (c q : ℕ) : Type 0 where
  pub flag : (o.descriptor c).flags ≡ 16
  pub value : (o.descriptor c).value ≡ pos q
  pub within : q + 1 + string_fields < o.figures.cells

-- From the head or link in cell c on, over less than n strings, r is the cell behind which a string with the number k goes.
pub data Behind (o : Memory) (k r : ℕ) : ℕ → ℕ → Type 0 where
  at_last : {n c : ℕ} → c < o.figures.cells → (o.descriptor c).flags ≡ 0 → c ≡ r → Behind o k r n c
  before : {n c : ℕ} (q : ℕ) → 0 < n → c < o.figures.cells → Holds o c q → k < (o.descriptor (q + 1 + string_fields)).kind → c ≡ r → Behind o k r n c
  after : {n c : ℕ} (i q : ℕ) → i < n → c < o.figures.cells → Holds o c q → (o.descriptor (q + 1 + string_fields)).kind ≤ k →
      Behind o k r i (q + 1 + string_fields) → Behind o k r n c

-- The same over at most n strings.
pub record Backward (o : Memory) (k c n r : ℕ) : Type 0 where
  pub turns : ℕ
  pub few : turns ≤ n
  pub behind : Behind o k r turns c

-- The code at place j of a string: its character, or the lowest code after the last.
abbrev pub code_at : List ℕ → ℕ → ℕ → ℕ
code_at t low j = cond (nat_lt j (length t)) (slice_index t j) low

-- The first k places from cell p on are written, and no cell outside of `rows` cells has changed.
pub record Writing (o : Memory) (p rows : ℕ) (t : List ℕ) (k : ℕ) (r : Memory) : Type 0 where
  pub figures : r.figures ≡ o.figures
  pub done : (j : ℕ) → j < k → r.character (p + j / o.figures.places) (j % o.figures.places) ≡ code_at t o.figures.lowest j
  pub descriptors : (c : ℕ) → (c < p) ⊎ (p + rows ≤ c) → r.descriptor c ≡ o.descriptor c
  pub characters : (c j : ℕ) → (c < p) ⊎ (p + rows ≤ c) → r.character c j ≡ o.character c j

-- Title, null fields and link of a string are written, and no other cell has changed.
pub record Framed (o : Memory) (p n : ℕ) (d : Descriptor) (r : Memory) : Type 0 where
  pub figures : r.figures ≡ o.figures
  pub title : r.descriptor p ≡ desc (pos p) 6 n
  pub value : r.descriptor (p + 1) ≡ null_desc
  pub label : r.descriptor (p + 2) ≡ null_desc
  pub link : r.descriptor (p + 1 + string_fields) ≡ d
  pub descriptors : (c : ℕ) → (c < p) ⊎ (p + 2 + string_fields ≤ c) → r.descriptor c ≡ o.descriptor c
  pub characters : (c j : ℕ) → (c < p) ⊎ (p + 2 + string_fields ≤ c) → r.character c j ≡ o.character c j

-- The store takes every character of a text.
abbrev pub Takes : Memory → List ℕ → Type 0
Takes o t = (j : ℕ) → j < length t → FitCode o.figures (slice_index t j)

-- The string t, with null fields and the link d, stands from p on, and no other cell has changed.
pub record Written (o : Memory) (p : ℕ) (t : List ℕ) (d : Descriptor) (r : Memory) : Type 0 where
  pub figures : r.figures ≡ o.figures
  pub title : r.descriptor p ≡ desc (pos p) 6 (length t)
  pub value : r.descriptor (p + 1) ≡ null_desc
  pub label : r.descriptor (p + 2) ≡ null_desc
  pub link : r.descriptor (p + 1 + string_fields) ≡ d
  pub codes : (j : ℕ) → j < (string_cells o.figures.places (length t) - (2 + string_fields)) * o.figures.places →
      r.character (p + 2 + string_fields + j / o.figures.places) (j % o.figures.places) ≡ code_at t o.figures.lowest j
  pub descriptors : (x : ℕ) → (x < p) ⊎ (p + string_cells o.figures.places (length t) ≤ x) → r.descriptor x ≡ o.descriptor x
  pub characters : (x j : ℕ) → (x < p) ⊎ (p + string_cells o.figures.places (length t) ≤ x) → r.character x j ≡ o.character x j

-- The string t with the number k stands from p on and takes over what the head or link in cell c pointed to; c points to it
-- now, and no other cell has changed.
pub record Entered (o : Memory) (p : ℕ) (t : List ℕ) (k c : ℕ) (r : Memory) : Type 0 where
  pub figures : r.figures ≡ o.figures
  pub title : r.descriptor p ≡ desc (pos p) 6 (length t)
  pub value : r.descriptor (p + 1) ≡ null_desc
  pub label : r.descriptor (p + 2) ≡ null_desc
  pub link : r.descriptor (p + 1 + string_fields) ≡ desc (o.descriptor c).value (o.descriptor c).flags k
  pub codes : (j : ℕ) → j < (string_cells o.figures.places (length t) - (2 + string_fields)) * o.figures.places →
      r.character (p + 2 + string_fields + j / o.figures.places) (j % o.figures.places) ≡ code_at t o.figures.lowest j
  pub behind : r.descriptor c ≡ desc (pos p) 16 (o.descriptor c).kind
  pub descriptors : (x : ℕ) → (x < p) ⊎ (p + string_cells o.figures.places (length t) ≤ x) → x ≢ c → r.descriptor x ≡ o.descriptor x
  pub characters : (x j : ℕ) → (x < p) ⊎ (p + string_cells o.figures.places (length t) ≤ x) → x ≢ c → r.character x j ≡ o.character x j

-- A text that fits, and a cell c below p behind which it goes with the number k, from the head h on; there is room from p on.
pub record Open (o : Memory) (p h k c : ℕ) (t : List ℕ) : Type 0 where
  pub place : Backward o k h o.figures.cells c
  pub low : c < p
  pub fits : FitDescriptor o.figures (o.descriptor c)
  pub some : 1 ≤ length t
  pub few : length t ≤ 1024
  pub room : p + string_cells o.figures.places (length t) ≤ o.figures.cells
  pub codes : Takes o t

-- A text that the arena does not have, and for which there is room.
pub record Fresh (m : Model) (a : Arena) (t : Text) (bins end : ℕ) (o : Memory) : Type 0 where
  pub shows : Shows m a o
  pub bins_is : bins ≡ a.bins
  pub end_is : end ≡ a.«next»
  pub away : In (string t) a.order → ⊥
  pub some : 1 ≤ length t
  pub few : length t ≤ 1024
  pub codes : Takes o t
  pub room : a.«next» + string_cells o.figures.places (length t) ≤ o.figures.cells
