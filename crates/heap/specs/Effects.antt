-- What a regeneration does, rule by rule.
use Rattle.std.specs.Prelude.{◌≡◌, ℕ, ◌+◌, ◌-◌, ◌*◌, ◌/◌, ◌%◌, ◌<◌, ◌≤◌, cond, ◌≢◌, List, length, ℤ, pos, slice_index_or}
use Rattle.cells.specs.declared.Descriptor.{Descriptor}
use Rattle.cells.specs.Meaning.{Memory}
use Rattle.rules.specs.Lists.{In, Once, total}
use Rattle.rules.specs.Model.{Text, Thing, string, Model, fields, string_fields, string_cells, size, has, Reach, Exactly}
use Rattle.rules.specs.Arena.{desc, null_desc, Arena, At}
use Rattle.arena.specs.Titles.{Back}
use Rattle.heap.specs.Regeneration.{Shown, Regenerated}

-- A regeneration, as its contract has it: `o` with the registers `rs` shows the model before it, and this is what it leaves.
pub record Regeneration (m : Model) (a : Arena) (o : Memory) (rs : List Descriptor) : Type 0 where
  pub bins : ℕ
  pub «next» : ℕ
  pub work : List ℕ
  pub shown : Shown m a bins «next» rs work o
  pub last : ℕ
  pub registers : List Descriptor
  pub left : List ℕ
  pub memory : Memory
  pub regenerated : Regenerated m a o bins last registers left memory

-- The arena after it.
abbrev pub after : {m : Model} {a : Arena} {o : Memory} {rs : List Descriptor} → Regeneration m a o rs → Arena
after g = g.regenerated.after

-- A thing lies at p before it, and at q after it.
abbrev pub Was : {m : Model} {a : Arena} {o : Memory} {rs : List Descriptor} → Regeneration m a o rs → Thing → ℕ → Type 0
Was {m} {a} {o} g x p = At m a o x p

abbrev pub Is : {m : Model} {a : Arena} {o : Memory} {rs : List Descriptor} → Regeneration m a o rs → Thing → ℕ → Type 0
Is {m} g x q = At m g.regenerated.after g.memory x q

-- The list has exactly the reachable things that lay below cell p, each once.
pub record Lower {m : Model} {a : Arena} {o : Memory} {rs : List Descriptor} (g : Regeneration m a o rs) (p : ℕ) (things : List Thing) : Type 0 where
  pub sound : (y : Thing) → In y things → Reach m y × ((q : ℕ) × Was g y q × (q < p))
  pub complete : (y : Thing) (q : ℕ) → Reach m y → Was g y q → q < p → In y things
  pub once : Once things

-- The new cell of a block or string that is kept is the bins plus the cells of all reachable ones that lay lower.
abbrev pub NewCells : Type 0
NewCells = (m : Model) (a : Arena) (o : Memory) (rs : List Descriptor) (g : Regeneration m a o rs) (x : Thing) (p : ℕ) → Reach m x → Was g x p →
    (lower : List Thing) × Lower g p lower × Is g x (a.bins + total (size o.figures.places m) lower)

-- Only what is reachable is kept, and it was there before.
abbrev pub OnlyReachable : Type 0
OnlyReachable = (m : Model) (a : Arena) (o : Memory) (rs : List Descriptor) (g : Regeneration m a o rs) (x : Thing) (q : ℕ) → Is g x q →
    Reach m x × ((p : ℕ) × Was g x p)

-- What becomes of a descriptor: a pointer moves by as much as its block and keeps the distance to its title, and every
-- other keeps its value.
pub data Becomes {m : Model} {a : Arena} {o : Memory} {rs : List Descriptor} (g : Regeneration m a o rs) (d d' : Descriptor) : Type 0 where
  stays : d.flags ≡ 0 → d' ≡ d → Becomes g d d'
  moves : (x : Thing) (p q k t : ℕ) → Was g x p → Is g x q → Back o p k → Back g.memory q k →
      d ≡ desc (pos (p + k)) 16 t → d' ≡ desc (pos (q + k)) 16 t → Becomes g d d'

-- So it is with every register, and with every field of a kept block or string.
abbrev pub PointersMove : Type 0
PointersMove = (m : Model) (a : Arena) (o : Memory) (rs : List Descriptor) (g : Regeneration m a o rs) →
    ((r : ℕ) → r < length m.registers → Becomes g (slice_index_or rs r null_desc) (slice_index_or g.registers r null_desc)) ×
    ((x : Thing) (p q k : ℕ) → Was g x p → Is g x q → 1 ≤ k → k ≤ fields m x → Becomes g (o.descriptor (p + k)) (g.memory.descriptor (q + k)))

-- A number stays, also one that equals the cell of a title.
abbrev pub NumbersStay : Type 0
NumbersStay = (m : Model) (a : Arena) (o : Memory) (rs : List Descriptor) (g : Regeneration m a o rs) (z : ℤ) →
    ((r : ℕ) → r < length m.registers → slice_index_or rs r null_desc ≡ desc z 0 6 → slice_index_or g.registers r null_desc ≡ desc z 0 6) ×
    ((x : Thing) (p q k : ℕ) → Was g x p → Is g x q → 1 ≤ k → k ≤ fields m x → o.descriptor (p + k) ≡ desc z 0 6 → g.memory.descriptor (q + k) ≡ desc z 0 6)

-- A string with a label and no value is kept.
abbrev pub LabelsKeep : Type 0
LabelsKeep = (m : Model) (a : Arena) (o : Memory) (rs : List Descriptor) (g : Regeneration m a o rs) (t : Text) (p : ℕ) → Was g (string t) p →
    o.descriptor (p + 1) ≡ null_desc → o.descriptor (p + 2) ≢ null_desc → (q : ℕ) × Is g (string t) q

-- A link keeps nothing: a string that is not reachable is gone, and so it is from the chain in which it stood.
abbrev pub LinksKeepNothing : Type 0
LinksKeepNothing = (m : Model) (a : Arena) (o : Memory) (rs : List Descriptor) (g : Regeneration m a o rs) (b : ℕ) (t : Text) → b < a.bins → In t (a.chain b) →
    ¬ (Reach m (string t)) → ¬ (In t ((after g).chain b)) × ((q : ℕ) → ¬ (Is g (string t) q))

-- Heads, titles, fields, links and characters of the arena a are the same in o and f.
pub record Unchanged (m : Model) (a : Arena) (o f : Memory) : Type 0 where
  pub heads : (b : ℕ) → b < a.bins → f.descriptor b ≡ o.descriptor b
  pub titles : (x : Thing) (p : ℕ) → At m a o x p → f.descriptor p ≡ o.descriptor p
  pub fields_same : (x : Thing) (p k : ℕ) → At m a o x p → 1 ≤ k → k ≤ fields m x → f.descriptor (p + k) ≡ o.descriptor (p + k)
  pub links : (t : Text) (p : ℕ) → At m a o (string t) p → f.descriptor (p + 1 + string_fields) ≡ o.descriptor (p + 1 + string_fields)
  pub characters : (t : Text) (p j : ℕ) → At m a o (string t) p → j < (string_cells o.figures.places (length t) - (2 + string_fields)) * o.figures.places →
      f.character (p + 2 + string_fields + j / o.figures.places) (j % o.figures.places) ≡ o.character (p + 2 + string_fields + j / o.figures.places) (j % o.figures.places)

-- A second regeneration changes nothing below next, neither next nor a register.
abbrev pub SecondChangesNothing : Type 0
SecondChangesNothing = (m : Model) (a : Arena) (o : Memory) (rs : List Descriptor) (g : Regeneration m a o rs) (h : Regeneration m (after g) g.memory g.registers) →
    (h.last ≡ g.last) × ((r : ℕ) → r < length m.registers → slice_index_or h.registers r null_desc ≡ slice_index_or g.registers r null_desc) ×
    Unchanged m (after g) g.memory h.memory

-- A text whose string the arena has fits, reachable or not: the bins, the reachable things and, unless the string is one of
-- them, its cells are within the cells.
abbrev pub PresentFits : Type 0
PresentFits = (m : Model) (a : Arena) (bins last : ℕ) (rs : List Descriptor) (ws : List ℕ) (o : Memory) → Shown m a bins last rs ws o →
    (t : Text) → In (string t) a.order → (things : List Thing) → Exactly m things →
    a.bins + total (size o.figures.places m) things + cond (has things (string t)) 0 (string_cells o.figures.places (length t)) ≤ o.figures.cells
