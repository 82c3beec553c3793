-- Looking a text up in its chain, cell by cell.
use Rattle.std.specs.Prelude.{◌≡◌, ℕ, ◌+◌, ◌/◌, ◌%◌, ◌<◌, ◌≤◌, List, length, pos, Some, None, Option, slice_index}
use Rattle.cells.specs.declared.Descriptor.{Descriptor}
use Rattle.cells.specs.Meaning.{Memory}
use Rattle.rules.specs.Model.{string_fields}

-- The characters of the string with the title q are within the store.
pub record Readable (o : Memory) (q : ℕ) : Type 0 where
  pub low : q + 1 + string_fields < o.figures.cells
  pub few : (o.descriptor q).kind ≤ 65535
  pub some : 1 ≤ o.figures.places
  pub within : (j : ℕ) → j < (o.descriptor q).kind → q + 2 + string_fields + j / o.figures.places < o.figures.cells

-- The string with the title q has the characters t.
pub record Spells (o : Memory) (q : ℕ) (t : List ℕ) : Type 0 where
  pub long : (o.descriptor q).kind ≡ length t
  pub codes : (j : ℕ) → j < length t → o.character (q + 2 + string_fields + j / o.figures.places) (j % o.figures.places) ≡ slice_index t j

-- d is a head or a link to the string with the title q.
pub record Hangs (o : Memory) (d : Descriptor) (q : ℕ) : Type 0 where
  pub flag : d.flags ≡ 16
  pub value : d.value ≡ pos q
  pub readable : Readable o q

-- Looking for t, with the number k, from d on, over less than n strings, answers r.
pub data Seeks (o : Memory) (t : List ℕ) (k : ℕ) (r : Option ℕ) : ℕ → Descriptor → Type 0 where
  runs_out : {n : ℕ} {d : Descriptor} → d.flags ≡ 0 → r ≡ None → Seeks o t k r n d
  hits : {n : ℕ} {d : Descriptor} (q : ℕ) → 0 < n → Hangs o d q → Spells o q t → r ≡ Some q → Seeks o t k r n d
  stops : {n : ℕ} {d : Descriptor} (q : ℕ) → 0 < n → Hangs o d q → (Spells o q t → ⊥) → k < (o.descriptor (q + 1 + string_fields)).kind → r ≡ None → Seeks o t k r n d
  goes_on : {n : ℕ} {d : Descriptor} (i q : ℕ) → i < n → Hangs o d q → (Spells o q t → ⊥) → (o.descriptor (q + 1 + string_fields)).kind ≤ k →
      Seeks o t k r i (o.descriptor (q + 1 + string_fields)) → Seeks o t k r n d

-- The same over at most n strings.
pub record Sought (o : Memory) (t : List ℕ) (k : ℕ) (d : Descriptor) (n : ℕ) (r : Option ℕ) : Type 0 where
  pub turns : ℕ
  pub few : turns ≤ n
  pub seeks : Seeks o t k r turns d
