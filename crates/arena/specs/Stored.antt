-- A value in a field.
use Rattle.std.specs.Prelude.{◌≡◌, ℕ, ◌+◌, ◌≤◌}
use Rattle.cells.specs.declared.Descriptor.{Descriptor}
use Rattle.cells.specs.Meaning.{Memory}
use Rattle.rules.specs.Model.{Thing, Value, Model, fields}
use Rattle.rules.specs.Arena.{Arena, Shows, At, Codes}
use Rattle.rules.specs.Calls.{put_field}

-- In an arena that shows a model, `cell` is that of field k of x.
pub record Field (m : Model) (a : Arena) (o : Memory) (x : Thing) (k cell : ℕ) : Type 0 where
  pub shows : Shows m a o
  pub title : ℕ
  pub at : At m a o x title
  pub some : 1 ≤ k
  pub few : k ≤ fields m x
  pub cell_is : cell ≡ title + k

-- Field k of x holds v, in the same arena, and what coded a value before codes it still.
pub record Stored (m : Model) (a : Arena) (o : Memory) (x : Thing) (k : ℕ) (v : Value) (r : Memory) : Type 0 where
  pub figures : r.figures ≡ o.figures
  pub shows : Shows (put_field m x k v) a r
  pub codes : (w : Value) (d : Descriptor) → Codes m a o w d → Codes (put_field m x k v) a r w d
