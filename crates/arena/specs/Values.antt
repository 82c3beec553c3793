-- What a descriptor holds, and which value of the model that is.
use Rattle.std.specs.Prelude.{◌≡◌, ℕ, ◌+◌, ◌≤◌, cond, ℤ, ◌==◌, nat_le, unsigned_abs, Option, Some, None}
use Rattle.cells.specs.declared.Descriptor.{Descriptor}
use Rattle.cells.specs.Meaning.{Memory}
use Rattle.rules.specs.Model.{block, string, Value, null, number, text, to, name, Model, fields}
use Rattle.rules.specs.Arena.{Arena, At}
use Rattle.arena.specs.declared.values.Held.{Held}
use Rattle.arena.specs.declared.values.Held.TheVariants as is

-- By V and T, where no flag is set.
abbrev pub held_plain : ℤ → ℕ → Held
held_plain v t = cond (t == 1) is.Null (cond (t == 6) (is.Number v) is.Other)

-- By the cell and T, where the flag is that of a pointer.
abbrev pub held_pointer : ℕ → ℕ → Held
held_pointer p t =
    cond (t == 1) (is.Text p) (cond (t == 9) (is.Name p) (cond (nat_le 16 t) (cond (nat_le t 255) (is.Block p t) is.Other) is.Other))

abbrev pub held : Descriptor → Held
held d = cond (d.flags == 0) (held_plain d.value d.kind) (cond (d.flags == 16) (held_pointer (unsigned_abs d.value) d.kind) is.Other)

-- The number; the title of a block or a string; the cell of a name's field.
abbrev pub number_held : Held → Option ℤ
number_held is.Null = None
number_held (is.Number z) = Some z
number_held (is.Text p) = None
number_held (is.Block p t) = None
number_held (is.Name p) = None
number_held is.Other = None

abbrev pub thing_held : Held → Option ℕ
thing_held is.Null = None
thing_held (is.Number z) = None
thing_held (is.Text p) = Some p
thing_held (is.Block p t) = Some p
thing_held (is.Name p) = None
thing_held is.Other = None

abbrev pub name_held : Held → Option ℕ
name_held is.Null = None
name_held (is.Number z) = None
name_held (is.Text p) = None
name_held (is.Block p t) = None
name_held (is.Name p) = Some p
name_held is.Other = None

-- A value of the model as the arena has it: a pointer is a cell, where the thing lies, or its field.
abbrev pub Means : Model → Arena → Memory → Value → Held → Type 0
Means m a o null h = h ≡ is.Null
Means m a o (number z) h = h ≡ is.Number z
Means m a o (text t) h = (p : ℕ) × (h ≡ is.Text p) × At m a o (string t) p
Means m a o (to i k) h = (p : ℕ) × (h ≡ is.Block p k) × At m a o (block i) p
Means m a o (name x k) h = (p : ℕ) × (h ≡ is.Name (p + k)) × At m a o x p × (1 ≤ k) × (k ≤ fields m x)
