-- Characters of strings that a write does not touch.
use Rattle.std.proofs.Common.{◌≡◌, ℕ, ◌+◌, ◌-◌, ◌*◌, ◌/◌, ◌%◌, ◌<◌, ◌≤◌, length, get_or, ◌∙◌, div-lt_iff_lt-mul, arith}
use Rattle.cells.specs.Meaning.{Memory, Sound}
use Rattle.rules.specs.Model.{Text, string, Model, string_fields, string_cells}
use Rattle.rules.specs.Arena.{Arena, Shows, At}
use Rattle.arena.proofs.Things.{last_cell}

module _ (m : Model) (a : Arena) (o : Memory) (snd : Sound o) (sh : Shows m a o) (r : Memory)
    (kept : (u : Text) (q j i : ℕ) → At m a o (string u) q → 4 + j < string_cells o.figures.places (length u) →
    r.character (q + 2 + string_fields + j) i ≡ o.character (q + 2 + string_fields + j) i) where
  pub spelled_still : (u : Text) (q j : ℕ) → At m a o (string u) q → j < length u →
      r.character (q + 2 + string_fields + j / o.figures.places) (j % o.figures.places) ≡ get_or u j 0
  spelled_still u q j l h =
      kept u q (j / o.figures.places) (j % o.figures.places) l (last_cell o.figures.places j (length u) snd.one_place h) ∙ sh.spelled.spelled u q j l h

  pub padded_still : (u : Text) (q j : ℕ) → At m a o (string u) q → length u ≤ j →
      j < (string_cells o.figures.places (length u) - (2 + string_fields)) * o.figures.places →
      r.character (q + 2 + string_fields + j / o.figures.places) (j % o.figures.places) ≡ o.figures.lowest
  padded_still u q j l h k =
      kept u q (j / o.figures.places) (j % o.figures.places) l
      (let b = (div-lt_iff_lt-mul {x = j} {y = string_cells o.figures.places (length u) - (2 + string_fields)} snd.one_place).1 k in omega arith)
      ∙ sh.spelled.padded u q j l h k
