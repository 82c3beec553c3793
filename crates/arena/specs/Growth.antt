-- A model and an arena with one more thing.
use Rattle.std.specs.Prelude.{◌≡◌, ℕ, ◌+◌, cond, List, [], ◌∷◌, ◌++◌, length, ◌==◌, nat_lt}
use Rattle.cells.specs.declared.Descriptor.{Descriptor}
use Rattle.cells.specs.Meaning.{Memory}
use Rattle.rules.specs.Keys.{bin, ascension}
use Rattle.rules.specs.Model.{Text, Thing, block, string, Value, null, Model, string_cells, same_thing}
use Rattle.rules.specs.Arena.{Arena, At, Codes, Shows}

-- The model with one more block, of n null fields.
abbrev pub add_block : Model → ℕ → Model
add_block m n =
    record {
      registers = m.registers;
      made = m.made ++ (n ∷ []);
      field = λ y j. cond (same_thing (block (length m.made)) y) null (m.field y j);
    }

-- The arena with the thing x, of k cells, as its last.
abbrev pub append : Arena → Thing → ℕ → Arena
append a x k = record { bins = a.bins; «next» = a.«next» + k; order = a.order ++ (x ∷ []); chain = a.chain }

-- The arena with the block of n fields that the model makes next.
abbrev pub arena_with_block : Model → Arena → ℕ → Arena
arena_with_block m a n = append a (block (length m.made)) (n + 1)

-- A chain with t behind all whose number is not greater.
abbrev pub insert : (Text → ℕ) → Text → List Text → List Text
insert f t [] = t ∷ []
insert f t (u ∷ us) = cond (nat_lt (f t) (f u)) (t ∷ (u ∷ us)) (u ∷ insert f t us)

-- The arena with the string t, as its last thing and in its chain, with c characters to a cell.
abbrev pub arena_with_text : ℕ → Arena → Text → Arena
arena_with_text c a t =
    record {
      bins = a.bins;
      «next» = a.«next» + string_cells c (length t);
      order = a.order ++ (string t ∷ []);
      chain = λ b. cond (b == bin a.bins t) (insert (ascension a.bins) t (a.chain (bin a.bins t))) (a.chain b);
    }

-- The memory o' shows the model m' in the arena a', the thing x lies where the arena a ended, and what coded a value before
-- codes it still.
pub record Grown (m : Model) (a : Arena) (o : Memory) (x : Thing) (m' : Model) (a' : Arena) (o' : Memory) : Type 0 where
  pub figures : o'.figures ≡ o.figures
  pub shows : Shows m' a' o'
  pub here : At m' a' o' x a.«next»
  pub codes : (v : Value) (d : Descriptor) → Codes m a o v d → Codes m' a' o' v d
