-- Texts that a store takes, and the characters of a string in a buffer.
use Rattle.std.specs.Prelude.{◌≡◌, ℕ, suc, ◌<◌, ◌≤◌, cond, List, [], ◌∷◌, ◌++◌, length, drop, Some, None, Ok, Err, Option, Result, nat_le}
use Rattle.cells.specs.declared.StoreFault.TheVariants.{BadCode}
use Rattle.cells.specs.Meaning.{Figures}
use Rattle.rules.specs.Model.{Text}
use Rattle.rules.specs.Calls.{takes}
use Rattle.arena.specs.declared.faults.HeapFault.{HeapFault}
use Rattle.arena.specs.declared.faults.HeapFault.TheVariants.{Cells, LongText}

-- The place of the first character that the store does not take.
abbrev pub first_refused : Figures → ℕ → Text → Result (Unit {0}) HeapFault
first_refused f place [] = Ok tt
first_refused f place (x ∷ xs) = cond (takes f x) (first_refused f (suc place) xs) (Err (Cells BadCode place))

-- A text has at most 1,024 characters, and the store takes them all.
abbrev pub fit_text : Figures → Text → Result (Unit {0}) HeapFault
fit_text f t = cond (nat_le (length t) 1024) (first_refused f 0 t) (Err LongText)

-- The text stands at the start of a buffer, and the rest is as it was; a buffer that is too short is as it was.
pub record ReadOut (t : Text) (before after : List ℕ) (r : Result (Option ℕ) HeapFault) : Type 0 where
  pub fits : length t ≤ length before → (r ≡ Ok (Some (length t))) × (after ≡ t ++ drop (length t) before)
  pub short : length before < length t → (r ≡ Ok None) × (after ≡ before)
