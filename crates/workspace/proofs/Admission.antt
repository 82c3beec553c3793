-- The check that comes first in every call.
use Rattle.std.proofs.Common.{◌≡◌, ℕ, zero, suc, ◌<◌, List, [], ◌∷◌, length, get_or, true, false, Some, None, sym, refl, arith}
use Rattle.std.specs.Prelude.{is_some}
use Rattle.std.proofs.lemmas.Bool.{false≢true}
use Rattle.std.specs.List.{AllByRecursion}
use Rattle.workspace.specs.State.{State}
use Rattle.workspace.specs.State.{Shut, Opened}

-- A workspace with an extent is open, and one without is shut.
pub open_state : (s : State) → is_some s ≡ true → (b : ℕ) × (n : ℕ) × (s ≡ Opened b n)
open_state None h = absurd (false≢true h)
open_state (Some e) h = (e.bins, e.next, refl)

pub shut_state : (s : State) → is_some s ≡ false → s ≡ Shut
shut_state None h = refl
shut_state (Some e) h = absurd (false≢true (sym h))

pub all_below : (P : ℕ → Type 0) (rs : List ℕ) → ((j : ℕ) → j < length rs → P (get_or rs j 0)) → AllByRecursion P rs
all_below P [] h = tt
all_below P (r ∷ rs) h = (h zero (omega arith), all_below P rs (λ j l. h (suc j) (omega arith)))
