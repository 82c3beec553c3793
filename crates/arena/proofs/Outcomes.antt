-- What equations of answers tell.
use Rattle.std.proofs.Common.{◌≡◌, Ok, Err, Result}

-- An `Ok` is one value, and no `Err`.
pub ok_same : {A E : Type 0} (a b : A) → ◌≡◌ {A = Result A E} (Ok a) (Ok b) → a ≡ b
ok_same a b e = cc

pub ok_not_err : {A E C : Type 0} {r : Result A E} {a : A} {x : E} → r ≡ Ok a → r ≡ Err x → C
ok_not_err {A} {E} {C} {r} {a} {x} p q = cc
