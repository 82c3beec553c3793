-- An `Ok` is one value, and no `Err`.
use Rattle.std.proofs.Common.{◌≡◌, ℕ, ◌+◌, ◌<◌, ◌≤◌, Ok, Err, Result, sym, refl, ap, subst, arith}
use Rattle.arena.specs.declared.faults.HeapFault.{HeapFault}
use Rattle.heap.specs.Regeneration.{Gives}

pub ok_same : {A E : Type 0} (a b : A) → ◌≡◌ {A = Result A E} (Ok a) (Ok b) → a ≡ b
ok_same a b e = cc

pub ok_not_err : {A E C : Type 0} {r : Result A E} {a : A} {x : E} → r ≡ Ok a → r ≡ Err x → C
ok_not_err {A} {E} {C} {r} {a} {x} p q = absurd (let z : ◌≡◌ {A = ℕ} 0 1 = cc in omega arith)

-- A value that an answer is known to have.
pub gives : {A : Type 0} (P : A → Type 0) (r : Result A HeapFault) (x : A) → r ≡ Ok x → P x → Gives P r
gives P (Ok y) x e p = subst P (sym (ok_same y x e)) p
gives P (Err f) x e p = ok_not_err e refl

ok_both : {A B : Type 0} (x x' : A) (y y' : B) {E : Type 0} → ◌≡◌ {A = Result (A × B) E} (Ok (x, y)) (Ok (x', y')) → (x ≡ x') × (y ≡ y')
ok_both {A} {B} x x' y y' e = let p = ok_same (x, y) (x', y') e in (ap (λ (z : A × B). z.0) p, ap (λ (z : A × B). z.1) p)

-- The cells of the fields of a title at p with n fields, where the store has them all.
pub fields_given : (p n f e : ℕ) {cells : ℕ} → p + n < cells → cells ≤ 65535 →
    (p + 1 + n < 4294967296 → ◌≡◌ {A = Result (ℕ × ℕ) HeapFault} (Ok (f, e)) (Ok (p + 1, p + 1 + n))) → (f ≡ p + 1) × (e ≡ p + 1 + n)
fields_given p n f e l few given = ok_both _ _ _ _ (given (omega arith))
