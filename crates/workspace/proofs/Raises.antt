-- What a heap's answer is, by the answer with the call and the register beside its fault.
use Rattle.std.proofs.Common.{◌≡◌, ℕ, IfErr, Some, None, Ok, Err, Option, Result, sym, refl, ap, ◌∙◌, arith}
use Rattle.rules.specs.declared.Word.{Word}
use Rattle.arena.specs.declared.faults.HeapFault.{HeapFault}
use Rattle.arena.proofs.Outcomes.{ok_same, ok_not_err}
use Rattle.workspace.specs.declared.faults.Raised.{Raised}
use Rattle.workspace.specs.Reports.{raised}

-- An `Err` is one fault, and `None` is no `Some`.
pub err_same : {A E : Type 0} (e f : E) → ◌≡◌ {A = Result A E} (Err e) (Err f) → e ≡ f
err_same e f p = cc

pub none_not_some : {A C : Type 0} {o : Option A} {x : A} → o ≡ None → o ≡ Some x → C
none_not_some p q = absurd (let z : ◌≡◌ {A = ℕ} 0 1 = cc in omega arith)

-- The heap answers y.
pub raised_ok : {T : Type 0} (r : Result T HeapFault) (w : Word) (k : ℕ) (x y : T) → Ok x ≡ raised r w k → r ≡ Ok y → x ≡ y
raised_ok r w k x y e p = ok_same {E = Raised} x y (e ∙ ap (λ q. raised q w k) p)

pub raised_never : {T C : Type 0} (r : Result T HeapFault) (w : Word) (k : ℕ) (x : Raised) (y : T) → Err x ≡ raised r w k → r ≡ Ok y → C
raised_never r w k x y e p = ok_not_err {a = y} {x = x} (ap (λ q. raised q w k) p) (sym e)

-- A fault has the call and the register that were put beside it.
pub raised_call : {T : Type 0} (r : Result T HeapFault) (w : Word) (k : ℕ) (x : Raised) → Err x ≡ raised r w k → x.call ≡ w
raised_call (Ok y) w k x e = ok_not_err {a = y} refl (sym e)
raised_call (Err h) w k x e = cc

-- The heap refuses.
pub raised_err : {T : Type 0} (r : Result T HeapFault) (w : Word) (k : ℕ) (x : Raised) (h : HeapFault) → Err x ≡ raised r w k → r ≡ Err h →
    x ≡ record { fault = h; call = w; register = k }
raised_err {T} r w k x h e p = err_same x _ (e ∙ ap (λ q. raised q w k) p)
  where
    err_same : (x y : Raised) → ◌≡◌ {A = Result T Raised} (Err x) (Err y) → x ≡ y
    err_same x y e = cc

pub raised_not : {T C : Type 0} (r : Result T HeapFault) (w : Word) (k : ℕ) (x : T) (h : HeapFault) → Ok x ≡ raised r w k → r ≡ Err h → C
raised_not r w k x h e p = ok_not_err {a = x} (sym e) (ap (λ q. raised q w k) p)

-- What holds where the heap refuses.
pub raised_kept : {T : Type 0} (P : Type 0) (r : Result T HeapFault) (w : Word) (k : ℕ) (x : Raised) → Err x ≡ raised r w k → IfErr r (λ _. P) → P
raised_kept P (Ok y) w k x e h = ok_not_err {a = y} refl (sym e)
raised_kept P (Err f) w k x e h = h

-- A fault that was raised is the heap's, and an answer too.
pub raised_since : {T : Type 0} (r : Result T HeapFault) (w : Word) (k : ℕ) (x : Raised) → Err x ≡ raised r w k →
    (h : HeapFault) × (r ≡ Err h) × (x ≡ record { fault = h; call = w; register = k })
raised_since (Ok y) w k x e = ok_not_err {a = y} refl (sym e)
raised_since {T} (Err h) w k x e = (h, refl, raised_err {T = T} (Err h) w k x h e refl)

pub raised_gave : {T : Type 0} (r : Result T HeapFault) (w : Word) (k : ℕ) (x : T) → Ok x ≡ raised r w k → r ≡ Ok x
raised_gave (Ok y) w k x e = ap Ok (sym (ok_same {E = Raised} x y e))
raised_gave (Err h) w k x e = ok_not_err {a = x} (sym e) refl
