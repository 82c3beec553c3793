-- A head or a link that ends its chain, or leads to a string.
use Rattle.std.proofs.Common.{◌≡◌, ℕ, pos, Some, None, Ok, Err, Option, Result, subst}
use Rattle.cells.specs.declared.Descriptor.{Descriptor}
use Rattle.arena.specs.declared.faults.HeapFault.{HeapFault}
use Rattle.arena.proofs.Outcomes.{ok_not_err}

-- At the end A holds, and of the title that the descriptor leads to B does.
pub data Leads (d : Descriptor) (A : Type 0) (B : ℕ → Type 0) : Type 0 where
  ends : d.flags ≡ 0 → A → Leads d A B
  leads : (q : ℕ) → d.flags ≡ 16 → d.value ≡ pos q → B q → Leads d A B

-- By the answer f of following it.
module _ (d : Descriptor) (f : Result (Option ℕ) HeapFault) (last : d.flags ≡ 0 → f ≡ Ok None) (more : (q : ℕ) → d.flags ≡ 16 → d.value ≡ pos q → f ≡ Ok (Some q))
    {A : Type 0} {B : ℕ → Type 0} where
  pub not_failed : {C : Type 0} {x : HeapFault} → Leads d A B → f ≡ Err x → C
  not_failed (ends z h) e = ok_not_err (last z) e
  not_failed (leads q z v h) e = ok_not_err (more q z v) e

  pub at_end : Leads d A B → f ≡ Ok None → A
  at_end (ends z h) e = h
  at_end (leads q z v h) e = let m = more q z v in cc

  pub at_next : (p : ℕ) → Leads d A B → f ≡ Ok (Some p) → B p
  at_next p (ends z h) e = let l = last z in cc
  at_next p (leads q z v h) e = let m = more q z v in let y : q ≡ p = cc in subst B y h
