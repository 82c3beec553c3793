-- Descriptors agree where the values do.
use Rattle.std.proofs.Common.{◌≡◌, ℕ, ◌≤◌, true, false, cond, ◌⊎◌, pos, sym, ap, ◌∙◌, subst, inl, inr, arith}
use Rattle.std.proofs.lemmas.Bool.{false≢true, cases_Bool, cond-true, cond-false}
use Rattle.cells.specs.declared.Descriptor.{Descriptor}
use Rattle.rules.specs.Model.{Value, Model, register, size, same_value}
use Rattle.rules.specs.Arena.{Arena, Codes}
use Rattle.rules.proofs.Coded.{coded_inj, coded_one}
use Rattle.rules.proofs.Tests.{value_true, value_decides}
use Rattle.workspace.specs.Shown.{View, Shown, holding}
use Rattle.workspace.proofs.Steps.{proper_in}

module _ (m : Model) (a : Arena) (v : View) (h : Shown m a v) (r s : ℕ) (r_there : r ≤ 31) (s_there : s ≤ 31) where
  code_r : Codes m a v.memory (register m r) (holding v r)
  code_r = h.registers r (omega arith)

  code_s : Codes m a v.memory (register m s) (holding v s)
  code_s = h.registers s (omega arith)

  -- Equal values have one descriptor, and one descriptor has one value.
  pub values_agree : register m r ≡ register m s → holding v r ≡ holding v s
  values_agree e =
      coded_one (size v.memory.figures.places m) h.shows.lawful.once (subst (λ (x : Value). Codes m a v.memory x (holding v r)) e code_r) code_s

  pub parts_agree : holding v r ≡ holding v s → register m r ≡ register m s
  parts_agree e =
      coded_inj v.memory.figures.places m (holding v s) (proper_in h r) (proper_in h s) (subst (λ (d : Descriptor). Codes m a v.memory (register m r) d) e code_r) code_s

-- What `same` answers.
pub same_count : (m : Model) (a : Arena) (v : View) → Shown m a v → (r s n : ℕ) → r ≤ 31 → s ≤ 31 → (holding v r ≡ holding v s → n ≡ 1) → ((holding v r ≡ holding v s → ⊥) → n ≡ 0) →
    cond (same_value (register m r) (register m s)) (pos 1) (pos 0) ≡ pos n
same_count m a v h r s n rt st equal unequal = by (cases_Bool (same_value (register m r) (register m s)))
  where
    by : (same_value (register m r) (register m s) ≡ true) ⊎ (same_value (register m r) (register m s) ≡ false) → cond (same_value (register m r) (register m s)) (pos 1) (pos 0) ≡ pos n
    by (inl e) = cond-true _ (pos 1) (pos 0) e ∙ ap pos (sym (equal (values_agree m a v h r s rt st (value_true _ _ e))))
    by (inr e) =
        cond-false _ (pos 1) (pos 0) e ∙ ap pos (sym (unequal (λ d. false≢true (sym e ∙ (value_decides _ _).1 (parts_agree m a v h r s rt st d)))))
