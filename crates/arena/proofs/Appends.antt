-- One more thing at the end of an order.
use Rattle.std.proofs.Common.{◌≡◌, ℕ, ◌+◌, ◌⊎◌, List, [], ◌∷◌, ◌++◌, sym, refl, subst, inl, inr, ⊎_elim, arith}
use Rattle.rules.specs.Lists.{In, Once, total}
use Rattle.rules.specs.Model.{Thing}
use Rattle.rules.specs.Arena.{Lies, here, later}
use Rattle.rules.proofs.Lists.{in_right, in_either, total_append}
use Rattle.rules.proofs.Lies.{lies_at, lies_either}

module _ (s : Thing → ℕ) (y : Thing) where
  pub lies_last : (a : ℕ) (xs : List Thing) (q : ℕ) → q ≡ a + total s xs → Lies s a (xs ++ (y ∷ [])) y q
  lies_last a xs q e = subst (λ (i : ℕ). Lies s a (xs ++ (y ∷ [])) y i) (sym e) (lies_at s a y xs [])

  single : (a : ℕ) (x : Thing) (q : ℕ) → Lies s a (y ∷ []) x q → (x ≡ y) × (q ≡ a)
  single a x q here = (refl, refl)
  single a x q (later l) = elim l [ ]

  pub lies_new : (a : ℕ) (xs : List Thing) (x : Thing) (q : ℕ) → Lies s a (xs ++ (y ∷ [])) x q → Lies s a xs x q ⊎ ((x ≡ y) × (q ≡ a + total s xs))
  lies_new a xs x q l = ⊎_elim (λ i. inl i) (λ i. inr (single (a + total s xs) x q i)) (lies_either s a q x xs (y ∷ []) l)

  pub total_last : (xs : List Thing) → total s (xs ++ (y ∷ [])) ≡ total s xs + s y
  total_last xs = omega (arith, total_append s xs (y ∷ []))

module _ {A : Type 0} (y : A) where
  pub in_last : (xs : List A) → In y (xs ++ (y ∷ []))
  in_last xs = in_right y xs (y ∷ []) (inl refl)

  pub in_new : (xs : List A) (x : A) → In x (xs ++ (y ∷ [])) → In x xs ⊎ (x ≡ y)
  in_new xs x h = ⊎_elim (λ i. inl i) (λ i. ⊎_elim (λ e. inr e) (λ e. absurd e) i) (in_either x xs (y ∷ []) h)

  pub once_last : (xs : List A) → Once xs → (In y xs → ⊥) → Once (xs ++ (y ∷ []))
  once_last [] on n = (λ h. h, tt)
  once_last (x ∷ xs) on n =
      (λ h. ⊎_elim (λ i. on.0 i) (λ e. n (inl (sym e))) (in_new xs x h), once_last xs on.1 (λ h. n (inr h)))
