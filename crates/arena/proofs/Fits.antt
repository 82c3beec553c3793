-- Texts that a store takes, and the first character that it does not.
use Rattle.std.proofs.Common.{◌≡◌, ℕ, zero, suc, ◌+◌, ◌<◌, ◌≤◌, Bool, true, false, cond, [], ◌∷◌, length, get_or, Ok, Err, sym, refl, ap, ◌∙◌, arith}
use Rattle.std.proofs.lemmas.Bool.{cond-true, cond-false, le-leb}
use Rattle.std.specs.List.{AllWithin, HoldsAt}
use Rattle.cells.specs.declared.StoreFault.TheVariants.{BadCode}
use Rattle.cells.specs.Meaning.{Figures}
use Rattle.rules.specs.declared.Layer.{Layer}
use Rattle.rules.specs.Model.{Text}
use Rattle.rules.specs.Calls.{Act, refuse, takes, characters_then}
use Rattle.arena.specs.declared.faults.HeapFault.TheVariants.{Cells}
use Rattle.arena.specs.Faults.{heap_then}
use Rattle.arena.specs.Texts.{first_refused, fit_text}

all_taken : (f : Figures) (q : ℕ) (t : Text) → ((i : ℕ) → i < length t → takes f (get_or t i 0) ≡ true) → first_refused f q t ≡ Ok tt
all_taken f q [] h = refl
all_taken f q (x ∷ xs) h = cond-true (takes f x) _ _ (h 0 (omega arith)) ∙ all_taken f (suc q) xs (λ i l. h (suc i) (omega arith))

one_refused : (f : Figures) (q : ℕ) (t : Text) (p : ℕ) → p < length t → ((i : ℕ) → i < p → takes f (get_or t i 0) ≡ true) → takes f (get_or t p 0) ≡ false →
    first_refused f q t ≡ Err (Cells BadCode (q + p))
one_refused f q [] p l h k = absurd (omega arith)
one_refused f q (x ∷ xs) zero l h k = cond-false (takes f x) _ _ k ∙ ap (λ (n : ℕ). Err (Cells BadCode n)) (omega arith)
one_refused f q (x ∷ xs) (suc p) l h k =
    cond-true (takes f x) _ _ (h 0 (omega arith)) ∙ one_refused f (suc q) xs p (omega arith) (λ i m. h (suc i) (omega arith)) k
    ∙ ap (λ (n : ℕ). Err (Cells BadCode n)) (omega arith)

-- By what `position` gives.
pub fits_whole : (f : Figures) (t : Text) → length t ≤ 1024 → AllWithin (λ x. takes f x ≡ true) t 0 (length t) → Ok tt ≡ fit_text f t
fits_whole f t short h = sym (cond-true _ _ _ (le-leb (length t) 1024 short) ∙ all_taken f 0 t (λ i l. h i 0 (omega arith) l))

pub fits_until : (f : Figures) (t : Text) (p : ℕ) → length t ≤ 1024 → (p < length t) × HoldsAt (λ x. takes f x ≡ false) t p × AllWithin (λ x. takes f x ≡ true) t 0 p →
    Err (Cells BadCode p) ≡ fit_text f t
fits_until f t p short h =
    sym (cond-true _ _ _ (le-leb (length t) 1024 short) ∙ one_refused f 0 t p h.0 (λ i l. h.2 i 0 (omega arith) l) (h.1 0) ∙ ap (λ (k : ℕ). Err (Cells BadCode k)) (omega arith))

-- The check of a call's characters is this one.
pub characters_as : (f : Figures) (r q : ℕ) (t : Text) (a : Act) → characters_then f r q t a ≡ heap_then (first_refused f q t) r a
characters_as f r q [] a = refl
characters_as f r q (x ∷ xs) a = by (takes f x) (characters_as f r (suc q) xs a)
  where
    by : (b : Bool) → characters_then f r (suc q) xs a ≡ heap_then (first_refused f (suc q) xs) r a →
        cond b (characters_then f r (suc q) xs a) (refuse 4 Layer.Store r q) ≡ heap_then (cond b (first_refused f (suc q) xs) (Err (Cells BadCode q))) r a
    by true h = h
    by false h = refl
