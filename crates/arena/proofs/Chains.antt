-- A chain with one more text.
use Rattle.std.proofs.Common.{◌≡◌, ℕ, ◌+◌, ◌≤◌, ◌⊎◌, List, ◌∷◌, sym, refl, inl, inr, ⊎_elim, arith}
use Rattle.cells.specs.Meaning.{Memory}
use Rattle.rules.specs.Lists.{In, Once}
use Rattle.rules.specs.Keys.{ascension}
use Rattle.rules.specs.Model.{Text, Model, string_fields}
use Rattle.rules.specs.Arena.{Next, now, Arena}
use Rattle.rules.specs.Arena as arena
use Rattle.arena.proofs.Spots.{Spot, spot_end, spot_here, spot_later}

module _ (m : Model) (a : Arena) (o : Memory) (t : Text) (c : ℕ) where
  pub spot_old : (cell : ℕ) (xs zs : List Text) (u : Text) → Spot m a o t c cell xs zs → In u xs → In u zs
  spot_old cell xs zs u (spot_end e) h = absurd h
  spot_old cell xs zs u (spot_here e g) h = inr h
  spot_old cell xs zs u (spot_later q l g w) (inl e) = inl e
  spot_old cell xs zs u (spot_later q l g w) (inr h) = inr (spot_old _ _ _ u w h)

  pub spot_new : (cell : ℕ) (xs zs : List Text) → Spot m a o t c cell xs zs → In t zs
  spot_new cell xs zs (spot_end e) = inl refl
  spot_new cell xs zs (spot_here e g) = inl refl
  spot_new cell xs zs (spot_later q l g w) = inr (spot_new _ _ _ w)

  pub spot_in : (cell : ℕ) (xs zs : List Text) (u : Text) → Spot m a o t c cell xs zs → In u zs → In u xs ⊎ (u ≡ t)
  spot_in cell xs zs u (spot_end e) h = ⊎_elim (λ i. inr i) (λ i. inl i) h
  spot_in cell xs zs u (spot_here e g) h = ⊎_elim (λ i. inr i) (λ i. inl i) h
  spot_in cell xs zs u (spot_later q l g w) (inl e) = inl (inl e)
  spot_in cell xs zs u (spot_later q l g w) (inr h) = ⊎_elim (λ j. inl (inr j)) (λ j. inr j) (spot_in _ _ _ u w h)

  pub spot_once : (cell : ℕ) (xs zs : List Text) → Spot m a o t c cell xs zs → (In t xs → ⊥) → Once xs → Once zs
  spot_once cell xs zs (spot_end e) n on = (λ h. h, tt)
  spot_once cell xs zs (spot_here e g) n on = (n, on)
  spot_once cell xs zs (spot_later {u = u} q l g w) n on =
      (λ h. ⊎_elim (λ i. on.0 i) (λ e. n (inl (sym e))) (spot_in _ _ _ u w h), spot_once _ _ _ w (λ h. n (inr h)) on.1)

  first_up : (cell : ℕ) (u : Text) (xs : List Text) (y : Text) (r : List Text) → Spot m a o t c cell xs (y ∷ r) → ascension a.bins u ≤ ascension a.bins t →
      ((z : Text) (ws : List Text) → Next (u ∷ xs) u (z ∷ ws) → ascension a.bins u ≤ ascension a.bins z) → ascension a.bins u ≤ ascension a.bins y
  first_up cell u xs y r (spot_end e) h ri = h
  first_up cell u xs y r (spot_here e g) h ri = h
  first_up cell u xs y r (spot_later q l g w) h ri = ri y _ now

  pub spot_rising : (cell : ℕ) (xs zs : List Text) → Spot m a o t c cell xs zs →
      ((x y : Text) (r : List Text) → Next xs x (y ∷ r) → ascension a.bins x ≤ ascension a.bins y) →
      (x y : Text) (r : List Text) → Next zs x (y ∷ r) → ascension a.bins x ≤ ascension a.bins y
  spot_rising cell xs zs (spot_end e) ri x y r (arena.later n) = elim n [ ]
  spot_rising cell xs zs (spot_here e g) ri x y r now = omega arith
  spot_rising cell xs zs (spot_here e g) ri x y r (arena.later n) = ri x y r n
  spot_rising cell xs zs (spot_later q l g w) ri x y r now = first_up (q + 1 + string_fields) x _ y r w g (λ z ws n. ri x z ws n)
  spot_rising cell xs zs (spot_later q l g w) ri x y r (arena.later n) = spot_rising _ _ _ w (λ b d k i. ri b d k (arena.later i)) x y r n
