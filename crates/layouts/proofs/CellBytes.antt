-- Writes of a whole cell into a row of bytes, over the cell's width.
use Rattle.std.proofs.Common.{◌≡◌, ℕ, ◌+◌, ◌*◌, ◌<◌, ◌≤◌, ◌≢◌, ◌⊎◌, List, length, get_or, inl, inr, ⊎_elim, mul-le-mul_left, mul-add, arith}
use native.Mathlib.Decide.{dec_lt}
use borrow.Rule.Slice.PartMut.{put_mid}
use Rattle.std.proofs.slice.Indexed.{places}
use Rattle.layouts.specs.CellBytes.{OneCell}

-- A byte of another cell lies below this cell's, or above them.
pub apart : (w k i j : ℕ) → k ≢ i → j < w → (w * k + j < w * i) ⊎ (w * i + w ≤ w * k + j)
apart w k i j ne h = elim (dec_lt k i) [
  | yes l ↦ inl (let le : k + 1 ≤ i = omega arith in omega (arith, mul-le-mul_left w le, mul-add w k 1))
  | no l ↦ inr (let le : i + 1 ≤ k = omega arith in omega (arith, mul-le-mul_left w le, mul-add w i 1))
]

-- A write into one cell leaves the bytes of the others.
pub other_bytes : (w : ℕ) (xs ys : List ℕ) (i : ℕ) → OneCell w xs i ys → (k : ℕ) → k ≢ i → (j : ℕ) → j < w → get_or ys (w * k + j) 0 ≡ get_or xs (w * k + j) 0
other_bytes w xs ys i one k ne j h = one.others (w * k + j) (apart w k i j ne h)

-- A list with k numbers put in the place of those from a on.
module _ (xs cs : List ℕ) (a k : ℕ) (as_many : length cs ≡ k) (fits : a + k ≤ length xs) where
  pub put_length : length (put_mid a k xs cs) ≡ length xs
  put_length = grind (arith, places)

  pub put_here : (j : ℕ) → j < k → get_or (put_mid a k xs cs) (a + j) 0 ≡ get_or cs j 0
  put_here j h = grind (arith, places)

  pub put_below : (n : ℕ) → n < a → get_or (put_mid a k xs cs) n 0 ≡ get_or xs n 0
  put_below n h = grind (arith, places)

  pub put_above : (n : ℕ) → a + k ≤ n → get_or (put_mid a k xs cs) n 0 ≡ get_or xs n 0
  put_above n h = grind (arith, places)

-- A cell that was written whole: k is its width.
pub put_one : (w : ℕ) (xs cs : List ℕ) (i k : ℕ) (as_many : length cs ≡ k) (fits : w * i + k ≤ length xs) → k ≡ w → OneCell w xs i (put_mid (w * i) k xs cs)
put_one w xs cs i k as_many fits whole =
    record {
      as_long = put_length xs cs (w * i) k as_many fits;
      others = λ a away. ⊎_elim (put_below xs cs (w * i) k as_many fits a) (λ h. put_above xs cs (w * i) k as_many fits a (omega arith)) away;
    }
