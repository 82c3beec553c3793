-- Cells of eight bytes: which bytes a view reads, and what a write of a cell leaves of the views.
use Rattle.std.proofs.Common.{◌≡◌, ℕ, ◌+◌, ◌*◌, ◌/◌, ◌%◌, ◌^◌, ◌<◌, ◌≤◌, min, List, length, get_or, ap, ◌∙◌, arith, lit<}
use native.Mathlib.Decide.{dec_lt}
use borrow.Rule.Slice.PartMut.{put_mid}
use Rattle.std.specs.List.{between}
use Rattle.std.proofs.lemmas.List.Edits.{get_or-between}
use Rattle.std.proofs.lemmas.Bool.Decides.{nat_tests}
use Rattle.cells.specs.declared.Descriptor.{Descriptor}
use Rattle.cells.specs.Meaning.{WroteDescriptor, Moved}
use Rattle.layouts.specs.CellBytes.{byte, OneCell}
use Rattle.layouts.specs.Byte8.{figures, bytes_descriptor, shown}
use Rattle.layouts.proofs.CellBytes.{other_bytes, put_here, put_one}

-- A descriptor is made of eight bytes.
pub same_descriptor : (f g : ℕ → ℕ) → ((j : ℕ) → j < 8 → f j ≡ g j) → bytes_descriptor f ≡ bytes_descriptor g
same_descriptor f g h =
    let e0 = h 0 (lit< tt) in
    let e1 = h 1 (lit< tt) in
    let e2 = h 2 (lit< tt) in
    let e3 = h 3 (lit< tt) in
    let e4 = h 4 (lit< tt) in
    let e5 = h 5 (lit< tt) in
    let e6 = h 6 (lit< tt) in
    let e7 = h 7 (lit< tt) in
    cc

module _ (xs ys : List ℕ) where
  -- Two cells with the same bytes have the same views.
  module _ (i k : ℕ) (same : (j : ℕ) → j < 8 → get_or ys (8 * k + j) 0 ≡ get_or xs (8 * i + j) 0) where
    pub cell_descriptor : (shown ys).descriptor k ≡ (shown xs).descriptor i
    cell_descriptor =
        same_descriptor (λ j. byte ys (8 * k + j)) (λ j. byte xs (8 * i + j)) (λ j h. ap (λ (n : ℕ). n % 2 ^ 8) (same j h))

    pub cell_character : (j : ℕ) → (shown ys).character k j ≡ (shown xs).character i j
    cell_character j =
        elim (dec_lt j 8) [
          | yes h ↦ (let e = same j h in grind (arith, nat_tests, e))
          | no h ↦ grind (arith, nat_tests)
        ]

  module _ (i : ℕ) (one : OneCell 8 xs i ys) where
    pub same_figures : (shown ys).figures ≡ (shown xs).figures
    same_figures = ap (λ (n : ℕ). figures (min (n / 8) 65535)) one.as_long

    pub wrote : (d : Descriptor) → bytes_descriptor (λ j. byte ys (8 * i + j)) ≡ d → WroteDescriptor (shown xs) i d (shown ys)
    wrote d e =
        record {
          figures = same_figures;
          here = e;
          descriptors = λ k ne. cell_descriptor k k (other_bytes 8 xs ys i one k ne);
          characters = λ k j ne. cell_character k k (other_bytes 8 xs ys i one k ne) j;
        }

    pub moved : (from : ℕ) → ((j : ℕ) → j < 8 → get_or ys (8 * i + j) 0 ≡ get_or xs (8 * from + j) 0) → Moved (shown xs) from i (shown ys)
    moved from e =
        record {
          figures = same_figures;
          descriptor_here = cell_descriptor from i e;
          characters_here = cell_character from i e;
          descriptors = λ k ne. cell_descriptor k k (other_bytes 8 xs ys i one k ne);
          characters = λ k j ne. cell_character k k (other_bytes 8 xs ys i one k ne) j;
        }

-- The part of a list that is a cell's.
pub part_descriptor : (xs : List ℕ) (i : ℕ) → bytes_descriptor (byte (between (8 * i) (8 * i + 8) xs)) ≡ (shown xs).descriptor i
part_descriptor xs i =
    same_descriptor (byte (between (8 * i) (8 * i + 8) xs)) (λ j. byte xs (8 * i + j))
    (λ j h. let l : 8 * i + j < 8 * i + 8 = omega arith in ap (λ (n : ℕ). n % 2 ^ 8) (get_or-between xs (8 * i) (8 * i + 8) j 0 l))

-- A cell of eight bytes that was written whole.
pub put_descriptor : (xs cs : List ℕ) (i k : ℕ) (as_many : length cs ≡ k) (fits : 8 * i + k ≤ length xs) → k ≡ 8 →
    (d : Descriptor) → bytes_descriptor (byte cs) ≡ d → WroteDescriptor (shown xs) i d (shown (put_mid (8 * i) k xs cs))
put_descriptor xs cs i k as_many fits eight d e =
    wrote xs (put_mid (8 * i) k xs cs) i (put_one 8 xs cs i k as_many fits eight) d
    (same_descriptor (λ j. byte (put_mid (8 * i) k xs cs) (8 * i + j)) (byte cs) (λ j h. ap (λ (n : ℕ). n % 2 ^ 8) (put_here xs cs (8 * i) k as_many fits j (omega arith))) ∙ e)
