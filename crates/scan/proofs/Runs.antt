-- What a run of bytes is: digits, or a letter and then letters and digits.
use Rattle.std.proofs.Common.{◌≡◌, ℕ, zero, suc, ◌+◌, ◌-◌, ◌*◌, ◌<◌, ◌≤◌, Bool, true, false, cond, ◌&&◌, ◌||◌, eqb, ltb, List, [], ◌∷◌, Option, Bor, length, get_or, take, drop, fold, refl, ap, ◌∙◌, arith}
use Rattle.std.specs.List.{list_all, prefix_len}
use Rattle.std.specs.Fn.{Mut, CalledAt}
use Rattle.std.specs.Iterator.{Drains}
use Rattle.std.specs.Iterator.Adapters.{take_while_source, take_while_callee, take_while_done, take_while_steps}
use Rattle.std.specs.declared.iter.TakeWhile.{TakeWhile}
use Rattle.std.proofs.lemmas.Iterator.{YieldsList}
use Rattle.std.proofs.lemmas.Iterator.Consumers.{count_from_yields_List}
use Rattle.std.proofs.lemmas.Iterator.Search.{YieldsList-from_take_while}
use Rattle.std.proofs.lemmas.List.Folds.{length-prefix_len}
use Rattle.std.proofs.lemmas.Bool.Decides.{nat_tests}
use Rattle.std.proofs.lemmas.List.{take_all}
use Rattle.std.proofs.lemmas.List.Sums.{fold_more}
use Rattle.scan.specs.Tokens.{value, digit, digits, letter, letter_or_digit, every, wordly}

all_more : (p q : Bool) (m n : ℕ) → q ≡ eqb m n → (p && q) ≡ eqb (cond p (1 + m) 0) (suc n)
all_more true q m n e = grind (arith, nat_tests)
all_more false q m n e = grind (arith, nat_tests)

-- each byte passes just where all of them stand at the front
pub all_every : (p : ℕ → Bool) (bs : List ℕ) → list_all p bs ≡ every p bs
all_every p [] = refl
all_every p (b ∷ bs) = all_more (p b) (list_all p bs) (prefix_len p bs) (length bs) (all_every p bs)

and_true : (p q : Bool) → p ≡ true → q ≡ (p && q)
and_true true q e = refl
and_true false q e = cc

pub some_digits : (xs : List ℕ) (r : Bool) → 0 < length xs → r ≡ list_all digit xs → r ≡ digits xs
some_digits xs r h e = e ∙ all_every digit xs ∙ and_true (ltb 0 (length xs)) (every digit xs) (grind (arith, nat_tests))

from_letter : (l d more : Bool) → l ≡ true → more ≡ (l && ((l || d) && more))
from_letter true d more e = refl
from_letter false d more e = cc

-- behind a letter, letters and digits
pub letter_wordly : (xs : List ℕ) (r : Bool) → 0 < length xs → letter (get_or xs 0 0) ≡ true → r ≡ list_all letter_or_digit (take (length xs - 1) (drop 1 xs)) → r ≡ wordly xs
letter_wordly [] r h l e = absurd (omega arith)
letter_wordly (b ∷ bs) r h l e =
    e
    ∙ ap (list_all letter_or_digit) (take_all (length (b ∷ bs) - 1) bs (omega arith))
    ∙ from_letter (letter b) _ (list_all letter_or_digit bs) l
    ∙ ap (λ (z : Bool). letter b && z) (all_every letter_or_digit (b ∷ bs))

-- how many bytes `take_while(..).count()` finds at the front
module _ {S A F : Type 0} {steps : S → Option A → S → Type 0} {v : A → ℕ} {s : TakeWhile S F} {g : Mut F (Bor A × Unit {0}) Bool} {f : F} {r : ℕ} {xs : List ℕ} where
  pub front_len : (test : ℕ → Bool) → (ys : List A) × Drains (take_while_steps steps g) s ys × (r ≡ length ys) → YieldsList steps v (take_while_source s) xs → take_while_callee s ≡ f → take_while_done s ≡ false → ((x : A) (b : Bool) (q : F) → CalledAt g f x b q → (q ≡ f) × (b ≡ test (v x))) → r ≡ prefix_len test xs
  front_len test ran gives callee done calls = count_from_yields_List s r ran (YieldsList-from_take_while g test gives callee done calls) ∙ length-prefix_len test xs

abbrev step : ℕ → ℕ → ℕ
step n d = 10 * n + (d - 48)

fold_grows : (n : ℕ) (ds : List ℕ) → n ≤ fold step n ds
fold_grows n [] = omega arith
fold_grows n (d ∷ ds) = omega (arith, fold_grows (step n d) ds)

fold_front : (n i : ℕ) (ds : List ℕ) → fold step n (take i ds) ≤ fold step n ds
fold_front n zero ds = fold_grows n ds
fold_front n (suc i) [] = omega arith
fold_front n (suc i) (d ∷ ds) = fold_front (step n d) i ds

-- one digit more, and no number of fewer of them is larger
pub value_more : (ds : List ℕ) (i : ℕ) → i < length ds → value (take (i + 1) ds) ≡ 10 * value (take i ds) + (get_or ds i 0 - 48)
unfolding value
value_more ds i h = fold_more step 0 ds i 0 h

pub value_reached : (ds : List ℕ) (i : ℕ) → i < length ds → 10 * value (take i ds) + (get_or ds i 0 - 48) ≤ value ds
unfolding value
value_reached ds i h = omega (arith, fold_more step 0 ds i 0 h, fold_front 0 (i + 1) ds)
