-- Every token of a script that is not at its end takes at least one byte.
use Rattle.std.proofs.Common.{◌≡◌, ℕ, suc, ◌+◌, ◌<◌, ◌≤◌, Bool, true, false, cond, not, ◌||◌, eqb, ◌⊎◌, List, [], ◌∷◌, length, take, drop, IfOk, Ok, Err, Result, sym, refl, ap, ◌∙◌, subst, inl, inr, ⊎_elim, one-add, arith, length-drop}
use Rattle.std.specs.List.{prefix_len}
use Rattle.std.proofs.lemmas.Bool.{cond_both}
use Rattle.scan.specs.declared.types.Placed.{Placed}
use Rattle.scan.specs.declared.types.ReaderFault.{ReaderFault}
use Rattle.scan.specs.Tokens.{Next, found, text_next, run_next, next_here, next, space, unparted, printable, closed, opens, closes, line_end, none, text}
use Rattle.scan.specs.Taking.{tok_of, Took, Takes}
use Rattle.scan.specs.declared.types.Token.TheVariants as token

run_shorter : (b : ℕ) (bs : List ℕ) → eqb b 32 ≡ false → eqb b 10 ≡ false → eqb b 40 ≡ false → eqb b 41 ≡ false → length (drop (prefix_len unparted (b ∷ bs)) (b ∷ bs)) ≤ length bs
run_shorter b bs h i j k =
    let u : unparted b ≡ true = (λ t. not (h t || (i t || (j t || k t)))) in
    let n : prefix_len unparted (b ∷ bs) ≡ 1 + prefix_len unparted bs = ap (λ (t : Bool). cond t (1 + prefix_len unparted bs) 0) u in
    omega (arith, n, length-drop (prefix_len unparted (b ∷ bs)) (b ∷ bs))

text_shorter : (l c n : ℕ) (bs : List ℕ) → length (text_next l c bs n).rest ≤ length bs
text_shorter l c n bs =
    cond_both (closed n bs) (found l c (text (take n bs)) l (c + (n + 2)) (drop (n + 1) bs)) (found l c none l c bs) (λ (g : Next). length g.rest ≤ length bs)
    (λ e. omega (arith, length-drop (n + 1) bs)) (λ e. omega arith)

here_shorter : (l c b : ℕ) (bs : List ℕ) → eqb b 32 ≡ false → length (next_here l c (b ∷ bs)).rest ≤ length bs
unfolding next_here
here_shorter l c b bs h =
    let P : Next → Type 0 = λ g. length g.rest ≤ length bs in
    let run = run_next l c (b ∷ bs) (prefix_len unparted (b ∷ bs)) in
    let four = cond (eqb b 34) (text_next l c bs (prefix_len printable bs)) run in
    let three = cond (eqb b 41) (found l c closes l (c + 1) bs) four in
    let two = cond (eqb b 40) (found l c opens l (c + 1) bs) three in
    cond_both (eqb b 10) (found l c line_end (l + 1) 1 bs) two P (λ _. omega arith)
    (λ i. cond_both (eqb b 40) (found l c opens l (c + 1) bs) three P (λ _. omega arith)
    (λ j. cond_both (eqb b 41) (found l c closes l (c + 1) bs) four P (λ _. omega arith)
    (λ k. cond_both (eqb b 34) (text_next l c bs (prefix_len printable bs)) run P (λ _. text_shorter l c (prefix_len printable bs) bs)
    (λ _. run_shorter b bs h i j k))))

-- behind the spaces at the front stands no space
after_spaces : (xs : List ℕ) → (drop (prefix_len space xs) xs ≡ []) ⊎ ((b : ℕ) × (bs : List ℕ) × (drop (prefix_len space xs) xs ≡ b ∷ bs) × (eqb b 32 ≡ false))
after_spaces [] = inl refl
after_spaces (x ∷ xs) =
    let Q : ℕ → Type 0 = λ n. (drop n (x ∷ xs) ≡ []) ⊎ ((b : ℕ) × (bs : List ℕ) × (drop n (x ∷ xs) ≡ b ∷ bs) × (eqb b 32 ≡ false)) in
    cond_both (eqb x 32) (1 + prefix_len space xs) 0 Q (λ _. subst Q (sym (one-add (prefix_len space xs))) (after_spaces xs)) (λ e. inr (x, xs, refl, e))

pub next_shorter : (l c : ℕ) (xs : List ℕ) → 0 < length xs → length (next l c xs).rest < length xs
unfolding next next_here
next_shorter l c xs h =
    let k = c + prefix_len space xs in
    let ys = drop (prefix_len space xs) xs in
    let long = length-drop (prefix_len space xs) xs in
    ⊎_elim
    (λ e. let z : length (next_here l k ys).rest ≡ 0 = ap (λ (zs : List ℕ). length (next_here l k zs).rest) e in omega arith)
    (λ r. let z : length (next_here l k ys).rest ≡ length (next_here l k (r.0 ∷ r.1)).rest = ap (λ (zs : List ℕ). length (next_here l k zs).rest) r.2 in
    let w : length ys ≡ suc (length r.1) = ap length r.2 in
    omega (arith, here_shorter l k r.0 r.1 r.3))
    (after_spaces xs)

pub next_no_longer : (l c : ℕ) (xs : List ℕ) → length (next l c xs).rest ≤ length xs
unfolding next next_here
next_no_longer l c [] = omega arith
next_no_longer l c (x ∷ xs) = omega (arith, next_shorter l c (x ∷ xs) (omega arith))

pub takes_shorter : (l c : ℕ) (xs : List ℕ) (r : Result Placed ReaderFault) (m d : ℕ) (ys : List ℕ) → Takes (next l c xs) r m d ys → IfOk r (λ _. length ys ≤ length xs)
takes_shorter l c xs (Ok p) m d ys t = omega (arith, ap length t.rest, next_no_longer l c xs)
takes_shorter l c xs (Err f) m d ys t = tt

pub takes_eats : (l c : ℕ) (xs : List ℕ) (r : Result Placed ReaderFault) (m d : ℕ) (ys : List ℕ) → Takes (next l c xs) r m d ys → IfOk r (λ _. (0 < length xs → length ys < length xs))
takes_eats l c xs (Ok p) m d ys t = λ h. omega (arith, ap length t.rest, next_shorter l c xs h)
takes_eats l c xs (Err f) m d ys t = tt

-- a bracket does not stand at the end
pub open_eats : (l c : ℕ) (xs : List ℕ) (p : Placed) (m d : ℕ) (ys : List ℕ) → Took (next l c xs) p m d ys → p.token ≡ token.Open → length ys < length xs
unfolding next next_here
open_eats l c [] p m d ys t e = let f : opens ≡ line_end = sym (ap tok_of e) ∙ t.tok in cc
open_eats l c (x ∷ xs) p m d ys t e = omega (arith, ap length t.rest, next_shorter l c (x ∷ xs) (omega arith))
