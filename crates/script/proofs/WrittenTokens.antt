-- A token that is written is the next one that is read, with what was written behind it left over.
use Rattle.std.proofs.Common.{◌≡◌, ℕ, suc, ◌+◌, ◌-◌, ◌*◌, ◌^◌, ◌<◌, ◌≤◌, Bool, true, false, cond, not, ◌||◌, eqb, ltb, leb, List, [], ◌∷◌, ◌++◌, length, get_or, take, drop, decimal, fold, sym, refl, ap, ◌∙◌, subst, append_assoc, one-add, arith, length-append}
use Rattle.std.specs.Int.{IsInRange}
use Rattle.std.specs.List.{prefix_len}
use Rattle.std.proofs.lemmas.List.{take_at, drop_at, get_or_at}
use Rattle.std.proofs.lemmas.Bool.{eqb-true, eq-eqb, ne_eqb, leb-true, le-leb, lt-ltb, and_parts, and_from, or_parts, not-true, cond-true, cond-false}
use Rattle.std.proofs.lemmas.Str.Parse.{IsNumeralModel, IsDigitsTest, FoldsDigits, numerals_by_fold}
use Rattle.std.proofs.lemmas.Fmt.{decimal_nonempty, digits_decimal, digits_value-decimal}
use Rattle.scan.specs.Tokens.{Tok, opens, closes, numeral, word, text, line_end, none, Next, found, text_next, run_next, next_here, next, space, parting, unparted, digit, printable, parted, value, every, digits, wordly, positive, negative, plain_run, run_token, closed}
use Rattle.scan.proofs.Nexts.{run_next_lem, closed_text}

-- wherever xs stands, its first token is t, and ys is left
abbrev pub Gives : List ℕ → Tok → List ℕ → Type 0
Gives xs t ys = (l c : ℕ) → ((next l c xs).tok ≡ t) × ((next l c xs).rest ≡ ys)

pub gives_open : (ys : List ℕ) → Gives (40 ∷ ys) opens ys
unfolding next next_here
gives_open ys l c = (refl, refl)

pub gives_close : (ys : List ℕ) → Gives (41 ∷ ys) closes ys
unfolding next next_here
gives_close ys l c = (refl, refl)

pub gives_line : (ys : List ℕ) → Gives (10 ∷ ys) line_end ys
unfolding next next_here
gives_line ys l c = (refl, refl)

next_space : (l c : ℕ) (xs : List ℕ) → next l c (32 ∷ xs) ≡ next l (c + 1) xs
unfolding next
next_space l c xs =
    let n = prefix_len space xs in
    let p : c + (1 + n) ≡ (c + 1) + n = omega arith in
    let q : drop (1 + n) (32 ∷ xs) ≡ drop n xs = ap (λ (m : ℕ). drop m (32 ∷ xs)) (one-add n) in
    (λ i. next_here l (p i) (q i))

pub gives_space : (xs : List ℕ) (t : Tok) (ys : List ℕ) → Gives xs t ys → Gives (32 ∷ xs) t ys
gives_space xs t ys g l c =
    (ap (λ (n : Next). n.tok) (next_space l c xs) ∙ (g l (c + 1)).0, ap (λ (n : Next). n.rest) (next_space l c xs) ∙ (g l (c + 1)).1)

-- Runs of bytes that pass a test

module _ (p : ℕ → Bool) where
  front_parts : (b : Bool) (n m : ℕ) → cond b (1 + n) 0 ≡ suc m → (b ≡ true) × (n ≡ m)
  front_parts true n m e = (refl, omega arith)
  front_parts false n m e = absurd (omega arith)

  leading_on : (w ys : List ℕ) → prefix_len p w ≡ length w → prefix_len p (w ++ ys) ≡ length w + prefix_len p ys
  leading_on [] ys e = omega arith
  leading_on (x ∷ w) ys e =
      let f = front_parts (p x) (prefix_len p w) (length w) e in
      let h = leading_on w ys f.1 in
      ap (λ (b : Bool). cond b (1 + prefix_len p (w ++ ys)) 0) f.0 ∙ omega arith

  leading_also : (q : ℕ → Bool) → ((b : ℕ) → p b ≡ true → q b ≡ true) → (w : List ℕ) → prefix_len p w ≡ length w → prefix_len q w ≡ length w
  leading_also q h [] e = refl
  leading_also q h (x ∷ w) e =
      let f = front_parts (p x) (prefix_len p w) (length w) e in
      let k = leading_also q h w f.1 in
      ap (λ (b : Bool). cond b (1 + prefix_len q w) 0) (h x f.0) ∙ omega arith

  pub every_leading : (w : List ℕ) → every p w ≡ true → prefix_len p w ≡ length w
  every_leading w e = eqb-true (prefix_len p w) (length w) e

  pub every_first : (x : ℕ) (w : List ℕ) → every p (x ∷ w) ≡ true → (p x ≡ true) × (every p w ≡ true)
  every_first x w e =
      let f = front_parts (p x) (prefix_len p w) (length w) (every_leading (x ∷ w) e) in
      (f.0, eq-eqb (prefix_len p w) (length w) f.1)

  pub every_more : (x : ℕ) (w : List ℕ) → p x ≡ true → every p w ≡ true → every p (x ∷ w) ≡ true
  every_more x w e f =
      let h : prefix_len p (x ∷ w) ≡ length (x ∷ w) = ap (λ (b : Bool). cond b (1 + prefix_len p w) 0) e ∙ omega (arith, every_leading w f) in
      eq-eqb (prefix_len p (x ∷ w)) (length (x ∷ w)) h

-- a byte that parts nothing
module _ (b : ℕ) (u : unparted b ≡ true) where
  parts_of : (eqb b 32 ≡ false) × (eqb b 10 ≡ false) × (eqb b 40 ≡ false) × (eqb b 41 ≡ false)
  parts_of =
      let o = or_parts (eqb b 32) (eqb b 10 || (eqb b 40 || eqb b 41)) (not-true (parting b) u) in
      let q = or_parts (eqb b 10) (eqb b 40 || eqb b 41) o.1 in
      let r = or_parts (eqb b 40) (eqb b 41) q.1 in
      (o.0, q.0, r.0, r.1)

unparted_none : (ys : List ℕ) → parted ys ≡ true → prefix_len unparted ys ≡ 0
unparted_none [] h = refl
unparted_none (y ∷ ys) h = ap (λ (b : Bool). cond (not b) (1 + prefix_len unparted ys) 0) h

-- where no space stands, the next token begins
next_here_lem : (l c b : ℕ) (bs : List ℕ) → eqb b 32 ≡ false → next l c (b ∷ bs) ≡ next_here l (c + 0) (b ∷ bs)
unfolding next
next_here_lem l c b bs e =
    let n : prefix_len space (b ∷ bs) ≡ 0 = ap (λ (t : Bool). cond t (1 + prefix_len space bs) 0) e in
    ap (λ (m : ℕ). next_here l (c + m) (drop m (b ∷ bs))) n

-- a run of bytes that parts nothing, before one that does
gives_run : (b : ℕ) (bs ys : List ℕ) → every unparted (b ∷ bs) ≡ true → eqb b 34 ≡ false → parted ys ≡ true → Gives ((b ∷ bs) ++ ys) (run_token (b ∷ bs)) ys
gives_run b bs ys u q h l c =
    let w = b ∷ bs in
    let f = parts_of b (every_first unparted b bs u).0 in
    let n : prefix_len unparted (w ++ ys) ≡ length w = leading_on unparted w ys (every_leading unparted w u) ∙ omega (arith, unparted_none ys h) in
    let e : next l c (w ++ ys) ≡ run_next l (c + 0) (w ++ ys) (length w) =
    next_here_lem l c b (bs ++ ys) f.0 ∙ run_next_lem l (c + 0) (w ++ ys) b (bs ++ ys) refl f.1 f.2 f.3 q ∙ ap (run_next l (c + 0) (w ++ ys)) n in
    (ap (λ (g : Next). g.tok) e ∙ ap run_token (take_at w ys (length w) refl), ap (λ (g : Next). g.rest) e ∙ drop_at w ys (length w) refl)

pub gives_bytes : (w ys : List ℕ) → ltb 0 (length w) ≡ true → every unparted w ≡ true → eqb (get_or w 0 0) 34 ≡ false → parted ys ≡ true → Gives (w ++ ys) (run_token w) ys
gives_bytes [] ys some u q h = absurd cc
gives_bytes (b ∷ bs) ys some u q h = gives_run b bs ys u q h

-- Numbers

digit_bounds : (b : ℕ) → digit b ≡ true → IsInRange 48 57 b
digit_bounds b e = let f = and_parts (leb 48 b) (leb b 57) e in (leb-true 48 b f.0, leb-true b 57 f.1)

digit_unparted : (b : ℕ) → digit b ≡ true → unparted b ≡ true
digit_unparted b e =
    let f = digit_bounds b e in
    let low = f.0 in
    let s = ne_eqb b 32 (λ z. omega arith) in
    let n = ne_eqb b 10 (λ z. omega arith) in
    let o = ne_eqb b 40 (λ z. omega arith) in
    let k = ne_eqb b 41 (λ z. omega arith) in
    (λ i. not (s i || (n i || (o i || k i))))

tells : IsDigitsTest (λ ds. every digit ds ≡ true)
tells = record {
  empty = refl;
  parts = λ c cs h. let f = every_first digit c cs h in (digit_bounds c f.0, f.1);
  more = λ c cs h k. every_more digit c cs (and_from (leb 48 c) (leb c 57) (le-leb 48 c h.0) (le-leb c 57 h.1)) k;
}

value_from : ℕ → List ℕ → ℕ
value_from n ds = fold (λ m d. 10 * m + (d - 48)) n ds

folds : FoldsDigits value_from
unfolding value_from
folds = record {
  empty = λ n. refl;
  more = λ n c cs h. let e : 10 * n + (c - 48) ≡ n * 10 + (c - 48) = omega arith in ap (λ (m : ℕ). fold (λ k d. 10 * k + (d - 48)) m cs) e;
}

own : IsNumeralModel (λ ds. every digit ds ≡ true) (value_from 0)
own = numerals_by_fold _ tells value_from folds

value_written : (n : ℕ) → n < 2 ^ 64 → value (decimal n) ≡ n
unfolding value value_from
value_written n h = digits_value-decimal own n h

every_digit_written : (n : ℕ) → n < 2 ^ 64 → every digit (decimal n) ≡ true
every_digit_written n h = digits_decimal own n h

module _ (b : ℕ) (bs : List ℕ) (h : every digit (b ∷ bs) ≡ true) where
  digits_here : digits (b ∷ bs) ≡ true
  digits_here = and_from (ltb 0 (length (b ∷ bs))) (every digit (b ∷ bs)) (lt-ltb 0 (length (b ∷ bs)) (omega arith)) h

  run_positive : value (b ∷ bs) ≤ 2147483647 → run_token (b ∷ bs) ≡ numeral false (value (b ∷ bs))
  run_positive small =
      let f = digit_bounds b (every_first digit b bs h).0 in
      let low = f.0 in
      let m : eqb b 45 ≡ false = ne_eqb b 45 (λ z. omega arith) in
      let d = digits_here in
      let s = le-leb (value (b ∷ bs)) 2147483647 small in
      cond-false (eqb b 45) (negative bs) (plain_run (b ∷ bs)) m
      ∙ cond-true (digits (b ∷ bs)) (positive (b ∷ bs)) (cond (wordly (b ∷ bs)) (word (b ∷ bs)) none) d
      ∙ cond-true (leb (value (b ∷ bs)) 2147483647) (numeral false (value (b ∷ bs))) none s

  run_negative : value (b ∷ bs) ≤ 2147483648 → run_token (45 ∷ b ∷ bs) ≡ numeral true (value (b ∷ bs))
  run_negative small =
      let d = digits_here in
      let s = le-leb (value (b ∷ bs)) 2147483648 small in
      let both = and_from (digits (b ∷ bs)) (leb (value (b ∷ bs)) 2147483648) d s in
      ap (λ (t : Bool). cond t (numeral true (value (b ∷ bs))) none) both

gives_digits : (ds ys : List ℕ) → every digit ds ≡ true → 0 < length ds → value ds ≤ 2147483647 → parted ys ≡ true → Gives (ds ++ ys) (numeral false (value ds)) ys
gives_digits [] ys h some small p = absurd (omega arith)
gives_digits (b ∷ bs) ys h some small p =
    let f = digit_bounds b (every_first digit b bs h).0 in
    let low = f.0 in
    let u : every unparted (b ∷ bs) ≡ true = eq-eqb _ _ (leading_also digit unparted digit_unparted (b ∷ bs) (every_leading digit (b ∷ bs) h)) in
    subst (λ (t : Tok). Gives ((b ∷ bs) ++ ys) t ys) (run_positive b bs h small) (gives_run b bs ys u (ne_eqb b 34 (λ z. omega arith)) p)

gives_minus : (ds ys : List ℕ) → every digit ds ≡ true → 0 < length ds → value ds ≤ 2147483648 → parted ys ≡ true → Gives ((45 ∷ ds) ++ ys) (numeral true (value ds)) ys
gives_minus [] ys h some small p = absurd (omega arith)
gives_minus (b ∷ bs) ys h some small p =
    let u : every unparted (b ∷ bs) ≡ true = eq-eqb _ _ (leading_also digit unparted digit_unparted (b ∷ bs) (every_leading digit (b ∷ bs) h)) in
    subst (λ (t : Tok). Gives ((45 ∷ b ∷ bs) ++ ys) t ys) (run_negative b bs h small) (gives_run 45 (b ∷ bs) ys (every_more unparted 45 (b ∷ bs) refl u) refl p)

pub gives_natural : (n : ℕ) (ys : List ℕ) → n ≤ 2147483647 → parted ys ≡ true → Gives (decimal n ++ ys) (numeral false n) ys
gives_natural n ys small p =
    let e = value_written n (omega arith) in
    subst (λ (m : ℕ). Gives (decimal n ++ ys) (numeral false m) ys) e
    (gives_digits (decimal n) ys (every_digit_written n (omega arith)) (decimal_nonempty n (omega arith)) (omega (arith, e)) p)

pub gives_negative : (n : ℕ) (ys : List ℕ) → n ≤ 2147483648 → parted ys ≡ true → Gives ((45 ∷ decimal n) ++ ys) (numeral true n) ys
gives_negative n ys small p =
    let e = value_written n (omega arith) in
    subst (λ (m : ℕ). Gives ((45 ∷ decimal n) ++ ys) (numeral true m) ys) e
    (gives_minus (decimal n) ys (every_digit_written n (omega arith)) (decimal_nonempty n (omega arith)) (omega (arith, e)) p)

-- Texts

module _ (t ys : List ℕ) (h : every printable t ≡ true) (p : parted ys ≡ true) where
  bytes : List ℕ
  bytes = t ++ 34 ∷ ys

  text_front : prefix_len printable bytes ≡ length t
  unfolding bytes
  text_front = leading_on printable t (34 ∷ ys) (every_leading printable t h) ∙ omega arith

  text_behind : drop (length t + 1) bytes ≡ ys
  unfolding bytes
  text_behind = ap (λ (w : List ℕ). drop (length t + 1) w) (sym (append_assoc t (34 ∷ []) ys)) ∙ drop_at (t ++ 34 ∷ []) ys (length t + 1) (length-append t (34 ∷ []))

  text_closed : closed (length t) bytes ≡ true
  unfolding bytes
  text_closed =
      let long : ltb (length t) (length (t ++ 34 ∷ ys)) ≡ true = lt-ltb _ _ (omega (arith, length-append t (34 ∷ ys))) in
      let quote : eqb (get_or (t ++ 34 ∷ ys) (length t) 0) 34 ≡ true = eq-eqb _ _ (get_or_at t 34 ys 0 (length t) refl) in
      and_from _ _ long (and_from _ _ quote (ap parted text_behind ∙ p))

  pub gives_text : Gives (34 ∷ (t ++ 34 ∷ ys)) (text t) ys
  unfolding next next_here bytes
  gives_text l c =
      let e : text_next l (c + 0) bytes (prefix_len printable bytes) ≡ found l (c + 0) (text (take (length t) bytes)) l ((c + 0) + (length t + 2)) (drop (length t + 1) bytes) =
      ap (text_next l (c + 0) bytes) text_front ∙ closed_text l (c + 0) (length t) bytes text_closed in
      (ap (λ (g : Next). g.tok) e ∙ ap text (take_at t (34 ∷ ys) (length t) refl), ap (λ (g : Next). g.rest) e ∙ text_behind)
