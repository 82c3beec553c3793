-- The token that begins here, by the first byte.
use Rattle.std.proofs.Common.{◌≡◌, ℕ, suc, ◌+◌, ◌-◌, ◌<◌, ◌≤◌, ◌≢◌, Bool, true, false, cond, eqb, List, [], ◌∷◌, Some, None, Ok, Err, Option, length, get_or, take, drop, sym, refl, ap, ◌∙◌, arith, length-drop}
use Rattle.std.specs.List.{prefix_len}
use Rattle.std.proofs.lemmas.List.{take_all}
use Rattle.std.proofs.lemmas.Bool.{cond_both, ne_eqb}
use Rattle.std.specs.Option.{ok_or}
use Rattle.scan.specs.declared.types.Token.{Token}
use Rattle.scan.specs.declared.types.ReaderFault.{ReaderFault}
use Rattle.scan.specs.declared.types.ReaderFault.TheVariants as fault
use Rattle.scan.specs.Tokens.{Next, opens, closes, line_end, none, text, found, text_next, run_next, next_here, next, space, printable, unparted, closed, run_token}
use Rattle.scan.specs.Taking.{Classified, Finds, Took, tok_of}
use Rattle.scan.specs.Forms.{no_token_at}

-- what a pattern calls the rest
pub rest_drop : (xs : List ℕ) → take (length xs - 1) (drop 1 xs) ≡ drop 1 xs
rest_drop xs = take_all (length xs - 1) (drop 1 xs) (omega (arith, length-drop 1 xs))

pub closed_text : (l c n : ℕ) (bs : List ℕ) → closed n bs ≡ true → text_next l c bs n ≡ found l c (text (take n bs)) l (c + (n + 2)) (drop (n + 1) bs)
closed_text l c n bs h = ap (λ (t : Bool). cond t (found l c (text (take n bs)) l (c + (n + 2)) (drop (n + 1) bs)) (found l c none l c bs)) h

unclosed_text : (l c n : ℕ) (bs : List ℕ) → closed n bs ≡ false → text_next l c bs n ≡ found l c none l c bs
unclosed_text l c n bs h = ap (λ (t : Bool). cond t (found l c (text (take n bs)) l (c + (n + 2)) (drop (n + 1) bs)) (found l c none l c bs)) h

module _ (l c : ℕ) where
  pub nil_next : (xs : List ℕ) → length xs < 1 → next_here l c xs ≡ found l c line_end l c xs
  unfolding next_here
  nil_next [] h = refl
  nil_next (x ∷ xs) h = absurd (omega arith)

  pub line_next : (xs : List ℕ) → 1 ≤ length xs → get_or xs 0 0 ≡ 10 → next_here l c xs ≡ found l c line_end (l + 1) 1 (drop 1 xs)
  unfolding next_here
  line_next [] h e = absurd (omega arith)
  line_next (x ∷ xs) h e = ap (λ (m : ℕ). next_here l c (m ∷ xs)) e

  pub open_next : (xs : List ℕ) → 1 ≤ length xs → get_or xs 0 0 ≡ 40 → next_here l c xs ≡ found l c opens l (c + 1) (drop 1 xs)
  unfolding next_here
  open_next [] h e = absurd (omega arith)
  open_next (x ∷ xs) h e = ap (λ (m : ℕ). next_here l c (m ∷ xs)) e

  pub close_next : (xs : List ℕ) → 1 ≤ length xs → get_or xs 0 0 ≡ 41 → next_here l c xs ≡ found l c closes l (c + 1) (drop 1 xs)
  unfolding next_here
  close_next [] h e = absurd (omega arith)
  close_next (x ∷ xs) h e = ap (λ (m : ℕ). next_here l c (m ∷ xs)) e

  quote_next : (xs : List ℕ) → 1 ≤ length xs → get_or xs 0 0 ≡ 34 → next_here l c xs ≡ text_next l c (drop 1 xs) (prefix_len printable (drop 1 xs))
  unfolding next_here
  quote_next [] h e = absurd (omega arith)
  quote_next (x ∷ xs) h e = ap (λ (m : ℕ). next_here l c (m ∷ xs)) e

  drop_two : (xs : List ℕ) (n : ℕ) → 1 ≤ length xs → drop (n + 1) (drop 1 xs) ≡ drop (n + 2) xs
  drop_two [] n h = absurd (omega arith)
  drop_two (x ∷ xs) n h = let e : suc (n + 1) ≡ n + 2 = omega arith in ap (λ (m : ℕ). drop m (x ∷ xs)) e

  -- behind a quote, where n bytes may stand in a text: it is closed there, or it is no token
  module _ (xs : List ℕ) (n : ℕ) (h : 1 ≤ length xs) (e : get_or xs 0 0 ≡ 34) (i : n ≡ prefix_len printable (drop 1 xs)) where
    by_quote : next_here l c xs ≡ text_next l c (drop 1 xs) n
    by_quote = quote_next xs h e ∙ ap (text_next l c (drop 1 xs)) (sym i)

    pub text_here : closed n (drop 1 xs) ≡ true → next_here l c xs ≡ found l c (text (take n (drop 1 xs))) l (c + (n + 2)) (drop (n + 2) xs)
    text_here s = by_quote ∙ closed_text l c n (drop 1 xs) s ∙ ap (found l c (text (take n (drop 1 xs))) l (c + (n + 2))) (drop_two xs n h)

    pub no_text_here : closed n (drop 1 xs) ≡ false → next_here l c xs ≡ found l c none l c (drop 1 xs)
    no_text_here s = by_quote ∙ unclosed_text l c n (drop 1 xs) s

  pub run_next_lem : (xs : List ℕ) (b : ℕ) (bs : List ℕ) → xs ≡ b ∷ bs → eqb b 10 ≡ false → eqb b 40 ≡ false → eqb b 41 ≡ false → eqb b 34 ≡ false → next_here l c xs ≡ run_next l c xs (prefix_len unparted xs)
  unfolding next_here
  run_next_lem xs b bs e h i j k =
      ap (next_here l c) e
      ∙ (λ t. cond (h t) (found l c line_end (l + 1) 1 bs) (cond (i t) (found l c opens l (c + 1) bs) (cond (j t) (found l c closes l (c + 1) bs) (cond (k t) (text_next l c bs (prefix_len printable bs)) (run_next l c (b ∷ bs) (prefix_len unparted (b ∷ bs)))))))
      ∙ ap (λ (zs : List ℕ). run_next l c zs (prefix_len unparted zs)) (sym e)

  pub run_here : (xs : List ℕ) (n : ℕ) → 1 ≤ length xs → get_or xs 0 0 ≢ 10 → get_or xs 0 0 ≢ 40 → get_or xs 0 0 ≢ 41 → get_or xs 0 0 ≢ 34 → n ≡ prefix_len unparted xs → next_here l c xs ≡ run_next l c xs n
  run_here [] n h _ _ _ _ e = absurd (omega arith)
  run_here (x ∷ xs) n h i j k m e = run_next_lem (x ∷ xs) x xs refl (ne_eqb x 10 i) (ne_eqb x 40 j) (ne_eqb x 41 k) (ne_eqb x 34 m) ∙ ap (run_next l c (x ∷ xs)) (sym e)

  pub run_found : (xs : List ℕ) (n : ℕ) (part : List ℕ) (o : Option Token) (m d : ℕ) (ys : List ℕ) → Classified o (run_token part) → part ≡ take n xs → m ≡ l → d ≡ c + n → ys ≡ drop n xs → Finds (run_next l c xs n) o m d ys
  run_found xs n part None m d ys k p a b e = ap run_token (sym p) ∙ k
  run_found xs n part (Some t) m d ys k p a b e = (k ∙ ap run_token p, a, b, e)

  -- it begins here
  abbrev at_place : Next → Type 0
  at_place g = (g.line ≡ l) × (g.column ≡ c)

  text_place : (n : ℕ) (bs : List ℕ) → at_place (text_next l c bs n)
  text_place n bs = cond_both (closed n bs) (found l c (text (take n bs)) l (c + (n + 2)) (drop (n + 1) bs)) (found l c none l c bs) at_place (λ _. (refl, refl)) (λ _. (refl, refl))

  here_place : (xs : List ℕ) → at_place (next_here l c xs)
  unfolding next_here
  here_place [] = (refl, refl)
  here_place (b ∷ bs) =
      let four = cond (eqb b 34) (text_next l c bs (prefix_len printable bs)) (run_next l c (b ∷ bs) (prefix_len unparted (b ∷ bs))) in
      let three = cond (eqb b 41) (found l c closes l (c + 1) bs) four in
      let two = cond (eqb b 40) (found l c opens l (c + 1) bs) three in
      cond_both (eqb b 10) (found l c line_end (l + 1) 1 bs) two at_place (λ _. (refl, refl))
      (λ _. cond_both (eqb b 40) (found l c opens l (c + 1) bs) three at_place (λ _. (refl, refl))
      (λ _. cond_both (eqb b 41) (found l c closes l (c + 1) bs) four at_place (λ _. (refl, refl))
      (λ _. cond_both (eqb b 34) (text_next l c bs (prefix_len printable bs)) (run_next l c (b ∷ bs) (prefix_len unparted (b ∷ bs))) at_place (λ _. text_place (prefix_len printable bs) bs) (λ _. (refl, refl)))))

  pub took_some : (xs : List ℕ) (m d : ℕ) (ys : List ℕ) (o : Option Token) (f : ReaderFault) (t : Token) → Finds (next_here l c xs) o m d ys → ok_or o f ≡ Ok t → Took (next_here l c xs) (record { at = record { line = l; column = c }; token = t }) m d ys
  took_some xs m d ys None f t h e = cc
  took_some xs m d ys (Some u) f t h e =
      let p = here_place xs in
      let same : t ≡ u = cc in
      record { line = sym p.0; column = sym p.1; tok = ap tok_of same ∙ h.0; line_after = h.1; column_after = h.2; rest = h.3 }

  pub took_none : (xs : List ℕ) (m d : ℕ) (ys : List ℕ) (o : Option Token) (e : ReaderFault) → Finds (next_here l c xs) o m d ys → ok_or o (fault.NoToken (record { line = l; column = c })) ≡ Err e → (e ≡ no_token_at (next_here l c xs)) × ((next_here l c xs).tok ≡ none)
  took_none xs m d ys None e h k =
      let p = here_place xs in
      let same : e ≡ fault.NoToken (record { line = l; column = c }) = cc in
      (same ∙ (λ i. fault.NoToken (record { line = sym p.0 i; column = sym p.1 i })), h)
  took_none xs m d ys (Some u) e h k = cc

  -- it begins behind the spaces
  pub behind_spaces : (xs : List ℕ) (n m d : ℕ) (ys : List ℕ) → n ≡ prefix_len space xs → m ≡ l → d ≡ c + n → ys ≡ drop n xs → next_here m d ys ≡ next l c xs
  unfolding next
  behind_spaces xs n m d ys e a b r = (λ i. next_here (a i) ((b ∙ ap (λ (k : ℕ). c + k) e) i) ((r ∙ ap (λ (k : ℕ). drop k xs) e) i))
