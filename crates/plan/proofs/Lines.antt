-- The names of an input, one after another: newlines are passed over, and a name goes up to the next newline.
use Rattle.std.proofs.Common.{◌≡◌, ℕ, suc, ◌+◌, ◌-◌, ◌<◌, ◌≤◌, subst, Bool, true, false, cond, not, eqb, ltb, List, [], ◌∷◌, ◌++◌, length, get_or, take, drop, Some, None, Option, sym, refl, ap, ◌∙◌, append_assoc, append-nil, arith, length-drop}
use Rattle.std.specs.List.{position, position_or_len}
use Rattle.std.specs.Option.{unwrap_or}
use Rattle.std.proofs.lemmas.Bool.{false_from_ne_true, cond-true, cond-false, cond_both, ltb-true, ltb-false}
use Rattle.std.proofs.lemmas.List.{take_all}
use Rattle.std.proofs.lemmas.List.Sums.{position_or_len_is}
use Rattle.memchr.specs.Find.{IsFirstByte, is_byte}
use Rattle.rules.specs.Model.{Text}
use Rattle.plan.specs.Names.{kept, names_after, names}

-- What a name does not have, and what it begins with.
abbrev pub ends : ℕ → Bool
ends b = eqb b 10

abbrev pub begins : ℕ → Bool
begins b = not (eqb b 10)

module _ (x : ℕ) (xs : List ℕ) where
  ends_here : eqb x 10 ≡ true → position_or_len ends (x ∷ xs) ≡ 0
  ends_here e = ap (λ b. cond (not b) (1 + position_or_len ends xs) 0) e

  ends_later : eqb x 10 ≡ false → position_or_len ends (x ∷ xs) ≡ suc (position_or_len ends xs)
  ends_later e = ap (λ b. cond (not b) (1 + position_or_len ends xs) 0) e ∙ omega arith

  begins_here : eqb x 10 ≡ false → position_or_len begins (x ∷ xs) ≡ 0
  begins_here e = ap (λ b. cond (not (not b)) (1 + position_or_len begins xs) 0) e

  begins_later : eqb x 10 ≡ true → position_or_len begins (x ∷ xs) ≡ suc (position_or_len begins xs)
  begins_later e = ap (λ b. cond (not (not b)) (1 + position_or_len begins xs) 0) e ∙ omega arith

-- A line goes up to the next newline.
line_ends : (line : Text) (xs : List ℕ) → names_after 10 line xs ≡ kept (line ++ take (position_or_len ends xs) xs) ++ names_after 10 [] (drop (position_or_len ends xs) xs)
line_ends line [] = ap kept (sym (append-nil line)) ∙ sym (append-nil (kept (line ++ [])))
line_ends line (x ∷ xs) = by (line_ends (line ++ (x ∷ [])) xs) (eqb x 10) refl
  where
    by : names_after 10 (line ++ (x ∷ [])) xs ≡ kept ((line ++ (x ∷ [])) ++ take (position_or_len ends xs) xs) ++ names_after 10 [] (drop (position_or_len ends xs) xs) →
        (b : Bool) → eqb x 10 ≡ b →
        names_after 10 line (x ∷ xs) ≡ kept (line ++ take (position_or_len ends (x ∷ xs)) (x ∷ xs)) ++ names_after 10 [] (drop (position_or_len ends (x ∷ xs)) (x ∷ xs))
    by longer true e =
        cond-true (eqb x 10) (kept line ++ names_after 10 [] xs) (names_after 10 (line ++ (x ∷ [])) xs) e
        ∙ ap (λ (l : Text). kept l ++ names_after 10 [] xs) (sym (append-nil line))
        ∙ ap (λ (ns : List Text). kept (line ++ []) ++ ns) (sym (cond-true (eqb x 10) (names_after 10 [] xs) (names_after 10 (x ∷ []) xs) e))
        ∙ ap (λ (n : ℕ). kept (line ++ take n (x ∷ xs)) ++ names_after 10 [] (drop n (x ∷ xs))) (sym (ends_here x xs e))
    by longer false e =
        cond-false (eqb x 10) (kept line ++ names_after 10 [] xs) (names_after 10 (line ++ (x ∷ [])) xs) e
        ∙ longer
        ∙ ap (λ (l : Text). kept l ++ names_after 10 [] (drop (position_or_len ends xs) xs)) (append_assoc line (x ∷ []) (take (position_or_len ends xs) xs))
        ∙ ap (λ (n : ℕ). kept (line ++ take n (x ∷ xs)) ++ names_after 10 [] (drop n (x ∷ xs))) (sym (ends_later x xs e))

-- An input of newlines has no names.
pub no_names : (xs : List ℕ) → length xs ≤ position_or_len begins xs → names xs ≡ []
no_names [] past = refl
no_names (x ∷ xs) past = by (λ past. no_names xs past) (eqb x 10) refl
  where
    by : (length xs ≤ position_or_len begins xs → names xs ≡ []) → (b : Bool) → eqb x 10 ≡ b → names (x ∷ xs) ≡ []
    by shorter true e = cond-true (eqb x 10) (names xs) (names_after 10 (x ∷ []) xs) e ∙ shorter (let later = begins_later x xs e in omega arith)
    by shorter false e = let here = begins_here x xs e in absurd (omega arith)

-- The first name, and those of what stands behind it.
abbrev First : List ℕ → List ℕ → Type 0
First xs ys = (names xs ≡ take (position_or_len ends ys) ys ∷ names (drop (position_or_len ends ys) ys)) × (0 < position_or_len ends ys)

pub first_name : (xs : List ℕ) → position_or_len begins xs < length xs → First xs (drop (position_or_len begins xs) xs)
first_name [] inside = absurd (omega arith)
first_name (x ∷ xs) inside = by (λ inside. first_name xs inside) (eqb x 10) refl
  where
    by : (position_or_len begins xs < length xs → First xs (drop (position_or_len begins xs) xs)) → (b : Bool) → eqb x 10 ≡ b →
        First (x ∷ xs) (drop (position_or_len begins (x ∷ xs)) (x ∷ xs))
    by shorter true e =
        let later = begins_later x xs e in
        let found = shorter (omega arith) in
        subst (λ (n : ℕ). First (x ∷ xs) (drop n (x ∷ xs))) (sym later) (cond-true (eqb x 10) (names xs) (names_after 10 (x ∷ []) xs) e ∙ found.0, found.1)
    by shorter false e =
        let later = ends_later x xs e in
        let named : names (x ∷ xs) ≡ take (position_or_len ends (x ∷ xs)) (x ∷ xs) ∷ names (drop (position_or_len ends (x ∷ xs)) (x ∷ xs)) =
        line_ends [] (x ∷ xs)
        ∙ ap (λ (n : ℕ). kept (take n (x ∷ xs)) ++ names (drop n (x ∷ xs))) later
        ∙ ap (λ (n : ℕ). take n (x ∷ xs) ∷ names (drop n (x ∷ xs))) (sym later) in
        subst (λ (n : ℕ). First (x ∷ xs) (drop n (x ∷ xs))) (sym (begins_here x xs e)) (named, omega arith)

-- What `position` answers, and the place where there is one.
place_within : (p : ℕ → Bool) (xs : List ℕ) → position_or_len p xs ≤ length xs
place_within p [] = omega arith
place_within p (x ∷ xs) = let shorter = place_within p xs in cond_both (not (p x)) (1 + position_or_len p xs) 0 (λ n. n ≤ length (x ∷ xs)) (λ e. omega arith) (λ e. omega arith)

module _ (p : ℕ → Bool) (xs : List ℕ) where
  place_none : position p xs ≡ None → length xs ≤ position_or_len p xs
  place_none e = by (ltb (position_or_len p xs) (length xs)) refl e
    where
      by : (b : Bool) → ltb (position_or_len p xs) (length xs) ≡ b → cond b (Some (position_or_len p xs)) None ≡ None → length xs ≤ position_or_len p xs
      by true t e = cc
      by false t e = ltb-false _ _ t

  place_some : (i : ℕ) → position p xs ≡ Some i → (i ≡ position_or_len p xs) × (position_or_len p xs < length xs)
  place_some i e = by (ltb (position_or_len p xs) (length xs)) refl e
    where
      by : (b : Bool) → ltb (position_or_len p xs) (length xs) ≡ b → cond b (Some (position_or_len p xs)) None ≡ Some i → (i ≡ position_or_len p xs) × (position_or_len p xs < length xs)
      by true t e = (cc, ltb-true _ _ t)
      by false t e = cc

-- Where a search for a newline ends.
line_end : (xs : List ℕ) (o : Option ℕ) → IsFirstByte (is_byte 10) xs o → position_or_len ends xs ≡ unwrap_or o (length xs)
line_end xs None none = position_or_len_is ends xs (length xs) 0 (omega arith) (λ k h. false_from_ne_true (ends (get_or xs k 0)) (none k (omega arith) h)) (λ h. absurd (omega arith))
line_end xs (Some k) first =
    position_or_len_is ends xs k 0 (omega (arith, first.0.high)) (λ j h. false_from_ne_true (ends (get_or xs j 0)) (first.0.before j (omega arith) h)) (λ h. first.1)

pub nothing_here : (xs : List ℕ) (o : Option ℕ) → o ≡ position begins xs → o ≡ None → names xs ≡ []
nothing_here xs o is none = no_names xs (place_none begins xs (sym is ∙ none))

pub name_here : (xs line : List ℕ) (start end : ℕ) (o e : Option ℕ) → o ≡ position begins xs → o ≡ Some start → line ≡ take (length xs - start) (drop start xs) →
    IsFirstByte (is_byte 10) line e → end ≡ unwrap_or e (length line) → (names xs ≡ take end line ∷ names (drop end line)) × (length (drop end line) < length xs)
name_here xs line start end o e is some line_is first last =
    let s = place_some begins xs start (sym is ∙ some) in
    let all : line ≡ drop (position_or_len begins xs) xs = line_is ∙ take_all (length xs - start) (drop start xs) (omega (arith, length-drop start xs)) ∙ ap (λ (n : ℕ). drop n xs) s.0 in
    let n : end ≡ position_or_len ends line = last ∙ sym (line_end line e first) in
    let found = first_name xs s.1 in
    let some : 0 < position_or_len ends line = subst (λ (ys : List ℕ). 0 < position_or_len ends ys) (sym all) found.1 in (
      found.0 ∙ ap (λ (ys : List ℕ). take (position_or_len ends ys) ys ∷ names (drop (position_or_len ends ys) ys)) (sym all) ∙ ap (λ (k : ℕ). take k line ∷ names (drop k line)) (sym n),
      omega (arith, s.1, n, some, ap length all, length-drop end line, length-drop (position_or_len begins xs) xs, place_within ends line),
    )
