-- What a plan holds after further steps, and after a repetition.
use Rattle.std.proofs.Common.{◌≡◌, ℕ, zero, suc, ◌+◌, ◌-◌, ◌<◌, ◌≤◌, true, false, not, leb, ◌⊎◌, List, [], ◌∷◌, ◌++◌, map, length, take, drop, IfSome, Some, None, Option, MatchOption, sym, refl, ap, ◌∙◌, inl, inr, ⊎_elim, subst, append_assoc, append-nil, arith, length-append, length-drop, length-take-le}
use mathlib.Core.List.{map-append}
use Rattle.std.proofs.lemmas.Bool.{cases_lt, le-leb, lt-leb, leb-true, leb-false, cond-true, cond-false, cond_both}
use Rattle.std.proofs.lemmas.List.{length-map, take-map, drop-map, drop-append-le, take-append-le, take_all}
use Rattle.std.specs.Option.{is_some, option_map}
use Rattle.scan.specs.declared.types.Step.{Step}
use Rattle.scan.specs.Words.{bind, Said, said_of}
use Rattle.scan.specs.Forms.{bottom, first, copies}
use Rattle.scan.specs.Taking.{some}
use Rattle.script.specs.Plans.{limited, with_more, nothing, size, part}

limited_few : (ss : List Said) → length ss ≤ 4096 → limited ss ≡ Some ss
limited_few ss h = cond-true (leb (length ss) 4096) (Some ss) None (le-leb (length ss) 4096 h)

limited_many : (ss : List Said) → 4096 < length ss → limited ss ≡ None
limited_many ss h = cond-false (leb (length ss) 4096) (Some ss) None (lt-leb (length ss) 4096 h)

-- from the answer to the limit
pub limited_by : (ss : List Said) (o : Option (List Said)) → limited ss ≡ o → MatchOption o (4096 < length ss) (λ ts. (ts ≡ ss) × (length ss ≤ 4096))
limited_by ss o e =
    let P : Option (List Said) → Type 0 = λ o. MatchOption o (4096 < length ss) (λ ts. (ts ≡ ss) × (length ss ≤ 4096)) in
    subst P e (cond_both (leb (length ss) 4096) (Some ss) None P (λ t. (refl, leb-true (length ss) 4096 t)) (λ f. leb-false (length ss) 4096 f))

limited_more : (ss more : List Said) → bind (limited ss) (λ z. limited (z ++ more)) ≡ limited (ss ++ more)
limited_more ss more =
    let add = λ (o : Option (List Said)). bind o (λ z. limited (z ++ more)) in
    ⊎_elim (λ many. ap add (limited_many ss many) ∙ sym (limited_many (ss ++ more) (omega (arith, length-append ss more)))) (λ few. ap add (limited_few ss few)) (cases_lt 4096 (length ss))

-- further steps are too many, or stand behind those before
more_cases : (h : Option (List Said)) (more : List Said) → (with_more h more ≡ None) ⊎ ((ss : List Said) × (h ≡ Some ss) × (with_more h more ≡ Some (ss ++ more)))
more_cases None [] = inl refl
more_cases None (s ∷ more) = inl refl
more_cases (Some ss) [] = inr (ss, refl, ap (λ (z : List Said). Some z) (sym (append-nil ss)))
more_cases (Some ss) (s ∷ more) =
    cond_both (leb (length (ss ++ s ∷ more)) 4096) (Some (ss ++ s ∷ more)) None (λ o. (o ≡ None) ⊎ ((ts : List Said) × (Some ss ≡ Some ts) × (o ≡ Some (ts ++ s ∷ more)))) (λ _. inr (ss, refl, refl)) (λ _. inl refl)

none_more : (more : List Said) → with_more None more ≡ None
none_more [] = refl
none_more (s ∷ more) = refl

pub more_more : (h : Option (List Said)) (a b : List Said) → with_more (with_more h a) b ≡ with_more h (a ++ b)
more_more h [] b = refl
more_more h (s ∷ a) [] = ap (with_more h) (sym (append-nil (s ∷ a)))
more_more None (s ∷ a) (t ∷ b) = refl
more_more (Some ss) (s ∷ a) (t ∷ b) = limited_more (ss ++ s ∷ a) (t ∷ b) ∙ ap limited (append_assoc ss (s ∷ a) (t ∷ b))

pub holds_more : (h : Option (List Said)) (said more : List Said) → h ≡ limited said → with_more h more ≡ limited (said ++ more)
holds_more h said [] e = e ∙ ap limited (sym (append-nil said))
holds_more h said (s ∷ more) e = ap (λ (o : Option (List Said)). bind o (λ ss. limited (ss ++ s ∷ more))) e ∙ limited_more said (s ∷ more)

-- whether there are steps
pub first_by : (said : List Said) → nothing (limited said) ≡ first (bottom said)
first_by [] = refl
first_by (s ∷ d) = cond_both (leb (length (s ∷ d)) 4096) (Some (s ∷ d)) None (λ o. nothing o ≡ first (bottom (s ∷ d))) (λ _. refl) (λ _. refl)

pub some_append : (ss more : List Said) → some more ≡ true → some (ss ++ more) ≡ true
some_append [] more e = e
some_append (s ∷ ss) more e = refl

pub nothing_more : (h : Option (List Said)) (more : List Said) → some more ≡ true → nothing (with_more h more) ≡ false
nothing_more h more any = ⊎_elim (λ e. ap nothing e) (λ r. ap nothing r.2 ∙ ap not (some_append r.0 more any)) (more_cases h more)

-- as the code adds steps
room_held : (items more : List Step) → length items + length more ≤ 4096 → Some (map said_of (items ++ more)) ≡ with_more (Some (map said_of items)) (map said_of more)
room_held items [] h = ap (λ (z : List Step). Some (map said_of z)) (append-nil items)
room_held items (s ∷ more) h =
    let few : length (map said_of items ++ map said_of (s ∷ more)) ≤ 4096 = omega (arith, length-append (map said_of items) (map said_of (s ∷ more)), length-map items said_of, length-map (s ∷ more) said_of) in
    ap (λ (z : List Said). Some z) (map-append said_of items (s ∷ more)) ∙ sym (limited_few (map said_of items ++ map said_of (s ∷ more)) few)

full_held : (items : List Step) (more : List Said) → 0 < length more → 4096 < length items + length more → None ≡ with_more (Some (map said_of items)) more
full_held items [] some h = absurd (omega arith)
full_held items (s ∷ more) some h = sym (limited_many (map said_of items ++ s ∷ more) (omega (arith, length-append (map said_of items) (s ∷ more), length-map items said_of)))

part_map : (items : List Step) (from to : ℕ) → map said_of (take (to - from) (drop from items)) ≡ part from to (Some (map said_of items))
part_map items from to = sym (ap (take (to - from)) (drop-map said_of from items) ∙ take-map said_of (to - from) (drop from items))

module _ (h : Option (List Said)) (items : List Step) (from to : ℕ) (is : h ≡ Some (map said_of items)) (w : IfSome h (λ ss. (from < to) × (to ≤ length ss))) where
  within_items : (from < to) × (to ≤ length items)
  within_items = let v = subst (λ (o : Option (List Said)). IfSome o (λ ss. (from < to) × (to ≤ length ss))) is w in (v.0, omega (arith, v.1, length-map items said_of))

  part_long : length (take (to - from) (drop from items)) ≡ to - from
  part_long = let v = within_items in length-take-le (to - from) (drop from items) (omega (arith, v.1, length-drop from items))

  -- with room for the part
  pub held_added : length items + (to - from) ≤ 4096 → Some (map said_of (items ++ take (to - from) (drop from items))) ≡ with_more h (part from to h)
  held_added room =
      room_held items (take (to - from) (drop from items)) (omega (arith, part_long))
      ∙ ap (with_more (Some (map said_of items))) (part_map items from to)
      ∙ sym (ap (λ (o : Option (List Said)). with_more o (part from to o)) is)

  -- without
  pub held_full : 4096 < length items + (to - from) → None ≡ with_more h (part from to h)
  held_full many =
      let v = within_items in
      let long : length (part from to (Some (map said_of items))) ≡ to - from = ap length (sym (part_map items from to)) ∙ length-map (take (to - from) (drop from items)) said_of ∙ part_long in
      full_held items (part from to (Some (map said_of items))) (omega (arith, v.0)) (omega arith)
      ∙ sym (ap (λ (o : Option (List Said)). with_more o (part from to o)) is)

pub held_none : (h : Option (List Said)) (from to : ℕ) → h ≡ None → None ≡ with_more h (part from to h)
held_none h from to e = sym (ap (λ (o : Option (List Said)). with_more o (part from to o)) e)

copies_more : {A : Type 0} (n : ℕ) (xs : List A) → copies n xs ++ xs ≡ copies (suc n) xs
copies_more zero xs = sym (append-nil xs)
copies_more (suc n) xs = append_assoc xs (copies n xs) xs ∙ ap (λ z. xs ++ z) (copies_more n xs)

-- what is added once more stands in what was there at first
part_of : (ss more : List Said) (from : ℕ) → from ≤ length ss → part from (length ss) (Some (ss ++ more)) ≡ part from (length ss) (Some ss)
part_of ss more from h = ap (take (length ss - from)) (drop-append-le from ss more h) ∙ take-append-le (length ss - from) (drop from ss) more (omega (arith, length-drop from ss))

module _ (h : Option (List Said)) (from : ℕ) (w : IfSome h (λ ss. from < length ss)) where
  part_more : (more : List Said) → (with_more h more ≡ None) ⊎ (part from (size h) (with_more h more) ≡ part from (size h) h)
  part_more more =
      ⊎_elim (λ e. inl e)
      (λ r. let v = subst (λ (o : Option (List Said)). IfSome o (λ ss. from < length ss)) r.1 w in
      inr (subst (λ (o : Option (List Said)). part from (size o) (with_more h more) ≡ part from (size o) o) (sym r.1)
      (subst (λ (p : Option (List Said)). part from (length r.0) p ≡ part from (length r.0) (Some r.0)) (sym r.2) (part_of r.0 more from (omega arith)))))
      (more_cases h more)

  pub added : (n : ℕ) → with_more (with_more h (copies n (part from (size h) h))) (part from (size h) (with_more h (copies n (part from (size h) h)))) ≡ with_more h (copies (suc n) (part from (size h) h))
  added n =
      let once = part from (size h) h in
      let now' = with_more h (copies n once) in
      let all : with_more now' once ≡ with_more h (copies (suc n) once) = more_more h (copies n once) once ∙ ap (with_more h) (copies_more n once) in
      ⊎_elim
      (λ e. ap (λ (o : Option (List Said)). with_more o (part from (size h) o)) e ∙ sym (ap (λ (o : Option (List Said)). with_more o once) e ∙ none_more once) ∙ all)
      (λ e. ap (with_more now') e ∙ all)
      (part_more (copies n once))

-- a repetition of no steps
copies_none : {A : Type 0} (n : ℕ) → ◌≡◌ {A = List A} (copies n []) []
copies_none zero = refl
copies_none (suc n) = copies_none n

part_none : (h : Option (List Said)) (from : ℕ) → size h ≤ from → part from (size h) h ≡ []
part_none None from past = refl
part_none (Some ss) from past = let none : length ss - from ≡ 0 = omega arith in ap (λ (n : ℕ). take n (drop from ss)) none

pub none_repeated : (h : Option (List Said)) (from n : ℕ) → size h ≤ from → h ≡ with_more h (copies n (part from (size h) h))
none_repeated h from n past = sym (ap (λ (ss : List Said). with_more h (copies n ss)) (part_none h from past) ∙ ap (with_more h) (copies_none n))

pub some_repeated : (h : Option (List Said)) (from : ℕ) → from < size h → IfSome h (λ ss. from < length ss)
some_repeated None from low = absurd (omega arith)
some_repeated (Some ss) from low = low

pub none_seen : {A B : Type 0} (f : A → B) (o : Option A) → is_some o ≡ false → option_map f o ≡ None
none_seen f None e = refl
none_seen f (Some x) e = cc

-- what had too many has too many after further repetitions
module _ (h : Option (List Said)) (once : List Said) (k : ℕ) (over : with_more h (copies k once) ≡ None) where
  pub over_stays : (m : ℕ) → k ≤ m → with_more h (copies m once) ≡ None
  over_stays zero le = let same : k ≡ 0 = omega arith in ap (λ (n : ℕ). with_more h (copies n once)) (sym same) ∙ over
  over_stays (suc m) le =
      ⊎_elim
      (λ last. let same : k ≡ suc m = omega arith in ap (λ (n : ℕ). with_more h (copies n once)) (sym same) ∙ over)
      (λ before. ap (with_more h) (sym (copies_more m once)) ∙ sym (more_more h (copies m once) once) ∙ ap (λ (o : Option (List Said)). with_more o once) (over_stays m before) ∙ none_more once)
      (cases_lt m k)

-- a repetition of what was added
drop_front : (ss more : List Said) → drop (length ss) (ss ++ more) ≡ more
drop_front [] more = refl
drop_front (s ∷ ss) more = drop_front ss more

part_end : (ss more : List Said) → part (length ss) (length (ss ++ more)) (Some (ss ++ more)) ≡ more
part_end ss more = ap (take (length (ss ++ more) - length ss)) (drop_front ss more) ∙ take_all (length (ss ++ more) - length ss) more (omega (arith, length-append ss more))

module _ (h : Option (List Said)) (more : List Said) where
  part_behind : (with_more h more ≡ None) ⊎ (part (size h) (size (with_more h more)) (with_more h more) ≡ more)
  part_behind =
      ⊎_elim (λ e. inl e)
      (λ r. inr (subst (λ (o : Option (List Said)). part (size o) (size (with_more h more)) (with_more h more) ≡ more) (sym r.1)
      (subst (λ (p : Option (List Said)). part (length r.0) (size p) p ≡ more) (sym r.2) (part_end r.0 more))))
      (more_cases h more)

  pub repeated : (n : ℕ) → 1 ≤ n → with_more (with_more h more) (copies (n - 1) (part (size h) (size (with_more h more)) (with_more h more))) ≡ with_more h (copies n more)
  repeated zero low = absurd (omega arith)
  repeated (suc n) low =
      let now' = with_more h more in
      let same : suc n - 1 ≡ n = omega arith in
      let all : with_more now' (copies n more) ≡ with_more h (copies (suc n) more) = more_more h more (copies n more) in
      ap (λ (m : ℕ). with_more now' (copies m (part (size h) (size now') now'))) same
      ∙ ⊎_elim
      (λ e. ap (λ (o : Option (List Said)). with_more o (copies n (part (size h) (size o) o))) e ∙ none_more (copies n []) ∙ sym (ap (λ (o : Option (List Said)). with_more o (copies n more)) e ∙ none_more (copies n more)) ∙ all)
      (λ e. ap (λ (z : List Said). with_more now' (copies n z)) e ∙ all)
      part_behind
