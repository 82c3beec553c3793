-- A computed test that a list has exactly the reachable things, for models whose fields are null but for those of some things.
use Rattle.std.proofs.Common.{◌≡◌, ℕ, zero, suc, ◌<◌, ◌≤◌, Bool, true, false, cond, not, ◌&&◌, ◌||◌, eqb, List, [], ◌∷◌, ◌++◌, length, get_or, sym, refl, ap, ◌∙◌, subst, inl, inr, arith}
use Rattle.std.proofs.lemmas.Bool.{and_parts, false≢true, not-true, not_from_false, or_left, or_right, cases_eq, cases_Bool, cond-true}
use Rattle.rules.specs.Lists.{In, Once}
use Rattle.rules.specs.Model.{Text, Thing, block, string, Value, Model, empty, string_fields, fields, Points, from_register, Exactly, same_thing, same_value, has}
use Rattle.rules.specs.Calls.{put_field, put_block}
use Rattle.rules.proofs.Lists.{in_left, in_right, in_either}
use Rattle.rules.proofs.Tests.{has_true, has_in, thing_true, value_true, dec_in}
use Rattle.rules.proofs.Reach.{Closed, closed_has}

-- The fields of all other things are null.
abbrev pub Only : List Thing → Model → Type 0
Only ds m = (x : Thing) (k : ℕ) → ¬ (In x ds) → m.field x k ≡ Value.null

abbrev targets : Value → List Thing
targets Value.null = []
targets (Value.number z) = []
targets (Value.text t) = string t ∷ []
targets (Value.to i t) = block i ∷ []
targets (Value.name x k) = x ∷ []

abbrev roots : List Value → List Thing
roots [] = []
roots (v ∷ vs) = targets v ++ roots vs

abbrev within : List Thing → List Thing → Bool
within [] ys = true
within (x ∷ xs) ys = has ys x && within xs ys

abbrev is_once : List Thing → Bool
is_once [] = true
is_once (x ∷ xs) = not (has xs x) && is_once xs

abbrev is_held : Model → Thing → Bool
is_held m (block i) = false
is_held m (string t) = not (same_value (m.field (string t) 1) Value.null) || not (same_value (m.field (string t) 2) Value.null)

abbrev held_within : Model → List Thing → List Thing → Bool
held_within m [] things = true
held_within m (d ∷ ds) things = cond (is_held m d) (has things d) true && held_within m ds things

abbrev field_roots : Model → Thing → ℕ → List Thing
field_roots m x zero = []
field_roots m x (suc k) = targets (m.field x (suc k)) ++ field_roots m x k

abbrev follow_within : Model → List Thing → List Thing → Bool
follow_within m [] things = true
follow_within m (x ∷ xs) things = within (field_roots m x (fields m x)) things && follow_within m xs things

-- What the registers point at is in the list and nothing else, none twice, with the strings that hold a value and what fields point at.
abbrev pub is_exact : List Thing → Model → List Thing → Bool
is_exact ds m things =
    within (roots m.registers) things && (within things (roots m.registers) && (is_once things && (held_within m ds things && follow_within m things things)))

within_true : (xs ys : List Thing) → within xs ys ≡ true → (x : Thing) → In x xs → In x ys
within_true [] ys h x p = absurd p
within_true (y ∷ xs) ys h x (inl e) = subst (λ (z : Thing). In z ys) (sym e) (has_true ys y (and_parts _ _ h).0)
within_true (y ∷ xs) ys h x (inr p) = within_true xs ys (and_parts (has ys y) _ h).1 x p

once_true : (xs : List Thing) → is_once xs ≡ true → Once xs
once_true [] h = tt
once_true (x ∷ xs) h =
    let p = and_parts (not (has xs x)) (is_once xs) h in
    (λ q. false≢true (sym (not-true (has xs x) p.0) ∙ has_in xs x q), once_true xs p.1)

targets_points : (v : Value) (x : Thing) → In x (targets v) → Points v x
targets_points Value.null x p = p
targets_points (Value.number z) x p = p
targets_points (Value.text t) x (inl e) = e
targets_points (Value.text t) x (inr p) = absurd p
targets_points (Value.to i t) x (inl e) = e
targets_points (Value.to i t) x (inr p) = absurd p
targets_points (Value.name y k) x (inl e) = e
targets_points (Value.name y k) x (inr p) = absurd p

points_targets : (v : Value) (x : Thing) → Points v x → In x (targets v)
points_targets Value.null x p = p
points_targets (Value.number z) x p = p
points_targets (Value.text t) x e = inl e
points_targets (Value.to i t) x e = inl e
points_targets (Value.name y k) x e = inl e

roots_from : (vs : List Value) (x : Thing) → In x (roots vs) → (r : ℕ) × (r < length vs) × Points (get_or vs r Value.null) x
roots_from [] x p = absurd p
roots_from (v ∷ vs) x p = elim (in_either x (targets v) (roots vs) p) [
  | inl q ↦ (zero, omega arith, targets_points v x q)
  | inr q ↦ let r = roots_from vs x q in (suc r.0, (let h : r.0 < length vs = r.1 in omega arith), r.2)
]

roots_in : (vs : List Value) (x : Thing) (r : ℕ) → r < length vs → Points (get_or vs r Value.null) x → In x (roots vs)
roots_in [] x r h p = absurd p
roots_in (v ∷ vs) x zero h p = in_left x (targets v) (roots vs) (points_targets v x p)
roots_in (v ∷ vs) x (suc r) h p = in_right x (targets v) (roots vs) (roots_in vs x r (omega arith) p)

in_field_roots : (m : Model) (x y : Thing) (n k : ℕ) → 1 ≤ k → k ≤ n → Points (m.field x k) y → In y (field_roots m x n)
in_field_roots m x y zero k l h p = absurd (omega arith)
in_field_roots m x y (suc n) k l h p = elim (cases_eq k (suc n)) [
  | inl e ↦ in_left y (targets (m.field x (suc n))) (field_roots m x n)
      (points_targets (m.field x (suc n)) y (subst (λ (j : ℕ). Points (m.field x j) y) e p))
  | inr d ↦ in_right y (targets (m.field x (suc n))) (field_roots m x n) (in_field_roots m x y n k l (omega arith) p)
]

follow_true : (m : Model) (xs things : List Thing) → follow_within m xs things ≡ true → (x y : Thing) (k : ℕ) → In x xs → 1 ≤ k → k ≤ fields m x →
    Points (m.field x k) y → In y things
follow_true m [] things h x y k i l u p = absurd i
follow_true m (z ∷ xs) things h x y k (inl e) l u p =
    within_true (field_roots m z (fields m z)) things (and_parts _ _ h).0 y
    (subst (λ (w : Thing). In y (field_roots m w (fields m w))) e (in_field_roots m x y (fields m x) k l u p))
follow_true m (z ∷ xs) things h x y k (inr i) l u p = follow_true m xs things (and_parts (within (field_roots m z (fields m z)) things) _ h).1 x y k i l u p

not_null : (v : Value) → (v ≡ Value.null → ⊥) → not (same_value v Value.null) ≡ true
not_null v n = elim (cases_Bool (same_value v Value.null)) [ inl e ↦ absurd (n (value_true v Value.null e)) | inr e ↦ not_from_false _ e ]

held_true : (m : Model) (t : Text) (k : ℕ) → 1 ≤ k → k ≤ string_fields → (m.field (string t) k ≡ Value.null → ⊥) → is_held m (string t) ≡ true
held_true m t k l h n = elim (cases_eq k 1) [
  | inl e ↦ or_left _ _ (not_null (m.field (string t) 1) (λ z. n (ap (m.field (string t)) e ∙ z)))
  | inr d ↦ or_right _ _ (not_null (m.field (string t) 2) (λ z. n (ap (m.field (string t)) (let e : k ≡ 2 = omega arith in e) ∙ z)))
]

held_in : (m : Model) (ds things : List Thing) → held_within m ds things ≡ true → (x : Thing) → In x ds → is_held m x ≡ true → In x things
held_in m [] things h x i e = absurd i
held_in m (d ∷ ds) things h x (inl q) e =
    let f : is_held m d ≡ true = subst (λ (z : Thing). is_held m z ≡ true) q e in
    subst (λ (z : Thing). In z things) (sym q)
    (has_true things d (sym (cond-true (is_held m d) (has things d) true f) ∙ (and_parts (cond (is_held m d) (has things d) true) _ h).0))
held_in m (d ∷ ds) things h x (inr i) e = held_in m ds things (and_parts (cond (is_held m d) (has things d) true) _ h).1 x i e

pub exactly : (ds : List Thing) (m : Model) → Only ds m → (things : List Thing) → is_exact ds m things ≡ true → Exactly m things
exactly ds m o things h =
    let p = and_parts (within (roots m.registers) things) _ h in
    let q = and_parts (within things (roots m.registers)) _ p.1 in
    let r = and_parts (is_once things) _ q.1 in
    let s = and_parts (held_within m ds things) (follow_within m things things) r.1 in
    record {
      sound = λ x i. let r = roots_from m.registers x (within_true things (roots m.registers) q.0 x i) in from_register r.0 r.1 r.2;
      complete = λ x d. closed_has (shut p.0 s.0 s.1) d;
      once = once_true things r.0;
    }
  where
    shut : within (roots m.registers) things ≡ true → held_within m ds things ≡ true → follow_within m things things ≡ true → Closed m (λ x. In x things)
    shut a b c = record {
      registers = λ x r l p. within_true (roots m.registers) things a x (roots_in m.registers x r l p);
      strings = λ t k l u n. elim (dec_in ds (string t)) [
        | yes i ↦ held_in m ds things b (string t) i (held_true m t k l u n)
        | no i ↦ absurd (n (o (string t) k i))
      ];
      follows = λ x y k p l u q. follow_true m things things c x y k p l u q;
    }

-- The fields of other things stay null.
module _ (ds : List Thing) where
  pub only_empty : Only ds empty
  only_empty x k n = refl

  pub only_field : (m : Model) (x : Thing) (k : ℕ) (v : Value) → In x ds → Only ds m → Only ds (put_field m x k v)
  only_field m x k v i o y j n = other (same_thing x y && eqb k j) refl
    where
      other : (b : Bool) → (same_thing x y && eqb k j) ≡ b → cond b v (m.field y j) ≡ Value.null
      other true e = absurd (n (subst (λ (z : Thing). In z ds) (thing_true x y (and_parts (same_thing x y) (eqb k j) e).0) i))
      other false e = o y j n

  pub only_block : (m : Model) (r n t : ℕ) → Only ds m → Only ds (put_block m r n t)
  only_block m r n t o x k i = either (same_thing (block (length m.made)) x)
    where
      either : (c : Bool) → cond c Value.null (m.field x k) ≡ Value.null
      either true = refl
      either false = o x k i
