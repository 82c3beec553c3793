-- Things in an order, and texts in a chain.
use Rattle.std.proofs.Common.{◌≡◌, ℕ, ◌+◌, ◌-◌, ◌*◌, ◌/◌, ◌%◌, ◌<◌, ◌≤◌, List, [], ◌∷◌, length, sym, refl, ap, subst, inl, inr, ⊎_elim, mod-lt, div-lt_iff_lt-mul, add-mul, arith}
use native.Mathlib.Nat.{lt-div-mul-add}
use Rattle.cells.specs.declared.Descriptor.{Descriptor}
use Rattle.rules.specs.Lists.{In, Once, total}
use Rattle.rules.specs.Keys.{key_from}
use Rattle.rules.specs.Model.{Text, Thing, block, string, Model, size, string_cells}
use Rattle.rules.specs.Arena.{Lies, Next, now, Linked, at_end, to_next}
use Rattle.rules.specs.Arena as arena
use Rattle.rules.proofs.Lists.{total_within, total_one}
use Rattle.rules.proofs.Lies.{lies_apart}

pub string_same : (t u : Text) → string t ≡ string u → t ≡ u
string_same t u e = cc

pub size_some : (c : ℕ) (m : Model) (x : Thing) → 1 ≤ size c m x
size_some c m (block i) = omega arith
size_some c m (string t) = omega arith

-- What lies at one cell is one thing.
pub one_there : (s : Thing → ℕ) → ((x : Thing) → 1 ≤ s x) → {a : ℕ} {xs : List Thing} (x y : Thing) (p q : ℕ) → p ≡ q → Lies s a xs x p → Lies s a xs y q → x ≡ y
one_there s ps x y p q e l k = ⊎_elim (λ i. i.0) (λ i. absurd (let u = ps x in let v = ps y in ⊎_elim (λ h. omega arith) (λ h. omega arith) i)) (lies_apart s l k)

-- A key is below its limit.
pub key_below : (h : ℕ) (t : Text) → h < 65521 → key_from h t < 65521
key_below h [] l = l
key_below h (x ∷ xs) l = key_below ((31 * h + x) % 65521) xs (mod-lt (31 * h + x) (omega arith))

-- Texts of strings in the order, none twice, are at most as many as the order's cells.
abbrev strings : List Text → List Thing
strings [] = []
strings (t ∷ ts) = string t ∷ strings ts

in_strings : (ts : List Text) (x : Thing) → In x (strings ts) → (t : Text) × In t ts × (x ≡ string t)
in_strings [] x h = absurd h
in_strings (t ∷ ts) x (inl e) = (t, inl refl, e)
in_strings (t ∷ ts) x (inr h) = let w = in_strings ts x h in (w.0, inr w.1, w.2)

once_strings : (ts : List Text) → Once ts → Once (strings ts)
once_strings [] on = tt
once_strings (t ∷ ts) on =
    (λ h. let w = in_strings ts (string t) h in on.0 (subst (λ (u : Text). In u ts) (sym (string_same t w.0 w.2)) w.1), once_strings ts on.1)

length_strings : (ts : List Text) → length (strings ts) ≡ length ts
length_strings [] = refl
length_strings (t ∷ ts) = omega (arith, length_strings ts)

total_least : (s : Thing → ℕ) → ((x : Thing) → 1 ≤ s x) → (xs : List Thing) → total (λ x. 1) xs ≤ total s xs
total_least s ps [] = omega arith
total_least s ps (x ∷ xs) = omega (arith, ps x, total_least s ps xs)

pub few_texts : (s : Thing → ℕ) → ((x : Thing) → 1 ≤ s x) → (order : List Thing) (ts : List Text) → ((t : Text) → In t ts → In (string t) order) → Once ts → length ts ≤ total s order
few_texts s ps order ts fit on =
    let w : total (λ x. 1) (strings ts) ≤ total (λ x. 1) order = total_within (λ x. 1) (strings ts) order (once_strings ts on)
    (λ x h. let i = in_strings ts x h in subst (λ (y : Thing). In y order) (sym i.2) (fit i.0 i.1)) in
    omega (arith, total_one (strings ts), length_strings ts, total_least s ps order)

-- A text of a chain has a rest, and stands in the chain.
pub in_next : (xs : List Text) (t : Text) → In t xs → (rest : List Text) × Next xs t rest
in_next [] t h = absurd h
in_next (x ∷ xs) t (inl e) = (xs, subst (λ (u : Text). Next (u ∷ xs) t xs) e now)
in_next (x ∷ xs) t (inr h) = let w = in_next xs t h in (w.0, arena.later w.1)

pub next_in : (xs : List Text) (t : Text) (rest : List Text) → Next xs t rest → In t xs
next_in xs t rest now = inl refl
next_in xs t rest (arena.later n) = inr (next_in _ t rest n)

-- Numbers that rise from one to the next rise from one to each later one.
rises : (f : Text → ℕ) (t : Text) (rest : List Text) (u : Text) → ((x y : Text) (r : List Text) → Next (t ∷ rest) x (y ∷ r) → f x ≤ f y) → In u rest → f t ≤ f u
rises f t [] u ri h = absurd h
rises f t (y ∷ ys) u ri (inl e) = let i = ri t y ys now in subst (λ (v : Text). f t ≤ f v) (sym e) i
rises f t (y ∷ ys) u ri (inr h) = let i = ri t y ys now in let j = rises f y ys u (λ a b r n. ri a b r (arena.later n)) h in omega arith

pub rises_all : (f : Text → ℕ) (xs : List Text) (t : Text) (rest : List Text) (u : Text) → ((x y : Text) (r : List Text) → Next xs x (y ∷ r) → f x ≤ f y) → Next xs t rest → In u rest → f t ≤ f u
rises_all f xs t rest u ri now h = rises f t rest u ri h
rises_all f (x ∷ xs) t rest u ri (arena.later n) h = rises_all f xs t rest u (λ a b r m. ri a b r (arena.later m)) n h

pub linked_kind : (s : Thing → ℕ) (from : ℕ) (order : List Thing) (n : ℕ) (xs : List Text) (d : Descriptor) → Linked s from order n xs d → d.kind ≡ n
linked_kind s from order n xs d (at_end e) = ap (λ (x : Descriptor). x.kind) e
linked_kind s from order n xs d (to_next p l e) = ap (λ (x : Descriptor). x.kind) e

-- The cell of a character lies in its string.
pub last_cell : (c j n : ℕ) → 1 ≤ c → j < n → 4 + j / c < string_cells c n
last_cell c j n p l =
    let x = lt-div-mul-add {a = n - 1} {b = c} p in
    let y : j / c < (n - 1) / c + 1 = (div-lt_iff_lt-mul {k = c} {x = j} {y = (n - 1) / c + 1} p).1 (rw add-mul (omega arith)) in
    omega arith
