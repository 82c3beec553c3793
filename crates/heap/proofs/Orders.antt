-- Things in their order: what follows what, no two overlap, and strings are at most as many as cells.
use Rattle.std.proofs.Common.{◌≡◌, ℕ, ◌+◌, ◌*◌, ◌%◌, ◌<◌, ◌≤◌, ◌⊎◌, List, [], ◌∷◌, length, sym, refl, subst, inl, inr, ⊎_elim, mod-lt, arith}
use Rattle.rules.specs.Keys.{key_from}
use Rattle.rules.specs.Lists.{In, Once, total}
use Rattle.rules.specs.Model.{Text, Thing, block, string, Model, size}
use Rattle.rules.specs.Arena.{Lies, here, later, title, Sized, places}
use Rattle.rules.proofs.Lists.{total_within}
use Rattle.rules.proofs.Lies.{lies_apart}
use Rattle.rules.proofs.Coded.{fields_size}
use Rattle.arena.specs.Titles.{cells_of}

pub cells_title : (c : ℕ) (m : Model) (x : Thing) (p : ℕ) → cells_of c (title m x p) ≡ size c m x
cells_title c m (block i) p = refl
cells_title c m (string t) p = refl

pub kind_title_some : (m : Model) (x : Thing) (p : ℕ) → Sized m x → (1 ≤ (title m x p).kind) × ((title m x p).kind ≤ 65535)
kind_title_some m (block i) p z = (z.0, let u = z.1 in omega arith)
kind_title_some m (string t) p z = (z.0, let u = z.1 in omega arith)

pub size_some : (c : ℕ) (m : Model) (x : Thing) → 1 ≤ size c m x
size_some c m x = omega (arith, fields_size c m x)

module _ (s : Thing → ℕ) where
  -- What follows a thing in its order.
  pub follows : (a : ℕ) (xs : List Thing) (x : Thing) (p : ℕ) → Lies s a xs x p → In (p + s x) (places s a xs) ⊎ (p + s x ≡ a + total s xs)
  follows a [] y p l = elim l [ ]
  follows a (x ∷ []) y p here = inr (omega arith)
  follows a (x ∷ (z ∷ zs)) y p here = inl (inr (inl refl))
  follows a (z ∷ zs) x p (later l) = ⊎_elim (λ h. inl (inr h)) (λ e. inr (omega arith)) (follows (a + s z) zs x p l)

  module _ (some : (x : Thing) → 1 ≤ s x) (a : ℕ) (xs : List Thing) (x y : Thing) (p q : ℕ) (l : Lies s a xs x p) (k : Lies s a xs y q) where
    -- Things do not overlap.
    pub apart_things : p < q → p + s x ≤ q
    apart_things h =
        let u = some y in
        elim (lies_apart s l k) [ inl e ↦ absurd (let z = e.1 in omega arith) | inr e ↦ elim e [ inl z ↦ z | inr z ↦ absurd (omega arith) ] ]

    -- One thing lies at a cell.
    pub one_thing : p ≡ q → x ≡ y
    one_thing h =
        let u = some x in let v = some y in
        elim (lies_apart s l k) [ inl e ↦ e.0 | inr e ↦ absurd (elim e [ inl z ↦ omega arith | inr z ↦ omega arith ]) ]

-- A key is below its limit.
pub key_below : (h : ℕ) (t : Text) → h < 65521 → key_from h t < 65521
key_below h [] l = l
key_below h (x ∷ xs) l = key_below ((31 * h + x) % 65521) xs (mod-lt (31 * h + x) (omega arith))

-- The strings of some texts.
abbrev strings : List Text → List Thing
strings [] = []
strings (t ∷ ts) = string t ∷ strings ts

strings_in : (x : Thing) (xs : List Text) → In x (strings xs) → (t : Text) × (x ≡ string t) × In t xs
strings_in x [] i = absurd i
strings_in x (t ∷ xs) (inl e) = (t, e, inl refl)
strings_in x (t ∷ xs) (inr i) = let w = strings_in x xs i in (w.0, w.1, inr w.2)

strings_once : (xs : List Text) → Once xs → Once (strings xs)
strings_once [] o = tt
strings_once (t ∷ xs) o = ((λ i. o.0 (same t (strings_in (string t) xs i))), strings_once xs o.1)
  where
    same : (t : Text) → ((u : Text) × (string t ≡ string u) × In u xs) → In t xs
    same t (u, e, i) = let z : u ≡ t = cc in subst (λ (v : Text). In v xs) z i

-- Texts of strings of the order, none twice, are at most as many as its cells.
module _ (s : Thing → ℕ) (some : (x : Thing) → 1 ≤ s x) where
  at_least : (xs : List Text) → length xs ≤ total s (strings xs)
  at_least [] = omega arith
  at_least (t ∷ xs) = let w = some (string t) in let v = at_least xs in omega arith

  pub few_texts : (order : List Thing) (xs : List Text) → ((t : Text) → In t xs → In (string t) order) → Once xs → length xs ≤ total s order
  few_texts order xs fit on =
      let w = total_within s (strings xs) order (strings_once xs on) (λ x i. member x (strings_in x xs i)) in
      let v = at_least xs in omega arith
    where
      member : (x : Thing) → ((t : Text) × (x ≡ string t) × In t xs) → In x order
      member x (t, e, i) = subst (λ (y : Thing). In y order) (sym e) (fit t i)
