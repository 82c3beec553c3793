-- What two models with the same blocks, and two arenas with the same things at the same places, have alike.
use Rattle.std.proofs.Common.{◌≡◌, ℕ, List, get_or, refl, ap, arith}
use Rattle.cells.specs.declared.Descriptor.{Descriptor}
use Rattle.rules.specs.Model.{Text, Thing, block, string, Value, null, number, text, to, name, Model, fields, size}
use Rattle.rules.specs.Arena.{Lies, Coded, as_null, as_number, as_text, as_block, as_name, Linked, at_end, to_next, Proper, Sized, title}

module _ (m m' : Model) (e : m'.made ≡ m.made) where
  pub fields_same : (x : Thing) → fields m' x ≡ fields m x
  fields_same (block i) = ap (λ (l : List ℕ). get_or l i 0) e
  fields_same (string t) = refl

  pub size_same : (c : ℕ) (x : Thing) → size c m x ≡ size c m' x
  size_same c (block i) = omega (arith, fields_same (block i))
  size_same c (string t) = refl

  pub title_same : (x : Thing) (p : ℕ) → title m' x p ≡ title m x p
  title_same (block i) p = ap (λ (l : List ℕ). title (record m { made = l }) (block i) p) e
  title_same (string t) p = refl

  pub sized_same : (x : Thing) → Sized m x → Sized m' x
  sized_same (block i) h = rw e h
  sized_same (string t) h = h

  pub proper_same : (w : Value) → Proper m w → Proper m' w
  proper_same null h = tt
  proper_same (number z) h = tt
  proper_same (text t) h = tt
  proper_same (to i t) h = h
  proper_same (name x k) h = (h.0, let z = fields_same x in let w = h.1 in omega arith)

module _ {s s' : Thing → ℕ} {a a' : ℕ} {xs xs' : List Thing} (at : (x : Thing) (p : ℕ) → Lies s a xs x p → Lies s' a' xs' x p) where
  pub coded_by : (v : Value) (d : Descriptor) → Coded s a xs v d → Coded s' a' xs' v d
  coded_by v d as_null = as_null
  coded_by v d as_number = as_number
  coded_by v d (as_text l) = as_text (at _ _ l)
  coded_by v d (as_block l) = as_block (at _ _ l)
  coded_by v d (as_name l) = as_name (at _ _ l)

  pub linked_by : (n : ℕ) (ts : List Text) (d : Descriptor) → Linked s a xs n ts d → Linked s' a' xs' n ts d
  linked_by n ts d (at_end e) = at_end e
  linked_by n ts d (to_next p l e) = to_next p (at _ _ l) e
