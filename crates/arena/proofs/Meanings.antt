-- Which value of the model a decoded one is.
use Rattle.std.proofs.Common.{◌≡◌, ℕ, ◌+◌, ℤ, refl, ap, subst}
use Rattle.cells.specs.Meaning.{Memory}
use Rattle.rules.specs.Model.{Text, Thing, block, string, Value, null, number, text, to, name, Model}
use Rattle.rules.specs.Arena.{Arena, At, Shows}
use Rattle.arena.specs.declared.values.Held.{Held}
use Rattle.arena.specs.declared.values.Held.TheVariants as is
use Rattle.arena.specs.Values.{Means}
use Rattle.arena.specs.Stored.{Field}

module _ (m : Model) (a : Arena) (o : Memory) where
  pub is_null : (v : Value) (h : Held) → Means m a o v h → h ≡ is.Null → v ≡ null
  is_null null h w e = refl
  is_null (number z) h w e = cc
  is_null (text t) h w e = let q = w.1 in cc
  is_null (to i k) h w e = let q = w.1 in cc
  is_null (name x k) h w e = let q = w.1 in cc

  pub is_number : (v : Value) (h : Held) (z : ℤ) → Means m a o v h → h ≡ is.Number z → v ≡ number z
  is_number null h z w e = cc
  is_number (number y) h z w e = cc
  is_number (text t) h z w e = let q = w.1 in cc
  is_number (to i k) h z w e = let q = w.1 in cc
  is_number (name x k) h z w e = let q = w.1 in cc

  pub is_text : (v : Value) (h : Held) (p : ℕ) → Means m a o v h → h ≡ is.Text p → (t : Text) × (v ≡ text t) × At m a o (string t) p
  is_text null h p w e = cc
  is_text (number y) h p w e = cc
  is_text (text t) h p w e = let q = w.1 in let s : w.0 ≡ p = cc in (t, refl, subst (λ (x : ℕ). At m a o (string t) x) s w.2)
  is_text (to i k) h p w e = let q = w.1 in cc
  is_text (name x k) h p w e = let q = w.1 in cc

  pub is_block : (v : Value) (h : Held) (p k : ℕ) → Means m a o v h → h ≡ is.Block p k → (i : ℕ) × (v ≡ to i k) × At m a o (block i) p
  is_block null h p k w e = cc
  is_block (number y) h p k w e = cc
  is_block (text t) h p k w e = let q = w.1 in cc
  is_block (to i n) h p k w e =
      let q = w.1 in let s : w.0 ≡ p = cc in let t : n ≡ k = cc in (i, ap (to i) t, subst (λ (x : ℕ). At m a o (block i) x) s w.2)
  is_block (name x n) h p k w e = let q = w.1 in cc

  -- A name is that of a field.
  pub is_name : Shows m a o → (v : Value) (h : Held) (p : ℕ) → Means m a o v h → h ≡ is.Name p → (x : Thing) × ((k : ℕ) × (v ≡ name x k) × Field m a o x k p)
  is_name sh null h p w e = cc
  is_name sh (number y) h p w e = cc
  is_name sh (text t) h p w e = let q = w.1 in cc
  is_name sh (to i n) h p w e = let q = w.1 in cc
  is_name sh (name x k) h p w e =
      let q = w.1 in let s : p ≡ w.0 + k = cc in
      (x, (k, refl, record { shows = sh; title = w.0; at = w.2; some = w.3; few = w.4; cell_is = s }))
