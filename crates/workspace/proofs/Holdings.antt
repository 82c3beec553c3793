-- Which value of the model a register's descriptor holds.
use Rattle.std.proofs.Common.{◌≡◌, ℕ, ◌≤◌, ℤ, sym, arith}
use Rattle.cells.specs.Meaning.{Memory}
use Rattle.rules.specs.Model.{Text, Thing, block, string, Value, null, number, text, to, name, Model, register}
use Rattle.rules.specs.Arena.{Arena, At}
use Rattle.arena.specs.declared.values.Held.{Held}
use Rattle.arena.specs.declared.values.Held.TheVariants as is
use Rattle.arena.specs.Values.{held, Means}
use Rattle.arena.specs.Stored.{Field}
use Rattle.arena.proofs.Decoding.{decodes}
use Rattle.arena.proofs.Meanings.{is_null, is_number, is_text, is_block, is_name}
use Rattle.workspace.specs.Shown.{View, Shown, holding}
use Rattle.workspace.proofs.Steps.{proper_in}

-- A value is held in a form of its own.
never_other : (m : Model) (a : Arena) (o : Memory) (x : Value) (h : Held) {C : Type 0} → Means m a o x h → h ≡ is.Other → C
never_other m a o null h w e = absurd (let b : ◌≡◌ {A = ℕ} 0 1 = cc in omega arith)
never_other m a o (number z) h w e = absurd (let b : ◌≡◌ {A = ℕ} 0 1 = cc in omega arith)
never_other m a o (text t) h w e = let q = w.1 in absurd (let b : ◌≡◌ {A = ℕ} 0 1 = cc in omega arith)
never_other m a o (to i k) h w e = let q = w.1 in absurd (let b : ◌≡◌ {A = ℕ} 0 1 = cc in omega arith)
never_other m a o (name x k) h w e = let q = w.1 in absurd (let b : ◌≡◌ {A = ℕ} 0 1 = cc in omega arith)

module _ {m : Model} {a : Arena} {v : View} (s : Shown m a v) (r : ℕ) (there : r ≤ 31) where
  pub register_means : Means m a v.memory (register m r) (held (holding v r))
  register_means = decodes m a v.memory (register m r) (holding v r) (s.registers r (omega arith)) (proper_in s r)

  pub null_in : is.Null ≡ held (holding v r) → register m r ≡ null
  null_in e = is_null m a v.memory (register m r) (held (holding v r)) register_means (sym e)

  pub number_in : (z : ℤ) → is.Number z ≡ held (holding v r) → register m r ≡ number z
  number_in z e = is_number m a v.memory (register m r) (held (holding v r)) z register_means (sym e)

  pub text_in : (p : ℕ) → is.Text p ≡ held (holding v r) → (t : Text) × (register m r ≡ text t) × At m a v.memory (string t) p
  text_in p e = is_text m a v.memory (register m r) (held (holding v r)) p register_means (sym e)

  pub block_in : (p k : ℕ) → is.Block p k ≡ held (holding v r) → (i : ℕ) × (register m r ≡ to i k) × At m a v.memory (block i) p
  block_in p k e = is_block m a v.memory (register m r) (held (holding v r)) p k register_means (sym e)

  pub name_in : (p : ℕ) → is.Name p ≡ held (holding v r) → (x : Thing) × ((k : ℕ) × (register m r ≡ name x k) × Field m a v.memory x k p)
  name_in p e = is_name m a v.memory s.shows (register m r) (held (holding v r)) p register_means (sym e)

  pub other_never : {C : Type 0} → is.Other ≡ held (holding v r) → C
  other_never e = never_other m a v.memory (register m r) (held (holding v r)) register_means (sym e)
