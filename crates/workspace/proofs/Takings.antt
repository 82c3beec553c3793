-- Which value of the model a call has taken from a register, and which it has refused.
use Rattle.std.proofs.Common.{Result, ◌≡◌, ℕ, ◌≤◌, Ok, Err, sym, refl, ap, ◌∙◌, subst, arith}
use Rattle.rules.specs.declared.Word.{Word}
use Rattle.rules.specs.Model.{Thing, block, string, Value, null, number, text, to, name, Model, register}
use Rattle.rules.specs.Arena.{Arena, At}
use Rattle.rules.specs.Calls.{Act, unfit, thing_then, field_then}
use Rattle.arena.specs.declared.values.Held.{Held}
use Rattle.arena.specs.declared.values.Held.TheVariants as is
use Rattle.arena.specs.Values.{held, Means, name_held as held_name, thing_held as held_thing}
use Rattle.arena.specs.Stored.{Field}
use Rattle.arena.proofs.Outcomes.{ok_same, ok_not_err}
use Rattle.arena.proofs.Decoding.{decodes}
use Rattle.arena.proofs.Meanings.{is_name}
use Rattle.workspace.specs.declared.faults.WorkspaceFault.{WorkspaceFault}
use Rattle.workspace.specs.Shown.{View, holding, Shown}
use Rattle.workspace.specs.Taken.{wrong_kind, taken}
use Rattle.workspace.proofs.Steps.{proper_in}

-- The name, and the block or string, that a call takes from a register, by its cell.
abbrev pub name_taken : Word → ℕ → Held → Result ℕ WorkspaceFault
name_taken w r h = taken w r (held_name h)

abbrev pub thing_taken : Word → ℕ → Held → Result ℕ WorkspaceFault
thing_taken w r h = taken w r (held_thing h)

-- What a register of a shown model holds.
pub means_in : {m : Model} {a : Arena} {v : View} → Shown m a v → (r : ℕ) → r ≤ 31 → Means m a v.memory (register m r) (held (holding v r))
means_in {m} {a} {v} s r l = decodes m a v.memory (register m r) (holding v r) (s.registers r (omega arith)) (proper_in s r)

-- The fault of a value that is not taken.
pub name_fault : (w : Word) (r : ℕ) (h : Held) (f : WorkspaceFault) → Err f ≡ name_taken w r h → f ≡ wrong_kind w r
name_fault w r is.Null f e = cc
name_fault w r (is.Number z) f e = cc
name_fault w r (is.Text p) f e = cc
name_fault w r (is.Block p t) f e = cc
name_fault w r (is.Name p) f e = ok_not_err {a = p} refl (sym e)
name_fault w r is.Other f e = cc

pub thing_fault : (w : Word) (r : ℕ) (h : Held) (f : WorkspaceFault) → Err f ≡ thing_taken w r h → f ≡ wrong_kind w r
thing_fault w r is.Null f e = cc
thing_fault w r (is.Number z) f e = cc
thing_fault w r (is.Text p) f e = ok_not_err {a = p} refl (sym e)
thing_fault w r (is.Block p t) f e = ok_not_err {a = p} refl (sym e)
thing_fault w r (is.Name p) f e = cc
thing_fault w r is.Other f e = cc

name_held : (w : Word) (r : ℕ) (h : Held) (p : ℕ) → Ok p ≡ name_taken w r h → h ≡ is.Name p
name_held w r is.Null p e = ok_not_err (sym e) refl
name_held w r (is.Number z) p e = ok_not_err (sym e) refl
name_held w r (is.Text q) p e = ok_not_err (sym e) refl
name_held w r (is.Block q t) p e = ok_not_err (sym e) refl
name_held w r (is.Name q) p e = ap is.Name (sym (ok_same {E = WorkspaceFault} p q e))
name_held w r is.Other p e = ok_not_err (sym e) refl

module _ {m : Model} {a : Arena} {v : View} (s : Shown m a v) (w : Word) (r : ℕ) (there : r ≤ 31) where
  -- A name that is taken, by the cell of its field.
  pub name_is : (p : ℕ) → Ok p ≡ name_taken w r (held (holding v r)) → (x : Thing) × ((k : ℕ) × (register m r ≡ name x k) × Field m a v.memory x k p)
  name_is p e = is_name m a v.memory s.shows (register m r) (held (holding v r)) p (means_in s r there) (name_held w r (held (holding v r)) p e)

  name_refused : (y : Value) (h : Held) (f : WorkspaceFault) → Means m a v.memory y h → Err f ≡ name_taken w r h → (inner : Thing → ℕ → Act) → field_then r y inner ≡ unfit r
  name_refused null h f k e inner = refl
  name_refused (number z) h f k e inner = refl
  name_refused (text t) h f k e inner = refl
  name_refused (to i t) h f k e inner = refl
  name_refused (name x n) h f k e inner = ok_not_err (ap (name_taken w r) k.1) (sym e)

  pub name_not : (f : WorkspaceFault) → Err f ≡ name_taken w r (held (holding v r)) → (inner : Thing → ℕ → Act) → field_then r (register m r) inner ≡ unfit r
  name_not f e inner = name_refused (register m r) (held (holding v r)) f (means_in s r there) e inner

  -- A block or a string that is taken, by the cell of its title.
  moved : (x : Thing) (h : Held) (p q : ℕ) → Ok p ≡ thing_taken w r h → thing_taken w r h ≡ Ok q → At m a v.memory x q → At m a v.memory x p
  moved x h p q e i l = subst (λ (k : ℕ). At m a v.memory x k) (sym (ok_same {E = WorkspaceFault} p q (e ∙ i))) l

  thing_held : (y : Value) (h : Held) (p : ℕ) → Means m a v.memory y h → Ok p ≡ thing_taken w r h →
      (x : Thing) × (((inner : Thing → Act) → thing_then r y inner ≡ inner x) × At m a v.memory x p)
  thing_held null h p k e = ok_not_err (sym e) (ap (thing_taken w r) k)
  thing_held (number z) h p k e = ok_not_err (sym e) (ap (thing_taken w r) k)
  thing_held (text t) h p k e = (string t, ((λ inner. refl), moved (string t) h p k.0 e (ap (thing_taken w r) k.1) k.2))
  thing_held (to i t) h p k e = (block i, ((λ inner. refl), moved (block i) h p k.0 e (ap (thing_taken w r) k.1) k.2))
  thing_held (name x n) h p k e = ok_not_err (sym e) (ap (thing_taken w r) k.1)

  pub thing_is : (p : ℕ) → Ok p ≡ thing_taken w r (held (holding v r)) →
      (x : Thing) × (((inner : Thing → Act) → thing_then r (register m r) inner ≡ inner x) × At m a v.memory x p)
  thing_is p e = thing_held (register m r) (held (holding v r)) p (means_in s r there) e

  thing_refused : (y : Value) (h : Held) (f : WorkspaceFault) → Means m a v.memory y h → Err f ≡ thing_taken w r h → (inner : Thing → Act) → thing_then r y inner ≡ unfit r
  thing_refused null h f k e inner = refl
  thing_refused (number z) h f k e inner = refl
  thing_refused (text t) h f k e inner = ok_not_err (ap (thing_taken w r) k.1) (sym e)
  thing_refused (to i t) h f k e inner = ok_not_err (ap (thing_taken w r) k.1) (sym e)
  thing_refused (name x n) h f k e inner = refl

  pub thing_not : (f : WorkspaceFault) → Err f ≡ thing_taken w r (held (holding v r)) → (inner : Thing → Act) → thing_then r (register m r) inner ≡ unfit r
  thing_not f e inner = thing_refused (register m r) (held (holding v r)) f (means_in s r there) e inner
