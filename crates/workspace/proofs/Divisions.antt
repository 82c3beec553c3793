-- The numbers in registers, and their quotient.
use Rattle.std.proofs.Common.{Result, ◌≡◌, ℕ, ◌≤◌, Bool, true, false, cond, [], ℤ, Some, None, Ok, Err, Option, sym, refl, ap, subst, arith}
use Rattle.cells.specs.Meaning.{Memory}
use Rattle.rules.specs.declared.Layer.{Layer}
use Rattle.rules.specs.declared.Word.{Word}
use Rattle.rules.specs.Model.{Value, Model, register}
use Rattle.rules.specs.Arena.{Arena}
use Rattle.rules.specs.Calls.{Act, give, refuse, put, number_then, unfit, divides, quotient}
use Rattle.arena.specs.declared.values.Held.{Held}
use Rattle.arena.specs.declared.values.Held.TheVariants as is
use Rattle.arena.specs.Values.{held, Means, number_held as held_number}
use Rattle.arena.proofs.Outcomes.{ok_not_err}
use Rattle.workspace.specs.declared.faults.WorkspaceFault.{WorkspaceFault}
use Rattle.workspace.specs.Taken.{wrong_kind, taken}
use Rattle.workspace.specs.Shown.{View, Shown, holding}
use Rattle.workspace.proofs.Holdings.{register_means, number_in}

-- The number that a call takes from a register.
abbrev pub number_taken : Word → ℕ → Held → Result ℤ WorkspaceFault
number_taken w r h = taken w r (held_number h)

-- What a call that divides comes to, past its two numbers, and past the first.
abbrev pub quotient_then : Model → ℕ → ℤ → ℤ → Act
quotient_then m r x y = cond (divides x y) (give [] [] (put m r (Value.number (quotient x y)))) (refuse 13 Layer.Workspace r 0)

abbrev pub divisor_then : Model → ℕ → ℕ → ℤ → Act
divisor_then m r q x = number_then q (register m q) (quotient_then m r x)

-- The fault of a value that is no number.
pub number_fault : (w : Word) (r : ℕ) (h : Held) (f : WorkspaceFault) → Err f ≡ number_taken w r h → f ≡ wrong_kind w r
number_fault w r is.Null f e = cc
number_fault w r (is.Number z) f e = ok_not_err {a = z} refl (sym e)
number_fault w r (is.Text p) f e = cc
number_fault w r (is.Block p t) f e = cc
number_fault w r (is.Name p) f e = cc
number_fault w r is.Other f e = cc

number_held : (w : Word) (r : ℕ) (h : Held) (z : ℤ) → Ok z ≡ number_taken w r h → is.Number z ≡ h
number_held w r is.Null z e = ok_not_err (sym e) refl
number_held w r (is.Number y) z e = cc
number_held w r (is.Text p) z e = ok_not_err (sym e) refl
number_held w r (is.Block p t) z e = ok_not_err (sym e) refl
number_held w r (is.Name p) z e = ok_not_err (sym e) refl
number_held w r is.Other z e = ok_not_err (sym e) refl

number_refused : (m : Model) (a : Arena) (o : Memory) (w : Word) (r : ℕ) (x : Value) (h : Held) (f : WorkspaceFault) → Means m a o x h → Err f ≡ number_taken w r h →
    (inner : ℤ → Act) → number_then r x inner ≡ unfit r
number_refused m a o w r Value.null h f k e inner = refl
number_refused m a o w r (Value.number z) h f k e inner = ok_not_err (ap (number_taken w r) k) (sym e)
number_refused m a o w r (Value.text t) h f k e inner = refl
number_refused m a o w r (Value.to i t) h f k e inner = refl
number_refused m a o w r (Value.name x n) h f k e inner = refl

module _ {m : Model} {a : Arena} {v : View} (s : Shown m a v) (w : Word) (r : ℕ) (there : r ≤ 31) (inner : ℤ → Act) where
  -- The rules take the number that a register's descriptor holds, and refuse where it holds none.
  pub number_is : (z : ℤ) → Ok z ≡ number_taken w r (held (holding v r)) → number_then r (register m r) inner ≡ inner z
  number_is z e = ap (λ (x : Value). number_then r x inner) (number_in s r there z (number_held w r (held (holding v r)) z e))

  pub number_not : (f : WorkspaceFault) → Err f ≡ number_taken w r (held (holding v r)) → number_then r (register m r) inner ≡ unfit r
  number_not f e = number_refused m a v.memory w r (register m r) (held (holding v r)) f (register_means s r there) e inner

some_quotient : (b : Bool) (x z : ℤ) → ◌≡◌ {A = Option ℤ} (Some z) (cond b (Some x) None) → (b ≡ true) × (x ≡ z)
some_quotient true x z e = (refl, cc)
some_quotient false x z e = absurd (let q : ◌≡◌ {A = ℕ} 0 1 = cc in omega arith)

no_quotient : (b : Bool) (x : ℤ) (r : Option ℤ) → r ≡ cond b (Some x) None → ((z : ℤ) → r ≡ Some z → ⊥) → b ≡ false
no_quotient true x r e n = absurd (n x e)
no_quotient false x r e n = refl

like : (r : Option ℤ) (p q x y : ℤ) → p ≡ x → q ≡ y → r ≡ cond (divides p q) (Some (quotient p q)) None → r ≡ cond (divides x y) (Some (quotient x y)) None
like r p q x y e f h =
    subst (λ (k : ℤ). r ≡ cond (divides x k) (Some (quotient x k)) None) f (subst (λ (k : ℤ). r ≡ cond (divides k q) (Some (quotient k q)) None) e h)

-- The quotient that was found, or that there is none: of numbers that the code has as p and q.
pub quotient_some : (p q x y z : ℤ) → p ≡ x → q ≡ y → Some z ≡ cond (divides p q) (Some (quotient p q)) None → (divides x y ≡ true) × (quotient x y ≡ z)
quotient_some p q x y z e f h = some_quotient (divides x y) (quotient x y) z (like (Some z) p q x y e f h)

pub quotient_none : (r : Option ℤ) (p q x y : ℤ) → p ≡ x → q ≡ y → r ≡ cond (divides p q) (Some (quotient p q)) None → ((z : ℤ) → r ≡ Some z → ⊥) → divides x y ≡ false
quotient_none r p q x y e f h n = no_quotient (divides x y) (quotient x y) r (like r p q x y e f h) n
