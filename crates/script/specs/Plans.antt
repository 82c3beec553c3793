-- The flat list of steps, and what forms and lines add to it.
use Rattle.std.specs.Prelude.{◌≡◌, ℕ, ◌+◌, ◌-◌, ◌≤◌, Bool, true, false, cond, not, ◌≢◌, List, [], ◌∷◌, ◌++◌, length, take, drop, Some, None, Ok, Err, Option, Result, nat_le}
use Rattle.scan.specs.declared.types.ReaderFault.{ReaderFault}
use Rattle.scan.specs.declared.types.ReaderFault.TheVariants as fault
use Rattle.script.specs.declared.plan.Plan.{Plan}
use Rattle.script.specs.declared.forms.Expander.{Expander}
use Rattle.scan.specs.Words.{bind, Said}
use Rattle.scan.specs.Forms.{copies, Open, bottom, times, depth, first, add, start, opened, ended, Outcome, refused}
use Rattle.script.specs.Scripts.{Whole}
use Rattle.scan.specs.Taking.{some, left, ReadsAt, LeadsAt}

-- A plan is seen as what its steps say; none where there were too many.

-- at most 4,096 steps
abbrev pub limited : List Said → Option (List Said)
limited ss = cond (nat_le (length ss) 4096) (Some ss) None

-- further steps
abbrev pub with_more : Option (List Said) → List Said → Option (List Said)
with_more h [] = h
with_more h (s ∷ more) = bind h (λ ss. limited (ss ++ s ∷ more))

abbrev pub nothing : Option (List Said) → Bool
nothing None = false
nothing (Some ss) = not (some ss)

abbrev pub size : Option (List Said) → ℕ
size None = 0
size (Some ss) = length ss

-- the steps from one place to another
abbrev pub part : ℕ → ℕ → Option (List Said) → List Said
part from to None = []
part from to (Some ss) = take (to - from) (drop from ss)

-- the plan holds further steps, or memory was wanting
abbrev pub Pushes : Result (Unit {0}) ReaderFault → Plan → Plan → List Said → Type 0
Pushes (Ok u) p q more = q ≡ with_more p more
Pushes (Err f) p q more = f ≡ fault.Memory

abbrev pub Adds : Result (Unit {0}) ReaderFault → Plan → Plan → ℕ → ℕ → Type 0
Adds r p q from to = Pushes r p q (part from to p)

-- the steps from a place on, so many times
abbrev pub Repeats : Result (Unit {0}) ReaderFault → Plan → Plan → ℕ → ℕ → Type 0
Repeats r p q from n = Pushes r p q (copies (n - 1) (part from (size p) p))

-- no form has been read
abbrev pub fresh : Expander → Bool
fresh E = nothing E.plan

-- a form whose bracket has been read, with so many brackets that may stand inside
pub record Formed (inner : ℕ) (E F : Expander) : Type 0 where
  pub steps : List Said
  pub any : some steps ≡ true
  pub leads : (k : Open) → depth k + inner ≡ 15 → first k ≡ fresh E → LeadsAt (opened k) E.reader (ended (add steps k)) F.reader
  pub grows : F.plan ≡ with_more E.plan steps

abbrev pub ReadsForm : Result (Unit {0}) ReaderFault → ℕ → Expander → Expander → Type 0
ReadsForm (Ok u) inner E F = Formed inner E F
ReadsForm (Err f) inner E F = f ≢ fault.Memory → (k : Open) → depth k + inner ≡ 15 → first k ≡ fresh E → ReadsAt (opened k) E.reader (refused f)

-- forms inside a `times`
pub record Filled (inner : ℕ) (empty : Bool) (E F : Expander) : Type 0 where
  pub steps : List Said
  pub any : some steps ≡ not empty
  pub leads : (n : ℕ) (k : Open) → depth k + inner ≡ 15 → LeadsAt (start (times n [] k)) E.reader (start (times n steps k)) F.reader
  pub grows : F.plan ≡ with_more E.plan steps
  pub later : fresh F ≡ false
  pub shorter : left F.reader ≤ left E.reader

-- a line
pub record Lined (E F : Expander) : Type 0 where
  pub steps : List Said
  pub leads : (said : List Said) → first (bottom said) ≡ fresh E → LeadsAt (start (bottom said)) E.reader (start (bottom (said ++ steps))) F.reader
  pub grows : F.plan ≡ with_more E.plan steps

abbrev pub ReadsLine : Result (Unit {0}) ReaderFault → Expander → Expander → Type 0
ReadsLine (Ok u) E F = Lined E F
ReadsLine (Err f) E F = f ≢ fault.Memory → (said : List Said) → first (bottom said) ≡ fresh E → ReadsAt (start (bottom said)) E.reader (refused f)

-- the lines of a script so far
pub record Behind (script : List ℕ) (E : Expander) : Type 0 where
  pub said : List Said
  pub leads : (o : Outcome) → ReadsAt (start (bottom said)) E.reader o → Whole script o
  pub holds : E.plan ≡ limited said
