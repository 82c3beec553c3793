-- Scripts as they are written: forms, the bytes that write them, and the steps that they stand for.
use Rattle.std.specs.Prelude.{◌≡◌, ℕ, ◌-◌, ◌≤◌, Bool, true, false, List, [], ◌∷◌, ◌++◌, map, length, pos, negsuc, codes, decimal}
use Rattle.scan.specs.declared.types.Step.{Step}
use Rattle.scan.specs.declared.types.Layout.{Layout}
use Rattle.scan.specs.Tokens.{every, printable}
use Rattle.scan.specs.Words.{Kind, a_number, a_cell_count, a_signed, a_text, a_layout, Arg, nat, int, chars, layout, kinds, is_open, Said, said_of}
use Rattle.scan.specs.Forms.{copies}
use Rattle.scan.specs.Writing.{written_call}

-- A list of forms: a call or a `times` with its own forms, and the forms after it.
pub data Forms : Type 0 where
  end : Forms
  call : Said → Forms → Forms
  times : ℕ → Forms → Forms → Forms

-- what they stand for: a `times` for its forms n times
abbrev pub steps_of : Forms → List Said
steps_of end = []
steps_of (call s more) = s ∷ steps_of more
steps_of (times n fs more) = copies n (steps_of fs) ++ steps_of more

-- forms, each between two texts, and then the rest; inside a `times` each stands behind a space
abbrev pub each : List ℕ → List ℕ → Forms → List ℕ → List ℕ
each before after end rest = rest
each before after (call s more) rest = before ++ written_call s (after ++ each before after more rest)
each before after (times n fs more) rest = before ++ (codes "(times " ++ (decimal n ++ each (codes " ") [] fs (41 ∷ (after ++ each before after more rest))))

-- a script has one form to a line
abbrev pub written : Forms → List ℕ
written fs = each [] (10 ∷ []) fs []

-- Limits

-- an argument of a kind; `negsuc n` is -(n + 1)
pub data OfKind : Kind → Arg → Type 0 where
  number : {n : ℕ} → n ≤ 2147483647 → OfKind a_number (nat n)
  cells : {n : ℕ} → 1 ≤ n → n ≤ 4096 → OfKind a_cell_count (nat n)
  positive : {n : ℕ} → n ≤ 2147483647 → OfKind a_signed (int (pos n))
  negative : {n : ℕ} → n ≤ 2147483647 → OfKind a_signed (int (negsuc n))
  words : {t : List ℕ} → every printable t ≡ true → OfKind a_text (chars t)
  name : {l : Layout} → OfKind a_layout (layout l)

-- an argument for each kind
pub data OfKinds : List Kind → List Arg → Type 0 where
  none : OfKinds [] []
  one : {κ : Kind} {κs : List Kind} {a : Arg} {more : List Arg} → OfKind κ a → OfKinds κs more → OfKinds (κ ∷ κs) (a ∷ more)

-- a call with the arguments that its word takes; it is open, or it is not
abbrev pub Called : Bool → Said → Type 0
Called opening s = (is_open s.verb ≡ opening) × OfKinds (kinds s.verb) s.args

abbrev pub some : Forms → Bool
some end = false
some (call s more) = true
some (times n fs more) = true

-- forms behind the first, with so many brackets that may be open at once
abbrev pub Inner : ℕ → Forms → Type 0
Inner d end = Unit {0}
Inner d (call s more) = (1 ≤ d) × Called false s × Inner d more
Inner d (times n fs more) = (1 ≤ d) × (1 ≤ n) × (n ≤ 1000) × (some fs ≡ true) × Inner (d - 1) fs × Inner d more

-- the first form is open, and no other
abbrev pub Opened : Forms → Type 0
Opened end = Unit {0}
Opened (call s more) = Called true s × Inner 16 more
Opened (times n fs more) = ⊥

-- forms within the limits
pub record Lawful (fs : Forms) : Type 0 where
  pub forms : Opened fs
  pub bytes : length (written fs) ≤ 16384
  pub steps : length (steps_of fs) ≤ 4096

-- what is answered is what was written
abbrev pub ReadBack : Forms → List Step → Type 0
ReadBack fs items = map said_of items ≡ steps_of fs
