-- How calls, steps and faults are written.
use Rattle.std.specs.Prelude.{ℕ, List, [], ◌∷◌, ◌++◌, codes, decimal}
use Rattle.std.proofs.Math.Utf8.{encodes}
use Rattle.std.specs.Fmt.{signed_decimal}
use Rattle.scan.specs.declared.types.Spot.{Spot}
use Rattle.scan.specs.declared.types.Step.{Step}
use Rattle.scan.specs.declared.types.Step.TheVariants as step
use Rattle.scan.specs.declared.types.Verb.TheVariants as verb
use Rattle.scan.specs.declared.types.ReaderFault.{ReaderFault}
use Rattle.scan.specs.declared.types.ReaderFault.TheVariants as fault
use Rattle.scan.specs.Words.{spelled, layout_name, Arg, nat, int, chars, layout, Said, says, said_of}

abbrev pub quoted : List ℕ → List ℕ
quoted t = 34 ∷ (t ++ 34 ∷ [])

abbrev pub written_arg : Arg → List ℕ
written_arg (nat n) = decimal n
written_arg (int z) = signed_decimal z
written_arg (chars t) = quoted t
written_arg (layout l) = layout_name l

-- arguments, each behind a space, and then the rest
abbrev pub written_args : List Arg → List ℕ → List ℕ
written_args [] rest = rest
written_args (a ∷ more) rest = 32 ∷ (written_arg a ++ written_args more rest)

-- a call as `(make 4 2 20)`, and then the rest
abbrev pub written_call : Said → List ℕ → List ℕ
written_call s rest = 40 ∷ (spelled s.verb ++ written_args s.args (41 ∷ rest))

-- What `{}` writes of a step: its form. Each byte of a text is written as the character of its number, which is the byte itself below 128.
abbrev pub displayed_as : Step → Said
displayed_as (step.Open l c b) = said_of (step.Open l c b)
displayed_as (step.Null r) = said_of (step.Null r)
displayed_as (step.Number r i) = said_of (step.Number r i)
displayed_as (step.Copy r s) = said_of (step.Copy r s)
displayed_as (step.Make r n t) = said_of (step.Make r n t)
displayed_as (step.Text r t) = says verb.Text (nat r ∷ chars (encodes t.now) ∷ [])
displayed_as (step.Name r s k) = said_of (step.Name r s k)
displayed_as (step.Fetch r s) = said_of (step.Fetch r s)
displayed_as (step.Store r s) = said_of (step.Store r s)
displayed_as (step.Divide r s q) = said_of (step.Divide r s q)
displayed_as (step.Kind r) = said_of (step.Kind r)
displayed_as (step.Read r) = said_of (step.Read r)
displayed_as (step.Same r s) = said_of (step.Same r s)
displayed_as (step.Collect n) = said_of (step.Collect n)

abbrev pub displayed : Step → List ℕ
displayed s = written_call (displayed_as s) []

-- What `{}` writes of a place: LINE COLUMN
abbrev pub place : Spot → List ℕ
place at = decimal at.line ++ (codes " " ++ decimal at.column)

-- What `{}` writes of a fault: (no 18 reader LINE COLUMN)
abbrev pub refusal : List ℕ → Spot → List ℕ
refusal number at = codes "(no " ++ (number ++ (codes " reader " ++ (place at ++ codes ")")))

abbrev pub fault_text : ReaderFault → List ℕ
fault_text (fault.NoToken at) = refusal (codes "18") at
fault_text (fault.Unfit at) = refusal (codes "19") at
fault_text fault.TooLong = codes "(no 20 reader 0 0)"
fault_text fault.Memory = codes "(no memory)"
