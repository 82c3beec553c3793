-- What a call takes from a register: any other value is refused there.
use Rattle.std.specs.Prelude.{ℕ, Some, None, Ok, Err, Option, Result}
use Rattle.rules.specs.declared.Word.{Word}
use Rattle.workspace.specs.declared.faults.Cause.TheVariants.{WrongKind}
use Rattle.workspace.specs.declared.faults.WorkspaceFault.{WorkspaceFault}

abbrev pub wrong_kind : Word → ℕ → WorkspaceFault
wrong_kind w r = record { cause = WrongKind; call = w; register = r }

abbrev pub taken : {T : Type 0} → Word → ℕ → Option T → Result T WorkspaceFault
taken w r (Some x) = Ok x
taken w r None = Err (wrong_kind w r)
