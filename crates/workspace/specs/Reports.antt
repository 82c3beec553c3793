-- What a refusal reports: its number, its layer, the call, the register and the place.
use Rattle.std.specs.Prelude.{ℕ, Ok, Err, Result}
use Rattle.rules.specs.declared.Layer.{Layer}
use Rattle.rules.specs.declared.Word.{Word}
use Rattle.rules.specs.Calls.{Refusal}
use Rattle.arena.specs.declared.faults.HeapFault.{HeapFault}
use Rattle.arena.specs.Faults.{heap_number, heap_layer, heap_place}
use Rattle.workspace.specs.declared.faults.Cause.{Cause}
use Rattle.workspace.specs.declared.faults.Cause.TheVariants.{Heap, Closed, AlreadyOpen, BadBins, NoRegister, WrongKind, Division, ShortBuffer, ShortWork}
use Rattle.workspace.specs.declared.faults.Raised.{Raised}
use Rattle.workspace.specs.declared.faults.WorkspaceFault.{WorkspaceFault}

abbrev pub cause_number : Cause → ℕ
cause_number (Heap h) = heap_number h
cause_number Closed = 5
cause_number AlreadyOpen = 6
cause_number BadBins = 7
cause_number NoRegister = 8
cause_number WrongKind = 9
cause_number Division = 13
cause_number ShortBuffer = 14
cause_number ShortWork = 15

-- The heap's fault names its own layer, and its store's.
abbrev pub cause_layer : Cause → Layer
cause_layer (Heap h) = heap_layer h
cause_layer Closed = Layer.Workspace
cause_layer AlreadyOpen = Layer.Workspace
cause_layer BadBins = Layer.Workspace
cause_layer NoRegister = Layer.Workspace
cause_layer WrongKind = Layer.Workspace
cause_layer Division = Layer.Workspace
cause_layer ShortBuffer = Layer.Workspace
cause_layer ShortWork = Layer.Workspace

-- The workspace's own faults have place 0.
abbrev pub cause_place : Cause → ℕ
cause_place (Heap h) = heap_place h
cause_place Closed = 0
cause_place AlreadyOpen = 0
cause_place BadBins = 0
cause_place NoRegister = 0
cause_place WrongKind = 0
cause_place Division = 0
cause_place ShortBuffer = 0
cause_place ShortWork = 0

-- A refusal by its parts.
abbrev pub refusal : Word → ℕ → Cause → WorkspaceFault
refusal w r c = record { cause = c; call = w; register = r }

-- A fault as the rules have it.
abbrev pub report : WorkspaceFault → Refusal
report f =
    record { number = cause_number f.cause; layer = cause_layer f.cause; call = f.call; register = f.register; place = cause_place f.cause }

-- A heap's answer with the call and the register beside its fault, and the workspace's fault that it becomes.
abbrev pub raised : {T : Type 0} → Result T HeapFault → Word → ℕ → Result T Raised
raised (Ok x) w r = Ok x
raised (Err h) w r = Err (record { fault = h; call = w; register = r })

abbrev pub told : Raised → WorkspaceFault
told h = record { cause = Heap h.fault; call = h.call; register = h.register }
