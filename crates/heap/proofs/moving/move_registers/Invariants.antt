use Rattle.std.proofs.Common.{ℕ, ◌<◌, length, get_or}
use Rattle.rules.specs.Arena.{null_desc}
use Rattle.heap.specs.Moves.{Ready, Shifting}
use Rattle.heap.proofs.moving.move_registers.Given as goal

abbrev pub invariant-loop-register : goal.invariant-loop-register
invariant-loop-register g l =
    ((i : ℕ) → i < length l.initial.registers → Ready (g.S.Store.memory l.store) l.work (get_or l.initial.registers i null_desc)) →
    Shifting (g.S.Store.memory l.store) l.work l.initial.registers l.register-index l.registers
