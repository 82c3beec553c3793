use Rattle.std.proofs.Common.{◌<◌, length, pos, arith}
use Rattle.rules.specs.Arena.{desc}
use Rattle.heap.proofs.Outcomes.{ok_same, ok_not_err}
use Rattle.heap.proofs.Values.{forward_one, shifting_read, shifting_more}
use Rattle.heap.proofs.moving.move_registers.Goals as goal

pub returns-in_err-register : goal.returns-in_err-register
returns-in_err-register g c re =
    let s = c.loop-register.invariant re in
    let l : c.loop-register.register-index < length c.loop-register.registers = omega arith in
    let e = shifting_read _ _ _ c.loop-register.register-index _ (desc (pos 0) 0 0) s l in
    let w = forward_one _ _ _ _ _ e c.forward.ensures.plain c.forward.ensures.moved (re c.loop-register.register-index (omega arith)) in
    ok_not_err w.1 c.in_err-register.was

pub loop-register-preserved : goal.loop-register-preserved
loop-register-preserved g c re =
    let s = c.loop-register.invariant re in
    let l : c.loop-register.register-index < length c.loop-register.registers = omega arith in
    let e = shifting_read _ _ _ c.loop-register.register-index _ (desc (pos 0) 0 0) s l in
    let w = forward_one _ _ _ _ _ e c.in_ok-register.ensures.plain c.in_ok-register.ensures.moved (re c.loop-register.register-index (omega arith)) in
    shifting_more _ _ _ c.loop-register.register-index _ _ s l (rw (← (ok_same _ _ w.1)) at w.2)
