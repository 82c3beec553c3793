use Rattle.std.proofs.Common.{◌≡◌, ℕ, ◌+◌, get_or, pos, Ok, ap, ◌∙◌, arith}
use Rattle.rules.specs.Arena.{desc}
use Rattle.heap.proofs.Outcomes.{ok_same, ok_not_err}
use Rattle.heap.proofs.moving.forward.Goals as goal

pub returns-in_err-title-clause-moved : goal.returns-in_err-title-clause-moved
returns-in_err-title-clause-moved g c q k h =
    let ce = ok_same _ _ (c.in_ok-cell_of.ensures (q + k) h.value) in
    ok_not_err (c.title_of.ensures.back q k ce (rw ce h.within) h.back) c.in_err-title.was

pub returns-in_err-to-clause-moved : goal.returns-in_err-to-clause-moved
returns-in_err-to-clause-moved g c q k h =
    let ce = ok_same _ _ (c.in_ok-cell_of.ensures (q + k) h.value) in
    let te = ap (λ (x : ℕ × ℕ). x.0) (ok_same _ _ (c.in_ok-title.ensures.back q k ce (rw ce h.within) h.back)) in
    ok_not_err (c.new_cell.ensures (rw te h.listed)) c.in_err-to.was

pub returns-clause-moved : goal.returns-clause-moved
returns-clause-moved g c q k h =
    let ce = ok_same _ _ (c.in_ok-cell_of.ensures (q + k) h.value) in
    let pe = ok_same _ _ (c.in_ok-title.ensures.back q k ce (rw ce h.within) h.back) in
    let te = ap (λ (x : ℕ × ℕ). x.0) pe in
    let ke = ap (λ (x : ℕ × ℕ). x.1) pe in
    let we = ok_same _ _ (c.in_ok-to.ensures (rw te h.listed)) ∙ ap (λ (i : ℕ). get_or c.args.work.now i 0) te in
    let s = h.small in let a = c.saturating_add.ensures in
    let e : c.saturating_add.result ≡ get_or c.args.work.now q 0 + k = omega arith in
    c.pointer_at.ensures (omega arith) ∙ ap (λ (i : ℕ). Ok (desc (pos i) 16 c.args.d.kind)) e
