use Rattle.std.proofs.Common.{◌≡◌, ℕ, List, [], ◌∷◌, length, Ok, Err, sym, subst, rules}
use Rattle.std.proofs.lemmas.Result.{err_from_is_err_and}
use Rattle.scan.specs.declared.types.Verb.TheVariants as verb
use Rattle.scan.specs.Words.{a_layout, a_cell_count, a_number, nat, layout}
use Rattle.scan.specs.Taking.{ReadsAt, said_numbers}
use Rattle.scan.proofs.Arguments.{one_item}
use Rattle.scan.proofs.Steps.{cells_on, argued}
use Rattle.scan.proofs.reader.Reader.opening.Goals as goal

pub returns-in_err-layout-clause-onward : goal.returns-in_err-layout-clause-onward
returns-in_err-layout-clause-onward c k =
    let p = err_from_is_err_and c.from_residual.result c.from_residual.ensures.1 in
    rw (p.1, p.2) (argued verb.Open [] k c.args.self.now (Err c.in_err-layout.field-0.0) c.pick.new.self c.in_err-layout.ensures.picks a_layout (a_cell_count ∷ a_number ∷ []) layout (λ t o h. search rules))

pub returns-in_err-cells-clause-onward : goal.returns-in_err-cells-clause-onward
returns-in_err-cells-clause-onward c k =
    let p = err_from_is_err_and c.from_residual-in_err-cells.result c.from_residual-in_err-cells.ensures.1 in
    rw (p.1, p.2) (argued verb.Open [] k c.args.self.now (Ok c.in_ok-layout.layout) c.pick.new.self c.in_ok-layout.ensures.picks a_layout (a_cell_count ∷ a_number ∷ []) layout (λ t o h. search rules) _
    (cells_on verb.Open (layout c.in_ok-layout.layout ∷ []) (a_number ∷ []) k c.pick.new.self (Err c.in_err-cells.field-0.0) c.natural.new.self c.in_err-cells.ensures.picks))

pub returns-in_err-bins-clause-onward : goal.returns-in_err-bins-clause-onward
returns-in_err-bins-clause-onward c k =
    let p = err_from_is_err_and c.from_residual-in_err-bins.result c.from_residual-in_err-bins.ensures.1 in
    rw (p.1, p.2) (argued verb.Open [] k c.args.self.now (Ok c.in_ok-layout.layout) c.pick.new.self c.in_ok-layout.ensures.picks a_layout (a_cell_count ∷ a_number ∷ []) layout (λ t o h. search rules) _
    (cells_on verb.Open (layout c.in_ok-layout.layout ∷ []) (a_number ∷ []) k c.pick.new.self (Ok c.in_ok-cells.cells) c.natural.new.self c.in_ok-cells.ensures.picks _
    (c.in_err-bins.ensures.onward verb.Open (layout c.in_ok-layout.layout ∷ nat c.in_ok-cells.cells ∷ []) k)))

pub returns-clause-onward : goal.returns-clause-onward
returns-clause-onward c k o r =
    let e : length {A = ℕ} c.in_ok-bins.field-0 ≡ 1 = search rules in
    argued verb.Open [] k c.args.self.now (Ok c.in_ok-layout.layout) c.pick.new.self c.in_ok-layout.ensures.picks a_layout (a_cell_count ∷ a_number ∷ []) layout (λ t o h. search rules) o
    (cells_on verb.Open (layout c.in_ok-layout.layout ∷ []) (a_number ∷ []) k c.pick.new.self (Ok c.in_ok-cells.cells) c.natural.new.self c.in_ok-cells.ensures.picks o
    (c.in_ok-bins.ensures.onward verb.Open (layout c.in_ok-layout.layout ∷ nat c.in_ok-cells.cells ∷ []) k o
    (subst (λ (z : List ℕ). ReadsAt (said_numbers verb.Open (layout c.in_ok-layout.layout ∷ nat c.in_ok-cells.cells ∷ []) k z) c.arguments.new.self o) (sym (one_item c.in_ok-bins.field-0 e)) r)))
