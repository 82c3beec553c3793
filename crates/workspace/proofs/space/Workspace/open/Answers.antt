use Rattle.std.proofs.Common.{[], Some, sym, ◌∙◌, subst, arith, rules}
use Rattle.rules.specs.Calls.{ok}
use Rattle.arena.specs.declared.extent.Extent.{Extent}
use Rattle.workspace.specs.Shown.{view}
use Rattle.workspace.specs.Opened.{Opens}
use Rattle.workspace.proofs.Admission.{shut_state}
use Rattle.workspace.proofs.Openings.{opened_empty}
use Rattle.workspace.proofs.Raises.{raised_ok}
use Rattle.workspace.proofs.space.Workspace.open.Goals as goal

pub returns-clause-opens : goal.returns-clause-opens
returns-clause-opens g c =
    let o = c.open_arena.ensures (search rules) (search rules) (omega arith) in
    let v = view g.S.Store.memory c.args.self.now in
    let f = g.S.Store.memory c.open_arena.new.store in
    let shut = shut_state c.args.self.now.state (sym c.is_some.ensures ∙ c.if-is_some.false) in
    let is = raised_ok c.open_arena.result _ _ _ _ c.in_ok-extent.ensures o.0 in
    subst (λ (e : Extent). Opens v c.args.bins (ok [] []) (record { memory = f; registers = v.registers; state = Some e })) (sym is)
    (opened_empty v c.args.bins f shut (search rules) (search rules) (omega arith) o.1 o.2)
