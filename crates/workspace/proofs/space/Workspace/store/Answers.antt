use Rattle.std.proofs.Common.{◌≡◌, [], ◌∷◌, refl, ap, ◌∙◌}
use Rattle.rules.specs.declared.Word.{Word}
use Rattle.rules.specs.Calls.{Call}
use Rattle.arena.specs.Values.{name_held}
use Rattle.workspace.specs.Reports.{told}
use Rattle.workspace.specs.Shown.{view, nothing}
use Rattle.workspace.specs.Taken.{taken}
use Rattle.workspace.proofs.Steps.{at_door, passed}
use Rattle.workspace.proofs.Raises.{raised_kept}
use Rattle.workspace.proofs.Named.{store_unfit, store_fails, store_gives}
use Rattle.workspace.proofs.space.Workspace.store.Goals as goal

pub returns-in_err-admit-clause-exact : goal.returns-in_err-admit-clause-exact
returns-in_err-admit-clause-exact g c =
    at_door (view g.S.Store.memory c.args.self.now) (Call.store c.args.r c.args.s) (c.args.r ∷ c.args.s ∷ []) nothing c.from_residual.result
    c.in_err-admit.field-0.0 c.in_err-admit.ensures (passed c.from_residual.result _ _ c.from_residual.ensures.1 refl) tt refl (λ l m u h. (_, refl))

pub returns-in_err-cell-clause-exact : goal.returns-in_err-cell-clause-exact
returns-in_err-cell-clause-exact g c =
    store_unfit (view g.S.Store.memory c.args.self.now) c.args.r c.args.s c.in_ok-admit.ensures
    c.from_residual-in_err-cell.result c.in_err-cell.field-0.0 (c.in_err-cell.ensures ∙ ap (taken Word.Store c.args.r) (c.name.ensures ∙ ap name_held c.decoded.ensures.flags))
    (passed c.from_residual-in_err-cell.result _ _ c.from_residual-in_err-cell.ensures.1 refl)

pub returns-in_err-in_call-clause-exact : goal.returns-in_err-in_call-clause-exact
returns-in_err-in_call-clause-exact g c =
    let same : c.store_field.new.store ≡ c.args.self.now.cells =
    raised_kept _ c.store_field.result _ _ c.in_err-in_call.field-0.0 c.in_err-in_call.ensures c.store_field.ensures.kept in
    store_fails (view g.S.Store.memory c.args.self.now) c.args.r c.args.s c.in_ok-admit.ensures
    c.in_ok-cell.cell (c.in_ok-cell.ensures ∙ ap (taken Word.Store c.args.r) (c.name.ensures ∙ ap name_held c.decoded.ensures.flags)) c.store_field.result (g.S.Store.memory c.store_field.new.store) c.store_field.ensures.stored
    c.from_residual-in_err-in_call.result c.in_err-in_call.field-0.0 c.in_err-in_call.ensures
    (passed c.from_residual-in_err-in_call.result (told c.in_err-in_call.field-0.0) _ c.from_residual-in_err-in_call.ensures.1 refl)
    (ap g.S.Store.memory same)

pub returns-clause-exact : goal.returns-clause-exact
returns-clause-exact g c =
    store_gives (view g.S.Store.memory c.args.self.now) c.args.r c.args.s c.in_ok-admit.ensures
    c.in_ok-cell.cell (c.in_ok-cell.ensures ∙ ap (taken Word.Store c.args.r) (c.name.ensures ∙ ap name_held c.decoded.ensures.flags)) c.store_field.result _ c.store_field.ensures.stored
