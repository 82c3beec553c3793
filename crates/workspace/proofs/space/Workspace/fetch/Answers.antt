use Rattle.std.proofs.Common.{[], ◌∷◌, refl, ap, ◌∙◌}
use Rattle.rules.specs.declared.Word.{Word}
use Rattle.rules.specs.Calls.{Call}
use Rattle.arena.specs.Values.{name_held}
use Rattle.workspace.specs.Reports.{told}
use Rattle.workspace.specs.Shown.{view, nothing}
use Rattle.workspace.specs.Taken.{taken}
use Rattle.workspace.proofs.Steps.{at_door, passed}
use Rattle.workspace.proofs.Named.{fetch_unfit, fetch_fails, fetch_gives}
use Rattle.workspace.proofs.space.Workspace.fetch.Goals as goal

pub returns-in_err-admit-clause-exact : goal.returns-in_err-admit-clause-exact
returns-in_err-admit-clause-exact g c =
    at_door (view g.S.Store.memory c.args.self.now) (Call.fetch c.args.r c.args.s) (c.args.r ∷ c.args.s ∷ []) nothing c.from_residual.result
    c.in_err-admit.field-0.0 c.in_err-admit.ensures (passed c.from_residual.result _ _ c.from_residual.ensures.1 refl) tt refl (λ l m u h. (_, refl))

pub returns-in_err-cell-clause-exact : goal.returns-in_err-cell-clause-exact
returns-in_err-cell-clause-exact g c =
    fetch_unfit (view g.S.Store.memory c.args.self.now) c.args.r c.args.s c.in_ok-admit.ensures
    c.from_residual-in_err-cell.result c.in_err-cell.field-0.0 (c.in_err-cell.ensures ∙ ap (taken Word.Fetch c.args.s) (c.name.ensures ∙ ap name_held c.decoded.ensures.flags))
    (passed c.from_residual-in_err-cell.result _ _ c.from_residual-in_err-cell.ensures.1 refl)

pub returns-in_err-d-clause-exact : goal.returns-in_err-d-clause-exact
returns-in_err-d-clause-exact g c =
    fetch_fails (view g.S.Store.memory c.args.self.now) c.args.r c.args.s c.in_ok-admit.ensures
    c.in_ok-cell.cell (c.in_ok-cell.ensures ∙ ap (taken Word.Fetch c.args.s) (c.name.ensures ∙ ap name_held c.decoded.ensures.flags)) c.fetch_field.result c.fetch_field.ensures
    c.from_residual-in_err-d.result c.in_err-d.field-0.0 c.in_err-d.ensures
    (passed c.from_residual-in_err-d.result (told c.in_err-d.field-0.0) _ c.from_residual-in_err-d.ensures.1 refl)

pub returns-clause-exact : goal.returns-clause-exact
returns-clause-exact g c =
    fetch_gives (view g.S.Store.memory c.args.self.now) c.args.r c.args.s c.in_ok-admit.ensures
    c.in_ok-cell.cell (c.in_ok-cell.ensures ∙ ap (taken Word.Fetch c.args.s) (c.name.ensures ∙ ap name_held c.decoded.ensures.flags)) c.fetch_field.result c.fetch_field.ensures
    c.in_ok-d.d c.in_ok-d.ensures
