use Rattle.std.proofs.Common.{[], ◌∷◌, refl, ap, ◌∙◌}
use Rattle.rules.specs.declared.Word.{Word}
use Rattle.rules.specs.Calls.{Call}
use Rattle.arena.specs.Values.{thing_held}
use Rattle.workspace.specs.Reports.{told}
use Rattle.workspace.specs.Shown.{view, nothing}
use Rattle.workspace.specs.Taken.{taken}
use Rattle.workspace.proofs.Steps.{at_door, passed}
use Rattle.workspace.proofs.Named.{name_unfit, name_fails, name_gives}
use Rattle.workspace.proofs.space.Workspace.name.Goals as goal

pub returns-in_err-admit-clause-exact : goal.returns-in_err-admit-clause-exact
returns-in_err-admit-clause-exact g c =
    at_door (view g.S.Store.memory c.args.self.now) (Call.name c.args.r c.args.s c.args.k) (c.args.r ∷ c.args.s ∷ []) nothing c.from_residual.result
    c.in_err-admit.field-0.0 c.in_err-admit.ensures (passed c.from_residual.result _ _ c.from_residual.ensures.1 refl) tt refl (λ l m u h. (_, refl))

pub returns-in_err-title-clause-exact : goal.returns-in_err-title-clause-exact
returns-in_err-title-clause-exact g c =
    name_unfit (view g.S.Store.memory c.args.self.now) c.args.r c.args.s c.args.k c.in_ok-admit.ensures
    c.from_residual-in_err-title.result c.in_err-title.field-0.0 (c.in_err-title.ensures ∙ ap (taken Word.Name c.args.s) (c.thing.ensures ∙ ap thing_held c.decoded.ensures.flags))
    (passed c.from_residual-in_err-title.result _ _ c.from_residual-in_err-title.ensures.1 refl)

pub returns-in_err-d-clause-exact : goal.returns-in_err-d-clause-exact
returns-in_err-d-clause-exact g c =
    name_fails (view g.S.Store.memory c.args.self.now) c.args.r c.args.s c.args.k c.in_ok-admit.ensures
    c.in_ok-title.title (c.in_ok-title.ensures ∙ ap (taken Word.Name c.args.s) (c.thing.ensures ∙ ap thing_held c.decoded.ensures.flags)) c.name_of.result (record { there = c.name_of.ensures.there; absent = c.name_of.ensures.absent })
    c.from_residual-in_err-d.result c.in_err-d.field-0.0 c.in_err-d.ensures
    (passed c.from_residual-in_err-d.result (told c.in_err-d.field-0.0) _ c.from_residual-in_err-d.ensures.1 refl)

pub returns-clause-exact : goal.returns-clause-exact
returns-clause-exact g c =
    name_gives (view g.S.Store.memory c.args.self.now) c.args.r c.args.s c.args.k c.in_ok-admit.ensures
    c.in_ok-title.title (c.in_ok-title.ensures ∙ ap (taken Word.Name c.args.s) (c.thing.ensures ∙ ap thing_held c.decoded.ensures.flags)) c.name_of.result (record { there = c.name_of.ensures.there; absent = c.name_of.ensures.absent })
    c.in_ok-d.d c.in_ok-d.ensures
