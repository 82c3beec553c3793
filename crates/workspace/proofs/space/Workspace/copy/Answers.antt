use Rattle.std.proofs.Common.{[], ◌∷◌, refl, arith}
use Rattle.rules.specs.Model.{register}
use Rattle.rules.specs.Calls.{Call, put}
use Rattle.workspace.specs.Shown.{view, holding, nothing}
use Rattle.workspace.proofs.Steps.{at_door, by_giving, passed, proper_in, put_shown}
use Rattle.workspace.proofs.space.Workspace.copy.Goals as goal

pub returns-in_err-admit-clause-exact : goal.returns-in_err-admit-clause-exact
returns-in_err-admit-clause-exact g c =
    at_door (view g.S.Store.memory c.args.self.now) (Call.copy c.args.r c.args.s) (c.args.r ∷ c.args.s ∷ []) nothing c.from_residual.result c.in_err-admit.field-0.0
    c.in_err-admit.ensures (passed c.from_residual.result _ _ c.from_residual.ensures.1 refl) tt refl (λ l m u h. (_, refl))

pub returns-clause-exact : goal.returns-clause-exact
returns-clause-exact g c =
    let v = view g.S.Store.memory c.args.self.now in
    let r = c.args.r in
    let s = c.args.s in
    let ok = c.in_ok-admit.ensures in
    by_giving v _ (Call.copy r s) (r ∷ s ∷ []) [] [] ok tt refl
    (λ m a h. (
      put m r (register m s),
      (λ l u t. refl),
      put_shown m a v r (register m s) (holding v s) h (omega (arith, ok.1.0)) (proper_in h s) (h.registers s (omega (arith, ok.1.1.0))),
    ))
