use Rattle.std.proofs.Common.{[], ◌∷◌, sym, refl, subst, arith}
use Rattle.cells.specs.declared.Descriptor.{Descriptor}
use Rattle.rules.specs.Model.{Value}
use Rattle.rules.specs.Arena.{Codes, as_null}
use Rattle.rules.specs.Calls.{Call, put}
use Rattle.workspace.specs.Shown.{view, nothing}
use Rattle.workspace.proofs.Steps.{at_door, by_giving, passed, put_shown}
use Rattle.workspace.proofs.space.Workspace.null.Goals as goal

pub returns-in_err-admit-clause-exact : goal.returns-in_err-admit-clause-exact
returns-in_err-admit-clause-exact g c =
    at_door (view g.S.Store.memory c.args.self.now) (Call.null c.args.r) (c.args.r ∷ []) nothing c.from_residual.result c.in_err-admit.field-0.0
    c.in_err-admit.ensures (passed c.from_residual.result _ _ c.from_residual.ensures.1 refl) tt refl (λ l m u h. (_, refl))

pub returns-clause-exact : goal.returns-clause-exact
returns-clause-exact g c =
    let v = view g.S.Store.memory c.args.self.now in
    let r = c.args.r in
    let ok = c.in_ok-admit.ensures in
    by_giving v _ (Call.null r) (r ∷ []) [] [] ok tt refl
    (λ m a s. (
      put m r Value.null,
      (λ l u h. refl),
      put_shown m a v r Value.null c.null_value.result s (omega (arith, ok.1.0)) tt (subst (λ (d : Descriptor). Codes m a v.memory Value.null d) (sym c.null_value.ensures) as_null),
    ))
