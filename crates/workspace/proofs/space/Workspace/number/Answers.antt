use Rattle.std.proofs.Common.{[], ◌∷◌, ℤ, sym, refl, ap, ◌∙◌, subst, arith, w32}
use Rattle.std.proofs.lemmas.Int.{to_z-of_z}
use Rattle.cells.specs.declared.Descriptor.{Descriptor}
use Rattle.rules.specs.Model.{Value}
use Rattle.rules.specs.Arena.{desc, Codes, as_number}
use Rattle.rules.specs.Calls.{Call, put}
use Rattle.workspace.specs.Shown.{view, nothing}
use Rattle.workspace.proofs.Steps.{at_door, by_giving, passed, put_shown}
use Rattle.workspace.proofs.space.Workspace.number.Goals as goal

pub returns-in_err-admit-clause-exact : goal.returns-in_err-admit-clause-exact
returns-in_err-admit-clause-exact g c =
    at_door (view g.S.Store.memory c.args.self.now) (Call.number c.args.r c.args.z) (c.args.r ∷ []) nothing c.from_residual.result c.in_err-admit.field-0.0
    c.in_err-admit.ensures (passed c.from_residual.result _ _ c.from_residual.ensures.1 refl) tt refl (λ l m u h. (_, refl))

pub returns-clause-exact : goal.returns-clause-exact
returns-clause-exact g c =
    let v = view g.S.Store.memory c.args.self.now in
    let r = c.args.r in
    let z = c.args.z in
    let ok = c.in_ok-admit.ensures in
    let d = c.number_value.ensures ∙ ap (λ (y : ℤ). desc y 0 6) (to_z-of_z w32 z c.ranges.z) in
    by_giving v _ (Call.number r z) (r ∷ []) [] [] ok tt refl
    (λ m a s. (
      put m r (Value.number z),
      (λ l u h. refl),
      put_shown m a v r (Value.number z) c.number_value.result s (omega (arith, ok.1.0)) tt (subst (λ (x : Descriptor). Codes m a v.memory (Value.number z) x) (sym d) as_number),
    ))
