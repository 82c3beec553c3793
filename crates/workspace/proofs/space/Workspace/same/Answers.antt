use Rattle.std.specs.Int.{from_bool}
use Rattle.std.proofs.Common.{[], ◌∷◌, ℤ, refl, ap, rules}
use Rattle.rules.specs.Calls.{Call, give, registers_then}
use Rattle.workspace.specs.Shown.{view, truth}
use Rattle.workspace.proofs.Steps.{at_door, by_giving, passed}
use Rattle.workspace.proofs.Agreements.{same_count}
use Rattle.workspace.proofs.space.Workspace.same.Goals as goal

pub returns-in_err-admit : goal.returns-in_err-admit
returns-in_err-admit g c =
    at_door (view g.S.Store.memory c.args.self.now) (Call.same c.args.r c.args.s) (c.args.r ∷ c.args.s ∷ []) truth c.from_residual.result c.in_err-admit.field-0.0
    c.in_err-admit.ensures (passed c.from_residual.result _ _ c.from_residual.ensures.1 refl) tt refl (λ l m u h. (_, refl))

pub returns : goal.returns
returns g c =
    let v = view g.S.Store.memory c.args.self.now in
    let r = c.args.r in
    let s = c.args.s in
    let ok = c.in_ok-admit.ensures in
    by_giving v v (Call.same r s) (r ∷ s ∷ []) (truth c.eq.result) [] ok tt refl
    (λ m a h. let e = same_count m a v h r s (from_bool c.eq.result) ok.1.0 ok.1.1.0 (λ p. search rules) (λ p. search rules) in
    (m, (λ l u t. ap (λ (z : ℤ). registers_then (r ∷ s ∷ []) (give (z ∷ []) [] m)) e), h))
