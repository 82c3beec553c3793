use Rattle.std.proofs.Common.{[], ◌∷◌, ℤ, sym, refl, ap, ◌∙◌, subst, arith, w32, SFits, rules}
use Rattle.std.proofs.lemmas.Int.{to_z-of_z}
use Rattle.std.specs.Prelude.{ok_or}
use Rattle.std.proofs.lemmas.Bool.{cond-true, cond-false}
use Rattle.cells.specs.declared.Descriptor.{Descriptor}
use Rattle.rules.specs.declared.Word.{Word}
use Rattle.rules.specs.Model.{Value}
use Rattle.rules.specs.Arena.{desc, Codes, as_number}
use Rattle.rules.specs.Calls.{Call, give, put, registers_then, divides}
use Rattle.arena.specs.Values.{held, number_held}
use Rattle.workspace.specs.declared.faults.Cause.TheVariants.{Division}
use Rattle.workspace.specs.declared.faults.WorkspaceFault.{WorkspaceFault}
use Rattle.workspace.specs.Shown.{view, holding, nothing}
use Rattle.workspace.specs.Taken.{wrong_kind, taken}
use Rattle.workspace.proofs.Raises.{err_same, none_not_some}
use Rattle.workspace.proofs.Steps.{at_door, by_giving, by_refusing, passed, put_shown}
use Rattle.workspace.proofs.Divisions.{quotient_then, divisor_then, number_fault, number_is, number_not, quotient_some, quotient_none}
use Rattle.workspace.proofs.space.Workspace.divide.Goals as goal

pub returns-in_err-admit-clause-exact : goal.returns-in_err-admit-clause-exact
returns-in_err-admit-clause-exact g c =
    at_door (view g.S.Store.memory c.args.self.now) (Call.divide c.args.r c.args.s c.args.q) (c.args.r ∷ c.args.s ∷ c.args.q ∷ []) nothing c.from_residual.result c.in_err-admit.field-0.0
    c.in_err-admit.ensures (passed c.from_residual.result _ _ c.from_residual.ensures.1 refl) tt refl (λ l m u h. (_, refl))

pub returns-in_err-a-clause-exact : goal.returns-in_err-a-clause-exact
returns-in_err-a-clause-exact g c =
    let v = view g.S.Store.memory c.args.self.now in
    let r = c.args.r in
    let s = c.args.s in
    let q = c.args.q in
    let ok = c.in_ok-admit.ensures in
    let no-a = c.in_err-a.ensures ∙ ap (taken Word.Divide s) (c.number.ensures ∙ ap number_held c.decoded.ensures.flags) in
    by_refusing v (Call.divide r s q) (r ∷ s ∷ q ∷ []) nothing c.from_residual-in_err-a.result (wrong_kind Word.Divide s) ok
    (passed c.from_residual-in_err-a.result _ _ c.from_residual-in_err-a.ensures.1 (number_fault Word.Divide s (held (holding v s)) c.in_err-a.field-0.0 no-a)) tt refl
    (λ m a h l u t. ap (registers_then (r ∷ s ∷ q ∷ [])) (number_not h Word.Divide s ok.1.1.0 (divisor_then m r q) c.in_err-a.field-0.0 no-a))

pub returns-in_err-b-clause-exact : goal.returns-in_err-b-clause-exact
returns-in_err-b-clause-exact g c =
    let v = view g.S.Store.memory c.args.self.now in
    let r = c.args.r in
    let s = c.args.s in
    let q = c.args.q in
    let x = c.in_ok-a.a in
    let ok = c.in_ok-admit.ensures in
    let no-b = c.in_err-b.ensures ∙ ap (taken Word.Divide q) (c.number-2.ensures ∙ ap number_held c.decoded-2.ensures.flags) in
    let is-a = c.in_ok-a.ensures ∙ ap (taken Word.Divide s) (c.number.ensures ∙ ap number_held c.decoded.ensures.flags) in
    by_refusing v (Call.divide r s q) (r ∷ s ∷ q ∷ []) nothing c.from_residual-in_err-b.result (wrong_kind Word.Divide q) ok
    (passed c.from_residual-in_err-b.result _ _ c.from_residual-in_err-b.ensures.1 (number_fault Word.Divide q (held (holding v q)) c.in_err-b.field-0.0 no-b)) tt refl
    (λ m a h l u t. ap (registers_then (r ∷ s ∷ q ∷ []))
    (number_is h Word.Divide s ok.1.1.0 (divisor_then m r q) x is-a
    ∙ number_not h Word.Divide q ok.1.1.1.0 (quotient_then m r x) c.in_err-b.field-0.0 no-b))

pub returns-in_err-z-clause-exact : goal.returns-in_err-z-clause-exact
returns-in_err-z-clause-exact g c =
    let v = view g.S.Store.memory c.args.self.now in
    let r = c.args.r in
    let s = c.args.s in
    let q = c.args.q in
    let x = c.in_ok-a.a in
    let y = c.in_ok-b.b in
    let ok = c.in_ok-admit.ensures in
    let fx : SFits w32 x = search rules in
    let fy : SFits w32 y = search rules in
    let none = quotient_none c.quotient_of.result _ _ x y (to_z-of_z w32 x fx) (to_z-of_z w32 y fy) c.quotient_of.ensures (λ z p. none_not_some c.in_err-z.ensures.ok_part p) in
    let is-a = c.in_ok-a.ensures ∙ ap (taken Word.Divide s) (c.number.ensures ∙ ap number_held c.decoded.ensures.flags) in
    let is-b = c.in_ok-b.ensures ∙ ap (taken Word.Divide q) (c.number-2.ensures ∙ ap number_held c.decoded-2.ensures.flags) in
    let fault : WorkspaceFault = record { cause = Division; call = Word.Divide; register = r } in
    by_refusing v (Call.divide r s q) (r ∷ s ∷ q ∷ []) nothing c.from_residual-in_err-z.result fault ok (passed c.from_residual-in_err-z.result _ fault c.from_residual-in_err-z.ensures.1 (err_same c.in_err-z.field-0.0 c.refusal.result (c.in_err-z.ensures.value ∙ ap (λ o. ok_or o c.refusal.result) c.in_err-z.ensures.ok_part) ∙ c.refusal.ensures)) tt refl
    (λ m a h l u t. ap (registers_then (r ∷ s ∷ q ∷ []))
    (number_is h Word.Divide s ok.1.1.0 (divisor_then m r q) x is-a
    ∙ number_is h Word.Divide q ok.1.1.1.0 (quotient_then m r x) y is-b
    ∙ cond-false (divides x y) _ _ none))

pub returns-clause-exact : goal.returns-clause-exact
returns-clause-exact g c =
    let v = view g.S.Store.memory c.args.self.now in
    let r = c.args.r in
    let s = c.args.s in
    let q = c.args.q in
    let x = c.in_ok-a.a in
    let y = c.in_ok-b.b in
    let z = c.in_ok-z.z in
    let ok = c.in_ok-admit.ensures in
    let fx : SFits w32 x = search rules in
    let fy : SFits w32 y = search rules in
    let fz : SFits w32 z = search rules in
    let some = quotient_some _ _ x y z (to_z-of_z w32 x fx) (to_z-of_z w32 y fy) (sym c.in_ok-z.ensures.ok_part ∙ c.quotient_of.ensures) in
    let d = c.number_value.ensures ∙ ap (λ (k : ℤ). desc k 0 6) (to_z-of_z w32 z fz) in
    let is-a = c.in_ok-a.ensures ∙ ap (taken Word.Divide s) (c.number.ensures ∙ ap number_held c.decoded.ensures.flags) in
    let is-b = c.in_ok-b.ensures ∙ ap (taken Word.Divide q) (c.number-2.ensures ∙ ap number_held c.decoded-2.ensures.flags) in
    by_giving v _ (Call.divide r s q) (r ∷ s ∷ q ∷ []) [] [] ok tt refl
    (λ m a h. (
      put m r (Value.number z),
      (λ l u t. ap (registers_then (r ∷ s ∷ q ∷ []))
          (number_is h Word.Divide s ok.1.1.0 (divisor_then m r q) x is-a
          ∙ number_is h Word.Divide q ok.1.1.1.0 (quotient_then m r x) y is-b
          ∙ cond-true (divides x y) _ _ some.0
          ∙ ap (λ (k : ℤ). give [] [] (put m r (Value.number k))) some.1)),
      put_shown m a v r (Value.number z) c.number_value.result h (omega (arith, ok.1.0)) tt (subst (λ (k : Descriptor). Codes m a v.memory (Value.number z) k) (sym d) as_number),
    ))
