use Rattle.std.proofs.Common.{◌≡◌, ◌+◌, [], ◌∷◌, length, Err, refl, ap, ◌∙◌, subst}
use Rattle.rules.specs.Model.{Model}
use Rattle.rules.specs.Arena.{Arena}
use Rattle.rules.specs.Calls.{Call, put_block}
use Rattle.rules.specs.declared.Word.{Word}
use Rattle.arena.specs.Growth.{arena_with_block}
use Rattle.workspace.specs.declared.faults.Raised.{Raised}
use Rattle.workspace.specs.Reports.{told}
use Rattle.workspace.specs.Shown.{Shown, view, nothing}
use Rattle.workspace.specs.Rooms.{RoomOf, Grows}
use Rattle.workspace.proofs.Raises.{raised_since, raised_gave}
use Rattle.workspace.proofs.Steps.{passed}
use Rattle.workspace.proofs.Wants.{at_door_with}
use Rattle.workspace.proofs.Fulls.{fault_of, untouched_full}
use Rattle.workspace.proofs.Makes.{fit_passed, bounds_of, make_unfit, make_short, make_full, make_made}
use Rattle.workspace.proofs.space.Workspace.make.Goals as goal

pub returns-in_err-admit-clause-exact : goal.returns-in_err-admit-clause-exact
returns-in_err-admit-clause-exact g c =
    at_door_with (view g.S.Store.memory c.args.self.now) (length c.args.work.now) (Call.make c.args.r c.args.n c.args.t) (c.args.r ∷ []) nothing
    c.from_residual.result c.in_err-admit.field-0.0 c.in_err-admit.ensures (passed c.from_residual.result _ _ c.from_residual.ensures.1 refl) refl
    (λ l m u h. (_, refl))

pub returns-in_err-in_call-clause-exact : goal.returns-in_err-in_call-clause-exact
returns-in_err-in_call-clause-exact g c =
    make_unfit (view g.S.Store.memory c.args.self.now) (length c.args.work.now) c.args.r c.args.n c.args.t c.in_ok-admit.ensures
    c.fit.result c.in_err-in_call.field-0.0 c.from_residual-in_err-in_call.result c.fit.ensures c.in_err-in_call.ensures
    (passed c.from_residual-in_err-in_call.result (told c.in_err-in_call.field-0.0) _ c.from_residual-in_err-in_call.ensures.1 refl)

pub returns-in_err-take_list-clause-exact : goal.returns-in_err-take_list-clause-exact
returns-in_err-take_list-clause-exact g c =
    let fit = fit_passed c.args.n c.args.t c.args.r c.fit.result tt c.fit.ensures c.in_ok-in_call.ensures in
    let short = c.in_err-take_list.ensures in
    make_short (view g.S.Store.memory c.args.self.now) (length c.args.work.now) c.args.r c.args.n c.args.t c.in_ok-admit.ensures fit
    c.in_err-take_list.field-0.0 c.from_residual-in_err-take_list.result short.0 short.1
    (passed c.from_residual-in_err-take_list.result _ _ c.from_residual-in_err-take_list.ensures.1 refl)

pub returns-in_err-in_call-2-clause-exact : goal.returns-in_err-in_call-2-clause-exact
returns-in_err-in_call-2-clause-exact g c =
    let v = view g.S.Store.memory c.args.self.now in
    let w = view g.S.Store.memory c.add_block.new.self in
    let n = c.args.n in
    let t = c.args.t in
    let fit = fit_passed n t c.args.r c.fit.result tt c.fit.ensures c.in_ok-in_call.ensures in
    let b = bounds_of n t fit in
    let long = c.in_ok-take_list.ensures in
    let q = raised_since c.add_block.result Word.Make c.args.r c.in_err-in_call-2.field-0.0 c.in_err-in_call-2.ensures in
    let room : (m : Model) (a : Arena) → Shown m a v → RoomOf m a v (n + 1) w (Err q.0) =
    λ m a s. subst (Grows m a v (n + 1) (put_block m c.args.r n t) (λ x. arena_with_block m x n) w) q.1 (c.add_block.ensures m a s long b.0 b.1 b.2 b.3) in
    let is : c.from_residual-in_err-in_call-2.result ≡ Err (fault_of (Call.make c.args.r n t) q.0) =
    passed c.from_residual-in_err-in_call-2.result (told c.in_err-in_call-2.field-0.0) _ c.from_residual-in_err-in_call-2.ensures.1 refl
    ∙ ap (λ (x : Raised). Err (told x)) q.2 in
    make_full v (length c.args.work.now) c.args.r n t c.in_ok-admit.ensures fit long w q.0 c.from_residual-in_err-in_call-2.result is room

pub returns-in_err-in_call-2-clause-kept : goal.returns-in_err-in_call-2-clause-kept
returns-in_err-in_call-2-clause-kept g c =
    let v = view g.S.Store.memory c.args.self.now in
    let w = view g.S.Store.memory c.add_block.new.self in
    let n = c.args.n in
    let t = c.args.t in
    let fit = fit_passed n t c.args.r c.fit.result tt c.fit.ensures c.in_ok-in_call.ensures in
    let b = bounds_of n t fit in
    let long = c.in_ok-take_list.ensures in
    let q = raised_since c.add_block.result Word.Make c.args.r c.in_err-in_call-2.field-0.0 c.in_err-in_call-2.ensures in
    let room : (m : Model) (a : Arena) → Shown m a v → RoomOf m a v (n + 1) w (Err q.0) =
    λ m a s. subst (Grows m a v (n + 1) (put_block m c.args.r n t) (λ x. arena_with_block m x n) w) q.1 (c.add_block.ensures m a s long b.0 b.1 b.2 b.3) in
    let is : c.from_residual-in_err-in_call-2.result ≡ Err (fault_of (Call.make c.args.r n t) q.0) =
    passed c.from_residual-in_err-in_call-2.result (told c.in_err-in_call-2.field-0.0) _ c.from_residual-in_err-in_call-2.ensures.1 refl
    ∙ ap (λ (x : Raised). Err (told x)) q.2 in
    untouched_full v w (Call.make c.args.r n t) (n + 1) c.from_residual-in_err-in_call-2.result q.0 _ _ is room

pub returns-clause-exact : goal.returns-clause-exact
returns-clause-exact g c =
    let v = view g.S.Store.memory c.args.self.now in
    let w = view g.S.Store.memory c.add_block.new.self in
    let n = c.args.n in
    let t = c.args.t in
    let fit = fit_passed n t c.args.r c.fit.result tt c.fit.ensures c.in_ok-in_call.ensures in
    let b = bounds_of n t fit in
    let long = c.in_ok-take_list.ensures in
    let q = raised_gave c.add_block.result Word.Make c.args.r tt c.in_ok-in_call-2.ensures in
    make_made v (length c.args.work.now) c.args.r n t c.in_ok-admit.ensures fit long w
    (λ m a s. subst (Grows m a v (n + 1) (put_block m c.args.r n t) (λ x. arena_with_block m x n) w) q (c.add_block.ensures m a s long b.0 b.1 b.2 b.3))
