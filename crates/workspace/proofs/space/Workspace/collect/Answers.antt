use Rattle.std.proofs.Common.{◌≡◌, length, Err, refl, ap, ◌∙◌, subst}
use Rattle.rules.specs.declared.Word.{Word}
use Rattle.rules.specs.Model.{Model}
use Rattle.rules.specs.Arena.{Arena}
use Rattle.rules.specs.Calls.{Call}
use Rattle.workspace.specs.declared.faults.Raised.{Raised}
use Rattle.workspace.specs.Reports.{told}
use Rattle.workspace.specs.Shown.{Shown, view}
use Rattle.workspace.specs.Rooms.{RoomOf, Regains}
use Rattle.workspace.proofs.Raises.{raised_since, raised_gave}
use Rattle.workspace.proofs.Steps.{passed}
use Rattle.workspace.proofs.Fulls.{fault_of, untouched_full}
use Rattle.workspace.proofs.Collects.{collect_short, collect_full, collect_regained}
use Rattle.workspace.proofs.space.Workspace.collect.Goals as goal

pub returns-in_err-take_list-clause-exact : goal.returns-in_err-take_list-clause-exact
returns-in_err-take_list-clause-exact g c =
    let short = c.in_err-take_list.ensures in
    collect_short (view g.S.Store.memory c.args.self.now) (length c.args.work.now) c.args.n c.in_ok-admit.ensures.0
    c.in_err-take_list.field-0.0 c.from_residual-in_err-take_list.result short.0 short.1
    (passed c.from_residual-in_err-take_list.result _ _ c.from_residual-in_err-take_list.ensures.1 refl)

pub returns-in_err-free-clause-exact : goal.returns-in_err-free-clause-exact
returns-in_err-free-clause-exact g c =
    let v = view g.S.Store.memory c.args.self.now in
    let w = view g.S.Store.memory c.regain.new.self in
    let n = c.args.n in
    let long = c.in_ok-take_list.ensures in
    let q = raised_since c.regain.result Word.Collect 0 c.in_err-free.field-0.0 c.in_err-free.ensures in
    let room : (m : Model) (a : Arena) → Shown m a v → RoomOf m a v n w (Err q.0) = λ m a s. subst (Regains m a v n w) q.1 (c.regain.ensures m a s long) in
    let is : c.from_residual-in_err-free.result ≡ Err (fault_of (Call.collect n) q.0) =
    passed c.from_residual-in_err-free.result (told c.in_err-free.field-0.0) _ c.from_residual-in_err-free.ensures.1 refl ∙ ap (λ (x : Raised). Err (told x)) q.2 in
    collect_full v (length c.args.work.now) n c.in_ok-admit.ensures.0 long w q.0 c.from_residual-in_err-free.result is room

pub returns-in_err-free-clause-kept : goal.returns-in_err-free-clause-kept
returns-in_err-free-clause-kept g c =
    let v = view g.S.Store.memory c.args.self.now in
    let w = view g.S.Store.memory c.regain.new.self in
    let n = c.args.n in
    let long = c.in_ok-take_list.ensures in
    let q = raised_since c.regain.result Word.Collect 0 c.in_err-free.field-0.0 c.in_err-free.ensures in
    let room : (m : Model) (a : Arena) → Shown m a v → RoomOf m a v n w (Err q.0) = λ m a s. subst (Regains m a v n w) q.1 (c.regain.ensures m a s long) in
    let is : c.from_residual-in_err-free.result ≡ Err (fault_of (Call.collect n) q.0) =
    passed c.from_residual-in_err-free.result (told c.in_err-free.field-0.0) _ c.from_residual-in_err-free.ensures.1 refl ∙ ap (λ (x : Raised). Err (told x)) q.2 in
    untouched_full v w (Call.collect n) n c.from_residual-in_err-free.result q.0 _ _ is room

pub returns-clause-exact : goal.returns-clause-exact
returns-clause-exact g c =
    let v = view g.S.Store.memory c.args.self.now in
    let w = view g.S.Store.memory c.regain.new.self in
    let n = c.args.n in
    let long = c.in_ok-take_list.ensures in
    let q = raised_gave c.regain.result Word.Collect 0 c.in_ok-free.free c.in_ok-free.ensures in
    collect_regained v (length c.args.work.now) n c.in_ok-admit.ensures.0 long w c.in_ok-free.free
    (λ m a s. subst (Regains m a v n w) q (c.regain.ensures m a s long))
