use Rattle.std.proofs.Common.{◌≡◌, ◌≤◌, [], ◌∷◌, length, Err, sym, refl, ap, ◌∙◌, subst, rules}
use Rattle.rules.specs.declared.Word.{Word}
use Rattle.rules.specs.Model.{Model, string_cells}
use Rattle.rules.specs.Arena.{Arena}
use Rattle.rules.specs.Calls.{Call}
use Rattle.workspace.specs.declared.faults.Raised.{Raised}
use Rattle.workspace.specs.Reports.{told}
use Rattle.workspace.specs.Shown.{Shown, view, nothing}
use Rattle.workspace.specs.Rooms.{Enters}
use Rattle.workspace.proofs.Raises.{raised_since, raised_gave}
use Rattle.workspace.proofs.Steps.{passed}
use Rattle.workspace.proofs.Wants.{at_door_with}
use Rattle.workspace.proofs.Fulls.{fault_of, untouched_full}
use Rattle.workspace.proofs.Texts.{fit_few, text_unfit, text_short, text_full, text_entered, text_empty}
use Rattle.workspace.proofs.space.Workspace.text.Goals as goal

pub returns-in_err-admit-clause-exact : goal.returns-in_err-admit-clause-exact
returns-in_err-admit-clause-exact g c =
    at_door_with (view g.S.Store.memory c.args.self.now) (length c.args.work.now) (Call.text c.args.r c.args.bytes.now) (c.args.r ∷ []) nothing
    c.from_residual.result c.in_err-admit.field-0.0 c.in_err-admit.ensures (passed c.from_residual.result _ _ c.from_residual.ensures.1 refl) refl
    (λ l m u h. (_, refl))

pub returns-in_err-in_call-clause-exact : goal.returns-in_err-in_call-clause-exact
returns-in_err-in_call-clause-exact g c =
    text_unfit (view g.S.Store.memory c.args.self.now) (length c.args.work.now) c.args.r c.args.bytes.now c.in_ok-admit.ensures
    c.fit.result c.in_err-in_call.field-0.0 c.from_residual-in_err-in_call.result c.fit.ensures.exact c.in_err-in_call.ensures
    (passed c.from_residual-in_err-in_call.result (told c.in_err-in_call.field-0.0) _ c.from_residual-in_err-in_call.ensures.1 refl)

pub returns-in_err-take_list-clause-exact : goal.returns-in_err-take_list-clause-exact
returns-in_err-take_list-clause-exact g c =
    let fit = sym c.fit.ensures.exact ∙ raised_gave c.fit.result Word.Text c.args.r tt c.in_ok-in_call.ensures in
    let short = c.in_err-take_list.ensures in
    text_short (view g.S.Store.memory c.args.self.now) (length c.args.work.now) c.args.r c.args.bytes.now c.in_ok-admit.ensures fit
    c.in_err-take_list.field-0.0 c.from_residual-in_err-take_list.result short.0 short.1
    (passed c.from_residual-in_err-take_list.result _ _ c.from_residual-in_err-take_list.ensures.1 refl)

pub returns-then-is_empty-clause-exact : goal.returns-then-is_empty-clause-exact
returns-then-is_empty-clause-exact g c =
    let none : length c.args.bytes.now ≡ 0 = search rules in
    let fit = sym c.fit.ensures.exact ∙ raised_gave c.fit.result Word.Text c.args.r tt c.in_ok-in_call.ensures in
    text_empty (view g.S.Store.memory c.args.self.now) (length c.args.work.now) c.args.r c.args.bytes.now c.null_value.result c.in_ok-admit.ensures fit
    c.in_ok-take_list.ensures none c.null_value.ensures

pub returns-in_err-in_call-2-clause-exact : goal.returns-in_err-in_call-2-clause-exact
returns-in_err-in_call-2-clause-exact g c =
    let v = view g.S.Store.memory c.args.self.now in
    let w = view g.S.Store.memory c.put_text.new.self in
    let t = c.args.bytes.now in
    let gave = raised_gave c.fit.result Word.Text c.args.r tt c.in_ok-in_call.ensures in
    let fit = sym c.fit.ensures.exact ∙ gave in
    let some : 1 ≤ length c.args.bytes.now = search rules in
    let long = c.in_ok-take_list.ensures in
    let q = raised_since c.put_text.result Word.Text c.args.r c.in_err-in_call-2.field-0.0 c.in_err-in_call-2.ensures in
    let gives : (m : Model) (a : Arena) → Shown m a v → Enters m a v c.args.r t w (Err q.0) =
    λ m a s. subst (Enters m a v c.args.r t w) q.1 (c.put_text.ensures m a s long some (fit_few v.memory.figures t fit) (c.fit.ensures.taken gave)) in
    let is : c.from_residual-in_err-in_call-2.result ≡ Err (fault_of (Call.text c.args.r t) q.0) =
    passed c.from_residual-in_err-in_call-2.result (told c.in_err-in_call-2.field-0.0) _ c.from_residual-in_err-in_call-2.ensures.1 refl
    ∙ ap (λ (x : Raised). Err (told x)) q.2 in
    text_full v (length c.args.work.now) c.args.r t c.in_ok-admit.ensures fit long some w q.0 c.from_residual-in_err-in_call-2.result is gives

pub returns-in_err-in_call-2-clause-kept : goal.returns-in_err-in_call-2-clause-kept
returns-in_err-in_call-2-clause-kept g c =
    let v = view g.S.Store.memory c.args.self.now in
    let w = view g.S.Store.memory c.put_text.new.self in
    let t = c.args.bytes.now in
    let gave = raised_gave c.fit.result Word.Text c.args.r tt c.in_ok-in_call.ensures in
    let fit = sym c.fit.ensures.exact ∙ gave in
    let some : 1 ≤ length c.args.bytes.now = search rules in
    let long = c.in_ok-take_list.ensures in
    let q = raised_since c.put_text.result Word.Text c.args.r c.in_err-in_call-2.field-0.0 c.in_err-in_call-2.ensures in
    let gives : (m : Model) (a : Arena) → Shown m a v → Enters m a v c.args.r t w (Err q.0) =
    λ m a s. subst (Enters m a v c.args.r t w) q.1 (c.put_text.ensures m a s long some (fit_few v.memory.figures t fit) (c.fit.ensures.taken gave)) in
    let is : c.from_residual-in_err-in_call-2.result ≡ Err (fault_of (Call.text c.args.r t) q.0) =
    passed c.from_residual-in_err-in_call-2.result (told c.in_err-in_call-2.field-0.0) _ c.from_residual-in_err-in_call-2.ensures.1 refl
    ∙ ap (λ (x : Raised). Err (told x)) q.2 in
    untouched_full v w (Call.text c.args.r t) (string_cells v.memory.figures.places (length t)) c.from_residual-in_err-in_call-2.result q.0 _ _ is (λ m a s. (gives m a s).1)

pub returns-clause-exact : goal.returns-clause-exact
returns-clause-exact g c =
    let v = view g.S.Store.memory c.args.self.now in
    let w = view g.S.Store.memory c.put_text.new.self in
    let t = c.args.bytes.now in
    let gave = raised_gave c.fit.result Word.Text c.args.r tt c.in_ok-in_call.ensures in
    let fit = sym c.fit.ensures.exact ∙ gave in
    let some : 1 ≤ length c.args.bytes.now = search rules in
    let long = c.in_ok-take_list.ensures in
    let q = raised_gave c.put_text.result Word.Text c.args.r tt c.in_ok-in_call-2.ensures in
    text_entered v (length c.args.work.now) c.args.r t c.in_ok-admit.ensures fit long some w
    (λ m a s. subst (Enters m a v c.args.r t w) q (c.put_text.ensures m a s long some (fit_few v.memory.figures t fit) (c.fit.ensures.taken gave)))
