use Rattle.std.proofs.Common.{[], ◌∷◌, length, pos, Err, sym, refl, ap, ◌∙◌, subst, rules}
use Rattle.std.specs.Prelude.{ok_or}
use Rattle.rules.specs.declared.Word.{Word}
use Rattle.rules.specs.Calls.{Call, registers_then}
use Rattle.workspace.specs.Shown.{view, Exact, Leaves, count, written}
use Rattle.workspace.specs.Taken.{wrong_kind}
use Rattle.workspace.proofs.Steps.{at_door, by_giving, by_refusing, passed}
use Rattle.workspace.proofs.Holdings.{null_in}
use Rattle.workspace.proofs.Lookings.{read_null, read_unfit, written_refused, refused_leaves, exact_never, leaves_never, exact_read, leaves_read}
use Rattle.workspace.proofs.space.Workspace.read.Goals as goal

pub returns-in_err-admit-clause-exact : goal.returns-in_err-admit-clause-exact
returns-in_err-admit-clause-exact g c =
    let v = view g.S.Store.memory c.args.self.now in
    let buffer = c.args.buffer.now in
    let f = c.in_err-admit.field-0.0 in
    let e = passed c.from_residual.result f f c.from_residual.ensures.1 refl in
    written_refused v (Call.read c.args.r (length buffer)) count c.from_residual.result c.from_residual.result buffer f e e
    (at_door v (Call.read c.args.r (length buffer)) (c.args.r ∷ []) count c.from_residual.result f c.in_err-admit.ensures e tt refl (λ l m u h. (_, refl)))

pub returns-in-Null-clause-exact : goal.returns-in-Null-clause-exact
returns-in-Null-clause-exact g c =
    let v = view g.S.Store.memory c.args.self.now in
    let r = c.args.r in
    let buffer = c.args.buffer.now in
    let ok = c.in_ok-admit.ensures in
    by_giving v v (Call.read r (length buffer)) (r ∷ []) (pos 0 ∷ []) [] ok tt refl
    (λ m a s. (m, (λ l u h. ap (registers_then (r ∷ [])) (read_null m r (length buffer) (null_in s r ok.1.0 c.in-Null.ensures.flags))), s))

pub returns-in_err-count-in-Text-clause-exact : goal.returns-in_err-count-in-Text-clause-exact
returns-in_err-count-in-Text-clause-exact g c =
    let v = view g.S.Store.memory c.args.self.now in
    let r = c.args.r in
    let before = c.args.buffer.now in
    let after = c.read_text.new.buffer in
    let ok = c.in_ok-admit.ensures in
    let f = c.in_err-count-in-Text.field-0.0 in
    exact_never v r c.in-Text.title before after c.read_text.result Word.Read r ok c.in-Text.ensures.flags c.read_text.ensures.shown f
    (written c.from_residual-in_err-count-in-Text.result after) c.in_err-count-in-Text.ensures

pub returns-in_err-count-in-Text-clause-rest : goal.returns-in_err-count-in-Text-clause-rest
returns-in_err-count-in-Text-clause-rest g c =
    let v = view g.S.Store.memory c.args.self.now in
    let r = c.args.r in
    let before = c.args.buffer.now in
    let after = c.read_text.new.buffer in
    let ok = c.in_ok-admit.ensures in
    let f = c.in_err-count-in-Text.field-0.0 in
    leaves_never v r c.in-Text.title before after c.read_text.result Word.Read r ok c.in-Text.ensures.flags c.read_text.ensures.shown f
    c.from_residual-in_err-count-in-Text.result c.in_err-count-in-Text.ensures

pub returns-in_ok-count-in-Text-clause-exact : goal.returns-in_ok-count-in-Text-clause-exact
returns-in_ok-count-in-Text-clause-exact g c =
    let v = view g.S.Store.memory c.args.self.now in
    let r = c.args.r in
    let before = c.args.buffer.now in
    let after = c.read_text.new.buffer in
    let ok = c.in_ok-admit.ensures in
    let x = c.in_ok-count-in-Text.count in
    subst (λ y. Exact v (Call.read r (length before)) (written y after) v) (sym (c.ok_or.ensures.value ∙ ap (ok_or x) c.refusal.ensures))
    (exact_read v r c.in-Text.title before after c.read_text.result Word.Read r ok c.in-Text.ensures.flags c.read_text.ensures.shown x c.in_ok-count-in-Text.ensures)

pub returns-in_ok-count-in-Text-clause-rest : goal.returns-in_ok-count-in-Text-clause-rest
returns-in_ok-count-in-Text-clause-rest g c =
    let v = view g.S.Store.memory c.args.self.now in
    let r = c.args.r in
    let before = c.args.buffer.now in
    let after = c.read_text.new.buffer in
    let ok = c.in_ok-admit.ensures in
    let x = c.in_ok-count-in-Text.count in
    subst (λ y. Leaves v y before after) (sym (c.ok_or.ensures.value ∙ ap (ok_or x) c.refusal.ensures))
    (leaves_read v r c.in-Text.title before after c.read_text.result Word.Read r ok c.in-Text.ensures.flags c.read_text.ensures.shown x c.in_ok-count-in-Text.ensures)

pub returns-in_default : goal.returns-in_default
returns-in_default g c =
    let v = view g.S.Store.memory c.args.self.now in
    let r = c.args.r in
    let buffer = c.args.buffer.now in
    let f = wrong_kind Word.Read r in
    let ok = c.in_ok-admit.ensures in
    record {
      exact = by_refusing v (Call.read r (length buffer)) (r ∷ []) count (Err c.refusal-in_default.result) f ok (ap Err c.refusal-in_default.ensures) tt refl
          (λ m a s l u h. ap (registers_then (r ∷ [])) (read_unfit s r (length buffer) ok.1.0 c.decoded.result c.decoded.ensures.flags c.in_default.not-Null c.in_default.not-Text));
      rest = refused_leaves v (Err c.refusal-in_default.result) f buffer (ap Err c.refusal-in_default.ensures);
      within = search rules;
    }
