use Rattle.std.proofs.Common.{[], length, take, vec_items, sym, ap, ◌∙◌, subst, subst₂, arith}
use Rattle.std.proofs.lemmas.List.{map_push, map_more}
use Rattle.rules.specs.declared.Request.{Request}
use Rattle.rules.specs.Requests.{meant}
use Rattle.workspace.specs.Shown.{view}
use Rattle.workspace.specs.Logs.{entry, entries, calls_of, Logged}
use Rattle.workspace.proofs.Logs.{logged_none, logged_more}
use Rattle.workspace.proofs.space.Workspace.run.Goals as goal

pub loop-call-init : goal.loop-call-init
loop-call-init g c m a s h =
    let v = view g.S.Store.memory c.args.self.now in
    subst (λ l. Logged v m a [] (entries l) v) (sym c.new-log.ensures.items) (logged_none v m a s)

pub loop-call-preserved : goal.loop-call-preserved
loop-call-preserved g c m a s h =
    let v = view g.S.Store.memory c.args.self.now in
    let u = view g.S.Store.memory c.loop-call.self in
    let w = view g.S.Store.memory c.perform.new.self in
    let log = vec_items c.loop-call.log in
    let x = c.in_ok-entry.entry in
    let i = c.loop-call.call-index in
    let one-call = map_more meant c.args.calls.now i (Request.Null 0) c.loop-call-test.true in
    let one_entry = ap entries c.in_ok-push.ensures.items ∙ map_push entry log x in
    subst₂ (λ cs l. Logged v m a cs l w) (sym one-call) (sym one_entry)
    (logged_more v m a (calls_of (take i c.args.calls.now)) (entries log) u (length c.loop-call.work) _ (entry x) w
    (omega (arith, h, c.loop-call.auto.work)) (c.loop-call.invariant m a s h) c.in_ok-entry.ensures)
