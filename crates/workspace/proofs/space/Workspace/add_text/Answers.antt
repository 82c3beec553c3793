use Rattle.std.proofs.Common.{ℕ, ◌+◌, length, pos, sym, ◌∙◌, subst}
use Rattle.rules.specs.Model.{Value, string_cells}
use Rattle.rules.specs.Arena.{desc}
use Rattle.rules.specs.Calls.{put}
use Rattle.arena.specs.declared.faults.HeapFault.{HeapFault}
use Rattle.arena.specs.Growth.{arena_with_text}
use Rattle.arena.proofs.Outcomes.{ok_same, ok_not_err}
use Rattle.workspace.specs.Shown.{view}
use Rattle.workspace.specs.Rooms.{HasRoom, Grew}
use Rattle.workspace.proofs.Growing.{next_small}
use Rattle.workspace.proofs.Entering.{need_is, fresh, text_grew}
use Rattle.workspace.proofs.space.Workspace.add_text.Goals as goal

pub returns-in_err-end : goal.returns-in_err-end
returns-in_err-end g c m a s long bins some few codes away =
    let v = view g.S.Store.memory c.args.self.now in
    let w = view g.S.Store.memory c.room.new.self in
    let t = c.args.text.now in
    let k = string_cells v.memory.figures.places (length t) in
    let is = need_is v.memory t c.places.result c.in_ok-need.need (g.met.S.Store.sound c.args.self.now.cells) c.places.ensures some few (sym c.string_cells.ensures ∙ c.in_ok-need.ensures.ok_part) in
    let h : HasRoom m a v k w c.in_ok-next.next = subst (λ (j : ℕ). HasRoom m a v j w c.in_ok-next.next) is (c.in_ok-next.ensures m a s long) in
    ok_not_err (c.enter_text.ensures.grown m h.arena (fresh m a v w c.in_ok-next.next t h c.args.bins bins some few codes away)).0 c.in_err-end.was

pub returns : goal.returns
returns g c m a s long bins some few codes away =
    let v = view g.S.Store.memory c.args.self.now in
    let w = view g.S.Store.memory c.room.new.self in
    let t = c.args.text.now in
    let next = c.in_ok-next.next in
    let k = string_cells v.memory.figures.places (length t) in
    let is = need_is v.memory t c.places.result c.in_ok-need.need (g.met.S.Store.sound c.args.self.now.cells) c.places.ensures some few (sym c.string_cells.ensures ∙ c.in_ok-need.ensures.ok_part) in
    let h : HasRoom m a v k w c.in_ok-next.next = subst (λ (j : ℕ). HasRoom m a v j w c.in_ok-next.next) is (c.in_ok-next.ensures m a s long) in
    let made = c.in_ok-end.ensures.grown m h.arena (fresh m a v w next t h c.args.bins bins some few codes away) in
    let end_is = ok_same {E = HeapFault} c.in_ok-end.end (next + string_cells w.memory.figures.places (length t)) made.0 in
    let pointer = ok_same {E = HeapFault} c.in_ok-string.string (desc (pos next) 16 1) (c.in_ok-string.ensures (next_small m a v k w next (g.met.S.Store.sound c.args.self.now.cells) h)) in
    subst (λ u. Grew m a v k (put m c.args.r (Value.text t)) (λ b. arena_with_text v.memory.figures.places b t) (view g.S.Store.memory u)) (sym c.end_at.ensures)
    (text_grew m a v w next t h (g.S.Store.memory c.enter_text.new.store) c.args.r c.in_ok-end.end c.in_ok-string.string made.1 c.requires end_is pointer)
