use Rattle.std.proofs.Common.{◌≡◌, ℕ, ◌+◌, length, pos, sym, refl, ap, ◌∙◌, subst, arith}
use Rattle.cells.specs.declared.Descriptor.{Descriptor}
use Rattle.rules.specs.Model.{Value, block}
use Rattle.rules.specs.Arena.{Codes, desc, as_block}
use Rattle.rules.specs.Calls.{put_block}
use Rattle.arena.specs.declared.faults.HeapFault.{HeapFault}
use Rattle.arena.specs.Growth.{add_block, arena_with_block}
use Rattle.arena.proofs.Outcomes.{ok_same}
use Rattle.workspace.specs.Shown.{view}
use Rattle.workspace.specs.Rooms.{HasRoom, Grew}
use Rattle.workspace.proofs.Growing.{grew, next_small}
use Rattle.workspace.proofs.space.Workspace.add_block.Goals as goal

pub returns : goal.returns
returns g c m a s long n1 n2 t1 t2 =
    let v = view g.S.Store.memory c.args.self.now in
    let w = view g.S.Store.memory c.room.new.self in
    let n = c.args.n in
    let next = c.in_ok-next.next in
    let is : c.saturating_add.result ≡ c.args.n + 1 = omega (arith, c.saturating_add.ensures) in
    let h : HasRoom m a v (c.args.n + 1) w c.in_ok-next.next = subst (λ (k : ℕ). HasRoom m a v k w c.in_ok-next.next) is (c.in_ok-next.ensures m a s long) in
    let made = c.in_ok-end.ensures.made m h.arena h.shown.shows h.next_is n1 n2 (omega (arith, h.enough, h.next_is, ap (λ f. f.cells) h.figures)) in
    let end_is : c.in_ok-end.end ≡ h.arena.«next» + (c.args.n + 1) = omega (arith, ok_same {E = HeapFault} c.in_ok-end.end (next + n + 1) made.0, h.next_is) in
    let pointer = ok_same {E = HeapFault} c.in_ok-block.block (desc (pos next) 16 c.args.t) (c.in_ok-block.ensures (next_small m a v (n + 1) w next (g.met.S.Store.sound c.args.self.now.cells) h)) in
    let o = g.S.Store.memory c.make_block.new.store in
    let code : Codes (add_block m c.args.n) (arena_with_block m h.arena c.args.n) (g.S.Store.memory c.make_block.new.store) (Value.to (length m.made) c.args.t) c.in_ok-block.block =
    subst (λ (d : Descriptor). Codes (add_block m n) (arena_with_block m h.arena n) o (Value.to (length m.made) c.args.t) d)
    (ap (λ (k : ℕ). desc (pos k) 16 c.args.t) (sym h.next_is) ∙ sym pointer) (as_block made.1.here) in
    subst (λ u. Grew m a v (n + 1) (put_block m c.args.r n c.args.t) (λ b. arena_with_block m b n) (view g.S.Store.memory u)) (sym c.end_at.ensures)
    (grew m a v w (n + 1) next (block (length m.made)) (add_block m n) (λ b. arena_with_block m b n) o c.args.r (Value.to (length m.made) c.args.t) c.in_ok-block.block
    h made.1 refl refl c.requires (t1, t2) code c.in_ok-end.end end_is)
