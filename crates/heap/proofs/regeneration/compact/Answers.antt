use Rattle.heap.proofs.Outcomes.{ok_same, ok_not_err}
use Rattle.heap.proofs.Steps.{stage_tiled, stage_room, stage_prepared, stage_ready, stage_link, stage_head, stage_linkable, thread_tiled, heads_below, heads_low, stage_headed, pack_tiled, pack_room, pack_tabled, stage_last}
use Rattle.heap.proofs.regeneration.compact.Goals as goal

pub returns-in_err-free : goal.returns-in_err-free
returns-in_err-free g c m a m0 x =
    ok_not_err (c.layout.ensures _ (stage_tiled x) (stage_room x)).1 c.in_err-free.was

pub returns-in_err-move_registers : goal.returns-in_err-move_registers
returns-in_err-move_registers g c m a m0 x =
    let l = c.in_ok-free.ensures _ (stage_tiled x) (stage_room x) in
    ok_not_err (c.move_registers.ensures (stage_ready x c.layout.auto.work l.2)).0 c.in_err-move_registers.was

pub returns-in_err-relocate : goal.returns-in_err-relocate
returns-in_err-relocate g c m a m0 x =
    let w = c.layout.auto.work in
    let l = c.in_ok-free.ensures _ (stage_tiled x) (stage_room x) in
    ok_not_err (c.relocate.ensures _ (stage_tiled x) (stage_prepared x w l.2)).0 c.in_err-relocate.was

pub returns-in_err-thread_links : goal.returns-in_err-thread_links
returns-in_err-thread_links g c m a m0 x =
    let w = c.layout.auto.work in
    let l = c.in_ok-free.ensures _ (stage_tiled x) (stage_room x) in
    let r = (c.in_ok-relocate.ensures _ (stage_tiled x) (stage_prepared x w l.2)).1 in
    ok_not_err (c.thread_links.ensures _ (stage_link x w l.2 r) (thread_tiled x w l.2 r) (stage_linkable x w l.2 r)).0 c.in_err-thread_links.was

pub returns-in_err-thread_heads : goal.returns-in_err-thread_heads
returns-in_err-thread_heads g c m a m0 x =
    let w = c.layout.auto.work in
    let l = c.in_ok-free.ensures _ (stage_tiled x) (stage_room x) in
    let r = (c.in_ok-relocate.ensures _ (stage_tiled x) (stage_prepared x w l.2)).1 in
    let th = (c.in_ok-thread_links.ensures _ (stage_link x w l.2 r) (thread_tiled x w l.2 r) (stage_linkable x w l.2 r)).1 in
    ok_not_err (c.thread_heads.ensures _ (stage_head x w l.2 r) (heads_below x w l.2 r th) (heads_low x w l.2 r th) (stage_headed x w l.2 r th)).0 c.in_err-thread_heads.was

pub returns-in_err-pack : goal.returns-in_err-pack
returns-in_err-pack g c m a m0 x =
    let w = c.layout.auto.work in
    let l = c.in_ok-free.ensures _ (stage_tiled x) (stage_room x) in
    let r = (c.in_ok-relocate.ensures _ (stage_tiled x) (stage_prepared x w l.2)).1 in
    let th = (c.in_ok-thread_links.ensures _ (stage_link x w l.2 r) (thread_tiled x w l.2 r) (stage_linkable x w l.2 r)).1 in
    let hd = (c.in_ok-thread_heads.ensures _ (stage_head x w l.2 r) (heads_below x w l.2 r th) (heads_low x w l.2 r th) (stage_headed x w l.2 r th)).1 in
    ok_not_err (c.pack.ensures _ l.0 (pack_tiled x w l.2 r th hd) (pack_room x w l.2 r th hd) (pack_tabled x w l.2 r th hd)).0 c.in_err-pack.was

pub returns : goal.returns
returns g c m a m0 x =
    let w = c.layout.auto.work in
    let l = c.in_ok-free.ensures _ (stage_tiled x) (stage_room x) in
    let sf = (c.in_ok-move_registers.ensures (stage_ready x w l.2)).1 in
    let r = (c.in_ok-relocate.ensures _ (stage_tiled x) (stage_prepared x w l.2)).1 in
    let th = (c.in_ok-thread_links.ensures _ (stage_link x w l.2 r) (thread_tiled x w l.2 r) (stage_linkable x w l.2 r)).1 in
    let hd = (c.in_ok-thread_heads.ensures _ (stage_head x w l.2 r) (heads_below x w l.2 r th) (heads_low x w l.2 r th) (stage_headed x w l.2 r th)).1 in
    let k = (c.in_ok-pack.ensures _ l.0 (pack_tiled x w l.2 r th hd) (pack_room x w l.2 r th hd) (pack_tabled x w l.2 r th hd)).1 in
    stage_last x w l.2 r th hd _ _ _ (ok_same _ _ l.1) k sf
