use Rattle.cells.proofs.Acts.{descriptor_read}
use Rattle.arena.proofs.Outcomes.{ok_not_err}
use Rattle.arena.proofs.Readings.{title_below}
use Rattle.arena.proofs.fields.count_at.Goals as goal

pub returns-in_err-descriptor : goal.returns-in_err-descriptor
returns-in_err-descriptor g c m a x sh l =
    ok_not_err (descriptor_read (g.S.Store.memory c.args.store.now) _ c.descriptor.result c.descriptor.ensures (title_below m a _ sh x _ l)) c.in_err-descriptor.was
