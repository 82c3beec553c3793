use Rattle.cells.proofs.Acts.{descriptor_read}
use Rattle.arena.proofs.Outcomes.{ok_not_err}
use Rattle.arena.proofs.Readings.{cell_below}
use Rattle.arena.proofs.fields.fetch_field.Goals as goal

pub returns-in_err-descriptor : goal.returns-in_err-descriptor
returns-in_err-descriptor g c m a x k f =
    ok_not_err (descriptor_read (g.S.Store.memory c.args.store.now) _ c.descriptor.result c.descriptor.ensures (cell_below m a _ x k _ f)) c.in_err-descriptor.was
