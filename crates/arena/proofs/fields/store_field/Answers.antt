use Rattle.std.proofs.Common.{refl}
use Rattle.cells.proofs.Acts.{descriptor_written}
use Rattle.arena.proofs.Outcomes.{ok_not_err}
use Rattle.arena.proofs.Decoding.{coded_fits}
use Rattle.arena.proofs.Readings.{cell_below}
use Rattle.arena.proofs.Stores.{field_stored}
use Rattle.arena.proofs.fields.store_field.Goals as goal

pub returns-in_err-set_descriptor-clause-stored : goal.returns-in_err-set_descriptor-clause-stored
returns-in_err-set_descriptor-clause-stored g c m a x k v f cd pr =
    let n = g.met.S.Store.sound c.args.store.now in
    ok_not_err (descriptor_written _ _ _ _ c.set_descriptor.result c.set_descriptor.ensures.answer (cell_below m a _ x k _ f) (coded_fits m a _ v _ n cd pr)).0
    c.in_err-set_descriptor.was

pub returns-clause-stored : goal.returns-clause-stored
returns-clause-stored g c m a x k v f cd pr =
    let n = g.met.S.Store.sound c.args.store.now in (
      refl,
      field_stored m a _ n x k _ f v _ cd pr _
          (descriptor_written _ _ _ _ c.set_descriptor.result c.set_descriptor.ensures.answer (cell_below m a _ x k _ f) (coded_fits m a _ v _ n cd pr)).1,
    )
