use Rattle.std.proofs.Common.{◌≡◌, ◌+◌, sym, subst, arith}
use Rattle.cells.specs.declared.Descriptor.{Descriptor}
use Rattle.cells.specs.Meaning.{FitDescriptor}
use Rattle.cells.proofs.Acts.{descriptor_written}
use Rattle.arena.specs.Blocks.{Headed}
use Rattle.arena.proofs.Outcomes.{ok_same}
use Rattle.arena.proofs.Fills.{nulls_fit, headed}
use Rattle.arena.proofs.blocks.lay.Goals as goal

pub returns : goal.returns
returns g c room f =
    let snd = g.met.S.Store.sound c.args.store.now in
    let few = snd.few in let s = c.saturating_add.ensures in
    let te = ok_same _ _ (c.in_ok-title.ensures.holds (omega arith)) in
    let e : c.saturating_add.result ≡ c.args.at + 1 = omega arith in
    let w = (descriptor_written _ _ _ _ c.set_descriptor.result c.set_descriptor.ensures.answer (omega arith)
    (subst (λ (d : Descriptor). FitDescriptor (g.S.Store.memory c.args.store.now).figures d) (sym te) f)).1 in
    let v = nulls_fit _ snd _ _ _ room _ w _ e _ c.null_value.ensures in
    let u = c.fill.ensures v.0 v.1 in (
      u.0,
      subst (λ (d : Descriptor). Headed (g.S.Store.memory c.args.store.now) c.args.at d c.args.fields (g.S.Store.memory c.fill.new.store)) te
          (headed _ snd _ _ _ room _ w _ e _ c.null_value.ensures _ u.1),
    )
