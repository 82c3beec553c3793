use Rattle.std.proofs.Common.{◌≡◌, ℕ, ◌≤◌, List, ap}
use Rattle.cells.specs.Meaning.{Memory, FitDescriptor}
use Rattle.cells.proofs.Acts.{descriptor_read, descriptor_written}
use Rattle.rules.specs.Keys.{bin, ascension}
use Rattle.arena.specs.declared.extent.Extent.{Extent}
use Rattle.arena.specs.Enters.{Open}
use Rattle.arena.proofs.Outcomes.{ok_same, ok_not_err}
use Rattle.arena.proofs.Entries.{open_place, open_below, open_small, own_fits, last_fits, entered_all}
use Rattle.arena.proofs.Inserts.{grown_by}
use Rattle.arena.proofs.entering.enter_text.Goals as goal
use Rattle.arena.proofs.entering.enter_text.Goals.{In_ok-head, In_ok-place, After-numbered, In_ok-link}

abbrev Opens : Memory → Extent → List ℕ → ℕ → Type 0
Opens o e t p = Open o e.«next» (bin e.bins t) (ascension e.bins t) p t

slot : (g : _) (c : In_ok-head g) → 1 ≤ c.args.extent.bins → (c.in_ok-head.head ≡ bin c.args.extent.bins c.args.text.now) × (c.in_ok-head.number ≡ ascension c.args.extent.bins c.args.text.now)
slot g c bn = let e = ok_same _ _ (c.in_ok-head.ensures bn) in (ap (λ (x : ℕ × ℕ). x.0) e, ap (λ (x : ℕ × ℕ). x.1) e)

pub returns-in_err-place-clause-entered : goal.returns-in_err-place-clause-entered
returns-in_err-place-clause-entered g c p bn op =
    let s = slot g (goal.at.returns-in_err-place-clause-entered g c).In_ok-head bn in
    ok_not_err (c.place_for.ensures p (open_place _ (g.met.S.Store.sound c.args.store.now) _ c.args.extent.bins p c.args.text.now op _ _ s.0 s.1)) c.in_err-place.was

place : (g : _) (c : In_ok-place g) (s : (c.in_ok-head.head ≡ bin c.args.extent.bins c.args.text.now) × (c.in_ok-head.number ≡ ascension c.args.extent.bins c.args.text.now)) (p : ℕ) →
    Opens (g.S.Store.memory c.args.store.now) c.args.extent c.args.text.now p → c.in_ok-place.place ≡ p
place g c s p op =
    ok_same _ _ (c.in_ok-place.ensures p (open_place _ (g.met.S.Store.sound c.args.store.now) _ c.args.extent.bins p c.args.text.now op _ _ s.0 s.1))

pub returns-in_err-old-clause-entered : goal.returns-in_err-old-clause-entered
returns-in_err-old-clause-entered g c p bn op =
    let n = g.met.S.Store.sound c.args.store.now in
    let w = goal.at.returns-in_err-old-clause-entered g c in
    let s = slot g w.In_ok-head bn in
    let pl = place g w.In_ok-place s p op in
    ok_not_err (descriptor_read (g.S.Store.memory c.args.store.now) _ c.descriptor.result c.descriptor.ensures
    (open_below _ n _ c.args.extent.bins p c.args.text.now op _ _ s.0 s.1 _ pl)) c.in_err-old.was

own : (g : _) (c : After-numbered g) (s : (c.in_ok-head.head ≡ bin c.args.extent.bins c.args.text.now) × (c.in_ok-head.number ≡ ascension c.args.extent.bins c.args.text.now)) (p : ℕ) →
    Opens (g.S.Store.memory c.args.store.now) c.args.extent c.args.text.now p → c.in_ok-place.place ≡ p → FitDescriptor (g.S.Store.memory c.args.store.now).figures c.numbered.result
own g c s p op pl =
    own_fits _ (g.met.S.Store.sound c.args.store.now) _ c.args.extent.bins p c.args.text.now op _ _ s.0 s.1 _ pl _ c.in_ok-old.ensures.1 _ c.numbered.ensures

pub returns-in_err-end-clause-entered : goal.returns-in_err-end-clause-entered
returns-in_err-end-clause-entered g c p bn op =
    let w = goal.at.returns-in_err-end-clause-entered g c in
    let s = slot g w.In_ok-head bn in
    let ow = own g w.After-numbered s p op (place g w.In_ok-place s p op) in
    ok_not_err (c.write_string.ensures op.some op.few op.room ow op.codes).0 c.in_err-end.was

pub returns-in_err-set_descriptor-clause-entered : goal.returns-in_err-set_descriptor-clause-entered
returns-in_err-set_descriptor-clause-entered g c p bn op =
    let n = g.met.S.Store.sound c.args.store.now in
    let w = goal.at.returns-in_err-set_descriptor-clause-entered g c in
    let s = slot g w.In_ok-head bn in
    let pl = place g w.In_ok-place s p op in
    let wr = c.in_ok-end.ensures op.some op.few op.room (own g w.After-numbered s p op pl) op.codes in
    let le = ok_same _ _ (c.in_ok-link.ensures (open_small _ n _ c.args.extent.bins p c.args.text.now op _ _ s.0 s.1)) in
    let lf = last_fits _ n _ c.args.extent.bins p c.args.text.now op _ _ s.0 s.1 _ pl _ c.in_ok-old.ensures.1 _ c.numbered.ensures _ wr.1 _ le in
    ok_not_err (descriptor_written _ _ _ _ c.set_descriptor.result c.set_descriptor.ensures.answer lf.0 lf.1).0 c.in_err-set_descriptor.was

pub returns-clause-entered : goal.returns-clause-entered
returns-clause-entered g c p bn op =
    let n = g.met.S.Store.sound c.args.store.now in
    let w = goal.at.returns-clause-entered g c in
    let s = slot g w.In_ok-head bn in
    let pl = place g w.In_ok-place s p op in
    let wr = c.in_ok-end.ensures op.some op.few op.room (own g w.After-numbered s p op pl) op.codes in
    let le = ok_same _ _ (c.in_ok-link.ensures (open_small _ n _ c.args.extent.bins p c.args.text.now op _ _ s.0 s.1)) in
    let lf = last_fits _ n _ c.args.extent.bins p c.args.text.now op _ _ s.0 s.1 _ pl _ c.in_ok-old.ensures.1 _ c.numbered.ensures _ wr.1 _ le in (
      wr.0,
      entered_all _ n _ c.args.extent.bins p c.args.text.now op _ _ s.0 s.1 _ pl _ c.in_ok-old.ensures.1 _ c.numbered.ensures _ wr.1 _ le _
          (descriptor_written _ _ _ _ c.set_descriptor.result c.set_descriptor.ensures.answer lf.0 lf.1).1,
    )

-- The same of a text that the arena does not have.
pub returns-in_err-place-clause-grown : goal.returns-in_err-place-clause-grown
returns-in_err-place-clause-grown g c m a fr = grown_by m a _ _ _ _ (g.met.S.Store.sound c.args.store.now) fr _ (returns-in_err-place-clause-entered g c)

pub returns-in_err-old-clause-grown : goal.returns-in_err-old-clause-grown
returns-in_err-old-clause-grown g c m a fr = grown_by m a _ _ _ _ (g.met.S.Store.sound c.args.store.now) fr _ (returns-in_err-old-clause-entered g c)

pub returns-in_err-end-clause-grown : goal.returns-in_err-end-clause-grown
returns-in_err-end-clause-grown g c m a fr = grown_by m a _ _ _ _ (g.met.S.Store.sound c.args.store.now) fr _ (returns-in_err-end-clause-entered g c)

pub returns-in_err-set_descriptor-clause-grown : goal.returns-in_err-set_descriptor-clause-grown
returns-in_err-set_descriptor-clause-grown g c m a fr = grown_by m a _ _ _ _ (g.met.S.Store.sound c.args.store.now) fr _ (returns-in_err-set_descriptor-clause-entered g c)

pub returns-clause-grown : goal.returns-clause-grown
returns-clause-grown g c m a fr = grown_by m a _ _ _ _ (g.met.S.Store.sound c.args.store.now) fr _ (returns-clause-entered g c)
