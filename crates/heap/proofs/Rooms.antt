-- How many cells are left, with and without a regeneration.
use Rattle.std.proofs.Common.{◌≡◌, ℕ, ◌+◌, ◌<◌, ◌≤◌, Bool, true, false, leb, List, Ok, Err, sym, refl, ap, ◌∙◌, arith}
use Rattle.std.proofs.lemmas.Bool.{leb-true, leb-false}
use Rattle.cells.specs.declared.Descriptor.{Descriptor}
use Rattle.cells.specs.Meaning.{Memory, Figures}
use Rattle.rules.specs.Lists.{total}
use Rattle.rules.specs.Model.{Thing, Model, size, Exactly}
use Rattle.rules.specs.Arena.{Arena}
use Rattle.rules.proofs.Reach.{exactly_total, exactly_least}
use Rattle.arena.specs.declared.faults.HeapFault.TheVariants.{NoRoom}
use Rattle.heap.specs.Regeneration.{Shown, Regenerated}
use Rattle.heap.specs.Room.{FullExactly}
use Rattle.heap.proofs.Outcomes.{ok_not_err}
use Rattle.heap.proofs.Kept.{reach_in}

-- What the test of the room tells.
module _ (r : Bool) (cells c last need : ℕ) (told : r ≡ leb (last + need) c) (is : c ≡ cells) where
  pub room_there : r ≡ true → last + need ≤ cells
  room_there e = let l = leb-true (last + need) c (sym told ∙ e) in omega arith

  pub room_short : r ≡ false → cells < last + need
  room_short e = let l = leb-false (last + need) c (sym told ∙ e) in omega arith

module _ (m : Model) (a : Arena) (bins last : ℕ) (rs : List Descriptor) (ws : List ℕ) (o : Memory) (s : Shown m a bins last rs ws o) (need : ℕ) where
  -- Room without a regeneration.
  pub full_left : last + need ≤ o.figures.cells → FullExactly m o bins need (Ok tt)
  full_left l things e =
      let w = exactly_least (size o.figures.places m) m things a.order e (reach_in m a bins last rs ws o s) in
      let u = s.bins_is in let v = s.end_is in let x = s.shows.laid.end in
      ((λ z. ok_not_err refl z), (λ z. absurd (omega arith)))

  -- After a regeneration next is the end of the reachable things.
  module _ (next' : ℕ) (rs' : List Descriptor) (ws' : List ℕ) (f : Memory) (g : Regenerated m a o bins next' rs' ws' f) where
    next_is : (things : List Thing) → Exactly m things → next' ≡ bins + total (size o.figures.places m) things
    next_is things e =
        let w = exactly_total (size o.figures.places m) m g.after.order things g.exactly e in
        let x : g.after.«next» ≡ g.after.bins + total (size o.figures.places m) g.after.order =
        rw (ap (λ (y : Figures). y.places) g.figures) at g.shown.shows.laid.end in
        let u = g.shown.end_is in let v = g.shown.bins_is in omega arith

    pub full_remade : next' + need ≤ o.figures.cells → FullExactly m o bins need (Ok tt)
    full_remade l things e = let w = next_is things e in ((λ z. ok_not_err refl z), (λ z. absurd (omega arith)))

    pub full_refused : o.figures.cells < next' + need → FullExactly m o bins need (Err NoRoom)
    full_refused l things e = let w = next_is things e in ((λ z. omega arith), (λ z. refl))
