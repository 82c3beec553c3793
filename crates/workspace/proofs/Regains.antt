-- The count of the free cells after a regeneration.
use Rattle.std.proofs.Common.{◌≡◌, ℕ, ◌+◌, ◌-◌, ◌<◌, ◌≤◌, List, ap, ◌∙◌, arith}
use Rattle.cells.specs.declared.Descriptor.{Descriptor}
use Rattle.cells.specs.Meaning.{Memory, Figures}
use Rattle.rules.specs.Lists.{total}
use Rattle.rules.specs.Model.{Thing, Model, size, Exactly}
use Rattle.rules.specs.Arena.{Arena}
use Rattle.rules.proofs.Reach.{exactly_total}
use Rattle.heap.specs.Regeneration as heap
use Rattle.workspace.specs.State.{Opened}
use Rattle.workspace.specs.Shown.{View}
use Rattle.workspace.specs.Rooms.{LacksRoom, Regained}
use Rattle.workspace.proofs.Rooms.{up, renewed}

module _ (m : Model) (a : Arena) (v : View) (bins first need : ℕ) (rs : List Descriptor) (ws : List ℕ) (f : Memory) (g : heap.Regenerated m a v.memory bins first rs ws f) where
  abbrev after : View
  after = record { memory = f; registers = rs; state = Opened bins first }

  same_cells : f.figures.cells ≡ v.memory.figures.cells
  same_cells = ap (λ (y : Figures). y.cells) g.figures

  -- It is the end of the reachable things.
  first_is : (things : List Thing) → Exactly m things → first ≡ a.bins + total (size v.memory.figures.places m) things
  first_is things e =
      let w = exactly_total (size v.memory.figures.places m) m g.after.order things g.exactly e in
      let x : g.after.«next» ≡ g.after.bins + total (size v.memory.figures.places m) g.after.order =
      rw (ap (λ (y : Figures). y.places) g.figures) at g.shown.shows.laid.end in
      let u = g.shown.end_is in let z = g.same_bins in omega arith

  within : first ≤ v.memory.figures.cells
  within = omega (arith, g.shown.shows.laid.within, g.shown.end_is, same_cells)

  module _ (cells free : ℕ) (cells_is : cells ≡ f.figures.cells) (free_is : free ≡ cells - first) where
    pub regain_full : free < need → LacksRoom m a v need after
    regain_full less =
        record {
          arena = g.after;
          renewed = renewed m a v.memory bins first rs ws f g;
          shown = up m g.after bins first rs ws f g.shown;
          figures = g.figures;
          exceeds = λ things x. omega (arith, first_is things x, free_is, cells_is, same_cells, less, within);
        }

    pub regain_fit : need ≤ free → Regained m a v need after free
    regain_fit enough =
        record {
          arena = g.after;
          renewed = renewed m a v.memory bins first rs ws f g;
          shown = up m g.after bins first rs ws f g.shown;
          figures = g.figures;
          fits = λ things x. omega (arith, first_is things x, free_is, cells_is, same_cells, enough, within);
          counted = λ things x. free_is ∙ ap (λ (k : ℕ). k - first) (cells_is ∙ same_cells) ∙ ap (λ (k : ℕ). v.memory.figures.cells - k) (first_is things x);
        }
