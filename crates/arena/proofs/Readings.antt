-- What the cells of an arena that shows a model tell of its things.
use Rattle.std.proofs.Common.{◌≡◌, ℕ, ◌+◌, ◌-◌, ◌<◌, ◌≤◌, ◌≢◌, ◌⊎◌, length, refl, ap, ◌∙◌, ⊎_elim, arith}
use lib.Bits.{bit_and}
use Rattle.cells.specs.declared.Descriptor.{Descriptor}
use Rattle.cells.specs.Meaning.{Memory}
use Rattle.rules.specs.Model.{Text, Thing, block, string, Model, fields, size}
use Rattle.rules.specs.Arena.{Arena, title, At, Codes, Shows}
use Rattle.rules.proofs.Lies.{lies_end}
use Rattle.rules.proofs.Coded.{fields_size}
use Rattle.arena.specs.Titles.{Back, count}
use Rattle.arena.specs.Stored.{Field}
use Rattle.arena.proofs.Decoding.{coded_flags}

count_title : (m : Model) (x : Thing) (p : ℕ) → count (title m x p) ≡ fields m x
count_title m (block i) p = refl
count_title m (string t) p = refl

title_flag : (m : Model) (x : Thing) (p : ℕ) → bit_and (title m x p).flags 2 ≢ 0
title_flag m (block i) p e = omega arith
title_flag m (string t) p e = omega arith

no_title : (f : ℕ) → (f ≡ 0) ⊎ (f ≡ 16) → bit_and f 2 ≡ 0
no_title f h = ⊎_elim (λ e. rw e refl) (λ e. rw e refl) h

module _ (m : Model) (a : Arena) (o : Memory) (sh : Shows m a o) where
  -- Title and fields of a thing lie within the store.
  pub field_below : (x : Thing) (p k : ℕ) → At m a o x p → k ≤ fields m x → p + k < o.figures.cells
  field_below x p k l h =
      let w = lies_end (size o.figures.places m) l in let z = fields_size o.figures.places m x in
      let e = sh.laid.end in let u = sh.laid.within in omega arith

  pub title_below : (x : Thing) (p : ℕ) → At m a o x p → p < o.figures.cells
  title_below x p l = let w = field_below x p 0 l (omega arith) in omega arith

  pub count_at : (x : Thing) (p : ℕ) (d : Descriptor) → At m a o x p → d ≡ o.descriptor p → count d ≡ fields m x
  count_at x p d l e = ap count (e ∙ sh.laid.titled x p l) ∙ count_title m x p

  pub length_at : (t : Text) (p : ℕ) (d : Descriptor) → At m a o (string t) p → d ≡ o.descriptor p → d.kind ≡ length t
  length_at t p d l e = ap (λ (y : Descriptor). y.kind) (e ∙ sh.laid.titled (string t) p l)

  -- Going back from a field leads to the title.
  pub back_at : (x : Thing) (p k : ℕ) → At m a o x p → k ≤ fields m x → Back o p k
  back_at x p k l h =
      record {
        title = rw (sh.laid.titled x p l) (title_flag m x p);
        passed = λ j j1 j2.
            (let e : p + (j - p) ≡ j = omega arith in
            let c : Codes m a o (m.field x (j - p)) (o.descriptor j) = rw e at (sh.laid.coded x p (j - p) l (omega arith) (omega arith)) in
            no_title _ (coded_flags _ _ _ _ _ c));
      }

-- The same for a field's cell.
module _ (m : Model) (a : Arena) (o : Memory) (x : Thing) (k cell : ℕ) (f : Field m a o x k cell) where
  pub cell_below : cell < o.figures.cells
  cell_below = let w = field_below m a o f.shows x f.title k f.at f.few in let e = f.cell_is in omega arith

  pub back_from : Back o f.title k
  back_from = back_at m a o f.shows x f.title k f.at f.few

  -- What holds of the title and the distance found by going back holds of the field.
  pub by_field : (P : ℕ → ℕ → Type 0) → ((p j : ℕ) → cell ≡ p + j → cell < o.figures.cells → Back o p j → P p j) → P f.title k
  by_field P h = h f.title k f.cell_is cell_below back_from
