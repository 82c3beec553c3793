-- The cells of a new string, as they are written.
use Rattle.std.proofs.Common.{◌≡◌, ℕ, ◌+◌, ◌-◌, ◌*◌, ◌/◌, ◌%◌, ◌<◌, ◌≤◌, Bool, true, false, cond, ltb, ◌≢◌, List, length, get_or, pos, sym, refl, ap, ◌∙◌, subst, ⊎_elim, mod-lt, div-lt_iff_lt-mul, arith, ltb-true}
use native.Mathlib.Nat.{div-add-mod}
use Rattle.cells.specs.declared.Descriptor.{Descriptor}
use Rattle.cells.specs.Meaning.{Memory, Figures, FitDescriptor, FitCode, WroteDescriptor, WroteCharacter}
use Rattle.rules.specs.Model.{string_fields, string_cells}
use Rattle.rules.specs.Arena.{desc, null_desc}
use Rattle.arena.specs.Enters.{code_at, Takes, Framed, Writing, Written, Entered}
use native.Mathlib.Decide.{ℕ_discrete}

-- A place of a cell is told by both of its numbers.
place_same : (c j k : ℕ) → j / c ≡ k / c → j % c ≡ k % c → j ≡ k
place_same c j k e f = sym (div-add-mod j c) ∙ ap (λ (x : ℕ). c * x + j % c) e ∙ ap (λ (x : ℕ). c * (k / c) + x) f ∙ div-add-mod k c

code_fits : (t : List ℕ) (f : Figures) (j : ℕ) → f.lowest ≤ f.highest → ((i : ℕ) → i < length t → FitCode f (get_or t i 0)) → FitCode f (code_at t f.lowest j)
code_fits t f j o h = by (ltb j (length t)) refl
  where
    by : (b : Bool) → ltb j (length t) ≡ b → FitCode f (cond b (get_or t j 0) f.lowest)
    by true e = h j (ltb-true _ _ e)
    by false e = (omega arith, o)

module _ (o : Memory) (p rows : ℕ) (t : List ℕ) where
  module _ (k : ℕ) (r : Memory) (s : Writing o p rows t k r) (one : 1 ≤ o.figures.places) (l : k < rows * o.figures.places) where
    row : k / o.figures.places < rows
    row = (div-lt_iff_lt-mul one).1 l

    more_core : (x : ℕ) (r' : Memory) → x ≡ code_at t o.figures.lowest k → WroteCharacter r (p + k / o.figures.places) (k % o.figures.places) x r' → Writing o p rows t (k + 1) r'
    more_core x r' e w =
        record {
          figures = w.figures ∙ s.figures;
          done = λ j h. elim (ℕ_discrete j k) [
            | yes z ↦ rw z (w.here ∙ e)
            | no z ↦ elim (ℕ_discrete (j / o.figures.places) (k / o.figures.places)) [
              | yes y ↦ (let n : j % o.figures.places ≢ k % o.figures.places = λ u. z (place_same o.figures.places j k y u) in
                  ap (λ (i : ℕ). r'.character (p + i) (j % o.figures.places)) y ∙ w.places (j % o.figures.places) n
                  ∙ ap (λ (i : ℕ). r.character (p + i) (j % o.figures.places)) (sym y) ∙ s.done j (omega arith))
              | no y ↦ w.characters (p + j / o.figures.places) (j % o.figures.places) (omega arith) ∙ s.done j (omega arith)
            ]
          ];
          descriptors = λ c h. (let y = row in w.descriptors c (⊎_elim (λ u. omega arith) (λ u. omega arith) h) ∙ s.descriptors c h);
          characters = λ c j h. (let y = row in w.characters c j (⊎_elim (λ u. omega arith) (λ u. omega arith) h) ∙ s.characters c j h);
        }

    module _ (c : ℕ) (ce : c ≡ o.figures.places) (low : ℕ) (le : low ≡ o.figures.lowest) (x : ℕ) (xe : x ≡ code_at t low k) (q : ℕ) (qe : q ≡ p + k / c) where
      pub writing_fits : p + rows ≤ o.figures.cells → o.figures.lowest ≤ o.figures.highest → Takes o t →
          (q < r.figures.cells) × (k % c < r.figures.places) × FitCode r.figures x
      writing_fits b or f = rw (s.figures, qe, ce, xe, le) (let y = row in omega arith, mod-lt k one, code_fits t o.figures k or f)

      pub writing_more : (r' : Memory) → WroteCharacter r q (k % c) x r' → Writing o p rows t (k + 1) r'
      writing_more r' w = more_core x r' (rw le at xe)
          (subst (λ (y : ℕ). WroteCharacter r (p + k / y) (k % y) x r') ce (subst (λ (y : ℕ). WroteCharacter r y (k % c) x r') qe w))

-- A cell and a descriptor fit still after writes that keep the figures.
pub fits_after : (e f : Figures) → f ≡ e → (c : ℕ) (d : Descriptor) → c < e.cells → FitDescriptor e d → (c < f.cells) × FitDescriptor f d
fits_after e f i c d l h = rw i (l, h)

pub null_fits : (f : Figures) (t : Descriptor) → t ≡ null_desc → 1 ≤ f.largest → FitDescriptor f t
null_fits f t e l = rw e (omega arith, l)

pub pointer_fits : (f : Figures) (t : Descriptor) (p k : ℕ) → t ≡ desc (pos p) 16 k → k ≤ f.largest → FitDescriptor f t
pointer_fits f t p k e l = rw e (omega arith, l)

-- A string's cells and the pointer to it.
pub entered : (o : Memory) (p : ℕ) (t : List ℕ) (k c : ℕ) (old : Descriptor) (r1 r2 : Memory) → c < p → old ≡ o.descriptor c →
    Written o p t (desc old.value old.flags k) r1 → WroteDescriptor r1 c (desc (pos p) 16 old.kind) r2 → Entered o p t k c r2
entered o p t k c old r1 r2 low read w d = grind arith

-- Frame and characters make a string.
pub written : (o : Memory) (p n q rows : ℕ) (t : List ℕ) (d : Descriptor) (r1 r2 : Memory) → n ≡ length t → q ≡ p + 2 + string_fields → rows ≡ string_cells o.figures.places (length t) - (2 + string_fields) →
    Framed o p n d r1 → Writing r1 q rows t (rows * r1.figures.places) r2 → Written o p t d r2
written o p n q rows t d r1 r2 ne qe re f w = grind arith
