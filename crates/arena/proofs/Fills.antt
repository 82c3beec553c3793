-- The cells of a new block, as they are written.
use Rattle.std.proofs.Common.{◌≡◌, ℕ, ◌+◌, ◌-◌, ◌≤◌, ap, arith}
use Rattle.cells.specs.declared.Descriptor.{Descriptor}
use Rattle.cells.specs.Meaning.{Memory, Figures, Sound, FitDescriptor, WroteDescriptor}
use Rattle.rules.specs.Arena.{null_desc}
use Rattle.arena.specs.Blocks.{Filled, Headed}
use Rattle.arena.proofs.Writings.{null_fits}

-- A title, and null behind it.
module _ (o : Memory) (snd : Sound o) (p n : ℕ) (t : Descriptor) (room : p + n + 1 ≤ o.figures.cells) (r : Memory) (w : WroteDescriptor o p t r) where
  pub nulls_fit : (q : ℕ) → q ≡ p + 1 → (u : Descriptor) → u ≡ null_desc → (q + n ≤ r.figures.cells) × FitDescriptor r.figures u
  nulls_fit q qe u ue =
      let e = ap (λ (f : Figures). f.cells) w.figures in
      let g = ap (λ (f : Figures). f.largest) w.figures in
      (omega arith, null_fits r.figures u ue (let v = snd.wide in omega arith))

  pub headed : (q : ℕ) → q ≡ p + 1 → (u : Descriptor) → u ≡ null_desc → (r' : Memory) → Filled r q n u r' → Headed o p t n r'
  headed q qe u ue r' f =
      record {
        figures = grind arith;
        title = grind arith;
        fields = λ j j1 j2. grind (arith, f.done (j - 1));
        descriptors = λ c h. grind arith;
        characters = λ c j h. grind arith;
      }
