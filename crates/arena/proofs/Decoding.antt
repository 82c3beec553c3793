-- A coded value decodes to itself, and its descriptor fits every store.
use Rattle.std.proofs.Common.{◌≡◌, ℕ, ◌≤◌, true, false, eqb, leb, ◌⊎◌, List, refl, inl, inr, arith}
use Rattle.std.proofs.lemmas.Bool.{le-leb, ne_eqb}
use Rattle.cells.specs.declared.Descriptor.{Descriptor}
use Rattle.cells.specs.Meaning.{Memory, Sound, FitDescriptor}
use Rattle.rules.specs.Model.{Thing, Value, Model}
use Rattle.rules.specs.Arena.{Coded, as_null, as_number, as_text, as_block, as_name, Arena, Proper, Codes}
use Rattle.arena.specs.declared.values.Held.TheVariants as is
use Rattle.arena.specs.Values.{held, held_pointer, Means}

block_held : (p k : ℕ) → 16 ≤ k → k ≤ 255 → held_pointer p k ≡ is.Block p k
block_held p k lo hi =
    let x : eqb k 1 ≡ false = ne_eqb k 1 (λ e. omega arith) in
    let y : eqb k 9 ≡ false = ne_eqb k 9 (λ e. omega arith) in
    let z : leb 16 k ≡ true = le-leb 16 k lo in
    let w : leb k 255 ≡ true = le-leb k 255 hi in
    rw (x, y, z, w)

pub decodes : (m : Model) (a : Arena) (o : Memory) (v : Value) (d : Descriptor) → Codes m a o v d → Proper m v → Means m a o v (held d)
decodes m a o v d as_null h = refl
decodes m a o v d as_number h = refl
decodes m a o v d (as_text {p = p} l) h = (p, refl, l)
decodes m a o v d (as_block {k = k} {p = p} l) h = (p, block_held p k h.0 h.1, l)
decodes m a o v d (as_name {p = p} l) h = (p, refl, l, h.0, h.1)

-- A value's descriptor has no flag, or that of a pointer.
pub coded_flags : (s : Thing → ℕ) (a : ℕ) (xs : List Thing) (v : Value) (d : Descriptor) → Coded s a xs v d → (d.flags ≡ 0) ⊎ (d.flags ≡ 16)
coded_flags s a xs v d as_null = inl refl
coded_flags s a xs v d as_number = inl refl
coded_flags s a xs v d (as_text l) = inr refl
coded_flags s a xs v d (as_block l) = inr refl
coded_flags s a xs v d (as_name l) = inr refl

pub coded_fits : (m : Model) (a : Arena) (o : Memory) (v : Value) (d : Descriptor) → Sound o → Codes m a o v d → Proper m v → FitDescriptor o.figures d
coded_fits m a o v d snd as_null h = (omega arith, let w = snd.wide in omega arith)
coded_fits m a o v d snd as_number h = (omega arith, let w = snd.wide in omega arith)
coded_fits m a o v d snd (as_text l) h = (omega arith, let w = snd.wide in omega arith)
coded_fits m a o v d snd (as_block l) h = (omega arith, let w = snd.wide in omega arith)
coded_fits m a o v d snd (as_name l) h = (omega arith, let w = snd.wide in omega arith)
