-- Entering a string, at the numbers that the code has.
use Rattle.std.proofs.Common.{◌≡◌, ℕ, ◌<◌, ◌≤◌, List, pos, ap, ◌∙◌, subst, div-le_self, arith}
use Rattle.cells.specs.declared.Descriptor.{Descriptor}
use Rattle.cells.specs.Meaning.{Memory, Sound, FitDescriptor, WroteDescriptor}
use Rattle.rules.specs.Keys.{key, bin, ascension}
use Rattle.rules.specs.Arena.{desc}
use Rattle.arena.specs.Enters.{Backward, Written, Entered, Open}
use Rattle.arena.proofs.Things.{key_below}
use Rattle.arena.proofs.Writings.{fits_after, pointer_fits, entered}

module _ (o : Memory) (snd : Sound o) (p bins c : ℕ) (t : List ℕ) (op : Open o p (bin bins t) (ascension bins t) c t) (h k : ℕ) (he : h ≡ bin bins t) (ke : k ≡ ascension bins t) where
  pub open_place : Backward o k h o.figures.cells c
  open_place = rw (he, ke) op.place

  pub open_below : (q : ℕ) → q ≡ c → q < o.figures.cells
  open_below q e = let l = op.low in let r = op.room in omega arith

  pub open_small : p ≤ 65535
  open_small = let r = op.room in let f = snd.few in omega arith

  number_fits : k ≤ o.figures.largest
  number_fits = let l = key_below 0 t (omega arith) in let d = div-le_self (key t) bins in let w = snd.wide in omega arith

  module _ (q : ℕ) (pl : q ≡ c) (old : Descriptor) (oe : old ≡ o.descriptor q) where
    old_fits : FitDescriptor o.figures old
    old_fits = rw (oe, pl) op.fits

    pub own_fits : (own : Descriptor) → own ≡ desc old.value old.flags k → FitDescriptor o.figures own
    own_fits own e = rw e (old_fits.0, number_fits)

    module _ (own : Descriptor) (we : own ≡ desc old.value old.flags k) (r1 : Memory) (wr : Written o p t own r1) (link : Descriptor) (le : link ≡ desc (pos p) 16 old.kind) where
      pub last_fits : (q < r1.figures.cells) × FitDescriptor r1.figures link
      last_fits = fits_after o.figures r1.figures wr.figures q link (open_below q pl) (pointer_fits o.figures link p old.kind le old_fits.1)

      pub entered_all : (r2 : Memory) → WroteDescriptor r1 q link r2 → Entered o p t (ascension bins t) c r2
      entered_all r2 d =
          entered o p t (ascension bins t) c old r1 r2 op.low (oe ∙ ap (λ (x : ℕ). o.descriptor x) pl)
          (subst (λ (x : ℕ). Written o p t (desc old.value old.flags x) r1) ke (subst (λ (x : Descriptor). Written o p t x r1) we wr))
          (subst (λ (x : ℕ). WroteDescriptor r1 x (desc (pos p) 16 old.kind) r2) pl (subst (λ (x : Descriptor). WroteDescriptor r1 q x r2) le d))
