-- The search along a chain.
use Rattle.std.proofs.Common.{◌≡◌, ℕ, ◌+◌, ◌-◌, ◌<◌, ◌≤◌, Bool, true, false, List, Some, None, Ok, Err, Option, Result, sym, ap, arith}
use Rattle.arena.specs.declared.faults.HeapFault.{HeapFault}
use Rattle.arena.proofs.Outcomes.{ok_not_err}
use Rattle.cells.specs.declared.Descriptor.{Descriptor}
use Rattle.cells.specs.Meaning.{Memory}
use Rattle.rules.specs.Model.{string_fields}
use Rattle.arena.specs.Finds.{Readable, Spells, Seeks, runs_out, hits, stops, goes_on, Sought}
use Rattle.arena.proofs.Follows.{Leads, ends, leads}

module _ (o : Memory) (t : List ℕ) (k n : ℕ) (r : Option ℕ) where
  -- What is to come at the string with the title q.
  pub data Comes (q : ℕ) : Type 0 where
    hit : Spells o q t → r ≡ Some q → Comes q
    stop : (Spells o q t → ⊥) → k < (o.descriptor (q + 1 + string_fields)).kind → r ≡ None → Comes q
    on : (Spells o q t → ⊥) → (o.descriptor (q + 1 + string_fields)).kind ≤ k → Sought o t k (o.descriptor (q + 1 + string_fields)) (n - 1) r → Comes q

  pub sought_leads : (d : Descriptor) → Sought o t k d n r → Leads d (None ≡ r) (λ q. (0 < n) × Readable o q × Comes q)
  sought_leads d s = by s.turns d s.few s.seeks
    where
      by : (i : ℕ) (d : Descriptor) → i ≤ n → Seeks o t k r i d → Leads d (None ≡ r) (λ q. (0 < n) × Readable o q × Comes q)
      by i d w (runs_out z e) = ends z (sym e)
      by i d w (hits q l h s e) = leads q h.flag h.value (omega arith, h.readable, hit s e)
      by i d w (stops q l h s g e) = leads q h.flag h.value (omega arith, h.readable, stop s g e)
      by i d w (goes_on u q l h s g m) = leads q h.flag h.value (omega arith, h.readable, on s g (record { turns = u; few = omega arith; seeks = m }))

  module _ (q : ℕ) (c : Comes q) where
    pub comes_found : ((Spells o q t → ⊥) → ⊥) → Some q ≡ r
    comes_found s = elim c [ hit z e ↦ sym e | stop z g e ↦ absurd (s z) | on z g m ↦ absurd (s z) ]

    module _ (s : Spells o q t → ⊥) (d : Descriptor) (read : d ≡ o.descriptor (q + 1 + string_fields)) where
      pub comes_stopped : k < d.kind → None ≡ r
      comes_stopped l = let e = ap (λ (x : Descriptor). x.kind) read in elim c [ hit z h ↦ absurd (s z) | stop z g h ↦ sym h | on z g m ↦ absurd (omega arith) ]

      pub comes_on : (i : ℕ) → i ≡ n - 1 → d.kind ≤ k → Sought o t k d i r
      comes_on i z l = let e = ap (λ (x : Descriptor). x.kind) read in elim c [ hit y h ↦ absurd (s y) | stop y g h ↦ absurd (omega arith) | on y g m ↦ rw (z, read) m ]

-- An answer that is known either way is no fault.
pub answer_known : {S : Type 0} (r : Result Bool HeapFault) (x : HeapFault) → (S → r ≡ Ok true) → ((S → ⊥) → r ≡ Ok false) → r ≡ Err x → ⊥
answer_known r x y n e = ok_not_err (n (λ s. ok_not_err (y s) e)) e

pub not_not : {S : Type 0} (b : Bool) → b ≡ true → ((S → ⊥) → ◌≡◌ {A = Result Bool HeapFault} (Ok b) (Ok false)) → (S → ⊥) → ⊥
not_not b t f n = let e = f n in cc

pub not_so : {S : Type 0} (b : Bool) → b ≡ false → (S → ◌≡◌ {A = Result Bool HeapFault} (Ok b) (Ok true)) → S → ⊥
not_so b t f n = let e = f n in cc
