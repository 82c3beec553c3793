-- The way along a chain to the head or link behind which a new string goes.
use Rattle.std.proofs.Common.{◌≡◌, ℕ, ◌+◌, ◌-◌, ◌<◌, ◌≤◌, ap, ◌∙◌, arith}
use Rattle.cells.specs.declared.Descriptor.{Descriptor}
use Rattle.cells.specs.Meaning.{Memory}
use Rattle.rules.specs.Model.{string_fields}
use Rattle.arena.specs.Enters.{Behind, at_last, before, after, Backward}
use Rattle.arena.proofs.Follows.{Leads, ends, leads}

pub backward_below : (o : Memory) (k c n p : ℕ) → Backward o k c n p → c < o.figures.cells
backward_below o k c n p s = by s.turns s.behind
  where
    by : (i : ℕ) → Behind o k p i c → c < o.figures.cells
    by i (at_last l f e) = l
    by i (before q z l h m e) = l
    by i (after u q z l h m w) = l

module _ (o : Memory) (k c n p : ℕ) where
  -- What is to come at the string with the title q.
  pub data Comes (q : ℕ) : Type 0 where
    stop : k < (o.descriptor (q + 1 + string_fields)).kind → c ≡ p → Comes q
    on : (o.descriptor (q + 1 + string_fields)).kind ≤ k → Backward o k (q + 1 + string_fields) (n - 1) p → Comes q

  pub backward_leads : Backward o k c n p → (d : Descriptor) → d ≡ o.descriptor c → Leads d (c ≡ p) (λ q. (0 < n) × (q + 1 + string_fields < o.figures.cells) × Comes q)
  backward_leads s d read = rw read (by s.turns s.few s.behind)
    where
      by : (i : ℕ) → i ≤ n → Behind o k p i c → Leads (o.descriptor c) (c ≡ p) (λ q. (0 < n) × (q + 1 + string_fields < o.figures.cells) × Comes q)
      by i w (at_last l f e) = ends f e
      by i w (before q z l h m e) = leads q h.flag h.value (omega arith, h.within, stop m e)
      by i w (after u q z l h m b) = leads q h.flag h.value (omega arith, h.within, on m (record { turns = u; few = omega arith; behind = b }))

  module _ (q : ℕ) (s : Comes q) (x : ℕ) (xe : x ≡ q + 1 + string_fields) (d : Descriptor) (read : d ≡ o.descriptor x) where
    kind_is : d.kind ≡ (o.descriptor (q + 1 + string_fields)).kind
    kind_is = ap (λ (y : Descriptor). y.kind) read ∙ ap (λ (y : ℕ). (o.descriptor y).kind) xe

    pub comes_here : k < d.kind → c ≡ p
    comes_here l = let e = kind_is in elim s [ stop g h ↦ h | on g h ↦ absurd (omega arith) ]

    pub comes_on : (i : ℕ) → i ≡ n - 1 → d.kind ≤ k → Backward o k x i p
    comes_on i z l = let e = kind_is in elim s [ stop g h ↦ absurd (omega arith) | on g h ↦ rw (z, xe) h ]
