-- Values and their new descriptors.
use Rattle.std.proofs.Common.{◌≡◌, ℕ, ◌+◌, ◌-◌, ◌<◌, ◌≤◌, Bool, true, false, cond, eqb, ◌≢◌, ◌⊎◌, List, length, get_or, set, pos, Ok, Result, sym, refl, ap, ◌∙◌, subst, inl, inr, ⊎_elim, arith, length-set, get_or-set_other, get_or-set_same}
use native.Mathlib.Decide.{ℕ_discrete}
use lib.Bits.{bit_and}
use Rattle.std.proofs.lemmas.List.{get_or_default}
use Rattle.cells.specs.declared.Descriptor.{Descriptor}
use Rattle.cells.specs.Meaning.{Memory, Figures, Sound, WroteDescriptor, FitDescriptor}
use Rattle.rules.specs.Model.{string_fields, string_cells}
use Rattle.rules.specs.Lists.{In}
use Rattle.rules.specs.Arena.{desc, null_desc}
use Rattle.arena.specs.declared.faults.HeapFault.{HeapFault}
use Rattle.arena.specs.Titles.{Back, count, cells_of}
use Rattle.heap.specs.declared.blocks.Block.{Block}
use Rattle.heap.specs.declared.blocks.Blocks.{Blocks}
use Rattle.heap.specs.Walks.{length_at, Tiled}
use Rattle.heap.specs.Moves.{Hits, Ready, value, pointer, Goes, value_goes, pointer_goes, Relocating, Relocated, Prepared, Shifting}
use Rattle.heap.proofs.Paths.{less, equal, more, order_of, lower, next_stop}
use Rattle.heap.proofs.Took.{Took}

back_flags : (m r : Memory) (q k : ℕ) → ((c : ℕ) → (r.descriptor c).flags ≡ (m.descriptor c).flags) → Back m q k → Back r q k
back_flags m r q k f b = record { title = rw (f q) b.title; passed = λ j l h. rw (f j) (b.passed j l h) }

hits_flags : (m r : Memory) (ws : List ℕ) (d : Descriptor) (q i : ℕ) → r.figures ≡ m.figures → ((c : ℕ) → (r.descriptor c).flags ≡ (m.descriptor c).flags) → Hits m ws d q i → Hits r ws d q i
hits_flags m r ws d q i fg fl h =
    record {
      flag = h.flag;
      value = h.value;
      within = (let e = ap (λ (x : Figures). x.cells) fg in let w = h.within in omega arith);
      back = back_flags m r q i fl h.back;
      listed = h.listed;
      small = h.small;
    }

pub ready_field : (m : Memory) (ws : List ℕ) (p n : ℕ) → ((k : ℕ) → k < n → Ready m ws (m.descriptor (p + 1 + k))) → (c : ℕ) → p < c → c < p + 1 + n → Ready m ws (m.descriptor c)
ready_field m ws p n re c low l = let e : p + 1 + (c - (p + 1)) ≡ c = omega arith in rw e at (re (c - (p + 1)) (omega arith))

-- The walk over the fields of the block at p stands at the cell c.
module _ (m : Memory) (ws : List ℕ) (p c : ℕ) (low : p < c) (r : Memory) (s : Relocating m ws p (c - (p + 1)) r) where
  field : p + 1 + (c - (p + 1)) ≡ c
  field = omega arith

  pub read_field : r.descriptor c ≡ m.descriptor c
  read_field = s.rest c (inr (omega arith))

  -- The descriptor d and what the code makes of it.
  pub relocating_more : (d d' : Descriptor) (r' : Memory) → d ≡ m.descriptor c → d'.flags ≡ d.flags → Goes m ws d d' → WroteDescriptor r c d' r' → Relocating m ws p (c + 1 - (p + 1)) r'
  relocating_more d d' r' e fl go w =
      record {
        figures = w.figures ∙ s.figures;
        flags = λ i. elim (ℕ_discrete i c) [
          | yes z ↦ rw z (ap (λ (x : Descriptor). x.flags) w.here ∙ fl ∙ ap (λ (x : Descriptor). x.flags) e)
          | no z ↦ ap (λ (x : Descriptor). x.flags) (w.descriptors i z) ∙ s.flags i
        ];
        done = λ j l. elim (ℕ_discrete (p + 1 + j) c) [
          | yes z ↦ rw (z, w.here, ← e) go
          | no z ↦ rw (w.descriptors (p + 1 + j) z) (s.done j (omega arith))
        ];
        rest = λ i l. w.descriptors i (⊎_elim (λ x. omega arith) (λ x. omega arith) l) ∙ s.rest i (⊎_elim (λ x. inl x) (λ x. inr (omega arith)) l);
        rest_characters = λ i j l. w.characters i j (⊎_elim (λ x. omega arith) (λ x. omega arith) l) ∙ s.rest_characters i j (⊎_elim (λ x. inl x) (λ x. inr (omega arith)) l);
      }

  -- A field that is no pointer stays.
  pub relocating_same : (d : Descriptor) → d ≡ m.descriptor c → bit_and d.flags 16 ≡ 0 → Ready m ws (m.descriptor c) → Relocating m ws p (c + 1 - (p + 1)) r
  relocating_same d e z y =
      record {
        figures = s.figures;
        flags = s.flags;
        done = λ j l. elim (ℕ_discrete (p + 1 + j) c) [
          | yes x ↦ rw (x, read_field) (by _ (rw e at z) y)
          | no x ↦ s.done j (omega arith)
        ];
        rest = λ i l. s.rest i (⊎_elim (λ x. inl x) (λ x. inr (omega arith)) l);
        rest_characters = λ i j l. s.rest_characters i j (⊎_elim (λ x. inl x) (λ x. inr (omega arith)) l);
      }
    where
      by : (e : Descriptor) → bit_and e.flags 16 ≡ 0 → Ready m ws e → Goes m ws e e
      by e z (value f) = value_goes f refl
      by e z (pointer q i h) = absurd (let w : bit_and 16 16 ≡ 0 = rw h.flag at z in omega arith)

ready_flags : (m r : Memory) (ws : List ℕ) (d : Descriptor) → r.figures ≡ m.figures → ((c : ℕ) → (r.descriptor c).flags ≡ (m.descriptor c).flags) → Ready m ws d → Ready r ws d
ready_flags m r ws d fg fl (value z) = value z
ready_flags m r ws d fg fl (pointer q k h) = pointer q k (hits_flags m r ws d q k fg fl h)

goes_flags : (m r : Memory) (ws : List ℕ) (d d' : Descriptor) → r.figures ≡ m.figures → ((c : ℕ) → (r.descriptor c).flags ≡ (m.descriptor c).flags) → Goes m ws d d' → Goes r ws d d'
goes_flags m r ws d d' fg fl (value_goes z e) = value_goes z e
goes_flags m r ws d d' fg fl (pointer_goes q k h e) = pointer_goes q k (hits_flags m r ws d q k fg fl h) e

-- What `forward` gives, from its two clauses.
pub record Came (m : Memory) (ws : List ℕ) (d d' : Descriptor) : Type 0 where
  pub goes : Goes m ws d d'
  pub flags : d'.flags ≡ d.flags
  pub kind : d'.kind ≡ d.kind

came : (m : Memory) (ws : List ℕ) (d : Descriptor) (res : Result Descriptor HeapFault) → (d.flags ≡ 0 → res ≡ Ok d) →
    ((q i : ℕ) → Hits m ws d q i → res ≡ Ok (desc (pos (get_or ws q 0 + i)) 16 d.kind)) → Ready m ws d → (d' : Descriptor) × (res ≡ Ok d') × Came m ws d d'
came m ws d res pl mo (value z) = (d, pl z, record { goes = value_goes z refl; flags = refl; kind = refl })
came m ws d res pl mo (pointer q i h) = (desc (pos (get_or ws q 0 + i)) 16 d.kind, mo q i h, record { goes = pointer_goes q i h refl; flags = sym h.flag; kind = refl })

-- A register and what `forward` gives for it.
pub forward_one : (m : Memory) (ws : List ℕ) (d e : Descriptor) (res : Result Descriptor HeapFault) → d ≡ e → (d.flags ≡ 0 → res ≡ Ok d) →
    ((q i : ℕ) → Hits m ws d q i → res ≡ Ok (desc (pos (get_or ws q 0 + i)) 16 d.kind)) → Ready m ws e → (d' : Descriptor) × (res ≡ Ok d') × Goes m ws e d'
forward_one m ws d e res x pl mo =
    subst (λ (e : Descriptor). Ready m ws e → (d' : Descriptor) × (res ≡ Ok d') × Goes m ws e d') x (λ y. let w = came m ws d res pl mo y in (w.0, w.1, w.2.goes))

came_small : (m : Memory) (ws : List ℕ) (d d' : Descriptor) → Came m ws d d' → d'.flags ≤ 31
came_small m ws d d' b = let f = b.flags in by b.goes
  where
    by : Goes m ws d d' → d'.flags ≤ 31
    by (value_goes z e) = let f = b.flags in omega arith
    by (pointer_goes q k h e) = let f = b.flags in let z = h.flag in omega arith

module _ (m : Memory) (ws : List ℕ) (p c : ℕ) (low : p < c) (r : Memory) (s : Relocating m ws p (c - (p + 1)) r) (d : Descriptor) (read : d ≡ m.descriptor c) where
  pub forward_gives : (res : Result Descriptor HeapFault) → (d.flags ≡ 0 → res ≡ Ok d) →
      ((q i : ℕ) → Hits r ws d q i → res ≡ Ok (desc (pos (get_or ws q 0 + i)) 16 d.kind)) → Ready m ws (m.descriptor c) →
      (d' : Descriptor) × (res ≡ Ok d') × Came m ws d d'
  forward_gives res pl mo y =
      let w = came r ws d res pl mo (ready_flags m r ws d s.figures s.flags (rw read y)) in
      (w.0, w.1, record { goes = goes_flags r m ws d w.0 (sym s.figures) (λ i. sym (s.flags i)) w.2.goes; flags = w.2.flags; kind = w.2.kind })

  pub fits_new : (d' : Descriptor) → Came m ws d d' → Sound r → c < m.figures.cells → (c < r.figures.cells) × FitDescriptor r.figures d'
  fits_new d' b snd l =
      let e = ap (λ (x : Figures). x.cells) s.figures in
      let z = b.kind in
      let y = ap (λ (x : Descriptor). x.kind) (read ∙ sym (read_field m ws p c low r s)) in
      let h : (r.descriptor c).kind ≤ r.figures.largest = snd.kinds c (omega arith) in
      (omega arith, (came_small m ws d d' b, omega arith))

pub count_below : (c : ℕ) (d : Descriptor) → count d < cells_of c d
count_below c d = by (eqb (bit_and d.flags 4) 0)
  where
    by : (b : Bool) → cond b d.kind string_fields < cond b (d.kind + 1) (string_cells c d.kind)
    by true = omega arith
    by false = omega arith

module _ (o : Memory) (ts ws : List ℕ) (bins end : ℕ) (a : Tiled o ts bins end) where
  module _ (w w' : Blocks) (b : Block) (r : Memory) (t : Took o ts w b r w') (s : Relocated o ts ws bins end w.at r) where
    read : b.title ≡ o.descriptor w.at
    read = t.title ∙ s.titles w.at t.here

    mv : count b.title < length_at o w.at
    mv = rw read (count_below o.figures.places (o.descriptor w.at))

    pub relocated_skip : bit_and b.title.flags 8 ≡ 0 → Relocated o ts ws bins end w'.at r
    relocated_skip m =
        let k = t.onward in
        record {
          stop = next_stop o ts bins end a w w' b r t;
          figures = s.figures;
          flags = s.flags;
          done = λ q k h x mq y. s.done q k h (lower o ts bins end a w w' b r t q h x (λ z. mq (rw (z, ← read) m))) mq y;
          titles = s.titles;
          rest = λ c x. s.rest c (⊎_elim (λ y. inl y) (λ y. inr (omega arith)) x);
          links = s.links;
          tails = s.tails;
        }

    module _ (m : bit_and b.title.flags 8 ≢ 0) where
      pub fields_fit : b.at + count b.title < r.figures.cells
      fields_fit =
          let i = ap (λ (x : Figures). x.cells) s.figures in let n = a.within in let x = a.high w.at t.here in let y = mv in let z = t.at in omega arith

      pub ready_now : Prepared o ts ws → (k : ℕ) → k < count b.title → Ready r ws (r.descriptor (b.at + 1 + k))
      ready_now pr k h =
          rw (t.at, s.rest (w.at + 1 + k) (inr (omega arith))) (ready_flags o r ws _ s.figures s.flags (pr.ready w.at k t.here (λ z. m (rw read z)) (rw (ap count read) at h)))

      pub relocated_keep : (r' : Memory) → Relocating r ws b.at (count b.title) r' → Relocated o ts ws bins end w'.at r'
      relocated_keep r' g' =
          let g = rw t.at at g' in let k = t.onward in let v = mv in
          record {
            stop = next_stop o ts bins end a w w' b r t;
            figures = g.figures ∙ s.figures;
            flags = λ c. g.flags c ∙ s.flags c;
            done = λ q k h x mq y. elim (ℕ_discrete q w.at) [
              | yes z ↦ rw z (let y' : k < count b.title = rw (ap count read, ← z) y in
                  rw (s.rest (w.at + 1 + k) (inr (omega arith))) at (goes_flags r o ws _ _ (sym s.figures) (λ c. sym (s.flags c)) (g.done k y')))
              | no z ↦ (let u = lower o ts bins end a w w' b r t q h x z in let v = a.gap q w.at h t.here u in let n = count_below o.figures.places (o.descriptor q) in
                  rw (g.rest (q + 1 + k) (inl (omega arith))) (s.done q k h u mq y))
            ];
            titles = λ q h. g.rest q (side q h) ∙ s.titles q h;
            rest = λ c x. (let u = a.low w.at t.here in g.rest c (⊎_elim (λ y. inl (omega arith)) (λ y. inr (omega arith)) x) ∙ s.rest c (⊎_elim (λ y. inl y) (λ y. inr (omega arith)) x));
            links = λ q k h x y. g.rest (q + k) (tail q k h x y) ∙ s.links q k h x y;
            tails = λ q k j h x y. g.rest_characters (q + k) j (tail q k h x y) ∙ s.tails q k j h x y;
          }
        where
          side : (q : ℕ) → In q ts → (q ≤ w.at) ⊎ (w.at + 1 + count b.title ≤ q)
          side q h = elim (order_of q w.at)
              [ less u ↦ inl (omega arith) | equal u ↦ inl (omega arith) | more u ↦ inr (let g = a.gap w.at q t.here h u in let v = mv in omega arith) ]

          tail : (q k : ℕ) → In q ts → count (o.descriptor q) < k → k < length_at o q → (q + k ≤ w.at) ⊎ (w.at + 1 + count b.title ≤ q + k)
          tail q k h x y = elim (order_of q w.at) [
            | less u ↦ inl (let g = a.gap q w.at h t.here u in omega arith)
            | equal u ↦ inr (let f = ap (λ (c : ℕ). count (o.descriptor c)) u in let g = ap count read in omega arith)
            | more u ↦ inr (let g = a.gap w.at q t.here h u in let v = mv in omega arith)
          ]

module _ (o : Memory) (ws : List ℕ) (rs : List Descriptor) where
  pub shifting_read : (k : ℕ) (rs' : List Descriptor) (x : Descriptor) → Shifting o ws rs k rs' → k < length rs' → get_or rs' k x ≡ get_or rs k null_desc
  shifting_read k rs' x s l = get_or_default rs' k x null_desc l ∙ s.rest k (omega arith)

  pub shifting_more : (k : ℕ) (rs' : List Descriptor) (d' : Descriptor) → Shifting o ws rs k rs' → k < length rs' → Goes o ws (get_or rs k null_desc) d' → Shifting o ws rs (k + 1) (set rs' k d')
  shifting_more k rs' d' s l go =
      record {
        same_length = length-set rs' k d' ∙ s.same_length;
        done = λ i x. elim (ℕ_discrete i k) [
          | yes z ↦ rw (z, get_or-set_same rs' k d' null_desc l) go
          | no z ↦ rw (get_or-set_other rs' k i d' null_desc z) (s.done i (omega arith))
        ];
        rest = λ i x. get_or-set_other rs' k i d' null_desc (omega arith) ∙ s.rest i (omega arith);
      }
