-- The walk over the blocks and the new cells of the marked ones.
use Rattle.std.proofs.Common.{◌≡◌, ℕ, ◌+◌, ◌<◌, ◌≤◌, Bool, true, false, cond, eqb, ◌≢◌, ◌⊎◌, List, length, get_or, set, sym, refl, ap, ◌∙◌, inl, inr, ⊎_elim, arith, get_or-set_other, get_or-set_same}
use native.Mathlib.Decide.{dec_lt, ℕ_discrete}
use lib.Bits.{bit_and}
use Rattle.cells.specs.declared.Descriptor.{Descriptor}
use Rattle.cells.specs.Meaning.{Memory, Figures, WroteDescriptor}
use Rattle.rules.specs.Model.{string_cells}
use Rattle.rules.specs.Lists.{In}
use Rattle.heap.specs.Marks.{IsMarked, IsBare}
use Rattle.arena.specs.Titles.{cells_of, retitled}
use Rattle.heap.specs.declared.blocks.Block.{Block}
use Rattle.heap.specs.declared.blocks.Blocks.{Blocks}
use Rattle.heap.specs.Walks.{Slid, length_at, Tiled, To, begin, keep, skip, Tabled, Brought, Packed, Moving}
use Rattle.heap.proofs.Took.{Took}

pub data Order (a b : ℕ) : Type 0 where
  less : a < b → Order a b
  equal : a ≡ b → Order a b
  more : b < a → Order a b

pub order_of : (a b : ℕ) → Order a b
order_of a b = elim (ℕ_discrete a b) [ yes e ↦ equal e | no n ↦ elim (dec_lt a b) [ yes l ↦ less l | no k ↦ more (omega arith) ] ]

cells_positive : (c : ℕ) (d : Descriptor) → 1 ≤ cells_of c d
cells_positive c d = by (eqb (bit_and d.flags 4) 0)
  where
    by : (b : Bool) → 1 ≤ cond b (d.kind + 1) (string_cells c d.kind)
    by true = omega arith
    by false = omega arith

module _ (o : Memory) (ts : List ℕ) (bins end : ℕ) (a : Tiled o ts bins end) where
  abbrev len : ℕ → ℕ
  len p = length_at o p

  pub positive : (p : ℕ) → 1 ≤ len p
  positive p = cells_positive o.figures.places (o.descriptor p)

  -- Two blocks that end at one cell are one.
  same_end : (p q : ℕ) → In p ts → In q ts → p + len p ≡ q + len q → p ≡ q
  same_end p q h k e =
      elim (order_of p q) [
        | less l ↦ absurd (let g = a.gap p q h k l in let x = positive q in omega arith)
        | equal z ↦ z
        | more l ↦ absurd (let g = a.gap q p k h l in let x = positive p in omega arith)
      ]

  -- The walk does not pass the bins, and what moves moves down.
  pub to_low : (p t : ℕ) → To o ts bins p t → (bins ≤ t) × (t ≤ p)
  to_low p t (begin e f) = (omega arith, omega arith)
  to_low p t (keep q u w h m e f) = let i = to_low q u w in let x = i.0 in let y = i.1 in (omega arith, omega arith)
  to_low p t (skip q w h m e) = let i = to_low q t w in let x = i.0 in let y = i.1 in (omega arith, omega arith)

  -- The new cell is one.
  pub to_one : (p t u : ℕ) → To o ts bins p t → To o ts bins p u → t ≡ u
  to_one p t u (begin e f) (begin g i) = f ∙ sym i
  to_one p t u (begin e f) (keep q v w h m g i) = absurd (let x = a.low q h in let y = positive q in omega arith)
  to_one p t u (begin e f) (skip q w h m g) = absurd (let x = a.low q h in let y = positive q in omega arith)
  to_one p t u (keep q v w h m g i) (begin e f) = absurd (let x = a.low q h in let y = positive q in omega arith)
  to_one p t u (keep q v w h m g i) (keep q' v' w' h' m' g' i') =
      let e = same_end q q' h h' (sym g ∙ g') in
      let v-is = to_one q v v' w (rw (← e) at w') in
      i ∙ ap (λ x. x + len q) v-is ∙ ap (λ x. v' + len x) e ∙ sym i'
  to_one p t u (keep q v w h m g i) (skip q' w' h' m' g') =
      let e = same_end q q' h h' (sym g ∙ g') in absurd (m (rw e m'))
  to_one p t u (skip q w h m g) (begin e f) = absurd (let x = a.low q h in let y = positive q in omega arith)
  to_one p t u (skip q w h m g) (keep q' v' w' h' m' g' i') =
      let e = same_end q q' h h' (sym g ∙ g') in absurd (m' (rw (← e) m))
  to_one p t u (skip q w h m g) (skip q' w' h' m' g') =
      let e = same_end q q' h h' (sym g ∙ g') in to_one q t u w (rw (← e) at w')

  -- A marked block ends, where it goes, below where the walk's next one goes.
  pub to_above : (q t p u : ℕ) → In q ts → IsMarked o q → To o ts bins q t → q < p → To o ts bins p u → t + len q ≤ u
  to_above q t p u hq mq tq l (begin e f) = absurd (let x = a.low q hq in omega arith)
  to_above q t p u hq mq tq l (keep r v w h m g i) =
      elim (order_of q r) [
        | less k ↦ (let x = to_above q t r v hq mq tq k w in omega arith)
        | equal k ↦ (let x = to_one r v t w (rw k at tq) in let y : len q ≡ len r = ap len k in omega arith)
        | more k ↦ absurd (let x = a.gap r q h hq k in omega arith)
      ]
  to_above q t p u hq mq tq l (skip r w h m g) =
      elim (order_of q r) [
        | less k ↦ to_above q t r u hq mq tq k w
        | equal k ↦ absurd (mq (rw k m))
        | more k ↦ absurd (let x = a.gap r q h hq k in omega arith)
      ]

  -- No title stands inside of a block.
  pub below_step : (p q : ℕ) → In p ts → In q ts → q < p + len p → q ≢ p → q < p
  below_step p q hp hq l ne =
      elim (order_of q p) [ less k ↦ k | equal k ↦ absurd (ne k) | more k ↦ absurd (let g = a.gap p q hp hq k in omega arith) ]

  module _ (w w' : Blocks) (b : Block) (r : Memory) (t : Took o ts w b r w') where
    -- No other title stands below the next stop of the walk.
    pub lower : (q : ℕ) → In q ts → q < w'.at → q ≢ w.at → q < w.at
    lower q h l ne = below_step w.at q t.here h (rw t.onward at l) ne

    pub next_stop : In w'.at ts ⊎ (w'.at ≡ end)
    next_stop = rw t.onward (a.step w.at t.here)

    pub table_long : (ws : List ℕ) → o.figures.cells ≤ length ws → b.at < length ws
    table_long ws l = let h = a.high w.at t.here in let n = a.within in let y = positive w.at in let e = t.at in omega arith

  pub tabled_none : (ws : List ℕ) → Tabled o ts bins end bins bins ws
  tabled_none ws = record { stop = a.start; goes = begin refl refl; table = λ q h l. absurd (let x = a.low q h in omega arith) }

  module _ (w w' : Blocks) (b : Block) (t : Took o ts w b o w') (u : ℕ) (ws : List ℕ) (s : Tabled o ts bins end w.at u ws) where
    pub tabled_keep : b.at < length ws → bit_and b.title.flags 8 ≢ 0 → Tabled o ts bins end w'.at (u + b.cells) (set ws b.at u)
    tabled_keep l m =
        record {
          stop = next_stop w w' b o t;
          goes = keep w.at u s.goes t.here (λ z. m (rw t.title z)) t.onward (ap (λ x. u + x) t.cells);
          table = λ q hq k mq. rw t.at (elim (ℕ_discrete q w.at) [
            | yes z ↦ rw (z, get_or-set_same ws w.at u 0 (rw t.at at l)) s.goes
            | no z ↦ rw (get_or-set_other ws w.at q u 0 z) (s.table q hq (lower w w' b o t q hq k z) mq)
          ]);
        }

    pub tabled_skip : bit_and b.title.flags 8 ≡ 0 → Tabled o ts bins end w'.at u ws
    tabled_skip m =
        record {
          stop = next_stop w w' b o t;
          goes = skip w.at s.goes t.here (rw t.title at m) t.onward;
          table = λ q hq k mq. s.table q hq (lower w w' b o t q hq k (λ z. mq (rw (z, ← t.title) m))) mq;
        }

  pub packed_skip : (p n : ℕ) (f : Memory) → Packed o ts bins p f → In p ts → n ≡ len p → IsBare o p → Packed o ts bins (p + n) f
  packed_skip p n f s h e m =
      record {
        figures = s.figures;
        titles = λ q t hq l mq. s.titles q t hq (lower q hq l mq) mq;
        descriptors = λ q t k hq l mq. s.descriptors q t k hq (lower q hq l mq) mq;
        characters = λ q t k j hq l mq. s.characters q t k j hq (lower q hq l mq) mq;
        rest = λ c l. s.rest c (⊎_elim (λ x. inl x) (λ x. inr (omega arith)) l);
        rest_characters = λ c j l. s.rest_characters c j (⊎_elim (λ x. inl x) (λ x. inr (omega arith)) l);
      }
    where
      lower : (q : ℕ) → In q ts → q < p + n → IsMarked o q → q < p
      lower q hq l mq = below_step p q h hq (rw (← e) l) (λ z. mq (rw z m))

  pub packed_keep : (p t n : ℕ) (f g f' : Memory) → Packed o ts bins p f → In p ts → n ≡ len p → IsMarked o p → To o ts bins p t →
      Slid f p t n g → WroteDescriptor g t (retitled (o.descriptor p) t) f' → Packed o ts bins (p + n) f'
  packed_keep p t n f g f' s h e m go sl w =
      record {
        figures = w.figures ∙ sl.figures ∙ s.figures;
        titles = λ q u hq l mq gq. elim (ℕ_discrete q p) [
          | yes z ↦ (let x = to_one p t u go (rw z at gq) in rw (z, ← x) w.here)
          | no z ↦ (let y = before q u hq l mq gq z in let x = positive q in
              w.descriptors u (omega arith) ∙ sl.descriptors u (inl (omega arith)) ∙ s.titles q u hq (below_step p q h hq (rw (← e) l) z) mq gq)
        ];
        descriptors = λ q u k hq l mq gq k1 k2. elim (ℕ_discrete q p) [
          | yes z ↦ (let x = to_one p t u go (rw z at gq) in let y : k < n = rw (e, ← z) k2 in
              rw (z, ← x) (w.descriptors (t + k) (omega arith) ∙ sl.descriptor k y ∙ s.rest (p + k) (inr (omega arith))))
          | no z ↦ (let y = before q u hq l mq gq z in
              w.descriptors (u + k) (omega arith) ∙ sl.descriptors (u + k) (inl (omega arith)) ∙ s.descriptors q u k hq (below_step p q h hq (rw (← e) l) z) mq gq k1 k2)
        ];
        characters = λ q u k j hq l mq gq k1 k2. elim (ℕ_discrete q p) [
          | yes z ↦ (let x = to_one p t u go (rw z at gq) in let y : k < n = rw (e, ← z) k2 in
              rw (z, ← x) (w.characters (t + k) j (omega arith) ∙ sl.character k j y ∙ s.rest_characters (p + k) j (inr (omega arith))))
          | no z ↦ (let y = before q u hq l mq gq z in
              w.characters (u + k) j (omega arith) ∙ sl.characters (u + k) j (inl (omega arith)) ∙ s.characters q u k j hq (below_step p q h hq (rw (← e) l) z) mq gq k1 k2)
        ];
        rest = λ c l. (let b = to_low p t go in let b0 = b.0 in let b1 = b.1 in let y = positive p in
            w.descriptors c (⊎_elim (λ x. omega arith) (λ x. omega arith) l) ∙ sl.descriptors c (⊎_elim (λ x. inl (omega arith)) (λ x. inr (omega arith)) l) ∙ s.rest c (⊎_elim (λ x. inl x) (λ x. inr (omega arith)) l));
        rest_characters = λ c j l. (let b = to_low p t go in let b0 = b.0 in let b1 = b.1 in let y = positive p in
            w.characters c j (⊎_elim (λ x. omega arith) (λ x. omega arith) l) ∙ sl.characters c j (⊎_elim (λ x. inl (omega arith)) (λ x. inr (omega arith)) l) ∙ s.rest_characters c j (⊎_elim (λ x. inl x) (λ x. inr (omega arith)) l));
      }
    where
      before : (q u : ℕ) → In q ts → q < p + n → IsMarked o q → To o ts bins q u → q ≢ p → u + len q ≤ t
      before q u hq l mq gq z = to_above q u p t hq mq gq (below_step p q h hq (rw (← e) l) z) go

  pub moving_title : (p : ℕ) (f : Memory) → Moving o ts bins end p f → In p ts → f.descriptor p ≡ o.descriptor p
  moving_title p f s h = s.packed.rest p (inr (omega arith))

  module _ (w w' : Blocks) (b : Block) (f : Memory) (t : Took o ts w b f w') (s : Moving o ts bins end w.at f) where
    title_is : b.title ≡ o.descriptor w.at
    title_is = t.title ∙ moving_title w.at f s t.here

    pub moving_skip : bit_and b.title.flags 8 ≡ 0 → Moving o ts bins end w'.at f
    moving_skip m = record { stop = next_stop w w' b f t; packed = rw t.onward (packed_skip w.at (len w.at) f s.packed t.here refl (rw title_is at m)) }

    module _ (m : bit_and b.title.flags 8 ≢ 0) (ws : List ℕ) (e u : ℕ) (tb : Tabled o ts bins end end e ws) (new : u ≡ get_or ws b.at 0) where
      is_marked : IsMarked o w.at
      is_marked z = m (rw title_is z)

      goes : To o ts bins w.at u
      goes = rw (new, t.at) (tb.table w.at t.here (let h = a.high w.at t.here in let y = positive w.at in omega arith) is_marked)

      pub moving_fits : (u ≤ b.at) × (1 ≤ b.cells) × (b.at + b.cells ≤ f.figures.cells) × (b.title.kind ≤ 65535)
      moving_fits =
          let d = (to_low w.at u goes).1 in let x = t.at in let c = t.cells in let y = positive w.at in
          let i = ap (λ (x : Figures). x.cells) s.packed.figures in let h = a.high w.at t.here in let n = a.within in
          (omega arith, omega arith, omega arith, rw title_is (a.few w.at t.here))

      pub moving_keep : (f' : Memory) → Brought f b.title b.at u b.cells f' → Moving o ts bins end w'.at f'
      moving_keep f' br =
          record {
            stop = next_stop w w' b f t;
            packed = rw t.onward (packed_keep w.at u (len w.at) f br.between f' s.packed t.here refl is_marked goes (rw (t.at, t.cells) at br.slid) (rw title_is at br.wrote));
          }
