-- The walk along a chain to the next marked string, and the new heads and links.
use Rattle.std.proofs.Common.{◌≡◌, ℕ, ◌+◌, ◌<◌, ◌≤◌, Bool, true, false, cond, eqb, ◌≢◌, ◌⊎◌, List, length, get_or, ℤ, pos, sym, refl, ap, ◌∙◌, subst, inl, inr, ⊎_elim, arith, eqb-true}
use native.Mathlib.Decide.{ℕ_discrete}
use lib.Bits.{bit_and}
use Rattle.cells.specs.declared.Descriptor.{Descriptor}
use Rattle.cells.specs.Meaning.{Memory, Figures, WroteDescriptor, FitDescriptor}
use Rattle.rules.specs.Lists.{In}
use Rattle.rules.specs.Model.{string_fields, string_cells}
use Rattle.rules.specs.Arena.{desc}
use Rattle.arena.specs.Titles.{count, cells_of}
use Rattle.arena.proofs.Follows.{Leads as Followed, ends, leads}
use Rattle.heap.specs.Marks.{IsMarked, IsBare}
use Rattle.heap.specs.declared.blocks.Block.{Block}
use Rattle.heap.specs.declared.blocks.Blocks.{Blocks}
use Rattle.heap.specs.Walks.{length_at, Tiled}
use Rattle.heap.specs.Threads.{link_cell, Joins, Leads, to_end, to_kept, past, Led, Leading, MarkedString, Linkable, Threading, Headed, Heading, Rethreaded}
use Rattle.heap.proofs.Paths.{less, equal, more, order_of, lower, next_stop, positive}
use Rattle.heap.proofs.Took.{Took}
use Rattle.heap.proofs.Values.{count_below}

module _ (o : Memory) (ts ws : List ℕ) (k : ℕ) (d' : Descriptor) where
  -- The string with the title q, which comes next, is marked, or the way goes on from its link.
  pub data Onward (left q : ℕ) : Type 0 where
    kept : IsMarked o q → q < length ws → get_or ws q 0 ≤ 65535 → d' ≡ desc (pos (get_or ws q 0)) 16 k → Onward left q
    bare : IsBare o q → 0 < left → ((n : ℕ) → left ≤ n + 1 → Leading o ts ws k d' (o.descriptor (link_cell q)) n) → Onward left q

  -- The chain ends, or there is a next string.
  pub ways : (d : Descriptor) (left : ℕ) → Leading o ts ws k d' d left →
      Followed d (desc (pos 0) 0 k ≡ d') (λ (q : ℕ). (link_cell q < o.figures.cells) × Onward left q)
  ways d left s = by s.turns d s.few s.leads
    where
      by : (n : ℕ) (x : Descriptor) → n ≤ left → Leads o ts ws k d' n x →
          Followed x (desc (pos 0) 0 k ≡ d') (λ (q : ℕ). (link_cell q < o.figures.cells) × Onward left q)
      by n x w (to_end f e) = ends f (sym e)
      by n x w (to_kept q j m l h e) = leads q j.flag j.value (j.within, kept m l h e)
      by n x w (past i q l j m r) = leads q j.flag j.value (j.within, bare m (omega arith) (λ n few. record { turns = i; few = omega arith; leads = r }))

  pub way_kept : (left q : ℕ) (t : Descriptor) → t ≡ o.descriptor q → bit_and t.flags 8 ≢ 0 → Onward left q →
      (q < length ws) × (get_or ws q 0 ≤ 65535) × (d' ≡ desc (pos (get_or ws q 0)) 16 k)
  way_kept left q t read m (kept y l h e) = (l, h, e)
  way_kept left q t read m (bare y z f) = absurd (m (rw read y))

  pub way_bare : (left q : ℕ) (t : Descriptor) → t ≡ o.descriptor q → bit_and t.flags 8 ≡ 0 → Onward left q →
      (0 < left) × ((n : ℕ) → left ≤ n + 1 → Leading o ts ws k d' (o.descriptor (link_cell q)) n)
  way_bare left q t read m (kept y l h e) = absurd (y (rw read at m))
  way_bare left q t read m (bare y z f) = (z, f)

-- A way depends on titles and on the links of strings that are not marked.
pub leads_same : (o r : Memory) (ts ws : List ℕ) (k : ℕ) (d' : Descriptor) → r.figures ≡ o.figures → ((q : ℕ) → In q ts → (r.descriptor q).flags ≡ (o.descriptor q).flags) →
    ((q : ℕ) → In q ts → IsBare o q → link_cell q < o.figures.cells → r.descriptor (link_cell q) ≡ o.descriptor (link_cell q)) →
    (n : ℕ) (d : Descriptor) → Leads o ts ws k d' n d → Leads r ts ws k d' n d
leads_same o r ts ws k d' fg tt' lk n d w = by n d w
  where
    joins : (d : Descriptor) (q : ℕ) → Joins o ts d q → Joins r ts d q
    joins d q j = record { flag = j.flag; value = j.value; title = j.title; within = (let e = ap (λ (x : Figures). x.cells) fg in let y = j.within in omega arith) }

    by : (n : ℕ) (d : Descriptor) → Leads o ts ws k d' n d → Leads r ts ws k d' n d
    by n d (to_end f e) = to_end f e
    by n d (to_kept q j m l h e) = to_kept q (joins d q j) (rw (tt' q j.title) m) l h e
    by n d (past i q l j m w) = past i q l (joins d q j) (rw (tt' q j.title) m) (subst (λ (e : Descriptor). Leads r ts ws k d' i e) (sym (lk q j.title m j.within)) (by i _ w))

pub led_same : (o r : Memory) (ts ws : List ℕ) (d e d' : Descriptor) → r.figures ≡ o.figures → ((q : ℕ) → In q ts → (r.descriptor q).flags ≡ (o.descriptor q).flags) →
    ((q : ℕ) → In q ts → IsBare o q → link_cell q < o.figures.cells → r.descriptor (link_cell q) ≡ o.descriptor (link_cell q)) → e ≡ d → Led o ts ws d d' → Led r ts ws e d'
led_same o r ts ws d e d' fg tt' lk i w =
    let c = ap (λ (x : Figures). x.cells) fg in let l = ap (λ (x : Figures). x.largest) fg in
    rw i (record {
      turns = w.turns;
      few = (let y = w.few in omega arith);
      leads = leads_same o r ts ws d.kind d' fg tt' lk w.turns d w.leads;
      small = (let y = w.small in omega arith);
    })

pub led_at : (o : Memory) (ts ws : List ℕ) (d e d' : Descriptor) → d ≡ e → Led o ts ws e d' → Led o ts ws d d'
led_at o ts ws d e d' i w = rw i w

pub wrote_at : (r : Memory) (c : ℕ) (d d' : Descriptor) (r' : Memory) → d ≡ d' → WroteDescriptor r c d r' → WroteDescriptor r c d' r'
wrote_at r c d d' r' e w = rw (← e) w

-- What is written fits.
pub led_fits : (o : Memory) (ts ws : List ℕ) (d x d' : Descriptor) → x ≡ d' → Led o ts ws d d' → FitDescriptor o.figures x
led_fits o ts ws d x d' i s = rw i (by s.turns d s.leads)
  where
    fits : (v : ℤ) (f : ℕ) → f ≤ 31 → d' ≡ desc v f d.kind → FitDescriptor o.figures d'
    fits v f l e = rw e (l, s.small)

    by : (n : ℕ) (x : Descriptor) → Leads o ts ws d.kind d' n x → FitDescriptor o.figures d'
    by n x (to_end f e) = fits _ 0 (omega arith) e
    by n x (to_kept q j m l h e) = fits _ 16 (omega arith) e
    by n x (past i q l j m w) = by i _ w

pub string_long : (c : ℕ) (d : Descriptor) → bit_and d.flags 4 ≢ 0 → 5 ≤ cells_of c d
string_long c d z = by (eqb (bit_and d.flags 4) 0) refl
  where
    by : (b : Bool) → eqb (bit_and d.flags 4) 0 ≡ b → 5 ≤ cond b (d.kind + 1) (string_cells c d.kind)
    by true e = absurd (z (eqb-true _ _ e))
    by false e = omega arith

module _ (o : Memory) (ts : List ℕ) (bins end : ℕ) (a : Tiled o ts bins end) where
  -- A title is no link, and one link is of one string.
  pub no_link : (q c : ℕ) → MarkedString o ts q → In c ts → link_cell q ≢ c
  no_link q c k h e = let l = string_long o.figures.places (o.descriptor q) k.2 in let g = a.gap q c k.0 h (omega arith) in omega arith

  module _ (link : ℕ → Descriptor) where
    module _ (p : ℕ) (r : Memory) (s : Threading o ts link end p r) where
      pub threading_titles : (q : ℕ) → In q ts → r.descriptor q ≡ o.descriptor q
      threading_titles q h = s.descriptors q (λ x k l. no_link x q k h)

      threading_links : (q : ℕ) → In q ts → IsBare o q → r.descriptor (link_cell q) ≡ o.descriptor (link_cell q)
      threading_links q h z = s.descriptors (link_cell q) (λ x k l e. k.1 (let y : x ≡ q = omega arith in rw y z))

      pub threading_led : (ws : List ℕ) (d e d' : Descriptor) → e ≡ d → Led o ts ws d d' → Led r ts ws e d'
      threading_led ws d e d' i w =
          led_same o r ts ws d e d' s.figures (λ q h. ap (λ (x : Descriptor). x.flags) (threading_titles q h)) (λ q h z l. threading_links q h z) i w

    module _ (w w' : Blocks) (b : Block) (r : Memory) (t : Took o ts w b r w') (s : Threading o ts link end w.at r) where
      read : b.title ≡ o.descriptor w.at
      read = t.title ∙ threading_titles w.at r s w.at t.here

      pub threading_skip : (bit_and b.title.flags 8 ≡ 0) ⊎ (bit_and b.title.flags 4 ≡ 0) → Threading o ts link end w'.at r
      threading_skip un =
          let i = t.onward in
          record {
            stop = next_stop o ts bins end a w w' b r t;
            figures = s.figures;
            done = λ q k x. s.done q k (old q k x);
            descriptors = λ c ne. s.descriptors c (λ q k x. ne q k (omega arith));
            characters = λ c j ne. s.characters c j (λ q k x. ne q k (omega arith));
          }
        where
          old : (q : ℕ) → MarkedString o ts q → q < w'.at → q < w.at
          old q k x = lower o ts bins end a w w' b r t q k.0 x (λ z. ⊎_elim (λ y. k.1 (rw (z, ← read) y)) (λ y. k.2 (rw (z, ← read) y)) un)

      module _ (m : bit_and b.title.flags 8 ≢ 0) (f : bit_and b.title.flags 4 ≢ 0) where
        keeps_here : MarkedString o ts w.at
        keeps_here = (t.here, (λ z. m (rw read z)), (λ z. f (rw read z)))

        pub link_below : link_cell b.at < r.figures.cells
        link_below =
            let i = ap (λ (x : Figures). x.cells) s.figures in let n = a.within in let x = a.high w.at t.here in let e = t.at in
            let y = string_long o.figures.places (o.descriptor w.at) keeps_here.2 in omega arith

        pub link_led : (ws : List ℕ) → Linkable o ts ws link → Led r ts ws (r.descriptor (link_cell b.at)) (link b.at)
        link_led ws lk =
            rw t.at (threading_led w.at r s ws _ _ _ (s.descriptors (link_cell w.at) (λ x k y z. let u : x ≡ w.at = omega arith in omega arith)) (lk w.at keeps_here))

        pub threading_keep : (r' : Memory) → WroteDescriptor r (link_cell b.at) (link b.at) r' → Threading o ts link end w'.at r'
        threading_keep r' d' =
            let d = rw t.at at d' in let i = t.onward in
            record {
              stop = next_stop o ts bins end a w w' b r t;
              figures = d.figures ∙ s.figures;
              done = λ q k x. elim (ℕ_discrete q w.at) [
                | yes z ↦ rw z d.here
                | no z ↦ d.descriptors (link_cell q) (omega arith) ∙ s.done q k (lower o ts bins end a w w' b r t q k.0 x z)
              ];
              descriptors = λ c ne. d.descriptors c (away c ne) ∙ s.descriptors c (λ q k x. ne q k (omega arith));
              characters = λ c j ne. d.characters c j (away c ne) ∙ s.characters c j (λ q k x. ne q k (omega arith));
            }
          where
            away : (c : ℕ) → ((q : ℕ) → MarkedString o ts q → q < w'.at → link_cell q ≢ c) → c ≢ link_cell w.at
            away c ne z = ne w.at keeps_here (let y = positive o ts bins end a w.at in let i = t.onward in omega arith) (sym z)

module _ (o : Memory) (ts : List ℕ) (bins : ℕ) (low : (q : ℕ) → In q ts → bins ≤ q) (head : ℕ → Descriptor) where
  module _ (k : ℕ) (r : Memory) (s : Heading o head k r) (l : k < bins) where
    pub heading_led : (ws : List ℕ) → Headed o ts ws bins head → Led r ts ws (r.descriptor k) (head k)
    heading_led ws h =
        led_same o r ts ws _ _ _ s.figures (λ q x. ap (λ (y : Descriptor). y.flags) (s.descriptors q (let z = low q x in omega arith)))
        (λ q x z u. s.descriptors (link_cell q) (let y = low q x in omega arith)) (s.descriptors k (omega arith)) (h k l)

    pub heading_below : bins ≤ o.figures.cells → k < r.figures.cells
    heading_below b = let i = ap (λ (x : Figures). x.cells) s.figures in omega arith

    pub heading_more : (r' : Memory) → WroteDescriptor r k (head k) r' → Heading o head (k + 1) r'
    heading_more r' w =
        record {
          figures = w.figures ∙ s.figures;
          done = λ b x. elim (ℕ_discrete b k) [ yes z ↦ rw z w.here | no z ↦ w.descriptors b z ∙ s.done b (omega arith) ];
          descriptors = λ c x. w.descriptors c (omega arith) ∙ s.descriptors c (omega arith);
          characters = λ c j x. w.characters c j (omega arith) ∙ s.characters c j (omega arith);
        }

string_two : (d : Descriptor) → bit_and d.flags 4 ≢ 0 → count d ≡ string_fields
string_two d z = by (eqb (bit_and d.flags 4) 0) refl
  where
    by : (b : Bool) → eqb (bit_and d.flags 4) 0 ≡ b → cond b d.kind string_fields ≡ string_fields
    by true e = absurd (z (eqb-true _ _ e))
    by false e = refl

module _ (r : Memory) (ts : List ℕ) (bins end : ℕ) (a : Tiled r ts bins end) (link head : ℕ → Descriptor) (u v : Memory) (th : Threading r ts link end end u) (hd : Heading u head bins v) where
  -- A cell of a block that is no link.
  elsewhere : (q k : ℕ) → In q ts → k < length_at r q → k ≢ 3 ⊎ (bit_and (r.descriptor q).flags 4 ≡ 0) → (x : ℕ) → MarkedString r ts x → x < end → link_cell x ≢ q + k
  elsewhere q k h l n x y w e =
      let z = string_long r.figures.places (r.descriptor x) y.2 in
      elim (order_of x q) [
        | less i ↦ (let g = a.gap x q y.0 h i in omega arith)
        | equal i ↦ ⊎_elim (λ j. j (omega arith)) (λ j. y.2 (rw i j)) n
        | more i ↦ (let g = a.gap q x h y.0 i in omega arith)
      ]

  below_end : (q : ℕ) → In q ts → q < end
  below_end q h = let x = a.high q h in let p = positive r ts bins end a q in omega arith

  two_or : (q : ℕ) → (count (r.descriptor q) ≡ string_fields) ⊎ (bit_and (r.descriptor q).flags 4 ≡ 0)
  two_or q = elim (ℕ_discrete (bit_and (r.descriptor q).flags 4) 0) [ yes z ↦ inr z | no z ↦ inl (string_two (r.descriptor q) z) ]

  pub rethreaded : Rethreaded r ts bins link head v
  rethreaded =
      record {
        figures = hd.figures ∙ th.figures;
        titles = λ q h. hd.descriptors q (a.low q h) ∙ threading_titles r ts bins end a link end u th q h;
        fields = λ q k h l. (let i = a.low q h in let j = count_below r.figures.places (r.descriptor q) in let e : q + (k + 1) ≡ q + 1 + k = omega arith in
            hd.descriptors (q + 1 + k) (omega arith) ∙ th.descriptors (q + 1 + k) (λ x y w z. elsewhere q (k + 1) h (omega arith)
            (⊎_elim (λ t. inl (omega arith)) (λ t. inr t) (two_or q)) x y w (z ∙ sym e)));
        links = λ q k. (let i = a.low q k.0 in hd.descriptors (link_cell q) (omega arith) ∙ th.done q k (below_end q k.0));
        heads = λ b l. hd.done b l;
        tails = λ q k j h l m. (let i = a.low q h in
            hd.characters (q + k) j (omega arith) ∙ th.characters (q + k) j (elsewhere q k h m (⊎_elim (λ t. inl (omega arith)) (λ t. inr t) (two_or q))));
      }
