-- The fields of one block, and the whole queue.
use Rattle.std.proofs.Common.{◌≡◌, ℕ, ◌+◌, ◌-◌, ◌<◌, ◌≤◌, ◌≢◌, ◌⊎◌, List, get_or, Result, Ok, refl, ap, ◌∙◌, ⊎_elim, arith}
use native.Mathlib.Decide.{dec_lt, ℕ_discrete}
use lib.Bits.{bit_and}
use Rattle.cells.specs.declared.Descriptor.{Descriptor}
use Rattle.cells.specs.Meaning.{Memory, Figures}
use Rattle.rules.specs.Model.{string_fields}
use Rattle.rules.specs.Lists.{In}
use Rattle.rules.specs.Arena.{null_desc}
use Rattle.arena.specs.Titles.{count, with_mark}
use Rattle.heap.specs.Marks.{Aims, Valued, plain, pointer, Queued, still, marked, Queue, Grew, Added, Visited, Scanned, Reached, root, along, Drained, Marked, Registered, Holding}
use Rattle.arena.specs.declared.faults.HeapFault.{HeapFault}
use Rattle.heap.proofs.Outcomes.{fields_given}
use Rattle.heap.proofs.Queues.{flags_of}

pub in_grown : (ws ws' : List ℕ) (n n' q : ℕ) → Grew ws n ws' n' → Queued ws n q → Queued ws' n' q
in_grown ws ws' n n' q g (i, l, e) = (i, (let k = g.more in omega arith), g.kept i l ∙ e)

pub grew_twice : (ws ws' ws'' : List ℕ) (n n' n'' : ℕ) → Grew ws n ws' n' → Grew ws' n' ws'' n'' → Grew ws n ws'' n''
grew_twice ws ws' ws'' n n' n'' g h =
    record { more = (let a = g.more in let b = h.more in omega arith); kept = λ i l. h.kept i (let a = g.more in omega arith) ∙ g.kept i l }

module _ (m : Memory) (ts : List ℕ) (ws : List ℕ) (n : ℕ) (o : Memory) (a : Queue m ts ws n o) where
  -- The title in the marked memory has as many fields.
  pub count_now : (p : ℕ) (d : Descriptor) → In p ts → d ≡ o.descriptor p → count d ≡ count (m.descriptor p)
  count_now p d h e =
      elim (a.states p) [
        | still ne x ch ↦ ap count (e ∙ x)
        | marked i x ↦ ap count (e ∙ x) ∙ same_count
      ]
    where
      same_count : count (with_mark (m.descriptor p)) ≡ count (m.descriptor p)
      same_count = rw (flags_of _ (a.ground.titled p h).flag).alike

  -- Its fields are as many cells.
  pub fields_now : (p f e : ℕ) (d : Descriptor) → In p ts → d ≡ o.descriptor p → o.figures.cells ≤ 65535 →
      (p + 1 + count d < 4294967296 → ◌≡◌ {A = Result (ℕ × ℕ) HeapFault} (Ok (f, e)) (Ok (p + 1, p + 1 + count d))) →
      (f ≡ p + 1) × (e ≡ p + 1 + count (m.descriptor p))
  fields_now p f e d h r few given =
      let n = count_now p d h r in
      let i = ap (λ (x : Figures). x.cells) a.figures in
      let w = (a.ground.titled p h).within in
      let b = fields_given p (count d) f e (omega arith) few given in
      (b.0, let z = b.1 in omega arith)

  -- A field is as it was.
  pub field_now : (p k : ℕ) → In p ts → k < count (m.descriptor p) → o.descriptor (p + 1 + k) ≡ m.descriptor (p + 1 + k)
  field_now p k h l =
      elim (a.states (p + 1 + k)) [
        | still ne x ch ↦ x
        | marked i x ↦ absurd (clash (m.descriptor (p + 1 + k)) (a.ground.valued p k h l) (a.ground.titled (p + 1 + k) (rw i.2 at (a.titles i.0 i.1))).flag)
      ]
    where
      clash : (d : Descriptor) → Valued m ts d → ((d.flags ≡ 2) ⊎ (d.flags ≡ 6)) → ⊥
      clash d (plain z) f = ⊎_elim (λ x. omega arith) (λ x. omega arith) f
      clash d (pointer q z) f = let y = z.flag in ⊎_elim (λ x. omega arith) (λ x. omega arith) f

  -- The cell c of a field of p.
  pub cell_now : (p c : ℕ) → In p ts → p < c → c < p + 1 + count (m.descriptor p) → (o.descriptor c ≡ m.descriptor c) × (c < o.figures.cells) × Valued m ts (m.descriptor c)
  cell_now p c h l u =
      let k : ℕ = c - (p + 1) in
      let e : p + 1 + k ≡ c = omega arith in
      let i = ap (λ (f : Figures). f.cells) a.figures in
      let w = (a.ground.titled p h).within in
      (rw e at (field_now p k h (omega arith)), omega arith, rw e at (a.ground.valued p k h (omega arith)))

  pub drained_none : Drained m ts 0 ws n ws n o
  drained_none =
      record {
        queue = a;
        grew = record { more = omega arith; kept = λ i l. refl };
        far = omega arith;
        closed = λ i j q l. absurd (omega arith);
        sound = λ i l. root (i, l, refl);
      }

-- One field more, in the cell c.
pub scanned_more : (m : Memory) (ts ws : List ℕ) (n p c : ℕ) (d : Descriptor) (ws' : List ℕ) (n' : ℕ) (o' : Memory) (ws'' : List ℕ) (n'' : ℕ) (o'' : Memory) → p < c →
    d ≡ m.descriptor c → Scanned m ts p (c - (p + 1)) ws n ws' n' o' → Visited m ts ws' n' d ws'' n'' o'' → Scanned m ts p (c + 1 - (p + 1)) ws n ws'' n'' o''
scanned_more m ts ws n p c d ws' n' o' ws'' n'' o'' low e s v =
    record {
      queue = v.queue;
      grew = grew_twice ws ws' ws'' n n' n'' s.grew v.grew;
      here = λ j q l x. elim (ℕ_discrete (p + 1 + j) c) [
        | yes z ↦ v.here q (rw (e, ← z) x)
        | no z ↦ in_grown ws' ws'' n' n'' q v.grew (s.here j q (omega arith) x)
      ];
      new = λ i l h. elim (dec_lt i n') [
        | yes y ↦ (let w = s.new i l y in (w.0, (let z = w.1 in omega arith), rw (v.grew.kept i y) w.2))
        | no y ↦ (c - (p + 1), omega arith, let z : p + 1 + (c - (p + 1)) ≡ c = omega arith in rw (z, ← e) (v.new i (omega arith) h))
      ];
    }

-- One block more.
pub drained_more : (m : Memory) (ts ws : List ℕ) (n h : ℕ) (ws' : List ℕ) (n' : ℕ) (o' : Memory) (ws'' : List ℕ) (n'' : ℕ) (o'' : Memory) → h < n' →
    Drained m ts h ws n ws' n' o' → Scanned m ts (get_or ws' h 0) (count (m.descriptor (get_or ws' h 0))) ws' n' ws'' n'' o'' → Drained m ts (h + 1) ws n ws'' n'' o''
drained_more m ts ws n h ws' n' o' ws'' n'' o'' far s v =
    record {
      queue = v.queue;
      grew = grew_twice ws ws' ws'' n n' n'' s.grew v.grew;
      far = (let z = v.grew.more in omega arith);
      closed = λ i j q l. rw (v.grew.kept i (omega arith)) (elim (ℕ_discrete i h) [
        | yes z ↦ rw z (v.here j q)
        | no z ↦ λ k x. in_grown ws' ws'' n' n'' q v.grew (s.closed i j q (omega arith) k x)
      ]);
      sound = λ i l. elim (dec_lt i n') [
        | yes y ↦ rw (v.grew.kept i y) (s.sound i y)
        | no y ↦ (let w = v.new i (omega arith) l in along w.0 (s.sound h far) w.1 w.2)
      ];
    }

-- A closed queue has all that is reached.
pub all_marked : (m : Memory) (ts ws : List ℕ) (n h : ℕ) (ws' : List ℕ) (n' : ℕ) (o' : Memory) → n' ≤ h → Drained m ts h ws n ws' n' o' → Marked m ts ws n ws' n' o'
all_marked m ts ws n h ws' n' o' end s =
    record {
      queue = s.queue;
      exact = λ q r. reached q r;
      only = λ q (i, l, e). rw e at (s.sound i l);
    }
  where
    step : (p q j : ℕ) → Queued ws' n' p → j < count (m.descriptor p) → Aims m ts (m.descriptor (p + 1 + j)) q → Queued ws' n' q
    step p q j (i, l, e) k x = s.closed i j q (omega arith) (rw e k) (rw e x)

    reached : (q : ℕ) → Reached m ts ws n q → Queued ws' n' q
    reached q (root i) = in_grown ws ws' n n' q s.grew i
    reached q (along {p = p} j r k x) = step p q j (reached p r) k x

-- One register more.
pub registered_more : (m : Memory) (ts : List ℕ) (rs : List Descriptor) (ws : List ℕ) (n k : ℕ) (d : Descriptor) (ws' : List ℕ) (n' : ℕ) (o' : Memory) (ws'' : List ℕ) (n'' : ℕ) (o'' : Memory) →
    d ≡ get_or rs k null_desc → Registered m ts rs k ws n ws' n' o' → Visited m ts ws' n' d ws'' n'' o'' → Registered m ts rs (k + 1) ws n ws'' n'' o''
registered_more m ts rs ws n k d ws' n' o' ws'' n'' o'' e s v =
    record {
      queue = v.queue;
      grew = grew_twice ws ws' ws'' n n' n'' s.grew v.grew;
      here = λ j q l x. elim (ℕ_discrete j k) [
        | yes z ↦ v.here q (rw (e, ← z) x)
        | no z ↦ in_grown ws' ws'' n' n'' q v.grew (s.here j q (omega arith) x)
      ];
      new = λ i l h. elim (dec_lt i n') [
        | yes y ↦ (let w = s.new i l y in (w.0, (let z = w.1 in omega arith), rw (v.grew.kept i y) w.2))
        | no y ↦ (k, omega arith, rw (← e) (v.new i (omega arith) h))
      ];
    }

pub valued_at : (m : Memory) (ts : List ℕ) (d e : Descriptor) → d ≡ e → Valued m ts e → Valued m ts d
valued_at m ts d e x v = rw x v

-- A string that holds a value which is not null.
module _ (m : Memory) (ts : List ℕ) (ws : List ℕ) (n : ℕ) (o : Memory) (a : Queue m ts ws n o) (p : ℕ) (h : In p ts) (t : Descriptor) (read : t ≡ o.descriptor p) (str : bit_and t.flags 4 ≢ 0) where
  string_flags : (m.descriptor p).flags ≡ 6
  string_flags = ⊎_elim (λ e. absurd (str (four ∙ ap (λ (f : ℕ). bit_and f 4) e))) (λ e. e) (a.ground.titled p h).flag
    where
      four : bit_and t.flags 4 ≡ bit_and (m.descriptor p).flags 4
      four = elim (a.states p) [
        | still ne d ch ↦ ap (λ (x : Descriptor). bit_and x.flags 4) (read ∙ d)
        | marked i d ↦ ap (λ (x : Descriptor). bit_and x.flags 4) (read ∙ d) ∙ (flags_of _ (a.ground.titled p h).flag).alike
      ]

  string_count : count (m.descriptor p) ≡ string_fields
  string_count = rw string_flags refl

  pub string_field : (k c : ℕ) (v : Descriptor) → k < string_fields → c ≡ p + 1 + k → v ≡ o.descriptor c → v ≡ m.descriptor (p + 1 + k)
  string_field k c v l e r = r ∙ ap (λ (x : ℕ). o.descriptor x) e ∙ field_now m ts ws n o a p k h (let z = string_count in omega arith)

  pub holding : (k c : ℕ) (v : Descriptor) (ws' : List ℕ) (n' : ℕ) (o' : Memory) → k < string_fields → c ≡ p + 1 + k → v ≡ o.descriptor c → v ≢ null_desc →
      Added m ts ws n p ws' n' o' → Holding m p ws n ts ws' n' o'
  holding k c v ws' n' o' l e r nn b =
      record {
        queue = b.queue;
        grew = b.grew;
        here = λ j f x y. b.here;
        new = λ i x y. (b.new i x y, string_flags, (k, l, λ z. nn (string_field k c v l e r ∙ z)));
      }
