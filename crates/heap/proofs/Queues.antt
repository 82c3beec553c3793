-- The queue of marked titles: what one step of marking does.
use Rattle.std.proofs.Common.{◌≡◌, ℕ, suc, ◌+◌, ◌-◌, ◌<◌, ◌≤◌, ◌≢◌, ◌⊎◌, List, length, get_or, set, sym, refl, ap, ◌∙◌, subst, inl, inr, ⊎_elim, arith, length-set, get_or-set_other, get_or-set_same}
use native.Mathlib.Decide.{dec_lt, ℕ_discrete}
use lib.Bits.{bit_and, bit_or}
use Rattle.cells.specs.declared.Descriptor.{Descriptor}
use Rattle.cells.specs.Meaning.{Memory, Figures, WroteDescriptor}
use Rattle.rules.specs.Lists.{In}
use Rattle.rules.proofs.Coded.{pos_inj}
use Rattle.arena.specs.Titles.{Back, count, with_mark}
use Rattle.heap.specs.Marks.{IsMarked, IsBare, Aims, Valued, plain, pointer, Queued, still, marked, Queue, Added, Visited}
use Rattle.heap.proofs.Pigeons.{pigeons}

-- The flags of a title.
pub record Flags (f : ℕ) : Type 0 where
  pub clear : bit_and f 8 ≡ 0
  pub set : bit_and (bit_or f 8) 8 ≢ 0
  pub title : bit_and f 2 ≢ 0
  pub title_still : bit_and (bit_or f 8) 2 ≢ 0
  pub small : bit_or f 8 ≤ 31
  pub alike : bit_and (bit_or f 8) 4 ≡ bit_and f 4

pub flags_of : (f : ℕ) → (f ≡ 2) ⊎ (f ≡ 6) → Flags f
flags_of f h =
    ⊎_elim
    (λ e. rw e (record { clear = refl; set = omega arith; title = omega arith; title_still = omega arith; small = omega arith; alike = refl }))
    (λ e. rw e (record { clear = refl; set = omega arith; title = omega arith; title_still = omega arith; small = omega arith; alike = refl })) h

-- Two titles before one cell are one.
pub back_one : (m : Memory) (q k r j : ℕ) → Back m q k → Back m r j → q + k ≡ r + j → q ≡ r
back_one m q k r j b c e =
    elim (ℕ_discrete q r) [
      | yes x ↦ x
      | no n ↦ elim (dec_lt q r) [ yes l ↦ absurd (c.title (b.passed r l (omega arith))) | no l ↦ absurd (b.title (c.passed q (omega arith) (omega arith))) ]
    ]

either : (i n : ℕ) → Dec (i ≡ n) → ℕ → ℕ → ℕ
either i n (yes e) x y = x
either i n (no d) x y = y

module _ (m : Memory) (ts : List ℕ) (ws : List ℕ) (n : ℕ) (o : Memory) (a : Queue m ts ws n o) where
  -- A title that is not marked is as it was, and is not in the queue.
  pub unmarked : (q : ℕ) → In q ts → IsBare o q → (((i : ℕ) → i < n → get_or ws i 0 ≢ q) × (o.descriptor q ≡ m.descriptor q))
  unmarked q h z =
      elim (a.states q) [
        | still ne d ch ↦ (ne, d)
        | marked i d ↦ absurd ((flags_of _ (a.ground.titled q h).flag).set (subst (λ (x : Descriptor). bit_and x.flags 8 ≡ 0) d z))
      ]

  -- A title that is marked is in the queue.
  pub queued : (q : ℕ) → In q ts → IsMarked o q → Queued ws n q
  queued q h z =
      elim (a.states q) [
        | still ne d ch ↦ absurd (z (rw d (flags_of _ (a.ground.titled q h).flag).clear))
        | marked i d ↦ i
      ]

  title_below : (q : ℕ) → In q ts → q < m.figures.cells
  title_below q h = let w = (a.ground.titled q h).within in omega arith

  pub below_now : (q : ℕ) → In q ts → q < o.figures.cells
  below_now q h = let e = ap (λ (f : Figures). f.cells) a.figures in let l = title_below q h in omega arith

  -- The marked title can be written.
  pub fits_mark : (q : ℕ) (d : Descriptor) → In q ts → d ≡ o.descriptor q → bit_and d.flags 8 ≡ 0 → bit_or d.flags 8 ≤ 31
  fits_mark q d h e z =
      let u = e ∙ (unmarked q h (subst (λ (x : Descriptor). bit_and x.flags 8 ≡ 0) e z)).1 in
      rw u (flags_of _ (a.ground.titled q h).flag).small

  -- There is room for one more.
  pub room_left : (q : ℕ) → In q ts → ((i : ℕ) → i < n → get_or ws i 0 ≢ q) → n < length ws
  unfolding either
  room_left q h ne =
      let le = pigeons m.figures.cells (suc n) (λ i. either i n (ℕ_discrete i n) q (get_or ws i 0))
      (λ i l. below i l (ℕ_discrete i n))
      (λ i j l k. far i j l k (ℕ_discrete i n) (ℕ_discrete j n)) in
      let r = a.room in omega arith
    where
      below : (i : ℕ) → i < suc n → (s : Dec (i ≡ n)) → either i n s q (get_or ws i 0) < m.figures.cells
      below i l (yes e) = title_below q h
      below i l (no d) = title_below (get_or ws i 0) (a.titles i (omega arith))

      far : (i j : ℕ) → i < j → j < suc n → (s : Dec (i ≡ n)) (t : Dec (j ≡ n)) → either i n s q (get_or ws i 0) ≢ either j n t q (get_or ws j 0)
      far i j l k (yes e) t = absurd (omega arith)
      far i j l k (no d) (yes e) = ne i (omega arith)
      far i j l k (no d) (no f) = a.apart i j l (omega arith)

  pub added_new : (q : ℕ) (o' : Memory) → In q ts → IsBare o q → n < length ws → WroteDescriptor o q (with_mark (o.descriptor q)) o' →
      Added m ts ws n q (set ws n q) (n + 1) o'
  added_new q o' h z r w =
      record {
        queue = record {
          ground = a.ground;
          room = rw (length-set ws n q) a.room;
          figures = w.figures ∙ a.figures;
          states = λ c. elim (ℕ_discrete c q) [
            | yes e ↦ marked (n, omega arith, new ∙ sym e) (rw e (w.here ∙ ap with_mark u.1))
            | no d ↦ elim (a.states c) [
              | still ne dd ch ↦ still (λ i l. elim (ℕ_discrete i n) [ yes e ↦ λ x. d (sym x ∙ rw e new) | no f ↦ λ x. ne i (omega arith) (sym (old i f) ∙ x) ]) (w.descriptors c d ∙ dd) (λ j. w.characters c j d ∙ ch j)
              | marked i dd ↦ marked (i.0, (let k = i.1 in omega arith), old i.0 (let k = i.1 in omega arith) ∙ i.2) (w.descriptors c d ∙ dd)
            ]
          ];
          titles = λ i l. elim (ℕ_discrete i n) [ yes e ↦ rw (e, new) h | no f ↦ rw (old i f) (a.titles i (omega arith)) ];
          apart = λ i j l k. elim (ℕ_discrete j n) [
            | yes e ↦ λ x. u.0 i (omega arith) (sym (old i (omega arith)) ∙ x ∙ rw e new)
            | no f ↦ λ x. a.apart i j l (omega arith) (sym (old i (omega arith)) ∙ x ∙ old j f)
          ];
        };
        grew = record { more = omega arith; kept = λ i l. old i (omega arith) };
        here = (n, omega arith, new);
        new = λ i k l. let e : i ≡ n = omega arith in rw e new;
      }
    where
      new : get_or (set ws n q) n 0 ≡ q
      new = get_or-set_same ws n q 0 r

      old : (i : ℕ) → i ≢ n → get_or (set ws n q) i 0 ≡ get_or ws i 0
      old i d = get_or-set_other ws n i q 0 d

      u : ((i : ℕ) → i < n → get_or ws i 0 ≢ q) × (o.descriptor q ≡ m.descriptor q)
      u = unmarked q h z

  -- The title before a cell that a pointer holds is found in spite of the marks.
  pub back_now : (d : Descriptor) (q : ℕ) (p : Aims m ts d q) → Back o q p.distance
  back_now d q p =
      record {
        title = elim (a.states q) [
          | still ne e ch ↦ rw e f.title
          | marked i e ↦ rw e f.title_still
        ];
        passed = λ j l k. elim (a.states j) [
          | still ne e ch ↦ rw e (clear j l k)
          | marked i e ↦ absurd (⊎_elim (λ x. no_title j l k (inl x)) (λ x. no_title j l k (inr x)) (a.ground.titled j (rw i.2 at (a.titles i.0 i.1))).flag)
        ];
      }
    where
      f : Flags (m.descriptor q).flags
      f = flags_of _ (a.ground.titled q p.title).flag

      field : (j : ℕ) → q < j → j ≤ q + p.distance → Valued m ts (m.descriptor j)
      field j l k =
          let i : ℕ = j - (q + 1) in
          let e : q + 1 + i ≡ j = omega arith in
          let h : i < count (m.descriptor q) = (let n = p.near in omega arith) in
          rw e at (a.ground.valued q i p.title h)

      flags_are : (x : Descriptor) → Valued m ts x → (x.flags ≡ 0) ⊎ (x.flags ≡ 16)
      flags_are x (plain e) = inl e
      flags_are x (pointer r b) = inr b.flag

      clear : (j : ℕ) → q < j → j ≤ q + p.distance → bit_and (m.descriptor j).flags 2 ≡ 0
      clear j l k = ⊎_elim (λ e. rw e refl) (λ e. rw e refl) (flags_are _ (field j l k))

      no_title : (j : ℕ) → q < j → j ≤ q + p.distance → (((m.descriptor j).flags ≡ 2) ⊎ ((m.descriptor j).flags ≡ 6)) → ⊥
      no_title j l k t = (flags_of _ t).title (clear j l k)

  -- A pointer has one title.
  pub one_title : (d : Descriptor) (q r : ℕ) → Aims m ts d q → Aims m ts d r → q ≡ r
  one_title d q r p s = back_one o q p.distance r s.distance (back_now d q p) (back_now d r s) (pos_inj _ _ (sym p.value ∙ s.value))

  pub visited_one : (d : Descriptor) (q t : ℕ) (ws' : List ℕ) (n' : ℕ) (o' : Memory) → Aims m ts d q → t ≡ q → Added m ts ws n t ws' n' o' → Visited m ts ws n d ws' n' o'
  visited_one d q t ws' n' o' p e v =
      record {
        queue = v.queue;
        grew = v.grew;
        here = λ r s. rw (one_title d r q s p, ← e) v.here;
        new = λ i k l. rw (v.new i k l, e) p;
      }

  pub aim_below : (d : Descriptor) (q : ℕ) (p : Aims m ts d q) → q + p.distance < o.figures.cells
  aim_below d q p =
      let e = ap (λ (f : Figures). f.cells) a.figures in
      let w = (a.ground.titled q p.title).within in let n = p.near in omega arith

  -- The queue fits the list.
  pub few_titles : n ≤ m.figures.cells
  few_titles = pigeons m.figures.cells n (λ i. get_or ws i 0) (λ i l. title_below (get_or ws i 0) (a.titles i l)) a.apart

  pub tail_fits : n ≤ length ws
  tail_fits = let f = few_titles in let r = a.room in omega arith
