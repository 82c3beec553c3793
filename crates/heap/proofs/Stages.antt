-- How one stage of regeneration leads to the next.
use Rattle.std.proofs.Common.{◌≡◌, ℕ, ◌+◌, ◌<◌, ◌≤◌, ◌⊎◌, List, length, get_or, pos, sym, refl, ap, ◌∙◌, inl, ⊎_elim, arith}
use lib.Bits.{bit_and, bit_or}
use Rattle.cells.specs.declared.Descriptor.{Descriptor}
use Rattle.cells.specs.Meaning.{Memory}
use Rattle.rules.specs.Lists.{In}
use Rattle.rules.specs.Model.{string_fields}
use Rattle.rules.specs.Arena.{desc}
use Rattle.rules.proofs.Coded.{pos_inj}
use Rattle.arena.specs.Titles.{count, with_mark, retitled}
use Rattle.heap.specs.Marks.{IsMarked, Aims, Valued, plain, pointer, Queued, still, marked, Queue, along, Marked}
use Rattle.heap.specs.Walks.{length_at, Tiled, To, begin, keep, skip, Tabled, Packed, Forwarded, fixed, moved, Renewed}
use Rattle.heap.specs.Moves.{Ready, Goes, value_goes, pointer_goes, Relocated, Prepared}
use Rattle.heap.specs.Moves as moves
use Rattle.heap.proofs.Queues.{flags_of, unmarked, queued, back_now, aim_below, back_one}
use Rattle.heap.proofs.Scans.{field_now}
use Rattle.heap.proofs.Paths.{to_low, positive}
use Rattle.heap.specs.Threads.{Rethreaded}
use Rattle.heap.proofs.Values.{count_below}
use Rattle.heap.proofs.Chains.{string_long}

clear_mark : (f : ℕ) → ((f ≡ 2) ⊎ (f ≡ 6)) → bit_and (bit_or f 8) 6 ≡ f
clear_mark f h = ⊎_elim (λ e. rw e refl) (λ e. rw e refl) h

-- Tiles are told by their titles alone.
tiled_same : (o r : Memory) (ts : List ℕ) (bins end : ℕ) → r.figures ≡ o.figures → ((p : ℕ) → In p ts → (length_at r p ≡ length_at o p) × ((r.descriptor p).kind ≡ (o.descriptor p).kind)) → Tiled o ts bins end → Tiled r ts bins end
tiled_same o r ts bins end fg tt' a =
    record {
      start = a.start;
      step = λ p h. rw (tt' p h).0 (a.step p h);
      gap = λ p q h k l. rw (tt' p h).0 (a.gap p q h k l);
      low = a.low;
      high = λ p h. rw (tt' p h).0 (a.high p h);
      some = λ p h. rw (tt' p h).1 (a.some p h);
      few = λ p h. rw (tt' p h).1 (a.few p h);
      within = rw fg a.within;
      places = rw fg a.places;
    }

pub tiled_titles : (o r : Memory) (ts : List ℕ) (bins end : ℕ) → r.figures ≡ o.figures → ((p : ℕ) → In p ts → r.descriptor p ≡ o.descriptor p) → Tiled o ts bins end → Tiled r ts bins end
tiled_titles o r ts bins end f d = tiled_same o r ts bins end f (λ p h. (rw (d p h, f) refl, ap (λ (x : Descriptor). x.kind) (d p h)))

pub to_same : (o r : Memory) (ts : List ℕ) (bins : ℕ) → r.figures ≡ o.figures → ((p : ℕ) → In p ts → r.descriptor p ≡ o.descriptor p) → (p t : ℕ) → To o ts bins p t → To r ts bins p t
to_same o r ts bins fg tt' p t (begin e f) = begin e f
to_same o r ts bins fg tt' p t (keep q u g h m e f) = keep q u (to_same o r ts bins fg tt' q u g) h (rw (tt' q h) m) (rw (tt' q h, fg) e) (rw (tt' q h, fg) f)
to_same o r ts bins fg tt' p t (skip q g h m e) = skip q (to_same o r ts bins fg tt' q t g) h (rw (tt' q h) m) (rw (tt' q h, fg) e)

module _ (m : Memory) (ts : List ℕ) (ws₀ : List ℕ) (n₀ : ℕ) (ws : List ℕ) (n : ℕ) (o : Memory) (mk : Marked m ts ws₀ n₀ ws n o) where
  a : Queue m ts ws n o
  a = mk.queue

  -- A title that is queued carries the mark.
  pub mark_of : (q : ℕ) → In q ts → Queued ws n q → IsMarked o q
  mark_of q h i z = (unmarked m ts ws n o a q h z).0 i.0 i.1 i.2

  pub marked_desc : (q : ℕ) → In q ts → IsMarked o q → o.descriptor q ≡ with_mark (m.descriptor q)
  marked_desc q h z =
      elim (a.states q) [
        | still ne d ch ↦ absurd (z (rw d (flags_of _ (a.ground.titled q h).flag).clear))
        | marked i d ↦ d
      ]

  -- What a marked block's field points at is marked.
  pub closed : (p k q : ℕ) → In p ts → IsMarked o p → k < count (m.descriptor p) → Aims m ts (m.descriptor (p + 1 + k)) q → IsMarked o q
  closed p k q h z l b = mark_of q b.title (mk.exact q (along k (mk.only p (queued m ts ws n o a p h z)) l b))

  -- A title has the same length with its mark and without.
  pub length_same : (p : ℕ) → In p ts → (length_at o p ≡ length_at m p) × ((o.descriptor p).kind ≡ (m.descriptor p).kind)
  length_same p h =
      elim (a.states p) [
        | still ne d ch ↦ (rw (d, a.figures) refl, ap (λ (x : Descriptor). x.kind) d)
        | marked i d ↦ (rw (d, a.figures, (flags_of _ (a.ground.titled p h).flag).alike) refl, ap (λ (x : Descriptor). x.kind) d)
      ]

  -- And is a string's or a block's.
  pub four_same : (p : ℕ) → In p ts → bit_and (o.descriptor p).flags 4 ≡ bit_and (m.descriptor p).flags 4
  four_same p h =
      elim (a.states p) [
        | still ne d ch ↦ ap (λ (x : Descriptor). bit_and x.flags 4) d
        | marked i d ↦ ap (λ (x : Descriptor). bit_and x.flags 4) d ∙ (flags_of _ (a.ground.titled p h).flag).alike
      ]

  count_same : (p : ℕ) → In p ts → count (o.descriptor p) ≡ count (m.descriptor p)
  count_same p h =
      elim (a.states p) [
        | still ne d ch ↦ ap count d
        | marked i d ↦ rw (d, (flags_of _ (a.ground.titled p h).flag).alike) refl
      ]

  pub tiled_marked : (bins end : ℕ) → Tiled m ts bins end → Tiled o ts bins end
  tiled_marked bins end t = tiled_same m o ts bins end a.figures length_same t

  module _ (bins end t : ℕ) (tm : Tiled m ts bins end) (tb : List ℕ) (long : m.figures.cells ≤ length tb) (tab : Tabled o ts bins end end t tb) where
    to : Tiled o ts bins end
    to = tiled_marked bins end tm

    goes_at : (q : ℕ) → In q ts → IsMarked o q → To o ts bins q (get_or tb q 0)
    goes_at q h z = tab.table q h (let x = tm.high q h in let y = (a.ground.titled q h).within in let p = positive m ts bins end tm q in omega arith) z

    -- A value of the old memory can be moved if what it points at is marked.
    pub ready_of : (d : Descriptor) → Valued m ts d → ((q : ℕ) → Aims m ts d q → IsMarked o q) → Ready o tb d
    ready_of d (plain e) cl = moves.value e
    ready_of d (pointer r b) cl =
        moves.pointer r b.distance (record {
          flag = b.flag;
          value = b.value;
          within = aim_below m ts ws n o a _ r b;
          back = back_now m ts ws n o a _ r b;
          listed = (let w = (a.ground.titled r b.title).within in omega arith);
          small = (let g = (to_low o ts bins end to r _ (goes_at r b.title (cl r b))).1 in
              let w = (a.ground.titled r b.title).within in let f = a.ground.sound.few in let x = b.near in omega arith);
        })

    pub prepared : Prepared o ts tb
    prepared =
        record {
          ready = λ q k h z l. (let l' : k < count (m.descriptor q) = rw (← (count_same q h)) l in
              rw (field_now m ts ws n o a q k h l') (ready_of _ (a.ground.valued q k h l') (λ v b. closed q k v h z l' b)));
        }

    pub forwarded : (d d' : Descriptor) → Valued m ts d → ((q : ℕ) → Aims m ts d q → IsMarked o q) → Goes o tb d d' → Forwarded m o ts bins d d'
    forwarded d d' (plain z) cl (value_goes z' e) = fixed z e
    forwarded d d' (plain z) cl (pointer_goes q k h e) = absurd (let y = h.flag in omega arith)
    forwarded d d' (pointer r b) cl (value_goes z' e) = absurd (let y = b.flag in omega arith)
    forwarded d d' (pointer r b) cl (pointer_goes q k h e) =
        let x : q + k ≡ r + b.distance = pos_inj _ _ (sym h.value ∙ b.value) in
        let y = back_one o q k r b.distance h.back (back_now m ts ws n o a d r b) x in
        let w : get_or tb q 0 ≡ get_or tb r 0 = ap (λ (i : ℕ). get_or tb i 0) y in
        let v : get_or tb q 0 + k ≡ get_or tb r 0 + b.distance = omega arith in
        moved r (get_or tb r 0) b (goes_at r b.title (cl r b)) (e ∙ ap (λ (i : ℕ). desc (pos i) 16 d.kind) v)

    -- The new cell of a marked title is in the table.
    pub table_fits : (q : ℕ) → In q ts → IsMarked o q → (q < length tb) × (get_or tb q 0 ≤ 65535) × To o ts bins q (get_or tb q 0)
    table_fits q h z =
        let w = (a.ground.titled q h).within in let f = a.ground.sound.few in let g = goes_at q h z in let l = (to_low o ts bins end to q _ g).1 in
        (omega arith, omega arith, g)

    -- The cells of a string after its fields are as they were before marking.
    pub link_now : (r : Memory) → Relocated o ts tb bins end end r → (q k : ℕ) → In q ts → count (m.descriptor q) < k → k < length_at m q → r.descriptor (q + k) ≡ m.descriptor (q + k)
    link_now r rl q k h l1 l2 =
        rl.links q k h (rw (count_same q h) l1) (rw (length_same q h).0 l2)
        ∙ elim (a.states (q + k)) [
          | still ne d ch ↦ d
          | marked i d ↦ absurd (let x = tm.gap q (q + k) h (rw i.2 at (a.titles i.0 i.1)) (omega arith) in omega arith)
        ]

    module _ (r v f : Memory) (link head : ℕ → Descriptor) (rl : Relocated o ts tb bins end end r) (rt : Rethreaded r ts bins link head v) (pk : Packed v ts bins end f) where
      titles_v : (q : ℕ) → In q ts → v.descriptor q ≡ o.descriptor q
      titles_v q h = rt.titles q h ∙ rl.titles q h

      to_v : (q u : ℕ) → To o ts bins q u → To v ts bins q u
      to_v q u g = to_same o v ts bins (rt.figures ∙ rl.figures) titles_v q u g

      below : (q : ℕ) → In q ts → q < end
      below q h = let x = tm.high q h in let p = positive m ts bins end tm q in omega arith

      length_r : (q : ℕ) → In q ts → length_at r q ≡ length_at o q
      length_r q h = rw (rl.titles q h, rl.figures) refl

      length_v : (q : ℕ) → In q ts → length_at v q ≡ length_at o q
      length_v q h = rw (titles_v q h, rt.figures ∙ rl.figures) refl

      mark_v : (q : ℕ) → In q ts → IsMarked o q → IsMarked v q
      mark_v q h z = rw (titles_v q h) z

      count_r : (q : ℕ) → In q ts → count (r.descriptor q) ≡ count (m.descriptor q)
      count_r q h = ap count (rl.titles q h) ∙ count_same q h

      pub renewed : Renewed m o ts bins link head f
      renewed =
          record {
            figures = pk.figures ∙ rt.figures ∙ rl.figures ∙ a.figures;
            titles = λ q u h z g.
                pk.titles q u h (below q h) (mark_v q h z) (to_v q u g)
                ∙ ap (λ (d : Descriptor). retitled d u) (titles_v q h ∙ marked_desc q h z)
                ∙ ap (λ (i : ℕ). desc (pos u) i (m.descriptor q).kind) (clear_mark _ (a.ground.titled q h).flag);
            fields = λ q u k h z g l.
                (let l' : k < count (o.descriptor q) = rw (count_same q h) l in
                let l'' : k < count (r.descriptor q) = rw (count_r q h) l in
                let e = pk.descriptors q u (k + 1) h (below q h) (mark_v q h z) (to_v q u g) (omega arith)
                (let x = count_below o.figures.places (o.descriptor q) in let y = length_v q h in omega arith) in
                let i : u + (k + 1) ≡ u + 1 + k = omega arith in
                let j : q + (k + 1) ≡ q + 1 + k = omega arith in
                let e' : f.descriptor (u + 1 + k) ≡ r.descriptor (q + 1 + k) = ap (λ (c : ℕ). f.descriptor c) (sym i) ∙ e ∙ ap (λ (c : ℕ). v.descriptor c) j ∙ rt.fields q k h l'' in
                let go = rl.done q k h (below q h) z l' in
                let go' = rw (field_now m ts ws n o a q k h l) at go in
                rw e' (forwarded _ _ (a.ground.valued q k h l) (λ v b. closed q k v h z l b) go'));
            links = λ q u h z st g.
                (let e = pk.descriptors q u (1 + string_fields) h (below q h) (mark_v q h z) (to_v q u g) (omega arith)
                (let x = string_long o.figures.places (o.descriptor q) st in let y = length_v q h in omega arith) in
                let i : u + (1 + string_fields) ≡ u + 1 + string_fields = omega arith in
                let j : q + (1 + string_fields) ≡ q + 1 + string_fields = omega arith in
                ap (λ (c : ℕ). f.descriptor c) (sym i) ∙ e ∙ ap (λ (c : ℕ). v.descriptor c) j
                ∙ rt.links q (h, rw (rl.titles q h) z, rw (rl.titles q h) st));
            heads = λ b l. pk.rest b (inl l) ∙ rt.heads b l;
            characters = λ q u k j h z g l1 l2.
                pk.characters q u k j h (below q h) (mark_v q h z) (to_v q u g) (omega arith) (rw (length_v q h) l2)
                ∙ rt.tails q k j h (rw (count_r q h) l1) (rw (length_r q h) l2)
                ∙ rl.tails q k j h (three q h k (omega arith)) l2
                ∙ inside q k j h (omega arith) l2;
          }
        where
          three : (q : ℕ) → In q ts → (k : ℕ) → count (m.descriptor q) < k → count (o.descriptor q) < k
          three q h k l = rw (count_same q h) l

          inside : (q k j : ℕ) → In q ts → 1 ≤ k → k < length_at o q → o.character (q + k) j ≡ m.character (q + k) j
          inside q k j h l1 l2 =
              elim (a.states (q + k)) [
                | still ne d ch ↦ ch j
                | marked i d ↦ absurd (let x = to.gap q (q + k) h (rw i.2 at (a.titles i.0 i.1)) (omega arith) in omega arith)
              ]
