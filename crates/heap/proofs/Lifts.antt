-- From a memory that shows a model to the facts on cells that marking needs, and back.
use Rattle.std.proofs.Common.{◌≡◌, ℕ, ◌+◌, ◌-◌, ◌<◌, ◌≤◌, ◌≢◌, ◌⊎◌, List, length, get_or, replicate, pos, refl, ap, ◌∙◌, inl, inr, arith}
use lib.ListN.{length-replicate}
use Rattle.cells.specs.declared.Descriptor.{Descriptor}
use Rattle.cells.specs.Meaning.{Memory, Sound}
use Rattle.rules.specs.Model.{Thing, block, string, Value, null, Model, register, string_fields, fields, size, Points, Reach, from_register, from_string, from_field}
use Rattle.rules.specs.Arena.{null_desc, Coded, as_null, as_number, as_text, as_block, as_name, Arena, title, Proper, Shows, At, Codes, titles_of}
use Rattle.rules.proofs.Lies.{in_lies, lies_end, lies_place, place_lies}
use Rattle.rules.proofs.Coded.{fields_size}
use Rattle.arena.specs.Titles.{count}
use Rattle.heap.specs.Marks.{Aims, Valued, plain, pointer, Titled, Ground, still, Queue, Reached, root, along, Root, by_register, by_value, Rooted}
use Rattle.heap.proofs.Queues.{one_title}

count_title : (m : Model) (x : Thing) (p : ℕ) → count (title m x p) ≡ fields m x
count_title m (block i) p = refl
count_title m (string t) p = refl

flags_title : (m : Model) (x : Thing) (p : ℕ) → ((title m x p).flags ≡ 2) ⊎ ((title m x p).flags ≡ 6)
flags_title m (block i) p = inl refl
flags_title m (string t) p = inr refl

pub coded_null : (s : Thing → ℕ) (a : ℕ) (xs : List Thing) (v : Value) (d : Descriptor) → Coded s a xs v d → v ≡ null → d ≡ null_desc
coded_null s a xs v d as_null e = refl
coded_null s a xs v d (as_number {z = z}) e = absurd (let y : ◌≡◌ {A = ℕ} 0 1 = cc in omega arith)
coded_null s a xs v d (as_text l) e = absurd (let y : ◌≡◌ {A = ℕ} 0 1 = cc in omega arith)
coded_null s a xs v d (as_block l) e = absurd (let y : ◌≡◌ {A = ℕ} 0 1 = cc in omega arith)
coded_null s a xs v d (as_name l) e = absurd (let y : ◌≡◌ {A = ℕ} 0 1 = cc in omega arith)

-- A descriptor that is null's codes null alone.
null_coded : (s : Thing → ℕ) (a : ℕ) (xs : List Thing) (v : Value) (d : Descriptor) → Coded s a xs v d → d ≡ null_desc → v ≡ null
null_coded s a xs v d as_null e = refl
null_coded s a xs v d (as_number {z = z}) e = absurd (let y : ◌≡◌ {A = ℕ} 6 1 = ap (λ (x : Descriptor). x.kind) e in omega arith)
null_coded s a xs v d (as_text l) e = absurd (let y : ◌≡◌ {A = ℕ} 16 0 = ap (λ (x : Descriptor). x.flags) e in omega arith)
null_coded s a xs v d (as_block l) e = absurd (let y : ◌≡◌ {A = ℕ} 16 0 = ap (λ (x : Descriptor). x.flags) e in omega arith)
null_coded s a xs v d (as_name l) e = absurd (let y : ◌≡◌ {A = ℕ} 16 0 = ap (λ (x : Descriptor). x.flags) e in omega arith)

module _ (m : Model) (a : Arena) (o : Memory) (snd : Sound o) (sh : Shows m a o) where
  abbrev sz : Thing → ℕ
  sz = size o.figures.places m

  pub count_at : (x : Thing) (p : ℕ) → At m a o x p → count (o.descriptor p) ≡ fields m x
  count_at x p l = ap count (sh.laid.titled x p l) ∙ count_title m x p

  titled_at : (x : Thing) (p : ℕ) → At m a o x p → Titled o p
  titled_at x p l =
      let e = sh.laid.titled x p l in
      record {
        flag = rw e (flags_title m x p);
        within = (let c = count_at x p l in let w = lies_end sz l in let z = fields_size o.figures.places m x in
            let e = sh.laid.end in let u = sh.laid.within in omega arith);
      }

  -- A value's descriptor points where the value points.
  pub aims : (v : Value) (d : Descriptor) → Codes m a o v d → Proper m v → (x : Thing) → Points v x → (p : ℕ) × At m a o x p × Aims o (titles_of m a o) d p
  aims v d as_null q x pt = absurd pt
  aims v d as_number q x pt = absurd pt
  aims v d (as_text {t = t} {p = p} l) q x pt =
      (p, rw pt l, record { flag = refl; title = lies_place sz _ _ (string t) p l; distance = 0; near = omega arith; value = ap pos (omega arith) })
  aims v d (as_block {i = i} {p = p} l) q x pt =
      (p, rw pt l, record { flag = refl; title = lies_place sz _ _ (block i) p l; distance = 0; near = omega arith; value = ap pos (omega arith) })
  aims v d (as_name {x = y} {k = k} {p = p} l) q x pt =
      (p, rw pt l, record { flag = refl; title = lies_place sz _ _ y p l; distance = k; near = (let c = count_at y p l in let h = q.1 in omega arith); value = refl })

  pub valued_as : (v : Value) (d : Descriptor) → Codes m a o v d → Proper m v → Valued o (titles_of m a o) d
  valued_as v d as_null q = plain refl
  valued_as v d as_number q = plain refl
  valued_as v d (as_text {t = t} l) q = let w = aims v d (as_text l) q (string t) refl in pointer w.0 w.2
  valued_as v d (as_block {i = i} l) q = let w = aims v d (as_block l) q (block i) refl in pointer w.0 w.2
  valued_as v d (as_name {x = x} l) q = let w = aims v d (as_name l) q x refl in pointer w.0 w.2

  pub field_at : (x : Thing) (p j : ℕ) → At m a o x p → j < count (o.descriptor p) →
      (j + 1 ≤ fields m x) × Codes m a o (m.field x (j + 1)) (o.descriptor (p + 1 + j)) × Proper m (m.field x (j + 1))
  field_at x p j l h =
      let c = count_at x p l in
      let f : j + 1 ≤ fields m x = omega arith in
      let e : p + (j + 1) ≡ p + 1 + j = omega arith in
      (f, rw e at (sh.laid.coded x p (j + 1) l (omega arith) f), sh.lawful.good.held x (j + 1))

  pub ground : Ground o (titles_of m a o)
  ground =
      record {
        sound = snd;
        titled = λ p h. let w = place_lies sz _ _ p h in titled_at w.0 p w.1;
        valued = λ p k h l. let w = place_lies sz _ _ p h in let f = field_at w.0 p k w.1 l in valued_as _ _ f.1 f.2;
      }

  pub none_marked : Queue o (titles_of m a o) (replicate o.figures.cells 0) 0 o
  none_marked =
      record {
        ground = ground;
        room = rw (length-replicate {A = ℕ} o.figures.cells 0) (omega arith);
        figures = refl;
        states = λ c. still (λ i l. absurd (omega arith)) refl (λ j. refl);
        titles = λ i l. absurd (omega arith);
        apart = λ i j l k. absurd (omega arith);
      }

  -- What a value's descriptor points at is a thing that the value points at.
  aims_back : (v : Value) (d : Descriptor) → Codes m a o v d → Proper m v → (q : ℕ) → Aims o (titles_of m a o) d q → (x : Thing) × At m a o x q × Points v x
  aims_back v d as_null pr q b = absurd (let e = b.flag in omega arith)
  aims_back v d as_number pr q b = absurd (let e = b.flag in omega arith)
  aims_back v d (as_text {t = t} l) pr q b =
      let w = aims v d (as_text l) pr (string t) refl in
      (string t, rw (one_title o (titles_of m a o) _ _ _ none_marked d _ _ w.2 b) at w.1, refl)
  aims_back v d (as_block {i = i} l) pr q b =
      let w = aims v d (as_block l) pr (block i) refl in
      (block i, rw (one_title o (titles_of m a o) _ _ _ none_marked d _ _ w.2 b) at w.1, refl)
  aims_back v d (as_name {x = x} l) pr q b =
      let w = aims v d (as_name l) pr x refl in
      (x, rw (one_title o (titles_of m a o) _ _ _ none_marked d _ _ w.2 b) at w.1, refl)

  module _ (rs : List Descriptor) (same_length : length rs ≡ length m.registers)
      (regs : (r : ℕ) → r < length m.registers → Codes m a o (register m r) (get_or rs r null_desc))
      (ws : List ℕ) (n : ℕ) (ro : Rooted o (titles_of m a o) rs ws n) where
    -- Every reachable thing lies in the arena, and its title is reached.
    pub reach_down : (x : Thing) → Reach m x → (p : ℕ) × At m a o x p × Reached o (titles_of m a o) ws n p
    reach_down x (from_register r h pt) =
        let w = aims _ _ (regs r h) (sh.lawful.good.registers r) x pt in
        (w.0, w.1, root (ro.exact w.0 (by_register r (rw same_length h) w.2)))
    reach_down x (from_string {t = t} k k1 k2 nn) =
        let w = in_lies sz a.bins (string t) a.order (sh.lawful.valued t k k1 k2 nn) in
        let f = field_at (string t) w.0 (k - 1) w.1 (let c = count_at (string t) w.0 w.1 in omega arith) in
        let e : k - 1 + 1 ≡ k = omega arith in (
          w.0,
          w.1,
          root (ro.exact w.0 (by_value (k - 1) (lies_place sz _ _ (string t) w.0 w.1)
              (ap (λ (d : Descriptor). d.flags) (sh.laid.titled (string t) w.0 w.1)) (omega arith)
              (λ z. nn (rw (← e) (null_coded sz _ _ _ _ f.1 z))))),
        )
    reach_down y (from_field {x = x} k r k1 k2 pt) = from x k (reach_down x r) k1 k2 y pt
      where
        from : (x : Thing) (k : ℕ) → ((p : ℕ) × At m a o x p × Reached o (titles_of m a o) ws n p) → 1 ≤ k → k ≤ fields m x → (y : Thing) → Points (m.field x k) y → (p : ℕ) × At m a o y p × Reached o (titles_of m a o) ws n p
        from x k (p, l, re) k1 k2 y pt =
            let c = count_at x p l in
            let j : k - 1 < count (o.descriptor p) = omega arith in
            let e : k - 1 + 1 ≡ k = omega arith in
            let f = field_at x p (k - 1) l j in
            let w = aims _ _ f.1 f.2 y (rw e pt) in
            (w.0, w.1, along (k - 1) re j w.2)

    -- And every title that is reached is that of a reachable thing.
    pub reach_up : (q : ℕ) → Reached o (titles_of m a o) ws n q → (x : Thing) × At m a o x q × Reach m x
    reach_up q (root i) = start q (ro.only q i)
      where
        string_of : (x : Thing) (q k : ℕ) → At m a o x q → (o.descriptor q).flags ≡ 6 → k < string_fields → o.descriptor (q + 1 + k) ≢ null_desc → Reach m x
        string_of (block i) q k l f h nn = absurd (let e = ap (λ (d : Descriptor). d.flags) (sh.laid.titled (block i) q l) in omega arith)
        string_of (string t) q k l f h nn =
            let w = field_at (string t) q k l (let c = count_at (string t) q l in omega arith) in
            from_string (k + 1) (omega arith) (omega arith) (λ z. nn (coded_null sz _ _ _ _ w.1 z))

        start : (q : ℕ) → Root o (titles_of m a o) rs q → (x : Thing) × At m a o x q × Reach m x
        start q (by_register r h b) =
            let h' : r < length m.registers = omega arith in
            let w = aims_back _ _ (regs r h') (sh.lawful.good.registers r) q b in
            (w.0, w.1, from_register r h' w.2)
        start q (by_value k h f l nn) =
            let w = place_lies sz _ _ q h in
            (w.0, w.1, string_of w.0 q k w.1 f l nn)
    reach_up q (along {p = p} j r h b) = next (reach_up p r) h b
      where
        next : ((x : Thing) × At m a o x p × Reach m x) → j < count (o.descriptor p) → Aims o (titles_of m a o) (o.descriptor (p + 1 + j)) q → (x : Thing) × At m a o x q × Reach m x
        next (x, l, re) h b =
            let f = field_at x p j l h in
            let w = aims_back _ _ f.1 f.2 q b in
            (w.0, w.1, from_field (j + 1) re (omega arith) f.0 w.2)
