-- After regeneration the memory shows the same model, with the things that are kept.
use Rattle.std.proofs.Common.{◌≡◌, ℕ, ◌+◌, ◌-◌, ◌/◌, ◌%◌, ◌<◌, ◌≤◌, Bool, true, false, eqb, ◌⊎◌, List, [], ◌∷◌, length, pos, sym, refl, ap, ◌∙◌, subst, inl, inr, ⊎_elim, div-lt_iff_lt-mul, add-mul, arith, eqb-true}
use native.Mathlib.Nat.{lt-div-mul-add}
use lib.Bits.{bit_and}
use borrow.Author.Tests.{eqb-false}
use Rattle.cells.specs.declared.Descriptor.{Descriptor}
use Rattle.cells.specs.Meaning.{Memory, Figures, Sound}
use Rattle.rules.specs.Model.{Text, Thing, block, string, Value, Model, fields, string_fields, string_cells, size, Points, Reach, from_field}
use Rattle.rules.specs.Lists.{In, total, Keeps, end, keep, leave}
use Rattle.rules.specs.Arena.{Lies, here, later, desc, Coded, as_null, as_number, as_text, as_block, as_name, Arena, title, Proper, Laid, Spelled, Shows, At, Codes, titles_of}
use Rattle.rules.proofs.Coded.{pos_inj}
use Rattle.rules.proofs.Lies.{lies_place}
use Rattle.arena.specs.Titles.{count}
use Rattle.heap.specs.Marks.{IsMarked, IsBare, Aims}
use Rattle.heap.specs.Walks as walks
use Rattle.heap.specs.Walks.{length_at, Tiled, To, begin, skip, Forwarded, fixed, moved, Renewed}
use Rattle.heap.proofs.Queues.{one_title}
use Rattle.heap.proofs.Paths.{to_one, to_low}
use Rattle.heap.proofs.Lifts.{none_marked, field_at, count_at}

-- The things whose title has the mark in o.
abbrev pub kept_if : Bool → Thing → List Thing → List Thing
kept_if true x xs = xs
kept_if false x xs = x ∷ xs

abbrev pub kept : Memory → (Thing → ℕ) → ℕ → List Thing → List Thing
kept o s a [] = []
kept o s a (x ∷ xs) = kept_if (eqb (bit_and (o.descriptor a).flags 8) 0) x (kept o s (a + s x) xs)

data Marks (o : Memory) (p : ℕ) : Bool → Type 0 where
  bare : IsBare o p → Marks o p true
  set : IsMarked o p → Marks o p false

marks_of : (o : Memory) (p : ℕ) → Marks o p (eqb (bit_and (o.descriptor p).flags 8) 0)
marks_of o p = by (eqb (bit_and (o.descriptor p).flags 8) 0) refl
  where
    by : (b : Bool) → eqb (bit_and (o.descriptor p).flags 8) 0 ≡ b → Marks o p b
    by true e = bare (eqb-true _ _ e)
    by false e = set (eqb-false _ _ e)

-- What has the mark is kept, and the rest is left.
pub kept_keeps : (o : Memory) (s : Thing → ℕ) (P : Thing → Type 0) (a : ℕ) (xs : List Thing) →
    ((x : Thing) (p : ℕ) → Lies s a xs x p → IsMarked o p → P x) →
    ((x : Thing) (p : ℕ) → Lies s a xs x p → P x → IsMarked o p) → Keeps P xs (kept o s a xs)
kept_keeps o s P a [] up down = end
kept_keeps o s P a (y ∷ ys) up down = by (eqb (bit_and (o.descriptor a).flags 8) 0) (marks_of o a)
    (kept_keeps o s P (a + s y) ys (λ x p l. up x p (later l)) (λ x p l. down x p (later l)))
  where
    by : (b : Bool) → Marks o a b → Keeps P ys (kept o s (a + s y) ys) → Keeps P (y ∷ ys) (kept_if b y (kept o s (a + s y) ys))
    by true (bare z) k = leave (λ h. down y a here h z) k
    by false (set z) k = keep (up y a here z) k

lies_cons : (s : Thing → ℕ) (t : ℕ) (y : Thing) (ys : List Thing) (x : Thing) (u : ℕ) → Lies s t (y ∷ ys) x u → ((y ≡ x) × (t ≡ u)) ⊎ Lies s (t + s y) ys x u
lies_cons s t y ys x u here = inl (refl, refl)
lies_cons s t y ys x u (later l) = inr l

to_at : (o : Memory) (ts : List ℕ) (bins p t q u : ℕ) → p ≡ q → t ≡ u → To o ts bins p t → To o ts bins q u
to_at o ts bins p t q u e f g = rw (← e, ← f) g

module _ (o : Memory) (ts : List ℕ) (bins : ℕ) (s : Thing → ℕ) where
  -- The walk along the order: where a kept thing goes is where it lies in the kept order.
  pub goes_down : (a t : ℕ) (xs : List Thing) (x : Thing) (p : ℕ) → ((y : Thing) (q : ℕ) → Lies s a xs y q → In q ts × (length_at o q ≡ s y)) →
      To o ts bins a t → Lies s a xs x p → IsMarked o p → (u : ℕ) × To o ts bins p u × Lies s t (kept o s a xs) x u
  goes_down a t [] x p fit go l m = elim l [ ]
  goes_down a t (y ∷ ys) x p fit go here m = by (eqb (bit_and (o.descriptor a).flags 8) 0) (marks_of o a)
    where
      by : (b : Bool) → Marks o a b → (u : ℕ) × To o ts bins a u × Lies s t (kept_if b x (kept o s (a + s x) ys)) x u
      by true (bare z) = absurd (m z)
      by false (set z) = (t, go, here)
  goes_down a t (y ∷ ys) x p fit go (later l) m = by (eqb (bit_and (o.descriptor a).flags 8) 0) (marks_of o a)
      (λ t' go'. goes_down (a + s y) t' ys x p (λ z q k. fit z q (later k)) go' l m)
    where
      by : (b : Bool) → Marks o a b → ((t' : ℕ) → To o ts bins (a + s y) t' → (u : ℕ) × To o ts bins p u × Lies s t' (kept o s (a + s y) ys) x u) →
          (u : ℕ) × To o ts bins p u × Lies s t (kept_if b y (kept o s (a + s y) ys)) x u
      by true (bare z) f = f t (skip a go (fit y a here).0 z (ap (λ n. a + n) (sym (fit y a here).1)))
      by false (set z) f =
          let w = f (t + s y) (walks.keep a t go (fit y a here).0 z (ap (λ n. a + n) (sym (fit y a here).1)) (ap (λ n. t + n) (sym (fit y a here).1))) in
          (w.0, w.1, later w.2)

  -- And nothing else lies there.
  pub comes_up : (a t : ℕ) (xs : List Thing) (x : Thing) (u : ℕ) → ((y : Thing) (q : ℕ) → Lies s a xs y q → In q ts × (length_at o q ≡ s y)) →
      To o ts bins a t → Lies s t (kept o s a xs) x u → (p : ℕ) × Lies s a xs x p × (IsMarked o p) × To o ts bins p u
  comes_up a t [] x u fit go l = elim l [ ]
  comes_up a t (y ∷ ys) x u fit go l = by (eqb (bit_and (o.descriptor a).flags 8) 0) (marks_of o a) l
      (λ t' go' l'. comes_up (a + s y) t' ys x u (λ z q k. fit z q (later k)) go' l')
    where
      rec : Type 0
      rec = (t' : ℕ) → To o ts bins (a + s y) t' → Lies s t' (kept o s (a + s y) ys) x u → (p : ℕ) × Lies s (a + s y) ys x p × (IsMarked o p) × To o ts bins p u

      at_first : (z : IsMarked o a) → Lies s t (y ∷ kept o s (a + s y) ys) x u → rec → (p : ℕ) × Lies s a (y ∷ ys) x p × (IsMarked o p) × To o ts bins p u
      at_first z k f = ⊎_elim
          (λ e. (a, subst (λ (x' : Thing). Lies s a (y ∷ ys) x' a) e.0 here, z, rw e.1 at go))
          (λ k'. let w = f (t + s y) (walks.keep a t go (fit y a here).0 z (ap (λ n. a + n) (sym (fit y a here).1)) (ap (λ n. t + n) (sym (fit y a here).1))) k' in
          (w.0, later w.1, w.2, w.3))
          (lies_cons s t y (kept o s (a + s y) ys) x u k)

      by : (b : Bool) → Marks o a b → Lies s t (kept_if b y (kept o s (a + s y) ys)) x u → rec → (p : ℕ) × Lies s a (y ∷ ys) x p × (IsMarked o p) × To o ts bins p u
      by true (bare z) k f =
          let w = f t (skip a go (fit y a here).0 z (ap (λ n. a + n) (sym (fit y a here).1))) k in (w.0, later w.1, w.2, w.3)
      by false (set z) k f = at_first z k f

  -- The walk's end is the end of the kept order.
  pub ends_at : (a t : ℕ) (xs : List Thing) → ((y : Thing) (q : ℕ) → Lies s a xs y q → In q ts × (length_at o q ≡ s y)) →
      To o ts bins a t → To o ts bins (a + total s xs) (t + total s (kept o s a xs))
  ends_at a t [] fit go = to_at o ts bins a t _ _ (omega arith) (omega arith) go
  ends_at a t (y ∷ ys) fit go = by (eqb (bit_and (o.descriptor a).flags 8) 0) (marks_of o a) (λ t' go'. ends_at (a + s y) t' ys (λ z q k. fit z q (later k)) go')
    where
      by : (b : Bool) → Marks o a b → ((t' : ℕ) → To o ts bins (a + s y) t' → To o ts bins (a + s y + total s ys) (t' + total s (kept o s (a + s y) ys))) →
          To o ts bins (a + (s y + total s ys)) (t + total s (kept_if b y (kept o s (a + s y) ys)))
      by true (bare z) f = to_at o ts bins _ _ _ _ (omega arith) refl (f t (skip a go (fit y a here).0 z (ap (λ n. a + n) (sym (fit y a here).1))))
      by false (set z) f = to_at o ts bins _ _ _ _ (omega arith) (omega arith) (f (t + s y) (walks.keep a t go (fit y a here).0 z (ap (λ n. a + n) (sym (fit y a here).1)) (ap (λ n. t + n) (sym (fit y a here).1))))

module _ (m : Model) (a : Arena) (m0 : Memory) (snd : Sound m0) (sh : Shows m a m0) (o : Memory)
    (tiled : Tiled o (titles_of m a m0) a.bins a.«next»)
    (fit : (y : Thing) (q : ℕ) → At m a m0 y q → length_at o q ≡ size m0.figures.places m y)
    (mark_down : (x : Thing) (p : ℕ) → At m a m0 x p → Reach m x → IsMarked o p)
    (mark_up : (x : Thing) (p : ℕ) → At m a m0 x p → IsMarked o p → Reach m x) where
  abbrev sz : Thing → ℕ
  sz = size m0.figures.places m

  abbrev ts : List ℕ
  ts = titles_of m a m0

  abbrev pub order' : List Thing
  order' = kept o (size m0.figures.places m) a.bins a.order

  fits : (y : Thing) (q : ℕ) → At m a m0 y q → In q ts × (length_at o q ≡ size m0.figures.places m y)
  fits y q l = (lies_place sz _ _ y q l, fit y q l)

  -- Where a reachable thing goes is where it lies afterwards.
  pub new_place : (x : Thing) (p t : ℕ) → At m a m0 x p → Reach m x → To o ts a.bins p t → Lies (size m0.figures.places m) a.bins order' x t
  new_place x p t l r go =
      let w = goes_down o ts a.bins sz a.bins a.bins a.order x p fits (begin refl refl) l (mark_down x p l r) in
      rw (to_one o ts a.bins a.«next» tiled p w.0 t w.1 go) at w.2

  pub old_place : (x : Thing) (t : ℕ) → Lies (size m0.figures.places m) a.bins order' x t → (p : ℕ) × At m a m0 x p × (IsMarked o p) × To o ts a.bins p t
  old_place x t l = comes_up o ts a.bins sz a.bins a.bins a.order x t fits (begin refl refl) l

  -- A pointer's title and distance, from the thing that it points at.
  aim_is : (d : Descriptor) (p k q : ℕ) (b : Aims m0 ts d q) → Aims m0 ts d p → d.value ≡ pos (p + k) → (q ≡ p) × (b.distance ≡ k)
  aim_is d p k q b c e =
      let z = one_title m0 ts _ _ _ (none_marked m a m0 snd sh) d q p b c in
      let y : q + b.distance ≡ p + k = pos_inj _ _ (sym b.value ∙ e) in
      (z, omega arith)

  -- A moved pointer to x, at its new place.
  placed : (x : Thing) (p k : ℕ) (d : Descriptor) (q t : ℕ) (b : Aims m0 ts d q) → At m a m0 x p → k ≤ fields m x →
      d.value ≡ pos (p + k) → Reach m x → To o ts a.bins q t → Lies (size m0.figures.places m) a.bins order' x t × (b.distance ≡ k)
  placed x p k d q t b l h e r go =
      let c : Aims m0 ts d p = record { flag = b.flag; title = lies_place sz _ _ x p l; distance = k; near = (let z = count_at m a m0 snd sh x p l in omega arith); value = e } in
      let i = aim_is d p k q b c e in
      (new_place x p t l r (rw i.0 at go), i.1)

  pub coded_after : (v : Value) (d d' : Descriptor) → Codes m a m0 v d → Proper m v → ((y : Thing) → Points v y → Reach m y) →
      Forwarded m0 o ts a.bins d d' → Coded (size m0.figures.places m) a.bins order' v d'
  coded_after v d d' as_null pr re (fixed z e) = rw e as_null
  coded_after v d d' as_null pr re (moved q t b go e) = absurd (let z = b.flag in omega arith)
  coded_after v d d' as_number pr re (fixed z e) = rw e as_number
  coded_after v d d' as_number pr re (moved q t b go e) = absurd (let z = b.flag in omega arith)
  coded_after v d d' (as_text l) pr re (fixed z e) = absurd (omega arith)
  coded_after v d d' (as_text {t = x} {p = p} l) pr re (moved q t b go e) =
      let i = placed (string x) p 0 (desc (pos p) 16 1) q t b l (omega arith) (ap pos (omega arith)) (re (string x) refl) go in
      let z : t + b.distance ≡ t = (let y = i.1 in omega arith) in
      rw (e, z) (as_text i.0)
  coded_after v d d' (as_block l) pr re (fixed z e) = absurd (omega arith)
  coded_after v d d' (as_block {i = x} {k = k} {p = p} l) pr re (moved q t b go e) =
      let i = placed (block x) p 0 (desc (pos p) 16 k) q t b l (omega arith) (ap pos (omega arith)) (re (block x) refl) go in
      let z : t + b.distance ≡ t = (let y = i.1 in omega arith) in
      rw (e, z) (as_block i.0)
  coded_after v d d' (as_name l) pr re (fixed z e) = absurd (omega arith)
  coded_after v d d' (as_name {x = x} {k = k} {p = p} l) pr re (moved q t b go e) =
      let i = placed x p k (desc (pos (p + k)) 16 9) q t b l pr.1 refl (re x refl) go in
      rw (e, i.1) (as_name i.0)

  title_after : (x : Thing) (p t : ℕ) (d : Descriptor) → d ≡ title m x p → desc (pos t) d.flags d.kind ≡ title m x t
  title_after (block i) p t d e = rw e refl
  title_after (string s) p t d e = rw e refl

  below_cells : a.bins + total (size m0.figures.places m) order' ≤ m0.figures.cells
  below_cells =
      let g = ends_at o ts a.bins sz a.bins a.bins a.order fits (begin refl refl) in
      let h = (to_low o ts a.bins a.«next» tiled _ _ g).1 in
      let i = sh.laid.end in let j = sh.laid.within in omega arith

  module _ (link head : ℕ → Descriptor) (f : Memory) (rn : Renewed m0 o (titles_of m a m0) a.bins link head f) (chain : ℕ → List Text) where
    abbrev pub after : Arena
    after = record { bins = a.bins; «next» = a.bins + total (size m0.figures.places m) order'; order = order'; chain = chain }

    places_same : f.figures.places ≡ m0.figures.places
    places_same = ap (λ (x : Figures). x.places) rn.figures

    pub laid_after : Laid m after f
    laid_after =
        record {
          «end» = rw places_same refl;
          within = rw (ap (λ (x : Figures). x.cells) rn.figures) below_cells;
          titled = rw places_same (λ x t l. let w = old_place x t l in
              rn.titles w.0 t (lies_place sz _ _ x w.0 w.1) w.2 w.3 ∙ title_after x w.0 t (m0.descriptor w.0) (sh.laid.titled x w.0 w.1));
          coded = rw places_same (λ x t k l k1 k2. let w = old_place x t l in
              let r = mark_up x w.0 w.1 w.2 in
              let j : k - 1 < count (m0.descriptor w.0) = (let z = count_at m a m0 snd sh x w.0 w.1 in omega arith) in
              let n : k - 1 + 1 ≡ k = omega arith in
              let n' : t + 1 + (k - 1) ≡ t + k = omega arith in
              let c = field_at m a m0 snd sh x w.0 (k - 1) w.1 j in
              rw (n, n') at (coded_after _ _ _ c.1 c.2 (λ y pt. from_field k r k1 k2 (rw n at pt)) (rn.fields w.0 t (k - 1) (lies_place sz _ _ x w.0 w.1) w.2 w.3 j)));
        }

    -- A cell with characters of a string.
    character_after : (t : Text) (p j i : ℕ) → Lies (size m0.figures.places m) a.bins order' (string t) p → j < string_cells m0.figures.places (length t) - (2 + string_fields) →
        (q : ℕ) × At m a m0 (string t) q × (f.character (p + 2 + string_fields + j) i ≡ m0.character (q + 2 + string_fields + j) i)
    character_after t p j i l h =
        let w = old_place (string t) p l in
        let z = count_at m a m0 snd sh (string t) w.0 w.1 in
        let y = fit (string t) w.0 w.1 in
        let e = rn.characters w.0 p (2 + string_fields + j) i (lies_place sz _ _ (string t) w.0 w.1) w.2 w.3 (omega arith) (omega arith) in
        let u : p + (2 + string_fields + j) ≡ p + 2 + string_fields + j = omega arith in
        let v : w.0 + (2 + string_fields + j) ≡ w.0 + 2 + string_fields + j = omega arith in
        (w.0, w.1, ap (λ (c : ℕ). f.character c i) (sym u) ∙ e ∙ ap (λ (c : ℕ). m0.character c i) v)

    last_cell : (c j n : ℕ) → 1 ≤ c → j < n → j / c < string_cells c n - (2 + string_fields)
    last_cell c j n p l =
        let x = lt-div-mul-add {a = n - 1} {b = c} p in
        let y : j / c < (n - 1) / c + 1 = (div-lt_iff_lt-mul {k = c} {x = j} {y = (n - 1) / c + 1} p).1 (rw add-mul (omega arith)) in
        omega arith

    pub spelled_after : Spelled m after f
    spelled_after =
        record {
          spelled = rw places_same (λ t p j l h.
              (let w = character_after t p (j / m0.figures.places) (j % m0.figures.places) l (last_cell m0.figures.places j (length t) snd.one_place h) in
              w.2 ∙ sh.spelled.spelled t w.0 j w.1 h));
          padded = rw (places_same, ap (λ (x : Figures). x.lowest) rn.figures) (λ t p j l h k.
              (let w = character_after t p (j / m0.figures.places) (j % m0.figures.places) l ((div-lt_iff_lt-mul snd.one_place).1 k) in
              w.2 ∙ sh.spelled.padded t w.0 j w.1 h k));
        }
