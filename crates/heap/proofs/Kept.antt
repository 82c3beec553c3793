-- What is shown before and after a regeneration, set side by side.
use Rattle.std.proofs.Common.{◌≡◌, ℕ, ◌+◌, ◌-◌, ◌<◌, ◌≤◌, ◌≢◌, List, [], ◌∷◌, ◌++◌, length, get_or, pos, sym, refl, ap, ◌∙◌, subst, inl, inr, arith}
use lib.Bits.{bit_and}
use Rattle.cells.specs.declared.Descriptor.{Descriptor}
use Rattle.cells.specs.Meaning.{Memory, Figures}
use Rattle.rules.specs.Lists.{In, Once, total, Keeps}
use Rattle.rules.specs.Model.{Thing, block, string, Value, Model, register, fields, size, Reach}
use Rattle.rules.specs.Arena.{Lies, desc, null_desc, Coded, as_null, as_number, as_text, as_block, as_name, Arena, Proper, title, Shows, At, Codes}
use Rattle.rules.proofs.Lists.{in_left, keeps_from, keeps_in, keeps_once}
use Rattle.rules.proofs.Lies.{lies_in, in_lies, lies_from, lies_end, lies_left, lies_at, lies_either, lies_split, keeps_split}
use Rattle.rules.proofs.Coded.{coded_in}
use Rattle.rules.proofs.Reach.{Closed, closed_has}
use Rattle.arena.specs.Titles.{Back}
use Rattle.heap.specs.Regeneration.{Shown}
use Rattle.heap.specs.Effects.{Regeneration, after, Was, Is, Lower, Becomes, stays, moves}
use Rattle.heap.proofs.Orders.{size_some}

-- Everything reachable lies in an arena that shows the model.
module _ (m : Model) (a : Arena) (bins last : ℕ) (rs : List Descriptor) (ws : List ℕ) (o : Memory) (s : Shown m a bins last rs ws o) where
  abbrev sz : Thing → ℕ
  sz = size o.figures.places m

  pub reach_in : (x : Thing) → Reach m x → In x a.order
  reach_in x r = closed_has closed r
    where
      closed : Closed m (λ x. In x a.order)
      closed = record {
        registers = λ x r l pt. coded_in sz (s.registers r l) x pt;
        strings = λ t k k1 k2 nn. s.shows.lawful.valued t k k1 k2 nn;
        follows = λ x y k h k1 k2 pt. (let w = in_lies sz a.bins x a.order h in coded_in sz (s.shows.laid.coded x w.0 k w.1 k1 k2) y pt);
      }

-- Going back from a field's cell to the title.
title_set : (m : Model) (x : Thing) (p : ℕ) → bit_and (title m x p).flags 2 ≢ 0
title_set m (block i) p z = omega arith
title_set m (string t) p z = omega arith

coded_clear : (s : Thing → ℕ) (a : ℕ) (xs : List Thing) (v : Value) (d : Descriptor) → Coded s a xs v d → bit_and d.flags 2 ≡ 0
coded_clear s a xs v d as_null = refl
coded_clear s a xs v d as_number = refl
coded_clear s a xs v d (as_text l) = refl
coded_clear s a xs v d (as_block l) = refl
coded_clear s a xs v d (as_name l) = refl

pub back_at : (m : Model) (a : Arena) (o : Memory) → Shows m a o → (x : Thing) (p k : ℕ) → At m a o x p → k ≤ fields m x → Back o p k
back_at m a o sh x p k l h = record {
  title = rw (sh.laid.titled x p l) (title_set m x p);
  passed = λ j l1 l2.
      (let e : p + (j - p) ≡ j = omega arith in
      rw e at (coded_clear _ _ _ _ _ (sh.laid.coded x p (j - p) l (omega arith) (omega arith))));
}

once_left : {A : Type 0} (xs ys : List A) → Once (xs ++ ys) → Once xs
once_left [] ys o = tt
once_left (x ∷ xs) ys o = ((λ i. o.0 (in_left x xs ys i)), once_left xs ys o.1)

module _ (m : Model) (a : Arena) (o : Memory) (rs : List Descriptor) (g : Regeneration m a o rs) where
  abbrev cells : Thing → ℕ
  cells = size o.figures.places m

  places_same : g.memory.figures.places ≡ o.figures.places
  places_same = ap (λ (f : Figures). f.places) g.regenerated.figures

  -- A thing of the new order lies there.
  is_at : (x : Thing) (q : ℕ) → Lies (size o.figures.places m) a.bins (after g).order x q → Is g x q
  is_at x q l = rw (places_same, g.regenerated.same_bins) l

  at_is : (x : Thing) (q : ℕ) → Is g x q → Lies (size o.figures.places m) a.bins (after g).order x q
  at_is x q l = rw (places_same, g.regenerated.same_bins) at l

  -- What is kept, and where.
  pub new_cell : (x : Thing) (p : ℕ) → Reach m x → Was g x p → (lower : List Thing) × Lower g p lower × Is g x (a.bins + total (size o.figures.places m) lower)
  new_cell x p r l = by (lies_split cells l)
    where
      by : ((us : List Thing) × ((vs : List Thing) × (a.order ≡ us ++ (x ∷ vs)) × (p ≡ a.bins + total (size o.figures.places m) us))) →
          (lower : List Thing) × Lower g p lower × Is g x (a.bins + total (size o.figures.places m) lower)
      by (us, (vs, e, pe)) =
          let w = keeps_split (Reach m) us x vs r (subst (λ (xs : List Thing). Keeps (Reach m) xs (after g).order) e g.regenerated.order) in (
            w.0,
            record {
              sound = λ y h.
                  (let i = keeps_from (Reach m) w.1.2.0 y h in
                  let k = in_lies cells a.bins y us i.0 in (
                    i.1,
                    (
                      k.0,
                      subst (λ (xs : List Thing). Lies cells a.bins xs y k.0) (sym e) (lies_left cells (x ∷ vs) k.1),
                      (let z = lies_end cells k.1 in let v = size_some o.figures.places m y in omega arith),
                    ),
                  ));
              complete = λ y q ry k lt.
                  elim (lies_either cells a.bins q y us (x ∷ vs) (subst (λ (xs : List Thing). Lies cells a.bins xs y q) e k)) [
                    | inl i ↦ keeps_in (Reach m) w.1.2.0 y (lies_in cells i) ry
                    | inr i ↦ absurd (let z = lies_from cells i in omega arith)
                  ];
              once = keeps_once (Reach m) w.1.2.0 (once_left us (x ∷ vs) (subst (λ (xs : List Thing). Once xs) e g.shown.shows.lawful.once));
            },
            is_at x _ (subst (λ (xs : List Thing). Lies cells a.bins xs x (a.bins + total cells w.0)) (sym w.1.1) (lies_at cells a.bins x w.0 w.1.0)),
          )

  pub only_reachable : (x : Thing) (q : ℕ) → Is g x q → Reach m x × ((p : ℕ) × Was g x p)
  only_reachable x q l =
      let i = keeps_from (Reach m) g.regenerated.order x (lies_in cells (at_is x q l)) in
      (i.1, in_lies cells a.bins x a.order i.0)

  pub kept_somewhere : (x : Thing) → Reach m x → (q : ℕ) × Is g x q
  kept_somewhere x r =
      let w = in_lies cells a.bins x (after g).order (g.regenerated.exactly.complete x r) in (w.0, is_at x w.0 w.1)

  -- A value's descriptor before and after.
  moved_by : (x : Thing) (p q k t : ℕ) (d d' : Descriptor) → Was g x p → Is g x q → k ≤ fields m x → d ≡ desc (pos (p + k)) 16 t → d' ≡ desc (pos (q + k)) 16 t → Becomes g d d'
  moved_by x p q k t d d' l i h e f =
      moves x p q k t l i (back_at m a o g.shown.shows x p k l h) (back_at m (after g) g.memory g.regenerated.shown.shows x q k i h) e f

  plus_none : (p t : ℕ) → desc (pos p) 16 t ≡ desc (pos (p + 0)) 16 t
  plus_none p t = let e : p ≡ p + 0 = omega arith in ap (λ n. desc (pos n) 16 t) e

  becomes : (v : Value) (d d' : Descriptor) → Proper m v → Codes m a o v d → Codes m (after g) g.memory v d' → Becomes g d d'
  becomes v d d' pr as_null as_null = stays refl refl
  becomes v d d' pr as_number as_number = stays refl refl
  becomes v d d' pr (as_text {t = t} {p = p} l) (as_text {p = q} i) = moved_by (string t) p q 0 1 _ _ l i (omega arith) (plus_none p 1) (plus_none q 1)
  becomes v d d' pr (as_block {i = n} {k = k} {p = p} l) (as_block {p = q} i) = moved_by (block n) p q 0 k _ _ l i (omega arith) (plus_none p k) (plus_none q k)
  becomes v d d' pr (as_name {x = x} {k = k} {p = p} l) (as_name {p = q} i) = moved_by x p q k 9 _ _ l i pr.1 refl refl

  pub register_becomes : (r : ℕ) → r < length m.registers → Becomes g (get_or rs r null_desc) (get_or g.registers r null_desc)
  register_becomes r l = becomes (register m r) _ _ (g.shown.shows.lawful.good.registers r) (g.shown.registers r l) (g.regenerated.shown.registers r l)

  pub field_becomes : (x : Thing) (p q k : ℕ) → Was g x p → Is g x q → 1 ≤ k → k ≤ fields m x → Becomes g (o.descriptor (p + k)) (g.memory.descriptor (q + k))
  field_becomes x p q k l i k1 k2 =
      becomes (m.field x k) _ _ (g.shown.shows.lawful.good.held x k) (g.shown.shows.laid.coded x p k l k1 k2) (g.regenerated.shown.shows.laid.coded x q k i k1 k2)

  -- A descriptor without flags stays.
  pub becomes_same : (d d' e : Descriptor) → Becomes g d d' → d ≡ e → e.flags ≡ 0 → d' ≡ e
  becomes_same d d' e (stays z f) i h = f ∙ i
  becomes_same d d' e (moves x p q k t l n b c f j) i h =
      absurd (let y : ◌≡◌ {A = ℕ} 16 0 = ap (λ (x : Descriptor). x.flags) (sym f ∙ i) ∙ h in omega arith)
