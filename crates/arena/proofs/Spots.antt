-- The spot of a new string in its chain.
use Rattle.std.proofs.Common.{◌≡◌, ℕ, ◌+◌, ◌<◌, ◌≤◌, ◌⊎◌, List, [], ◌∷◌, length, pos, sym, refl, ap, subst, inl, inr, ⊎_elim, mod-lt, div-le_self, arith}
use native.Mathlib.Decide.{dec_lt}
use Rattle.std.proofs.lemmas.Bool.{cond-true, cond-false, lt-ltb, le-ltb}
use Rattle.cells.specs.declared.Descriptor.{Descriptor}
use Rattle.cells.specs.Meaning.{Memory, Sound, FitDescriptor}
use Rattle.rules.specs.Lists.{In}
use Rattle.rules.specs.Keys.{key, bin, ascension}
use Rattle.rules.specs.Model.{Text, Thing, string, Model, size, string_fields, string_cells}
use Rattle.rules.specs.Arena.{desc, Next, now, Arena, at_end, to_next, At, Links, Shows}
use Rattle.rules.specs.Arena as arena
use Rattle.rules.proofs.Lies.{lies_in, in_lies, lies_end, lies_one}
use Rattle.arena.specs.Growth.{insert}
use Rattle.arena.specs.Enters.{Holds, Behind, at_last, before, after, Takes, Open}
use Rattle.arena.proofs.Things.{key_below, in_next, linked_kind}
use Rattle.arena.proofs.Findings.{chain_few}

-- t goes into the chain xs, which begins at the head or link in `cell`, behind the cell c: the chain is zs then.
pub data Spot (m : Model) (a : Arena) (o : Memory) (t : Text) (c : ℕ) : ℕ → List Text → List Text → Type 0 where
  spot_end : {cell : ℕ} → cell ≡ c → Spot m a o t c cell [] (t ∷ [])
  spot_here : {cell : ℕ} {u : Text} {xs : List Text} → cell ≡ c → ascension a.bins t < ascension a.bins u → Spot m a o t c cell (u ∷ xs) (t ∷ (u ∷ xs))
  spot_later : {cell : ℕ} {u : Text} {xs zs : List Text} (q : ℕ) → At m a o (string u) q → ascension a.bins u ≤ ascension a.bins t →
      Spot m a o t c (q + 1 + string_fields) xs zs → Spot m a o t c cell (u ∷ xs) (u ∷ zs)

-- The spot is the head or the link of a string of the chain.
pub spot_where : (m : Model) (a : Arena) (o : Memory) (t : Text) (c cell : ℕ) (xs zs : List Text) → Spot m a o t c cell xs zs →
    (cell ≡ c) ⊎ ((u : Text) × (q : ℕ) × In u xs × At m a o (string u) q × (q + 1 + string_fields ≡ c))
spot_where m a o t c cell xs zs (spot_end e) = inl e
spot_where m a o t c cell xs zs (spot_here e g) = inl e
spot_where m a o t c cell xs zs (spot_later {u = u} q l g w) =
    ⊎_elim (λ e. inr (u, q, inl refl, l, e)) (λ i. inr (i.0, i.1, inr i.2, i.3, i.4)) (spot_where m a o t c (q + 1 + string_fields) _ _ w)

module _ (m : Model) (a : Arena) (o : Memory) (snd : Sound o) (sh : Shows m a o) (t : Text) where
  abbrev sz : Thing → ℕ
  sz = size o.figures.places m

  spot : (cell : ℕ) (xs : List Text) → ((u : Text) → In u xs → In (string u) a.order) → (c : ℕ) × Spot m a o t c cell xs (insert (ascension a.bins) t xs)
  spot cell [] fit = (cell, spot_end refl)
  spot cell (u ∷ xs) fit = by (in_lies sz a.bins (string u) a.order (fit u (inl refl))) (λ q. spot (q + 1 + string_fields) xs (λ v h. fit v (inr h)))
    where
      by : ((q : ℕ) × At m a o (string u) q) → ((q : ℕ) → (c : ℕ) × Spot m a o t c (q + 1 + string_fields) xs (insert (ascension a.bins) t xs)) →
          (c : ℕ) × Spot m a o t c cell (u ∷ xs) (insert (ascension a.bins) t (u ∷ xs))
      by (q, l) rec = elim (dec_lt (ascension a.bins t) (ascension a.bins u)) [
        | yes g ↦ (cell, subst (λ (z : List Text). Spot m a o t cell cell (u ∷ xs) z) (sym (cond-true _ _ _ (lt-ltb _ _ g))) (spot_here refl g))
        | no g ↦ (let w = rec q in
            let h : ascension a.bins u ≤ ascension a.bins t = omega arith in
            (w.0, subst (λ (z : List Text). Spot m a o t w.0 cell (u ∷ xs) z) (sym (cond-false _ _ _ (le-ltb _ _ h))) (spot_later q l h w.1)))
      ]

  string_end : (u : Text) (q : ℕ) → At m a o (string u) q → q + 5 ≤ a.«next»
  string_end u q l = let w = lies_end sz l in let e = sh.laid.end in omega arith

  holds : (cell n q : ℕ) (u : Text) → At m a o (string u) q → o.descriptor cell ≡ desc (pos q) 16 n → Holds o cell q
  holds cell n q u l e =
      record {
        flag = ap (λ (x : Descriptor). x.flags) e;
        value = ap (λ (x : Descriptor). x.value) e;
        within = (let v = string_end u q l in let w = sh.laid.within in omega arith);
      }

  -- The code's way to the spot.
  spot_behind : (c cell n : ℕ) (xs zs : List Text) → Spot m a o t c cell xs zs → Links m a o n xs (o.descriptor cell) → cell < o.figures.cells →
      ((u : Text) (rest : List Text) (q : ℕ) → Next xs u rest → At m a o (string u) q → Links m a o (ascension a.bins u) rest (o.descriptor (q + 1 + string_fields))) →
      Behind o (ascension a.bins t) c (length xs) cell
  spot_behind c cell n xs zs (spot_end e) (at_end d) l lk = at_last l (ap (λ (x : Descriptor). x.flags) d) e
  spot_behind c cell n xs zs (spot_here {u = u} {xs = ys} e g) (to_next q lq d) l lk =
      before q (omega arith) l (holds cell n q u lq d) (rw (linked_kind sz a.bins a.order (ascension a.bins u) ys _ (lk u ys q now lq)) g) e
  spot_behind c cell n xs zs (spot_later {u = u} {xs = ys} {zs = ws} q' lq' g w) (to_next q lq d) l lk =
      after (length ys) q (omega arith) l (holds cell n q u lq d) (rw (linked_kind sz a.bins a.order (ascension a.bins u) ys _ (lk u ys q now lq)) g)
      (subst (λ (i : ℕ). Behind o (ascension a.bins t) c (length ys) (i + 1 + string_fields)) (lies_one sz sh.lawful.once lq' lq)
      (spot_behind c (q' + 1 + string_fields) (ascension a.bins u) ys ws w (lk u ys q' now lq') (let v = string_end u q' lq' in let w = sh.laid.within in omega arith)
      (λ v rest i nx li. lk v rest i (arena.later nx) li)))

  bin_low : bin a.bins t < a.bins
  bin_low = mod-lt (key t) sh.lawful.some_bins

  -- In an arena that shows a model there is a spot.
  pub the_spot : (c : ℕ) × Spot m a o t c (bin a.bins t) (a.chain (bin a.bins t)) (insert (ascension a.bins) t (a.chain (bin a.bins t)))
  the_spot = spot (bin a.bins t) (a.chain (bin a.bins t)) (λ u h. (sh.lawful.in_chain _ u bin_low h).0)

  pub opens : 1 ≤ length t → length t ≤ 1024 → a.«next» + string_cells o.figures.places (length t) ≤ o.figures.cells → Takes o t →
      Open o a.«next» (bin a.bins t) (ascension a.bins t) the_spot.0 t
  opens l1 l2 room codes =
      record {
        place = record {
          turns = length (a.chain (bin a.bins t));
          few = chain_few m a o snd sh _ bin_low;
          behind = spot_behind the_spot.0 _ 0 _ _ the_spot.1 (sh.threaded.heads _ bin_low) (let x = bin_low in let e = sh.laid.end in let h = sh.laid.within in omega arith)
              (λ u rest q nx l. sh.threaded.links _ u rest q bin_low nx l);
        };
        low = at_spot (λ i. i < a.«next») (let x = bin_low in let e = sh.laid.end in omega arith) (λ u q l. let e = string_end u q l in omega arith);
        fits = at_spot (λ i. FitDescriptor o.figures (o.descriptor i)) head_of link_of;
        some = l1;
        few = l2;
        room = room;
        codes = codes;
      }
    where
      flags_of : (n : ℕ) (xs : List Text) (d : Descriptor) → Links m a o n xs d → d.flags ≤ 31
      flags_of n xs d (at_end e) = rw e (omega arith)
      flags_of n xs d (to_next p l e) = rw e (omega arith)

      at_spot : (P : ℕ → Type 0) → P (bin a.bins t) → ((u : Text) (q : ℕ) → At m a o (string u) q → P (q + 1 + string_fields)) → P the_spot.0
      at_spot P hd lk = ⊎_elim (λ e. subst P e hd) (λ i. subst P i.4 (lk i.0 i.1 i.3)) (spot_where m a o t _ _ _ _ the_spot.1)

      head_of : FitDescriptor o.figures (o.descriptor (bin a.bins t))
      head_of =
          let w = sh.threaded.heads _ bin_low in
          (flags_of _ _ _ w, let k = linked_kind sz a.bins a.order 0 _ _ w in omega arith)

      link_of : (u : Text) (q : ℕ) → At m a o (string u) q → FitDescriptor o.figures (o.descriptor (q + 1 + string_fields))
      link_of u q l =
          let lt = mod-lt (key u) sh.lawful.some_bins in
          let n = in_next _ u (sh.lawful.chained u (lies_in sz l)) in
          let w = sh.threaded.links _ u n.0 q lt n.1 l in
          let k = linked_kind sz a.bins a.order (ascension a.bins u) n.0 _ w in
          let b = key_below 0 u (omega arith) in let d = div-le_self (key u) a.bins in let v = snd.wide in
          (flags_of _ _ _ w, omega arith)
