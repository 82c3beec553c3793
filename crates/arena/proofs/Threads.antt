-- Heads and links after a string is entered at its spot.
use Rattle.std.proofs.Common.{◌≡◌, ℕ, ◌+◌, ◌≢◌, List, [], ◌∷◌, pos, sym, refl, ap, ◌∙◌, subst, inl, inr, ⊎_elim, arith}
use Rattle.cells.specs.declared.Descriptor.{Descriptor}
use Rattle.cells.specs.Meaning.{Memory}
use Rattle.rules.specs.Lists.{In, Once}
use Rattle.rules.specs.Keys.{ascension}
use Rattle.rules.specs.Model.{Text, Thing, string, Model, size, string_fields}
use Rattle.rules.specs.Arena.{desc, Next, now, Arena, at_end, to_next, At, Links, Shows}
use Rattle.rules.specs.Arena as arena
use Rattle.rules.proofs.Lies.{lies_one}
use Rattle.arena.proofs.Alike.{linked_by}
use Rattle.arena.proofs.Things.{string_same, size_some, one_there, next_in, linked_kind}
use Rattle.arena.proofs.Spots.{Spot, spot_end, spot_here, spot_later, spot_where}

-- Two strings at one cell are one.
pub who : (m : Model) (a : Arena) (o : Memory) (u v : Text) (p q : ℕ) → p ≡ q → At m a o (string u) p → At m a o (string v) q → u ≡ v
who m a o u v p q e lp lq = string_same u v (one_there (size o.figures.places m) (size_some o.figures.places m) (string u) (string v) p q e lp lq)

module _ (m : Model) (a a' : Arena) (o r : Memory) (t : Text) (c : ℕ) (sh : Shows m a o)
    (old : (x : Thing) (q : ℕ) → At m a o x q → At m a' r x q) (new : At m a' r (string t) a.«next»)
    (behind : r.descriptor c ≡ desc (pos a.«next») 16 (o.descriptor c).kind)
    (own : r.descriptor (a.«next» + 1 + string_fields) ≡ desc (o.descriptor c).value (o.descriptor c).flags (ascension a.bins t))
    (kept : (u : Text) (q : ℕ) → At m a o (string u) q → q + 1 + string_fields ≢ c → r.descriptor (q + 1 + string_fields) ≡ o.descriptor (q + 1 + string_fields)) where
  still : (n : ℕ) (xs : List Text) (d : Descriptor) → Links m a o n xs d → Links m a' r n xs d
  still = linked_by old

  to_new : (n : ℕ) (xs ws : List Text) (cell : ℕ) → cell ≡ c → Links m a o n xs (o.descriptor cell) → Links m a' r n (t ∷ ws) (r.descriptor cell)
  to_new n xs ws cell e k =
      to_next a.«next» new
      (ap (λ (x : ℕ). r.descriptor x) e ∙ behind ∙ ap (λ (x : ℕ). desc (pos a.«next») 16 x)
      (ap (λ (x : ℕ). (o.descriptor x).kind) (sym e) ∙ linked_kind (size o.figures.places m) a.bins a.order n xs _ k))

  from_new : (n : ℕ) (xs : List Text) (cell : ℕ) → cell ≡ c → Links m a o n xs (o.descriptor cell) → Links m a' r (ascension a.bins t) xs (r.descriptor (a.«next» + 1 + string_fields))
  from_new n xs cell e k = by xs (subst (λ (x : ℕ). Links m a o n xs (o.descriptor x)) e k)
    where
      by : (ys : List Text) → Links m a o n ys (o.descriptor c) → Links m a' r (ascension a.bins t) ys (r.descriptor (a.«next» + 1 + string_fields))
      by ys (at_end d) = at_end (own ∙ ap (λ (x : Descriptor). desc x.value x.flags (ascension a.bins t)) d)
      by ys (to_next q l d) = to_next q (old _ q l) (own ∙ ap (λ (x : Descriptor). desc x.value x.flags (ascension a.bins t)) d)

  -- No link of the chain stands in this cell.
  abbrev Far : ℕ → List Text → Type 0
  Far cell xs = (u : Text) (q : ℕ) → In u xs → At m a o (string u) q → cell ≢ q + 1 + string_fields

  far_on : (v : Text) (q : ℕ) (ys : List Text) → (In v ys → ⊥) → At m a o (string v) q → Far (q + 1 + string_fields) ys
  far_on v q ys fresh l x p h lx e = fresh (subst (λ (z : Text). In z ys) (sym (who m a o v x q p (omega arith) l lx)) h)

  -- The head or link in a cell leads to the new chain.
  pub spot_linked : (cell n : ℕ) (xs zs : List Text) → Spot m a o t c cell xs zs → Links m a o n xs (o.descriptor cell) →
      (cell ≢ c → r.descriptor cell ≡ o.descriptor cell) → Far cell xs → Links m a' r n zs (r.descriptor cell)
  spot_linked cell n xs zs (spot_end e) k keep far = to_new n xs [] cell e k
  spot_linked cell n xs zs (spot_here {u = u} {xs = ys} e g) k keep far = to_new n xs (u ∷ ys) cell e k
  spot_linked cell n xs zs (spot_later {u = u} {xs = ys} {zs = ws} q l g w) (to_next q' lq d) keep far =
      let ne : cell ≢ c = λ z. ⊎_elim (λ e. far u q (inl refl) l (z ∙ sym e)) (λ i. far i.0 i.1 (inr i.2) i.3 (z ∙ sym i.4))
      (spot_where m a o t c (q + 1 + string_fields) ys ws w) in
      to_next q' (old _ q' lq) (keep ne ∙ d)

  -- So does the link of each of its strings.
  pub spot_links : (cell n : ℕ) (xs zs : List Text) → Spot m a o t c cell xs zs → Links m a o n xs (o.descriptor cell) → Once xs → Far cell xs →
      ((u : Text) (rest : List Text) (q : ℕ) → Next xs u rest → At m a o (string u) q → Links m a o (ascension a.bins u) rest (o.descriptor (q + 1 + string_fields))) →
      (u : Text) (rest : List Text) (q : ℕ) → Next zs u rest → (In u xs → At m a o (string u) q) → (u ≡ t → q ≡ a.«next») →
      Links m a' r (ascension a.bins u) rest (r.descriptor (q + 1 + string_fields))
  spot_links cell n xs zs (spot_end e) k on far lk u rest q now was is =
      subst (λ (x : ℕ). Links m a' r (ascension a.bins t) [] (r.descriptor (x + 1 + string_fields))) (sym (is refl)) (from_new n [] cell e k)
  spot_links cell n xs zs (spot_end e) k on far lk u rest q (arena.later i) was is = elim i [ ]
  spot_links cell n xs zs (spot_here {u = v} {xs = ys} e g) k on far lk u rest q now was is =
      subst (λ (x : ℕ). Links m a' r (ascension a.bins t) (v ∷ ys) (r.descriptor (x + 1 + string_fields))) (sym (is refl)) (from_new n (v ∷ ys) cell e k)
  spot_links cell n xs zs (spot_here {u = v} {xs = ys} e g) k on far lk u rest q (arena.later i) was is =
      let h = next_in _ u rest i in let l = was h in
      rw (kept u q l (λ z. far u q h l (e ∙ sym z))) (still _ _ _ (lk u rest q i l))
  spot_links cell n xs zs (spot_later {u = v} {xs = ys} {zs = ws} q' l g w) k on far lk u rest q now was is =
      subst (λ (x : ℕ). Links m a' r (ascension a.bins v) ws (r.descriptor (x + 1 + string_fields))) (lies_one (size o.figures.places m) sh.lawful.once l (was (inl refl)))
      (spot_linked (q' + 1 + string_fields) (ascension a.bins v) ys ws w (lk v ys q' now l) (λ ne. kept v q' l ne) (far_on v q' ys on.0 l))
  spot_links cell n xs zs (spot_later {u = v} {xs = ys} {zs = ws} q' l g w) k on far lk u rest q (arena.later i) was is =
      spot_links (q' + 1 + string_fields) (ascension a.bins v) ys ws w (lk v ys q' now l) on.1 (far_on v q' ys on.0 l)
      (λ x b y j lx. lk x b y (arena.later j) lx) u rest q i (λ h. was (inr h)) is
