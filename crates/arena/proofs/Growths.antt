-- An arena with one more thing: what lies where, and what codes what.
use Rattle.std.proofs.Common.{◌≡◌, ℕ, ◌+◌, ◌<◌, ◌≤◌, ◌⊎◌, List, [], ◌∷◌, ◌++◌, sym, ap, ◌∙◌, subst, inl, inr, ⊎_elim, arith}
use Rattle.cells.specs.declared.Descriptor.{Descriptor}
use Rattle.cells.specs.Meaning.{Memory, Figures}
use Rattle.rules.specs.Lists.{In, total}
use Rattle.rules.specs.Model.{Text, Thing, Value, Model, fields, size}
use Rattle.rules.specs.Arena.{Lies, Arena, title, At, Codes, Links, Laid, Shows}
use Rattle.rules.proofs.Lies.{lies_in, lies_end, lies_left, lies_like, total_like}
use Rattle.arena.proofs.Alike.{coded_by, linked_by}
use Rattle.arena.proofs.Appends.{lies_last, lies_new, total_last}

module _ (m m' : Model) (a : Arena) (o o' : Memory) (y : Thing) (k : ℕ) (chain : ℕ → List Text) (sh : Shows m a o) (fg : o'.figures ≡ o.figures)
    (sizes : (x : Thing) → In x a.order → size o.figures.places m x ≡ size o.figures.places m' x) where
  abbrev pub grown : Arena
  grown = record { bins = a.bins; «next» = a.«next» + k; order = a.order ++ (y ∷ []); chain = chain }

  abbrev s : Thing → ℕ
  s = size o.figures.places m

  abbrev s' : Thing → ℕ
  s' = size o.figures.places m'

  places_same : o'.figures.places ≡ o.figures.places
  places_same = ap (λ (x : Figures). x.places) fg

  over : (x : Thing) (q : ℕ) → Lies s' a.bins (a.order ++ (y ∷ [])) x q → At m' grown o' x q
  over x q l = subst (λ (c : ℕ). Lies (size c m') a.bins (a.order ++ (y ∷ [])) x q) (sym places_same) l

  under : (x : Thing) (q : ℕ) → At m' grown o' x q → Lies s' a.bins (a.order ++ (y ∷ [])) x q
  under x q l = subst (λ (c : ℕ). Lies (size c m') a.bins (a.order ++ (y ∷ [])) x q) places_same l

  totals : total s a.order ≡ total s' a.order
  totals = total_like s s' a.order sizes

  -- Old things lie where they lay, and the new one where the arena ended.
  pub old_at : (x : Thing) (q : ℕ) → At m a o x q → At m' grown o' x q
  old_at x q l = over x q (lies_left s' (y ∷ []) (lies_like s s' sizes l))

  pub new_at : At m' grown o' y a.«next»
  new_at = over y a.«next» (lies_last s' y a.bins a.order a.«next» (let e = sh.laid.end in let w = totals in omega arith))

  pub either_at : (x : Thing) (q : ℕ) → At m' grown o' x q → At m a o x q ⊎ ((x ≡ y) × (q ≡ a.«next»))
  either_at x q l = ⊎_elim
      (λ i. inl (lies_like s' s (λ z h. sym (sizes z h)) i))
      (λ i. inr (i.0, let e = sh.laid.end in let w = totals in let z = i.1 in omega arith))
      (lies_new s' y a.bins a.order x q (under x q l))

  -- What coded a value, or linked to a string, does so still.
  pub codes_still : (v : Value) (d : Descriptor) → Codes m a o v d → Codes m' grown o' v d
  codes_still = coded_by old_at

  pub links_still : (n : ℕ) (ts : List Text) (d : Descriptor) → Links m a o n ts d → Links m' grown o' n ts d
  links_still = linked_by old_at

  -- A cell of an old thing lies below the end.
  pub inside : (x : Thing) (q j : ℕ) → At m a o x q → j < size o.figures.places m x → q + j < a.«next»
  inside x q j l h = let w = lies_end s l in let e = sh.laid.end in omega arith

  -- Titles and fields, from those of the old things and those of the new one.
  module _ (room : a.«next» + k ≤ o.figures.cells) (kk : k ≡ size o.figures.places m' y)
      (titles : (x : Thing) (q : ℕ) → At m a o x q → title m' x q ≡ title m x q)
      (counts : (x : Thing) → In x a.order → fields m' x ≡ fields m x)
      (values : (x : Thing) (j : ℕ) → In x a.order → m'.field x j ≡ m.field x j)
      (kept : (x : Thing) (q j : ℕ) → At m a o x q → j ≤ fields m x → o'.descriptor (q + j) ≡ o.descriptor (q + j))
      (its_title : o'.descriptor a.«next» ≡ title m' y a.«next»)
      (its_fields : (j : ℕ) → 1 ≤ j → j ≤ fields m' y → Codes m' grown o' (m'.field y j) (o'.descriptor (a.«next» + j))) where
    pub laid_grown : Laid m' grown o'
    laid_grown =
        record {
          «end» = rw places_same (let e = sh.laid.end in let w = totals in let v = total_last s' y a.order in omega arith);
          within = rw fg room;
          titled = λ x q l. ⊎_elim (λ i. old_title x q i) (λ i. new_title x q i.0 i.1) (either_at x q l);
          coded = λ x q j l j1 j2. ⊎_elim (λ i. old_field x q j i j1 j2) (λ i. new_field x q j i.0 i.1 j1 j2) (either_at x q l);
        }
      where
        old_title : (x : Thing) (q : ℕ) → At m a o x q → o'.descriptor q ≡ title m' x q
        old_title x q l =
            let z : q + 0 ≡ q = omega arith in
            ap (λ (c : ℕ). o'.descriptor c) (sym z) ∙ kept x q 0 l (omega arith) ∙ ap (λ (c : ℕ). o.descriptor c) z ∙ sh.laid.titled x q l ∙ sym (titles x q l)

        new_title : (x : Thing) (q : ℕ) → x ≡ y → q ≡ a.«next» → o'.descriptor q ≡ title m' x q
        new_title x q e f = rw (e, f) its_title

        old_field : (x : Thing) (q j : ℕ) → At m a o x q → 1 ≤ j → j ≤ fields m' x → Codes m' grown o' (m'.field x j) (o'.descriptor (q + j))
        old_field x q j l j1 j2 =
            let h = lies_in s l in
            let j3 : j ≤ fields m x = (let c = counts x h in omega arith) in
            subst (λ (v : Value). Codes m' grown o' v (o'.descriptor (q + j))) (sym (values x j h))
            (subst (λ (d : Descriptor). Codes m' grown o' (m.field x j) d) (sym (kept x q j l j3)) (codes_still _ _ (sh.laid.coded x q j l j1 j3)))

        new_field : (x : Thing) (q j : ℕ) → x ≡ y → q ≡ a.«next» → 1 ≤ j → j ≤ fields m' x → Codes m' grown o' (m'.field x j) (o'.descriptor (q + j))
        new_field x q j e f j1 j2 =
            subst (λ (z : Thing). Codes m' grown o' (m'.field z j) (o'.descriptor (q + j))) (sym e)
            (subst (λ (z : ℕ). Codes m' grown o' (m'.field y j) (o'.descriptor (z + j))) (sym f) (its_fields j j1 (let c = ap (fields m') e in omega arith)))
