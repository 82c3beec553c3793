-- Two memories that show one model in the same order agree, and a second regeneration leaves the order as it is.
use Rattle.std.proofs.Common.{◌≡◌, ℕ, ◌+◌, ◌<◌, List, ◌∷◌, length, get_or, pos, sym, refl, ap, ◌∙◌, subst, inl, inr, mod-lt}
use Rattle.std.proofs.lemmas.Bool.{cases_lt}
use Rattle.cells.specs.declared.Descriptor.{Descriptor}
use Rattle.cells.specs.Meaning.{Memory, Figures}
use Rattle.rules.specs.Keys.{key, bin, ascension}
use Rattle.rules.specs.Lists.{In, Once, Keeps, end, keep, leave}
use Rattle.rules.specs.Model.{Text, Thing, string, Value, Model, register, string_fields, Reach}
use Rattle.rules.specs.Arena.{desc, null_desc, Next, Linked, at_end, to_next, Arena, Shows, At, Codes, Links}
use Rattle.rules.proofs.Lists.{keeps_from}
use Rattle.rules.proofs.Lies.{lies_in, lies_one}
use Rattle.rules.proofs.Coded.{coded_one}
use Rattle.heap.specs.Effects.{Regeneration, after, Unchanged}
use Rattle.heap.proofs.Sifts.{in_next}

keeps_all : {A : Type 0} (P : A → Type 0) {xs ys : List A} → ((x : A) → In x xs → P x) → Keeps P xs ys → ys ≡ xs
keeps_all P all end = refl
keeps_all P all (keep {x = x} p k) = ap (λ l. x ∷ l) (keeps_all P (λ y i. all y (inr i)) k)
keeps_all P all (leave {x = x} n k) = absurd (n (all x (inl refl)))

linked_one : (s : Thing → ℕ) (from : ℕ) (order : List Thing) (n : ℕ) (ts : List Text) (d e : Descriptor) → Once order → Linked s from order n ts d → Linked s from order n ts e → d ≡ e
linked_one s from order n ts d e on (at_end x) (at_end y) = x ∙ sym y
linked_one s from order n ts d e on (to_next p l x) (to_next q k y) = x ∙ ap (λ (c : ℕ). desc (pos c) 16 n) (lies_one s on l k) ∙ sym y

module _ (m : Model) (a a' : Arena) (o f : Memory) (sh : Shows m a o) (sh' : Shows m a' f) (figures : f.figures ≡ o.figures) (bins : a'.bins ≡ a.bins)
    (order : a'.order ≡ a.order) (chains : (b : ℕ) → b < a.bins → a'.chain b ≡ a.chain b) where
  places_same : f.figures.places ≡ o.figures.places
  places_same = ap (λ (x : Figures). x.places) figures

  lowest_same : f.figures.lowest ≡ o.figures.lowest
  lowest_same = ap (λ (x : Figures). x.lowest) figures

  at_same : (x : Thing) (p : ℕ) → At m a o x p → At m a' f x p
  at_same x p l = rw (places_same, bins, order) l

  coded_same : (v : Value) (d e : Descriptor) → Codes m a o v d → Codes m a' f v e → e ≡ d
  coded_same v d e x y = coded_one _ sh.lawful.once (rw (places_same, bins, order) at y) x

  linked_same : (n k : ℕ) (ts us : List Text) (d e : Descriptor) → k ≡ n → us ≡ ts → Links m a o n ts d → Links m a' f k us e → e ≡ d
  linked_same n k ts us d e j i x y = linked_one _ _ _ n ts e d sh.lawful.once (rw (places_same, bins, order, i, j) at y) x

  link_same : (t : Text) (p : ℕ) → At m a o (string t) p → f.descriptor (p + 1 + string_fields) ≡ o.descriptor (p + 1 + string_fields)
  link_same t p l =
      let b = mod-lt (key t) sh.lawful.some_bins in
      let n = in_next (a.chain (bin a.bins t)) t (sh.lawful.chained t (lies_in _ l)) in
      let n' = subst (λ (ts : List Text). Next ts t n.0) (sym (chains (bin a.bins t) b)) n.1 in
      let y = sh'.threaded.links (bin a.bins t) t n.0 p (rw bins b) n' (at_same (string t) p l) in
      linked_same _ _ n.0 n.0 _ _ (ap (λ (k : ℕ). ascension k t) bins) refl (sh.threaded.links (bin a.bins t) t n.0 p b n.1 l) y

  pub unchanged : Unchanged m a o f
  unchanged = record {
    heads = λ b l. linked_same 0 0 (a.chain b) (a'.chain b) _ _ refl (chains b l) (sh.threaded.heads b l) (sh'.threaded.heads b (rw bins l));
    titles = λ x p l. sh'.laid.titled x p (at_same x p l) ∙ sym (sh.laid.titled x p l);
    fields_same = λ x p k l k1 k2. coded_same (m.field x k) _ _ (sh.laid.coded x p k l k1 k2) (sh'.laid.coded x p k (at_same x p l) k1 k2);
    links = link_same;
    characters = λ t p j l h. elim (cases_lt j (length t)) [
      | inl i ↦ rw places_same at (sh'.spelled.spelled t p j (at_same (string t) p l) i) ∙ sym (sh.spelled.spelled t p j l i)
      | inr i ↦ rw places_same at (sh'.spelled.padded t p j (at_same (string t) p l) i (rw places_same h)) ∙ lowest_same ∙ sym (sh.spelled.padded t p j l i h)
    ];
  }

module _ (m : Model) (a : Arena) (o : Memory) (rs : List Descriptor) (g : Regeneration m a o rs) (h : Regeneration m (after g) g.memory g.registers) where
  order_same : (after h).order ≡ (after g).order
  order_same = keeps_all (Reach m) g.regenerated.exactly.sound h.regenerated.order

  chain_same : (b : ℕ) → b < (after g).bins → (after h).chain b ≡ (after g).chain b
  chain_same b l =
      keeps_all (λ (x : Text). Reach m (string x)) (λ x i. (keeps_from (λ (x : Text). Reach m (string x)) (g.regenerated.chains b (rw (← g.regenerated.same_bins) l)) x i).1)
      (h.regenerated.chains b l)

  places_twice : h.memory.figures.places ≡ g.memory.figures.places
  places_twice = ap (λ (x : Figures). x.places) h.regenerated.figures

  pub second_last : h.last ≡ g.last
  second_last =
      h.regenerated.shown.end_is ∙ h.regenerated.shown.shows.laid.end
      ∙ rw (places_twice, h.regenerated.same_bins, order_same) (sym (g.regenerated.shown.end_is ∙ g.regenerated.shown.shows.laid.end))

  pub second_register : (r : ℕ) → r < length m.registers → get_or h.registers r null_desc ≡ get_or g.registers r null_desc
  second_register r l =
      coded_same m (after g) (after h) g.memory h.memory g.regenerated.shown.shows h.regenerated.shown.shows h.regenerated.figures
      h.regenerated.same_bins order_same chain_same (register m r) _ _ (g.regenerated.shown.registers r l) (h.regenerated.shown.registers r l)

  pub second_unchanged : Unchanged m (after g) g.memory h.memory
  second_unchanged =
      unchanged m (after g) (after h) g.memory h.memory g.regenerated.shown.shows h.regenerated.shown.shows h.regenerated.figures
      h.regenerated.same_bins order_same chain_same
