-- Looking a text up in an arena that shows a model.
use Rattle.std.proofs.Common.{◌≡◌, ℕ, ◌+◌, ◌<◌, ◌≤◌, ◌≢◌, List, ◌∷◌, length, pos, Some, None, sym, refl, ap, ◌∙◌, mod-lt, arith}
use native.Mathlib.Decide.{dec_lt}
use Rattle.std.proofs.lemmas.List.{same_lists, get_or_default}
use Rattle.cells.specs.declared.Descriptor.{Descriptor}
use Rattle.cells.specs.Meaning.{Memory, Sound}
use Rattle.rules.specs.Lists.{In, Once}
use Rattle.rules.specs.Keys.{key, bin, ascension}
use Rattle.rules.specs.Model.{Text, Thing, string, Model, size, string_fields}
use Rattle.rules.specs.Arena.{desc, Next, now, Arena, at_end, to_next, At, Links, Shows}
use Rattle.rules.specs.Arena as arena
use Rattle.rules.proofs.Lies.{lies_in, lies_end, lies_one}
use Rattle.arena.specs.Finds.{Readable, Spells, Hangs, Seeks, runs_out, hits, stops, goes_on, Sought}
use Rattle.arena.proofs.Things.{size_some, few_texts, in_next, next_in, rises_all, linked_kind, last_cell}

module _ (m : Model) (a : Arena) (o : Memory) (snd : Sound o) (sh : Shows m a o) where
  abbrev sz : Thing → ℕ
  sz = size o.figures.places m

  -- A string that lies in the arena can be read, and its characters are those of its text.
  pub readable : (u : Text) (q : ℕ) → At m a o (string u) q → Readable o q
  readable u q l =
      let e = ap (λ (d : Descriptor). d.kind) (sh.laid.titled (string u) q l) in
      let w = lies_end sz l in let x = sh.laid.end in let y = sh.laid.within in
      let z = (sh.lawful.sized (string u) (lies_in sz l)).1 in
      record {
        low = omega arith;
        few = omega arith;
        some = snd.one_place;
        within = λ j h. (let v = last_cell o.figures.places j (length u) snd.one_place (omega arith) in omega arith);
      }

  pub spelt : (u : Text) (q : ℕ) → At m a o (string u) q → Spells o q u
  spelt u q l = record { long = ap (λ (d : Descriptor). d.kind) (sh.laid.titled (string u) q l); codes = λ j h. sh.spelled.spelled u q j l h }

  differs : (u t : Text) (q : ℕ) → At m a o (string u) q → u ≢ t → Spells o q t → ⊥
  differs u t q l n s =
      let p = spelt u q l in
      n (same_lists u t (sym p.long ∙ s.long) (λ j d h. get_or_default u j d 0 h ∙ sym (p.codes j h) ∙ s.codes j (let e = p.long in let f = s.long in omega arith)
      ∙ get_or_default t j 0 d (let e = p.long in let f = s.long in omega arith)))

  hangs : (u : Text) (q n : ℕ) (d : Descriptor) → At m a o (string u) q → d ≡ desc (pos q) 16 n → Hangs o d q
  hangs u q n d l e = record { flag = ap (λ (x : Descriptor). x.flags) e; value = ap (λ (x : Descriptor). x.value) e; readable = readable u q l }

  module _ (b : ℕ) (l : b < a.bins) where
    number : (u : Text) (rest : List Text) (q : ℕ) → Next (a.chain b) u rest → At m a o (string u) q → (o.descriptor (q + 1 + string_fields)).kind ≡ ascension a.bins u
    number u rest q n y = linked_kind sz a.bins a.order (ascension a.bins u) rest _ (sh.threaded.links b u rest q l n y)

    -- A text that is there is found.
    seeks_there : (t : Text) (p : ℕ) → At m a o (string t) p → (xs rest : List Text) (k : ℕ) (d : Descriptor) → Once xs →
        ((u : Text) (r : List Text) → Next xs u r → Next (a.chain b) u r) → Next xs t rest → Links m a o k xs d →
        Seeks o t (ascension a.bins t) (Some p) (length xs) d
    seeks_there t p lp xs rest k d on sub now (to_next q lq e) =
        hits q (omega arith) (hangs t q k d lq e) (spelt t q lq) (ap Some (lies_one sz sh.lawful.once lp lq))
    seeks_there t p lp (u ∷ ts) rest k d on sub (arena.later n) (to_next q lq e) =
        let nx = sub u ts now in
        goes_on (length ts) q (omega arith) (hangs u q k d lq e) (differs u t q lq (λ z. on.0 (rw z (next_in ts t rest n))))
        (rw (number u ts q nx lq) (rises_all (ascension a.bins) (a.chain b) u ts t (λ x y r i. sh.lawful.rising b x y r l i) nx (next_in ts t rest n)))
        (seeks_there t p lp ts rest (ascension a.bins u) _ on.1 (λ v r i. sub v r (arena.later i)) n (sh.threaded.links b u ts q l nx lq))

    -- A text that is not there is not found.
    seeks_absent : (t : Text) → (In (string t) a.order → ⊥) → (xs : List Text) (k : ℕ) (d : Descriptor) →
        ((u : Text) (r : List Text) → Next xs u r → Next (a.chain b) u r) → Links m a o k xs d →
        Seeks o t (ascension a.bins t) None (length xs) d
    seeks_absent t away xs k d sub (at_end e) = runs_out (ap (λ (x : Descriptor). x.flags) e) refl
    seeks_absent t away (u ∷ ts) k d sub (to_next q lq e) =
        let un : u ≢ t = λ z. away (rw (← z) (lies_in sz lq)) in
        elim (dec_lt (ascension a.bins t) (o.descriptor (q + 1 + string_fields)).kind) [
          | yes g ↦ stops q (omega arith) (hangs u q k d lq e) (differs u t q lq un) g refl
          | no g ↦ goes_on (length ts) q (omega arith) (hangs u q k d lq e) (differs u t q lq un) (omega arith)
              (seeks_absent t away ts (ascension a.bins u) _ (λ v r i. sub v r (arena.later i)) (sh.threaded.links b u ts q l (sub u ts now) lq))
        ]

    pub chain_few : length (a.chain b) ≤ o.figures.cells
    chain_few =
        let f = few_texts sz (size_some o.figures.places m) a.order (a.chain b) (λ t h. (sh.lawful.in_chain b t l h).0) (sh.lawful.chain_once b l) in
        let e = sh.laid.end in let h = sh.laid.within in omega arith

  pub some_bins : (bins : ℕ) → bins ≡ a.bins → 1 ≤ bins
  some_bins bins bi = rw bi sh.lawful.some_bins

  -- At the numbers that the code has.
  module _ (bins : ℕ) (bi : bins ≡ a.bins) (t : Text) (h k : ℕ) (he : h ≡ bin bins t) (ke : k ≡ ascension bins t) where
    bin_is : h ≡ bin a.bins t
    bin_is = he ∙ ap (λ (n : ℕ). bin n t) bi

    number_is : k ≡ ascension a.bins t
    number_is = ke ∙ ap (λ (n : ℕ). ascension n t) bi

    bin_low : bin a.bins t < a.bins
    bin_low = mod-lt (key t) sh.lawful.some_bins

    module _ (d : Descriptor) (read : d ≡ o.descriptor h) where
      d_is : d ≡ o.descriptor (bin a.bins t)
      d_is = read ∙ ap (λ (c : ℕ). o.descriptor c) bin_is

      pub sought_there : (p : ℕ) → At m a o (string t) p → Sought o t k d o.figures.cells (Some p)
      sought_there p lp =
          let i = sh.lawful.chained t (lies_in sz lp) in
          let n = in_next _ t i in
          rw (number_is, d_is) (record {
            turns = length (a.chain (bin a.bins t));
            few = chain_few _ bin_low;
            seeks = seeks_there _ bin_low t p lp _ n.0 0 _ (sh.lawful.chain_once _ bin_low) (λ u r i. i) n.1 (sh.threaded.heads _ bin_low);
          })

      pub sought_absent : (In (string t) a.order → ⊥) → Sought o t k d o.figures.cells None
      sought_absent away =
          rw (number_is, d_is) (record {
            turns = length (a.chain (bin a.bins t));
            few = chain_few _ bin_low;
            seeks = seeks_absent _ bin_low t away _ 0 _ (λ u r i. i) (sh.threaded.heads _ bin_low);
          })
