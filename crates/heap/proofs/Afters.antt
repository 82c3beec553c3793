-- After regeneration the chains are those of the kept strings, and heads and links show them.
use Rattle.std.proofs.Common.{◌≡◌, ℕ, ◌<◌, ◌≤◌, ◌≢◌, List, [], ◌∷◌, length, get_or, pos, sym, ap, ◌∙◌, subst, inl, inr, mod-lt, div-le_self, arith}
use native.Mathlib.Decide.{dec_lt, ℕ_discrete}
use lib.Bits.{bit_and}
use Rattle.cells.specs.declared.Descriptor.{Descriptor}
use Rattle.cells.specs.Meaning.{Memory, Figures, Sound}
use Rattle.rules.specs.Keys.{key, bin, ascension}
use Rattle.rules.specs.Lists.{In, Keeps}
use Rattle.rules.specs.Model.{Text, Thing, block, string, Model, size, Reach}
use Rattle.rules.specs.Arena.{Lies, desc, Next, Arena, Linked, at_end, to_next, Threaded, Shows, At, Links, titles_of}
use Rattle.rules.proofs.Lists.{keeps_some}
use Rattle.rules.proofs.Lies.{lies_in, in_lies, lies_end, lies_place, place_lies}
use Rattle.heap.specs.Marks.{IsMarked, IsBare}
use Rattle.heap.specs.Walks.{length_at, Tiled, To, Renewed}
use Rattle.heap.specs.Threads.{link_cell, Leads, Led, MarkedString, Linkable, Headed}
use Rattle.heap.proofs.Orders.{size_some, key_below, few_texts}
use Rattle.heap.proofs.Sifts.{in_next, next_rest, next_twice, next_shorter, keeps_next, down, leads_one}
use Rattle.heap.proofs.Ends.{kept, new_place, old_place}

linked_kind : (s : Thing → ℕ) (from : ℕ) (order : List Thing) (n : ℕ) (xs : List Text) (d : Descriptor) → Linked s from order n xs d → d.kind ≡ n
linked_kind s from order n xs d (at_end e) = ap (λ (x : Descriptor). x.kind) e
linked_kind s from order n xs d (to_next p l e) = ap (λ (x : Descriptor). x.kind) e

dec_in : (ts : List ℕ) (q : ℕ) → Dec (In q ts)
dec_in [] q = no (λ h. h)
dec_in (x ∷ xs) q = by (ℕ_discrete q x) (dec_in xs q)
  where
    by : Dec (q ≡ x) → Dec (In q xs) → Dec (In q (x ∷ xs))
    by (yes e) d = yes (inl e)
    by (no n) (yes h) = yes (inr h)
    by (no n) (no h) = no (λ k. elim k [ inl e ↦ n e | inr i ↦ h i ])

dec_string : (o : Memory) (ts : List ℕ) (q : ℕ) → Dec (MarkedString o ts q)
dec_string o ts q = by (dec_in ts q) (ℕ_discrete (bit_and (o.descriptor q).flags 8) 0) (ℕ_discrete (bit_and (o.descriptor q).flags 4) 0)
  where
    by : Dec (In q ts) → Dec ((bit_and (o.descriptor q).flags 8) ≡ 0) → Dec ((bit_and (o.descriptor q).flags 4) ≡ 0) → Dec (MarkedString o ts q)
    by (no n) a b = no (λ k. n k.0)
    by (yes h) (yes e) b = no (λ k. k.1 e)
    by (yes h) (no m) (yes e) = no (λ k. k.2 e)
    by (yes h) (no m) (no l) = yes (h, m, l)

module _ (m : Model) (a : Arena) (m0 : Memory) (snd : Sound m0) (sh : Shows m a m0) (o : Memory)
    (tiled : Tiled o (titles_of m a m0) a.bins a.«next»)
    (fit : (y : Thing) (q : ℕ) → At m a m0 y q → length_at o q ≡ size m0.figures.places m y)
    (mark_down : (x : Thing) (p : ℕ) → At m a m0 x p → Reach m x → IsMarked o p)
    (mark_up : (x : Thing) (p : ℕ) → At m a m0 x p → IsMarked o p → Reach m x) where
  abbrev sz : Thing → ℕ
  sz = size m0.figures.places m

  abbrev ts : List ℕ
  ts = titles_of m a m0

  abbrev order' : List Thing
  order' = kept o (size m0.figures.places m) a.bins a.order

  abbrev P : Text → Type 0
  P = λ x. Reach m (string x)

  -- A string of the order is reachable if it has the mark.
  decided : (t : Text) → In (string t) a.order → Dec (Reach m (string t))
  decided t h =
      let w = in_lies sz a.bins (string t) a.order h in
      elim (ℕ_discrete (bit_and (o.descriptor w.0).flags 8) 0) [
        | yes z ↦ no (λ r. mark_down (string t) w.0 w.1 r z)
        | no z ↦ yes (mark_up (string t) w.0 w.1 z)
      ]

  -- The chains of what is kept.
  chain_fit : (b : ℕ) → b < a.bins → (t : Text) → In t (a.chain b) → In (string t) a.order
  chain_fit b l t h = (sh.lawful.in_chain b t l h).0

  chain_by : (b : ℕ) → Dec (b < a.bins) → List Text
  chain_by b (yes l) = (keeps_some P (a.chain b) (λ t h. decided t (chain_fit b l t h))).0
  chain_by b (no n) = []

  pub chain' : ℕ → List Text
  unfolding chain_by
  chain' b = chain_by b (dec_lt b a.bins)

  pub sifted : (b : ℕ) → b < a.bins → Keeps (λ (x : Text). Reach m (string x)) (a.chain b) (chain' b)
  unfolding chain' chain_by
  sifted b l = by (dec_lt b a.bins)
    where
      by : (d : Dec (b < a.bins)) → Keeps P (a.chain b) (chain_by b d)
      by (yes k) = (keeps_some P (a.chain b) (λ t h. decided t (chain_fit b k t h))).1
      by (no n) = absurd (n l)

  -- r: the memory in which the chains are followed; tb: the table of new cells.
  module _ (r : Memory) (tb : List ℕ) (fg : r.figures ≡ m0.figures)
      (four : (q : ℕ) → In q (titles_of m a m0) → bit_and (o.descriptor q).flags 4 ≡ bit_and (m0.descriptor q).flags 4)
      (titles : (q : ℕ) → In q (titles_of m a m0) → r.descriptor q ≡ o.descriptor q)
      (link_now : (t : Text) (p : ℕ) → At m a m0 (string t) p → r.descriptor (link_cell p) ≡ m0.descriptor (link_cell p))
      (head_now : (b : ℕ) → b < a.bins → r.descriptor b ≡ m0.descriptor b)
      (table : (q : ℕ) → In q (titles_of m a m0) → IsMarked o q → (q < length tb) × (get_or tb q 0 ≤ 65535) × To o (titles_of m a m0) a.bins q (get_or tb q 0)) where
    cells_same : r.figures.cells ≡ m0.figures.cells
    cells_same = ap (λ (x : Figures). x.cells) fg

    titled : (t : Text) (p : ℕ) → At m a m0 (string t) p → In p ts × (link_cell p < r.figures.cells)
    titled t p y =
        (lies_place sz _ _ (string t) p y, (let v = lies_end sz y in let e = sh.laid.end in let h = sh.laid.within in let c = cells_same in omega arith))

    bare : (t : Text) (p : ℕ) → At m a m0 (string t) p → ¬ (P t) → IsBare r p
    bare t p y n =
        rw (titles p (lies_place sz _ _ (string t) p y)) (elim (ℕ_discrete (bit_and (o.descriptor p).flags 8) 0) [ yes z ↦ z | no z ↦ absurd (n (mark_up (string t) p y z)) ])

    goes : (t : Text) (p : ℕ) → At m a m0 (string t) p → P t →
        (IsMarked r p) × (p < length tb) × (get_or tb p 0 ≤ 65535) × Lies (size m0.figures.places m) a.bins order' (string t) (get_or tb p 0)
    goes t p y z =
        let h = lies_place sz _ _ (string t) p y in
        let k = mark_down (string t) p y z in
        let g = table p h k in
        ((λ e. k (rw (titles p h) at e)), g.0, g.1, new_place m a m0 snd sh o tiled fit mark_down mark_up (string t) p _ y z g.2)

    -- What d leads to, with at most this chain before it.
    lead : (b n : ℕ) (xs ks : List Text) (d : Descriptor) → b < a.bins → ((t : Text) (rest : List Text) → Next xs t rest → Next (a.chain b) t rest) → length xs ≤ length (a.chain b) → n < 65521 →
        Keeps P xs ks → Links m a m0 n xs d → (d' : Descriptor) × Led r ts tb d d' × Linked (size m0.figures.places m) a.bins order' n ks d'
    lead b n xs ks d l sub short small w k =
        let i = down P sz a.bins a.order order' r ts tb (ascension a.bins) titled bare goes n n xs ks d w k
        (λ t rest p nx y. rw (link_now t p y) (sh.threaded.links b t rest p l (sub t rest nx) y)) in
        let kd = linked_kind sz a.bins a.order n xs d k in (
          i.0,
          record {
            turns = length xs;
            few = (let f = few_texts sz (size_some m0.figures.places m) a.order (a.chain b) (chain_fit b l) (sh.lawful.chain_once b l) in
                let e = sh.laid.end in let h = sh.laid.within in let c = cells_same in omega arith);
            leads = subst (λ (x : ℕ). Leads r ts tb x i.0 (length xs) d) (sym kd) i.1;
            small = (let u = snd.wide in let c = ap (λ (x : Figures). x.largest) fg in omega arith);
          },
          i.2,
        )

    number_small : (t : Text) → ascension a.bins t < 65521
    number_small t = let k = key_below 0 t (omega arith) in let d = div-le_self (key t) a.bins in omega arith

    -- From a head.
    lead_head : (b : ℕ) → b < a.bins → (d' : Descriptor) × Led r ts tb (r.descriptor b) d' × Linked (size m0.figures.places m) a.bins order' 0 (chain' b) d'
    lead_head b l = lead b 0 (a.chain b) (chain' b) (r.descriptor b) l (λ t rest n. n) (omega arith) (omega arith) (sifted b l) (rw (head_now b l) (sh.threaded.heads b l))

    -- From a link.
    lead_link : (b : ℕ) (t : Text) (rest ks : List Text) (p : ℕ) → b < a.bins → Next (a.chain b) t rest → Keeps P rest ks → At m a m0 (string t) p →
        (d' : Descriptor) × Led r ts tb (r.descriptor (link_cell p)) d' × Linked (size m0.figures.places m) a.bins order' (ascension a.bins t) ks d'
    lead_link b t rest ks p l n w y =
        lead b (ascension a.bins t) rest ks (r.descriptor (link_cell p)) l (λ u more k. next_twice (a.chain b) t rest u more n k) (next_shorter (a.chain b) t rest n) (number_small t) w
        (rw (link_now t p y) (sh.threaded.links b t rest p l n y))

    -- Every marked string's link leads somewhere.
    lead_any : (q : ℕ) → MarkedString r ts q → (d' : Descriptor) × Led r ts tb (r.descriptor (link_cell q)) d'
    lead_any q k = by (place_lies sz a.bins a.order q k.0)
      where
        by : ((x : Thing) × At m a m0 x q) → (d' : Descriptor) × Led r ts tb (r.descriptor (link_cell q)) d'
        by (block i, l) = absurd (k.2 (ap (λ (d : Descriptor). bit_and d.flags 4) (titles q k.0) ∙ four q k.0 ∙ ap (λ (d : Descriptor). bit_and d.flags 4) (sh.laid.titled (block i) q l)))
        by (string t, l) =
            let lt = mod-lt (key t) sh.lawful.some_bins in
            let n = in_next (a.chain (bin a.bins t)) t (sh.lawful.chained t (lies_in sz l)) in
            let v = keeps_some P n.0 (λ u h. decided u (chain_fit (bin a.bins t) lt u (next_rest _ t n.0 u n.1 h))) in
            let w = lead_link (bin a.bins t) t n.0 v.0 q lt n.1 v.1 l in
            (w.0, w.1)

    link_by : (q : ℕ) → Dec (MarkedString r (titles_of m a m0) q) → Descriptor
    link_by q (yes k) = (lead_any q k).0
    link_by q (no n) = desc (pos 0) 0 0

    pub link : ℕ → Descriptor
    unfolding link_by
    link q = link_by q (dec_string r (titles_of m a m0) q)

    head_by : (b : ℕ) → Dec (b < a.bins) → Descriptor
    head_by b (yes l) = (lead_head b l).0
    head_by b (no n) = desc (pos 0) 0 0

    pub head : ℕ → Descriptor
    unfolding head_by
    head b = head_by b (dec_lt b a.bins)

    pub linkable : Linkable r (titles_of m a m0) tb link
    unfolding link link_by
    linkable q k = by (dec_string r ts q)
      where
        by : (d : Dec (MarkedString r ts q)) → Led r ts tb (r.descriptor (link_cell q)) (link_by q d)
        by (yes j) = (lead_any q j).1
        by (no n) = absurd (n k)

    pub headed : Headed r (titles_of m a m0) tb a.bins head
    unfolding head head_by
    headed b l = by (dec_lt b a.bins)
      where
        by : (d : Dec (b < a.bins)) → Led r ts tb (r.descriptor b) (head_by b d)
        by (yes j) = (lead_head b j).1
        by (no n) = absurd (n l)

    led_one : (d d' d'' : Descriptor) → Led r ts tb d d' → Led r ts tb d d'' → d' ≡ d''
    led_one d d' d'' v w = leads_one r ts tb d.kind d' d'' _ _ d v.leads w.leads

    pub threaded_after : (last : ℕ) (f : Memory) → Renewed m0 o (titles_of m a m0) a.bins link head f →
        Threaded m (record { bins = a.bins; «next» = last; order = order'; chain = chain' }) f
    threaded_after last f rn =
        record {
          heads = rw places_same (λ b l. let w = lead_head b l in rw (rn.heads b l ∙ led_one _ _ _ (headed b l) w.1) w.2);
          links = rw places_same (λ b t rest p l n y.
              (let c = old_place m a m0 snd sh o tiled fit mark_down mark_up (string t) p y in
              let h = lies_place sz _ _ (string t) c.0 c.1 in
              let k : bit_and (o.descriptor c.0).flags 4 ≢ 0 =
              λ z. (let u = sym (ap (λ (d : Descriptor). bit_and d.flags 4) (sh.laid.titled (string t) c.0 c.1)) ∙ sym (four c.0 h) ∙ z in omega arith) in
              let v = keeps_next P _ _ t rest (sifted b l) n in
              let w = lead_link b t v.0 rest c.0 l v.1 v.2 c.1 in
              rw (rn.links c.0 p h c.2 k c.3 ∙ led_one _ _ _ (linkable c.0 (h, rw (titles c.0 h) c.2, rw (titles c.0 h) k)) w.1) w.2));
        }
      where
        places_same : f.figures.places ≡ m0.figures.places
        places_same = ap (λ (x : Figures). x.places) rn.figures
