-- The chain of the strings that are kept, and the way along a chain to them.
use Rattle.std.proofs.Common.{◌≡◌, ℕ, ◌<◌, ◌≤◌, List, [], ◌∷◌, length, get_or, pos, sym, refl, ap, ◌∙◌, subst, inl, inr, mod-lt, arith}
use Rattle.cells.specs.declared.Descriptor.{Descriptor}
use Rattle.cells.specs.Meaning.{Memory}
use Rattle.rules.specs.Keys.{key, bin, ascension}
use Rattle.rules.specs.Lists.{In, Keeps, end, keep, leave}
use Rattle.rules.specs.Model.{Text, Thing, string, Model, Reach, from_string}
use Rattle.rules.specs.Arena as arena
use Rattle.rules.specs.Arena.{Lies, desc, Next, now, Linked, at_end, to_next, Arena, Lawful}
use Rattle.rules.proofs.Lists.{keeps_from, keeps_in, keeps_once}
use Rattle.rules.proofs.Coded.{pos_inj}
use Rattle.heap.specs.Marks.{IsMarked, IsBare}
use Rattle.heap.specs.Threads.{Joins, Leads, to_end, to_kept, past, link_cell}

-- A way leads to one end.
pub leads_one : (o : Memory) (ts ws : List ℕ) (k : ℕ) (d' d'' : Descriptor) (n i : ℕ) (d : Descriptor) → Leads o ts ws k d' n d → Leads o ts ws k d'' i d → d' ≡ d''
leads_one o ts ws k d' d'' n i d (to_end f e) (to_end g x) = e ∙ sym x
leads_one o ts ws k d' d'' n i d (to_end f e) (to_kept q j m l h x) = absurd (let y = j.flag in omega arith)
leads_one o ts ws k d' d'' n i d (to_end f e) (past u q l j m w) = absurd (let y = j.flag in omega arith)
leads_one o ts ws k d' d'' n i d (to_kept q j m l h x) (to_end f e) = absurd (let y = j.flag in omega arith)
leads_one o ts ws k d' d'' n i d (to_kept q j m l h x) (to_kept q' j' m' l' h' x') =
    x ∙ ap (λ (c : ℕ). desc (pos (get_or ws c 0)) 16 k) (pos_inj _ _ (sym j.value ∙ j'.value)) ∙ sym x'
leads_one o ts ws k d' d'' n i d (to_kept q j m l h x) (past u q' l' j' m' w) = absurd (m (rw (pos_inj _ _ (sym j.value ∙ j'.value)) m'))
leads_one o ts ws k d' d'' n i d (past u q' l' j' m' w) (to_end f e) = absurd (let y = j'.flag in omega arith)
leads_one o ts ws k d' d'' n i d (past u q' l' j' m' w) (to_kept q j m l h x) = absurd (m (rw (pos_inj _ _ (sym j.value ∙ j'.value)) m'))
leads_one o ts ws k d' d'' n i d (past u q l j m w) (past u' q' l' j' m' w') =
    leads_one o ts ws k d' d'' u u' (o.descriptor (link_cell q)) w
    (subst (λ (c : ℕ). Leads o ts ws k d'' u' (o.descriptor (link_cell c))) (pos_inj _ _ (sym j'.value ∙ j.value)) w')

-- Texts of a chain and what follows them there.
pub in_next : (xs : List Text) (t : Text) → In t xs → (rest : List Text) × Next xs t rest
in_next [] t h = absurd h
in_next (x ∷ xs) t (inl e) = (xs, subst (λ (u : Text). Next (u ∷ xs) t xs) e now)
in_next (x ∷ xs) t (inr h) = let w = in_next xs t h in (w.0, arena.later w.1)

pub next_rest : (xs : List Text) (t : Text) (rest : List Text) (u : Text) → Next xs t rest → In u rest → In u xs
next_rest xs t rest u now h = inr h
next_rest xs t rest u (arena.later n) h = inr (next_rest _ t rest u n h)

pub next_twice : (xs : List Text) (t : Text) (rest : List Text) (u : Text) (last : List Text) → Next xs t rest → Next rest u last → Next xs u last
next_twice xs t rest u last now h = arena.later h
next_twice xs t rest u last (arena.later n) h = arena.later (next_twice _ t rest u last n h)

pub next_shorter : (xs : List Text) (t : Text) (rest : List Text) → Next xs t rest → length rest ≤ length xs
next_shorter xs t rest now = omega arith
next_shorter xs t rest (arena.later n) = let w = next_shorter _ t rest n in omega arith

pub keeps_next : (P : Text → Type 0) (xs ks : List Text) (t : Text) (rest : List Text) → Keeps P xs ks → Next ks t rest → (all : List Text) × Next xs t all × Keeps P all rest
keeps_next P xs ks t rest end n = elim n [ ]
keeps_next P xs ks t rest (leave h w) n = let i = keeps_next P _ _ t rest w n in (i.0, arena.later i.1, i.2)
keeps_next P xs ks t rest (keep {xs = ys} h w) now = (ys, now, w)
keeps_next P xs ks t rest (keep h w) (arena.later n) = let i = keeps_next P _ _ t rest w n in (i.0, arena.later i.1, i.2)

-- Numbers that rise from one to the next rise from one to each later one.
rises : (f : Text → ℕ) (t : Text) (rest : List Text) (u : Text) → ((x y : Text) (r : List Text) → Next (t ∷ rest) x (y ∷ r) → f x ≤ f y) → In u rest → f t ≤ f u
rises f t [] u ri h = absurd h
rises f t (y ∷ ys) u ri (inl e) = rw e (ri t y ys now)
rises f t (y ∷ ys) u ri (inr h) = let i = ri t y ys now in let j = rises f y ys u (λ a b r n. ri a b r (arena.later n)) h in omega arith

pub rises_all : (f : Text → ℕ) (xs : List Text) (t : Text) (rest : List Text) (u : Text) → ((x y : Text) (r : List Text) → Next xs x (y ∷ r) → f x ≤ f y) → Next xs t rest → In u rest → f t ≤ f u
rises_all f xs t rest u ri now h = rises f t rest u ri h
rises_all f (x ∷ xs) t rest u ri (arena.later n) h = rises_all f xs t rest u (λ a b r m. ri a b r (arena.later m)) n h

-- What is kept of a lawful arena is a lawful arena.
module _ (m : Model) (a : Arena) (w : Lawful m a) (order' : List Thing) (chain' : ℕ → List Text) (order : Keeps (Reach m) a.order order')
    (chains : (b : ℕ) → b < a.bins → Keeps (λ (x : Text). Reach m (string x)) (a.chain b) (chain' b)) where
  abbrev P : Text → Type 0
  P = λ x. Reach m (string x)

  pub lawful_kept : (last : ℕ) → Lawful m (record { bins = a.bins; «next» = last; order = order'; chain = chain' })
  lawful_kept last =
      record {
        some_bins = w.some_bins;
        few_bins = w.few_bins;
        good = w.good;
        once = keeps_once (Reach m) order w.once;
        sized = λ x h. w.sized x (keeps_from (Reach m) order x h).0;
        valued = λ t k k1 k2 nn. keeps_in (Reach m) order (string t) (w.valued t k k1 k2 nn) (from_string k k1 k2 nn);
        chained = λ t h. (let i = keeps_from (Reach m) order (string t) h in keeps_in P (chains (bin a.bins t) (mod-lt (key t) w.some_bins)) t (w.chained t i.0) i.1);
        in_chain = λ b t l h. (let i = keeps_from P (chains b l) t h in let j = w.in_chain b t l i.0 in
            (keeps_in (Reach m) order (string t) j.0 i.1, j.1));
        chain_once = λ b l. keeps_once P (chains b l) (w.chain_once b l);
        rising = λ b t u rest l n. (let i = keeps_next P _ _ t (u ∷ rest) (chains b l) n in
            rises_all (ascension a.bins) (a.chain b) t i.0 u (λ x y r k. w.rising b x y r l k) i.1 (keeps_from P i.2 u (inl refl)).0);
      }

-- Along the chain: the way from each pointer, and what it leads to shows the chain of the kept.
module _ (P : Text → Type 0) (s : Thing → ℕ) (from : ℕ) (order order' : List Thing) (r : Memory) (ts tb : List ℕ) (asc : Text → ℕ)
    (titled : (t : Text) (p : ℕ) → Lies s from order (string t) p → In p ts × (link_cell p < r.figures.cells))
    (bare : (t : Text) (p : ℕ) → Lies s from order (string t) p → ¬ (P t) → IsBare r p)
    (goes : (t : Text) (p : ℕ) → Lies s from order (string t) p → P t →
    (IsMarked r p) × (p < length tb) × (get_or tb p 0 ≤ 65535) × Lies s from order' (string t) (get_or tb p 0)) where
  joins : (t : Text) (p n : ℕ) (d : Descriptor) → Lies s from order (string t) p → d ≡ desc (pos p) 16 n → Joins r ts d p
  joins t p n d l e =
      record { flag = ap (λ (x : Descriptor). x.flags) e; value = ap (λ (x : Descriptor). x.value) e; title = (titled t p l).0; within = (titled t p l).1 }

  pub down : (k n : ℕ) (xs ks : List Text) (d : Descriptor) → Keeps P xs ks → Linked s from order n xs d →
      ((t : Text) (rest : List Text) (p : ℕ) → Next xs t rest → Lies s from order (string t) p → Linked s from order (asc t) rest (r.descriptor (link_cell p))) →
      (d' : Descriptor) × Leads r ts tb k d' (length xs) d × Linked s from order' k ks d'
  down k n xs ks d end (at_end e) lk = (desc (pos 0) 0 k, to_end (ap (λ (x : Descriptor). x.flags) e) refl, at_end refl)
  down k n xs ks d (leave {x = t} {xs = ys} {ys = js} z w) (to_next q lq e) lk =
      let i = down k (asc t) ys js (r.descriptor (link_cell q)) w (lk t ys q now lq) (λ u rest c nx lc. lk u rest c (arena.later nx) lc) in
      (i.0, past (length ys) q (omega arith) (joins t q n d lq e) (bare t q lq z) i.1, i.2)
  down k n xs ks d (keep {x = t} z w) (to_next q lq e) lk =
      let g = goes t q lq z in
      (desc (pos (get_or tb q 0)) 16 k, to_kept q (joins t q n d lq e) g.0 g.1 g.2 refl, to_next (get_or tb q 0) g.3 refl)
