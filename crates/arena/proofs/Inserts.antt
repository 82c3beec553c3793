-- An arena with one more string shows the same model.
use Rattle.std.proofs.Common.{◌≡◌, ℕ, ◌+◌, ◌-◌, ◌*◌, ◌<◌, ◌≤◌, eqb, ◌≢◌, ◌⊎◌, List, [], ◌∷◌, ◌++◌, length, get_or, sym, refl, ap, ◌∙◌, subst, inl, ⊎_elim, mod-lt, div-lt_iff_lt-mul, arith}
use Rattle.std.proofs.lemmas.Bool.{cond-true, cond-false, cond_both, lt-ltb, le-ltb, eqb-true, eqb-false}
use Rattle.cells.specs.declared.Descriptor.{Descriptor}
use Rattle.cells.specs.Meaning.{Memory, Figures, Sound}
use Rattle.rules.specs.Lists.{In, Once}
use Rattle.rules.specs.Keys.{key, bin, ascension}
use Rattle.rules.specs.Model.{Text, Thing, string, null, Model, fields, size, string_fields, string_cells}
use Rattle.rules.specs.Arena.{null_desc, as_null, Next, Arena, Lawful, Laid, Threaded, Spelled, Shows, At, Links}
use Rattle.rules.proofs.Lists.{in_left}
use Rattle.rules.proofs.Lies.{lies_in, lies_from, lies_apart}
use Rattle.rules.proofs.Coded.{fields_size}
use Rattle.rules.proofs.Tests.{dec_value}
use Rattle.arena.specs.Growth.{insert, arena_with_text, Grown}
use Rattle.arena.specs.Enters.{code_at, Entered, Open, Fresh}
use native.Mathlib.Decide.{ℕ_discrete}
use Rattle.arena.proofs.Kept.{spelled_still, padded_still}
use Rattle.arena.proofs.Things.{string_same, last_cell, next_in}
use Rattle.arena.proofs.Appends.{in_last, in_new, once_last}
use Rattle.arena.proofs.Growths as growths
use Rattle.arena.proofs.Spots.{Spot, spot_where, the_spot, opens}
use Rattle.arena.proofs.Chains.{spot_old, spot_new, spot_in, spot_once, spot_rising}
use Rattle.arena.proofs.Threads.{who, spot_linked, spot_links}

code_in : (t : List ℕ) (low j : ℕ) → j < length t → code_at t low j ≡ get_or t j 0
code_in t low j l = cond-true _ _ _ (lt-ltb j (length t) l)

code_out : (t : List ℕ) (low j : ℕ) → length t ≤ j → code_at t low j ≡ low
code_out t low j l = cond-false _ _ _ (le-ltb j (length t) l)

module _ (m : Model) (a : Arena) (o : Memory) (snd : Sound o) (sh : Shows m a o) (t : Text) (away : In (string t) a.order → ⊥) (l1 : 1 ≤ length t) (l2 : length t ≤ 1024)
    (room : a.«next» + string_cells o.figures.places (length t) ≤ o.figures.cells) (r : Memory)
    (en : Entered o a.«next» t (ascension a.bins t) (the_spot m a o snd sh t).0 r) where
  abbrev b : ℕ
  b = bin a.bins t

  b_low : bin a.bins t < a.bins
  b_low = mod-lt (key t) sh.lawful.some_bins

  abbrev c : ℕ
  c = (the_spot m a o snd sh t).0

  abbrev zs : List Text
  zs = insert (ascension a.bins) t (a.chain (bin a.bins t))

  sp : Spot m a o t (the_spot m a o snd sh t).0 (bin a.bins t) (a.chain (bin a.bins t)) (insert (ascension a.bins) t (a.chain (bin a.bins t)))
  sp = (the_spot m a o snd sh t).1

  abbrev a' : Arena
  a' = arena_with_text o.figures.places a t

  old_at : (x : Thing) (q : ℕ) → At m a o x q → At m (arena_with_text o.figures.places a t) r x q
  old_at = growths.old_at m m a o r (string t) (string_cells o.figures.places (length t)) a'.chain sh en.figures (λ x h. refl)

  new_at : At m (arena_with_text o.figures.places a t) r (string t) a.«next»
  new_at = growths.new_at m m a o r (string t) (string_cells o.figures.places (length t)) a'.chain sh en.figures (λ x h. refl)

  either_at : (x : Thing) (q : ℕ) → At m (arena_with_text o.figures.places a t) r x q → At m a o x q ⊎ ((x ≡ string t) × (q ≡ a.«next»))
  either_at = growths.either_at m m a o r (string t) (string_cells o.figures.places (length t)) a'.chain sh en.figures (λ x h. refl)

  inside : (x : Thing) (q j : ℕ) → At m a o x q → j < size o.figures.places m x → q + j < a.«next»
  inside = growths.inside m m a o r (string t) (string_cells o.figures.places (length t)) a'.chain sh en.figures (λ x h. refl)

  low : (x : Thing) (q : ℕ) → At m a o x q → a.bins ≤ q
  low x q l = lies_from (size o.figures.places m) l

  at_spot : (P : ℕ → Type 0) → P (bin a.bins t) → ((u : Text) (q : ℕ) → In u (a.chain (bin a.bins t)) → At m a o (string u) q → P (q + 1 + string_fields)) → P (the_spot m a o snd sh t).0
  at_spot P hd lk = ⊎_elim (λ e. subst P e hd) (λ i. subst P i.4 (lk i.0 i.1 i.2 i.3)) (spot_where m a o t _ _ _ _ sp)

  -- A cell of a thing that is no link is not the spot.
  not_spot : (x : Thing) (q k : ℕ) → At m a o x q → k < size o.figures.places m x → ((u : Text) → x ≡ string u → k ≢ 3) → q + k ≢ (the_spot m a o snd sh t).0
  not_spot x q k l h n =
      at_spot (λ i. q + k ≢ i) (λ e. let w = low x q l in let y = b_low in omega arith)
      (λ u p hu lp e. ⊎_elim (λ i. n u i.0 (let z = i.1 in omega arith)) (λ i. ⊎_elim (λ z. omega arith) (λ z. omega arith) i) (lies_apart (size o.figures.places m) l lp))

  kept_cell : (x : Thing) (q k : ℕ) → At m a o x q → k < size o.figures.places m x → ((u : Text) → x ≡ string u → k ≢ 3) → r.descriptor (q + k) ≡ o.descriptor (q + k)
  kept_cell x q k l h n = en.descriptors (q + k) (inl (inside x q k l h)) (not_spot x q k l h n)

  field_no_link : (x : Thing) (k : ℕ) → k ≤ fields m x → (u : Text) → x ≡ string u → k ≢ 3
  field_no_link x k h u e z = let y : fields m x ≡ 2 = ap (fields m) e in omega arith

  null_field : (k : ℕ) → 1 ≤ k → k ≤ string_fields → m.field (string t) k ≡ null
  null_field k k1 k2 = elim (dec_value (m.field (string t) k) null) [ yes e ↦ e | no n ↦ absurd (away (sh.lawful.valued t k k1 k2 n)) ]

  null_cell : (k : ℕ) → 1 ≤ k → k ≤ string_fields → r.descriptor (a.«next» + k) ≡ null_desc
  null_cell k k1 k2 = elim (ℕ_discrete k 1) [ yes z ↦ rw z en.value | no z ↦ (let y : k ≡ 2 = omega arith in rw y en.label) ]

  laid_entered : Laid m (arena_with_text o.figures.places a t) r
  laid_entered =
      growths.laid_grown m m a o r (string t) (string_cells o.figures.places (length t)) a'.chain sh en.figures (λ x h. refl) room refl
      (λ x q l. refl) (λ x h. refl) (λ x j h. refl)
      (λ x q j l h. kept_cell x q j l (let z = fields_size o.figures.places m x in omega arith) (field_no_link x j h)) en.title
      (λ j j1 j2. rw (null_field j j1 j2, null_cell j j1 j2) as_null)

  places_same : r.figures.places ≡ o.figures.places
  places_same = ap (λ (x : Figures). x.places) en.figures

  old_char : (u : Text) (q j i : ℕ) → At m a o (string u) q → 4 + j < string_cells o.figures.places (length u) →
      r.character (q + 2 + string_fields + j) i ≡ o.character (q + 2 + string_fields + j) i
  old_char u q j i l h =
      let z : q + (4 + j) ≡ q + 2 + string_fields + j = omega arith in
      subst (λ (y : ℕ). r.character y i ≡ o.character y i) z
      (en.characters (q + (4 + j)) i (inl (inside (string u) q (4 + j) l h)) (not_spot (string u) q (4 + j) l h (λ v e. omega arith)))

  spelled_entered : Spelled m (arena_with_text o.figures.places a t) r
  spelled_entered =
      record {
        spelled = λ u q j l h. rw places_same (⊎_elim
            (λ i. spelled_still m a o snd sh r old_char u q j i h)
            (λ i. let ut = string_same u t i.0 in
            let h' : j < length t = rw ut at h in
            let b = last_cell o.figures.places j (length t) snd.one_place h' in
            rw (i.1, ut) (en.codes j ((div-lt_iff_lt-mul snd.one_place).0 (omega arith)) ∙ code_in t o.figures.lowest j h')) (either_at (string u) q l));
        padded = λ u q j l h. rw (places_same, ap (λ (x : Figures). x.lowest) en.figures) (λ k. ⊎_elim
            (λ i. padded_still m a o snd sh r old_char u q j i h k)
            (λ i. let ut = string_same u t i.0 in
            let h' : length t ≤ j = rw ut at h in
            let k' : j < (string_cells o.figures.places (length t) - (2 + string_fields)) * o.figures.places = rw ut at k in
            rw i.1 (en.codes j k' ∙ code_out t o.figures.lowest j h')) (either_at (string u) q l));
      }

  by_bin : (i : ℕ) (P : List Text → Type 0) → (i ≡ bin a.bins t → P (insert (ascension a.bins) t (a.chain (bin a.bins t)))) →
      ((i ≡ bin a.bins t → ⊥) → P (a.chain i)) → P ((arena_with_text o.figures.places a t).chain i)
  by_bin i P f g = cond_both (eqb i b) zs (a.chain i) P (λ e. f (eqb-true i b e)) (λ e. g (eqb-false i b e))

  not_in : In t (a.chain (bin a.bins t)) → ⊥
  not_in h = away (sh.lawful.in_chain b t b_low h).0

  lawful_entered : Lawful m (arena_with_text o.figures.places a t)
  lawful_entered =
      record {
        some_bins = sh.lawful.some_bins;
        few_bins = sh.lawful.few_bins;
        good = sh.lawful.good;
        once = once_last (string t) a.order sh.lawful.once away;
        sized = λ x h. ⊎_elim (λ i. sh.lawful.sized x i) (λ e. rw e (l1, l2)) (in_new (string t) a.order x h);
        valued = λ u k k1 k2 n. in_left (string u) a.order (string t ∷ []) (sh.lawful.valued u k k1 k2 n);
        chained = λ u h. by_bin (bin a.bins u) (λ z. In u z)
            (λ e. ⊎_elim
            (λ i. spot_old m a o t c b _ _ u sp (subst (λ (x : ℕ). In u (a.chain x)) e (sh.lawful.chained u i)))
            (λ i. subst (λ (x : Text). In x zs) (sym (string_same u t i)) (spot_new m a o t c b _ _ sp)) (in_new (string t) a.order (string u) h))
            (λ n. ⊎_elim (λ i. sh.lawful.chained u i) (λ i. absurd (n (ap (λ (x : Text). bin a.bins x) (string_same u t i)))) (in_new (string t) a.order (string u) h));
        in_chain = λ i u l. by_bin i (λ z. In u z → In (string u) (a.order ++ (string t ∷ [])) × (bin a.bins u ≡ i))
            (λ e h. ⊎_elim
            (λ j. let w = sh.lawful.in_chain b u b_low j in (in_left (string u) a.order (string t ∷ []) w.0, w.1 ∙ sym e))
            (λ j. (subst (λ (x : Text). In (string x) (a.order ++ (string t ∷ []))) (sym j) (in_last (string t) a.order), ap (λ (x : Text). bin a.bins x) j ∙ sym e))
            (spot_in m a o t c b _ _ u sp h))
            (λ n h. let w = sh.lawful.in_chain i u l h in (in_left (string u) a.order (string t ∷ []) w.0, w.1));
        chain_once = λ i l. by_bin i (λ z. Once z) (λ e. spot_once m a o t c b _ _ sp not_in (sh.lawful.chain_once b b_low)) (λ n. sh.lawful.chain_once i l);
        rising = λ i x y rest l. by_bin i (λ z. Next z x (y ∷ rest) → ascension a.bins x ≤ ascension a.bins y)
            (λ e n. spot_rising m a o t c b _ _ sp (λ u v k j. sh.lawful.rising b u v k b_low j) x y rest n) (λ e n. sh.lawful.rising i x y rest l n);
      }

  kept_link : (u : Text) (q : ℕ) → At m a o (string u) q → q + 1 + string_fields ≢ (the_spot m a o snd sh t).0 → r.descriptor (q + 1 + string_fields) ≡ o.descriptor (q + 1 + string_fields)
  kept_link u q l n = en.descriptors (q + 1 + string_fields) (inl (let w = inside (string u) q 3 l (omega arith) in omega arith)) n

  old_place : (u : Text) (q : ℕ) → At m (arena_with_text o.figures.places a t) r (string u) q → In (string u) a.order → At m a o (string u) q
  old_place u q l h = ⊎_elim (λ i. i) (λ i. absurd (away (subst (λ (x : Thing). In x a.order) i.0 h))) (either_at (string u) q l)

  new_place : (u : Text) (q : ℕ) → At m (arena_with_text o.figures.places a t) r (string u) q → u ≡ t → q ≡ a.«next»
  new_place u q l e =
      ⊎_elim (λ i. absurd (away (subst (λ (x : Text). In (string x) a.order) e (lies_in (size o.figures.places m) i)))) (λ i. i.1) (either_at (string u) q l)

  far : (u : Text) (q : ℕ) → In u (a.chain (bin a.bins t)) → At m a o (string u) q → bin a.bins t ≢ q + 1 + string_fields
  far u q h l e = let w = low (string u) q l in let y = b_low in omega arith

  threaded_entered : Threaded m (arena_with_text o.figures.places a t) r
  threaded_entered =
      record {
        heads = λ i l. by_bin i (λ z. Links m a' r 0 z (r.descriptor i)) (λ e. rw e head_here) (λ n. head_there i l n);
        links = λ i u rest q l n y. by_bin i (λ z. Next z u rest → Links m a' r (ascension a.bins u) rest (r.descriptor (q + 1 + string_fields)))
            (λ e x. link_here u rest q x y) (λ e x. link_there i u rest q l e x y) n;
      }
    where
      head_kept : (i : ℕ) → i < a.bins → i ≢ (the_spot m a o snd sh t).0 → r.descriptor i ≡ o.descriptor i
      head_kept i l n = en.descriptors i (inl (let e = sh.laid.end in omega arith)) n

      still : (n : ℕ) (ts : List Text) (d : Descriptor) → Links m a o n ts d → Links m (arena_with_text o.figures.places a t) r n ts d
      still = growths.links_still m m a o r (string t) (string_cells o.figures.places (length t)) a'.chain sh en.figures (λ x h. refl)

      head_here : Links m (arena_with_text o.figures.places a t) r 0 (insert (ascension a.bins) t (a.chain (bin a.bins t))) (r.descriptor (bin a.bins t))
      head_here = spot_linked m a a' o r t c sh old_at new_at en.behind en.link kept_link b 0 _ zs sp (sh.threaded.heads b b_low) (head_kept b b_low) far

      head_there : (i : ℕ) → i < a.bins → (i ≡ bin a.bins t → ⊥) → Links m (arena_with_text o.figures.places a t) r 0 (a.chain i) (r.descriptor i)
      head_there i l n =
          let ne : i ≢ (the_spot m a o snd sh t).0 = at_spot (λ k. i ≢ k) n (λ u q h lq e. let w = low (string u) q lq in omega arith) in
          rw (head_kept i l ne) (still _ _ _ (sh.threaded.heads i l))

      link_here : (u : Text) (rest : List Text) (q : ℕ) → Next (insert (ascension a.bins) t (a.chain (bin a.bins t))) u rest → At m (arena_with_text o.figures.places a t) r (string u) q →
          Links m (arena_with_text o.figures.places a t) r (ascension a.bins u) rest (r.descriptor (q + 1 + string_fields))
      link_here u rest q n y =
          spot_links m a a' o r t c sh old_at new_at en.behind en.link kept_link b 0 _ zs sp
          (sh.threaded.heads b b_low) (sh.lawful.chain_once b b_low) far (λ v k p i lv. sh.threaded.links b v k p b_low i lv) u rest q n
          (λ h. old_place u q y (sh.lawful.in_chain b u b_low h).0) (new_place u q y)

      link_there : (i : ℕ) (u : Text) (rest : List Text) (q : ℕ) → i < a.bins → (i ≡ bin a.bins t → ⊥) → Next (a.chain i) u rest → At m (arena_with_text o.figures.places a t) r (string u) q →
          Links m (arena_with_text o.figures.places a t) r (ascension a.bins u) rest (r.descriptor (q + 1 + string_fields))
      link_there i u rest q l n nx y =
          let w = sh.lawful.in_chain i u l (next_in _ u rest nx) in
          let ly = old_place u q y w.0 in
          let ne : q + 1 + string_fields ≢ (the_spot m a o snd sh t).0 = at_spot (λ k. q + 1 + string_fields ≢ k) (λ e. let v = low (string u) q ly in let z = b_low in omega arith)
          (λ v p h lp e. n (sym w.1 ∙ ap (λ (x : Text). bin a.bins x) (who m a o u v q p (omega arith) ly lp) ∙ (sh.lawful.in_chain b v b_low h).1)) in
          rw (kept_link u q ly ne) (still _ _ _ (sh.threaded.links i u rest q l nx ly))

  pub grown_by_text : Grown m a o (string t) m (arena_with_text o.figures.places a t) r
  grown_by_text =
      record {
        figures = en.figures;
        shows = record { lawful = lawful_entered; laid = laid_entered; threaded = threaded_entered; spelled = spelled_entered };
        here = new_at;
        codes = growths.codes_still m m a o r (string t) (string_cells o.figures.places (length t)) a'.chain sh en.figures (λ x h. refl);
      }

-- At the numbers that the code has.
module _ (m : Model) (a : Arena) (t : Text) (bins end : ℕ) (o : Memory) (snd : Sound o) (fr : Fresh m a t bins end o) where
  fresh_bins : 1 ≤ bins
  fresh_bins = rw fr.bins_is fr.shows.lawful.some_bins

  fresh_spot : ℕ
  fresh_spot = (the_spot m a o snd fr.shows t).0

  fresh_open : Open o end (bin bins t) (ascension bins t) fresh_spot t
  unfolding fresh_spot
  fresh_open =
      subst (λ (x : ℕ). Open o x (bin bins t) (ascension bins t) fresh_spot t) (sym fr.end_is)
      (subst (λ (x : ℕ). Open o a.«next» (bin x t) (ascension x t) fresh_spot t) (sym fr.bins_is)
      (opens m a o snd fr.shows t fr.some fr.few fr.room fr.codes))

  fresh_grown : (r : Memory) → Entered o end t (ascension bins t) fresh_spot r → Grown m a o (string t) m (arena_with_text o.figures.places a t) r
  unfolding fresh_spot
  fresh_grown r en =
      grown_by_text m a o snd fr.shows t fr.away fr.some fr.few fr.room r
      (subst (λ (x : ℕ). Entered o x t (ascension a.bins t) fresh_spot r) fr.end_is
      (subst (λ (x : ℕ). Entered o end t (ascension x t) fresh_spot r) fr.bins_is en))

  -- What entering such a text comes to.
  pub grown_by : {A : Type 0} (r : Memory) → ((c : ℕ) → 1 ≤ bins → Open o end (bin bins t) (ascension bins t) c t → A × Entered o end t (ascension bins t) c r) →
      A × Grown m a o (string t) m (arena_with_text o.figures.places a t) r
  grown_by r h = let e = h fresh_spot fresh_bins fresh_open in (e.0, fresh_grown r e.1)
